use Rattle.std.proofs.Common.{sym, arith}
use Rattle.sw_lex.proofs.PlainLemmas.{whole_in, whole_below, whole_above}
use Rattle.sw_lex.proofs.values.plain_of.Goals.{then-n-least-via-then-n-least, then-n-least-via-else-n-least+then-n-greatest}
use Rattle.sw_lex.proofs.values.plain_of.Goals as goal

pub returns-then-n-least : goal.returns-then-n-least
returns-then-n-least c =
    elim c.then-n-least.branch [
      | then-n-least-via-then-n-least w ↦ sym (whole_below c.args.ask c.args.number c.args.digits.now
          (omega (arith, c.least.ensures, c.value-n.ensures, w.if-n-least.true)))
      | then-n-least-via-else-n-least+then-n-greatest w ↦ sym (whole_above c.args.ask c.args.number c.args.digits.now
          (omega (arith, w.greatest.ensures, c.value-n.ensures, w.if-n-greatest.true)))
    ]

pub returns : goal.returns
returns c =
    rw (c.of_whole.ensures, c.value-n.ensures) (sym (whole_in c.args.ask c.args.number c.args.digits.now
    (omega (arith, c.least.ensures, c.value-n.ensures, c.if-n-least.false)) (omega (arith, c.greatest.ensures, c.value-n.ensures, c.if-n-greatest.false))))
