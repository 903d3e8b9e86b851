use Rattle.std.proofs.Common.{sym, ap, ◌∙◌}
use Rattle.std.specs.Str.{bytes_eq}
use Rattle.sw_rack.specs.declared.key.Key.TheVariants as keys
use Rattle.sw_rack.proofs.Names.{named_here, named_later, named_never}
use Rattle.sw_rack.proofs.key.named_among.Goals as goal

pub returns-then-eq : goal.returns-then-eq
returns-then-eq c =
    let same = ap (λ n. bytes_eq n c.args.name.now) (sym c.name.ensures) ∙ sym c.eq.ensures ∙ c.if-eq.true in
    sym (named_here c.args.keys.now c.loop-key.key-index keys.Card c.args.name.now c.loop-key-test.true same) ∙ c.loop-key.invariant

pub loop-key-preserved : goal.loop-key-preserved
loop-key-preserved c =
    let other = ap (λ n. bytes_eq n c.args.name.now) (sym c.name.ensures) ∙ sym c.eq.ensures ∙ c.if-eq.false in
    sym (named_later c.args.keys.now c.loop-key.key-index keys.Card c.args.name.now c.loop-key-test.true other) ∙ c.loop-key.invariant

pub returns : goal.returns
returns c = sym (named_never c.args.keys.now c.loop-key.key-index c.args.name.now c.loop-key-test.false) ∙ c.loop-key.invariant
