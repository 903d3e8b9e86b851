use Rattle.std.proofs.Common.{refl, [], Ok, Err}
use Rattle.sw_lex.specs.Values.{digits_written}
use Rattle.sw_lex.proofs.PlainLemmas.{plain_quantity}
use Rattle.sw_lex.proofs.meaning.of_whole.Goals as goal

pub returns-in-Some : goal.returns-in-Some
returns-in-Some c =
    let d = c.in-Some.ensures in
    (Ok (digits_written c.in-Some.digits.now, []), d.0 _ (plain_quantity c.in-Some.digits.now d.1 d.2 d.3), c.plain_of.ensures)

pub returns-in-Err : goal.returns-in-Err
returns-in-Err c = (Err c.in-Err.e, c.in-Err.ensures, refl)

pub returns-in-Ok : goal.returns-in-Ok
returns-in-Ok c = (Ok (c.in-Ok.n, c.in-Ok.suffix.now), c.in-Ok.ensures, c.whole_of.ensures)
