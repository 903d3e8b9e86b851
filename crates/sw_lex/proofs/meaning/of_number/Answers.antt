use Rattle.std.proofs.Common.{refl, Ok, Err}
use Rattle.sw_lex.proofs.meaning.of_number.Goals as goal

pub returns-in-Err : goal.returns-in-Err
returns-in-Err c = (Err c.in-Err.e, c.in-Err.ensures, refl)

pub returns-in-Ok : goal.returns-in-Ok
returns-in-Ok c = (Ok (c.in-Ok.n, c.in-Ok.suffix.now), c.in-Ok.ensures, c.switched_by.ensures)
