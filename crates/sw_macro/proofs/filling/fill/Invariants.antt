use Rattle.std.proofs.Common.{length}
use Rattle.sw_lex.specs.Unit.{unit_of}
use Rattle.sw_macro.proofs.FillingsLemmas.{Draft}
use Rattle.sw_macro.proofs.filling.fill.Given as goal

abbrev pub invariant-parts : goal.invariant-parts
invariant-parts l = Draft l.before (unit_of l.unit).elements l.body l.rest l.text.items l.room

abbrev pub decreases-parts : goal.decreases-parts
decreases-parts l = length l.rest
