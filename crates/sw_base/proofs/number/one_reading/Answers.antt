use Rattle.sw_base.proofs.Numerals.{one_number, one_refusal, not_both}
use Rattle.sw_base.proofs.number.one_reading.Goals as goal

pub returns-clause-number : goal.returns-clause-number
returns-clause-number c text n m rest other h g = one_number text n rest m other h g

pub returns-clause-refusal : goal.returns-clause-refusal
returns-clause-refusal c = one_refusal

pub returns-clause-either : goal.returns-clause-either
returns-clause-either c = not_both
