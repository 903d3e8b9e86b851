use Rattle.sw_lex.proofs.OnceLemmas.{one_unit, one_refusal, unit_refused, blank_unit, blank_refused}
use Rattle.sw_lex.proofs.WrittenLemmas.{one_written}
use Rattle.sw_lex.proofs.unit.one_reading.Goals as goal

pub returns-clause-units : goal.returns-clause-units
returns-clause-units c = one_unit

pub returns-clause-written : goal.returns-clause-written
returns-clause-written c = one_written

pub returns-clause-refusals : goal.returns-clause-refusals
returns-clause-refusals c = one_refusal

pub returns-clause-apart : goal.returns-clause-apart
returns-clause-apart c = unit_refused

pub returns-clause-no_unit : goal.returns-clause-no_unit
returns-clause-no_unit c = blank_unit

pub returns-clause-no_refusal : goal.returns-clause-no_refusal
returns-clause-no_refusal c = blank_refused
