use Rattle.std.proofs.Common.{length, take}
use Rattle.sw_lex.specs.Unit.{data_of, ReachesElement}
use Rattle.sw_lex.proofs.unit.read_data.Given as goal

abbrev pub invariant-data : goal.invariant-data
invariant-data l = ReachesElement l.text (data_of (take l.found.count l.found.found)) l.rest

abbrev pub decreases-data : goal.decreases-data
decreases-data l = length l.rest
