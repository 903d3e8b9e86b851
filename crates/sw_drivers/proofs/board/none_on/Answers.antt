use Rattle.std.proofs.Common.{arith, sym, ◌∙◌}
use Rattle.std.proofs.lemmas.List.{take_all}
use Rattle.sw_drivers.proofs.board.none_on.Goals as goal

pub returns-clause-all : goal.returns-clause-all
returns-clause-all c = sym (take_all 256 _ (omega arith)) ∙ c.no_flags.ensures.front 256 (omega arith)
