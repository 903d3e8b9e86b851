use Rattle.std.proofs.Common.{◌≤◌, ◌-◌, length, take, drop}
use Rattle.sw_lex.proofs.HeadedLemmas.{PathCounted}
use Rattle.sw_lex.proofs.unit.path_end.Given as goal

abbrev pub invariant-nodes : goal.invariant-nodes
invariant-nodes l = record { fits : l.n ≤ length l.text; so : PathCounted l.text l.n (drop l.n l.text) (take l.words.count l.words.kept) }

abbrev pub decreases-nodes : goal.decreases-nodes
decreases-nodes l = length l.text - l.n
