use Rattle.std.proofs.Common.{false}
use Rattle.std.proofs.lemmas.List.{take-replicate}
use Rattle.sw_kinds.proofs.flags.no_flags.Goals as goal

pub returns-clause-front : goal.returns-clause-front
returns-clause-front g c = λ n h. take-replicate n _ false h
