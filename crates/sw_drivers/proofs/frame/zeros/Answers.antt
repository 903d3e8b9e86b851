use Rattle.std.proofs.lemmas.List.{take-replicate}
use Rattle.sw_drivers.proofs.frame.zeros.Goals as goal

pub returns-clause-front : goal.returns-clause-front
returns-clause-front c = λ n h. take-replicate n _ 0 h
