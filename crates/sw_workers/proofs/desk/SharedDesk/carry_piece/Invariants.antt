use Rattle.std.specs.Prelude.{Some}
use Rattle.sw_core.specs.Seen.{work_seen}
use Rattle.sw_workers.proofs.CarriesLemmas.{CarriesOn}
use Rattle.sw_workers.proofs.desk.SharedDesk.carry_piece.Given as goal

abbrev pub invariant-loop : goal.invariant-loop
invariant-loop g l = CarriesOn g.H.Recording.first (work_seen (Some l.fn.piece)) (work_seen l.left) l.fn.self.part l.self.part
