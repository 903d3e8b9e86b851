use Rattle.std.proofs.Common.{take}
use Rattle.std.specs.List.{All}
use Rattle.sw_verify.specs.Channels.{is_among, none}
use Rattle.sw_verify.specs.Sound.{CanCloseEach}
use Rattle.sw_verify.specs.Ledger.{Shows}
use Rattle.sw_verify.proofs.ready.first_blocked.Given as goal

abbrev pub invariant-loop-p : goal.invariant-loop-p
invariant-loop-p l = record {
  shows : Shows l.layout (is_among l.closed) (is_among l.closed) none l.ledger;
  can : All (CanCloseEach l.layout (is_among l.closed)) (take l.p-index l.positions);
}
