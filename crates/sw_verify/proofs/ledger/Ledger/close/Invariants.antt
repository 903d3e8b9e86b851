use Rattle.std.proofs.Common.{drop}
use Rattle.sw_verify.specs.Channels.{Channels}
use Rattle.sw_verify.specs.Ledger.{Shows}
use Rattle.sw_verify.proofs.Each.{Closing}
use Rattle.sw_verify.proofs.ledger.Ledger.close.Given as goal

abbrev pub invariant-loop-c : goal.invariant-loop-c
invariant-loop-c l = (start b m : Channels) → Shows l.layout start b m l.fn.self → Closing l.layout start b m l.position (drop l.c-index l.position) l.self
