use Rattle.std.proofs.Common.{take}
use Rattle.sw_card.specs.Mask.{IsMaskOf}
use Rattle.sw_card.proofs.relay.RelayCard.closed_mask.Given as goal

abbrev pub invariant-loop-before : goal.invariant-loop-before
invariant-loop-before g l = IsMaskOf l.mask (take l.before l.self.1.closed)
