use Rattle.sw_status.specs.Registers.{latches, latched, low_15}
use Rattle.sw_status.proofs.Bits.{has-register}
use Rattle.sw_status.proofs.laws.transition_filters_decide.Goals as goal

pub returns : goal.returns
unfolding latched
returns c = λ g bits k h. has-register 15 (latches g.event g.ptr g.ntr g.condition (low_15 bits)) k h
