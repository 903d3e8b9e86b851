use Rattle.sw_status.proofs.Byte.{tells_each_bit}
use Rattle.sw_status.proofs.laws.byte_tells_each_bit.Goals as goal

pub returns : goal.returns
returns c = tells_each_bit
