use Rattle.sw_hislip.proofs.Streams.{stream_is_one}
use Rattle.sw_hislip.proofs.laws.one_stream.Goals as goal

pub returns : goal.returns
returns c = stream_is_one
