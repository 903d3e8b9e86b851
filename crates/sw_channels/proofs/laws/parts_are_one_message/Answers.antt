use Rattle.sw_channels.proofs.PartsLemmas.{parts-are-one}
use Rattle.sw_channels.proofs.laws.parts_are_one_message.Goals as goal

pub returns : goal.returns
returns c = parts-are-one
