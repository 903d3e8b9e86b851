use Rattle.sw_base.proofs.Printed.{reading_text_same}
use Rattle.sw_base.proofs.reading.one_text.Goals as goal

pub returns : goal.returns
returns c = reading_text_same
