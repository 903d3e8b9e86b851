use Rattle.sw_hislip.proofs.Runs.{every_one}
use Rattle.sw_hislip.proofs.laws.every_message_comes_out.Goals as goal

pub returns : goal.returns
returns c = every_one
