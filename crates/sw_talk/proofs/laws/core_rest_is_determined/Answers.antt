use Rattle.sw_talk.proofs.CoreTalkLemmas.{core-rest-determined}
use Rattle.sw_talk.proofs.laws.core_rest_is_determined.Goals as goal

pub returns : goal.returns
returns c = core-rest-determined c.step_is_determined.ensures
