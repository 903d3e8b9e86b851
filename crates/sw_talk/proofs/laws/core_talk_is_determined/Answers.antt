use Rattle.sw_talk.proofs.CoreTalkLemmas.{core-talk-determined}
use Rattle.sw_talk.proofs.laws.core_talk_is_determined.Goals as goal

pub returns : goal.returns
returns c = core-talk-determined c.step_is_determined.ensures c.talk_is_determined.ensures
