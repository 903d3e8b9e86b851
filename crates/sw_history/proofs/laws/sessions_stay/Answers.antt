use Rattle.sw_history.proofs.JoinedLemmas.{sessions-stay}
use Rattle.sw_history.proofs.laws.sessions_stay.Goals as goal

pub returns : goal.returns
returns c = sessions-stay
