use Rattle.std.proofs.Common.{sym}
use Rattle.sw_session.proofs.ServeWaysLemmas.{gives-heard, gives-is}
use Rattle.sw_session.proofs.turns.next_message.Goals as goal

pub returns : goal.returns
returns c = gives-is _ _ _ _ (sym c.transpose.ensures) (gives-heard _ _ c.next_in.result c.next_in.ensures.given)
