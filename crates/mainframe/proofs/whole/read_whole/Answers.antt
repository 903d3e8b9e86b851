use Rattle.mainframe.proofs.KeptLemmas.{at-err}
use Rattle.mainframe.proofs.PiecesLemmas.{lost-more}
use Rattle.mainframe.proofs.whole.read_whole.Goals as goal

pub returns-in_err-take_piece-clause-part : goal.returns-in_err-take_piece-clause-part
returns-in_err-take_piece-clause-part g c = at-err _ (lost-more _ _ _ _ _ _ c.loop-turn.invariant c.take_piece.ensures.takes)
