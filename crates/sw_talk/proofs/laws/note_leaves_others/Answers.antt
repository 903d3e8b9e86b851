use Rattle.sw_talk.proofs.NotingLemmas.{note-leaves-others}
use Rattle.sw_talk.proofs.laws.note_leaves_others.Goals as goal

pub returns : goal.returns
returns c = note-leaves-others
