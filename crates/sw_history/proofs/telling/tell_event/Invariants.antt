use Rattle.sw_history.specs.Said.{said_in}
use Rattle.sw_history.proofs.telling.tell_event.Given as goal

abbrev pub ghosts-publish_said : goal.ghosts-publish_said
ghosts-publish_said g a = record { said = said_in g.E.EventKind.asked g.E.EventKind.answered a.event.now }
