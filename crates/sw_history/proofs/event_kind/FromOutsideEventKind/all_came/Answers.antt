use Rattle.sw_history.proofs.CameLemmas.{came_kept}
use Rattle.sw_history.proofs.event_kind.FromOutsideEventKind.all_came.Goals as goal

pub returns : goal.returns
returns g c = λ old new ask answer left keeps brings all. came_kept _ old new ask answer keeps brings all
