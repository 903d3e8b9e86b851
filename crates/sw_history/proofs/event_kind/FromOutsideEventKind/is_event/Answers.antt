use Rattle.std.proofs.Common.{None, ap, sym, ◌∙◌}
use Rattle.sw_core.specs.Seen.{answer_seen}
use Rattle.sw_history.specs.Shares.{is_event}
use Rattle.sw_history.proofs.event_kind.FromOutsideEventKind.is_event.Goals as goal

pub returns-in-Session : goal.returns-in-Session
returns-in-Session g c =
    λ left. c.is_event.ensures None ∙ ap (λ a. is_event (answer_seen a)) (sym c.in-Session.is)
