use Rattle.sw_workers.proofs.ServingLemmas.{is_served}
use Rattle.sw_workers.proofs.session.run_session.Goals as goal

pub returns : goal.returns
returns g c =
    rw (← c.into_parts-reader.ensures.input, ← c.into_parts-reader.ensures.pauses, ← c.into_parts-reader.ensures.output)
    (is_served _ _ g.H.Admission.turned_away _ _ _ _ _ c.serve_parts-ended.ensures.served c.serve_parts-ended.ensures.serves)
