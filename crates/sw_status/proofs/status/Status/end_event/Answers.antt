use Rattle.std.proofs.Common.{◌≡◌, sym, ap, ◌∙◌}
use Rattle.sw_status.specs.StatusModel.{StatusSeen, asking_of}
use Rattle.sw_status.proofs.Requests.{ended-same}
use Rattle.sw_status.proofs.status.Status.end_event.Goals as goal

pub returns-then-asking-self : goal.returns-then-asking-self
returns-then-asking-self c =
    let same : asking_of c.args.self.now ≡ c.args.self.now.asking =
    sym c.asking_now-asking.ensures ∙ c.if-asking-self.true ∙ ap (λ (s : StatusSeen). s.asking) c.self.view_is in
    sym (ended-same c.args.self.now same)
