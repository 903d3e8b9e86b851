use Rattle.std.proofs.Common.{ap, subst, ◌∙◌}
use Rattle.sw_hislip.specs.declared.kind.Kind.TheVariants.{AsyncStatusResponse}
use Rattle.sw_channels.specs.EngineMessages.{plain}
use Rattle.sw_channels.specs.EngineStep.{LedBy}
use Rattle.sw_channels.specs.EngineAsync.{AsyncStanding, TellsStatus, replies}
use Rattle.sw_channels.proofs.AsyncRowsLemmas.{status-told}
use Rattle.sw_channels.proofs.asynchronous.AsyncSession.tell_status.Goals as goal

pub returns : goal.returns
returns g c =
    let s : AsyncStanding = record { sid = c.self.inside.sid; told = c.self.inside.told; polled = c.self.inside.polled } in
    let s' : AsyncStanding = record { sid = c.self.inside.sid; told = c.self.inside.told; polled = c.max-self-inside.result } in
    subst (λ (t : AsyncStanding). LedBy g.D.Desk.passes c.args.desk.now c.poll-view.new.self (λ asked.
    TellsStatus t c.args.control asked (replies c.plain.result) s')) c.self.view_is
    (status-told g.D.Desk.passes _ _ _ s s' c.args.control c.poll-view.result _ c.note_delivery.ensures c.poll-view.ensures
    (ap replies (c.plain.ensures ∙ ap (λ b. plain AsyncStatusResponse b 0) c.status_byte-byte.ensures))
    (ap (λ n. record s { polled = n }) c.max-self-inside.ensures))
