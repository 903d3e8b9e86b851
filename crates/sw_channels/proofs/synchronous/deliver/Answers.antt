use Rattle.std.proofs.Common.{◌∙◌, sym}
use Rattle.sw_channels.proofs.SyncRowsLemmas.{delivered-told, delivered-none, delivered-not}
use Rattle.sw_channels.proofs.synchronous.deliver.Goals as goal

pub returns-then-tells_delivery-clause-delivers : goal.returns-then-tells_delivery-clause-delivers
returns-then-tells_delivery-clause-delivers g c =
    λ id. delivered-told g.D.Desk.passes _ _ c.args.sid c.args.control id (sym c.tells_delivery.ensures ∙ c.if-tells_delivery.true) c.note.ensures

pub returns-clause-delivers : goal.returns-clause-delivers
returns-clause-delivers g c = λ id.
    delivered-none g.D.Desk.passes _ _ c.args.sid c.args.control id c.poll-view.result
    (sym c.tells_delivery.ensures ∙ c.if-tells_delivery.false) c.if-view.false c.poll-view.ensures

pub returns-then-view-clause-delivers : goal.returns-then-view-clause-delivers
returns-then-view-clause-delivers g c = λ id.
    delivered-not g.D.Desk.passes _ _ _ c.args.sid c.args.control id c.poll-view.result _
    (sym c.tells_delivery.ensures ∙ c.if-tells_delivery.false) c.if-view.true c.poll-view.ensures (c.interrupt.ensures id)
