use Rattle.std.proofs.Common.{ℕ, List, [], true, false, refl, ap, subst, ◌∙◌}
use Rattle.sw_channels.specs.declared.synchronous.Delivery.TheVariants as Delivery
use Rattle.sw_channels.specs.declared.step.Sent.{Sent}
use Rattle.sw_channels.specs.EngineStep.{LedBy, goes, joined}
use Rattle.sw_channels.specs.EngineSync.{SyncStanding, Attended, Delivers, delivery_step}
use Rattle.sw_talk.specs.Trace.{Led}
use Rattle.sw_channels.proofs.SyncTalksLemmas.{processes-gone, processes-on}
use Rattle.sw_channels.proofs.SyncShortLemmas.{processes-short}
use Rattle.sw_channels.proofs.program.SyncSession.process.Goals as goal

pub returns-in-Gone-clause-ok : goal.returns-in-Gone-clause-ok
returns-in-Gone-clause-ok g c =
    let s : SyncStanding =
    record { sid = c.self.inside.sid; macros = c.self.inside.talker.macros; attached = c.self.inside.attached; partial = c.self.inside.partial } in
    subst (λ (t : SyncStanding). LedBy g.D.Desk.passes c.args.desk.now c.deliver.new.desk (λ asked.
    Attended false c.args.request t c.args.message asked c.told.result t)) c.self.view_is
    (processes-gone g.D.Desk.passes _ _ c.args.request s s c.args.message Delivery.Gone c.told.result refl refl c.in-Gone.ensures.delivers
    (c.told.ensures ∙ ap (λ (said : List Sent). joined (goes said) (record { out = []; ends = true })) c.requires.empty))

pub returns-in_default-clause-ok : goal.returns-in_default-clause-ok
returns-in_default-clause-ok g c =
    processes-on g.D.Desk.passes c.args.desk.now c.deliver.new.desk c.serve.new.desk c.args.request c.args.self.now c.serve.new.self c.args.message
    c.deliver.result
    c.interruption-said.result.items c.serve.result c.in_default.not-Gone
    (subst (λ (t : SyncStanding). (id : ℕ)
    → Led g.D.Desk.passes c.args.desk.now c.deliver.new.desk (λ u rest.
    Delivers t.sid c.args.message.control id u (delivery_step id c.deliver.result) rest)) c.self.view_is c.deliver.ensures.delivers)
    c.interruption-said.ensures c.serve.ensures.ok

pub returns-in_default-clause-err : goal.returns-in_default-clause-err
returns-in_default-clause-err g c =
    processes-short g.D.Desk.passes c.args.desk.now c.deliver.new.desk c.serve.new.desk c.args.request c.args.self.now c.args.message c.deliver.result
    c.serve.result c.in_default.not-Gone
    (subst (λ (t : SyncStanding). (id : ℕ)
    → Led g.D.Desk.passes c.args.desk.now c.deliver.new.desk (λ u rest.
    Delivers t.sid c.args.message.control id u (delivery_step id c.deliver.result) rest)) c.self.view_is c.deliver.ensures.delivers)
    c.serve.ensures.err
