use Rattle.std.proofs.Common.{List, ℕ, Option, refl, ap, sym, subst, ◌∙◌}
use Rattle.sw_core.specs.declared.ask.Sid.{Sid}
use Rattle.sw_channels.specs.declared.partial_message.PartialMessage.{PartialMessage}
use Rattle.sw_channels.specs.EngineStep.{LedBy}
use Rattle.sw_channels.specs.EngineSync.{SyncStanding, Finishes, SaysMore, whole}
use Rattle.sw_channels.proofs.SyncTalksLemmas.{finishes-none, finishes-some}
use Rattle.sw_channels.proofs.SyncShortLemmas.{short-else}
use Rattle.sw_channels.proofs.program.SyncSession.finish.Goals as goal

pub returns-in-Some-clause-ok : goal.returns-in-Some-clause-ok
returns-in-Some-clause-ok g c =
    let put : PartialMessage → SyncStanding =
    λ f. record { sid = c.self.inside.sid; macros = c.self.inside.talker.macros; attached = c.self.inside.attached; partial = f } in
    let all : PartialMessage → Option (List ℕ) = λ f. whole f c.args.part in
    subst (λ (t : SyncStanding).
    LedBy g.D.Desk.passes c.args.desk.now c.converse.new.desk (λ asked.
    SaysMore c.args.said.items c.converse.result (λ own. Finishes t c.args.id (whole t.partial c.args.part) asked own c.converse.new.self))) c.self.view_is
    (finishes-some g.D.Desk.passes _ _ (put c.self.inside.partial) (put c.replace-partial.new.dest) c.converse.new.self c.args.said.items c.args.id
    c.in-Some.text
    (all c.self.inside.partial) c.converse.result
    (sym (c.in_ok-text.ensures ∙ ap all c.replace-partial.ensures.value) ∙ c.in-Some.is) (ap put c.replace-partial.ensures.after) c.converse.ensures.kept
    c.converse.ensures.talks)

pub returns-in-Some-clause-same : goal.returns-in-Some-clause-same
returns-in-Some-clause-same g c =
    let sid : SyncStanding → Sid = λ t. t.sid in
    ap sid c.converse.ensures.kept ∙ ap sid c.self.view_is

pub returns-in-None-clause-ok : goal.returns-in-None-clause-ok
returns-in-None-clause-ok g c =
    let put : PartialMessage → SyncStanding =
    λ f. record { sid = c.self.inside.sid; macros = c.self.inside.talker.macros; attached = c.self.inside.attached; partial = f } in
    let all : PartialMessage → Option (List ℕ) = λ f. whole f c.args.part in
    subst (λ (t : SyncStanding). LedBy g.D.Desk.passes c.args.desk.now c.args.desk.now (λ asked.
    SaysMore c.args.said.items c.told.result (λ own.
    Finishes t c.args.id (whole t.partial c.args.part) asked own (put c.replace-partial.new.dest)))) c.self.view_is
    (finishes-none g.D.Desk.passes c.args.desk.now (put c.self.inside.partial) (put c.replace-partial.new.dest) c.args.said.items c.args.id
    (all c.self.inside.partial) c.told.result
    (sym (c.in_ok-text.ensures ∙ ap all c.replace-partial.ensures.value) ∙ c.in-None.is) (ap put c.replace-partial.ensures.after) c.told.ensures)

pub returns-in_err-text-clause-err : goal.returns-in_err-text-clause-err
returns-in_err-text-clause-err g c = short-else g.D.Desk.passes c.args.desk.now _ c.from_residual.result refl
