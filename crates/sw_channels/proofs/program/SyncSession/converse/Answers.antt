use Rattle.std.proofs.Common.{◌≡◌, List, ℕ, [], ◌∷◌, refl, subst, sym}
use Rattle.sw_macro.specs.Table.{Table}
use Rattle.sw_core.specs.declared.ask.SessionAsk.TheVariants as Ask
use Rattle.sw_channels.specs.EngineStep.{LedBy}
use Rattle.sw_channels.specs.EngineSync.{SyncStanding, Converses, SaysMore}
use Rattle.sw_talk.specs.Talk.{Talked, state}
use Rattle.sw_talk.specs.Trace.{Asked}
use Rattle.sw_channels.proofs.SyncTalksLemmas.{converses, says-none, says-some}
use Rattle.sw_channels.proofs.program.SyncSession.converse.Goals as goal

pub returns-then-is_silent-clause-talks : goal.returns-then-is_silent-clause-talks
returns-then-is_silent-clause-talks g c =
    let own = c.self.inside.talker in
    let bytes = c.talk_over-bytes.result.0.items in
    let lasts = c.talk_over-bytes.result.1 in
    let mid = c.talk_over-bytes.new.desk in
    let silent = c.is_silent.ensures.silent c.if-is_silent.true in
    subst (λ (t : SyncStanding).
    LedBy g.D.Desk.passes c.args.desk.now mid (λ asked.
    SaysMore c.args.said.items c.told.result (λ said. Converses t c.args.id c.args.text asked said c.reuse.new.self.macros))) c.self.view_is
    (converses g.D.Desk.passes _ _ _ c.self.inside.sid own.sid own.macros c.reuse.new.self.macros
    c.self.inside.attached c.self.inside.partial c.args.said.items c.args.id c.args.text bytes lasts [] c.told.result
    c.self.invariant
    (subst (λ (m : Table). (t : Talked g.D.Desk.passes own.sid (state c.args.desk.now own.macros) c.args.text bytes (state mid m)) × (t.lasts ≡ lasts))
    (sym c.reuse.ensures.macros)
    (subst (λ (x : List ℕ). (t : Talked g.D.Desk.passes own.sid (state c.args.desk.now own.macros) x bytes (state mid c.talk_over-bytes.new.self.macros))
    × (t.lasts ≡ lasts)) c.as_slice.ensures c.talk_over-bytes.ensures.talked))
    refl (says-none c.self.inside.sid c.args.said.items c.args.id bytes lasts c.told.result silent.1 silent.0 c.told.ensures))

pub returns-clause-talks : goal.returns-clause-talks
returns-clause-talks g c =
    let own = c.self.inside.talker in
    let bytes = c.talk_over-bytes.result.0.items in
    let lasts = c.talk_over-bytes.result.1 in
    let mid = c.talk_over-bytes.new.desk in
    subst (λ (t : SyncStanding).
    LedBy g.D.Desk.passes c.args.desk.now c.ask_into.new.self (λ asked.
    SaysMore c.args.said.items c.respond.result (λ said. Converses t c.args.id c.args.text asked said c.reuse.new.self.macros))) c.self.view_is
    (converses g.D.Desk.passes _ _ _ c.self.inside.sid own.sid own.macros c.reuse.new.self.macros
    c.self.inside.attached c.self.inside.partial c.args.said.items c.args.id c.args.text bytes lasts
    (Asked (Ask.MaxSize c.self.inside.sid) c.ask_into.new.answer ∷ []) c.respond.result
    c.self.invariant
    (subst (λ (m : Table). (t : Talked g.D.Desk.passes own.sid (state c.args.desk.now own.macros) c.args.text bytes (state mid m)) × (t.lasts ≡ lasts))
    (sym c.reuse.ensures.macros)
    (subst (λ (x : List ℕ). (t : Talked g.D.Desk.passes own.sid (state c.args.desk.now own.macros) x bytes (state mid c.talk_over-bytes.new.self.macros))
    × (t.lasts ≡ lasts)) c.as_slice.ensures c.talk_over-bytes.ensures.talked))
    (_, c.ask_into.ensures.passes, refl)
    (says-some c.self.inside.sid c.args.said.items c.args.id bytes lasts c.ask_into.new.answer c.respond.result (c.is_silent.ensures.answers c.if-is_silent.false) c.respond.ensures))
