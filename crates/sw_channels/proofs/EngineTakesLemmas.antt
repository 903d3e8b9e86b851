-- One message of either channel.
use Prim.{tt}
use Rattle.std.proofs.Common.{◌≡◌, Bool, true, false, MatchBool, List, [], Option, Some, Result, Ok, Err, IfOk, OnErr, OnOk, is_err, refl, sym, ap, subst, ◌∙◌}
use Rattle.sw_hislip.specs.declared.message.Message.{Message}
use Rattle.sw_core.specs.declared.ask.Sid.{Sid}
use Rattle.sw_channels.specs.declared.engine.State.{State}
use Rattle.sw_channels.specs.declared.engine.State.TheVariants.{Unopened, Synchronized, Attached}
use Rattle.sw_channels.specs.declared.step.Channel.{Channel}
use Rattle.sw_channels.specs.Said.{StepSeen}
use Rattle.sw_channels.specs.Engine.{EngineStanding, TakesMessage, Falters, FaltersAt, session_of}
use Rattle.sw_channels.specs.EngineStep.{LedBy}
use Rattle.sw_channels.specs.EngineSync.{SyncStanding, TakesSync, FaltersSync}
use Rattle.sw_channels.specs.EngineAsync.{AsyncStanding, TakesAsync}
use Rattle.sw_talk.specs.Trace.{Entry}

pub takes-sync : {D : Type 0} (passes : D → Entry → D → Type 0) (old new : D) (state : State) (s t : SyncStanding) (m : Message) {E : Type 0}
    (r : Result StepSeen E)
    → state ≡ Synchronized s → IfOk r (λ step. LedBy passes old new (λ asked. TakesSync s m asked step t))
    → IfOk r (λ step. LedBy passes old new (λ asked. TakesMessage state m asked step (Synchronized t)))
takes-sync passes old new state s t m (Ok step) is h =
    record { asked = h.asked; leads = h.leads; admits = subst (λ (q : State). TakesMessage q m h.asked step (Synchronized t)) (sym is) (t, h.admits, refl) }
takes-sync passes old new state s t m (Err e) is h = tt

pub takes-async : {D : Type 0} (passes : D → Entry → D → Type 0) (old new : D) (state : State) (s t : AsyncStanding) (m : Message) {E : Type 0}
    (r : Result StepSeen E)
    → state ≡ Attached s → IfOk r (λ step. LedBy passes old new (λ asked. TakesAsync s m asked step t))
    → IfOk r (λ step. LedBy passes old new (λ asked. TakesMessage state m asked step (Attached t)))
takes-async passes old new state s t m (Ok step) is h =
    record { asked = h.asked; leads = h.leads; admits = subst (λ (q : State). TakesMessage q m h.asked step (Attached t)) (sym is) (t, h.admits, refl) }
takes-async passes old new state s t m (Err e) is h = tt

-- a message that found no memory
pub falters-unopened : {D : Type 0} (passes : D → Entry → D → Type 0) (old new : D) (state : State) (channel : Channel) (m : Message) {X E : Type 0}
    (r : Result X E)
    → state ≡ Unopened channel → new ≡ old → OnErr r (LedBy passes old new (λ asked. FaltersAt state m asked))
falters-unopened passes old new state channel m (Ok x) is same = tt
falters-unopened passes old new state channel m (Err e) is same =
    let none : List Entry = [] in
    record { asked = none; leads = same; admits = subst (λ (q : State). FaltersAt q m none) (sym is) refl }

pub falters-sync : {D : Type 0} (passes : D → Entry → D → Type 0) (old new : D) (state : State) (s : SyncStanding) (m : Message) {X E : Type 0} (r : Result X E)
    → state ≡ Synchronized s
    → OnErr r (LedBy passes old new (λ asked. FaltersSync s m asked)) → OnErr r (LedBy passes old new (λ asked. FaltersAt state m asked))
falters-sync passes old new state s m r is h = subst (λ (q : State). OnErr r (LedBy passes old new (λ asked. FaltersAt q m asked))) (sym is) h

pub falters-async : {D : Type 0} (passes : D → Entry → D → Type 0) (old new : D) (state : State) (s : AsyncStanding) (m : Message) {X E : Type 0}
    (r : Result X E) → state ≡ Attached s
    → OnErr r (new ≡ old) → OnErr r (LedBy passes old new (λ asked. FaltersAt state m asked))
falters-async passes old new state s m (Ok x) is same = tt
falters-async passes old new state s m (Err e) is same =
    let none : List Entry = [] in
    record { asked = none; leads = same; admits = subst (λ (q : State). FaltersAt q m none) (sym is) refl }

-- the session stays
pub stays-sync : (state : State) (s t : SyncStanding) {X E : Type 0} (r : Result X E) → state ≡ Synchronized s → t.sid ≡ s.sid
    → OnErr r (session_of (Synchronized t) ≡ session_of state)
stays-sync state s t (Ok x) is same = tt
stays-sync state s t (Err e) is same =
    let some : Sid → Option Sid = λ sid. Some sid in
    ap some same ∙ sym (ap session_of is)

pub stays-async : (state : State) (s t : AsyncStanding) {X E : Type 0} (r : Result X E) → state ≡ Attached s → OnErr r (t ≡ s)
    → OnErr r (session_of (Attached t) ≡ session_of state)
stays-async state s t (Ok x) is same = tt
stays-async state s t (Err e) is same =
    let some : AsyncStanding → Option Sid = λ a. Some a.sid in
    ap some same ∙ sym (ap session_of is)

-- whether memory ran out
pub processed-well : {X E : Type 0} (r : Result X E) (spent spent' : Bool) → spent ≡ false → spent' ≡ is_err r → OnOk r ((spent ≡ false) × (spent' ≡ false))
processed-well (Ok x) spent spent' before same = (before, same)
processed-well (Err e) spent spent' before same = tt

pub spent-since : {X E : Type 0} (r : Result X E) (spent' : Bool) → spent' ≡ is_err r → OnErr r (spent' ≡ true)
spent-since (Ok x) spent' same = tt
spent-since (Err e) spent' same = same

pub falters-at : {D : Type 0} (passes : D → Entry → D → Type 0) (old new : D) (e : EngineStanding) (m : Message) {X E : Type 0} (r : Result X E)
    → e.spent ≡ false
    → OnErr r (LedBy passes old new (λ asked. FaltersAt e.state m asked)) → OnErr r (LedBy passes old new (λ asked. Falters e m asked))
falters-at passes old new e m (Ok x) before h = tt
falters-at passes old new e m (Err x) before h =
    let none : List Entry = [] in
    record { asked = h.asked; leads = h.leads; admits = subst (λ (b : Bool). MatchBool b (h.asked ≡ none) (FaltersAt e.state m h.asked)) (sym before) h.admits }

pub falters-again : {D : Type 0} (passes : D → Entry → D → Type 0) (d : D) (e : EngineStanding) (m : Message) → e.spent ≡ true
    → LedBy passes d d (λ asked. Falters e m asked)
falters-again passes d e m before =
    let none : List Entry = [] in
    record { asked = none; leads = refl; admits = subst (λ (b : Bool). MatchBool b (none ≡ none) (FaltersAt e.state m none)) (sym before) refl }
