-- A talk leaves no choice, where a text is read in one way.
use Rattle.std.proofs.Common.{◌≡◌, ℕ, ◌+◌, Bool, true, false, MatchBool, List, [], ◌∷◌, ◌++◌, inl, inr, length, Option, Some, None, Result, Ok, Err, refl, ap}
use Rattle.std.proofs.Common.{sym, ◌∙◌, subst}
use Rattle.std.specs.Prelude.{◌==◌, nat_lt}
use Rattle.sw_base.specs.Limits.{most_bytes}
use Rattle.sw_base.specs.declared.error.ScpiError.{ScpiError}
use Rattle.sw_base.specs.declared.error.ScpiError.TheVariants.{SettingsConflict, OutOfMemory, InputBufferOverrun}
use Rattle.sw_lex.specs.declared.command.Command.{Command}
use Rattle.sw_lex.specs.declared.command.NoData.{NoData}
use Rattle.sw_lex.specs.Unit.{UnitSeen, IsUnit, IsRefusedUnit, IsBlank}
use Rattle.sw_lex.specs.Meaning.{Nodes, Resolves}
use Rattle.sw_verify.specs.declared.snapshot.Snapshot.{Snapshot as Taken}
use Rattle.sw_verify.specs.declared.refusal.Refusal.{Refusal}
use Rattle.sw_verify.specs.Check.{error_of}
use Rattle.sw_verify.specs.Ready.{IsReady, IsFirstCause, IsRefusedScan as IsUnplanned}
use Rattle.sw_verify.proofs.OnceLemmas.{one_first, first_told}
use Rattle.sw_macro.specs.Table.{Table}
use Rattle.sw_macro.specs.Expansion.{calls, Expands}
use Rattle.sw_core.specs.Action.{Effect, IsOfMacros, Initiates, Resets, ReadsOut, action_of}
use Rattle.sw_core.specs.declared.ask.Sid.{Sid}
use Rattle.sw_core.specs.declared.ask.SessionAsk.{SessionAsk}
use Rattle.sw_core.specs.declared.ask.SessionAsk.TheVariants as Ask
use Rattle.sw_core.specs.declared.ask.SessionAnswer.{SessionAnswer}
use Rattle.sw_core.specs.declared.ask.SessionAnswer.TheVariants.{Joined, Full, Stranger, Broken, Done, Snapshot, Refused, Hold, Worn, Missed, Max, Lock, Info}
use Rattle.sw_talk.specs.declared.desk.Wake.{Wake}
use Rattle.sw_talk.specs.declared.desk.Wake.TheVariants.{Again, Over}
use Rattle.sw_talk.specs.declared.talker.AfterUnit.{AfterUnit}
use Rattle.sw_talk.specs.declared.talker.AfterUnit.TheVariants.{Goes, Drops, Ends}
use Rattle.sw_talk.specs.Trace.{Entry, Asked, Waited}
use Rattle.sw_talk.specs.Script.{Ending, Complete, EndsRefused, EndsUnread, IsScript}
use Rattle.sw_talk.specs.Macros.{Told}
use Rattle.sw_talk.specs.Talk.{Queues, Settles, Begins, BeginsBy, Begun, begun_with, effect_of, Reports, StartsScan, Plans, due_of, ReadsBack, ReadsScan, BeginsScan, table_reset, Concludes}
use Rattle.sw_talk.specs.Talk.{ServesUnit}
use Rattle.sw_talk.specs.Talk.{Standing, standing, Proceeds, Way, Talks, Itself, TalksExpansion, IsExpansion, Expanded, TalksUnits, Overruns, after_queueing}
use Rattle.sw_talk.specs.Talk.{after_unit}
use Rattle.sw_talk.specs.Talk.{has_answers, written, turns}
use Rattle.sw_talk.specs.Law.{IsAmple, AllAmple, SameTalk, left, TalkIsDetermined}
use Rattle.sw_talk.proofs.ActedLemmas.{acts-same, written_so}

-- the rests are the same talk, and ample
abbrev Rests : {T : Type 0} → T → T → List Entry → List Entry → Type 0
Rests b b' r r' = AllAmple r → AllAmple r' → SameTalk b b' r r'

queues-same : {T : Type 0} (b b' : T) (sid : Sid) (e : ScpiError) (t t' r r' : List Entry) (f f' : SessionAnswer) → Queues sid e t f r → Queues sid e t' f' r'
    → (f ≡ f' → Rests b b' r r') → Rests b b' t t'
queues-same b b' sid e (Asked a x ∷ t) (Asked a' x' ∷ t') r r' f f' (is, fin, left) (is', fin', left') next m n =
    (is ∙ sym is', λ same. rw (← left, ← left') (next (fin ∙ ap (after_queueing e) same ∙ sym fin') (rw left m.1) (rw left' n.1)))
queues-same b b' sid e (Asked a x ∷ t) [] r r' f f' p q next m n = absurd q
queues-same b b' sid e (Asked a x ∷ t) (entry ∷ t') r r' f f' p q next m n = absurd q
queues-same b b' sid e [] t' r r' f f' p q next m n = absurd p
queues-same b b' sid e (entry ∷ t) t' r r' f f' p q next m n = absurd p

-- no error is queued for want of memory
no-loss : (sid : Sid) (t r : List Entry) (f : SessionAnswer) → AllAmple t → Queues sid OutOfMemory t f r → ⊥
no-loss sid (Asked a x ∷ t) r f m (is, _, _) = (subst (λ (k : SessionAsk). IsAmple (Asked k x)) is m.0) refl
no-loss sid [] r f m q = q
no-loss sid (entry ∷ t) r f m q = q

settles-asks : (sid : Sid) (turn : ℕ) (ask a : SessionAsk) (x f : SessionAnswer) (t r : List Entry) → Settles sid turn ask (Asked a x ∷ t) f r → a ≡ ask
settles-asks sid turn ask a (Hold h) f (Waited None Over ∷ t) r p = p.0
settles-asks sid turn ask a (Hold h) f (Waited None (Again left) ∷ t) r p = p.0
settles-asks sid turn ask a (Hold h) f [] r p = absurd p
settles-asks sid turn ask a (Hold h) f (entry ∷ t) r p = absurd p
settles-asks sid turn ask a (Joined s) f t r p = p.0
settles-asks sid turn ask a Full f t r p = p.0
settles-asks sid turn ask a Missed f t r p = p.0
settles-asks sid turn ask a (Max size) f t r p = p.0
settles-asks sid turn ask a (Lock code) f t r p = p.0
settles-asks sid turn ask a (Info exclusive holders) f t r p = p.0
settles-asks sid turn ask a Stranger f t r p = p.0
settles-asks sid turn ask a Broken f t r p = p.0
settles-asks sid turn ask a (Done text) f t r p = p.0
settles-asks sid turn ask a (Refused e) f t r p = p.0
settles-asks sid turn ask a (Worn h) f t r p = p.0
settles-asks sid turn ask a (Snapshot s number) f t r p = p.0

settles-final : (sid : Sid) (turn : ℕ) (ask a : SessionAsk) (x f : SessionAnswer) (t r : List Entry) → ((h : SessionAsk) → x ≡ Hold h → ⊥)
    → Settles sid turn ask (Asked a x ∷ t) f r → (f ≡ x) × (r ≡ t)
settles-final sid turn ask a (Hold h) f t r differs p = absurd (differs h refl)
settles-final sid turn ask a (Joined s) f t r differs p = (p.1, p.2)
settles-final sid turn ask a Full f t r differs p = (p.1, p.2)
settles-final sid turn ask a Missed f t r differs p = (p.1, p.2)
settles-final sid turn ask a (Max size) f t r differs p = (p.1, p.2)
settles-final sid turn ask a (Lock code) f t r differs p = (p.1, p.2)
settles-final sid turn ask a (Info exclusive holders) f t r differs p = (p.1, p.2)
settles-final sid turn ask a Stranger f t r differs p = (p.1, p.2)
settles-final sid turn ask a Broken f t r differs p = (p.1, p.2)
settles-final sid turn ask a (Done text) f t r differs p = (p.1, p.2)
settles-final sid turn ask a (Refused e) f t r differs p = (p.1, p.2)
settles-final sid turn ask a (Worn h) f t r differs p = (p.1, p.2)
settles-final sid turn ask a (Snapshot s number) f t r differs p = (p.1, p.2)

-- an answer that is no hold
told-same : {T : Type 0} (b b' : T) (sid : Sid) (turn : ℕ) (ask a : SessionAsk) (x : SessionAnswer) (t t' r r' : List Entry) (f f' : SessionAnswer)
    → ((h : SessionAsk) → x ≡ Hold h → ⊥) → Settles sid turn ask (Asked a x ∷ t) f r → Settles sid turn ask t' f' r'
    → (f ≡ f' → Rests b b' r r') → Rests b b' (Asked a x ∷ t) t'
told-same b b' sid turn ask a x t (Asked a' x' ∷ t') r r' f f' differs p q next m n =
    let s = settles-final sid turn ask a x f t r differs p in (
      settles-asks sid turn ask a x f t r p ∙ sym (settles-asks sid turn ask a' x' f' t' r' q),
      λ same.
          let s' = settles-final sid turn ask a' x' f' t' r' (λ h is. differs h (same ∙ is)) q in
          rw (← s.1, ← s'.1) (next (s.0 ∙ same ∙ sym s'.0) (rw s.1 m.1) (rw s'.1 n.1)),
    )
told-same b b' sid turn ask a x t [] r r' f f' differs p q next m n = absurd q
told-same b b' sid turn ask a x t (entry ∷ t') r r' f f' differs p q next m n = absurd q

-- what follows a wait
abbrev Waits : Sid → ℕ → SessionAsk → Wake → List Entry → SessionAnswer → List Entry → Type 0
Waits sid turn ask Over t f r = Queues sid SettingsConflict t f r
Waits sid turn ask (Again left) t f r = MatchBool (turn + 1 == turns) (Queues sid SettingsConflict t f r) (Settles sid (turn + 1) ask t f r)

settles-waits : (sid : Sid) (turn : ℕ) (ask a h : SessionAsk) (limit : Option ℕ) (w : Wake) (f : SessionAnswer) (t r : List Entry)
    → Settles sid turn ask (Asked a (Hold h) ∷ Waited limit w ∷ t) f r
    → (limit ≡ None) × Waits sid turn ask w t f r
settles-waits sid turn ask a h None Over f t r p = (refl, p.1)
settles-waits sid turn ask a h None (Again left) f t r p = (refl, p.1)
settles-waits sid turn ask a h (Some limit) w f t r p = absurd p

-- an answer that is a hold
hold-same : {T : Type 0} (b b' : T) (sid : Sid) (turn : ℕ) (ask a h : SessionAsk) (w : Wake) (t t' r' : List Entry) (f' : SessionAnswer) → a ≡ ask
    → ((u : List Entry) → Waits sid turn ask w u f' r' → Rests b b' t u) → Settles sid turn ask t' f' r' → Rests b b' (Asked a (Hold h) ∷ Waited None w ∷ t) t'
hold-same b b' sid turn ask a h w t (Asked a' x ∷ t') r' f' is on q m n = (
  is ∙ sym (settles-asks sid turn ask a' x f' t' r' q),
  λ same. waits t' (subst (λ (y : SessionAnswer). Settles sid turn ask (Asked a' y ∷ t') f' r') (sym same) q) n.1,
)
  where
    waits : (u : List Entry) → Settles sid turn ask (Asked a' (Hold h) ∷ u) f' r' → AllAmple u → SameTalk b b' (Waited None w ∷ t) u
    waits (Waited limit v ∷ u) s k =
        let so = settles-waits sid turn ask a' h limit v f' u r' s in
        (sym so.0, λ same. on u (subst (λ (z : Wake). Waits sid turn ask z u f' r') (sym same) so.1) m.1.1 k.1)
    waits [] s k = absurd s
    waits (entry ∷ u) s k = absurd s
hold-same b b' sid turn ask a h w t [] r' f' is on q m n = absurd q
hold-same b b' sid turn ask a h w t (entry ∷ t') r' f' is on q m n = absurd q

either-way : (c : Bool) (P Q P' Q' : Type 0) {G : Type 0} → MatchBool c P Q → MatchBool c P' Q' → (P → P' → G) → (Q → Q' → G) → G
either-way true P Q P' Q' p p' one other = one p p'
either-way false P Q P' Q' p p' one other = other p p'

settles-same : {T : Type 0} (b b' : T) (sid : Sid) (turn : ℕ) (ask : SessionAsk) (t t' r r' : List Entry) (f f' : SessionAnswer) → Settles sid turn ask t f r
    → Settles sid turn ask t' f' r' → (f ≡ f' → Rests b b' r r') → Rests b b' t t'
settles-same b b' sid turn ask (Asked a (Hold h) ∷ Waited None Over ∷ t) t' r r' f f' p q next =
    hold-same b b' sid turn ask a h Over t t' r' f' p.0 (λ u s. queues-same b b' sid SettingsConflict t u r r' f f' p.1 s next) q
settles-same b b' sid turn ask (Asked a (Hold h) ∷ Waited None (Again left) ∷ t) t' r r' f f' p q next =
    hold-same b b' sid turn ask a h (Again left) t t' r' f' p.0
    (λ u s. either-way (turn + 1 == turns) (Queues sid SettingsConflict t f r) (Settles sid (turn + 1) ask t f r) (Queues sid SettingsConflict u f' r')
    (Settles sid (turn + 1) ask u f' r') p.1 s
    (λ k k'. queues-same b b' sid SettingsConflict t u r r' f f' k k' next)
    (λ k k'. settles-same b b' sid (turn + 1) ask t u r r' f f' k k' next)) q
settles-same b b' sid turn ask (Asked a (Hold h) ∷ []) t' r r' f f' p q next = absurd p
settles-same b b' sid turn ask (Asked a (Hold h) ∷ entry ∷ t) t' r r' f f' p q next = absurd p
settles-same b b' sid turn ask (Asked a (Joined s) ∷ t) t' r r' f f' p q next =
    told-same b b' sid turn ask a (Joined s) t t' r r' f f' (λ h is. absurd (cc (is))) p q next
settles-same b b' sid turn ask (Asked a Full ∷ t) t' r r' f f' p q next = told-same b b' sid turn ask a Full t t' r r' f f' (λ h is. absurd (cc (is))) p q next
settles-same b b' sid turn ask (Asked a Missed ∷ t) t' r r' f f' p q next =
    told-same b b' sid turn ask a Missed t t' r r' f f' (λ h is. absurd (cc (is))) p q next
settles-same b b' sid turn ask (Asked a (Max size) ∷ t) t' r r' f f' p q next =
    told-same b b' sid turn ask a (Max size) t t' r r' f f' (λ h is. absurd (cc (is))) p q next
settles-same b b' sid turn ask (Asked a (Lock code) ∷ t) t' r r' f f' p q next =
    told-same b b' sid turn ask a (Lock code) t t' r r' f f' (λ h is. absurd (cc (is))) p q next
settles-same b b' sid turn ask (Asked a (Info exclusive holders) ∷ t) t' r r' f f' p q next =
    told-same b b' sid turn ask a (Info exclusive holders) t t' r r' f f' (λ h is. absurd (cc (is))) p q next
settles-same b b' sid turn ask (Asked a Stranger ∷ t) t' r r' f f' p q next =
    told-same b b' sid turn ask a Stranger t t' r r' f f' (λ h is. absurd (cc (is))) p q next
settles-same b b' sid turn ask (Asked a Broken ∷ t) t' r r' f f' p q next =
    told-same b b' sid turn ask a Broken t t' r r' f f' (λ h is. absurd (cc (is))) p q next
settles-same b b' sid turn ask (Asked a (Done text) ∷ t) t' r r' f f' p q next =
    told-same b b' sid turn ask a (Done text) t t' r r' f f' (λ h is. absurd (cc (is))) p q next
settles-same b b' sid turn ask (Asked a (Refused e) ∷ t) t' r r' f f' p q next =
    told-same b b' sid turn ask a (Refused e) t t' r r' f f' (λ h is. absurd (cc (is))) p q next
settles-same b b' sid turn ask (Asked a (Worn h) ∷ t) t' r r' f f' p q next =
    told-same b b' sid turn ask a (Worn h) t t' r r' f f' (λ h is. absurd (cc (is))) p q next
settles-same b b' sid turn ask (Asked a (Snapshot s number) ∷ t) t' r r' f f' p q next =
    told-same b b' sid turn ask a (Snapshot s number) t t' r r' f f' (λ h is. absurd (cc (is))) p q next
settles-same b b' sid turn ask [] t' r r' f f' p q next = absurd p
settles-same b b' sid turn ask (entry ∷ t) t' r r' f f' p q next = absurd p

-- an answer that stands
stands-same : {T : Type 0} (b b' : T) (x : SessionAnswer) (t t' r r' : List Entry) (f f' : SessionAnswer) → (f ≡ x) × (r ≡ t) → (f' ≡ x) × (r' ≡ t')
    → (f ≡ f' → Rests b b' r r') → Rests b b' t t'
stands-same b b' x t t' r r' f f' (fin, left) (fin', left') next = rw (← left, ← left') (next (fin ∙ sym fin'))

-- the first refusal, where no error is queued for want of memory
refused-first : (sid : Sid) (s : Taken) (r : Refusal) (t rest : List Entry) (f : SessionAnswer) → AllAmple t → IsUnplanned r s
    → Queues sid (error_of r) t f rest → (IsReady s → ⊥) × IsFirstCause r s
refused-first sid s r t rest f m x q = elim (first_told s r x) [
  | inl y ↦ y
  | inr y ↦ absurd (no-loss sid t rest f m (subst (λ (k : Refusal). Queues sid (error_of k) t f rest) y q))
]

plans-same : {T : Type 0} (b b' : T) (sid : Sid) (told : SessionAnswer) (t t' r r' : List Entry) (f f' : SessionAnswer) → Plans sid told t f r
    → Plans sid told t' f' r' → (f ≡ f' → Rests b b' r r') → Rests b b' t t'
plans-same b b' sid (Snapshot s number) t t' r r' f f' p q next = λ m n. elim p [
  | inl k ↦ elim q [
    | inl k' ↦ settles-same b b' sid 0 (Ask.Start sid s) t t' r r' f f' k.1 k'.1 next m n
    | inr k' ↦ absurd ((refused-first sid s k'.0 t' r' f' n k'.1 k'.2).0 k.0)
  ]
  | inr k ↦ elim q [
    | inl k' ↦ absurd ((refused-first sid s k.0 t r f m k.1 k.2).0 k'.0)
    | inr k' ↦
        let first = refused-first sid s k.0 t r f m k.1 k.2 in
        let first' = refused-first sid s k'.0 t' r' f' n k'.1 k'.2 in
        let one = one_first s k.0 k'.0 first.1 first'.1 in
        queues-same b b' sid (error_of k.0) t t' r r' f f' k.2 (subst (λ (x : Refusal). Queues sid (error_of x) t' f' r') (sym one) k'.2) next m n
  ]
]
plans-same b b' sid (Joined s) t t' r r' f f' p q next = stands-same b b' (Joined s) t t' r r' f f' p q next
plans-same b b' sid Full t t' r r' f f' p q next = stands-same b b' Full t t' r r' f f' p q next
plans-same b b' sid Missed t t' r r' f f' p q next = stands-same b b' Missed t t' r r' f f' p q next
plans-same b b' sid (Max size) t t' r r' f f' p q next = stands-same b b' (Max size) t t' r r' f f' p q next
plans-same b b' sid (Lock code) t t' r r' f f' p q next = stands-same b b' (Lock code) t t' r r' f f' p q next
plans-same b b' sid (Info exclusive holders) t t' r r' f f' p q next = stands-same b b' (Info exclusive holders) t t' r r' f f' p q next
plans-same b b' sid Stranger t t' r r' f f' p q next = stands-same b b' Stranger t t' r r' f f' p q next
plans-same b b' sid Broken t t' r r' f f' p q next = stands-same b b' Broken t t' r r' f f' p q next
plans-same b b' sid (Done text) t t' r r' f f' p q next = stands-same b b' (Done text) t t' r r' f f' p q next
plans-same b b' sid (Refused e) t t' r r' f f' p q next = stands-same b b' (Refused e) t t' r r' f f' p q next
plans-same b b' sid (Hold h) t t' r r' f f' p q next = stands-same b b' (Hold h) t t' r r' f f' p q next
plans-same b b' sid (Worn h) t t' r r' f f' p q next = stands-same b b' (Worn h) t t' r r' f f' p q next

starts-same : {T : Type 0} (b b' : T) (sid : Sid) (t t' r r' : List Entry) (f f' : SessionAnswer) → StartsScan sid t f r → StartsScan sid t' f' r'
    → (f ≡ f' → Rests b b' r r') → Rests b b' t t'
starts-same b b' sid t t' r r' f f' (told, mid, p, k) (told', mid', p', k') next =
    settles-same b b' sid 0 (Ask.Snapshot sid) t t' mid mid' told told' p p'
    (λ same. plans-same b b' sid told mid mid' r r' f f' k (subst (λ (x : SessionAnswer). Plans sid x mid' f' r') (sym same) k') next)

back-same : {T : Type 0} (b b' : T) (sid : Sid) (answered : Bool) (due : Option (ℕ × ℕ)) (started : SessionAnswer) (t t' r r' : List Entry)
    (f f' : SessionAnswer) → ReadsBack sid answered due started t f r → ReadsBack sid answered due started t' f' r' → (f ≡ f' → Rests b b' r r')
    → Rests b b' t t'
back-same b b' sid answered (Some due) (Done text) t t' r r' f f' p q next =
    settles-same b b' sid 0 (Ask.Unit sid (Command.ScanReadings due.0 due.1) answered) t t' r r' f f' p q next
back-same b b' sid answered due started t t' r r' f f' p q next = stands-same b b' started t t' r r' f f' p q next

reads-same : {T : Type 0} (b b' : T) (sid : Sid) (answered : Bool) (t t' r r' : List Entry) (f f' : SessionAnswer) → ReadsScan sid answered t f r
    → ReadsScan sid answered t' f' r' → (f ≡ f' → Rests b b' r r') → Rests b b' t t'
reads-same b b' sid answered t t' r r' f f' (told, started, mid, later, p, k, l) (told', started', mid', later', p', k', l') next =
    settles-same b b' sid 0 (Ask.Snapshot sid) t t' mid mid' told told' p p'
    (λ same. plans-same b b' sid told mid mid' later later' started started' k (subst (λ (x : SessionAnswer). Plans sid x mid' started' later') (sym same) k')
    (λ alike. back-same b b' sid answered (due_of told) started later later' r r' f f' l
    (subst (λ (x : SessionAnswer). ReadsBack sid answered (due_of x) started later' f' r') (sym same)
    (subst (λ (x : SessionAnswer). ReadsBack sid answered (due_of told') x later' f' r') (sym alike) l')) next))

scan-same : {T : Type 0} (b b' : T) (command : Command) (sid : Sid) (answered : Bool) (t t' r r' : List Entry) (f f' : SessionAnswer)
    → BeginsScan command sid answered t f r → BeginsScan command sid answered t' f' r' → (f ≡ f' → Rests b b' r r') → Rests b b' t t'
scan-same b b' (Command.NoData NoData.Read) sid answered t t' r r' f f' p q next = reads-same b b' sid answered t t' r r' f f' p q next
scan-same b b' command sid answered t t' r r' f f' p q next = starts-same b b' sid t t' r r' f f' p q next

reports-same : {T : Type 0} (b b' : T) (sid : Sid) (told : Told) (t t' r r' : List Entry) (f f' : SessionAnswer) → Reports sid told t f r
    → Reports sid told t' f' r' → (f ≡ f' → Rests b b' r r') → Rests b b' t t'
reports-same b b' sid (Ok text) t t' r r' f f' p q next = stands-same b b' (Done text) t t' r r' f f' p q next
reports-same b b' sid (Err e) t t' r r' f f' p q next = queues-same b b' sid e t t' r r' f f' p q next

-- what a macro command came to is no want of memory
reports-ample : (sid : Sid) (told : Told) (t r : List Entry) (f : SessionAnswer) → AllAmple t → Reports sid told t f r → told ≡ Err OutOfMemory → ⊥
reports-ample sid told t r f m p is = no-loss sid t r f m (subst (λ (x : Told). Reports sid x t f r) is p)

-- what comes of two units that were begun alike
abbrev Onward : {T : Type 0} → T → T → Begun → Begun → Type 0
Onward b b' x x' = x.answer ≡ x'.answer → x.macros ≡ x'.macros → Rests b b' x.rest x'.rest

executes-same : {T : Type 0} (b b' : T) (sid : Sid) (answered : Bool) (command : Command) (macros : Table) (t t' : List Entry) (x x' : Begun)
    → BeginsBy IsOfMacros sid answered command macros t x → BeginsBy IsOfMacros sid answered command macros t' x' → Onward b b' x x' → Rests b b' t t'
executes-same b b' sid answered command macros t t' x x' (told, acts, p) (told', acts', q) next = λ y z.
    let one = acts-same command macros told told' x.macros x'.macros acts acts' (reports-ample sid told t x.rest x.answer y p)
    (reports-ample sid told' t' x'.rest x'.answer z q) in
    reports-same b b' sid told t t' x.rest x'.rest x.answer x'.answer p (subst (λ (k : Told). Reports sid k t' x'.answer x'.rest) (sym one.0) q) (λ same.
    next same one.1) y z

asks-same : {T : Type 0} (b b' : T) (sid : Sid) (ask : SessionAsk) (macros : Table) (t t' : List Entry) (x x' : Begun)
    → Settles sid 0 ask t x.answer x.rest × (x.macros ≡ macros) → Settles sid 0 ask t' x'.answer x'.rest × (x'.macros ≡ macros) → Onward b b' x x'
    → Rests b b' t t'
asks-same b b' sid ask macros t t' x x' p q next =
    settles-same b b' sid 0 ask t t' x.rest x'.rest x.answer x'.answer p.0 q.0 (λ same. next same (p.1 ∙ sym q.1))

by-same : {T : Type 0} (b b' : T) (effect : Effect) (sid : Sid) (answered : Bool) (command : Command) (macros : Table) (t t' : List Entry) (x x' : Begun)
    → BeginsBy effect sid answered command macros t x → BeginsBy effect sid answered command macros t' x' → Onward b b' x x' → Rests b b' t t'
by-same b b' IsOfMacros sid answered command macros t t' x x' p q next = executes-same b b' sid answered command macros t t' x x' p q next
by-same b b' Initiates sid answered command macros t t' x x' p q next =
    scan-same b b' command sid answered t t' x.rest x'.rest x.answer x'.answer p.0 q.0 (λ same. next same (p.1 ∙ sym q.1))
by-same b b' Resets sid answered command macros t t' x x' p q next =
    settles-same b b' sid 0 (Ask.Unit sid command answered) t t' x.rest x'.rest x.answer x'.answer p.0 q.0
    (λ same. next same (p.1 ∙ ap (λ (a : SessionAnswer). table_reset a macros) same ∙ sym q.1))
by-same b b' (ReadsOut text left) sid answered command macros t t' x x' (p, is) (q, is') next = λ m n. elim p [
  | inl k ↦ elim q [
    | inl k' ↦ asks-same b b' sid (Ask.Unit sid command answered) macros t t' x x' (k, is) (k', is') next m n
    | inr lost ↦ absurd (no-loss sid t' x'.rest x'.answer n lost)
  ]
  | inr lost ↦ absurd (no-loss sid t x.rest x.answer m lost)
]
by-same b b' effect sid answered command macros t t' x x' p q next = asks-same b b' sid (Ask.Unit sid command answered) macros t t' x x' p q next

begins-same : {T : Type 0} (b b' : T) (sid : Sid) (answered : Bool) (command : Result Command ScpiError) (macros : Table) (t t' : List Entry) (x x' : Begun)
    → Begins sid answered command macros t x → Begins sid answered command macros t' x' → Onward b b' x x' → Rests b b' t t'
begins-same b b' sid answered (Ok command) macros t t' x x' p q next =
    by-same b b' (effect_of (action_of answered command)) sid answered command macros t t' x x' p q next
begins-same b b' sid answered (Err e) macros t t' x x' (p, is) (q, is') next =
    queues-same b b' sid e t t' x.rest x'.rest x.answer x'.answer p q (λ same. next same (is ∙ sym is'))

-- what comes of an answer that is no text
plain-same : {T : Type 0} (b b' : T) (t t' r r' : List Entry) (s after after' : AfterUnit) (answers told told' : List (List ℕ)) → (after ≡ s) × (told ≡ answers)
    × (r ≡ t) → (after' ≡ s) × (told' ≡ answers) × (r' ≡ t')
    → (after ≡ after' → told ≡ told' → Rests b b' r r') → Rests b b' t t'
plain-same b b' t t' r r' s after after' answers told told' (go, is, left) (go', is', left') next =
    rw (← left, ← left') (next (go ∙ sym go') (is ∙ sym is'))

-- what comes of a text that joined the answers
joined-plain : (answers told : List (List ℕ)) (s after : AfterUnit) (r t : List Entry) (room : Type 0) → (after ≡ s) × (told ≡ answers) × (r ≡ t) × room
    → (after ≡ s) × (told ≡ answers) × (r ≡ t)
joined-plain answers told s after r t room (go, is, left, fits) = (go, is, left)

concludes-same : {T : Type 0} (b b' : T) (sid : Sid) (answers : List (List ℕ)) (f : SessionAnswer) (t t' r r' : List Entry) (after after' : AfterUnit)
    (told told' : List (List ℕ)) → Concludes sid answers f t after told r → Concludes sid answers f t' after' told' r'
    → (after ≡ after' → told ≡ told' → Rests b b' r r') → Rests b b' t t'
concludes-same b b' sid answers (Done (Some text)) t t' r r' after after' told told' p q next = λ m n. elim p [
  | inl k ↦ elim q [
    | inl k' ↦ plain-same b b' t t' r r' Goes after after' (answers ++ text ∷ []) told told' (joined-plain (answers ++ text ∷ []) told Goes after r t _ k)
        (joined-plain (answers ++ text ∷ []) told' Goes after' r' t' _ k') next m n
    | inr lost ↦ absurd (no-loss sid t' r' lost.0 n lost.1)
  ]
  | inr lost ↦ absurd (no-loss sid t r lost.0 m lost.1)
]
concludes-same b b' sid answers (Done None) t t' r r' after after' told told' p q next = plain-same b b' t t' r r' Goes after after' answers told told' p q next
concludes-same b b' sid answers (Joined s) t t' r r' after after' told told' p q next = plain-same b b' t t' r r' Ends after after' answers told told' p q next
concludes-same b b' sid answers (Snapshot s number) t t' r r' after after' told told' p q next =
    plain-same b b' t t' r r' Ends after after' answers told told' p q next
concludes-same b b' sid answers Full t t' r r' after after' told told' p q next = plain-same b b' t t' r r' Ends after after' answers told told' p q next
concludes-same b b' sid answers Missed t t' r r' after after' told told' p q next = plain-same b b' t t' r r' Ends after after' answers told told' p q next
concludes-same b b' sid answers (Max size) t t' r r' after after' told told' p q next = plain-same b b' t t' r r' Ends after after' answers told told' p q next
concludes-same b b' sid answers (Lock code) t t' r r' after after' told told' p q next = plain-same b b' t t' r r' Ends after after' answers told told' p q next
concludes-same b b' sid answers (Info exclusive holders) t t' r r' after after' told told' p q next =
    plain-same b b' t t' r r' Ends after after' answers told told' p q next
concludes-same b b' sid answers Stranger t t' r r' after after' told told' p q next = plain-same b b' t t' r r' Ends after after' answers told told' p q next
concludes-same b b' sid answers Broken t t' r r' after after' told told' p q next = plain-same b b' t t' r r' Ends after after' answers told told' p q next
concludes-same b b' sid answers (Refused e) t t' r r' after after' told told' p q next =
    plain-same b b' t t' r r' (after_unit (Refused e)) after after' answers told told' p q next
concludes-same b b' sid answers (Hold h) t t' r r' after after' told told' p q next = plain-same b b' t t' r r' Ends after after' answers told told' p q next
concludes-same b b' sid answers (Worn h) t t' r r' after after' told told' p q next = plain-same b b' t t' r r' Ends after after' answers told told' p q next

-- where two sessions stand alike, but for what is left of their traces
abbrev Alike : Standing → Standing → Type 0
Alike s s' = (s.path ≡ s'.path) × (s.macros ≡ s'.macros) × (s.answers ≡ s'.answers)

-- what comes of two parts that end alike
abbrev Ensues : {T : Type 0} → T → T → AfterUnit → AfterUnit → Standing → Standing → Type 0
Ensues b b' after after' told told' = after ≡ after' → Alike told told' → Rests b b' told.trace told'.trace

serves-same : {T : Type 0} (b b' : T) (sid : Sid) (command : Result Command ScpiError) (s s' : Standing) (after after' : AfterUnit) (told told' : Standing)
    → Alike s s'
    → ServesUnit sid command s after told → ServesUnit sid command s' after' told' → Ensues b b' after after' told told' → Rests b b' s.trace s'.trace
serves-same b b' sid command s s' after after' told told' (paths, tables, texts) (f, mid, p, k, is) (f', mid', p', k', is') next =
    let begins : Begins sid (has_answers s.answers) command s.macros s'.trace (begun_with f' told'.macros mid') =
    subst (λ (x : List (List ℕ)). Begins sid (has_answers x) command s.macros s'.trace (begun_with f' told'.macros mid')) (sym texts)
    (subst (λ (x : Table). Begins sid (has_answers s'.answers) command x s'.trace (begun_with f' told'.macros mid')) (sym tables) p') in
    let concludes : Concludes sid s.answers f' mid' after' told'.answers told'.trace =
    subst (λ (x : List (List ℕ)). Concludes sid x f' mid' after' told'.answers told'.trace) (sym texts) k' in
    begins-same b b' sid (has_answers s.answers) command s.macros s.trace s'.trace (begun_with f told.macros mid) (begun_with f' told'.macros mid') p begins
    (λ same macros. concludes-same b b' sid s.answers f mid mid' told.trace told'.trace after after' told.answers told'.answers k
    (subst (λ (x : SessionAnswer). Concludes sid s.answers x mid' after' told'.answers told'.trace) (sym same) concludes)
    (λ go answers. next go (is ∙ paths ∙ sym is', macros, answers)))

-- the command of a unit that was served is no want of memory
serves-ample : (sid : Sid) (command : Result Command ScpiError) (s : Standing) (after : AfterUnit) (told : Standing) → AllAmple s.trace
    → ServesUnit sid command s after told
    → command ≡ Err OutOfMemory → ⊥
serves-ample sid command s after told m (f, mid, p, k, stays) is =
    no-loss sid s.trace mid f m (subst (λ (c : Result Command ScpiError).
    Begins sid (has_answers s.answers) c s.macros s.trace (begun_with f told.macros mid)) is p).0

-- ---- the units

-- A text is read in one way, and a unit has one meaning and one expansion, where memory suffices.
pub record ReadsOnce : Type 0 where
  pub unit : (text rest rest' : List ℕ) (u u' : UnitSeen) → IsUnit text u rest → IsUnit text u' rest' → (u ≡ u') × (rest ≡ rest')
  pub error : (text : List ℕ) (e e' : ScpiError) → IsRefusedUnit text e → IsRefusedUnit text e' → e ≡ e'
  pub unit_or_blank : (text rest : List ℕ) (u : UnitSeen) → IsUnit text u rest → IsBlank text → ⊥
  pub unit_or_error : (text rest : List ℕ) (u : UnitSeen) (e : ScpiError) → IsUnit text u rest → IsRefusedUnit text e → ⊥
  pub blank_or_error : (text : List ℕ) (e : ScpiError) → IsBlank text → IsRefusedUnit text e → ⊥
  pub command : (u : UnitSeen) (path : Nodes) (c c' : Result Command ScpiError) (p p' : Nodes) → Resolves u path c p → Resolves u path c' p'
      → (c ≡ Err OutOfMemory → ⊥) → (c' ≡ Err OutOfMemory → ⊥) → (c ≡ c') × (p ≡ p')
  pub expansion : (t : Table) (u : UnitSeen) (written : List ℕ) (r r' : Result (List ℕ) ScpiError) → Expands t u written r → Expands t u written r' → r ≡ r'

-- one unit, talked over in this way, leaves no choice
abbrev SameWay : {T : Type 0} → T → T → Way → Type 0
SameWay b b' way = (u : UnitSeen) (s s' : Standing) (after after' : AfterUnit) (told told' : Standing) → Alike s s' → way u s after told → way u s' after' told'
    → Ensues b b' after after' told told' → Rests b b' s.trace s'.trace

-- what comes of units that don't go on
stays-same : {T : Type 0} (b b' : T) (step after after' : AfterUnit) (s s' told told' : Standing) → Alike s s' → (after ≡ step) × (told ≡ s) → (after' ≡ step)
    × (told' ≡ s')
    → Ensues b b' after after' told told' → Rests b b' s.trace s'.trace
stays-same b b' step after after' s s' told told' alike (go, is) (go', is') next =
    subst (λ (x : Standing). Alike x s' → Rests b b' x.trace s'.trace) is
    (subst (λ (x : Standing). Alike told x → Rests b b' told.trace x.trace) is' (next (go ∙ sym go'))) alike

proceeds-same : {T : Type 0} (b b' : T) (on on' : Standing → Type 0) (step : AfterUnit) (s s' : Standing) (after after' : AfterUnit) (told told' : Standing)
    → Alike s s'
    → Proceeds on step s after told → Proceeds on' step s' after' told' → Ensues b b' after after' told told' → (on s → on' s' → Rests b b' s.trace s'.trace)
    → Rests b b' s.trace s'.trace
proceeds-same b b' on on' Goes s s' after after' told told' alike p q next more = more p q
proceeds-same b b' on on' Drops s s' after after' told told' alike p q next more = stays-same b b' Drops after after' s s' told told' alike p q next
proceeds-same b b' on on' Ends s s' after after' told told' alike p q next more = stays-same b b' Ends after after' s s' told told' alike p q next

talks-same : {T : Type 0} (b b' : T) (way : Way) → ReadsOnce → SameWay b b' way
    → (sid : Sid) (text : List ℕ) (us us' : List UnitSeen) (end end' : Ending) (s s' : Standing)
    (after after' : AfterUnit) (told told' : Standing) → Alike s s' → IsScript text us end → IsScript text us' end' → Talks way sid us end s after told
    → Talks way sid us' end' s' after' told' → Ensues b b' after after' told told' → Rests b b' s.trace s'.trace
talks-same b b' way reads same sid text [] us' EndsUnread end' s s' after after' told told' alike i i' p q next = absurd p
talks-same b b' way reads same sid text [] [] Complete EndsUnread s s' after after' told told' alike i i' p q next = absurd q
talks-same b b' way reads same sid text [] [] Complete Complete s s' after after' told told' alike i i' p q next =
    stays-same b b' Goes after after' s s' told told' alike p q next
talks-same b b' way reads same sid text [] [] Complete (EndsRefused e) s s' after after' told told' alike i i' p q next =
    absurd (reads.blank_or_error text e i i')
talks-same b b' way reads same sid text [] (u' ∷ us') Complete end' s s' after after' told told' alike i i' p q next =
    absurd (reads.unit_or_blank text i'.0 u' i'.1 i)
talks-same b b' way reads same sid text [] [] (EndsRefused e) EndsUnread s s' after after' told told' alike i i' p q next = absurd q
talks-same b b' way reads same sid text [] [] (EndsRefused e) Complete s s' after after' told told' alike i i' p q next =
    absurd (reads.blank_or_error text e i' i)
talks-same b b' way reads same sid text [] [] (EndsRefused e) (EndsRefused e') s s' after after' told told' alike i i' p q next =
    serves-same b b' sid (Err e) s s' after after' told told' alike p (subst (λ (x : ScpiError).
    ServesUnit sid (Err x) s' after' told') (sym (reads.error text e e' i i')) q) next
talks-same b b' way reads same sid text [] (u' ∷ us') (EndsRefused e) end' s s' after after' told told' alike i i' p q next =
    absurd (reads.unit_or_error text i'.0 u' e i'.1 i)
talks-same b b' way reads same sid text (u ∷ us) [] end EndsUnread s s' after after' told told' alike i i' p q next = absurd q
talks-same b b' way reads same sid text (u ∷ us) [] end Complete s s' after after' told told' alike i i' p q next =
    absurd (reads.unit_or_blank text i.0 u i.1 i')
talks-same b b' way reads same sid text (u ∷ us) [] end (EndsRefused e) s s' after after' told told' alike i i' p q next =
    absurd (reads.unit_or_error text i.0 u e i.1 i')
talks-same b b' way reads same sid text (u ∷ us) (u' ∷ us') end end' s s' after after' told told' alike (rest, is, i) (rest', is', i') (
  step,
  mid,
  w,
  on,
) (step', mid', w', on') next =
    let one = reads.unit text rest rest' u u' is is' in
    let again : way u s' step' mid' = subst (λ (x : UnitSeen). way x s' step' mid') (sym one.0) w' in
    let script : IsScript rest us' end' = subst (λ (x : List ℕ). IsScript x us' end') (sym one.1) i' in
    same u s s' step step' mid mid' alike w again
    (λ same_step same_place.
    let on-alike : Proceeds (λ x. Talks way sid us' end' x after' told') step mid' after' told' =
    subst (λ (x : AfterUnit). Proceeds (λ y. Talks way sid us' end' y after' told') x mid' after' told') (sym same_step) on' in
    proceeds-same b b' (λ x. Talks way sid us end x after told) (λ x.
    Talks way sid us' end' x after' told') step mid mid' after after' told told' same_place on on-alike next
    (λ k k'. talks-same b b' way reads same sid rest us us' end end' mid mid' after after' told told' same_place i script k k' next))

itself-same : {T : Type 0} (b b' : T) → ReadsOnce → (sid : Sid) → SameWay b b' (Itself sid)
itself-same b b' reads sid u s s' after after' told told' alike (c, path, res, serves) (c', path', res', serves') next = λ m n.
    let again : Resolves u s.path c' path' = subst (λ (x : Nodes). Resolves u x c' path') (sym alike.0) res' in
    let one = reads.command u s.path c c' path path' res again (serves-ample sid c (record s { path = path }) after told m serves)
    (serves-ample sid c' (record s' { path = path' }) after' told' n serves') in
    serves-same b b' sid c (record s { path = path }) (record s' { path = path' }) after after' told told' (one.1, alike.1, alike.2) serves
    (subst (λ (x : Result Command ScpiError). ServesUnit sid x (record s' { path = path' }) after' told') (sym one.0) serves') next m n

unfolds-same : {T : Type 0} (b b' : T) → ReadsOnce
    → (sid : Sid) (x : Result (List ℕ) ScpiError) (s s' : Standing) (after after' : AfterUnit) (told told' : Standing) → Alike s s'
    → TalksExpansion sid x s after told → TalksExpansion sid x s' after' told' → Ensues b b' after after' told told' → Rests b b' s.trace s'.trace
unfolds-same b b' reads sid (Ok text) s s' after after' told told' alike (us, end, i, p) (us', end', i', q) next =
    talks-same b b' (Itself sid) reads (itself-same b b' reads sid) sid text us us' end end' s s' after after' told told' alike i i' p q next
unfolds-same b b' reads sid (Err e) s s' after after' told told' alike p q next = serves-same b b' sid (Err e) s s' after after' told told' alike p q next

-- an expansion that stood in a unit's place is no want of memory
unfolds-ample : (sid : Sid) (x : Result (List ℕ) ScpiError) (s : Standing) (after : AfterUnit) (told : Standing) → AllAmple s.trace
    → TalksExpansion sid x s after told
    → x ≡ Err OutOfMemory → ⊥
unfolds-ample sid x s after told m p is =
    serves-ample sid (Err OutOfMemory) s after told m (subst (λ (y : Result (List ℕ) ScpiError). TalksExpansion sid y s after told) is p) refl

expansion-same : ReadsOnce → (macros : Table) (u : UnitSeen) (x x' : Result (List ℕ) ScpiError) → calls macros u ≡ true → IsExpansion macros u x
    → IsExpansion macros u x' → (x ≡ Err OutOfMemory → ⊥) → (x' ≡ Err OutOfMemory → ⊥) → x ≡ x'
expansion-same reads macros u x x' does e e' some some' = elim e [
  | inl w ↦ elim e' [
    | inl w' ↦ reads.expansion macros u w.0 x x' w.1 (written_so macros u w'.0 w.0 x' does w'.1)
    | inr lost ↦ absurd (some' lost)
  ]
  | inr lost ↦ absurd (some lost)
]

either-so : (c : Bool) (P Q P' Q' : Type 0) {G : Type 0} → MatchBool c P Q → MatchBool c P' Q' → (c ≡ true → P → P' → G) → (Q → Q' → G) → G
either-so true P Q P' Q' p p' one other = one refl p p'
either-so false P Q P' Q' p p' one other = other p p'

expanded-same : {T : Type 0} (b b' : T) → ReadsOnce → (sid : Sid) → SameWay b b' (Expanded sid)
expanded-same b b' reads sid u s s' after after' told told' alike p q next =
    let again : MatchBool (calls s.macros u) ((x : Result (List ℕ) ScpiError) × IsExpansion s.macros u x
    × TalksExpansion sid x s' after' told') (Itself sid u s' after' told') =
    subst (λ (t : Table). MatchBool (calls t u) ((x : Result (List ℕ) ScpiError) × IsExpansion t u x
    × TalksExpansion sid x s' after' told') (Itself sid u s' after' told'))
    (sym alike.1) q in
    either-so (calls s.macros u)
    ((x : Result (List ℕ) ScpiError) × IsExpansion s.macros u x × TalksExpansion sid x s after told) (Itself sid u s after told)
    ((x : Result (List ℕ) ScpiError) × IsExpansion s.macros u x × TalksExpansion sid x s' after' told') (Itself sid u s' after' told') p again
    (λ does k k' m n.
    let one = expansion-same reads s.macros u k.0 k'.0 does k.1 k'.1 (unfolds-ample sid k.0 s after told m k.2)
    (unfolds-ample sid k'.0 s' after' told' n k'.2) in
    unfolds-same b b' reads sid k.0 s s' after after' told told' alike k.2
    (subst (λ (x : Result (List ℕ) ScpiError). TalksExpansion sid x s' after' told') (sym one) k'.2) next m n)
    (λ k k'. itself-same b b' reads sid u s s' after after' told told' alike k k' next)

-- nothing is left, and the same is left
nothing-left : {T : Type 0} (b b' : T) → b ≡ b' → Rests b b' [] []
nothing-left b b' is m n = is

left-same : (bytes bytes' : List ℕ) (macros macros' : Table) → bytes ≡ bytes' → macros ≡ macros' → left bytes macros ≡ left bytes' macros'
left-same bytes bytes' macros macros' b m = ap (λ (x : List ℕ). left x macros) b ∙ ap (λ (x : Table). left bytes' x) m

pub talk-determined : ReadsOnce → TalkIsDetermined
talk-determined reads sid macros text t t' bytes bytes' lasts lasts' kept kept' p q =
    let b = left bytes kept in
    let b' = left bytes' kept' in
    either-way (nat_lt most_bytes (length text)) (Overruns sid t bytes lasts × (kept ≡ macros)) (TalksUnits sid macros text t bytes lasts kept)
    (Overruns sid t' bytes' lasts' × (kept' ≡ macros)) (TalksUnits sid macros text t' bytes' lasts' kept') p q
    (λ o o'. queues-same b b' sid InputBufferOverrun t t' [] [] o.0.0 o'.0.0 o.0.1 o'.0.1 (λ same.
    nothing-left b b' (left-same bytes bytes' kept kept' (o.0.2 ∙ sym o'.0.2) (o.1 ∙ sym o'.1))))
    (λ k k'. talks-same b b' (Expanded sid) reads (expanded-same b b' reads sid) sid text k.units k'.units k.ending k'.ending (standing [] macros [] t)
    (standing [] macros [] t')
    k.after k'.after (standing k.path kept k.answers []) (standing k'.path kept' k'.answers []) (refl, refl, refl) k.script k'.script k.talks k'.talks
    (λ same_after same. nothing-left b b' (left-same bytes bytes' kept kept'
    (k.writes ∙ ap (λ (x : AfterUnit). written x k.answers) same_after ∙ ap (λ (x : List (List ℕ)). written k'.after x) same.2 ∙ sym k'.writes) same.1)))
