-- So has what is offered to a scan, held, or begins one.
use Rattle.std.proofs.Common.{◌≡◌, ◌≢◌, ℕ, Bool, true, false, Option, None, refl, sym, ◌∙◌, ap, subst, arith, inl, inr, ◌⊎◌}
use Rattle.std.specs.Prelude.{MatchBool}
use Rattle.sw_base.specs.declared.error.ScpiError.{ScpiError}
use Rattle.sw_base.specs.declared.error.ScpiError.TheVariants.{InitIgnored, SystemError, SettingsConflict, HardwareError, OutOfMemory}
use Rattle.sw_verify.specs.declared.snapshot.Snapshot.{Snapshot}
use Rattle.sw_cage.specs.TakenSeen.{TakenSeen, SaysFault}
use Rattle.sw_cage.specs.declared.taken.Happening.{Happening}
use Rattle.sw_core.specs.declared.ask.SessionAsk.{SessionAsk}
use Rattle.sw_core.specs.declared.ask.SessionAnswer.{SessionAnswer}
use Rattle.sw_core.specs.declared.ask.SessionAnswer.TheVariants as answers
use Rattle.sw_core.specs.declared.ask.SessionAnswer.TheVariants.{Done, Refused, Hold}
use Rattle.sw_core.specs.Panel.{Panel, is_running}
use Rattle.sw_core.specs.Action.{Effect}
use Rattle.sw_core.specs.Action.{Triggers, Action, AtOnce, BetweenScans, AfterScan}
use Rattle.sw_core.specs.Seen.{WorkSeen, SaysSession}
use Rattle.sw_core.specs.Step.{StepRefused, StepEffect, StepHeld, StepAction}
use Rattle.sw_core.specs.Step.{session_told, work_of, started_answer, StepHappens, RefusesScan, MayScan, snapshot_of, StepSnapshot, IsStarted, StepStart}
use Rattle.sw_core.proofs.GoingLemmas.{happens_once, starts_once}
use Rattle.sw_core.specs.LeftOpen.{effect_of, left_open}
use Rattle.sw_core.proofs.OneCommandLemmas.{IsWhole, IsOnce, both, true_false, refused_once, alone_once}

abbrev pub IsAlike : SessionAnswer → SessionAnswer → Option WorkSeen → Option WorkSeen → Panel → Panel → Type 0
IsAlike a a' w w' q q' = (a ≡ a') × (w ≡ w') × (q ≡ q')

pub plain_any : (a : SessionAnswer) (w w' : Option WorkSeen) → IsWhole (SaysSession a w) → IsWhole (SaysSession a w')
plain_any (Refused e) w w' h = h
plain_any a w w' h = tt

-- a plain answer tells of no card's failure
pub unbroken : (error : ScpiError) (a : SessionAnswer) (told : TakenSeen) → IsWhole (SaysSession a None) → a ≡ session_told error told → told ≢ SaysFault
unbroken error a told n e f =
    let g : a ≡ Refused HardwareError = e ∙ ap (λ (x : TakenSeen). session_told error x) f in
    let plain : IsWhole (SaysSession (Refused HardwareError) None) = subst (λ (x : SessionAnswer). IsWhole (SaysSession x None)) g n in
    plain.1 refl

pub happening_once : (p : Panel) (happening : Happening) (error : ScpiError) (f f' : Bool) (a a' : SessionAnswer) (w w' : Option WorkSeen) (q q' : Panel)
    → IsWhole (SaysSession a None) → IsWhole (SaysSession a' None) → StepHappens p happening error f a w q → StepHappens p happening error f' a' w' q'
    → IsAlike a a' w w' q q'
happening_once p happening error f f' a a' w w' q q' n m h k =
    let r = happens_once p q q' happening f f' h.told k.told h.happens k.happens (unbroken error a h.told n h.answer_is)
    (unbroken error a' k.told m k.answer_is) in
    (h.answer_is ∙ ap (λ (x : TakenSeen). session_told error x) r.0 ∙ sym k.answer_is, h.work_is ∙ ap (λ (x : TakenSeen). work_of x) r.0 ∙ sym k.work_is, r.1)

pub effect_once : (e : Effect) (p : Panel) (f f' : Bool) (a a' : SessionAnswer) (w w' : Option WorkSeen) (q q' : Panel)
    → IsWhole (SaysSession a None) → IsWhole (SaysSession a' None) → left_open e p a ≡ left_open e p a' → StepEffect e p f a w q → StepEffect e p f' a' w' q' → IsAlike a a' w w' q q'
effect_once (Triggers happening error) p f f' a a' w w' q q' n m s h k = happening_once p happening error f f' a a' w w' q q' n m h k
effect_once e p f f' a a' w w' q q' n m s h k =
    let r = alone_once e p f f' a a' q q' n m s h.0 k.0 in
    (r.0, h.1 ∙ sym k.1, r.1)

pub held_once : (p : Panel) (ask : SessionAsk) (f f' : Bool) (a a' : SessionAnswer) (w w' : Option WorkSeen) (q q' : Panel)
    → StepHeld p ask f a w q → StepHeld p ask f' a' w' q' → IsAlike a a' w w' q q'
held_once p ask f f' (Hold x) (Hold y) None None q q' h k = (ap Hold (h.1 ∙ sym k.1), refl, both p q q' h.2 k.2)
held_once p ask f f' a a' w w' q q' h k = absurd (assumption (h, k))

-- what is so of two answers by one relation, and by another, is so by either
pub either_alike : (b : Bool) (A B : SessionAnswer → Option WorkSeen → Panel → Type 0) (A' B' : SessionAnswer → Option WorkSeen → Panel → Type 0)
    (a a' : SessionAnswer) (w w' : Option WorkSeen) (q q' : Panel) → (A a w q → A' a' w' q' → IsAlike a a' w w' q q')
    → (B a w q → B' a' w' q' → IsAlike a a' w w' q q') → MatchBool b (A a w q) (B a w q) → MatchBool b (A' a' w' q') (B' a' w' q') → IsAlike a a' w w' q q'
either_alike true A B A' B' a a' w w' q q' x y h k = x h k
either_alike false A B A' B' a a' w w' q q' x y h k = y h k

pub action_once : (x : Action) (p : Panel) (ask : SessionAsk) (f f' : Bool) (a a' : SessionAnswer) (w w' : Option WorkSeen) (q q' : Panel)
    → IsWhole (SaysSession a None) → IsWhole (SaysSession a' None) → left_open (effect_of x) p a ≡ left_open (effect_of x) p a' → StepAction x p ask f a w q → StepAction x p ask f' a' w' q' → IsAlike a a' w w' q q'
action_once (AtOnce e) p ask f f' a a' w w' q q' n m s h k = effect_once e p f f' a a' w w' q q' n m s h k
action_once (BetweenScans e) p ask f f' a a' w w' q q' n m s h k =
    either_alike (is_running p) (λ a w q. StepRefused p SettingsConflict f a q × (w ≡ None)) (λ a w q. StepEffect e p f a w q)
    (λ a w q. StepRefused p SettingsConflict f' a q × (w ≡ None)) (λ a w q. StepEffect e p f' a w q) a a' w w' q q'
    (λ x y. (let r = refused_once p SettingsConflict f f' a a' q q' x.0 y.0 in (r.0, x.1 ∙ sym y.1, r.1)))
    (λ x y. effect_once e p f f' a a' w w' q q' n m s x y) h k
action_once (AfterScan e) p ask f f' a a' w w' q q' n m s h k =
    either_alike (is_running p) (λ a w q. StepHeld p ask f a w q) (λ a w q. StepEffect e p f a w q)
    (λ a w q. StepHeld p ask f' a w q) (λ a w q. StepEffect e p f' a w q) a a' w w' q q'
    (λ x y. held_once p ask f f' a a' w w' q q' x y)
    (λ x y. effect_once e p f f' a a' w w' q q' n m s x y) h k

-- no two refusals of a scan apply, nor one where a scan may begin
pub refusal_once : (p : Panel) (e e' : ScpiError) → RefusesScan p e → RefusesScan p e' → e ≡ e'
refusal_once p InitIgnored InitIgnored h k = refl
refusal_once p SettingsConflict SettingsConflict h k = refl
refusal_once p SystemError SystemError h k = refl
refusal_once p InitIgnored SettingsConflict h k = absurd (true_false _ h k.0)
refusal_once p InitIgnored SystemError h k = absurd (true_false _ h k.0)
refusal_once p SettingsConflict InitIgnored h k = absurd (true_false _ k h.0)
refusal_once p SystemError InitIgnored h k = absurd (true_false _ k h.0)
refusal_once p SettingsConflict SystemError h k = absurd (true_false _ h.1 k.1)
refusal_once p SystemError SettingsConflict h k = absurd (true_false _ k.1 h.1)
refusal_once p e e' h k = absurd (assumption (h, k))

pub may_apart : (p : Panel) (e : ScpiError) → MayScan p → RefusesScan p e → ⊥
may_apart p InitIgnored may h = true_false _ h may.idle
may_apart p SettingsConflict may h = true_false _ h.1 may.home
may_apart p SystemError may h = omega (arith, may.numbered, h.2)
may_apart p e may h = absurd h

-- what comes of an ask for a snapshot: it is given, or refused
abbrev pub IsGiven : Panel → SessionAnswer → Panel → Type 0
IsGiven p a q = MayScan p × (a ≡ answers.Snapshot (snapshot_of p) p.cage.number) × (q ≡ p)

abbrev pub IsDenied : Panel → SessionAnswer → Panel → Type 0
IsDenied p a q = (e : ScpiError) × RefusesScan p e × (a ≡ Refused e) × (q ≡ p)

pub snapshot_as : (p : Panel) (f : Bool) (a : SessionAnswer) (q : Panel) → IsWhole (SaysSession a None) → StepSnapshot p f a q → IsGiven p a q ⊎ IsDenied p a q
snapshot_as p f (answers.Snapshot s number) q n h = inl (h.1, ap (λ (s : Snapshot). answers.Snapshot s number) h.2 ∙ ap (λ (n : ℕ). answers.Snapshot (snapshot_of p) n) h.4, h.3)
snapshot_as p f (Refused OutOfMemory) q n h = absurd (n.0 refl)
snapshot_as p f (Refused e) q n h = inr (e, h.1, refl, h.2)
snapshot_as p f a q n h = absurd h

pub snapshot_once : (p : Panel) (f f' : Bool) (a a' : SessionAnswer) (q q' : Panel) → IsWhole (SaysSession a None) → IsWhole (SaysSession a' None)
    → StepSnapshot p f a q → StepSnapshot p f' a' q' → IsOnce a a' q q'
snapshot_once p f f' a a' q q' n m h k = elim (snapshot_as p f a q n h) [
  | inl x ↦ elim (snapshot_as p f' a' q' m k) [ inl y ↦ (x.1 ∙ sym y.1, both p q q' x.2 y.2) | inr y ↦ absurd (may_apart p y.0 x.0 y.1) ]
  | inr x ↦ elim (snapshot_as p f' a' q' m k) [
    | inl y ↦ absurd (may_apart p x.0 y.0 x.1)
    | inr y ↦ (x.2 ∙ ap Refused (refusal_once p x.0 y.0 x.1 y.1) ∙ sym y.2, both p q q' x.3 y.3)
  ]
]

-- what comes of a start: it is done, or the plan is of another state, or it is refused
abbrev pub IsBegun : Panel → Snapshot → SessionAnswer → Option WorkSeen → Panel → Type 0
IsBegun p plan a w q = (f : Bool) × IsStarted p plan f a w q

abbrev pub IsStale : Panel → Snapshot → SessionAnswer → Option WorkSeen → Panel → Type 0
IsStale p plan a w q = MayScan p × (plan ≢ snapshot_of p) × (a ≡ Refused SettingsConflict) × (w ≡ None) × (q ≡ p)

abbrev pub IsBarred : Panel → SessionAnswer → Option WorkSeen → Panel → Type 0
IsBarred p a w q = (e : ScpiError) × RefusesScan p e × (a ≡ Refused e) × (w ≡ None) × (q ≡ p)

pub start_as : (p : Panel) (plan : Snapshot) (f : Bool) (a : SessionAnswer) (w : Option WorkSeen) (q : Panel) → IsWhole (SaysSession a None)
    → StepStart p plan f a w q → IsBegun p plan a w q ⊎ (IsStale p plan a w q ⊎ IsBarred p a w q)
start_as p plan f (Done None) w q n h = inl (f, h)
start_as p plan f (Refused HardwareError) w q n h = absurd (n.1 refl)
start_as p plan f (Refused OutOfMemory) None q n h = absurd (n.0 refl)
start_as p plan f (Refused SettingsConflict) None q n h =
    elim h.1 [ inl r ↦ inr (inr (SettingsConflict, r, refl, refl, h.2)) | inr r ↦ inr (inl (r.0, r.1, refl, refl, h.2)) ]
start_as p plan f (Refused e) None q n h = inr (inr (e, h.1, refl, refl, h.2))
start_as p plan f a w q n h = absurd h

pub begun_whole : (p : Panel) (plan : Snapshot) (a : SessionAnswer) (w : Option WorkSeen) (q : Panel) → IsWhole (SaysSession a None)
    → (b : IsBegun p plan a w q) → b.1.told ≢ SaysFault
begun_whole p plan a w q n b e =
    let g : a ≡ Refused HardwareError = b.1.answer_is ∙ ap (λ (x : TakenSeen). started_answer x) e in
    let plain : IsWhole (SaysSession (Refused HardwareError) None) = subst (λ (x : SessionAnswer). IsWhole (SaysSession x None)) g n in
    plain.1 refl

pub begun_once : (p : Panel) (plan : Snapshot) (a a' : SessionAnswer) (w w' : Option WorkSeen) (q q' : Panel) → IsWhole (SaysSession a None)
    → IsWhole (SaysSession a' None) → IsBegun p plan a w q → IsBegun p plan a' w' q' → IsAlike a a' w w' q q'
begun_once p plan a a' w w' q q' n m x y =
    let r = starts_once p q q' plan x.0 y.0 x.1.told y.1.told x.1.starts y.1.starts (begun_whole p plan a w q n x) (begun_whole p plan a' w' q' m y) in (
      x.1.answer_is ∙ ap (λ (z : TakenSeen). started_answer z) r.0 ∙ sym y.1.answer_is,
      x.1.work_is ∙ ap (λ (z : TakenSeen). work_of z) r.0
          ∙ sym y.1.work_is,
      r.1,
    )

pub start_once : (p : Panel) (plan : Snapshot) (f f' : Bool) (a a' : SessionAnswer) (w w' : Option WorkSeen) (q q' : Panel) → IsWhole (SaysSession a None)
    → IsWhole (SaysSession a' None) → StepStart p plan f a w q → StepStart p plan f' a' w' q' → IsAlike a a' w w' q q'
start_once p plan f f' a a' w w' q q' n m h k = elim (start_as p plan f a w q n h) [
  | inl x ↦ elim (start_as p plan f' a' w' q' m k) [
    | inl y ↦ begun_once p plan a a' w w' q q' n m x y
    | inr s ↦ elim s [ inl y ↦ absurd (y.1 x.1.starts.1) | inr y ↦ absurd (may_apart p y.0 x.1.may y.1) ]
  ]
  | inr s ↦ elim s [
    | inl x ↦ elim (start_as p plan f' a' w' q' m k) [
      | inl y ↦ absurd (x.1 y.1.starts.1)
      | inr t ↦ elim t [ inl y ↦ (x.2 ∙ sym y.2, x.3 ∙ sym y.3, both p q q' x.4 y.4) | inr y ↦ absurd (may_apart p y.0 x.0 y.1) ]
    ]
    | inr x ↦ elim (start_as p plan f' a' w' q' m k) [
      | inl y ↦ absurd (may_apart p x.0 y.1.may x.1)
      | inr t ↦ elim t [
        | inl y ↦ absurd (may_apart p x.0 y.0 x.1)
        | inr y ↦
            (x.2 ∙ ap Refused (refusal_once p x.0 y.0 x.1 y.1) ∙ sym y.2, x.3 ∙ sym y.3, both p q q' x.4 y.4)
      ]
    ]
  ]
]
