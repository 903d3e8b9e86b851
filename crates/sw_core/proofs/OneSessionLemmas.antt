-- So has what a session asks.
use Rattle.std.proofs.Common.{◌≡◌, ℕ, Bool, Option, None, Some, refl, sym, ◌∙◌, ap, arith, inl, inr, ◌⊎◌}
use Rattle.std.proofs.lemmas.Bool.{cases_lt}
use Rattle.sw_base.specs.declared.error.ScpiError.{ScpiError}
use Rattle.sw_base.specs.declared.error.ScpiError.TheVariants.{TriggerIgnored}
use Rattle.sw_cage.specs.declared.taken.Happening.TheVariants.{Bus}
use Rattle.sw_core.specs.declared.ask.Sid.{Sid}
use Rattle.sw_core.specs.declared.ask.SessionAsk.{SessionAsk}
use Rattle.sw_core.specs.declared.ask.SessionAsk.TheVariants as Ask
use Rattle.sw_core.specs.declared.ask.SessionAnswer.{SessionAnswer}
use Rattle.sw_core.specs.declared.ask.SessionAnswer.TheVariants.{Joined, Full, Stranger, Broken, Done}
use Rattle.sw_core.specs.Sessions.{SessionsSeen, IsJoined, IsLeastFree, fresh_seat, with_seat}
use Rattle.sw_core.specs.Seats.{FindsKey}
use Rattle.sw_core.proofs.SeatingLemmas.{seat_once}
use Rattle.sw_core.specs.Panel.{Panel}
use Rattle.sw_core.specs.Action.{action_of}
use Rattle.sw_core.specs.Event.{next_number}
use Rattle.sw_core.specs.Seen.{WorkSeen, SaysSession}
use Rattle.sw_core.specs.Step.{StepAdmitted, StepAttach, StepNew, IsServed}
use Rattle.sw_core.specs.Step.{StepJoin, StepJoined, StepSession}
use Rattle.sw_core.specs.Step.{Admission, Dropped, ShutOut, Admitted, admission}
use Rattle.sw_core.specs.LeftOpen.{answer_leaves}
use Rattle.sw_core.proofs.OneCommandLemmas.{IsWhole, both}
use Rattle.sw_core.proofs.OneScanLemmas.{IsAlike, happening_once, held_once, action_once, snapshot_once, start_once}

pub least_once : (sessions : SessionsSeen) (n m : ℕ) → IsLeastFree sessions n → IsLeastFree sessions m → n ≡ m
least_once sessions n m a b = elim (cases_lt n m) [
  | inl l ↦ absurd (b.below n a.first l a.free)
  | inr k ↦ elim (cases_lt m n) [ inl l ↦ absurd (a.below m b.first l b.free) | inr j ↦ omega arith ]
]

pub sid_once : (s t : Sid) → s.number ≡ t.number → s.joined ≡ t.joined → s ≡ t
sid_once s t e f =
    ap (λ (n : ℕ). let r : Sid = record { number = n; joined = s.joined } in r) e
    ∙ ap (λ (j : ℕ). let r : Sid = record { number = t.number; joined = j } in r) f

pub join_once : (p : Panel) (f f' : Bool) (a a' : SessionAnswer) (w w' : Option WorkSeen) (q q' : Panel) → StepJoin p f a w q → StepJoin p f' a' w' q'
    → IsAlike a a' w w' q q'
join_once p f f' (Joined s) (Joined t) None None q q' h k =
    let e : s.number ≡ t.number = least_once p.sessions s.number t.number h.1 k.1 in (
      ap Joined (sid_once s t e (h.2 ∙ sym k.2)),
      refl,
      h.3
          ∙ ap (λ (x : ℕ). let r : Panel = record p { sessions = with_seat p.sessions x (Some (fresh_seat (next_number p.events))) } in r) e ∙ sym k.3,
    )
join_once p f f' (Joined s) Full None None q q' h k = absurd (k.1 s.number h.1.first h.1.last h.1.free)
join_once p f f' Full (Joined s) None None q q' h k = absurd (h.1 s.number k.1.first k.1.last k.1.free)
join_once p f f' Full Full None None q q' h k = (refl, refl, both p q q' h.2 k.2)
join_once p f f' a a' w w' q q' h k = absurd (assumption (h, k))

pub served_once : (p : Panel) (ask : SessionAsk) (f f' : Bool) (a a' : SessionAnswer) (q q' : Panel) → FindsKey p.sessions ask a → FindsKey p.sessions ask a'
    → IsServed p ask f a q → IsServed p ask f' a' q' → IsAlike a a' None None q q'
served_once p ask f f' a a' q q' n m h k =
    let r = seat_once p.sessions ask a a' h.sessions k.sessions n m h.served k.served in
    (r.0, refl, h.after ∙ ap (λ (x : SessionsSeen). let y : Panel = record p { sessions = x } in y) r.1 ∙ sym k.after)

-- an error is queued, and nothing else is answered
pub fault_once : (p : Panel) (sid : Sid) (e : ScpiError) (f f' : Bool) (a a' : SessionAnswer) (q q' : Panel) → StepJoined p (Ask.Fault sid e) f a None q
    → StepJoined p (Ask.Fault sid e) f' a' None q' → IsAlike a a' None None q q'
fault_once p sid e f f' (Done None) (Done None) q q' h k = (refl, refl, h.1 ∙ sym k.1)
fault_once p sid e f f' (Done None) a' q q' h k = absurd k.served
fault_once p sid e f f' a a' q q' h k = absurd h.served

pub fault_none : (p : Panel) (sid : Sid) (e : ScpiError) (f : Bool) (a : SessionAnswer) (w : WorkSeen) (q : Panel)
    → StepJoined p (Ask.Fault sid e) f a (Some w) q → ⊥
fault_none p sid e f (Done None) w q h = h
fault_none p sid e f a w q h = h

pub joined_once : (p : Panel) (ask : SessionAsk) (f f' : Bool) (a a' : SessionAnswer) (w w' : Option WorkSeen) (q q' : Panel) → IsWhole (SaysSession a None)
    → IsWhole (SaysSession a' None) → answer_leaves p ask a ≡ answer_leaves p ask a' → FindsKey p.sessions ask a → FindsKey p.sessions ask a' → StepJoined p ask f a w q → StepJoined p ask f' a' w' q'
    → IsAlike a a' w w' q q'
joined_once p (Ask.Fault sid e) f f' a a' None None q q' n m s x y h k = fault_once p sid e f f' a a' q q' h k
joined_once p (Ask.Fault sid e) f f' a a' (Some w) w' q q' n m s x y h k = absurd (fault_none p sid e f a w q h)
joined_once p (Ask.Fault sid e) f f' a a' None (Some w) q q' n m s x y h k = absurd (fault_none p sid e f' a' w q' k)
joined_once p (Ask.Unit sid command available) f f' a a' w w' q q' n m s x y h k =
    action_once (action_of available command) p (Ask.Unit sid command available) f f' a a' w w' q q' n m s h k
joined_once p (Ask.Bus sid) f f' a a' w w' q q' n m s x y h k = happening_once p Bus TriggerIgnored f f' a a' w w' q q' n m h k
joined_once p (Ask.Snapshot sid) f f' a a' None None q q' n m s x y h k = let r = snapshot_once p f f' a a' q q' n m h k in (r.0, refl, r.1)
joined_once p (Ask.Start sid plan) f f' a a' w w' q q' n m s x y h k = start_once p plan f f' a a' w w' q q' n m h k
joined_once p (Ask.Attached sid) f f' b b' None None q q' n m s x y h k = served_once p (Ask.Attached sid) f f' b b' q q' x y h k
joined_once p (Ask.Leave sid) f f' b b' None None q q' n m s x y h k = served_once p (Ask.Leave sid) f f' b b' q q' x y h k
joined_once p (Ask.Size sid size) f f' b b' None None q q' n m s x y h k = served_once p (Ask.Size sid size) f f' b b' q q' x y h k
joined_once p (Ask.MaxSize sid) f f' b b' None None q q' n m s x y h k = served_once p (Ask.MaxSize sid) f f' b b' q q' x y h k
joined_once p (Ask.Clear sid) f f' b b' None None q q' n m s x y h k = served_once p (Ask.Clear sid) f f' b b' q q' x y h k
joined_once p (Ask.Cleared sid) f f' b b' None None q q' n m s x y h k = served_once p (Ask.Cleared sid) f f' b b' q q' x y h k
joined_once p (Ask.Lock sid key) f f' b b' None None q q' n m s x y h k = served_once p (Ask.Lock sid key) f f' b b' q q' x y h k
joined_once p (Ask.Release sid) f f' b b' None None q q' n m s x y h k = served_once p (Ask.Release sid) f f' b b' q q' x y h k
joined_once p (Ask.LockInfo sid) f f' b b' None None q q' n m s x y h k = served_once p (Ask.LockInfo sid) f f' b b' q q' x y h k
joined_once p Ask.Join f f' a a' None None q q' n m s x y h k = served_once p Ask.Join f f' a a' q q' x y h k
joined_once p (Ask.Attach number) f f' a a' None None q q' n m s x y h k = served_once p (Ask.Attach number) f f' a a' q q' x y h k
joined_once p ask f f' a a' w w' q q' n m s x y h k = absurd (assumption (h, k))

pub admitted_once : (now : Admission) (p : Panel) (ask : SessionAsk) (f f' : Bool) (a a' : SessionAnswer) (w w' : Option WorkSeen) (q q' : Panel)
    → IsWhole (SaysSession a None) → IsWhole (SaysSession a' None) → answer_leaves p ask a ≡ answer_leaves p ask a' → FindsKey p.sessions ask a → FindsKey p.sessions ask a' → StepAdmitted now p ask f a w q
    → StepAdmitted now p ask f' a' w' q' → IsAlike a a' w w' q q'
admitted_once Dropped p ask f f' Broken Broken None None q q' n m s x y h k = (refl, refl, both p q q' h.1 k.1)
admitted_once Dropped p ask f f' a a' w w' q q' n m s x y h k = absurd (assumption (h, k))
admitted_once ShutOut p ask f f' a a' w w' q q' n m s x y h k = held_once p ask f f' a a' w w' q q' h k
admitted_once Admitted p ask f f' a a' w w' q q' n m s x y h k = joined_once p ask f f' a a' w w' q q' n m s x y h k

pub attach_once : (p : Panel) (number : ℕ) (f f' : Bool) (a a' : SessionAnswer) (w w' : Option WorkSeen) (q q' : Panel) → StepAttach p number f a w q
    → StepAttach p number f' a' w' q' → IsAlike a a' w w' q q'
attach_once p number f f' (Joined s) (Joined t) None None q q' h k =
    let after : q.sessions ≡ q'.sessions = h.1.after ∙ sym k.1.after in (
      ap Joined (sid_once s t (h.1.number_is ∙ sym k.1.number_is) (h.1.joined ∙ sym k.1.joined)),
      refl,
      h.2
          ∙ ap (λ (x : SessionsSeen). let r : Panel = record p { sessions = x } in r) after ∙ sym k.2,
    )
attach_once p number f f' (Joined s) Stranger None None q q' h k = absurd (k.1 h.1.lacks)
attach_once p number f f' Stranger (Joined s) None None q q' h k = absurd (h.1 k.1.lacks)
attach_once p number f f' Stranger Stranger None None q q' h k = (refl, refl, both p q q' h.2 k.2)
attach_once p number f f' a a' w w' q q' h k = absurd (assumption (h, k))

pub new_once : (p : Panel) (ask : SessionAsk) (f f' : Bool) (a a' : SessionAnswer) (w w' : Option WorkSeen) (q q' : Panel) → StepNew p ask f a w q
    → StepNew p ask f' a' w' q' → IsAlike a a' w w' q q'
new_once p Ask.Join f f' a a' w w' q q' h k = join_once p f f' a a' w w' q q' h k
new_once p (Ask.Attach number) f f' a a' w w' q q' h k = attach_once p number f f' a a' w w' q q' h k
new_once p ask f f' a a' w w' q q' h k = absurd (assumption (h, k))

-- a stranger, or a joined session
abbrev pub IsStrange : Panel → Sid → SessionAnswer → Option WorkSeen → Panel → Type 0
IsStrange p sid a w q = (IsJoined p.sessions sid → ⊥) × (a ≡ Stranger) × (w ≡ None) × (q ≡ p)

pub session_as : (p : Panel) (sid : Sid) (ask : SessionAsk) (f : Bool) (a : SessionAnswer) (w : Option WorkSeen) (q : Panel)
    → StepSession (Some sid) p ask f a w q → IsStrange p sid a w q
    ⊎ (IsJoined p.sessions sid × StepAdmitted (admission p sid ask) p ask f a w q)
session_as p sid ask f Stranger None q h = inl (h.1, refl, refl, h.2)
session_as p sid ask f a w q h = inr h

pub session_once : (o : Option Sid) (p : Panel) (ask : SessionAsk) (f f' : Bool) (a a' : SessionAnswer) (w w' : Option WorkSeen) (q q' : Panel)
    → IsWhole (SaysSession a None) → IsWhole (SaysSession a' None) → answer_leaves p ask a ≡ answer_leaves p ask a' → FindsKey p.sessions ask a → FindsKey p.sessions ask a' → StepSession o p ask f a w q
    → StepSession o p ask f' a' w' q' → IsAlike a a' w w' q q'
session_once None p ask f f' a a' w w' q q' n m s kx ky h k = new_once p ask f f' a a' w w' q q' h k
session_once (Some sid) p ask f f' a a' w w' q q' n m s kx ky h k = elim (session_as p sid ask f a w q h) [
  | inl x ↦ elim (session_as p sid ask f' a' w' q' k) [ inl y ↦ (x.1 ∙ sym y.1, x.2 ∙ sym y.2, both p q q' x.3 y.3) | inr y ↦ absurd (x.0 y.0) ]
  | inr x ↦ elim (session_as p sid ask f' a' w' q' k) [
    | inl y ↦ absurd (y.0 x.0)
    | inr y ↦
        admitted_once (admission p sid ask) p ask f f' a a' w w' q q' n m s kx ky x.1 y.1
  ]
]
