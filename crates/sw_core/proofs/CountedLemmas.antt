-- A card's failure that is counted is told.
use Rattle.std.proofs.Common.{◌≡◌, ℕ, zero, suc, ◌-◌, ◌<◌, ◌==◌, ◌&&◌, ◌||◌, not, Bool, true, false, [], ◌∷◌, Option, None, Some, is_some, is_err}
use Rattle.std.proofs.Common.{slice_set, slice_index_or, refl, sym, ◌∙◌, ap, subst, inl, inr}
use Rattle.std.specs.Prelude.{MatchBool}
use Rattle.sw_base.specs.Layout.{slot_at}
use Rattle.sw_card.specs.Account.{Account, of_meter}
use Rattle.sw_trigger.specs.declared.layer.Awaited.{Awaited}
use Rattle.sw_cage.specs.Accounts.{Accounts}
use Rattle.sw_cage.specs.Cage.{ScanSeen, CageSeen, ticket_of}
use Rattle.sw_cage.specs.Change.{option_failed, any_failed}
use Rattle.sw_cage.specs.Good.{IsGood, IsHeld, IsRunning, MeterStands}
use Rattle.sw_cage.specs.Takes.{TakesReturnThere}
use Rattle.sw_cage.specs.Outcome.{with_back}
use Rattle.sw_cage.specs.Work.{FinishedSeen}
use Rattle.sw_cage.specs.TakenSeen.{TakenSeen, SaysIgnored}
use Rattle.sw_cage.specs.declared.job.Ticket.{Ticket}
use Rattle.sw_cage.proofs.SlotChangeLemmas.{some_slot, slot_get}
use Rattle.sw_core.specs.Panel.{Panel}
use Rattle.sw_core.specs.Event.{last_number}
use Rattle.sw_core.specs.Seen.{AskSeen, AskSession, AskInstall, AskEject, AskExternal, AskElapsed, AskFinished, AnswerSeen}
use Rattle.sw_core.specs.Seen.{SaysMissed, SaysBack, SaysWorn}
use Rattle.sw_core.specs.Seen.{failed_in, with_meter}
use Rattle.sw_core.specs.Step.{outside_told, Returns, StepFinished, acts_unnumbered, IsEvent, IsUnnumbered, Step}
use Rattle.sw_core.specs.Run.{tells_failure, MeasuresInVain, HasFailure, IsAfterCardFault}
use Rattle.sw_core.proofs.CallsLemmas.{failed_same, failed_come}
use Rattle.sw_core.proofs.FallenLemmas.{told_fall, told_acts}
use Rattle.sw_core.proofs.MovingLemmas.{concluded_scan}
use Rattle.sw_core.proofs.ObeyedLemmas.{failed}

-- ---- a step in which a card failed tells so

tells_fall : (ask : AskSeen) → tells_failure (told_fall ask) ≡ true
tells_fall (AskSession ask) = refl
tells_fall ask = refl

told_either : (b : Bool) (p : Panel) (ask : AskSeen) (a : AnswerSeen) (q : Panel)
    → MatchBool b (IsUnnumbered p ask true a q) (IsEvent p ask true a q) → tells_failure a ≡ true
told_either true p ask a q h = absurd (cc (h.unfailed))
told_either false p ask a q h = ap tells_failure (told_acts p ask a h.done h.acts).0 ∙ tells_fall ask

told_step : (p : Panel) (ask : AskSeen) (a : AnswerSeen) (q : Panel) → Step p ask true a q → tells_failure a ≡ true
told_step p ask a q h = told_either ((p.events == last_number) && not (acts_unnumbered ask)) p ask a q h

-- ---- a failure that was counted is one of the step's

or_first : (a b : Bool) → a ≡ true → (a || b) ≡ true
or_first true b h = refl
or_first false b h = absurd (cc (h))

or_second : (a b : Bool) → b ≡ true → (a || b) ≡ true
or_second true b h = refl
or_second false b h = h

-- a card that comes into an empty slot hides no failure of another
failed_beside : (old new : Accounts) (i : ℕ) (v : Option Account) → slice_index_or old i None ≡ None → any_failed old new ≡ true
    → any_failed (slice_set old i v) new ≡ true
failed_beside [] new i v e h = absurd (cc (h))
failed_beside (o ∷ old) [] i v e h = absurd (cc (h))
failed_beside (o ∷ old) (n ∷ new) zero v e h =
    or_second (option_failed v n) (any_failed old new) (sym (ap (λ (x : Option Account). option_failed x n || any_failed old new) e) ∙ h)
failed_beside (o ∷ old) (n ∷ new) (suc i) v e h = by_first (option_failed o n) h (λ k. failed_beside old new i v e k)
  where
    by_first : (b : Bool) → (b || any_failed old new) ≡ true → (any_failed old new ≡ true → any_failed (slice_set old i v) new ≡ true)
        → (b || any_failed (slice_set old i v) new) ≡ true
    by_first true k rest = refl
    by_first false k rest = rest k

-- the meter that a scan awaits is out
awaited_out : (c : CageSeen) (scan : Option ScanSeen) (slot : ℕ) (ticket : Ticket) → IsRunning c scan → TakesReturnThere c.number scan slot ticket
    → slot_at c.out slot ≡ Some ticket
awaited_out c None slot ticket r t = absurd t
awaited_out c (Some at) slot ticket r t =
    let stands : slot_at c.out at.course.meter ≡ Some (ticket_of c.number at) =
    subst (λ (o : Option Awaited). MeterStands (slot_at c.out at.course.meter) (ticket_of c.number at) o) t.reading r.meter in
    ap (λ (s : ℕ). slot_at c.out s) (sym t.slot_is) ∙ stands ∙ ap (λ (x : Ticket). Some x) t.ticket_is

-- where the meter of this return was
pub record HasRoomFor (c : CageSeen) (slot : ℕ) : Type 0 where
  pub first : 0 < slot
  pub empty : slot_at c.cards slot ≡ None

room_for : (c : CageSeen) (slot : ℕ) (ticket : Ticket) → IsHeld c → slot_at c.out slot ≡ Some ticket → HasRoomFor c slot
room_for c slot ticket k e =
    let out : is_some (slot_at c.out slot) ≡ true = ap (λ (o : Option Ticket). is_some o) e in
    record { first = (some_slot c.out slot out).0; empty = k.empty slot out }

beside : (c : CageSeen) (done : FinishedSeen) (new : Accounts) → HasRoomFor c done.slot → any_failed c.cards new ≡ true
    → any_failed (with_meter c.cards done) new ≡ true
beside c done new r h =
    failed_beside c.cards new (done.slot - 1) (Some (of_meter done.meter)) (sym (slot_get c.cards done.slot r.first) ∙ r.empty) h

-- the step in which this meter came back
abbrev Fails : Panel → FinishedSeen → AnswerSeen → Panel → Type 0
Fails p done a q = failed_in (AskFinished done) a p.cage.cards q.cage.cards ≡ true

still : (p q : CageSeen) → q ≡ p → any_failed p.cards q.cards ≡ true → ⊥
still p q e h = let x : false ≡ true = sym (ap (λ (c : CageSeen). any_failed p.cards c.cards) e ∙ failed_same p.cards) ∙ h in cc (x)

by_outcome : (p q : Panel) (done : FinishedSeen) → HasRoomFor p.cage done.slot → HasFailure p (AskFinished done) q
    → (is_err done.outcome || any_failed (with_meter p.cage.cards done) q.cage.cards) ≡ true
by_outcome p q done r (inl h) =
    or_second (is_err done.outcome) (any_failed (with_meter p.cage.cards done) q.cage.cards) (beside p.cage done q.cage.cards r h)
by_outcome p q done r (inr h) = or_first (is_err done.outcome) (any_failed (with_meter p.cage.cards done) q.cage.cards) h.1

-- the ask is handed back: nothing failed but what the meter had
worn_fails : (p : Panel) (done : FinishedSeen) (q : Panel) → q.cage ≡ p.cage → HasFailure p (AskFinished done) q → Fails p done SaysWorn q
worn_fails p done q e (inl h) = absurd (still p.cage q.cage e h)
worn_fails p done q e (inr h) = or_first (is_err done.outcome) (any_failed (with_meter p.cage.cards done) q.cage.cards) h.1

missed_told : (told : TakenSeen) → SaysMissed ≡ outside_told told → told ≡ SaysIgnored
missed_told SaysIgnored e = refl
missed_told told e = absurd (cc (e))

missed_fails : (p : Panel) (done : FinishedSeen) (f : Bool) (m q : Panel) → HasRoomFor p.cage done.slot → q.cage ≡ m.cage → Returns p done f SaysIgnored m
    → HasFailure p (AskFinished done) q → ⊥
missed_fails p done f m q r e h (inl x) =
    let cage : q.cage ≡ with_back p.cage done = e ∙ ap (λ (y : Panel). y.cage) h.2 in
    let none : any_failed p.cage.cards q.cage.cards ≡ false =
    ap (λ (c : CageSeen). any_failed p.cage.cards c.cards) cage
    ∙ failed_come p.cage.cards done.slot (Some (of_meter done.meter)) r.first r.empty in
    let y : false ≡ true = sym none ∙ x in
    cc (y)
missed_fails p done f m q r e h (inr x) = h.1 x.0

event_fails : (p : Panel) (done : FinishedSeen) (f : Bool) (a : AnswerSeen) (m q : Panel) → IsGood p.cage → q.cage ≡ m.cage → StepFinished p done f a m
    → HasFailure p (AskFinished done) q → Fails p done a q
event_fails p done f SaysBack m q g e h (inl x) = absurd (still p.cage q.cage (e ∙ ap (λ (y : Panel). y.cage) h.2) x)
event_fails p done f SaysBack m q g e h (inr x) = absurd (h.1 (awaited_out p.cage p.cage.scan done.slot done.ticket g.running x.0))
event_fails p done f SaysMissed m q g e h x =
    absurd (missed_fails p done f m q (room_for p.cage done.slot done.ticket g.held h.out) e
    (subst (λ (t : TakenSeen). Returns p done f t m) (missed_told h.told h.answer_is) h.returns) x)
event_fails p done f a m q g e h x = by_outcome p q done (room_for p.cage done.slot done.ticket g.held h.out) x

either_fails : (b : Bool) (p : Panel) (done : FinishedSeen) (f : Bool) (a : AnswerSeen) (q : Panel) → IsGood p.cage
    → MatchBool b (IsUnnumbered p (AskFinished done) f a q) (IsEvent p (AskFinished done) f a q) → HasFailure p (AskFinished done) q → Fails p done a q
either_fails true p done f SaysWorn q g h x = worn_fails p done q (ap (λ (y : Panel). y.cage) h.same) x
either_fails true p done f a q g h x = absurd h.worn
either_fails false p done f a q g h x =
    event_fails p done f a h.done q g (ap (λ (y : Panel). y.cage) h.after ∙ concluded_scan a h.done) h.acts x

plain_fails : (p : Panel) (ask : AskSeen) (q : Panel) → (MeasuresInVain p ask → ⊥) → HasFailure p ask q → any_failed p.cage.cards q.cage.cards ≡ true
plain_fails p ask q n (inl h) = h
plain_fails p ask q n (inr h) = absurd (n h)

fails_step : (p : Panel) (ask : AskSeen) (f : Bool) (a : AnswerSeen) (q : Panel) → IsGood p.cage → Step p ask f a q → HasFailure p ask q
    → failed_in ask a p.cage.cards q.cage.cards ≡ true
fails_step p (AskFinished done) f a q g h x = either_fails ((p.events == last_number) && not true) p done f a q g h x
fails_step p (AskSession ask) f a q g h x = plain_fails p (AskSession ask) q (λ n. n) x
fails_step p (AskInstall slot card) f a q g h x = plain_fails p (AskInstall slot card) q (λ n. n) x
fails_step p (AskEject slot) f a q g h x = plain_fails p (AskEject slot) q (λ n. n) x
fails_step p AskExternal f a q g h x = plain_fails p AskExternal q (λ n. n) x
fails_step p (AskElapsed ticket) f a q g h x = plain_fails p (AskElapsed ticket) q (λ n. n) x

-- a failure that was counted is told, every relay is open, and no scan runs
pub counted_told : (p : Panel) (ask : AskSeen) (a : AnswerSeen) (q : Panel) → IsGood p.cage
    → Step p ask (failed_in ask a p.cage.cards q.cage.cards) a q → HasFailure p ask q → (tells_failure a ≡ true) × IsAfterCardFault p q
counted_told p ask a q g h x =
    let there : failed_in ask a p.cage.cards q.cage.cards ≡ true = fails_step p ask (failed_in ask a p.cage.cards q.cage.cards) a q g h x in
    let told = told_step p ask a q (subst (λ (b : Bool). Step p ask b a q) there h) in
    (told, (failed p q ask (failed_in ask a p.cage.cards q.cage.cards) a told h).1)
