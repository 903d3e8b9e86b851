-- Where memory suffices, a step leaves no choice but what comes of the cards.
use Rattle.std.proofs.Common.{◌≡◌, ◌≢◌, ◌==◌, ◌&&◌, not, Bool, true, false, Option, None, Some, refl, sym, ◌∙◌, ap, subst, inl, inr, ◌⊎◌, map}
use Rattle.std.specs.Prelude.{MatchBool}
use Rattle.sw_cage.specs.Work.{FinishedSeen}
use Rattle.sw_cage.specs.TakenSeen.{TakenSeen, SaysFault}
use Rattle.sw_cage.specs.declared.taken.Happening.{Happening}
use Rattle.sw_cage.specs.declared.taken.Happening.TheVariants.{External, Elapsed}
use Rattle.sw_core.specs.declared.ask.SessionAsk.{SessionAsk}
use Rattle.sw_core.specs.declared.ask.SessionAnswer.{SessionAnswer}
use Rattle.sw_core.specs.declared.ask.SessionAnswer.TheVariants.{Worn}
use Rattle.sw_core.specs.Seats.{asker_of}
use Rattle.sw_core.specs.Panel.{Panel}
use Rattle.sw_core.specs.Event.{concluded, last_number}
use Rattle.sw_core.specs.Seen.{WorkSeen, AskSeen, AskSession, AskInstall, AskEject, AskExternal, AskElapsed, AskFinished, AnswerSeen, SaysSession}
use Rattle.sw_core.specs.Seen.{SaysInstalled, SaysNotInstalled, SaysEjected, SaysNotEjected, SaysFailed, SaysBack, SaysWorn}
use Rattle.sw_core.specs.Step.{outside_told, StepOutside, IsOut, IsReturned, StepFinished, Acts, acts_unnumbered, IsWorn, IsEvent, IsUnnumbered, Step}
use Rattle.sw_core.specs.Run.{IsPlain, KeepsKey, tells_failure, failures_in, failures_after}
use Rattle.sw_base.specs.declared.error.ScpiError.{ScpiError}
use Rattle.sw_core.specs.declared.ask.SessionAnswer.TheVariants.{Refused}
use Rattle.sw_core.specs.LeftOpen.{leaves_open}
use Rattle.sw_core.proofs.FallenLemmas.{step_fell}
use Rattle.sw_core.proofs.ObeyedLemmas.{failed}
use Rattle.sw_core.proofs.GoingLemmas.{happens_once, returns_once}
use Rattle.sw_core.proofs.OneCommandLemmas.{IsOnce, IsWhole, both}
use Rattle.sw_core.proofs.OneScanLemmas.{plain_any}
use Rattle.sw_core.proofs.OneSessionLemmas.{session_once}
use Rattle.sw_core.proofs.OneCardLemmas.{install_apart, install_once, eject_once, eject_apart}

outside_whole : (a : AnswerSeen) (told : TakenSeen) → IsWhole a → a ≡ outside_told told → told ≢ SaysFault
outside_whole a told n e f =
    let g : a ≡ SaysFailed = e ∙ ap (λ (x : TakenSeen). outside_told x) f in
    subst (λ (x : AnswerSeen). IsWhole x) g n

outside_once : (p : Panel) (happening : Happening) (f f' : Bool) (a a' : AnswerSeen) (q q' : Panel) → IsWhole a → IsWhole a' → StepOutside p happening f a q
    → StepOutside p happening f' a' q' → IsOnce a a' q q'
outside_once p happening f f' a a' q q' n m h k =
    let r = happens_once p q q' happening f f' h.told k.told h.happens k.happens (outside_whole a h.told n h.answer_is)
    (outside_whole a' k.told m k.answer_is) in
    (h.answer_is ∙ ap (λ (x : TakenSeen). outside_told x) r.0 ∙ sym k.answer_is, r.1)

abbrev pub IsBack : Panel → FinishedSeen → AnswerSeen → Panel → Type 0
IsBack p done a q = (IsOut p done → ⊥) × (a ≡ SaysBack) × (q ≡ p)

finished_as : (p : Panel) (done : FinishedSeen) (f : Bool) (a : AnswerSeen) (q : Panel) → StepFinished p done f a q → IsBack p done a q
    ⊎ IsReturned p done f a q
finished_as p done f SaysBack q h = inl (h.1, refl, h.2)
finished_as p done f a q h = inr h

finished_once : (p : Panel) (done : FinishedSeen) (f f' : Bool) (a a' : AnswerSeen) (q q' : Panel) → IsWhole a → IsWhole a' → StepFinished p done f a q
    → StepFinished p done f' a' q' → IsOnce a a' q q'
finished_once p done f f' a a' q q' n m h k = elim (finished_as p done f a q h) [
  | inl x ↦ elim (finished_as p done f' a' q' k) [ inl y ↦ (x.1 ∙ sym y.1, both p q q' x.2 y.2) | inr y ↦ absurd (x.0 y.out) ]
  | inr x ↦ elim (finished_as p done f' a' q' k) [
    | inl y ↦ absurd (y.0 x.out)
    | inr y ↦ (let r = returns_once p q q' done f f' x.told y.told x.returns y.returns (outside_whole a x.told n x.answer_is)
        (outside_whole a' y.told m y.answer_is) in (x.answer_is ∙ ap (λ (z : TakenSeen). outside_told z) r.0 ∙ sym y.answer_is, r.1))
  ]
]

acts_once : (p q q' : Panel) (ask : AskSeen) (f f' : Bool) (a a' : AnswerSeen) → Acts p ask f a q → Acts p ask f' a' q' → IsWhole a → IsWhole a' → leaves_open p ask a ≡ leaves_open p ask a'
    → KeepsKey p ask a → KeepsKey p ask a' → (a ≡ a') × (q ≡ q')
acts_once p q q' (AskSession ask) f f' (SaysSession a w) (SaysSession a' w') h k n m s kx ky =
    let r = session_once (asker_of ask) p ask f f' a a' w w' q q' (plain_any a w None n) (plain_any a' w' None m) s kx ky h k in
    (ap (λ (x : SessionAnswer). SaysSession x w) r.0 ∙ ap (λ (x : Option WorkSeen). SaysSession a' x) r.1, r.2)
acts_once p q q' (AskInstall slot card) f f' SaysInstalled SaysInstalled h k n m s kx ky = (refl, h.4 ∙ sym k.4)
acts_once p q q' (AskInstall slot card) f f' SaysInstalled (SaysNotInstalled r) h k n m s kx ky = absurd (install_apart p slot card r h.1 h.2 h.3 k.1)
acts_once p q q' (AskInstall slot card) f f' (SaysNotInstalled r) SaysInstalled h k n m s kx ky = absurd (install_apart p slot card r k.1 k.2 k.3 h.1)
acts_once p q q' (AskInstall slot card) f f' (SaysNotInstalled r) (SaysNotInstalled r') h k n m s kx ky =
    (ap SaysNotInstalled (install_once p slot card r r' h.1 k.1), both p q q' h.2 k.2)
acts_once p q q' (AskEject slot) f f' (SaysEjected c) (SaysEjected c') h k n m s kx ky =
    let e : Some c ≡ Some c' = sym h.2 ∙ k.2 in
    (let d : c ≡ c' = cc in ap SaysEjected d, h.3 ∙ sym k.3)
acts_once p q q' (AskEject slot) f f' (SaysEjected c) (SaysNotEjected r) h k n m s kx ky = absurd (eject_apart p slot c r h.1 h.2 k.1)
acts_once p q q' (AskEject slot) f f' (SaysNotEjected r) (SaysEjected c) h k n m s kx ky = absurd (eject_apart p slot c r k.1 k.2 h.1)
acts_once p q q' (AskEject slot) f f' (SaysNotEjected r) (SaysNotEjected r') h k n m s kx ky =
    (ap SaysNotEjected (eject_once p slot r r' h.1 k.1), both p q q' h.2 k.2)
acts_once p q q' AskExternal f f' a a' h k n m s kx ky = outside_once p External f f' a a' q q' n m h k
acts_once p q q' (AskElapsed ticket) f f' a a' h k n m s kx ky = outside_once p (Elapsed ticket) f f' a a' q q' n m h k
acts_once p q q' (AskFinished done) f f' a a' h k n m s kx ky = finished_once p done f f' a a' q q' n m h k
acts_once p q q' ask f f' a a' h k n m s kx ky = absurd (assumption (h, k))

event_once : (p q q' : Panel) (ask : AskSeen) (f f' : Bool) (a a' : AnswerSeen) → IsEvent p ask f a q → IsEvent p ask f' a' q' → IsWhole a → IsWhole a' → leaves_open p ask a ≡ leaves_open p ask a'
    → KeepsKey p ask a → KeepsKey p ask a' → (a ≡ a') × (q ≡ q')
event_once p q q' ask f f' a a' h k n m s kx ky =
    let r = acts_once p h.done k.done ask f f' a a' h.acts k.acts n m s kx ky in
    (r.0, h.after ∙ ap (λ (x : Panel). concluded a x) r.1 ∙ ap (λ (b : AnswerSeen). concluded b k.done) r.0 ∙ sym k.after)

worn_once : (ask : AskSeen) (a a' : AnswerSeen) → IsWorn ask a → IsWorn ask a' → a ≡ a'
worn_once (AskSession ask) (SaysSession (Worn x) None) (SaysSession (Worn y) None) h k = ap (λ (z : SessionAsk). SaysSession (Worn z) None) (h ∙ sym k)
worn_once (AskInstall slot card) SaysWorn SaysWorn h k = refl
worn_once (AskEject slot) SaysWorn SaysWorn h k = refl
worn_once AskExternal SaysWorn SaysWorn h k = refl
worn_once (AskElapsed ticket) SaysWorn SaysWorn h k = refl
worn_once (AskFinished done) SaysWorn SaysWorn h k = refl
worn_once ask a a' h k = absurd (assumption (h, k))

either_once : (b : Bool) (p q q' : Panel) (ask : AskSeen) (f f' : Bool) (a a' : AnswerSeen) → MatchBool b (IsUnnumbered p ask f a q) (IsEvent p ask f a q)
    → MatchBool b (IsUnnumbered p ask f' a' q') (IsEvent p ask f' a' q') → IsWhole a → IsWhole a' → leaves_open p ask a ≡ leaves_open p ask a' → KeepsKey p ask a → KeepsKey p ask a' → (a ≡ a') × (q ≡ q')
either_once true p q q' ask f f' a a' h k n m s kx ky = (worn_once ask a a' h.worn k.worn, both p q q' h.same k.same)
either_once false p q q' ask f f' a a' h k n m s kx ky = event_once p q q' ask f f' a a' h k n m s kx ky

step_whole : (p q q' : Panel) (ask : AskSeen) (f f' : Bool) (a a' : AnswerSeen) → Step p ask f a q → Step p ask f' a' q' → IsWhole a → IsWhole a' → leaves_open p ask a ≡ leaves_open p ask a'
    → KeepsKey p ask a → KeepsKey p ask a' → (a ≡ a') × (q ≡ q')
step_whole p q q' ask f f' a a' h k n m s kx ky = either_once ((p.events == last_number) && not (acts_unnumbered ask)) p q q' ask f f' a a' h k n m s kx ky

-- where no card failed, none is told of
whole : (a : AnswerSeen) → IsPlain a → (tells_failure a ≡ true → ⊥) → IsWhole a
whole (SaysSession (Refused e) w) n never = (n, λ is. never (ap (λ (x : ScpiError). tells_failure (SaysSession (Refused x) w)) is))
whole SaysFailed n never = absurd (never refl)
whole a n never = tt

false_is_true : false ≡ true → ⊥
false_is_true e = absurd (cc e)

unfailed : (p q : Panel) (ask : AskSeen) (a : AnswerSeen) → Step p ask false a q → tells_failure a ≡ true → ⊥
unfailed p q ask a h is = false_is_true (failed p q ask false a is h).0

pub step_once : (p q q' : Panel) (ask : AskSeen) (f f' : Bool) (a a' : AnswerSeen) → Step p ask f a q → Step p ask f' a' q'
    → failures_after f q.cage.cards ≡ failures_after f' q'.cage.cards → leaves_open p ask a ≡ leaves_open p ask a' → IsPlain a → IsPlain a' → KeepsKey p ask a → KeepsKey p ask a' → (a ≡ a') × (q ≡ q')
step_once p q q' ask false false a a' h k same s n m kx ky =
    step_whole p q q' ask false false a a' h k (whole a n (unfailed p q ask a h)) (whole a' m (unfailed p q' ask a' k)) s kx ky
step_once p q q' ask true true a a' h k same s n m kx ky =
    let counts : map failures_in q.cage.cards ≡ map failures_in q'.cage.cards = cc in step_fell p q q' ask a a' h k counts
step_once p q q' ask false true a a' h k same s n m kx ky = absurd (cc same)
step_once p q q' ask true false a a' h k same s n m kx ky = absurd (cc same)
