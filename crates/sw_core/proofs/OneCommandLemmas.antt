-- A command that is carried out has one answer, where memory suffices and no card fails.
use Rattle.std.proofs.Common.{◌≡◌, ◌≢◌, ℕ, Bool, true, false, List, Option, None, Some, refl, sym, ◌∙◌, ap, [], ◌∷◌, map}
use Rattle.sw_base.specs.Layout.{Channel}
use Rattle.sw_base.specs.declared.error.ScpiError.{ScpiError}
use Rattle.sw_base.specs.declared.error.ScpiError.TheVariants.{UndefinedHeader, DataCorruptOrStale, HardwareMissing, SettingsConflict, HardwareError}
use Rattle.sw_base.specs.declared.error.ScpiError.TheVariants.{OutOfMemory}
use Rattle.std.specs.List.{join_with_byte}
use Rattle.sw_base.specs.Reading.{reading_text}
use Rattle.sw_base.specs.declared.reading.Reading.{Reading}
use Rattle.sw_verify.specs.declared.setup.Setup.{Setup}
use Rattle.sw_status.specs.StatusModel.{StatusSeen}
use Rattle.sw_cage.specs.Accounts.{Accounts}
use Rattle.sw_cage.specs.Change.{Sets}
use Rattle.sw_core.specs.declared.ask.SessionAnswer.{SessionAnswer}
use Rattle.sw_core.specs.declared.ask.SessionAnswer.TheVariants.{Done, Refused}
use Rattle.sw_core.specs.Panel.{Panel, with_cards}
use Rattle.sw_core.specs.LeftOpen.{left_open}
use Rattle.sw_core.specs.Action.{Effect, TellsText, TellsReadings, ReadsOut, SetsStatus, SetsUp, ClosesListed, OpensListed, TellsHardware, TellsSurety, TellsListing}
use Rattle.sw_core.specs.Action.{Changes}
use Rattle.sw_core.specs.Action.{Resets, reset, Triggers, RefusesWith, IsOfMacros, Initiates}
use Rattle.sw_core.specs.Seen.{AnswerSeen, SaysSession, SaysFailed}
use Rattle.sw_lex.specs.Apart.{same_word}
use Rattle.sw_lex.proofs.ApartLemmas.{same_word-refl, same_eq}
use Rattle.sw_core.specs.Step.{IsSurety, StepClose, StepOpen, StepHardware, StepSurety, StepListing, StepText, StepDone, StepSetting, StepRefused, StepReadings, StepAlone}
use Rattle.sw_core.proofs.SameLemmas.{sets_once}

-- an answer that tells of no want of memory and of no card's failure
abbrev pub IsWhole : AnswerSeen → Type 0
IsWhole (SaysSession (Refused e) work) = (e ≢ OutOfMemory) × (e ≢ HardwareError)
IsWhole SaysFailed = ⊥
IsWhole answer = Unit {0}

abbrev pub IsOnce : {A : Type 0} → A → A → Panel → Panel → Type 0
IsOnce a a' q q' = (a ≡ a') × (q ≡ q')

pub both : (p q q' : Panel) → q ≡ p → q' ≡ p → q ≡ q'
both p q q' e f = e ∙ sym f

pub same_text : (t t' x : List ℕ) → t ≡ x → t' ≡ x → Done (Some t) ≡ Done (Some t')
same_text t t' x e f = ap (λ (y : List ℕ). Done (Some y)) (e ∙ sym f)

pub true_false : (b : Bool) → b ≡ true → b ≡ false → ⊥
true_false b e f = absurd (let k : true ≡ false = sym e ∙ f in cc)

pub set_once : (p q q' : Panel) (chans : List Channel) (on : Bool) → Sets p.cage.cards chans on q.cage.cards → Sets p.cage.cards chans on q'.cage.cards
    → q ≡ with_cards p q.cage.cards → q' ≡ with_cards p q'.cage.cards → q ≡ q'
set_once p q q' chans on s t e f = e ∙ ap (λ (r : Accounts). with_cards p r) (sets_once p.cage.cards q.cage.cards q'.cage.cards chans on s t) ∙ sym f

pub close_once : (p : Panel) (chans : List Channel) (f f' : Bool) (a a' : SessionAnswer) (q q' : Panel) → IsWhole (SaysSession a None)
    → IsWhole (SaysSession a' None) → StepClose p chans f a q → StepClose p chans f' a' q' → IsOnce a a' q q'
close_once p chans f f' (Done None) (Done None) q q' n m h k = (refl, set_once p q q' chans true h.2 k.2 h.3 k.3)
close_once p chans f f' (Done None) (Refused HardwareMissing) q q' n m h k = absurd (true_false _ h.1.present k.1)
close_once p chans f f' (Done None) (Refused SettingsConflict) q q' n m h k = absurd (h.1.apart k.1.1)
close_once p chans f f' (Refused HardwareMissing) (Done None) q q' n m h k = absurd (true_false _ k.1.present h.1)
close_once p chans f f' (Refused HardwareMissing) (Refused HardwareMissing) q q' n m h k = (refl, both p q q' h.2 k.2)
close_once p chans f f' (Refused HardwareMissing) (Refused SettingsConflict) q q' n m h k = absurd (true_false _ k.1.0 h.1)
close_once p chans f f' (Refused SettingsConflict) (Done None) q q' n m h k = absurd (k.1.apart h.1.1)
close_once p chans f f' (Refused SettingsConflict) (Refused HardwareMissing) q q' n m h k = absurd (true_false _ h.1.0 k.1)
close_once p chans f f' (Refused SettingsConflict) (Refused SettingsConflict) q q' n m h k = (refl, both p q q' h.2 k.2)
close_once p chans f f' (Refused HardwareError) a' q q' n m h k = absurd (n.1 refl)
close_once p chans f f' a (Refused HardwareError) q q' n m h k = absurd (m.1 refl)
close_once p chans f f' a a' q q' n m h k = absurd (assumption (h, k))

pub open_once : (p : Panel) (chans : List Channel) (f f' : Bool) (a a' : SessionAnswer) (q q' : Panel) → IsWhole (SaysSession a None)
    → IsWhole (SaysSession a' None) → StepOpen p chans f a q → StepOpen p chans f' a' q' → IsOnce a a' q q'
open_once p chans f f' (Done None) (Done None) q q' n m h k = (refl, set_once p q q' chans false h.2 k.2 h.3 k.3)
open_once p chans f f' (Done None) (Refused HardwareMissing) q q' n m h k = absurd (true_false _ h.1 k.1)
open_once p chans f f' (Refused HardwareMissing) (Done None) q q' n m h k = absurd (true_false _ k.1 h.1)
open_once p chans f f' (Refused HardwareMissing) (Refused HardwareMissing) q q' n m h k = (refl, both p q q' h.2 k.2)
open_once p chans f f' (Refused HardwareError) a' q q' n m h k = absurd (n.1 refl)
open_once p chans f f' a (Refused HardwareError) q q' n m h k = absurd (m.1 refl)
open_once p chans f f' a a' q q' n m h k = absurd (assumption (h, k))

pub hardware_once : (p : Panel) (there : Bool) (text : List ℕ) (f f' : Bool) (a a' : SessionAnswer) (q q' : Panel) → IsWhole (SaysSession a None)
    → IsWhole (SaysSession a' None) → StepHardware p there text f a q → StepHardware p there text f' a' q' → IsOnce a a' q q'
hardware_once p there text f f' (Done (Some t)) (Done (Some t')) q q' n m h k = (same_text t t' _ h.2 k.2, both p q q' h.3 k.3)
hardware_once p there text f f' (Done (Some t)) (Refused HardwareMissing) q q' n m h k = absurd (true_false _ h.1 k.1)
hardware_once p there text f f' (Refused HardwareMissing) (Done (Some t)) q q' n m h k = absurd (true_false _ k.1 h.1)
hardware_once p there text f f' (Refused HardwareMissing) (Refused HardwareMissing) q q' n m h k = (refl, both p q q' h.2 k.2)
hardware_once p there text f f' (Refused OutOfMemory) a' q q' n m h k = absurd (n.0 refl)
hardware_once p there text f f' a (Refused OutOfMemory) q q' n m h k = absurd (m.0 refl)
hardware_once p there text f f' a a' q q' n m h k = absurd (assumption (h, k))

pub text_once : (p : Panel) (text : List ℕ) (s : StatusSeen) (f f' : Bool) (a a' : SessionAnswer) (q q' : Panel) → IsWhole (SaysSession a None)
    → IsWhole (SaysSession a' None) → StepText p text s f a q → StepText p text s f' a' q' → IsOnce a a' q q'
text_once p text s f f' (Done (Some t)) (Done (Some t')) q q' n m h k = (same_text t t' _ h.1 k.1, h.2 ∙ sym k.2)
text_once p text s f f' (Refused OutOfMemory) a' q q' n m h k = absurd (n.0 refl)
text_once p text s f f' a (Refused OutOfMemory) q q' n m h k = absurd (m.0 refl)
text_once p text s f f' a a' q q' n m h k = absurd (assumption (h, k))

pub done_once : (after : Panel) (f f' : Bool) (a a' : SessionAnswer) (q q' : Panel) → StepDone after f a q → StepDone after f' a' q' → IsOnce a a' q q'
done_once after f f' (Done None) (Done None) q q' h k = (refl, both after q q' h.1 k.1)
done_once after f f' a a' q q' h k = absurd (assumption (h, k))

pub setting_once : (p : Panel) (Fits : Type 0) (error : ScpiError) (setup : Setup) (f f' : Bool) (a a' : SessionAnswer) (q q' : Panel)
    → StepSetting p Fits error setup f a q → StepSetting p Fits error setup f' a' q' → IsOnce a a' q q'
setting_once p Fits error setup f f' (Done None) (Done None) q q' h k = (refl, h.2 ∙ sym k.2)
setting_once p Fits error setup f f' (Done None) (Refused e) q q' h k = absurd (k.1 h.1)
setting_once p Fits error setup f f' (Refused e) (Done None) q q' h k = absurd (h.1 k.1)
setting_once p Fits error setup f f' (Refused e) (Refused e') q q' h k = (ap Refused (h.2 ∙ sym k.2), both p q q' h.3 k.3)
setting_once p Fits error setup f f' a a' q q' h k = absurd (assumption (h, k))

pub refused_once : (p : Panel) (error : ScpiError) (f f' : Bool) (a a' : SessionAnswer) (q q' : Panel) → StepRefused p error f a q
    → StepRefused p error f' a' q' → IsOnce a a' q q'
refused_once p error f f' (Refused e) (Refused e') q q' h k = (ap Refused (h.1 ∙ sym k.1), both p q q' h.2 k.2)
refused_once p error f f' a a' q q' h k = absurd (assumption (h, k))

pub readings_once : (l : List Reading) (p : Panel) (f f' : Bool) (a a' : SessionAnswer) (q q' : Panel)
    → IsWhole (SaysSession a None) → IsWhole (SaysSession a' None) → StepReadings l p f a q → StepReadings l p f' a' q' → IsOnce a a' q q'
readings_once [] p f f' a a' q q' n m h k = refused_once p DataCorruptOrStale f f' a a' q q' h k
readings_once (r ∷ rs) p f f' a a' q q' n m h k = text_once p (join_with_byte 44 (map reading_text (r ∷ rs))) p.status f f' a a' q q' n m h k

-- one text is told where the cards say that they are sure, the other where they don't
sure_once : (text : Bool → List ℕ) (sure sure' : Bool) → same_word (text sure) (text true) ≡ same_word (text sure') (text true) → text sure ≡ text sure'
sure_once text true true e = refl
sure_once text false false e = refl
sure_once text true false e = sym (same_eq (text false) (text true) (sym e ∙ same_word-refl (text true)))
sure_once text false true e = same_eq (text false) (text true) (e ∙ same_word-refl (text true))

word_is : (text : Bool → List ℕ) (t : List ℕ) (sure : Bool) → t ≡ text sure → same_word t (text true) ≡ same_word (text sure) (text true)
word_is text t sure e = ap (λ (x : List ℕ). same_word x (text true)) e

told_once : (text : Bool → List ℕ) (t t' : List ℕ) → IsSurety text t → IsSurety text t' → same_word t (text true) ≡ same_word t' (text true) → t ≡ t'
told_once text t t' h k s =
    h.1 ∙ sure_once text h.0 k.0 (sym (word_is text t h.0 h.1) ∙ s ∙ word_is text t' k.0 k.1) ∙ sym k.1

pub surety_once : (p : Panel) (text : Panel → Bool → List ℕ) (f f' : Bool) (a a' : SessionAnswer) (q q' : Panel)
    → left_open (TellsSurety text) p a ≡ left_open (TellsSurety text) p a' → StepSurety p (text p) f a q → StepSurety p (text p) f' a' q' → IsOnce a a' q q'
surety_once p text f f' (Done (Some t)) (Done (Some t')) q q' s h k =
    (ap (λ (y : List ℕ). Done (Some y)) (told_once (text p) t t' h.1 k.1 (cc (s))), both p q q' h.2 k.2)
surety_once p text f f' a a' q q' s h k = absurd (assumption (h, k))

-- what is said of a listing is given; where memory suffices, it is said
pub listing_once : (p : Panel) (listing : List ℕ) (f f' : Bool) (a a' : SessionAnswer) (q q' : Panel) → IsWhole (SaysSession a None)
    → IsWhole (SaysSession a' None) → left_open (TellsListing listing) p a ≡ left_open (TellsListing listing) p a' → StepListing p listing f a q
    → StepListing p listing f' a' q' → IsOnce a a' q q'
listing_once p listing f f' (Done (Some t)) (Done (Some t')) q q' n m s h k =
    let e : t ≡ t' = cc (s) in (ap (λ (y : List ℕ). Done (Some y)) e, both p q q' h.2 k.2)
listing_once p listing f f' (Refused OutOfMemory) a' q q' n m s h k = absurd (n.0 refl)
listing_once p listing f f' a (Refused OutOfMemory) q q' n m s h k = absurd (m.0 refl)
listing_once p listing f f' a a' q q' n m s h k = absurd (assumption (h, k))

pub alone_once : (e : Effect) (p : Panel) (f f' : Bool) (a a' : SessionAnswer) (q q' : Panel)
    → IsWhole (SaysSession a None) → IsWhole (SaysSession a' None) → left_open e p a ≡ left_open e p a' → StepAlone e p f a q → StepAlone e p f' a' q' → IsOnce a a' q q'
alone_once (TellsText text) p f f' a a' q q' n m s h k = text_once p (text p) p.status f f' a a' q q' n m h k
alone_once (TellsReadings readings) p f f' a a' q q' n m s h k = readings_once (readings p) p f f' a a' q q' n m h k
alone_once (ReadsOut text after) p f f' a a' q q' n m s h k = text_once p (text p.status) (after p.status) f f' a a' q q' n m h k
alone_once (SetsStatus after) p f f' a a' q q' n m s h k = done_once (record p { status = after p.status }) f f' a a' q q' h k
alone_once (SetsUp Fits error after) p f f' a a' q q' n m s h k = setting_once p (Fits p.settings) error (after p.settings) f f' a a' q q' h k
alone_once (ClosesListed chans) p f f' a a' q q' n m s h k = close_once p chans f f' a a' q q' n m h k
alone_once (OpensListed chans) p f f' a a' q q' n m s h k = open_once p chans f f' a a' q q' n m h k
alone_once (TellsHardware there text) p f f' a a' q q' n m s h k = hardware_once p (there p) (text p) f f' a a' q q' n m h k
alone_once (TellsSurety text) p f f' a a' q q' n m s h k = surety_once p text f f' a a' q q' s h k
alone_once (TellsListing listing) p f f' a a' q q' n m s h k = listing_once p listing f f' a a' q q' n m s h k
alone_once (Changes after) p f f' a a' q q' n m s h k = done_once (after p) f f' a a' q q' h k
alone_once Resets p f f' a a' q q' n m s h k = done_once (reset p) f f' a a' q q' h k
alone_once (RefusesWith error) p f f' a a' q q' n m s h k = refused_once p error f f' a a' q q' h k
alone_once IsOfMacros p f f' a a' q q' n m s h k = refused_once p UndefinedHeader f f' a a' q q' h k
alone_once Initiates p f f' a a' q q' n m s h k = refused_once p UndefinedHeader f f' a a' q q' h k
alone_once (Triggers happening error) p f f' a a' q q' n m s h k = absurd h
