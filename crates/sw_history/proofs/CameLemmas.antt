-- The meters of a mainframe came into their places, whatever happens.
use Rattle.std.proofs.Common.{◌≡◌, ℕ, zero, suc, ◌-◌, List, [], ◌∷◌, Option, None, Some, slice_index_or, slice_set, refl, sym, ◌∙◌, ap, subst, inl, inr, ◌⊎◌, Bool, true, false, if◌then◌else◌}
use Rattle.std.proofs.lemmas.List.{map-set}
use Rattle.sw_card.specs.Account.{Account, is_meter, of_meter}
use Rattle.sw_cage.specs.Cards.{Cards, meters_of, meter_only, with_card_back}
use Rattle.sw_cage.specs.Work.{FinishedSeen}
use Rattle.sw_core.specs.Cards.{Keeps, KeepsFor, KeepsAfter, KeepsInstalled, KeepsEjected, KeepsReturned}
use Rattle.sw_core.specs.declared.ask.Ask.{Ask}
use Rattle.sw_core.specs.declared.ask.Answer.{Answer}
use Rattle.sw_core.specs.declared.ask.Work.{Work}
use Rattle.sw_history.specs.Came.{AllCame, HasCome, brought}

-- where everything came, a card that is brought did
pub has_come : {C : Type 0} (came : ℕ → C × Account → Type 0) (it : Option (ℕ × (C × Account)))
    → ((place : ℕ) (card : C × Account) → came place card) → HasCome came it
has_come came None all = tt
has_come came (Some it) all = all it.0 it.1

-- what is at a place after another value was put somewhere: that value, or what was there
at_place : {A : Type 0} (xs : List (Option A)) (i j : ℕ) (v : Option A) (x : A) → slice_index_or (slice_set xs i v) j None ≡ Some x
    → ((j ≡ i) × (v ≡ Some x)) ⊎ (slice_index_or xs j None ≡ Some x)
at_place [] i j v x e = inr e
at_place (o ∷ xs) zero zero v x e = inl (refl, e)
at_place (o ∷ xs) zero (suc j) v x e = inr e
at_place (o ∷ xs) (suc i) zero v x e = inr e
at_place (o ∷ xs) (suc i) (suc j) v x e = elim (at_place xs i j v x e) [ inl h ↦ inl (ap suc h.0, h.1) | inr h ↦ inr h ]

-- a meter is the card that it is
only_itself : {C : Type 0} (b : Bool) (card x : C) → (if b then Some card else None) ≡ Some x → card ≡ x
only_itself true card x e = cc e
only_itself false card x e = absurd (cc e)

same_meters : {C : Type 0} (came : ℕ → C × Account → Type 0) (old new : Cards C) → meters_of new ≡ meters_of old → AllCame came old → AllCame came new
same_meters came old new e all place card h = all place card (ap (λ cards. slice_index_or cards place None) (sym e) ∙ h)

-- one place is empty now
one_out : {C : Type 0} (came : ℕ → C × Account → Type 0) (old new : Cards C) (i : ℕ) → meters_of new ≡ slice_set (meters_of old) i None
    → AllCame came old → AllCame came new
one_out came old new i e all place card h =
    elim (at_place (meters_of old) i place None card (ap (λ cards. slice_index_or cards place None) (sym e) ∙ h)) [
      | inl k ↦ absurd (let no : None ≡ Some card = k.1 in cc no)
      | inr k ↦ all place card k
    ]

-- a card is in one place
one_in : {C : Type 0} (came : ℕ → C × Account → Type 0) (old new : Cards C) (i : ℕ) (card : C × Account) → new ≡ slice_set old i (Some card)
    → came i card → AllCame came old → AllCame came new
one_in {C} came old new i card e it all place x h =
    let there : meters_of new ≡ slice_set (meters_of old) i (meter_only (Some card)) = ap meters_of e ∙ map-set meter_only old i (Some card) in
    elim (at_place (meters_of old) i place (meter_only (Some card)) x (ap (λ cards. slice_index_or cards place None) (sym there) ∙ h)) [
      | inl k ↦ subst (λ (n : ℕ). came n x) (sym k.0) (subst (λ (y : C × Account). came i y) (only_itself (is_meter card.1) card x k.1) it)
      | inr k ↦ all place x k
    ]

pub came_for : {R M : Type 0} (came : ℕ → (R ⊎ M) × Account → Type 0) (old new : Cards (R ⊎ M)) (work : Option (Work M)) → KeepsFor old work new
    → AllCame came old → AllCame came new
came_for came old new None k all = same_meters came old new k all
came_for came old new (Some (Work.Pause ticket micros)) k all = same_meters came old new k all
came_for came old new (Some (Work.Measure job)) k all = one_out came old new (job.1.slot - 1) k.1 all

came_after : {R M : Type 0} (came : ℕ → (R ⊎ M) × Account → Type 0) (old new : Cards (R ⊎ M)) (answer : Answer R M) → KeepsAfter old answer new
    → AllCame came old → AllCame came new
came_after came old new (Answer.Session answer work) k all = came_for came old new work k all
came_after came old new (Answer.Taken work) k all = came_for came old new work k all
came_after came old new answer k all = same_meters came old new k all

all_same : {C : Type 0} (came : ℕ → C × Account → Type 0) (old new : Cards C) → new ≡ old → AllCame came old → AllCame came new
all_same came old new e all = same_meters came old new (ap meters_of e) all

-- after a card was offered to a slot
came_in : {R M : Type 0} (came : ℕ → (R ⊎ M) × Account → Type 0) (old new : Cards (R ⊎ M)) (slot : ℕ) (card : (R ⊎ M) × Account)
    (answer : Answer R M) → KeepsInstalled old slot card answer new → came (slot - 1) card → AllCame came old → AllCame came new
came_in came old new slot card Answer.Installed k it all = one_in came old new (slot - 1) card k it all
came_in came old new slot card answer k it all = same_meters came old new k all

-- after one was asked to come out
came_out : {R M : Type 0} (came : ℕ → (R ⊎ M) × Account → Type 0) (old new : Cards (R ⊎ M)) (slot : ℕ) (answer : Answer R M)
    → KeepsEjected old slot answer new → AllCame came old → AllCame came new
came_out came old new slot (Answer.Ejected out) k all = one_out came old new (slot - 1) k.others all
came_out came old new slot answer k all = same_meters came old new k all

-- the meter that returned is in its slot
with_one_back : {R M : Type 0} (came : ℕ → (R ⊎ M) × Account → Type 0) (old : Cards (R ⊎ M)) (done : M × FinishedSeen)
    → came (done.1.slot - 1) (inr done.0, of_meter done.1.meter) → AllCame came old → AllCame came (with_card_back old done)
with_one_back came old done it all = one_in came old (with_card_back old done) (done.1.slot - 1) (inr done.0, of_meter done.1.meter) refl it all

-- after a meter returned
came_back : {R M : Type 0} (came : ℕ → (R ⊎ M) × Account → Type 0) (old new : Cards (R ⊎ M)) (done : M × FinishedSeen) (answer : Answer R M)
    → KeepsReturned old done answer new → came (done.1.slot - 1) (inr done.0, of_meter done.1.meter) → AllCame came old → AllCame came new
came_back came old new done Answer.Missed k it all = all_same came (with_card_back old done) new k (with_one_back came old done it all)
came_back came old new done (Answer.Back back) k it all = all_same came old new k all
came_back came old new done answer k it all = came_after came (with_card_back old done) new answer k (with_one_back came old done it all)

-- after any ask
pub came_kept : {R M : Type 0} (came : ℕ → (R ⊎ M) × Account → Type 0) (old new : Cards (R ⊎ M)) (ask : Ask R M) (answer : Answer R M)
    → Keeps old ask answer new → HasCome came (brought ask) → AllCame came old → AllCame came new
came_kept came old new (Ask.Session ask) answer k it all = came_after came old new answer k all
came_kept came old new (Ask.Install slot card) answer k it all = came_in came old new slot card answer k it all
came_kept came old new (Ask.Eject slot) answer k it all = came_out came old new slot answer k all
came_kept came old new Ask.External answer k it all = came_after came old new answer k all
came_kept came old new (Ask.Elapsed ticket) answer k it all = came_after came old new answer k all
came_kept came old new (Ask.Finished done) answer k it all = came_back came old new done answer k it all
