-- A card is taken in, refused, handed out or kept for one cause.
use Rattle.std.proofs.Common.{◌≡◌, ℕ, true, false, Option, None, Some, refl, sym, ◌∙◌, ap, arith, inl, inr, ◌⊎◌, is_some}
use Rattle.sw_base.specs.Layout.{slot_at}
use Rattle.sw_card.specs.Account.{Account, closed_at}
use Rattle.sw_cage.specs.Accounts.{Accounts, all_open, option_rest}
use Rattle.sw_cage.specs.Install.{CanInstall, RefusesInstall, RefusesEject, IsBadLayout, IsUnfit, IsFit}
use Rattle.sw_cage.specs.declared.refusal.InstallRefusal.{InstallRefusal}
use Rattle.sw_cage.specs.declared.refusal.InstallRefusal.TheVariants.{Busy, Occupied, BadLayout}
use Rattle.sw_cage.specs.declared.refusal.EjectRefusal.{EjectRefusal}
use Rattle.sw_cage.specs.declared.refusal.EjectRefusal.TheVariants.{Vacant, Out}
use Rattle.sw_cage.proofs.SlotChangeLemmas.{slot_rest}
use Rattle.sw_core.specs.Panel.{Panel, is_running}
use Rattle.sw_core.proofs.OneCommandLemmas.{true_false}

pub some_none : {A : Type 0} (o : Option A) → is_some o ≡ true → o ≡ None → ⊥
some_none None e f = absurd (cc (e))
some_none (Some a) e f = absurd (cc (f))

pub unfit_fit : (card : Account) → IsFit card → ((ch : ℕ) → closed_at card.closed ch ≡ false) → IsUnfit card → ⊥
unfit_fit card fit none bad = elim bad [
  | inl e ↦ omega (arith, fit.some_channel)
  | inr rest ↦ elim rest [
    | inl more ↦ omega (arith, fit.few_channels)
    | inr x ↦ true_false (closed_at card.closed x.0) x.1 (none x.0)
  ]
]

pub bad_can : (rack : Accounts) (slot : ℕ) (card : Account) → CanInstall rack slot card → IsBadLayout slot card → ⊥
bad_can rack slot card can bad = elim bad [
  | inl l ↦ omega (arith, can.first)
  | inr rest ↦ elim rest [
    | inl g ↦ omega (arith, can.last)
    | inr x ↦ unfit_fit card (can.fit x.0) can.«open» x.1
  ]
]

pub install_apart : (p : Panel) (slot : ℕ) (card : Account) (r : InstallRefusal) → is_running p ≡ false → slot_at p.cage.out slot ≡ None
    → CanInstall p.cage.cards slot card → RefusesInstall p.cage slot card r → ⊥
install_apart p slot card Busy idle home can bad = true_false _ bad idle
install_apart p slot card Occupied idle home can bad =
    elim bad.1 [ inl o ↦ some_none (slot_at p.cage.out slot) o home | inr o ↦ some_none (slot_at p.cage.cards slot) o can.empty ]
install_apart p slot card BadLayout idle home can bad = bad_can p.cage.cards slot card can bad.3

pub taken_free : (p : Panel) (slot : ℕ) → slot_at p.cage.out slot ≡ None → slot_at p.cage.cards slot ≡ None → (is_some (slot_at p.cage.out slot) ≡ true)
    ⊎ (is_some (slot_at p.cage.cards slot) ≡ true) → ⊥
taken_free p slot a b o = elim o [ inl x ↦ some_none (slot_at p.cage.out slot) x a | inr x ↦ some_none (slot_at p.cage.cards slot) x b ]

pub install_once : (p : Panel) (slot : ℕ) (card : Account) (r r' : InstallRefusal) → RefusesInstall p.cage slot card r → RefusesInstall p.cage slot card r'
    → r ≡ r'
install_once p slot card Busy Busy h k = refl
install_once p slot card Occupied Occupied h k = refl
install_once p slot card BadLayout BadLayout h k = refl
install_once p slot card Busy Occupied h k = absurd (true_false _ h k.0)
install_once p slot card Occupied Busy h k = absurd (true_false _ k h.0)
install_once p slot card Busy BadLayout h k = absurd (true_false _ h k.0)
install_once p slot card BadLayout Busy h k = absurd (true_false _ k h.0)
install_once p slot card Occupied BadLayout h k = absurd (taken_free p slot k.1 k.2 h.1)
install_once p slot card BadLayout Occupied h k = absurd (taken_free p slot h.1 h.2 k.1)

pub eject_once : (p : Panel) (slot : ℕ) (r r' : EjectRefusal) → RefusesEject p.cage slot r → RefusesEject p.cage slot r' → r ≡ r'
eject_once p slot Vacant Vacant h k = refl
eject_once p slot Out Out h k = refl
eject_once p slot Vacant Out h k = absurd (some_none (slot_at p.cage.out slot) k h.0)
eject_once p slot Out Vacant h k = absurd (some_none (slot_at p.cage.out slot) h k.0)

pub rest_none : (rack : Accounts) (slot : ℕ) (card : Account) → slot_at (all_open rack) slot ≡ Some card → slot_at rack slot ≡ None → ⊥
rest_none rack slot card e f = let k : option_rest (slot_at rack slot) ≡ option_rest None = ap option_rest f in
    absurd (let g : None ≡ Some card = sym k ∙ sym (slot_rest rack slot) ∙ e in cc)

pub eject_apart : (p : Panel) (slot : ℕ) (card : Account) (r : EjectRefusal) → slot_at p.cage.out slot ≡ None → slot_at (all_open p.cage.cards) slot ≡ Some card
    → RefusesEject p.cage slot r → ⊥
eject_apart p slot card Vacant home e h = rest_none p.cage.cards slot card e h.1
eject_apart p slot card Out home e h = some_none (slot_at p.cage.out slot) h home
