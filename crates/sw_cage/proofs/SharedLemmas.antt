-- Lemmas on the group that the cage keeps for all channels of a slot's card.
use Rattle.std.proofs.Common.{◌≡◌, ◌≢◌, ℕ, zero, suc, ◌+◌, ◌-◌, ◌≤◌, ◌<◌, Bool, true, false, List, length, Option, None, Some, refl, sym, ◌∙◌, ap}
use Rattle.std.proofs.Common.{if◌then◌else◌, arith, inl, inr}
use Rattle.std.specs.Prelude.{IfSome}
use Rattle.std.proofs.lemmas.Bool.{cases_eq}
use Rattle.std.proofs.lemmas.Grind.{common_steps}
use Rattle.sw_base.specs.Layout.{SlotContents, relays, meter, group_at, contents_have, contents_group}
use Rattle.sw_card.specs.Account.{Account, is_meter, with_set, at_rest, IsFault}
use Rattle.sw_cage.specs.Accounts.{card_contents, slot_contents}
use Rattle.sw_cage.specs.Shared.{IsShared}
use Rattle.sw_cage.proofs.SlotChangeLemmas.{fault_bay}
use Rattle.sw_cage.proofs.ClosedListLemmas.{has_bounds}

-- an empty slot has no channel
pub shared_none : (shared : Option ℕ) → IsShared shared None
shared_none None = tt
shared_none (Some group) = λ ch has. absurd (cc)

relay_group : (b : Bool) (groups : List ℕ) (ch : ℕ) → b ≡ false
    → contents_group (Some (if b then meter else relays groups)) ch ≡ group_at groups ch
relay_group true groups ch e = absurd (cc)
relay_group false groups ch e = refl

-- read from the card
pub shared_read : (a : Account) (shared : Option ℕ)
    → IfSome shared (λ group. (ch : ℕ) → 1 ≤ ch → ch ≤ length a.groups → group_at a.groups ch ≡ group)
    → IsShared shared (Some a)
shared_read a None h = tt
shared_read a (Some group) h = λ ch has. let k = has_bounds a ch has in
    relay_group (is_meter a) a.groups ch k.1.0 ∙ h ch k.0 k.1.1

shared_same : (shared : Option ℕ) (a b : Account) → card_contents b ≡ card_contents a → IsShared shared (Some a)
    → IsShared shared (Some b)
shared_same None a b e h = tt
shared_same (Some group) a b e h = λ ch has. ap (λ (s : SlotContents). contents_group (Some s) ch) e
    ∙ h ch (ap (λ (s : SlotContents). contents_have (Some s) ch) (sym e) ∙ has)

-- after a channel was set
pub shared_set : (shared : Option ℕ) (a b : Account) (ch : ℕ) (on : Bool) → b ≡ with_set a ch on → IsShared shared (Some a)
    → IsShared shared (Some b)
shared_set shared a b ch on e = shared_same shared a b (ap card_contents e)

-- after a call that failed
pub shared_fault : (shared : Option ℕ) (a b : Account) (most : List Bool) → IsFault a most b → IsShared shared (Some a)
    → IsShared shared (Some b)
shared_fault shared a b most f = shared_same shared a b (fault_bay a b most f)

-- after every channel was opened
pub shared_rest : (shared : Option ℕ) (a b : Account) → b ≡ at_rest a → IsShared shared (Some a) → IsShared shared (Some b)
shared_rest shared a b e = shared_same shared a b (ap card_contents e)

-- one more channel is in the group of those before it
pub shared_more : (groups : List ℕ) (before group : ℕ) → ((ch : ℕ) → 1 ≤ ch → ch ≤ before → group_at groups ch ≡ group)
    → group_at groups (before + 1) ≡ group → (ch : ℕ) → 1 ≤ ch → ch ≤ before + 1 → group_at groups ch ≡ group
shared_more groups before group h e ch from to = elim (cases_eq ch (before + 1)) [
  | inl last ↦ ap (group_at groups) last ∙ e
  | inr other ↦ h ch from (omega (arith, to, other))
]
