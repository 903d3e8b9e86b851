-- What a call on the cage does to the counts of failures, and to the cards.
use Rattle.std.proofs.Common.{◌≡◌, ℕ, zero, suc, ◌-◌, ◌<◌, ◌||◌, Bool, true, false, List, [], ◌∷◌, Option, None, Some, slice_set, slice_index_or, refl, sym}
use Rattle.std.proofs.Common.{◌∙◌, ap, subst, map, is_some, inl, inr, ◌⊎◌}
use Rattle.sw_base.specs.Layout.{Channel, slot_at}
use Rattle.sw_card.specs.Account.{Account}
use Rattle.sw_cage.specs.Accounts.{Accounts, all_open, is_closed}
use Rattle.sw_cage.specs.Change.{Sets, OneFailed, IsDisturbed, any_failed, option_failed, identity}
use Rattle.sw_cage.proofs.SlotChangeLemmas.{all_open_closed, slot_get}
use Rattle.std.specs.Prelude.{if◌then◌else◌}
use Rattle.sw_cage.specs.Cage.{CageSeen, safe_state}
use Rattle.sw_cage.specs.Cage.{cage_with_cards as cage_with}
use Rattle.sw_cage.specs.Install.{stopped, without_card}
use Rattle.sw_cage.proofs.ChannelCallLemmas.{or_false, failed_rest, failed_rest_old, sets_unfailed, identities_all_open, one_rested}
use Rattle.sw_cage.proofs.FailureLemmas.{one_failed}
use Rattle.sw_core.specs.Step.{IsFailSafe}

pub failed_same : (r : Accounts) → any_failed r r ≡ false
failed_same r = Rattle.sw_cage.proofs.ChannelCallLemmas.failed_same r

pub failed_open : (r : Accounts) → any_failed r (all_open r) ≡ false
failed_open r = failed_rest r r ∙ failed_same r

pub failed_sets : (old new : Accounts) (chans : List Channel) (on : Bool) → Sets old chans on new → any_failed old new ≡ false
failed_sets old new chans on s = sets_unfailed old new s.rest

-- a failing call, and then every relay opened
pub fallen : (old mid new : Accounts) (chans : List Channel) → IsDisturbed old chans mid → new ≡ all_open mid → (any_failed old new ≡ true) × IsFailSafe old new
fallen old mid new chans d e = (
  ap (λ (r : Accounts). any_failed old r) e ∙ failed_rest old mid ∙ one_failed old mid d.failed,
  record {
    cards = ap (λ (r : Accounts). map identity r) e ∙ identities_all_open mid ∙ d.cards;
    failed = subst (OneFailed old) (sym e) (one_rested old mid d.failed);
    none = λ c. ap (λ (r : Accounts). is_closed r c) e ∙ all_open_closed mid c;
  },
)

option_same : (o : Option Account) → option_failed o o ≡ false
option_same o = sym (or_false (option_failed o o)) ∙ failed_same (o ∷ [])

failed_index : (r : Accounts) (i : ℕ) (v : Option Account) → option_failed (slice_index_or r i None) v ≡ false → any_failed r (slice_set r i v) ≡ false
failed_index [] i v h = refl
failed_index (o ∷ r) zero v h = ap (λ b. b || any_failed r r) h ∙ failed_same r
failed_index (o ∷ r) (suc i) v h = ap (λ b. b || any_failed r (slice_set r i v)) (option_same o) ∙ failed_index r i v h

-- nothing fails where a card comes into an empty slot
pub failed_come : (r : Accounts) (slot : ℕ) (v : Option Account) → 0 < slot → slot_at r slot ≡ None → any_failed r (slice_set r (slot - 1) v) ≡ false
failed_come r slot v p e = failed_index r (slot - 1) v (ap (λ o. option_failed o v) (sym (slot_get r slot p) ∙ e))

failed_none : (o : Option Account) → option_failed o None ≡ false
failed_none None = refl
failed_none (Some a) = refl

-- nor where one leaves
pub failed_go : (r : Accounts) (i : ℕ) → any_failed r (slice_set r i None) ≡ false
failed_go r i = failed_index r i None (failed_none (slice_index_or r i None))

cases_some : {A : Type 0} (o : Option A) → (is_some o ≡ true) ⊎ (is_some o ≡ false)
cases_some None = inr refl
cases_some (Some x) = inl refl

-- every relay opened after a call that failed: the cage but for its slots is as it was
pub fallen_cage : (old mid new : CageSeen) → mid ≡ cage_with old mid.cards → new ≡ cage_with mid (all_open mid.cards) → new ≡ cage_with old new.cards
fallen_cage old mid new r e =
    e ∙ ap (λ (s : CageSeen). cage_with s (all_open mid.cards)) r ∙ ap (λ (k : Accounts). cage_with old k) (sym (ap (λ (s : CageSeen). s.cards) e))

pub failed_ejected : (p : CageSeen) (slot : ℕ) → any_failed p.cards (without_card (stopped p) slot).cards ≡ false
failed_ejected p slot = elim (cases_some p.scan) [
  | inl e ↦ ap (λ (b : Bool). any_failed p.cards (without_card (if b then safe_state p else p) slot).cards) e
      ∙ sym (failed_rest_old p.cards (slice_set (all_open p.cards) (slot - 1) None)) ∙ failed_go (all_open p.cards) (slot - 1)
  | inr e ↦ ap (λ (b : Bool). any_failed p.cards (without_card (if b then safe_state p else p) slot).cards) e ∙ failed_go p.cards (slot - 1)
]
