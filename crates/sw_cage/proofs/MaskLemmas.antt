-- The mask that is kept of a slot: read from its card, and after a channel was opened.
use Rattle.std.proofs.Common.{◌≡◌, ◌≢◌, ℕ, zero, suc, ◌-◌, ◌≤◌, ◌<◌, Bool, true, false, List, take, Some, inl, inr, refl, sym}
use Rattle.std.proofs.Common.{◌∙◌, ap, length, arith}
use Rattle.std.proofs.lemmas.Bool.{cases_lt, cases_eq}
use Rattle.std.proofs.lemmas.List.{get_or-take, get_or_past, length-take, get_or-set_same, length-set}
use Rattle.std.proofs.lemmas.Grind.{common_steps}
use Rattle.sw_base.specs.Limits.{most_channels}
use Rattle.sw_card.specs.Account.{Account, closed_at, set_closed, with_set}
use Rattle.sw_card.specs.Mask.{in_mask, IsMaskOf}
use Rattle.sw_cage.specs.Masks.{IsSlotMask}
use Rattle.sw_cage.proofs.ChannelCallLemmas.{closed_other}

take_closed : (closed : List Bool) (n ch : ℕ) → ch ≤ n → closed_at (take n closed) ch ≡ closed_at closed ch
take_closed closed n zero few = refl
take_closed closed n (suc j) few = let e = get_or-take n closed j false (omega (arith, few)) in grind (arith, common_steps, e)

take_far : (closed : List Bool) (n ch : ℕ) → n < ch → closed_at (take n closed) ch ≡ false
take_far closed n ch far = let e = length-take n closed in grind (arith, common_steps, get_or_past (take n closed) (ch - 1) false)

-- read from the card
pub mask_read : (a : Account) (mask : ℕ) → IsMaskOf mask (take most_channels a.closed) → IsSlotMask mask (Some a)
mask_read a mask h = record {
  closed = λ ch few. h ch ∙ take_closed a.closed most_channels ch few;
  within = λ ch k. elim (cases_lt most_channels ch) [
    | inl far ↦ absurd (let f : true ≡ false = sym k ∙ h ch ∙ take_far a.closed most_channels ch far in cc)
    | inr few ↦ few
  ];
}

opened_same : (l : List Bool) (ch : ℕ) → 1 ≤ ch → closed_at (set_closed l ch false) ch ≡ false
opened_same l ch from = elim (cases_lt (ch - 1) (length l)) [
  | inl near ↦ let e = get_or-set_same l (ch - 1) false false near in grind (arith, common_steps, e)
  | inr past ↦ let n = length-set l (ch - 1) false in
      let e = get_or_past (set_closed l ch false) (ch - 1) false (omega (arith, n, past)) in grind (arith, common_steps, e)
]

-- after a channel was opened
pub mask_opened : (a b : Account) (mask new ch : ℕ) → b ≡ with_set a ch false → 1 ≤ ch → IsSlotMask mask (Some a)
    → in_mask new ch ≡ false → ((k : ℕ) → k ≢ ch → in_mask new k ≡ in_mask mask k) → IsSlotMask new (Some b)
mask_opened a b mask new ch e from h here others = record {
  closed = λ k few. elim (cases_eq k ch) [
    | inl same ↦ ap (in_mask new) same ∙ here ∙ sym (ap (λ (x : Account). closed_at x.closed k) e
        ∙ ap (closed_at (set_closed a.closed ch false)) same ∙ opened_same a.closed ch from)
    | inr other ↦ others k other ∙ h.closed k few
        ∙ sym (ap (λ (x : Account). closed_at x.closed k) e ∙ closed_other a.closed ch k false (omega (arith, from)) other)
  ];
  within = λ k m. elim (cases_eq k ch) [
    | inl same ↦ absurd (let f : true ≡ false = sym m ∙ ap (in_mask new) same ∙ here in cc)
    | inr other ↦ h.within k (sym (others k other) ∙ m)
  ];
}
