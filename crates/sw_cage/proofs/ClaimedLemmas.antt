-- What becomes of the claims as channels are set and cards come and go.
use Rattle.std.proofs.Common.{◌≡◌, ℕ, ◌-◌, ◌≤◌, ◌<◌, true, false, List, [], ◌∷◌, length, map, replicate, slice_set, Option, None, Some, inl, inr, refl}
use Rattle.std.proofs.Common.{sym, ◌∙◌, ap, subst, arith, ◌⊎◌, is_some, nat_lt, slice_index_or, Result, Ok, Err, OnOk, OnErr}
use Rattle.std.proofs.lemmas.Bool.{false_from_ne_true}
use Rattle.std.proofs.lemmas.List.{length-set, length-map}
use Rattle.sw_base.specs.Limits.{most_slots, most_channels}
use Rattle.sw_base.specs.Layout.{Channel, Layout, slot_at, group_of, has_meter, IsClash}
use Rattle.sw_card.specs.Account.{Account, MeterAccount, of_meter, closed_at}
use Rattle.sw_card.specs.Mask.{in_mask}
use Rattle.sw_verify.specs.Channels.{is_among}
use Rattle.sw_cage.specs.Accounts.{Accounts, accounts_of, option_account, layout_of, option_closed, is_closed, IsWellFormed, OptionWellFormed}
use Rattle.sw_cage.specs.Accounts.{AreSafe, all_open}
use Rattle.sw_cage.specs.Masks.{IsSlotMask}
use Rattle.sw_cage.specs.Change.{Sets, IsDisturbed}
use Rattle.sw_cage.specs.Claims.{Index, IndexesClaims, closed_claim, AreClaimed}
use Rattle.sw_cage.proofs.SlotChangeLemmas.{all_open_closed, safe_all_open, safe_empty, none_slot, safe_quiet, quiet_was, quiet_group, quiet_still, some_slot}
use Rattle.sw_cage.proofs.ChannelCallLemmas.{chan_cases, in_one, in_yes, in_no, if_yes, if_no, sets_layout, sets_closed, plates_layout}
use Rattle.sw_cage.proofs.OneSlotLemmas.{written, slot_mask, none_closed_in, AfterCall}
use Rattle.sw_cage.proofs.ClosedListLemmas.{closed_number}
use Rattle.sw_cage.proofs.MoveLemmas.{not_meter}
use Rattle.sw_cage.proofs.ClaimLemmas.{holds_none, index_kept, index_same, index_held, index_released}

-- nothing is closed

pub claimed_empty : (rack : Accounts) (index : Index) → rack ≡ replicate most_slots None → index ≡ replicate 256 None → AreClaimed rack index
claimed_empty rack index e f = subst (λ (r : Accounts). AreClaimed r index) (sym e) (record {
  safe = safe_empty;
  claims = holds_none (layout_of (replicate most_slots None)) (λ c. is_closed (replicate most_slots None) c ≡ true) index 256 f
      (λ c k. let n : is_closed (replicate most_slots None) c ≡ false = ap (λ o. option_closed o c.1) (none_slot most_slots c.0) in cc);
})

pub claimed_rested : (old new : Accounts) (index : Index) → new ≡ all_open old → AreSafe old → index ≡ replicate 256 None → AreClaimed new index
claimed_rested old new index e safe f = subst (λ (r : Accounts). AreClaimed r index) (sym e) (record {
  safe = safe_all_open old safe.size safe.rows;
  claims = holds_none (layout_of (all_open old)) (λ c. is_closed (all_open old) c ≡ true) index 256 f (λ c k. let n = all_open_closed old c in cc);
})

-- one channel is closed

pub claims_closing : (old new : Accounts) (index : Index) (group : ℕ) (c : Channel) → IndexesClaims (layout_of old) (λ d. is_closed old d ≡ true) index
    → group ≡ group_of (layout_of old) c → group < length index
    → ((d : Channel) → is_closed old d ≡ true → IsClash (layout_of old) c d → ⊥) → Sets old (c ∷ []) true new
    → IndexesClaims (layout_of new) (λ d. is_closed new d ≡ true) (slice_set index group (Some c))
claims_closing old new index group c h g room apart sets = index_same (layout_of old) (layout_of new) (λ d. (is_closed old d ≡ true) ⊎ (d ≡ c))
    (λ d. is_closed new d ≡ true) (slice_set index group (Some c))
    (λ d p. elim (chan_cases c d) [
      | inl e ↦ sets.closed d ∙ if_yes (is_among (c ∷ []) d) true (is_closed old d) (in_yes c d e)
      | inr n ↦ sets.closed d ∙ if_no (is_among (c ∷ []) d) true (is_closed old d) (in_no c d n) ∙ elim p [ inl o ↦ o | inr e ↦ absurd (n e) ]
    ])
    (λ d k. elim (sets_closed old new (c ∷ []) true sets d k) [ inl o ↦ inl o | inr i ↦ inr (in_one c d i) ])
    (λ d p. ap (λ (l : Layout). group_of l d) (sets_layout old new (c ∷ []) true sets))
    (index_held (layout_of old) (is_closed old) index group c h g room apart)

pub claims_unclosed : (old new : Accounts) (index : Index) (group : ℕ) (c : Channel) → IndexesClaims (layout_of old) (λ d. is_closed old d ≡ true) index
    → group ≡ group_of (layout_of old) c → group < length index
    → ((d : Channel) → is_closed old d ≡ true → IsClash (layout_of old) c d → ⊥) → IsDisturbed old (c ∷ []) new
    → IndexesClaims (layout_of new) (λ d. is_closed new d ≡ true) (map (closed_claim (is_closed new)) (slice_set index group (Some c)))
claims_unclosed old new index group c h g room apart fault = index_kept (layout_of old) (layout_of new) (λ d. (is_closed old d ≡ true) ⊎ (d ≡ c))
    (is_closed new) (slice_set index group (Some c)) (λ d k. elim (fault.within d k) [ inl o ↦ inl o | inr i ↦ inr (in_one c d i) ])
    (λ d k. ap (λ (l : Layout). group_of l d) (plates_layout old new fault.cards))
    (index_held (layout_of old) (is_closed old) index group c h g room apart)

-- one channel is opened

pub claims_opening : (old new : Accounts) (index : Index) (group : ℕ) (c : Channel) → IndexesClaims (layout_of old) (λ d. is_closed old d ≡ true) index
    → group ≡ group_of (layout_of old) c → group < length index → is_closed old c ≡ true → Sets old (c ∷ []) false new
    → IndexesClaims (layout_of new) (λ d. is_closed new d ≡ true) (slice_set index group None)
claims_opening old new index group c h g room closed sets =
    subst (λ (l : Layout). IndexesClaims l (λ d. is_closed new d ≡ true) (slice_set index group None)) (sym (sets_layout old new (c ∷ []) false sets))
    (index_released (layout_of old) (is_closed old) (is_closed new) index group c h g room closed
    (λ d k. elim (chan_cases c d) [
      | inl e ↦ absurd (let f : is_closed new d ≡ false = sets.closed d ∙ if_yes (is_among (c ∷ []) d) false (is_closed old d) (in_yes c d e) in cc)
      | inr n ↦ (sym (sets.closed d ∙ if_no (is_among (c ∷ []) d) false (is_closed old d) (in_no c d n)) ∙ k, n)
    ])
    (λ d k n. sets.closed d ∙ if_no (is_among (c ∷ []) d) false (is_closed old d) (in_no c d n) ∙ k))

pub claims_unopened : (old new : Accounts) (index : Index) (c : Channel) → IndexesClaims (layout_of old) (λ d. is_closed old d ≡ true) index
    → is_closed old c ≡ true → IsDisturbed old (c ∷ []) new
    → IndexesClaims (layout_of new) (λ d. is_closed new d ≡ true) (map (closed_claim (is_closed new)) index)
claims_unopened old new index c h closed fault = index_kept (layout_of old) (layout_of new) (λ d. is_closed old d ≡ true) (is_closed new) index
    (λ d k. elim (fault.within d k) [ inl o ↦ o | inr i ↦ ap (is_closed old) (in_one c d i) ∙ closed ])
    (λ d k. ap (λ (l : Layout). group_of l d) (plates_layout old new fault.cards)) h

-- a card with nothing closed comes or goes

pub claimed_quiet : {C : Type 0} (items : List (Option (C × Account))) (s : ℕ) (v : Option (C × Account)) (index : Index)
    → AreClaimed (accounts_of items) index → 1 ≤ s → s ≤ most_slots → ((k : ℕ) → option_closed (option_account v) k ≡ false)
    → OptionWellFormed (option_account v) → ((k : ℕ) → option_closed (slot_at (accounts_of items) s) k ≡ false)
    → AreClaimed (accounts_of (slice_set items (s - 1) v)) index
claimed_quiet items s v index h p q quiet row before =
    let b : s ≤ length (accounts_of items) = omega (arith, h.safe.size, q) in
    subst (λ (r : Accounts). AreClaimed r index) (sym (written items (accounts_of items) (s - 1) v refl)) (record {
      safe = safe_quiet (accounts_of items) s (option_account v) p b quiet row h.safe;
      claims = index_same (layout_of (accounts_of items)) (layout_of (slice_set (accounts_of items) (s - 1) (option_account v)))
          (λ d. is_closed (accounts_of items) d ≡ true) (λ d. is_closed (slice_set (accounts_of items) (s - 1) (option_account v)) d ≡ true) index
          (quiet_still (accounts_of items) s (option_account v) p b before) (quiet_was (accounts_of items) s (option_account v) p b quiet)
          (λ d k. quiet_group (accounts_of items) s (option_account v) p b quiet d
          (quiet_still (accounts_of items) s (option_account v) p b before d k)) h.claims;
    })

pub claimed_kept : {C : Type 0} (items new : List (Option (C × Account))) (s : ℕ) (v : Option (C × Account)) (index : Index)
    → AreClaimed (accounts_of items) index → 1 ≤ s → s ≤ most_slots → ((k : ℕ) → option_closed (option_account v) k ≡ false)
    → OptionWellFormed (option_account v) → new ≡ slice_set items (s - 1) v
    → AreClaimed (accounts_of (slice_set items (s - 1) v)) (map (closed_claim (is_closed (accounts_of new))) index)
claimed_kept items new s v index h p q quiet row is =
    let b : s ≤ length (accounts_of items) = omega (arith, h.safe.size, q) in
    subst (λ (r : Accounts). AreClaimed r (map (closed_claim (is_closed (accounts_of new))) index)) (sym (written items (accounts_of items) (s - 1) v refl))
    (subst (λ (r : Accounts). AreClaimed (slice_set (accounts_of items) (s - 1) (option_account v)) (map (closed_claim (is_closed r)) index))
    (sym (ap accounts_of is ∙ written items (accounts_of items) (s - 1) v refl)) (record {
      safe = safe_quiet (accounts_of items) s (option_account v) p b quiet row h.safe;
      claims = index_kept (layout_of (accounts_of items)) (layout_of (slice_set (accounts_of items) (s - 1) (option_account v)))
          (λ d. is_closed (accounts_of items) d ≡ true) (is_closed (slice_set (accounts_of items) (s - 1) (option_account v))) index
          (quiet_was (accounts_of items) s (option_account v) p b quiet) (quiet_group (accounts_of items) s (option_account v) p b quiet) h.claims;
    }))

-- calls of cards

-- the cards and their claims, as they are seen
pub claimed_seen : {C : Type 0} (items : List (Option (C × Account))) (value : Accounts) (index : Index) → accounts_of items ≡ value
    → AreClaimed (accounts_of items) index → AreClaimed value index
claimed_seen items value index same h = subst (λ (r : Accounts). AreClaimed r index) same h

pub slots_set : {C : Type 0} (items new : List (Option (C × Account))) (i : ℕ) (v : Option (C × Account)) → length (accounts_of items) ≡ most_slots
    → new ≡ slice_set items i v → length new ≡ most_slots
slots_set items new i v size is = ap length is ∙ length-set items i v ∙ sym (length-map items option_account) ∙ size

pub ok_is : {T E X : Type 0} (r : Result T E) (t : T) → r ≡ Ok t → OnOk r X → X
ok_is {T} {E} {X} r t e h = subst (λ (q : Result T E). OnOk q X) e h

pub err_is : {T E X : Type 0} (r : Result T E) (t : E) → r ≡ Err t → OnErr r X → X
err_is {T} {E} {X} r t e h = subst (λ (q : Result T E). OnErr q X) e h

pub claimed_closing : {T E : Type 0} (old most new : Accounts) (index : Index) (group : ℕ) (c : Channel) (r : Result T E) (t : T) → AreClaimed old index
    → group ≡ group_of (layout_of old) c → group < length index
    → ((d : Channel) → is_closed old d ≡ true → IsClash (layout_of old) c d → ⊥) → AfterCall old c most true r new → r ≡ Ok t
    → AreClaimed new (slice_set index group (Some c))
claimed_closing old most new index group c r t h g room apart a e = record {
  safe = a.safe;
  claims = claims_closing old new index group c h.claims g room apart (ok_is r t e a.ok);
}

pub claimed_unclosed : {T E : Type 0} (old most new seen : Accounts) (index : Index) (group : ℕ) (c : Channel) (r : Result T E) (t : E) → AreClaimed old index
    → group ≡ group_of (layout_of old) c → group < length index
    → ((d : Channel) → is_closed old d ≡ true → IsClash (layout_of old) c d → ⊥) → AfterCall old c most true r new → r ≡ Err t → seen ≡ new
    → AreClaimed new (map (closed_claim (is_closed seen)) (slice_set index group (Some c)))
claimed_unclosed old most new seen index group c r t h g room apart a e s = record {
  safe = a.safe;
  claims = subst (λ (q : Accounts). IndexesClaims (layout_of new) (λ d. is_closed new d ≡ true) (map (closed_claim (is_closed q))
      (slice_set index group (Some c)))) (sym s)
      (claims_unclosed old new index group c h.claims g room apart (err_is r t e a.disturbed));
}

pub claimed_opening : {T E : Type 0} (old most new : Accounts) (index : Index) (group : ℕ) (c : Channel) (r : Result T E) (t : T) → AreClaimed old index
    → group ≡ group_of (layout_of old) c → group < length index → is_closed old c ≡ true → AfterCall old c most false r new → r ≡ Ok t
    → AreClaimed new (slice_set index group None)
claimed_opening old most new index group c r t h g room closed a e = record {
  safe = a.safe;
  claims = claims_opening old new index group c h.claims g room closed (ok_is r t e a.ok);
}

pub claimed_unopened : {T E : Type 0} (old most new seen : Accounts) (index : Index) (c : Channel) (r : Result T E) (t : E) → AreClaimed old index
    → is_closed old c ≡ true → AfterCall old c most false r new → r ≡ Err t → seen ≡ new → AreClaimed new (map (closed_claim (is_closed seen)) index)
claimed_unopened old most new seen index c r t h closed a e s = record {
  safe = a.safe;
  claims = subst (λ (q : Accounts). IndexesClaims (layout_of new) (λ d. is_closed new d ≡ true) (map (closed_claim (is_closed q)) index)) (sym s)
      (claims_unopened old new index c h.claims closed (err_is r t e a.disturbed));
}

-- a meter is taken out

meter_unclosed : (rack : Accounts) → AreSafe rack → (s : ℕ) → has_meter (layout_of rack) s ≡ true → (k : ℕ) → option_closed (slot_at rack s) k ≡ false
meter_unclosed rack safe s m k = false_from_ne_true (option_closed (slot_at rack s) k)
    (λ h. let n : has_meter (layout_of rack) s ≡ false = not_meter (slot_at (layout_of rack) s) k (safe.exclusive.present (s, k) h) in cc)

pub claimed_taken : {C : Type 0} (items : List (Option (C × Account))) (value : Accounts) (s : ℕ) (v : Option (C × Account)) (index : Index)
    → accounts_of items ≡ value → AreClaimed (accounts_of items) index → 1 ≤ s → s ≤ most_slots → v ≡ None → has_meter (layout_of value) s ≡ true
    → AreClaimed (accounts_of (slice_set items (s - 1) v)) index
claimed_taken items value s v index same h p q none m = claimed_quiet items s v index h p q
    (λ k. ap (λ (o : Option Account). option_closed o k) (ap option_account none)) (subst OptionWellFormed (sym (ap option_account none)) tt)
    (meter_unclosed (accounts_of items) h.safe s (ap (λ (r : Accounts). has_meter (layout_of r) s) same ∙ m))

-- a card is ejected

pub claimed_ejected : {C : Type 0} (items new : List (Option (C × Account))) (value : Accounts) (s : ℕ) (v : Option (C × Account)) (index : Index)
    → accounts_of items ≡ value → AreClaimed (accounts_of items) index → is_some (slot_at value s) ≡ true → v ≡ None → new ≡ slice_set items (s - 1) v
    → AreClaimed (accounts_of (slice_set items (s - 1) v)) (map (closed_claim (is_closed (accounts_of new))) index)
claimed_ejected items new value s v index same h some none is =
    let b : (0 < s) × (s ≤ length (accounts_of items)) = some_slot (accounts_of items) s (ap (λ (r : Accounts). is_some (slot_at r s)) same ∙ some) in
    claimed_kept items new s v index h b.0 (omega (arith, b.1, h.safe.size))
    (λ k. ap (λ (o : Option Account). option_closed o k) (ap option_account none)) (subst OptionWellFormed (sym (ap option_account none)) tt) is

-- a meter is put into a slot

put_unclosed : {C : Type 0} (card : C × Account) (m : MeterAccount) → card.1 ≡ of_meter m → (k : ℕ) → closed_at card.1.closed k ≡ false
put_unclosed card m e k = ap (λ (a : Account). closed_at a.closed k) e ∙ none_closed_in (nat_lt 0 k)

put_row : {C : Type 0} (card : C × Account) (m : MeterAccount) → card.1 ≡ of_meter m → IsWellFormed card.1
put_row card m e = subst IsWellFormed (sym e) (record { states = refl; few = λ k. absurd (cc) })

-- the slot's mask is empty
unclosed_slot : (rack : Accounts) (s mask : ℕ) → AreSafe rack → ((k : ℕ) → k ≤ most_channels → in_mask mask k ≡ is_closed rack (s, k))
    → ((k : ℕ) → in_mask mask k ≡ false) → (k : ℕ) → option_closed (slot_at rack s) k ≡ false
unclosed_slot rack s mask safe same none k = false_from_ne_true (option_closed (slot_at rack s) k)
    (λ h. let b = closed_number rack (s, k) safe h in let e : is_closed rack (s, k) ≡ false = sym (same k b.1) ∙ none k in cc)

pub claimed_put : {C : Type 0} (items : List (Option (C × Account))) (s mask : ℕ) (card : C × Account) (was : Option (C × Account)) (m : MeterAccount)
    (index : Index) → AreClaimed (accounts_of items) index → card.1 ≡ of_meter m → 1 ≤ s → s ≤ most_slots → was ≡ slice_index_or items (s - 1) was
    → IsSlotMask mask (option_account was) → ((k : ℕ) → in_mask mask k ≡ false) → AreClaimed (accounts_of (slice_set items (s - 1) (Some card))) index
claimed_put items s mask card was m index h e p q is kept none = claimed_quiet items s (Some card) index h p q (put_unclosed card m e) (put_row card m e)
    (unclosed_slot (accounts_of items) s mask h.safe (slot_mask items (accounts_of items) s mask was refl h.safe.size p q is kept) none)

pub claimed_put_over : {C : Type 0} (items new : List (Option (C × Account))) (s : ℕ) (card : C × Account) (m : MeterAccount) (index : Index)
    → AreClaimed (accounts_of items) index → card.1 ≡ of_meter m → 1 ≤ s → s ≤ most_slots → new ≡ slice_set items (s - 1) (Some card)
    → AreClaimed (accounts_of (slice_set items (s - 1) (Some card))) (map (closed_claim (is_closed (accounts_of new))) index)
claimed_put_over items new s card m index h e p q is = claimed_kept items new s (Some card) index h p q (put_unclosed card m e) (put_row card m e) is
