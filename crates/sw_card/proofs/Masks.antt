-- A mask and the states of a card's channels: one channel set, none left, and one channel more.
use Rattle.std.proofs.Common.{◌≡◌, ◌≢◌, ℕ, zero, suc, ◌+◌, ◌-◌, ◌<◌, ◌≤◌, Bool, false, refl, sym, ap, ◌∙◌, arith, inl, inr}
use Rattle.std.proofs.Common.{◌==◌, min, List, take, length, get_or, replicate}
use Rattle.std.proofs.lemmas.Bool.{cases_Bool}
use Rattle.std.proofs.lemmas.Grind.{common_steps}
use Rattle.std.proofs.lemmas.List.{get_or-take, take_all, length-take, ext_get_or, length-replicate, get_or-replicate}
use Rattle.std.proofs.lemmas.List.{length-set, get_or-set_same, get_or-set_other}
use Rattle.std.proofs.lemmas.List.FromFn.{length-map-range_with_len, get_or-map-range_with_len}
use Rattle.sw_card.specs.Account.{closed_at, set_closed, none_closed}
use Rattle.sw_card.specs.Mask.{in_mask, states_of, IsMaskOf}
use Rattle.sw_card.proofs.Bits.{split_at}
use Rattle.sw_card.proofs.Rows.{closed_past, none_is_closed}

-- the mask of the closed channels among the first ones, and among one more
closed_last : (closed : List Bool) (n : ℕ) → closed_at (take (n + 1) closed) (n + 1) ≡ closed_at closed (n + 1)
closed_last closed n = grind (arith, common_steps, get_or-take (n + 1) closed n false)

closed_front : (closed : List Bool) (n ch : ℕ) → ch < n + 1 → closed_at (take n closed) ch ≡ closed_at closed ch
closed_front closed n zero below = refl
closed_front closed n (suc j) below = let e = get_or-take n closed j false (omega (arith, below)) in grind (arith, common_steps, e)

closed_after : (closed : List Bool) (n ch : ℕ) → n < ch → closed_at (take n closed) ch ≡ false
closed_after closed n ch past = closed_past (take n closed) ch (omega (arith, past, length-take n closed))

closed_more : (closed : List Bool) (n ch : ℕ) → ch ≢ n + 1 → closed_at (take (n + 1) closed) ch ≡ closed_at (take n closed) ch
closed_more closed n ch other = elim (split_at ch n) [
  | inl within ↦ closed_front closed (n + 1) ch (omega (arith, within)) ∙ sym (closed_front closed n ch (omega (arith, within)))
  | inr past ↦ closed_after closed (n + 1) ch (next past) ∙ sym (closed_after closed n ch past)
] where
  next : n < ch → n + 1 < ch
  next past = elim (split_at ch (n + 1)) [
    | inl within ↦ absurd (other (omega (arith, within, past)))
    | inr h ↦ h
  ]

pub mask_more : (closed : List Bool) (n mask wider : ℕ) → IsMaskOf mask (take n closed) → in_mask wider (n + 1) ≡ closed_at closed (n + 1)
    → ((ch : ℕ) → ch ≢ n + 1 → in_mask wider ch ≡ in_mask mask ch) → IsMaskOf wider (take (n + 1) closed)
mask_more closed n mask wider h here others = λ ch. elim (cases_Bool (ch == (n + 1))) [
  | inl same ↦
      let e : ch ≡ n + 1 = grind (arith, common_steps, same) in
      rw e (here ∙ sym (closed_last closed n))
  | inr other ↦
      let o : ch ≢ n + 1 = λ e. grind (arith, common_steps, other, e) in
      others ch o ∙ h ch ∙ sym (closed_more closed n ch o)
]

pub mask_past : (closed : List Bool) (n mask : ℕ) → IsMaskOf mask (take n closed) → in_mask mask (n + 1) ≡ false
mask_past closed n mask h = h (n + 1) ∙ closed_after closed n (n + 1) (omega arith)

pub take_least : (closed : List Bool) (n most : ℕ) → n ≡ min (length closed) most → take n closed ≡ take most closed
take_least closed n most e = elim (split_at (length closed) most) [
  | inl few ↦ take_all n closed (omega (arith, e, few)) ∙ sym (take_all most closed few)
  | inr many ↦ ap (λ k. take k closed) (let f : n ≡ most = omega (arith, e, many) in f)
]

-- the states of a card's channels by its mask
pub length-states : (mask n : ℕ) → length (states_of mask n) ≡ n
length-states mask n = length-map-range_with_len (in_mask mask) 1 n

states_at : (mask n i : ℕ) → i < n → get_or (states_of mask n) i false ≡ in_mask mask (i + 1)
states_at mask n i h = get_or-map-range_with_len (in_mask mask) 1 n i (i + 1) false h (omega arith)

pub states_none : (mask n : ℕ) → ((ch : ℕ) → in_mask mask ch ≡ false) → states_of mask n ≡ replicate n false
states_none mask n h =
    ext_get_or false (states_of mask n) (replicate n false) (length-states mask n ∙ sym (length-replicate n false))
    (λ i below. let b : i < n = omega (arith, below, length-states mask n) in states_at mask n i b ∙ h (i + 1) ∙ sym (get_or-replicate n i false false b))

pub states_set : (old new n ch : ℕ) (on : Bool) → 1 ≤ ch → ch ≤ n → in_mask new ch ≡ on → ((k : ℕ) → k ≢ ch → in_mask new k ≡ in_mask old k)
    → states_of new n ≡ set_closed (states_of old n) ch on
states_set old new n ch on some few here others =
    let size : length (set_closed (states_of old n) ch on) ≡ n = length-set (states_of old n) (ch - 1) on ∙ length-states old n in
    ext_get_or false (states_of new n) (set_closed (states_of old n) ch on) (length-states new n ∙ sym size)
    (λ i below. let b : i < n = omega (arith, below, length-states new n) in states_at new n i b ∙ at i b)
  where
    at : (i : ℕ) → i < n → in_mask new (i + 1) ≡ get_or (set_closed (states_of old n) ch on) i false
    at i b = elim (cases_Bool ((i + 1) == ch)) [
      | inl same ↦
          let e : i + 1 ≡ ch = grind (arith, common_steps, same) in
          let p : i ≡ ch - 1 = omega (arith, e) in
          let a : in_mask new (i + 1) ≡ on = rw e here in
          let s : get_or (set_closed (states_of old n) ch on) i false ≡ on =
          rw p (get_or-set_same (states_of old n) (ch - 1) on false (omega (arith, some, few, length-states old n))) in
          a ∙ sym s
      | inr other ↦
          let o : i + 1 ≢ ch = λ e. grind (arith, common_steps, other, e) in
          others (i + 1) o ∙ sym (get_or-set_other (states_of old n) (ch - 1) i on false (λ e. o (omega (arith, e, some))) ∙ states_at old n i b)
    ]

closed_by_index : (closed : List Bool) (j : ℕ) → closed_at closed (suc j) ≡ get_or closed j false
closed_by_index closed j = grind (arith, common_steps)

-- whether a channel is closed by them
pub closed_states : (mask n ch : ℕ) → ch ≤ n → closed_at (states_of mask n) ch ≡ in_mask mask ch
closed_states mask n zero few = refl
closed_states mask n (suc j) few =
    closed_by_index (states_of mask n) j ∙ states_at mask n j (omega (arith, few)) ∙ ap (in_mask mask) (let e : j + 1 ≡ suc j = omega arith in e)

pub closed_states_past : (mask n ch : ℕ) → n < ch → closed_at (states_of mask n) ch ≡ false
closed_states_past mask n ch past = closed_past (states_of mask n) ch (omega (arith, past, length-states mask n))

set_here : (closed : List Bool) (ch : ℕ) (on : Bool) → 1 ≤ ch → ch ≤ length closed → closed_at (set_closed closed ch on) ch ≡ on
set_here closed ch on some few = let e = get_or-set_same closed (ch - 1) on false (omega (arith, some, few)) in grind (arith, common_steps, e, some)

set_there : (closed : List Bool) (ch k : ℕ) (on : Bool) → 1 ≤ ch → k ≢ ch → closed_at (set_closed closed ch on) k ≡ closed_at closed k
set_there closed ch zero on some other = refl
set_there closed ch (suc j) on some other =
    let e = get_or-set_other closed (ch - 1) j on false (λ e. other (omega (arith, e, some))) in grind (arith, common_steps, e)

-- the mask of the closed channels after one was set, and after none is left
pub mask_set : (closed : List Bool) (old new ch : ℕ) (on : Bool) → 1 ≤ ch → ch ≤ length closed → IsMaskOf old closed → in_mask new ch ≡ on
    → ((k : ℕ) → k ≢ ch → in_mask new k ≡ in_mask old k) → IsMaskOf new (set_closed closed ch on)
mask_set closed old new ch on some few h here others = λ k. elim (cases_Bool (k == ch)) [
  | inl same ↦
      let e : k ≡ ch = grind (arith, common_steps, same) in
      rw e (here ∙ sym (set_here closed ch on some few))
  | inr other ↦
      let o : k ≢ ch = λ e. grind (arith, common_steps, other, e) in
      others k o ∙ h k ∙ sym (set_there closed ch k on some o)
]

pub mask_rest : (closed : List Bool) (mask : ℕ) → ((ch : ℕ) → in_mask mask ch ≡ false) → IsMaskOf mask (none_closed closed)
mask_rest closed mask h = λ k. h k ∙ sym (none_is_closed closed k)
