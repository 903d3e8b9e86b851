-- Lemmas on the states of a card's channels.
use Rattle.std.proofs.Common.{◌≡◌, ℕ, ◌-◌, ◌<◌, Bool, true, false, List, [], ◌∷◌, length, slice_index_or, ◌⊎◌, refl, ap, arith, map, replicate, suc, zero}
use Rattle.std.proofs.lemmas.List.{get_or-set_same, get_or-set_other, get_or_past}
use Rattle.std.proofs.lemmas.Grind.{common_steps}
use Rattle.sw_card.specs.Account.{closed_at, set_closed, none_closed, IsWithin}

pub within_same : (xs : List Bool) → IsWithin xs xs
within_same [] = tt
within_same (x ∷ xs) = ((λ h. h), within_same xs)

within_index : (xs ys : List Bool) (k : ℕ) → IsWithin xs ys → slice_index_or xs k false ≡ true → slice_index_or ys k false ≡ true
within_index [] [] k w h = h
within_index (x ∷ xs) (y ∷ ys) zero w h = w.0 h
within_index (x ∷ xs) (y ∷ ys) (suc k) w h = within_index xs ys k w.1 h
within_index [] (y ∷ ys) k w h = absurd w
within_index (x ∷ xs) [] k w h = absurd w

pub within_closed : (xs ys : List Bool) (k : ℕ) → IsWithin xs ys → closed_at xs k ≡ true → closed_at ys k ≡ true
within_closed xs ys k w h = grind (arith, common_steps, within_index xs ys (k - 1) w)

pub length-within : (xs ys : List Bool) → IsWithin xs ys → length xs ≡ length ys
length-within [] [] w = refl
length-within (x ∷ xs) (y ∷ ys) w = ap suc (length-within xs ys w.1)
length-within [] (y ∷ ys) w = absurd w
length-within (x ∷ xs) [] w = absurd w

-- a channel that is closed after one was set was closed before, or is that one
pub closed_set : (l : List Bool) (ch k : ℕ) → 0 < ch → closed_at (set_closed l ch true) k ≡ true → (closed_at l k ≡ true) ⊎ (k ≡ ch)
closed_set l ch k p h = grind (arith, common_steps, get_or-set_other)

pub open_set : (l : List Bool) (ch k : ℕ) → closed_at (set_closed l ch false) k ≡ true → closed_at l k ≡ true
open_set l ch k h = grind (arith, common_steps, get_or-set_other, get_or-set_same)

none_index : (xs : List Bool) (k : ℕ) → slice_index_or (none_closed xs) k false ≡ false
none_index [] k = refl
none_index (x ∷ xs) zero = refl
none_index (x ∷ xs) (suc k) = none_index xs k

pub none_is_closed : (xs : List Bool) (k : ℕ) → closed_at (none_closed xs) k ≡ false
none_is_closed xs k = grind (arith, common_steps, none_index xs (k - 1))

pub closed_past : (l : List Bool) (k : ℕ) → length l < k → closed_at l k ≡ false
closed_past l k h = grind (arith, common_steps, get_or_past l (k - 1) false)

pub none_replicate : (xs : List Bool) → replicate (length xs) false ≡ none_closed xs
none_replicate [] = refl
none_replicate (x ∷ xs) = ap (λ l. false ∷ l) (none_replicate xs)

pub none_map : (xs : List Bool) → map (λ b. false) xs ≡ none_closed xs
none_map [] = refl
none_map (x ∷ xs) = ap (λ l. false ∷ l) (none_map xs)

pub length-none : (xs : List Bool) → length (none_closed xs) ≡ length xs
length-none [] = refl
length-none (x ∷ xs) = ap suc (length-none xs)
