-- The list of closed channels has each closed channel, and no other.
use Rattle.std.proofs.Common.{◌≡◌, ◌≢◌, ℕ, zero, suc, ◌≤◌, ◌||◌, ◌&&◌, Bool, true, false, List, [], ◌∷◌, ◌++◌, refl, sym, ap, ◌∙◌, subst, arith, inl, inr}
use Rattle.std.proofs.Common.{if◌then◌else◌}
use Rattle.std.specs.List.{filter, list_any}
use Rattle.std.proofs.lemmas.List.Folds.{list_any-append}
use Rattle.std.proofs.lemmas.Bool.{cases_eq, or_left, or_right}
use Rattle.sw_base.specs.Limits.{most_slots, most_channels}
use Rattle.sw_base.specs.Layout.{Channel}
use Rattle.sw_verify.specs.Channels.{same_channel, is_among}
use Rattle.sw_verify.proofs.Round.{same_channel_is, same_channel_self}
use Rattle.sw_cage.specs.Accounts.{Accounts, is_closed}
use Rattle.sw_cage.specs.Channels.{row, rows, closed_list}

-- one that passes and is in the list, and no other
kept_at : (t v w : Bool) (keep : Bool) → (t ≡ true → v ≡ keep) → (if keep then t || (w && v) else w && v) ≡ ((t || w) && v)
kept_at true v w true h = sym (ap (λ b. b) (h refl))
kept_at true v true false h = refl
kept_at true v false false h = sym (h refl)
kept_at false v w true h = refl
kept_at false v w false h = refl

among_if : (keep : Bool) (y : Channel) (l : List Channel) (x : Channel)
    → list_any (same_channel x) (if keep then y ∷ l else l) ≡ (if keep then same_channel x y || list_any (same_channel x) l else list_any (same_channel x) l)
among_if true y l x = refl
among_if false y l x = refl

among_filter : (p : Channel → Bool) (l : List Channel) (x : Channel) → is_among (filter p l) x ≡ (is_among l x && p x)
among_filter p [] x = refl
among_filter p (y ∷ l) x =
    among_if (p y) y (filter p l) x
    ∙ ap (λ b. if p y then same_channel x y || b else b) (among_filter p l x)
    ∙ kept_at (same_channel x y) (p x) (is_among l x) (p y) (λ e. ap p (same_channel_is x y e))

row_next : (slot ch : ℕ) → row slot (suc ch) ≡ row slot ch ++ (slot, suc ch) ∷ []
unfolding row
row_next slot ch = refl

rows_next : (slot : ℕ) → rows (suc slot) ≡ rows slot ++ row (suc slot) most_channels
unfolding rows
rows_next slot = refl

among_row : (slot n : ℕ) (x : Channel) → x.0 ≡ slot → 1 ≤ x.1 → x.1 ≤ n → is_among (row slot n) x ≡ true
among_row slot zero x e a b = absurd (omega arith)
among_row slot (suc n) x e a b =
    ap (list_any (same_channel x)) (row_next slot n) ∙ list_any-append (same_channel x) (row slot n) ((slot, suc n) ∷ [])
    ∙ elim (cases_eq x.1 (suc n)) [
      | inl f ↦ or_right (is_among (row slot n) x) (is_among ((slot, suc n) ∷ []) x)
          (or_left (same_channel x (slot, suc n)) false
          (subst (λ (y : Channel). same_channel x y ≡ true) (let k : ◌≡◌ {A = ℕ × ℕ} (x.0, x.1) (slot, suc n) = cc in k) (same_channel_self x)))
      | inr f ↦ or_left (is_among (row slot n) x) (is_among ((slot, suc n) ∷ []) x) (among_row slot n x e a (let d : x.1 ≢ suc n = f in grind arith))
    ]

among_rows : (n : ℕ) (x : Channel) → 1 ≤ x.0 → x.0 ≤ n → 1 ≤ x.1 → x.1 ≤ most_channels → is_among (rows n) x ≡ true
among_rows zero x a b c d = absurd (omega arith)
among_rows (suc n) x a b c d =
    ap (list_any (same_channel x)) (rows_next n) ∙ list_any-append (same_channel x) (rows n) (row (suc n) most_channels)
    ∙ elim (cases_eq x.0 (suc n)) [
      | inl f ↦ or_right (is_among (rows n) x) (is_among (row (suc n) most_channels) x) (among_row (suc n) most_channels x f c d)
      | inr f ↦ or_left (is_among (rows n) x) (is_among (row (suc n) most_channels) x) (among_rows n x a (let e : x.0 ≢ suc n = f in grind arith) c d)
    ]

closed_and : (m v : Bool) → (v ≡ true → m ≡ true) → (m && v) ≡ v
closed_and true v h = refl
closed_and false true h = h refl
closed_and false false h = refl

pub among_closed : (rack : Accounts) → ((c : Channel) → is_closed rack c ≡ true → (1 ≤ c.0) × (c.0 ≤ most_slots) × (1 ≤ c.1) × (c.1 ≤ most_channels))
    → (x : Channel)
    → is_among (closed_list rack) x ≡ is_closed rack x
among_closed rack inside x =
    among_filter (is_closed rack) (rows most_slots) x
    ∙ closed_and (is_among (rows most_slots) x) (is_closed rack x) (λ e. let b = inside x e in among_rows most_slots x b.0 b.1 b.2 b.3)
