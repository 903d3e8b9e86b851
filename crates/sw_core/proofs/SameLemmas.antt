-- Racks of the same cards with the same channels closed are one.
use Rattle.std.proofs.Common.{◌≡◌, ℕ, zero, suc, ◌-◌, Bool, List, [], ◌∷◌, Option, None, Some, refl, sym, ◌∙◌, ap, arith}
use Rattle.std.proofs.lemmas.Bool.{lt-ltb}
use Rattle.sw_base.specs.Layout.{Channel, slot_at}
use Rattle.sw_card.specs.Account.{Account, closed_at, none_closed, at_rest}
use Rattle.sw_cage.specs.Accounts.{Accounts, is_closed, option_closed, all_open, option_rest}
use Rattle.sw_cage.specs.Change.{Sets}

-- the states of a card, by each
closed_first : (x y : Bool) (xs ys : List Bool) → ((k : ℕ) → closed_at (x ∷ xs) k ≡ closed_at (y ∷ ys) k) → x ≡ y
closed_first x y xs ys h = h 1

closed_next : (x : Bool) (xs : List Bool) (k : ℕ) → closed_at (x ∷ xs) (suc (suc k)) ≡ closed_at xs (suc k)
closed_next x xs k =
    let a : suc (suc k) - 1 ≡ suc k = omega arith in
    let b : suc k - 1 ≡ k = omega arith in
    rw (lt-ltb 0 (suc (suc k)) (omega arith), lt-ltb 0 (suc k) (omega arith), a, b) refl

closed_rest : (x y : Bool) (xs ys : List Bool) → ((k : ℕ) → closed_at (x ∷ xs) k ≡ closed_at (y ∷ ys) k) → (k : ℕ) → closed_at xs k ≡ closed_at ys k
closed_rest x y xs ys h zero = refl
closed_rest x y xs ys h (suc k) = sym (closed_next x xs k) ∙ h (suc (suc k)) ∙ closed_next y ys k

same_states : (xs ys : List Bool) → none_closed xs ≡ none_closed ys → ((k : ℕ) → closed_at xs k ≡ closed_at ys k) → xs ≡ ys
same_states [] [] e h = refl
same_states [] (y ∷ ys) e h = absurd (cc (e))
same_states (x ∷ xs) [] e h = absurd (cc (e))
same_states (x ∷ xs) (y ∷ ys) e h =
    let first : x ≡ y = closed_first x y xs ys h in
    let tail : none_closed xs ≡ none_closed ys = cc in
    let rest : xs ≡ ys = same_states xs ys tail (closed_rest x y xs ys h) in
    cc

same_card : (a b : Account) → at_rest a ≡ at_rest b → ((k : ℕ) → closed_at a.closed k ≡ closed_at b.closed k) → a ≡ b
same_card a b e h =
    let states : a.closed ≡ b.closed = same_states a.closed b.closed (ap (λ (x : Account). x.closed) e) h in
    let back : (x y : Account) → x ≡ y → (c d : List Bool) → c ≡ d
    → ◌≡◌ {A = Account} (record x { closed = c }) (record y { closed = d }) =
    λ x y p c d q. ap (λ (z : Account). let r : Account = record z { closed = c } in r) p
    ∙ ap (λ (s : List Bool). let r : Account = record y { closed = s } in r) q in
    back (at_rest a) (at_rest b) e a.closed b.closed states

same_option : (o n : Option Account) → option_rest o ≡ option_rest n → ((k : ℕ) → option_closed o k ≡ option_closed n k) → o ≡ n
same_option None None e h = refl
same_option None (Some b) e h = absurd (cc (e))
same_option (Some a) None e h = absurd (cc (e))
same_option (Some a) (Some b) e h = let k : at_rest a ≡ at_rest b = cc in ap Some (same_card a b k h)

slots_first : (o n : Option Account) (r s : Accounts) → ((c : Channel) → is_closed (o ∷ r) c ≡ is_closed (n ∷ s) c) → (k : ℕ)
    → option_closed o k ≡ option_closed n k
slots_first o n r s h k = h (1, k)

slot_next : (o : Option Account) (r : Accounts) (t : ℕ) → slot_at (o ∷ r) (suc (suc t)) ≡ slot_at r (suc t)
slot_next o r t =
    let a : suc (suc t) - 1 ≡ suc t = omega arith in
    let b : suc t - 1 ≡ t = omega arith in
    rw (lt-ltb 0 (suc (suc t)) (omega arith), lt-ltb 0 (suc t) (omega arith), a, b) refl

slots_rest : (o n : Option Account) (r s : Accounts) → ((c : Channel) → is_closed (o ∷ r) c ≡ is_closed (n ∷ s) c) → (c : Channel)
    → is_closed r c ≡ is_closed s c
slots_rest o n r s h (zero, k) = refl
slots_rest o n r s h (suc t, k) =
    ap (λ x. option_closed x k) (sym (slot_next o r t)) ∙ h (suc (suc t), k) ∙ ap (λ x. option_closed x k) (slot_next n s t)

-- racks of the same cards with the same channels closed are one
pub same_rack : (r s : Accounts) → all_open r ≡ all_open s → ((c : Channel) → is_closed r c ≡ is_closed s c) → r ≡ s
same_rack [] [] e h = refl
same_rack [] (n ∷ s) e h = absurd (cc (e))
same_rack (o ∷ r) [] e h = absurd (cc (e))
same_rack (o ∷ r) (n ∷ s) e h =
    let first : option_rest o ≡ option_rest n = cc in
    let tail : all_open r ≡ all_open s = cc in
    let a : o ≡ n = same_option o n first (slots_first o n r s h) in
    let b : r ≡ s = same_rack r s tail (slots_rest o n r s h) in
    cc

pub sets_once : (old new new' : Accounts) (chans : List Channel) (on : Bool) → Sets old chans on new → Sets old chans on new' → new ≡ new'
sets_once old new new' chans on s t = same_rack new new' (s.rest ∙ sym t.rest) (λ c. s.closed c ∙ sym (t.closed c))
