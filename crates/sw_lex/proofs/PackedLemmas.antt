-- Two words that aren't too long have one number only if they are one.
use Rattle.std.proofs.Common.{◌≡◌, ℕ, zero, suc, ◌+◌, ◌-◌, ◌*◌, ◌^◌, ◌/◌, ◌%◌, ◌≤◌, ◌<◌, true, List, [], ◌∷◌, ◌++◌, length, refl, sym, ap, subst, ◌∙◌, arith}
use Rattle.std.proofs.Common.{inl, inr, map, take, get_or, Bor, append_assoc}
use Rattle.std.specs.Prelude.{nat_lt}
use Rattle.std.proofs.lemmas.Bool.{cases_Bool}
use Rattle.std.specs.Char.{to_ascii_uppercase}
use Rattle.std.proofs.lemmas.Grind.{common_steps, pow_more, take_at_read}
use Rattle.std.proofs.lemmas.List.{append-nil, length-append, length-map, length-take-le, map_push}
use Rattle.sw_base.specs.Limits.{most_arm_layers}
use Rattle.sw_base.specs.Text.{AllPass}
use Rattle.sw_base.proofs.Runs.{AllPass-append}
use Rattle.sw_lex.specs.Packed.{packed_after, packed, is_byte, last_bytes, IsNumberOf, AreNumbersOf}

-- ---- the number of bytes in their order from behind

abbrev from_behind : List ℕ → ℕ
from_behind [] = 1
from_behind (b ∷ bytes) = from_behind bytes * 256 + b

abbrev turned : List ℕ → List ℕ → List ℕ
turned before [] = before
turned before (b ∷ bytes) = turned (b ∷ before) bytes

packed_turned : (before bytes : List ℕ) → packed_after (from_behind before) bytes ≡ from_behind (turned before bytes)
packed_turned before [] = refl
packed_turned before (b ∷ bytes) = packed_turned (b ∷ before) bytes

turned_twice : (xs before ys : List ℕ) → turned ys (turned before xs) ≡ turned (xs ++ ys) before
turned_twice [] before ys = refl
turned_twice (x ∷ xs) before ys = turned_twice xs (x ∷ before) ys

turned_back : (xs : List ℕ) → turned [] (turned [] xs) ≡ xs
turned_back xs = turned_twice xs [] [] ∙ append-nil xs

turned_bytes : (before bytes : List ℕ) → AllPass is_byte before → AllPass is_byte bytes → AllPass is_byte (turned before bytes)
turned_bytes before [] p q = p
turned_bytes before (b ∷ bytes) p q = turned_bytes (b ∷ before) bytes (q.0, p) q.1

byte_below : (b : ℕ) → is_byte b ≡ true → b < 256
byte_below b h = grind (arith, common_steps)

some_behind : (bytes : List ℕ) → 1 ≤ from_behind bytes
some_behind [] = omega arith
some_behind (b ∷ bytes) = omega (arith, some_behind bytes)

one_behind : (xs ys : List ℕ) → AllPass is_byte xs → AllPass is_byte ys → from_behind xs ≡ from_behind ys → xs ≡ ys
one_behind [] [] p q e = refl
one_behind [] (y ∷ ys) p q e = absurd (omega (arith, e, some_behind ys))
one_behind (x ∷ xs) [] p q e = absurd (omega (arith, e, some_behind xs))
one_behind (x ∷ xs) (y ∷ ys) p q e =
    let a = byte_below x p.0 in
    let b = byte_below y q.0 in
    let f : x ≡ y = omega (arith, e, a, b) in
    let g : from_behind xs ≡ from_behind ys = omega (arith, e, a, b) in
    ap (λ (z : ℕ). z ∷ xs) f ∙ ap (λ (zs : List ℕ). y ∷ zs) (one_behind xs ys p.1 q.1 g)

pub one_packed : (xs ys : List ℕ) → AllPass is_byte xs → AllPass is_byte ys → packed xs ≡ packed ys → xs ≡ ys
one_packed xs ys p q e =
    let f : from_behind (turned [] xs) ≡ from_behind (turned [] ys) = sym (packed_turned [] xs) ∙ e ∙ packed_turned [] ys in
    let g = one_behind (turned [] xs) (turned [] ys) (turned_bytes [] xs tt p) (turned_bytes [] ys tt q) f in
    sym (turned_back xs) ∙ ap (λ (zs : List ℕ). turned [] zs) g ∙ turned_back ys

after_some : (n : ℕ) (bytes : List ℕ) → 1 ≤ n → 1 ≤ packed_after n bytes
after_some n [] h = h
after_some n (b ∷ bytes) h = after_some (n * 256 + b) bytes (omega (arith, h))

-- no word has the number of those that are too long
pub packed_some : (word : List ℕ) → 1 ≤ packed word
packed_some word = after_some 1 word (omega arith)

pub after_append : (n : ℕ) (xs : List ℕ) (y : ℕ) → packed_after n (xs ++ y ∷ []) ≡ packed_after n xs * 256 + y
after_append n [] y = refl
after_append n (x ∷ xs) y = after_append (n * 256 + x) xs y

-- ---- the number of a word beside that of a form

-- these bytes, at most so many, have this number
pub record HasNumber (most n : ℕ) (form : List ℕ) : Type 0 where
  pub number : n ≡ packed form
  pub short : length form ≤ most
  pub bytes : AllPass is_byte form

pub number_so : (w form : List ℕ) (n f : ℕ) → HasNumber 12 f form → IsNumberOf w n → w ≡ form → n ≡ f
number_so w form n f h i e =
    elim i [
      | inl a ↦ a.2 ∙ ap (λ (x : List ℕ). packed x) e ∙ sym h.number
      | inr a ↦ absurd (let l : length w ≡ length form = ap (λ (x : List ℕ). length x) e in omega (arith, l, a.0, h.short))
    ]

pub number_yes : (w form : List ℕ) (n f : ℕ) → HasNumber 12 f form → IsNumberOf w n → n ≡ f → w ≡ form
number_yes w form n f h i e =
    elim i [
      | inl a ↦ one_packed w form a.1 h.bytes (sym a.2 ∙ e ∙ h.number)
      | inr a ↦ absurd (omega (arith, e, a.1, h.number, packed_some form))
    ]

-- a digit behind the form
pub digit_behind : (form : List ℕ) (f k : ℕ) → k ≤ most_arm_layers → HasNumber 11 f form → HasNumber 12 (f * 256 + (48 + k)) (form ++ (48 + k) ∷ [])
digit_behind form f k l h = record {
  number = ap (λ (x : ℕ). x * 256 + (48 + k)) h.number ∙ sym (after_append 1 form (48 + k));
  short = omega (arith, h.short, length-append form ((48 + k) ∷ []));
  bytes = AllPass-append is_byte form ((48 + k) ∷ []) h.bytes (grind (arith, common_steps), tt);
}

pub split_number : (n f k : ℕ) → k ≤ most_arm_layers → n ≡ f * 256 + (48 + k) → (n % 256 ≡ 48 + k) × (n / 256 ≡ f)
split_number n f k l e = (omega (arith, e, l), omega (arith, e, l))

pub joined_number : (n f k : ℕ) → n % 256 ≡ 48 + k → n / 256 ≡ f → n ≡ f * 256 + (48 + k)
joined_number n f k a b = omega (arith, a, b)

-- ---- how large a number is

after_small : (n : ℕ) (bytes : List ℕ) (p : ℕ) → AllPass is_byte bytes → n < p → packed_after n bytes < p * 256 ^ length bytes
after_small n [] p a l = omega (arith, l)
after_small n (b ∷ bytes) p a l =
    let k : n * 256 + b < p * 256 = omega (arith, l, byte_below b a.0) in
    let h : packed_after (n * 256 + b) bytes < (p * 256) * 256 ^ length bytes = after_small (n * 256 + b) bytes (p * 256) a.1 k in
    let e : (p * 256) * 256 ^ length bytes ≡ p * 256 ^ (length bytes + 1) = rw (pow_more 256 (length bytes)) (grind arith) in
    let k : length bytes + 1 ≡ suc (length bytes) = omega arith in
    subst (λ (m : ℕ). packed_after (n * 256 + b) bytes < p * 256 ^ m) k (subst (λ (x : ℕ). packed_after (n * 256 + b) bytes < x) e h)

powers : (k m : ℕ) → 256 ^ m ≤ 256 ^ (k + m)
powers zero m =
    let e : m ≡ zero + m = omega arith in
    subst (λ (x : ℕ). 256 ^ m ≤ 256 ^ x) e (omega arith)
powers (suc k) m =
    let e : (k + m) + 1 ≡ suc k + m = omega arith in
    subst (λ (x : ℕ). 256 ^ m ≤ 256 ^ x) e (omega (arith, powers k m, pow_more 256 (k + m)))

pub packed_small : (word : List ℕ) → length word ≤ 12 → AllPass is_byte word → packed word < 2 ^ 100
packed_small word l a =
    let h : packed word < 2 * 256 ^ length word = after_small 1 word 2 a (omega arith) in
    let q : (12 - length word) + length word ≡ 12 = omega (arith, l) in
    let r : 256 ^ length word ≤ 256 ^ 12 = subst (λ (k : ℕ). 256 ^ length word ≤ 256 ^ k) q (powers (12 - length word) (length word)) in
    omega (arith, h, r)

-- ---- the numbers of words, one after the other

pub numbers_push : (ws : List (List ℕ)) (ns : List ℕ) (w : List ℕ) (n : ℕ) → AreNumbersOf ws ns → IsNumberOf w n → AreNumbersOf (ws ++ w ∷ []) (ns ++ n ∷ [])
numbers_push [] [] w n h i = (i, tt)
numbers_push [] (m ∷ ns) w n h i = absurd h
numbers_push (v ∷ ws) [] w n h i = absurd h
numbers_push (v ∷ ws) (m ∷ ns) w n h i = (h.0, numbers_push ws ns w n h.1 i)

pub numbers_more : (ws : List (Bor (List ℕ))) (i : ℕ) (d : Bor (List ℕ)) (ns : List ℕ) (n : ℕ) → i < length ws
    → IsNumberOf (map to_ascii_uppercase (get_or ws i d).now) n → AreNumbersOf (map (λ w. map to_ascii_uppercase w.now) (take i ws)) ns
    → AreNumbersOf (map (λ w. map to_ascii_uppercase w.now) (take (i + 1) ws)) (ns ++ n ∷ [])
numbers_more ws i d ns n l h a =
    let f : Bor (List ℕ) → List ℕ = λ w. map to_ascii_uppercase w.now in
    let e : map f (take (i + 1) ws) ≡ map f (take i ws) ++ f (get_or ws i d) ∷ [] =
    ap (λ (x : List (Bor (List ℕ))). map f x) (take_at_read ws i d l).1 ∙ map_push f (take i ws) (get_or ws i d) in
    subst (λ (x : List (List ℕ)). AreNumbersOf x (ns ++ n ∷ [])) (sym e) (numbers_push (map f (take i ws)) ns (f (get_or ws i d)) n a h)

-- ---- the number of a word so far

abbrev up : List ℕ → List ℕ
up word = map to_ascii_uppercase word

up_more : (w : List ℕ) (i u : ℕ) → i < length w → u ≡ to_ascii_uppercase (get_or w i 0) → up (take (i + 1) w) ≡ up (take i w) ++ u ∷ []
up_more w i u l e =
    let f : u ∷ [] ≡ to_ascii_uppercase (get_or w i 0) ∷ [] = ap (λ (x : ℕ). x ∷ []) e in
    ap (λ (x : List ℕ). up x) (take_at_read w i 0 l).1 ∙ map_push to_ascii_uppercase (take i w) (get_or w i 0)
    ∙ ap (λ (x : List ℕ). up (take i w) ++ x) (sym f)

byte_so : (b : ℕ) → b < 256 → is_byte b ≡ true
byte_so b h = grind (arith, common_steps)

pub bytes_more : (w : List ℕ) (i u : ℕ) → i < length w → u ≡ to_ascii_uppercase (get_or w i 0) → u < 256 → AllPass is_byte (up (take i w))
    → AllPass is_byte (up (take (i + 1) w))
bytes_more w i u l e b h =
    subst (λ (x : List ℕ). AllPass is_byte x) (sym (up_more w i u l e)) (AllPass-append is_byte (up (take i w)) (u ∷ []) h (byte_so u b, tt))

pub packed_more : (w : List ℕ) (i n u f : ℕ) → i < length w → u ≡ to_ascii_uppercase (get_or w i 0) → f ≡ u → n ≡ packed (up (take i w))
    → n * 256 + f ≡ packed (up (take (i + 1) w))
packed_more w i n u f l e k h =
    omega (arith, h, k) ∙ sym (after_append 1 (up (take i w)) u) ∙ ap (λ (x : List ℕ). packed x) (sym (up_more w i u l e))

pub number_small : (w : List ℕ) (i n : ℕ) → i ≤ length w → i ≤ 12 → AllPass is_byte (up (take i w)) → n ≡ packed (up (take i w)) → n < 2 ^ 100
number_small w i n l s a e =
    let k : length (up (take i w)) ≤ 12 = omega (arith, length-map (take i w) to_ascii_uppercase, length-take-le i w l, l, s) in
    omega (arith, e, packed_small (up (take i w)) k a)

packed_few : (word : List ℕ) → length word ≤ 6 → AllPass is_byte word → packed word < 2 ^ 52
packed_few word l a =
    let h : packed word < 2 * 256 ^ length word = after_small 1 word 2 a (omega arith) in
    let q : (6 - length word) + length word ≡ 6 = omega (arith, l) in
    let r : 256 ^ length word ≤ 256 ^ 6 = subst (λ (k : ℕ). 256 ^ length word ≤ 256 ^ k) q (powers (6 - length word) (length word)) in
    omega (arith, h, r)

pub number_few : (w : List ℕ) (i n : ℕ) → i ≤ length w → i ≤ 6 → AllPass is_byte (up (take i w)) → n ≡ packed (up (take i w)) → n < 2 ^ 52
number_few w i n l s a e =
    let k : length (up (take i w)) ≤ 6 = omega (arith, length-map (take i w) to_ascii_uppercase, length-take-le i w l, l, s) in
    omega (arith, e, packed_few (up (take i w)) k a)

-- the same behind a star
pub star_few : (w : List ℕ) (i n : ℕ) → i ≤ length w → i ≤ 5 → AllPass is_byte (up (take i w)) → n ≡ packed (42 ∷ up (take i w)) → n < 2 ^ 52
star_few w i n l s a e =
    let k : length (42 ∷ up (take i w)) ≤ 6 = omega (arith, length-map (take i w) to_ascii_uppercase, length-take-le i w l, l, s) in
    omega (arith, e, packed_few (42 ∷ up (take i w)) k (refl, a))

pub star_more : (w : List ℕ) (i n u f : ℕ) → i < length w → u ≡ to_ascii_uppercase (get_or w i 0) → f ≡ u → n ≡ packed (42 ∷ up (take i w))
    → n * 256 + f ≡ packed (42 ∷ up (take (i + 1) w))
star_more w i n u f l e k h =
    omega (arith, h, k) ∙ sym (after_append 298 (up (take i w)) u) ∙ ap (λ (x : List ℕ). packed_after 298 x) (sym (up_more w i u l e))

-- ---- the bytes of a number

pub last_length : (k n : ℕ) → length (last_bytes k n) ≤ k
last_length zero n = omega arith
last_length (suc k) n =
    elim (cases_Bool (nat_lt 1 n)) [
      | inl h ↦ rw h (omega (arith, last_length k (n / 256), length-append (last_bytes k (n / 256)) ((n % 256) ∷ [])))
      | inr h ↦ rw h (omega arith)
    ]

pub last_pass : (k n : ℕ) → AllPass is_byte (last_bytes k n)
last_pass zero n = tt
last_pass (suc k) n =
    elim (cases_Bool (nat_lt 1 n)) [
      | inl h ↦ rw h (AllPass-append is_byte (last_bytes k (n / 256)) ((n % 256) ∷ []) (last_pass k (n / 256)) (byte_so (n % 256) (omega arith), tt))
      | inr h ↦ rw h tt
    ]

turned_onto : (bytes before : List ℕ) → turned before bytes ≡ turned [] bytes ++ before
turned_onto [] before = refl
turned_onto (b ∷ bytes) before =
    turned_onto bytes (b ∷ before)
    ∙ sym (ap (λ (x : List ℕ). x ++ before) (turned_onto bytes (b ∷ [])) ∙ append_assoc (turned [] bytes) (b ∷ []) before)

turned_length : (bytes before : List ℕ) → length (turned before bytes) ≡ length before + length bytes
turned_length [] before = omega arith
turned_length (b ∷ bytes) before = omega (arith, turned_length bytes (b ∷ before))

last_behind : (k : ℕ) (bytes : List ℕ) → length bytes ≤ k → AllPass is_byte bytes → last_bytes k (from_behind bytes) ≡ turned [] bytes
last_behind zero [] l a = refl
last_behind zero (b ∷ bytes) l a = absurd (omega (arith, l))
last_behind (suc k) [] l a = refl
last_behind (suc k) (b ∷ bytes) l a =
    let s = some_behind bytes in
    let c = byte_below b a.0 in
    let t : nat_lt 1 (from_behind bytes * 256 + b) ≡ true = grind (arith, common_steps, s) in
    let q : (from_behind bytes * 256 + b) / 256 ≡ from_behind bytes = omega (arith, c) in
    let r : (from_behind bytes * 256 + b) % 256 ≡ b = omega (arith, c) in
    rw (t, q, r) (ap (λ (x : List ℕ). x ++ b ∷ []) (last_behind k bytes (omega (arith, l)) a.1) ∙ sym (turned_onto bytes (b ∷ [])))

-- the bytes of a word's number are the word
pub last_packed : (k : ℕ) (word : List ℕ) → length word ≤ k → AllPass is_byte word → last_bytes k (packed word) ≡ word
last_packed k word l a =
    ap (λ (n : ℕ). last_bytes k n) (packed_turned [] word)
    ∙ last_behind k (turned [] word) (omega (arith, l, turned_length word [])) (turned_bytes [] word tt a) ∙ turned_back word
