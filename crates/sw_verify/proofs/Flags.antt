-- Flags as bits of words: one set and one cleared, how many there are, and rows that are the same.
use Rattle.std.proofs.Common.{◌≡◌, ◌≢◌, ℕ, zero, suc, ◌+◌, ◌-◌, ◌*◌, ◌/◌, ◌%◌, ◌^◌, ◌<◌, ◌≤◌, Bool, true, false, ◌==◌, List, [], ◌∷◌, length, get_or, set}
use Rattle.std.proofs.Common.{replicate, refl, sym, ap, ◌∙◌, arith, bit_and, bit_or}
use Rattle.std.proofs.Common.{◌⊎◌, inl, inr, eqb}
use mir.Syntax.{w64}
use Rattle.std.specs.Int.{bit_at, bit_not}
use Rattle.std.specs.List.{count_by}
use Rattle.std.specs.Prelude.{cond}
use Rattle.std.proofs.lemmas.Bool.{cases_eq, cases_lt}
use Rattle.std.proofs.lemmas.Bool.Decides.{nat_tests}
use Rattle.std.proofs.lemmas.Grind.{common_steps}
use Rattle.std.proofs.lemmas.List.{length-set, length-replicate, get_or-replicate, get_or-set_same, get_or-set_other, ext_get_or}
use Rattle.std.proofs.lemmas.List.FromFn.{length-map-range_with_len, get_or-map-range_with_len}
use Rattle.std.proofs.lemmas.List.Sums.{sum_by-cons, sum_by-set, count_by-le-length}
use Rattle.std.proofs.lemmas.List.Folds.{sum_by-replicate}
use Rattle.std.proofs.lemmas.Nat.Bits.{bit_at-zero, bit_at_set_same, bit_at_set_other, bit_at_clear_same, bit_at_clear_other, bit_at-lt, same_from_bits_below}
use Rattle.std.proofs.lemmas.Nat.{or_lt, and_le_l}
use Rattle.std.specs.Cmp.Lexicographic.{pointwise}
use Rattle.std.proofs.lemmas.Bool.{and_parts, and_from}
use Rattle.sw_base.specs.Limits.{channel_places}
use Rattle.sw_verify.specs.Rows.{flag_at, flags_of, HasNoMore, Fit, row_words, IsRow, IsKept}

-- ---- how many flags are set

abbrev how_many : List Bool → ℕ
how_many flags = count_by (λ (f : Bool). f) flags

abbrev one : Bool → ℕ
one f = cond f 1 0

none_set : (n : ℕ) → how_many (replicate n false) ≡ 0
none_set n = let e = sum_by-replicate one n false in omega arith

all_clear : (flags : List Bool) → how_many flags ≡ 0 → flags ≡ replicate (length flags) false
all_clear [] h = refl
all_clear (true ∷ flags) h = absurd (omega (arith, h, sum_by-cons one true flags))
all_clear (false ∷ flags) h =
    ap (λ (l : List Bool). false ∷ l) (all_clear flags (omega (arith, h, sum_by-cons one false flags)))

-- ---- a row's flags by place

pub length-flags : (words : List ℕ) → length (flags_of words) ≡ channel_places
unfolding flags_of
length-flags words = length-map-range_with_len (flag_at words) 0 channel_places

pub flag : (words : List ℕ) (at : ℕ) → at < channel_places → get_or (flags_of words) at false ≡ flag_at words at
unfolding flags_of
flag words at low = get_or-map-range_with_len (flag_at words) 0 channel_places at at false low (omega arith)

-- the flags are those of a list that has the same at each place
flags_are : (words : List ℕ) (flags : List Bool) → length flags ≡ channel_places → ((at : ℕ) → at < channel_places → flag_at words at ≡ get_or flags at false)
    → flags_of words ≡ flags
flags_are words flags size same = ext_get_or false (flags_of words) flags (length-flags words ∙ sym size) (λ at h.
    let low : at < channel_places = omega (arith, h, length-flags words) in
    flag words at low ∙ same at low)

-- ---- one word is written

module _ (words : List ℕ) (at word : ℕ) (f : Bool) (size : length words ≡ row_words) (low : at < channel_places)
    (here : (bit_at word (at % 64) == 1) ≡ f)
    (others : (i : ℕ) → i < 64 → i ≢ at % 64 → bit_at word i ≡ bit_at (get_or words (at / 64) 0) i) where
  written : List ℕ
  written = set words (at / 64) word

  flag_here : flag_at (set words (at / 64) word) at ≡ f
  flag_here = ap (λ (w : ℕ). bit_at w (at % 64) == 1) (get_or-set_same words (at / 64) word 0 (omega arith)) ∙ here

  flag_other : (j : ℕ) → j ≢ at → flag_at (set words (at / 64) word) j ≡ flag_at words j
  flag_other j apart = elim (cases_eq (j / 64) (at / 64)) [
    | inl e ↦
        let in_word : get_or (set words (at / 64) word) (j / 64) 0 ≡ word = rw e (get_or-set_same words (at / 64) word 0 (omega arith)) in
        let bit : bit_at word (j % 64) ≡ bit_at (get_or words (at / 64) 0) (j % 64) = others (j % 64) (omega arith) (λ r. apart (omega (arith, e, r))) in
        ap (λ (w : ℕ). bit_at w (j % 64) == 1) in_word ∙ ap (λ (b : ℕ). b == 1) bit
        ∙ ap (λ (q : ℕ). bit_at (get_or words q 0) (j % 64) == 1) (sym e)
    | inr n ↦ ap (λ (w : ℕ). bit_at w (j % 64) == 1) (get_or-set_other words (at / 64) (j / 64) word 0 n)
  ]

  pub flags_written : flags_of (set words (at / 64) word) ≡ set (flags_of words) at f
  flags_written =
      flags_are (set words (at / 64) word) (set (flags_of words) at f) (length-set (flags_of words) at f ∙ length-flags words) (λ j h.
      elim (cases_eq j at) [
        | inl e ↦ rw e (flag_here ∙ sym (get_or-set_same (flags_of words) at f false (omega (arith, low, length-flags words))))
        | inr n ↦ flag_other j n ∙ sym (get_or-set_other (flags_of words) at j f false n ∙ flag words j h)
      ])

  pub no_more_written : HasNoMore words → HasNoMore (set words (at / 64) word)
  no_more_written h = λ j past. flag_other j (λ e. omega (arith, e, low, past)) ∙ h j past

fit_written : (words : List ℕ) (q word : ℕ) → q < length words → Fit words → word < 2 ^ 64 → Fit (set words q word)
fit_written words q word within fit low = λ i. elim (cases_eq i q) [
  | inl e ↦ omega (arith, low, ap (λ (k : ℕ). get_or (set words q word) k 0) e, get_or-set_same words q word 0 within)
  | inr n ↦ omega (arith, fit i, get_or-set_other words q i word 0 n)
]

-- the word with the bit of a place set, and with it cleared
abbrev pub with_bit : List ℕ → ℕ → ℕ
with_bit words at = bit_or (get_or words (at / 64) 0) (1 * 2 ^ (at % 64) % 2 ^ 64)

abbrev pub without_bit : List ℕ → ℕ → ℕ
without_bit words at = bit_and (get_or words (at / 64) 0) (bit_not w64 (1 * 2 ^ (at % 64) % 2 ^ 64))

is_one : (b : ℕ) → b ≡ 1 → (b == 1) ≡ true
is_one b e = ap (λ (k : ℕ). k == 1) e

is_none : (b : ℕ) → b ≡ 0 → (b == 1) ≡ false
is_none b e = ap (λ (k : ℕ). k == 1) e

module _ (words : List ℕ) (count at : ℕ) (h : IsRow words count) (low : at < channel_places) where
  with_here : (bit_at (with_bit words at) (at % 64) == 1) ≡ true
  with_here = is_one (bit_at (with_bit words at) (at % 64)) (bit_at_set_same w64 (get_or words (at / 64) 0) (at % 64) (omega arith))

  with_others : (i : ℕ) → i < 64 → i ≢ at % 64 → bit_at (with_bit words at) i ≡ bit_at (get_or words (at / 64) 0) i
  with_others i below apart = bit_at_set_other w64 (get_or words (at / 64) 0) (at % 64) (omega arith) i apart

  pub flags_with : flags_of (set words (at / 64) (with_bit words at)) ≡ set (flags_of words) at true
  flags_with = flags_written words at (with_bit words at) true h.size low with_here with_others

  pub row_with : flag_at words at ≡ false → IsRow (set words (at / 64) (with_bit words at)) (count + 1)
  row_with off =
      let more = sum_by-set one (flags_of words) at true false (omega (arith, low, length-flags words)) in
      let was = ap one (flag words at low ∙ off) in
      let same : how_many (flags_of (set words (at / 64) (with_bit words at))) ≡ how_many (set (flags_of words) at true) =
      ap how_many flags_with in
      record {
        size = length-set words (at / 64) (with_bit words at) ∙ h.size;
        fit =
            fit_written words (at / 64) (with_bit words at) (omega (arith, low, h.size)) h.fit
            (or_lt 64 (get_or words (at / 64) 0) (1 * 2 ^ (at % 64) % 2 ^ 64) (h.fit (at / 64)) (omega arith));
        count = omega (arith, h.count, more, was, same);
        no_more = no_more_written words at (with_bit words at) true h.size low with_here with_others h.no_more;
      }

  without_here : (bit_at (without_bit words at) (at % 64) == 1) ≡ false
  without_here = is_none (bit_at (without_bit words at) (at % 64)) (bit_at_clear_same w64 (get_or words (at / 64) 0) (at % 64) (omega arith))

  without_others : (i : ℕ) → i < 64 → i ≢ at % 64 → bit_at (without_bit words at) i ≡ bit_at (get_or words (at / 64) 0) i
  without_others i below apart = bit_at_clear_other w64 (get_or words (at / 64) 0) (at % 64) (omega arith) i below apart

  pub flags_without : flags_of (set words (at / 64) (without_bit words at)) ≡ set (flags_of words) at false
  flags_without = flags_written words at (without_bit words at) false h.size low without_here without_others

  pub row_without : flag_at words at ≡ true → (1 ≤ count) × IsRow (set words (at / 64) (without_bit words at)) (count - 1)
  row_without on =
      let less = sum_by-set one (flags_of words) at false false (omega (arith, low, length-flags words)) in
      let was = ap one (flag words at low ∙ on) in
      let same : how_many (flags_of (set words (at / 64) (without_bit words at))) ≡ how_many (set (flags_of words) at false) =
      ap how_many flags_without in (
        omega (arith, h.count, less, was),
        record {
          size = length-set words (at / 64) (without_bit words at) ∙ h.size;
          fit =
              fit_written words (at / 64) (without_bit words at) (omega (arith, low, h.size)) h.fit
              (omega (arith, h.fit (at / 64), and_le_l (get_or words (at / 64) 0) (bit_not w64 (1 * 2 ^ (at % 64) % 2 ^ 64))));
          count = omega (arith, h.count, less, was, same);
          no_more = no_more_written words at (without_bit words at) false h.size low without_here without_others h.no_more;
        },
      )

-- a flag that is as it is to be stays
pub flags_stay : (words : List ℕ) (at : ℕ) (f : Bool) → at < channel_places → flag_at words at ≡ f → flags_of words ≡ set (flags_of words) at f
flags_stay words at f low is = flags_are words (set (flags_of words) at f) (length-set (flags_of words) at f ∙ length-flags words) (λ j h.
    elim (cases_eq j at) [
      | inl e ↦ rw e (is ∙ sym (get_or-set_same (flags_of words) at f false (omega (arith, low, length-flags words))))
      | inr n ↦ sym (get_or-set_other (flags_of words) at j f false n ∙ flag words j h)
    ])

-- ---- rows without a flag

zero_flag : (words : List ℕ) (at : ℕ) → get_or words (at / 64) 0 ≡ 0 → flag_at words at ≡ false
zero_flag words at e = is_none (bit_at (get_or words (at / 64) 0) (at % 64)) (ap (λ (w : ℕ). bit_at w (at % 64)) e ∙ bit_at-zero (at % 64))

zeros : (n i : ℕ) → get_or {A = ℕ} (replicate n 0) i 0 ≡ 0
zeros zero i = refl
zeros (suc n) zero = refl
zeros (suc n) (suc i) = zeros n i

pub flags_zero : (words : List ℕ) → ((i : ℕ) → get_or words i 0 ≡ 0) → flags_of words ≡ replicate channel_places false
flags_zero words z = flags_are words (replicate channel_places false) (length-replicate channel_places false)
    (λ at low. zero_flag words at (z (at / 64)) ∙ sym (get_or-replicate channel_places at false false low))

pub flags_none : flags_of (replicate row_words 0) ≡ replicate channel_places false
flags_none = flags_zero (replicate row_words 0) (zeros row_words)

pub row_none : IsRow (replicate row_words 0) 0
row_none = record {
  size = length-replicate {A = ℕ} row_words 0;
  count = sym (ap how_many flags_none ∙ none_set channel_places);
  fit = λ i. omega (arith, zeros row_words i);
  no_more = λ at past. zero_flag (replicate row_words 0) at (zeros row_words (at / 64));
}

pub flags_nothing : flags_of [] ≡ replicate channel_places false
flags_nothing = flags_zero [] (λ i. refl)

pub kept_nothing : IsKept []
kept_nothing = record { size = inl refl; fit = λ i. omega arith; no_more = λ at past. zero_flag [] at refl }

pub kept_row : (words : List ℕ) (count : ℕ) → IsRow words count → IsKept words
kept_row words count h = record { size = inr h.size; fit = h.fit; no_more = h.no_more }

module _ (words : List ℕ) (count : ℕ) (h : IsRow words count) where
  pub count_most : count ≤ channel_places
  count_most = omega (arith, h.count, length-flags words, count_by-le-length (λ (f : Bool). f) (flags_of words))

  pub clear_by_count : count ≡ 0 → flags_of words ≡ replicate channel_places false
  clear_by_count none = all_clear (flags_of words) (omega (arith, h.count, none)) ∙ ap (λ (n : ℕ). replicate n false) (length-flags words)

  pub count_by_clear : flags_of words ≡ replicate channel_places false → count ≡ 0
  count_by_clear clear = h.count ∙ ap how_many clear ∙ none_set channel_places

-- ---- rows that are the same

-- a flag tells its bit
bit_of : (b : ℕ) → b < 2 → (a : ℕ) → a < 2 → (a == 1) ≡ (b == 1) → a ≡ b
bit_of b below a under e = grind (arith, common_steps, e, below, under)

pub one_row : (words others : List ℕ) → length words ≡ row_words → length others ≡ row_words → HasNoMore words → HasNoMore others
    → Fit words → Fit others → flags_of words ≡ flags_of others → words ≡ others
one_row words others size size' no_more no_more' fit fit' same = ext_get_or 0 words others (size ∙ sym size') (λ i h.
    same_from_bits_below 64 (get_or words i 0) (get_or others i 0) (fit i) (fit' i) (λ k below.
    let q : (64 * i + k) / 64 ≡ i = omega arith in
    let r : (64 * i + k) % 64 ≡ k = omega arith in
    let flags : flag_at words (64 * i + k) ≡ flag_at others (64 * i + k) = at (64 * i + k) in
    bit_of (bit_at (get_or others i 0) k) (bit_at-lt (get_or others i 0) k) (bit_at (get_or words i 0) k) (bit_at-lt (get_or words i 0) k)
    (rw (q, r) at flags)))
  where
    within : (j : ℕ) → (j < channel_places) ⊎ (channel_places ≤ j)
    within j = elim (cases_lt j channel_places) [
      | inl h ↦ inl h
      | inr h ↦ inr (omega arith)
    ]

    at : (j : ℕ) → flag_at words j ≡ flag_at others j
    at j = elim (within j) [
      | inl low ↦ sym (flag words j low) ∙ ap (λ (l : List Bool). get_or l j false) same ∙ flag others j low
      | inr past ↦ no_more j past ∙ sym (no_more' j past)
    ]

-- two lists of words are the same where each pair is
pub same_words : (xs ys : List ℕ) → pointwise eqb xs ys ≡ true → xs ≡ ys
same_words [] [] h = refl
same_words [] (y ∷ ys) h = absurd (cc h)
same_words (x ∷ xs) [] h = absurd (cc h)
same_words (x ∷ xs) (y ∷ ys) h =
    let p = and_parts (eqb x y) (pointwise eqb xs ys) h in
    let test = p.0 in
    let first : x ≡ y = grind (arith, nat_tests, test) in
    ap (λ a. a ∷ xs) first ∙ ap (λ (l : List ℕ). y ∷ l) (same_words xs ys p.1)

pub words_self : (xs : List ℕ) → pointwise eqb xs xs ≡ true
words_self [] = refl
words_self (x ∷ xs) = and_from (eqb x x) (pointwise eqb xs xs) (grind (arith, nat_tests)) (words_self xs)
