-- Numbers with suffixes, and words.
use Rattle.std.proofs.Common.{◌≡◌, ℕ, ◌<◌, Bool, true, false, not, List, [], ◌∷◌, ◌++◌, length, map, refl, sym, ap, subst, ◌∙◌, arith, inl, inr, ℤ}
use Rattle.std.specs.Prelude.{codes}
use Rattle.std.specs.Char.{to_ascii_uppercase}
use Rattle.std.proofs.lemmas.Bool.{cases_Bool}
use Rattle.std.proofs.lemmas.Grind.{common_steps}
use Rattle.std.proofs.lemmas.List.{append-nil}
use Rattle.sw_base.specs.Text.{is_blank, is_digit, is_letter, AllPass, StartsOff, Spans}
use Rattle.sw_base.specs.Number.{Written, IsMantissa, IsExponentTail, IsEnded, IsNumber, is_end}
use Rattle.sw_base.proofs.Runs.{one_span}
use Rattle.sw_base.proofs.Numerals.{one_mantissa, one_tail, one_number, number_is}
use Rattle.sw_lex.specs.Values.{IsQuantity, is_named, leading, trailing, all_digits, unnumbered}

-- ---- suffixes

abbrev pub IsSuffix : List ℕ → Type 0
IsSuffix text = (gap suffix : List ℕ) × Spans is_blank text gap suffix × AllPass is_letter suffix

no_rest : (rest : List ℕ) → length rest ≡ 0 → rest ≡ []
no_rest [] e = refl
no_rest (b ∷ rest) e = absurd (omega (arith, e))

pub suffix_yes : (text gap suffix front rest : List ℕ) → Spans is_blank text gap suffix → Spans is_letter suffix front rest → length rest ≡ 0 → IsSuffix text
suffix_yes text gap suffix front rest s t e =
    let w : suffix ≡ front = t.whole ∙ ap (λ (x : List ℕ). front ++ x) (no_rest rest e) ∙ append-nil front in
    (gap, suffix, s, subst (λ (x : List ℕ). AllPass is_letter x) (sym w) t.pass)

pub suffix_no : (text gap suffix front rest : List ℕ) → Spans is_blank text gap suffix → Spans is_letter suffix front rest → IsSuffix text → length rest ≡ 0
suffix_no text gap suffix front rest s t h =
    let a = one_span is_blank text gap suffix h.0 h.1 s h.2 in
    let b = one_span is_letter suffix front rest h.1 [] t (record { whole = a.1 ∙ sym (append-nil h.1); pass = h.3; off = tt }) in
    ap (λ (x : List ℕ). length x) b.1

blank-letter : (b : ℕ) → is_blank b ≡ true → is_letter b ≡ false
blank-letter b h = grind (arith, common_steps)

blank-end : (b : ℕ) → is_blank b ≡ true → not (is_end b) ≡ false
blank-end b h = rw h refl

ended_at : (gap suffix : List ℕ) → AllPass is_blank gap → AllPass is_letter suffix → IsEnded (gap ++ suffix)
ended_at [] suffix a l = record { letters = suffix; rest = []; all = record { whole = sym (append-nil suffix); pass = l; off = tt }; end = tt }
ended_at (b ∷ gap) suffix a l = record {
  letters = [];
  rest = b ∷ (gap ++ suffix);
  all = record { whole = refl; pass = tt; off = blank-letter b a.0 };
  end = blank-end b a.0;
}

pub quantity_is : (text : List ℕ) (m : Written) (after rest : List ℕ) (e : ℤ) → IsMantissa text m after → IsExponentTail after e rest → IsSuffix rest
    → (n : Written) × (suffix : List ℕ) × IsQuantity text n suffix
quantity_is text m after rest e a t s =
    let n : IsEnded rest = subst (λ (x : List ℕ). IsEnded x) (sym s.2.whole) (ended_at s.0 s.1 s.2.pass s.3) in
    (record m { exponent = e }, s.1, record { rest = rest; gap = s.0; number = number_is text m after rest e a t n; blank = s.2; letters = s.3 })

pub quantity_suffix : (text : List ℕ) (m : Written) (after rest : List ℕ) (e : ℤ) → IsMantissa text m after → IsExponentTail after e rest
    → ((n : Written) × (suffix : List ℕ) × IsQuantity text n suffix) → IsSuffix rest
quantity_suffix text m after rest e a t q =
    let p = q.2.number in
    let x : p.after ≡ after = (one_mantissa text q.0 p.after m after p.mantissa a).3 in
    let y = one_tail after q.0.exponent q.2.rest e rest (subst (λ (z : List ℕ). IsExponentTail z q.0.exponent q.2.rest) x p.tail) t in
    (q.2.gap, q.1, subst (λ (z : List ℕ). Spans is_blank z q.2.gap q.1) y.1 q.2.blank, q.2.letters)

pub quantity_at : (text : List ℕ) (n : Written) (rest gap suffix : List ℕ) → IsNumber text n rest → Spans is_blank rest gap suffix
    → ((m : Written) × (other : List ℕ) × IsQuantity text m other) → IsQuantity text n suffix
quantity_at text n rest gap suffix p s q =
    let r = one_number text n rest q.0 q.2.rest p q.2.number in
    let t = one_span is_blank rest gap suffix q.2.gap q.1 s (subst (λ (z : List ℕ). Spans is_blank z q.2.gap q.1) (sym r.1) q.2.blank) in
    record { rest = rest; gap = gap; number = p; blank = s; letters = subst (λ (z : List ℕ). AllPass is_letter z) (sym t.1) q.2.letters }

-- a number and what may be its suffix
pub quantity_by : (text : List ℕ) (n : Written) (rest gap suffix : List ℕ) → IsNumber text n rest → Spans is_blank rest gap suffix → IsSuffix rest
    → IsQuantity text n suffix
quantity_by text n rest gap suffix p s x =
    quantity_at text n rest gap suffix p s (n, x.1, record { rest = rest; gap = x.0; number = p; blank = x.2; letters = x.3 })

-- a number and what is no suffix
pub no_quantity : (text : List ℕ) (n : Written) (rest : List ℕ) → IsNumber text n rest → (IsSuffix rest → ⊥) → (m : Written) (other : List ℕ)
    → IsQuantity text m other → ⊥
no_quantity text n rest p h m other q =
    let r = one_number text n rest m q.rest p q.number in
    h (q.gap, other, subst (λ (z : List ℕ). Spans is_blank z q.gap other) (sym r.1) q.blank, q.letters)

-- ---- words

all_front : (front rest : List ℕ) → AllPass is_digit front → all_digits rest ≡ true → all_digits (front ++ rest) ≡ true
all_front [] rest a h = h
all_front (b ∷ front) rest a h = rw (a.0, all_front front rest a.1 h) refl

not_all : (front rest : List ℕ) → AllPass is_digit front → StartsOff is_digit rest → 0 < length rest → all_digits (front ++ rest) ≡ false
not_all [] [] a o l = absurd (omega (arith, l))
not_all [] (b ∷ rest) a o l = rw o refl
not_all (b ∷ front) rest a o l = rw (a.0, not_all front rest a.1 o l) refl

led : (front rest : List ℕ) → AllPass is_letter front → StartsOff is_letter rest → (leading (front ++ rest) ≡ front) × (trailing (front ++ rest) ≡ rest)
led [] [] a o = (refl, refl)
led [] (b ∷ rest) a o = rw o (refl, refl)
led (b ∷ front) rest a o = let r = led front rest a.1 o in rw (a.0, r.0, r.1) (refl, refl)

pub digits_all : (b : Bool) (text front rest : List ℕ) → Spans is_digit text front rest → (b ≡ true → length rest ≡ 0) → (b ≡ false → 0 < length rest)
    → b ≡ all_digits text
digits_all b text front rest s y n =
    elim (cases_Bool b) [
      | inl e ↦ e ∙ sym (subst (λ (x : List ℕ). all_digits x ≡ true) (sym (s.whole ∙ ap (λ (x : List ℕ). front ++ x) (no_rest rest (y e))))
          (all_front front [] s.pass refl))
      | inr e ↦ e ∙ sym (subst (λ (x : List ℕ). all_digits x ≡ false) (sym s.whole) (not_all front rest s.pass s.off (n e)))
    ]

pub leading_is : (text front rest : List ℕ) → Spans is_letter text front rest → (leading text ≡ front) × (trailing text ≡ rest)
leading_is text front rest s = subst (λ (x : List ℕ). (leading x ≡ front) × (trailing x ≡ rest)) (sym s.whole) (led front rest s.pass s.off)

pub unnumbered_so : (word front rest : List ℕ) → Spans is_letter word front rest → is_named (codes "LAYer") (map to_ascii_uppercase front) ≡ true
    → all_digits rest ≡ true → front ≡ unnumbered word
unnumbered_so word front rest s n d = let l = leading_is word front rest s in rw (l.0, l.1, n, d) refl

pub unnumbered_name : (word front rest : List ℕ) → Spans is_letter word front rest → is_named (codes "LAYer") (map to_ascii_uppercase front) ≡ false
    → word ≡ unnumbered word
unnumbered_name word front rest s n = let l = leading_is word front rest s in rw (l.0, l.1, n) refl

pub unnumbered_digits : (word front rest : List ℕ) → Spans is_letter word front rest → is_named (codes "LAYer") (map to_ascii_uppercase front) ≡ true
    → all_digits rest ≡ false → word ≡ unnumbered word
unnumbered_digits word front rest s n d = let l = leading_is word front rest s in rw (l.0, l.1, n, d) refl
