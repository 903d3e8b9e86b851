-- A text is read as a number in one way.
use Rattle.std.proofs.Common.{◌≡◌, ℕ, zero, suc, ◌<◌, ◌≤◌, Bool, true, false, not, ℤ, ◌⊎◌, List, [], ◌∷◌, ◌++◌, length, refl, sym, ap, ◌∙◌, subst, inl, inr}
use Rattle.std.proofs.Common.{arith}
use Rattle.sw_base.specs.Text.{is_blank, is_digit, is_letter, StartsOff, Spans}
use mir.Syntax.{w32, w128}
use mir.Val.{to_z, of_z}
use Rattle.std.specs.Prelude.{◌==◌, unsigned_abs, FitsSigned}
use Rattle.std.proofs.lemmas.Int.{to_z-of_z, fits_signed_from_abs}
use Rattle.sw_base.specs.Number.{Written, value_of, with_sign, is_negative, unsigned, IsFraction, IsMantissa, IsExponent, IsExponentTail, is_end, IsEnded}
use Rattle.sw_base.specs.Number.{IsNumber}
use Rattle.sw_base.specs.Number.{from_first, significant, IsInLimits, IsRefusedNumber}
use Rattle.sw_base.specs.declared.error.ScpiError.{ScpiError}
use Rattle.sw_base.specs.declared.error.ScpiError.TheVariants.{InvalidCharacterInNumber, ExponentTooLarge, TooManyDigits}
use Rattle.std.proofs.lemmas.Bool.{cases_Bool}
use Rattle.sw_base.proofs.Runs.{one_span}

no_point : (after : List ℕ) (text : List ℕ) → text ≡ 46 ∷ after → StartsOff (λ b. b == 46) text → ⊥
no_point after text e off = let h : true ≡ false = subst (StartsOff (λ b. b == 46)) e off in cc

pub one_fraction : (text digits rest digits' rest' : List ℕ) → IsFraction text digits rest → IsFraction text digits' rest' → (digits ≡ digits') × (rest ≡ rest')
one_fraction text d r d' r' (inl (a, e, s)) (inl (b, f, t)) =
    let same : a ≡ b = cc in
    one_span is_digit b d r d' r' (subst (λ (x : List ℕ). Spans is_digit x d r) same s) t
one_fraction text d r d' r' (inl (a, e, s)) (inr (off, f, t)) = absurd (no_point a text e off)
one_fraction text d r d' r' (inr (off, f, t)) (inl (a, e, s)) = absurd (no_point a text e off)
one_fraction text d r d' r' (inr (o, e, s)) (inr (p, f, t)) = (e ∙ sym f, s ∙ sym t)

pub one_mantissa : (text : List ℕ) (n : Written) (rest : List ℕ) (m : Written) (other : List ℕ) → IsMantissa text n rest → IsMantissa text m other
    → (n.negative ≡ m.negative) × (n.whole ≡ m.whole) × (n.fraction ≡ m.fraction) × (rest ≡ other)
one_mantissa text n rest m other h g =
    let before = one_span is_digit (unsigned text) n.whole h.pointed m.whole g.pointed h.before g.before in
    let after = one_fraction g.pointed n.fraction rest m.fraction other (subst (λ (x : List ℕ). IsFraction x n.fraction rest) before.1 h.after) g.after in
    (h.sign ∙ sym g.sign, before.0, after.0, after.1)

one_mark : (marked after other : List ℕ) → (marked ≡ 69 ∷ after) ⊎ (marked ≡ 101 ∷ after) → (marked ≡ 69 ∷ other) ⊎ (marked ≡ 101 ∷ other) → after ≡ other
one_mark marked after other (inl e) (inl f) = cc
one_mark marked after other (inl e) (inr f) = let h : ◌≡◌ {A = ℕ} 69 101 = cc in absurd (omega (arith, h))
one_mark marked after other (inr e) (inl f) = let h : ◌≡◌ {A = ℕ} 101 69 = cc in absurd (omega (arith, h))
one_mark marked after other (inr e) (inr f) = cc

-- where an exponent is marked and its digits stand
pub one_place : (text : List ℕ) (negative : Bool) (digits rest : List ℕ) (h : IsExponent text negative digits rest) (before marked after gap signed : List ℕ)
    → Spans is_blank text before marked → (marked ≡ 69 ∷ after) ⊎ (marked ≡ 101 ∷ after) → Spans is_blank after gap signed → h.signed ≡ signed
one_place text negative digits rest h before marked after gap signed s m t =
    let first = one_span is_blank text h.before h.marked before marked h.blank s in
    let behind = one_mark marked h.after after (subst (λ (x : List ℕ). (x ≡ 69 ∷ h.after) ⊎ (x ≡ 101 ∷ h.after)) first.1 h.mark) m in
    (one_span is_blank after h.gap h.signed gap signed (subst (λ (x : List ℕ). Spans is_blank x h.gap h.signed) behind h.space) t).1

pub one_exponent : (text : List ℕ) (negative : Bool) (digits rest : List ℕ) (negative' : Bool) (digits' rest' : List ℕ) → IsExponent text negative digits rest
    → IsExponent text negative' digits' rest' → (negative ≡ negative') × (digits ≡ digits') × (rest ≡ rest')
one_exponent text n d r n' d' r' h g =
    let place : h.signed ≡ g.signed = one_place text n d r h g.before g.marked g.after g.gap g.signed g.blank g.mark g.space in
    let all = one_span is_digit (unsigned g.signed) d r d' r' (subst (λ (x : List ℕ). Spans is_digit (unsigned x) d r) place h.all) g.all in
    (h.sign ∙ ap is_negative place ∙ sym g.sign, all.0, all.1)

pub one_tail : (text : List ℕ) (e : ℤ) (rest : List ℕ) (f : ℤ) (other : List ℕ) → IsExponentTail text e rest → IsExponentTail text f other
    → (e ≡ f) × (rest ≡ other)
one_tail text e rest f other (inl (n, d, h, v)) (inl (n', d', g, w)) =
    let same = one_exponent text n d rest n' d' other h g in
    let value : with_sign n (value_of d) ≡ with_sign n' (value_of d') = rw (same.0, same.1) refl in
    (v ∙ value ∙ sym w, same.2)
one_tail text e rest f other (inl (n, d, h, v)) (inr (none, w, t)) = absurd (none n d rest h)
one_tail text e rest f other (inr (none, w, t)) (inl (n, d, h, v)) = absurd (none n d other h)
one_tail text e rest f other (inr (p, v, s)) (inr (q, w, t)) = (v ∙ sym w, s ∙ sym t)

pub one_number : (text : List ℕ) (n : Written) (rest : List ℕ) (m : Written) (other : List ℕ) → IsNumber text n rest → IsNumber text m other → (n ≡ m)
    × (rest ≡ other)
one_number text n rest m other h g =
    let front = one_mantissa text n h.after m g.after h.mantissa g.mantissa in
    let back = one_tail g.after n.exponent rest m.exponent other (subst (λ (x : List ℕ). IsExponentTail x n.exponent rest) front.3 h.tail) g.tail in
    (same_written n m front.0 front.1 front.2 back.0, back.1)
  where
    same_written : (n m : Written) → n.negative ≡ m.negative → n.whole ≡ m.whole → n.fraction ≡ m.fraction → n.exponent ≡ m.exponent → n ≡ m
    same_written n m p q r s =
        ap (λ (x : Bool). record n { negative = x }) p
        ∙ ap (λ (x : List ℕ). record n { negative = m.negative; whole = x }) q
        ∙ ap (λ (x : List ℕ). record m { fraction = x; exponent = n.exponent }) r
        ∙ ap (λ (x : ℤ). record m { exponent = x }) s

-- the letters that run on from a number are the longest run of them
pub ended : (text front rest : List ℕ) → Spans is_letter text front rest → IsEnded text → StartsOff (λ b. not (is_end b)) rest
ended text front rest s h = let same = one_span is_letter text h.letters h.rest front rest h.all s in subst (StartsOff (λ b. not (is_end b))) same.1 h.end

pub no_mark : (text : List ℕ) (negative : Bool) (digits rest before marked : List ℕ) → IsExponent text negative digits rest → Spans is_blank text before marked
    → ((after : List ℕ) → (marked ≡ 69 ∷ after) ⊎ (marked ≡ 101 ∷ after) → ⊥) → ⊥
no_mark text negative digits rest before marked h s none =
    let first = one_span is_blank text h.before h.marked before marked h.blank s in
    none h.after (subst (λ (x : List ℕ). (x ≡ 69 ∷ h.after) ⊎ (x ≡ 101 ∷ h.after)) first.1 h.mark)

pub no_digits : (text : List ℕ) (negative : Bool) (digits rest before marked after gap signed front back : List ℕ) → IsExponent text negative digits rest
    → Spans is_blank text before marked → (marked ≡ 69 ∷ after) ⊎ (marked ≡ 101 ∷ after) → Spans is_blank after gap signed
    → Spans is_digit (unsigned signed) front back → length front ≡ 0 → ⊥
no_digits text negative digits rest before marked after gap signed front back h s m t d none =
    let place = one_place text negative digits rest h before marked after gap signed s m t in
    let all = one_span is_digit (unsigned signed) digits rest front back (subst (λ (x : List ℕ). Spans is_digit (unsigned x) digits rest) place h.all) d in
    omega (arith, h.digit, ap length all.0)

pub no_mantissa : (text whole pointed fraction rest : List ℕ) → Spans is_digit (unsigned text) whole pointed → IsFraction pointed fraction rest
    → length whole ≡ 0 → length fraction ≡ 0 → (n : Written) (other : List ℕ) → IsMantissa text n other → ⊥
no_mantissa text whole pointed fraction rest s t p q n other h =
    let before = one_span is_digit (unsigned text) n.whole h.pointed whole pointed h.before s in
    let after = one_fraction pointed n.fraction other fraction rest (subst (λ (x : List ℕ). IsFraction x n.fraction other) before.1 h.after) t in
    omega (arith, h.digit, ap length before.0, ap length after.0)

-- the digits from the first that isn't 0, over two runs
pub from_first-zeros : (whole fraction : List ℕ) → length (from_first whole) ≡ 0 → from_first (whole ++ fraction) ≡ from_first fraction
from_first-zeros [] fraction h = refl
from_first-zeros (b ∷ whole) fraction h =
    elim (cases_Bool (b == 48)) [
      | inl e ↦ rw e (from_first-zeros whole fraction (rw e at h))
      | inr e ↦ let some : suc (length whole) ≡ 0 = rw e at h in absurd (omega arith)
    ]

pub from_first-some : (whole fraction : List ℕ) → 0 < length (from_first whole) → from_first (whole ++ fraction) ≡ from_first whole ++ fraction
from_first-some [] fraction h = absurd (omega arith)
from_first-some (b ∷ whole) fraction h =
    elim (cases_Bool (b == 48)) [
      | inl e ↦ rw e (from_first-some whole fraction (rw e at h))
      | inr e ↦ rw e refl
    ]

-- a mantissa, an exponent or none, and an end make a number
pub number_is : (text : List ℕ) (m : Written) (after rest : List ℕ) (e : ℤ) → IsMantissa text m after → IsExponentTail after e rest → IsEnded rest
    → IsNumber text (record m { exponent = e }) rest
number_is text m after rest e h t s = record {
  after = after;
  mantissa = record { sign = h.sign; pointed = h.pointed; before = h.before; after = h.after; digit = h.digit };
  tail = t;
  ended = s;
}

pub not_ended : (text : List ℕ) (m : Written) (after other : List ℕ) (e : ℤ) → IsMantissa text m after → IsExponentTail after e other → (IsEnded other → ⊥)
    → (n : Written) (rest : List ℕ) → IsNumber text n rest → ⊥
not_ended text m after other e h t none n rest g =
    let front = one_mantissa text n g.after m after g.mantissa h in
    let back = one_tail after n.exponent rest e other (subst (λ (x : List ℕ). IsExponentTail x n.exponent rest) front.3 g.tail) t in
    none (subst IsEnded back.1 g.ended)

pub size-with_sign : (negative : Bool) (n : ℕ) → unsigned_abs (with_sign negative n) ≡ n
size-with_sign false n = refl
size-with_sign true zero = refl
size-with_sign true (suc n) = refl

-- a signed number below 2^31 in size passes through the casts
pub cast_back : (z : ℤ) → unsigned_abs z ≤ 32000 → to_z w32 (of_z w32 (to_z w128 (of_z w128 z))) ≡ z
cast_back z small =
    let wide : FitsSigned w128 z = fits_signed_from_abs w128 z (omega arith) in
    let fits : FitsSigned w32 z = fits_signed_from_abs w32 z (omega arith) in
    rw (to_z-of_z w128 z wide) (to_z-of_z w32 z fits)

-- a text with too many digits, and one with too large an exponent
record IsLong (text : List ℕ) : Type 0 where
  n : Written
  rest : List ℕ
  number : IsNumber text n rest
  many : 255 < significant n

record IsSteep (text : List ℕ) : Type 0 where
  n : Written
  rest : List ℕ
  number : IsNumber text n rest
  few : significant n ≤ 255
  large : 32000 < unsigned_abs n.exponent

-- the refusals that there are
data Cause (text : List ℕ) : ScpiError → Type 0 where
  malformed : ((n : Written) (rest : List ℕ) → IsNumber text n rest → ⊥) → Cause text InvalidCharacterInNumber
  long : IsLong text → Cause text TooManyDigits
  steep : IsSteep text → Cause text ExponentTooLarge

cause : (text : List ℕ) (e : ScpiError) → IsRefusedNumber text e → Cause text e
cause text InvalidCharacterInNumber h = malformed h
cause text TooManyDigits (n, rest, h, many) = long (record { n = n; rest = rest; number = h; many = many })
cause text ExponentTooLarge (n, rest, h, few, large) = steep (record { n = n; rest = rest; number = h; few = few; large = large })
cause text _ h = absurd h

either : (text : List ℕ) (n : Written) (rest : List ℕ) (e : ScpiError) → IsNumber text n rest → IsInLimits n → Cause text e → ⊥
either text n rest _ h l (malformed none) = none n rest h
either text n rest _ h l (long g) = omega (arith, l.digits, g.many, ap significant (one_number text n rest g.n g.rest h g.number).0)
either text n rest _ h l (steep g) =
    omega (arith, l.exponent, g.large, ap (λ (x : Written). unsigned_abs x.exponent) (one_number text n rest g.n g.rest h g.number).0)

apart : (text : List ℕ) → IsLong text → IsSteep text → ⊥
apart text h g = omega (arith, h.many, g.few, ap significant (one_number text h.n h.rest g.n g.rest h.number g.number).0)

one_cause : (text : List ℕ) (e f : ScpiError) → Cause text e → Cause text f → e ≡ f
one_cause text _ _ (malformed none) (malformed other) = refl
one_cause text _ _ (malformed none) (long g) = absurd (none g.n g.rest g.number)
one_cause text _ _ (malformed none) (steep g) = absurd (none g.n g.rest g.number)
one_cause text _ _ (long h) (malformed none) = absurd (none h.n h.rest h.number)
one_cause text _ _ (long h) (long g) = refl
one_cause text _ _ (long h) (steep g) = absurd (apart text h g)
one_cause text _ _ (steep h) (malformed none) = absurd (none h.n h.rest h.number)
one_cause text _ _ (steep h) (long g) = absurd (apart text g h)
one_cause text _ _ (steep h) (steep g) = refl

pub not_both : (text : List ℕ) (n : Written) (rest : List ℕ) (e : ScpiError) → IsNumber text n rest → IsInLimits n → IsRefusedNumber text e → ⊥
not_both text n rest e h l r = either text n rest e h l (cause text e r)

pub one_refusal : (text : List ℕ) (e f : ScpiError) → IsRefusedNumber text e → IsRefusedNumber text f → e ≡ f
one_refusal text e f r s = one_cause text e f (cause text e r) (cause text f s)
