-- Numbers that are digits alone: how they are read, and the whole number that they write.
use Rattle.std.proofs.Common.{◌≡◌, ℕ, ◌<◌, ◌≤◌, List, [], ◌∷◌, ◌++◌, length, refl, sym, ap, subst, ◌∙◌, arith, inl, inr}
use Rattle.std.specs.Prelude.{◌==◌, ◌&&◌, nat_le, pos, Result, Ok, Err, if◌then◌else◌}
use Rattle.std.specs.Result.{result_map_both}
use Rattle.std.proofs.lemmas.Bool.{cases_Bool, le-leb, lt-leb}
use Rattle.std.proofs.lemmas.List.{append-nil}
use Rattle.sw_base.specs.Text.{is_digit, AllPass, Spans}
use Rattle.sw_base.specs.Number.{value_of, IsMantissa, IsNumber, IsInLimits, from_first, magnitude, rounded}
use Rattle.sw_base.specs.declared.error.ScpiError.{ScpiError}
use Rattle.sw_base.specs.declared.error.ScpiError.TheVariants.{DataOutOfRange}
use Rattle.sw_lex.specs.declared.table.Numeric.{Numeric}
use Rattle.sw_lex.specs.Commands.{of_whole, least, greatest}
use Rattle.sw_lex.specs.Values.{IsQuantity, digits_written, natural_in, whole_of}
use Rattle.sw_lex.proofs.NumbersLemmas.{digits_mantissa, over_exponent}

-- what is read to its end
pub all_span : (text front rest : List ℕ) → Spans is_digit text front rest → length rest ≡ 0 → AllPass is_digit text
all_span text front [] s e = subst (λ (t : List ℕ). AllPass is_digit t) (sym (s.whole ∙ append-nil front)) s.pass
all_span text front (b ∷ rest) s e = absurd (omega (arith, e))

few_left : (digits : List ℕ) → length (from_first digits) ≤ length digits
few_left [] = omega arith
few_left (b ∷ digits) =
    elim (cases_Bool (b == 48)) [ inl e ↦ rw e (omega (arith, few_left digits)) | inr e ↦ rw e (omega arith) ]

plain_mantissa : (digits : List ℕ) → AllPass is_digit digits → 0 < length digits → IsMantissa digits (digits_written digits) []
plain_mantissa [] a h = absurd (omega (arith, h))
plain_mantissa (d ∷ ds) a h =
    subst (λ (t : List ℕ). IsMantissa (d ∷ t) (digits_written (d ∷ ds)) []) (append-nil ds) (digits_mantissa d ds [] a tt)

pub plain_quantity : (digits : List ℕ) → AllPass is_digit digits → 0 < length digits → length digits ≤ 9
    → IsQuantity digits (digits_written digits) [] × IsInLimits (digits_written digits)
plain_quantity digits a h few =
    let number : IsNumber digits (digits_written digits) [] = record {
      after = [];
      mantissa = plain_mantissa digits a h;
      tail = inr (over_exponent [] tt, refl, refl);
      ended = record { letters = []; rest = []; all = record { whole = refl; pass = tt; off = tt }; end = tt };
    } in
    let few_count : length (from_first (digits ++ [])) ≤ 255 = rw append-nil (omega (arith, few, few_left digits)) in (
      record { rest = []; gap = []; number = number; blank = record { whole = refl; pass = tt; off = tt }; letters = tt },
      record { digits = few_count; exponent = omega arith },
    )

magnitude_whole : (m : ℕ) → magnitude m (pos 0) ≡ m
unfolding magnitude
magnitude_whole m = omega arith

rounded_digits : (digits : List ℕ) → rounded (digits_written digits) 0 ≡ pos (value_of digits)
rounded_digits digits = ap (λ (n : ℕ). pos n) (magnitude_whole (value_of (digits ++ [])) ∙ ap value_of (append-nil digits))

natural_pos : (low high v : ℕ) → natural_in low high (pos v) ≡ (if nat_le low v && nat_le v high then Ok v else Err DataOutOfRange)
natural_pos low high v =
    elim (cases_Bool (nat_le low v)) [
      | inl e ↦ elim (cases_Bool (nat_le v high)) [ inl f ↦ rw (e, f) refl | inr f ↦ rw (e, f) refl ]
      | inr e ↦ rw e refl
    ]

whole_digits : (ask : Numeric) (k : ℕ) (digits : List ℕ) → whole_of ask k (digits_written digits) []
    ≡ result_map_both (λ m. of_whole ask k m) (λ e. e)
    (if nat_le (least ask) (value_of digits) && nat_le (value_of digits) (greatest ask) then Ok (value_of digits) else Err DataOutOfRange)
whole_digits ask k digits =
    ap (λ (r : Result ℕ ScpiError). result_map_both (λ m. of_whole ask k m) (λ e. e) r)
    (ap (natural_in (least ask) (greatest ask)) (rounded_digits digits) ∙ natural_pos (least ask) (greatest ask) (value_of digits))

pub whole_in : (ask : Numeric) (k : ℕ) (digits : List ℕ) → least ask ≤ value_of digits → value_of digits ≤ greatest ask
    → whole_of ask k (digits_written digits) [] ≡ Ok (of_whole ask k (value_of digits))
whole_in ask k digits l h = whole_digits ask k digits ∙ rw (le-leb _ _ l, le-leb _ _ h) refl

pub whole_below : (ask : Numeric) (k : ℕ) (digits : List ℕ) → value_of digits < least ask → whole_of ask k (digits_written digits) [] ≡ Err DataOutOfRange
whole_below ask k digits l = whole_digits ask k digits ∙ rw (lt-leb _ _ l) refl

pub whole_above : (ask : Numeric) (k : ℕ) (digits : List ℕ) → greatest ask < value_of digits → whole_of ask k (digits_written digits) [] ≡ Err DataOutOfRange
whole_above ask k digits h =
    whole_digits ask k digits ∙ elim (cases_Bool (nat_le (least ask) (value_of digits))) [
      | inl e ↦ rw (e, lt-leb _ _ h) refl
      | inr e ↦ rw e refl
    ]
