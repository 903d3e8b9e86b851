-- Blocks: their length and their bytes.
use Rattle.std.proofs.Common.{◌≡◌, ℕ, ◌+◌, ◌*◌, ◌^◌, ◌<◌, ◌≤◌, List, [], ◌∷◌, ◌++◌, length, take, drop, refl, sym, ap, subst, ◌∙◌, append_assoc, arith}
use Rattle.std.proofs.lemmas.List.{append-nil, length-append}
use Rattle.sw_base.specs.Text.{is_digit, AllPass, Spans}
use Rattle.sw_base.specs.Number.{value_of}
use Rattle.sw_base.proofs.Runs.{one_span}
use Rattle.sw_lex.specs.Elements.{IsBlock}
use Rattle.sw_base.proofs.Values.{more_zeros}
use Rattle.sw_base.proofs.Rounding.{value_lt}
use Rattle.sw_lex.proofs.ShorterLemmas.{longer}
use Rattle.sw_lex.proofs.UnitsLemmas.{front_of, rest_of}

pub block_at : (w : ℕ) (others bytes rest : List ℕ) (b : IsBlock (35 ∷ w ∷ others) bytes rest)
    → (w ≡ 48 + length b.digits) × (others ≡ b.digits ++ (bytes ++ rest))
block_at w others bytes rest b =
    let e : 35 ∷ w ∷ others ≡ 35 ∷ (48 + length b.digits) ∷ (b.digits ++ (bytes ++ rest)) = b.whole in
    let f : w ∷ others ≡ (48 + length b.digits) ∷ (b.digits ++ (bytes ++ rest)) = cc in
    (let k : w ≡ 48 + length b.digits = cc in k, let k : others ≡ b.digits ++ (bytes ++ rest) = cc in k)

pub no_width : (bytes rest : List ℕ) → IsBlock (35 ∷ []) bytes rest → ⊥
no_width bytes rest b =
    let e : 35 ∷ [] ≡ 35 ∷ (48 + length b.digits) ∷ (b.digits ++ (bytes ++ rest)) = b.whole in
    omega (arith, ap (λ (t : List ℕ). length t) e)

pub one_block : (text c d a b : List ℕ) → IsBlock text c a → IsBlock text d b → (c ≡ d) × (a ≡ b)
one_block text c d a b p q =
    let e : 35 ∷ (48 + length p.digits) ∷ (p.digits ++ (c ++ a)) ≡ 35 ∷ (48 + length q.digits) ∷ (q.digits ++ (d ++ b)) = sym p.whole ∙ q.whole in
    let f : (48 + length p.digits) ∷ (p.digits ++ (c ++ a)) ≡ (48 + length q.digits) ∷ (q.digits ++ (d ++ b)) = cc in
    let n : 48 + length p.digits ≡ 48 + length q.digits = cc in
    let g : p.digits ++ (c ++ a) ≡ q.digits ++ (d ++ b) = cc in
    let m : length q.digits ≡ length p.digits = omega (arith, n) in
    let ds : p.digits ≡ q.digits = sym (front_of (p.digits ++ (c ++ a)) p.digits (c ++ a) (length p.digits) refl refl)
    ∙ front_of (p.digits ++ (c ++ a)) q.digits (d ++ b) (length p.digits) g m in
    let h : c ++ a ≡ d ++ b = sym (rest_of (p.digits ++ (c ++ a)) p.digits (c ++ a) (length p.digits) refl refl)
    ∙ rest_of (p.digits ++ (c ++ a)) q.digits (d ++ b) (length p.digits) g m in
    let l : length d ≡ length c = q.counted ∙ ap (λ (t : List ℕ). value_of t) (sym ds) ∙ sym p.counted in (
      sym (front_of (c ++ a) c a (length c) refl refl) ∙ front_of (c ++ a) d b (length c) h l,
      sym (rest_of (c ++ a) c a (length c) refl refl) ∙ rest_of (c ++ a) d b (length c) h l,
    )

pub block_tail : (text bytes rest : List ℕ) → IsBlock text bytes rest → (front : List ℕ) × (text ≡ front ++ rest)
block_tail text bytes rest b = (
  35 ∷ (48 + length b.digits) ∷ (b.digits ++ bytes),
  b.whole ∙ ap (λ (t : List ℕ). 35 ∷ (48 + length b.digits) ∷ t) (sym (append_assoc b.digits bytes rest)),
)

-- ---- the length that stands there

pub too_short : (text : List ℕ) (width : ℕ) → length text < width → (digits bytes rest : List ℕ) → length digits ≡ width → text ≡ digits ++ (bytes ++ rest) → ⊥
too_short text width l digits bytes rest n e = omega (arith, l, n, longer text digits (bytes ++ rest) e)

pub not_digits : (text : List ℕ) (width : ℕ) (front others : List ℕ) → Spans is_digit (take width text) front others → 0 < length others
    → (digits bytes rest : List ℕ) → AllPass is_digit digits → length digits ≡ width → text ≡ digits ++ (bytes ++ rest) → ⊥
not_digits text width front others s l digits bytes rest a n e =
    let t : take width text ≡ digits = front_of text digits (bytes ++ rest) width e n in
    let r = one_span is_digit (take width text) front others digits [] s (record { whole = t ∙ sym (append-nil digits); pass = a; off = tt }) in
    omega (arith, l, ap (λ (x : List ℕ). length x) r.1)

pub few_bytes : (text : List ℕ) (width : ℕ) → length (drop width text) < value_of (take width text) → (digits bytes rest : List ℕ) → length digits ≡ width
    → length bytes ≡ value_of digits → text ≡ digits ++ (bytes ++ rest) → ⊥
few_bytes text width l digits bytes rest n m e =
    let t : take width text ≡ digits = front_of text digits (bytes ++ rest) width e n in
    let d : drop width text ≡ bytes ++ rest = rest_of text digits (bytes ++ rest) width e n in
    omega (arith, l, m, ap (λ (x : List ℕ). value_of x) t, ap (λ (x : List ℕ). length x) d, length-append bytes rest)

pub all_digits : (text front others : List ℕ) → Spans is_digit text front others → length others ≡ 0 → AllPass is_digit text
all_digits text front [] s l = subst (λ (x : List ℕ). AllPass is_digit x) (sym (s.whole ∙ append-nil front)) s.pass
all_digits text front (b ∷ others) s l = absurd (omega (arith, l))

-- nine digits write no more than this
pub nine : (digits : List ℕ) → AllPass is_digit digits → length digits ≤ 9 → value_of digits ≤ 999999999
nine digits a l =
    let b : 1 * 10 ^ length digits ≤ 1 * 10 ^ 9 = more_zeros 1 (length digits) 9 l in
    let c : 10 ^ 9 ≡ 1000000000 = refl in
    omega (arith, value_lt digits a, b, c)

pub block_whole : (text bytes rest : List ℕ) → IsBlock text bytes rest → 0 < length rest → (other : List ℕ) → IsBlock text other [] → ⊥
block_whole text bytes rest b l other c = omega (arith, l, ap (λ (x : List ℕ). length x) (one_block text bytes other rest [] b c).1)
