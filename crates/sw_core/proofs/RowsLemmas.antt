-- Rows of pieces, one more at a time.
use Rattle.std.proofs.Common.{◌≡◌, ℕ, ◌<◌, List, [], ◌∷◌, ◌++◌, length, Bool, true, false, refl, sym, ap, pos, negsuc, suc, ◌/◌, ◌^◌, decimal, ◌∙◌, arith}
use Rattle.std.proofs.Common.{append_assoc, map, take, ◌-◌, ◌+◌, if◌then◌else◌, subst, nat_lt}
use Rattle.std.specs.Prelude.{slice_index_or}
use Rattle.std.proofs.Math.Seq.{take-suc}
use Rattle.std.proofs.lemmas.Bool.Decides.{nat_tests}
use Rattle.std.proofs.lemmas.Fmt.{decimal_nonempty}
use Rattle.std.specs.List.{join_with_byte, AllByRecursion}
use Rattle.std.proofs.lemmas.List.{length-append, map-append}
use Rattle.std.specs.Fmt.{signed_decimal}
use Rattle.sw_base.specs.Errors.{text_of, code_of}
use Rattle.sw_base.specs.Layout.{group_at}
use Rattle.sw_base.specs.declared.error.ScpiError.{ScpiError}
use Rattle.sw_base.specs.declared.reading.Reading.{Reading}
use Rattle.sw_base.specs.declared.reading.Reading.TheVariants.{Volts, Overload}
use Rattle.sw_base.specs.Reading.{fixed, last_digits, reading_text}
use Rattle.sw_core.specs.Answers.{yes_or_no, error_entry, IsRow, IsOpenEnded}

some-push : (ps : List (List ℕ)) (p : List ℕ) → AllByRecursion (λ (q : List ℕ). 0 < length q) ps → 0 < length p
    → AllByRecursion (λ (q : List ℕ). 0 < length q) (ps ++ p ∷ [])
some-push [] p a h = (h, tt)
some-push (q ∷ ps) p a h = (a.0, some-push ps p a.1 h)

join-push : (q : List ℕ) (ps : List (List ℕ)) (p : List ℕ) → join_with_byte 44 ((q ∷ ps) ++ p ∷ []) ≡ join_with_byte 44 (q ∷ ps) ++ 44 ∷ p
join-push q [] p = refl
join-push q (r ∷ ps) p = ap (λ (t : List ℕ). q ++ 44 ∷ t) (join-push r ps p) ∙ sym (append_assoc q (44 ∷ join_with_byte 44 (r ∷ ps)) (44 ∷ p))

join-some : (q : List ℕ) (ps : List (List ℕ)) → 0 < length q → 0 < length (join_with_byte 44 (q ∷ ps))
join-some q [] h = h
join-some q (r ∷ ps) h = omega (arith, length-append q (44 ∷ join_with_byte 44 (r ∷ ps)))

-- nothing stands there yet
pub open-first : (text : List ℕ) (ps : List (List ℕ)) → length text ≡ 0 → IsRow text ps → IsOpenEnded text ps
open-first [] [] e r p h = record { joined = refl; some = (h, tt) }
open-first [] (q ∷ ps) e r p h =
    absurd (let k : 0 < length (join_with_byte 44 (q ∷ ps)) = join-some q ps r.some.0 in
    let j : 0 ≡ length (join_with_byte 44 (q ∷ ps)) = ap (λ (t : List ℕ). length t) r.joined in omega arith)
open-first (x ∷ text) ps e r p h = absurd (omega arith)

-- a comma was put behind what stands there
pub open-next : (text : List ℕ) (ps : List (List ℕ)) → 0 < length text → IsRow text ps → IsOpenEnded (text ++ 44 ∷ []) ps
open-next text [] e r p h = absurd (let j : length text ≡ 0 = ap (λ (t : List ℕ). length t) r.joined in omega arith)
open-next text (q ∷ ps) e r p h =
    record { joined = append_assoc text (44 ∷ []) p ∙ ap (λ (t : List ℕ). t ++ 44 ∷ p) r.joined ∙ sym (join-push q ps p); some = some-push (q ∷ ps) p r.some h }

pub entry-some : (e : ScpiError) → 0 < length (error_entry e)
entry-some e = omega (arith, length-append (signed_decimal (code_of e)) (44 ∷ 34 ∷ (text_of e ++ 34 ∷ [])))

pub flag-some : (b : Bool) → 0 < length (yes_or_no b)
flag-some true = omega arith
flag-some false = omega arith

fixed_some : (n : ℕ) → 0 < length (fixed 9 n)
fixed_some n = omega (arith, length-append (decimal (n / 10 ^ 9)) (46 ∷ last_digits 9 n))

pub reading_some : (r : Reading) → 0 < length (reading_text r)
reading_some (Volts (pos n)) = fixed_some n
reading_some (Volts (negsuc n)) = omega (arith, fixed_some (suc n))
reading_some Overload = omega arith

-- ---- the groups of a card

counted : (groups : List ℕ) (i : ℕ) → group_at groups (i + 1) ≡ slice_index_or groups i 0
counted groups i = by_less (nat_lt 0 (i + 1)) (grind (arith, nat_tests))
  where
    by_less : (b : Bool) → b ≡ true → (if b then slice_index_or groups (i + 1 - 1) 0 else 0) ≡ slice_index_or groups i 0
    by_less true e = ap (λ (k : ℕ). slice_index_or groups k 0) (omega arith)
    by_less false e = absurd (cc (e))

one_taken : (groups : List ℕ) (i : ℕ) → i < length groups → take (i + 1) groups ≡ take i groups ++ (slice_index_or groups i 0 ∷ [])
one_taken groups i inside = ap (λ (k : ℕ). take k groups) next ∙ take-suc groups i 0 inside
  where
    next : i + 1 ≡ suc i
    next = omega arith

-- the group of the next channel, put behind those of the channels before it
pub group_more : (text new groups : List ℕ) (i n : ℕ) → i < length groups → n < 2 ^ 64 → n ≡ group_at groups (i + 1)
    → IsOpenEnded text (map decimal (take i groups)) → new ≡ text ++ decimal n → IsRow new (map decimal (take (i + 1) groups))
group_more text new groups i n inside small is waits e =
    subst (λ (t : List ℕ). IsRow t (map decimal (take (i + 1) groups))) (sym e)
    (subst (λ (ps : List (List ℕ)). IsRow (text ++ decimal n) ps) (sym pieces) (waits (decimal n) (decimal_nonempty n small)))
  where
    pieces : map decimal (take (i + 1) groups) ≡ map decimal (take i groups) ++ (decimal n ∷ [])
    pieces =
        ap (λ (gs : List ℕ). map decimal gs) (one_taken groups i inside)
        ∙ map-append decimal (take i groups) (slice_index_or groups i 0 ∷ [])
        ∙ ap (λ (g : ℕ). map decimal (take i groups) ++ (decimal g ∷ [])) (sym (is ∙ counted groups i))
