-- Labels on a line, one more at a time.
use Rattle.std.proofs.Common.{◌≡◌, ℕ, ◌+◌, ◌<◌, List, [], ◌∷◌, ◌++◌, length, take, get_or, Option, Some, None, refl, sym, ap, ◌∙◌, append_assoc, arith}
use Rattle.std.specs.List.{slice_get}
use Rattle.std.specs.Option.{option_map}
use Rattle.std.proofs.lemmas.List.{take_more}
use Rattle.std.proofs.lemmas.Option.{slice_get_within, slice_get-get_or, get_or_from_slice_get}
use Rattle.sw_talk.specs.Macros.{quoted, row_of, labels_text}

row-push : (q : List ℕ) (ls : List (List ℕ)) (l : List ℕ) → row_of ((q ∷ ls) ++ l ∷ []) ≡ row_of (q ∷ ls) ++ 44 ∷ quoted l
row-push q [] l = refl
row-push q (r ∷ ls) l = ap (λ (t : List ℕ). quoted q ++ 44 ∷ t) (row-push r ls l) ∙ sym (append_assoc (quoted q) (44 ∷ row_of (r ∷ ls)) (44 ∷ quoted l))

row-some : (q : List ℕ) (ls : List (List ℕ)) → 0 < length (row_of (q ∷ ls))
row-some q [] = omega arith
row-some q (r ∷ ls) = omega arith

-- a label where none stands yet
pub quoted-first : (text label : List ℕ) (before : List (List ℕ)) → length text ≡ 0 → text ≡ row_of before → ((text ++ 34 ∷ []) ++ label)
    ++ 34 ∷ [] ≡ row_of (before ++ label ∷ [])
quoted-first text label [] none is = ap (λ (t : List ℕ). ((t ++ 34 ∷ []) ++ label) ++ 34 ∷ []) is
quoted-first text label (q ∷ ls) none is = let k : 0 < length (row_of (q ∷ ls)) = row-some q ls in let j : length text ≡ length (row_of (q ∷ ls)) =
    ap (λ (t : List ℕ). length t) is in absurd (omega arith)

-- a label behind a comma
pub quoted-next : (text label : List ℕ) (before : List (List ℕ)) → 0 < length text → text ≡ row_of before → (((text ++ 44 ∷ []) ++ 34 ∷ []) ++ label)
    ++ 34 ∷ [] ≡ row_of (before ++ label ∷ [])
quoted-next text label [] some is = let j : length text ≡ 0 = ap (λ (t : List ℕ). length t) is in absurd (omega arith)
quoted-next text label (q ∷ ls) some is =
    let flat : (((text ++ 44 ∷ []) ++ 34 ∷ []) ++ label) ++ 34 ∷ [] ≡ text ++ 44 ∷ quoted label = simp append_assoc in
    flat ∙ ap (λ (t : List ℕ). t ++ 44 ∷ quoted label) is ∙ sym (row-push q ls label)

-- the labels up to this one
pub labels-more : (ls : List (List ℕ)) (i : ℕ) (label : List ℕ) → slice_get ls i ≡ Some label → take (i + 1) ls ≡ take i ls ++ label ∷ []
labels-more ls i label is = take_more ls i label (slice_get_within ls i label is)
    ∙ ap (λ (l : List ℕ). take i ls ++ l ∷ []) (get_or_from_slice_get ls i label label is)

-- there is a label of each number
pub label-there : {L : Type 0} (seen : L → List ℕ) (o : Option L) (ls : List (List ℕ)) (i : ℕ) → option_map seen o ≡ slice_get ls i → i < length ls
    → ((l : L) → o ≡ Some l → ⊥) → ⊥
label-there seen (Some l) ls i is within none = none l refl
label-there seen None ls i is within none = let both : None ≡ Some (get_or ls i []) = is ∙ slice_get-get_or ls i [] within in absurd (cc (both))

-- all labels
pub labels-none : (text : List ℕ) (ls : List (List ℕ)) → text ≡ row_of ls → length text ≡ 0 → text ++ 34 ∷ 34 ∷ [] ≡ labels_text ls
labels-none text [] is none = ap (λ (t : List ℕ). t ++ 34 ∷ 34 ∷ []) is
labels-none text (q ∷ ls) is none = let k : 0 < length (row_of (q ∷ ls)) = row-some q ls in let j : length text ≡ length (row_of (q ∷ ls)) =
    ap (λ (t : List ℕ). length t) is in absurd (omega arith)

pub labels-some : (text : List ℕ) (ls : List (List ℕ)) → text ≡ row_of ls → 0 < length text → text ≡ labels_text ls
labels-some text [] is some = let j : length text ≡ 0 = ap (λ (t : List ℕ). length t) is in absurd (omega arith)
labels-some text (q ∷ ls) is some = is
