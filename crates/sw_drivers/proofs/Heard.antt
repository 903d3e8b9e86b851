-- Bytes that come one part behind another, and what stands in them.
use Rattle.std.proofs.Common.{◌≡◌, ◌<◌, ◌≤◌, ◌+◌, ℕ, List, [], ◌++◌, Option, Some, None, length, take, drop, refl, ap, sym, ◌∙◌, subst, arith, inl, inr, nat_lt}
use Rattle.std.proofs.Common.{append_assoc, length-append}
use Rattle.std.proofs.lemmas.Bool.{cases_Bool}
use Rattle.std.proofs.lemmas.Grind.{common_steps}
use Rattle.std.proofs.lemmas.List.{append-nil, take-append-drop, take-take, take_at, drop-take, drop_at, take-append-le, length-take-le, nil_from_length}
use Rattle.sw_drivers.specs.Lines.{EndsBy, Holds, IsHeard}
use Rattle.sw_drivers.specs.Wires.{IsAll, grown}

pub grown_twice : (all : Option (List ℕ)) (first second : List ℕ) → grown (grown all first) second ≡ grown all (first ++ second)
grown_twice None first second = refl
grown_twice (Some bytes) first second = ap Some (append_assoc bytes first second)

pub grown_none : (all : Option (List ℕ)) → grown all [] ≡ all
grown_none None = refl
grown_none (Some bytes) = ap Some (append-nil bytes)

-- a front that reaches into the second part
pub take_both : (a n : ℕ) (xs ys zs : List ℕ) → length xs ≡ a → n ≤ length ys → take (a + n) (xs ++ (ys ++ zs)) ≡ xs ++ take n ys
take_both a n xs ys zs e few =
    let all = xs ++ (ys ++ zs) in
    sym (take-append-drop a (take (a + n) all))
    ∙ ap (λ l. l ++ drop a (take (a + n) all)) (take-take a (a + n) all (omega arith) ∙ take_at xs (ys ++ zs) a e)
    ∙ ap (λ l. xs ++ l) (drop-take a n all ∙ ap (take n) (drop_at xs (ys ++ zs) a e) ∙ take-append-le n ys zs few)

-- what was heard, once more has come behind what stood in a buffer
pub heard_more : (before old new : Option (List ℕ)) (a n : ℕ) (xs ys zs : List ℕ) → old ≡ grown before (take a xs) → new ≡ grown old (take n ys)
    → a ≤ length xs → n ≤ length ys → new ≡ grown before (take (a + n) (take a xs ++ (ys ++ zs)))
heard_more before old new a n xs ys zs was now long few =
    now ∙ ap (λ o. grown o (take n ys)) was ∙ grown_twice before (take a xs) (take n ys)
    ∙ ap (grown before) (sym (take_both a n (take a xs) ys zs (length-take-le a xs long) few))

-- where nothing but the end of the text is left to look at, only an empty text is found
pub nothing_held : (text wanted : List ℕ) → ((k : ℕ) → k < length text → (behind : List ℕ) → drop k text ≡ wanted ++ behind → ⊥)
    → Holds text wanted → length wanted ≡ 0
nothing_held text wanted none (front, behind, e) = elim (cases_Bool (nat_lt (length front) (length text))) [
  | inl before ↦ absurd (none (length front) (grind (arith, common_steps, before)) behind (ap (drop (length front)) e ∙ drop_at front (wanted ++ behind) (length front) refl))
  | inr past ↦ let size : length text ≡ length front + (length wanted + length behind) = ap length e ∙ length-append front (wanted ++ behind) ∙ ap (λ n. length front + n) (length-append wanted behind) in
      grind (arith, common_steps, past, size)
]

-- bytes that stand at a place stand in the text
pub held_at : (text wanted rest : List ℕ) (from : ℕ) → drop from text ≡ wanted ++ rest → Holds text wanted
held_at text wanted rest from e = (take from text, rest, sym (take-append-drop from text) ∙ ap (λ l. take from text ++ l) e)

-- no bytes stand anywhere
pub nothing_is_held : (text wanted : List ℕ) → length wanted ≡ 0 → Holds text wanted
nothing_is_held text wanted none = (text, [], sym (append-nil text) ∙ ap (λ l. text ++ (l ++ [])) (sym (nil_from_length wanted none)))

-- bytes that stand at no place so far, and not at this one
pub not_at : (text wanted : List ℕ) (from : ℕ) → ((k : ℕ) → k < from → (behind : List ℕ) → drop k text ≡ wanted ++ behind → ⊥)
    → ((behind : List ℕ) → drop from text ≡ wanted ++ behind → ⊥) → (k : ℕ) → k < from + 1 → (behind : List ℕ) → drop k text ≡ wanted ++ behind → ⊥
not_at text wanted from none not_here k few behind e = elim (cases_Bool (nat_lt k from)) [
  | inl before ↦ none k (grind (arith, common_steps, before)) behind e
  | inr past ↦ let here : k ≡ from = grind (arith, common_steps, past, few) in not_here behind (subst (λ j. drop j text ≡ wanted ++ behind) here e)
]

pub heard_of : (answered : Option (List ℕ)) (text end wanted : List ℕ) → IsAll answered text → EndsBy text end → Holds text wanted → IsHeard answered end wanted
heard_of None text end wanted same ends holds = tt
heard_of (Some all) text end wanted same ends holds =
    (subst (λ (a : List ℕ). EndsBy a end) (sym same) ends, subst (λ (a : List ℕ). Holds a wanted) (sym same) holds)
