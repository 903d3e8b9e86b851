-- One more answer on the line.
use Rattle.std.proofs.Common.{◌≡◌, ℕ, suc, ◌-◌, ◌<◌, ◌≤◌, subst, List, [], ◌∷◌, ◌++◌, length, take, refl, ap, sym, ◌∙◌, append_assoc, arith}
use Rattle.std.proofs.lemmas.Grind.{common_steps}
use Rattle.sw_base.specs.Limits.{most_answer_bytes}
use Rattle.sw_talk.specs.Talk.{answer_line, opened, HasRoom}

-- a line of answers ends with its line feed, and one more answer goes before it
line-front : (a : List ℕ) (answers : List (List ℕ)) → (front : List ℕ) × (answer_line (a ∷ answers) ≡ front ++ 10 ∷ [])
    × ((t : List ℕ) → answer_line ((a ∷ answers) ++ t ∷ []) ≡ front ++ 59 ∷ (t ++ 10 ∷ []))
line-front a [] = (a, refl, λ t. refl)
line-front a (b ∷ answers) =
    let r = line-front b answers in (
      a ++ 59 ∷ r.0,
      ap (λ l. a ++ 59 ∷ l) (line-front b answers).1 ∙ sym (append_assoc a (59 ∷ r.0) (10 ∷ [])),
      λ t. ap (λ l. a ++ 59 ∷ l) ((line-front b answers).2 t) ∙ sym (append_assoc a (59 ∷ r.0) (59 ∷ (t ++ 10 ∷ []))),
    )

-- a line is the one of one more answer
abbrev Joins : List ℕ → List ℕ → List ℕ → Type 0
Joins out text out' = (answers : List (List ℕ)) → out ≡ answer_line answers → out' ≡ answer_line (answers ++ text ∷ [])

pub joins-first : (out text : List ℕ) → length out ≡ 0 → Joins out text (text ++ 10 ∷ [])
joins-first out text none [] written = refl
joins-first out text none (a ∷ answers) written =
    let f = line-front a answers in
    let e : out ≡ f.0 ++ 10 ∷ [] = written ∙ (line-front a answers).1 in
    absurd (grind (arith, common_steps))

joins-more : (out text : List ℕ) → 0 < length out → Joins out text (((take (length out - 1) out ++ 59 ∷ []) ++ text) ++ 10 ∷ [])
joins-more out text some [] written = absurd (grind (arith, common_steps))
joins-more out text some (a ∷ answers) written =
    let f = line-front a answers in
    let e : out ≡ f.0 ++ 10 ∷ [] = written ∙ (line-front a answers).1 in
    let front : take (length out - 1) out ≡ f.0 = grind (arith, common_steps) in
    let more : answer_line ((a ∷ answers) ++ text ∷ []) ≡ f.0 ++ 59 ∷ (text ++ 10 ∷ []) = (line-front a answers).2 text in
    rw (front, more) (grind (arith, common_steps))

one-less : (n : ℕ) → suc n - 1 ≡ n
one-less n = omega arith

-- a text joins the line that was opened for it
pub joins-opened : (out text : List ℕ) → Joins out text ((opened out ++ text) ++ 10 ∷ [])
joins-opened [] text = joins-first [] text refl
joins-opened (b ∷ line) text =
    subst (λ (n : ℕ). Joins (b ∷ line) text (((take n (b ∷ line) ++ 59 ∷ []) ++ text) ++ 10 ∷ [])) (one-less (length line))
    (joins-more (b ∷ line) text (omega arith))

-- there is room for the answers of a line that is no longer than that
pub has-room : (out : List ℕ) (answers : List (List ℕ)) → out ≡ answer_line answers → length out ≤ most_answer_bytes → HasRoom answers
has-room out answers e fits = subst (λ (l : List ℕ). length l ≤ most_answer_bytes) e fits
