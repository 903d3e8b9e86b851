-- Numbers, and the marks between them: one set of lemmas for each mark.
use Rattle.std.proofs.Common.{◌≡◌, ℕ, ◌<◌, Bool, true, false, not, List, [], ◌∷◌, ◌++◌, length, refl, sym, subst, ◌∙◌, arith}
use Rattle.std.specs.Prelude.{◌==◌}
use Rattle.std.proofs.lemmas.List.{append-nil}
use Rattle.sw_base.specs.Text.{is_blank, is_digit, AllPass, Lacks, StartsOff, Spans}
use Rattle.sw_base.proofs.Runs.{AllPass-append, AllPass-right, AllPass-weaker, one_span, digit-blank, blank-digit, lacks, Lacks-none, one_cut}
use Rattle.sw_channel.specs.Grammar.{IsPadded, IsMarkedPair}

-- ---- numbers

digits-off : (d after : List ℕ) → AllPass is_digit d → 0 < length d → StartsOff is_blank (d ++ after)
digits-off [] after a h = absurd (omega arith)
digits-off (x ∷ d) after a h = digit-blank x a.0

blanks-off : (after : List ℕ) → AllPass is_blank after → StartsOff is_digit after
blanks-off [] a = tt
blanks-off (x ∷ after) a = blank-digit x a.0

blanks-end : (after a b : List ℕ) → AllPass is_blank after → Spans is_blank after a b → b ≡ []
blanks-end after a [] h s = refl
blanks-end after a (x ∷ b) h s =
    let on : AllPass is_blank (a ++ x ∷ b) = subst (AllPass is_blank) s.whole h in
    let k : is_blank x ≡ true = (AllPass-right is_blank a (x ∷ b) on).0 in
    absurd (let z : true ≡ false = sym k ∙ s.off in cc)

-- a number that stands in a text is the one that is found, and nothing follows it
pub number_found : (text a r found more b rest digits : List ℕ) → Spans is_blank text a r → Spans is_digit r found more → Spans is_blank more b rest
    → IsPadded text digits → (digits ≡ found) × (rest ≡ [])
number_found text a r found more b rest digits s t u n =
    let first : Spans is_blank text n.before (digits ++ n.after) =
    record { whole = n.whole; pass = n.before_blank; off = digits-off digits n.after n.digits_only n.some } in
    let x = one_span is_blank text n.before (digits ++ n.after) a r first s in
    let second : Spans is_digit r digits n.after = record { whole = sym x.1; pass = n.digits_only; off = blanks-off n.after n.after_blank } in
    let y = one_span is_digit r digits n.after found more second t in
    let third : AllPass is_blank more = subst (AllPass is_blank) y.1 n.after_blank in
    (y.0, blanks-end more b rest third u)

pub one_number : (text d e : List ℕ) → IsPadded text d → IsPadded text e → d ≡ e
one_number text d e n m =
    let first : Spans is_blank text m.before (e ++ m.after) =
    record { whole = m.whole; pass = m.before_blank; off = digits-off e m.after m.digits_only m.some } in
    let second : Spans is_digit (e ++ m.after) e m.after = record { whole = refl; pass = m.digits_only; off = blanks-off m.after m.after_blank } in
    let third : Spans is_blank m.after m.after [] = record { whole = sym (append-nil m.after); pass = m.after_blank; off = tt } in
    (number_found text m.before (e ++ m.after) e m.after m.after [] d first second third n).0

-- a mark that may stand between numbers
pub record IsMark (mark : ℕ) : Type 0 where
  pub blank : is_blank mark ≡ false
  pub digit : is_digit mark ≡ false

pub number_lacks : (mark : ℕ) → IsMark mark → (text digits : List ℕ) → IsPadded text digits → Lacks mark text
number_lacks mark m text digits n =
    let q : ℕ → Bool = λ b. not (b == mark) in
    let x : AllPass q n.before = AllPass-weaker is_blank q (lacks is_blank mark m.blank) n.before n.before_blank in
    let y : AllPass q digits = AllPass-weaker is_digit q (lacks is_digit mark m.digit) digits n.digits_only in
    let z : AllPass q n.after = AllPass-weaker is_blank q (lacks is_blank mark m.blank) n.after n.after_blank in
    subst (AllPass q) (sym n.whole) (AllPass-append q n.before (digits ++ n.after) x (AllPass-append q digits n.after y z))

-- ---- two parts with a mark between them

-- where the mark is missing
pub joined_none : {mark : ℕ} {P Q : List ℕ → Type 0} {text : List ℕ} → Lacks mark text → IsMarkedPair mark P Q text → ⊥
joined_none {mark} {P} {Q} {text} h j = Lacks-none mark j.left j.right (subst (Lacks mark) j.whole h)

-- where the first part has no such mark, the first mark is the one between them
pub joined_cut : {mark : ℕ} {P Q : List ℕ → Type 0} {text left right : List ℕ} → ((t : List ℕ) → P t → Lacks mark t) → Lacks mark left
    → text ≡ left ++ mark ∷ right → IsMarkedPair mark P Q text → P left × Q right
joined_cut {mark} {P} {Q} {text} {left} {right} f h e j =
    let r = one_cut mark j.left j.right left right (f j.left j.first) h (sym j.whole ∙ e) in
    (subst P r.0 j.first, subst Q r.1 j.second)

-- another mark that is missing in both parts
pub joined_lacks : {mark : ℕ} {P Q : List ℕ → Type 0} {text : List ℕ} → (other : ℕ) → not (mark == other) ≡ true → ((t : List ℕ) → P t → Lacks other t)
    → ((t : List ℕ) → Q t → Lacks other t) → IsMarkedPair mark P Q text → Lacks other text
joined_lacks {mark} {P} {Q} {text} other n f g j =
    let q : ℕ → Bool = λ b. not (b == other) in
    subst (AllPass q) (sym j.whole) (AllPass-append q j.left (mark ∷ j.right) (f j.left j.first) (n, g j.right j.second))
