-- Strings: marks that are doubled, and the one that isn't.
use Rattle.std.proofs.Common.{◌≡◌, ℕ, ◌<◌, arith, length, Bool, true, false, not, List, [], ◌∷◌, ◌++◌, refl, sym, ap, subst, ◌∙◌, append_assoc, inl, inr}
use Rattle.std.specs.Prelude.{◌==◌}
use Rattle.std.proofs.lemmas.Bool.{cases_Bool, eqb-true}
use Rattle.std.proofs.lemmas.List.{append-nil}
use Rattle.sw_base.specs.Text.{Lacks, StartsOff}
use Rattle.sw_lex.specs.Elements.{is_quote, doubled, IsString}
use Rattle.sw_lex.proofs.HeadingsLemmas.{equal_not}

not-true : (b : Bool) → not b ≡ true → b ≡ false
not-true true h = absurd (let z : false ≡ true = h in cc)
not-true false h = refl

-- nothing, or a mark and no second one
abbrev pub Stops : ℕ → List ℕ → Type 0
Stops m [] = Unit {0}
Stops m (b ∷ bytes) = (b ≡ m) × StartsOff (λ c. c == m) bytes

doubled-append : (m : ℕ) (a b : List ℕ) → doubled m (a ++ b) ≡ doubled m a ++ doubled m b
doubled-append m [] b = refl
doubled-append m (x ∷ a) b = elim (cases_Bool (x == m)) [ inl e ↦ rw (e, doubled-append m a b) refl | inr e ↦ rw (e, doubled-append m a b) refl ]

doubled-none : (m : ℕ) (a : List ℕ) → Lacks m a → doubled m a ≡ a
doubled-none m [] h = refl
doubled-none m (x ∷ a) h = rw (not-true (x == m) h.0, doubled-none m a h.1) refl

no_stop : (m d : ℕ) (ds y : List ℕ) → Stops m (doubled m (d ∷ ds) ++ y) → ⊥
no_stop m d ds y s =
    elim (cases_Bool (d == m)) [
      | inl e ↦ (let t : Stops m (m ∷ m ∷ (doubled m ds ++ y)) = rw e at s in equal_not m m refl t.1)
      | inr e ↦ (let t : Stops m (d ∷ (doubled m ds ++ y)) = rw e at s in equal_not d m t.0 e)
    ]

one_doubled : (m : ℕ) (c d x y : List ℕ) → Stops m x → Stops m y → doubled m c ++ x ≡ doubled m d ++ y → (c ≡ d) × (x ≡ y)
one_doubled m [] [] x y s t e = (refl, e)
one_doubled m [] (b ∷ d) x y s t e = absurd (no_stop m b d y (subst (λ (z : List ℕ). Stops m z) e s))
one_doubled m (a ∷ c) [] x y s t e = absurd (no_stop m a c x (subst (λ (z : List ℕ). Stops m z) (sym e) t))
one_doubled m (a ∷ c) (b ∷ d) x y s t e =
    elim (cases_Bool (a == m)) [
      | inl p ↦ elim (cases_Bool (b == m)) [
        | inl q ↦
            let f : m ∷ m ∷ (doubled m c ++ x) ≡ m ∷ m ∷ (doubled m d ++ y) = rw (p, q) at e in
            let g : doubled m c ++ x ≡ doubled m d ++ y = cc in
            let r = one_doubled m c d x y s t g in
            let h : a ≡ b = eqb-true a m p ∙ sym (eqb-true b m q) in
            let k : c ≡ d = r.0 in
            (cc, r.1)
        | inr q ↦ (let f : m ∷ (m ∷ (doubled m c ++ x)) ≡ b ∷ (doubled m d ++ y) = rw (p, q) at e in let k : b ≡ m = cc in absurd (equal_not b m k q))
      ]
      | inr p ↦ elim (cases_Bool (b == m)) [
        | inl q ↦ (let f : a ∷ (doubled m c ++ x) ≡ m ∷ (m ∷ (doubled m d ++ y)) = rw (p, q) at e in let k : a ≡ m = cc in absurd (equal_not a m k p))
        | inr q ↦
            let f : a ∷ (doubled m c ++ x) ≡ b ∷ (doubled m d ++ y) = rw (p, q) at e in
            let g : doubled m c ++ x ≡ doubled m d ++ y = cc in
            let r = one_doubled m c d x y s t g in
            let h : a ≡ b = cc in
            let k : c ≡ d = r.0 in
            (cc, r.1)
      ]
    ]

-- ---- the closing mark

pub never_closed : (m : ℕ) (text front rest : List ℕ) → text ≡ doubled m front ++ rest → Lacks m rest → (content after : List ℕ)
    → text ≡ doubled m content ++ m ∷ after → StartsOff (λ b. b == m) after → ⊥
never_closed m text front rest e l content after f o =
    let g : text ≡ doubled m (front ++ rest) ++ [] = e ∙ ap (λ (t : List ℕ). doubled m front ++ t) (sym (doubled-none m rest l))
    ∙ sym (doubled-append m front rest) ∙ sym (append-nil (doubled m (front ++ rest))) in
    let r = one_doubled m (front ++ rest) content [] (m ∷ after) tt (refl, o) (sym g ∙ f) in
    let z : [] ≡ m ∷ after = r.1 in
    cc

pub closed_at : (m : ℕ) (text front rest left more : List ℕ) → text ≡ doubled m front ++ rest → Lacks m left → rest ≡ left ++ m ∷ more
    → text ≡ doubled m (front ++ left) ++ m ∷ more
closed_at m text front rest left more e l f =
    let g : doubled m (front ++ left) ≡ doubled m front ++ left = doubled-append m front left
    ∙ ap (λ (t : List ℕ). doubled m front ++ t) (doubled-none m left l) in
    e ∙ ap (λ (t : List ℕ). doubled m front ++ t) f ∙ sym (append_assoc (doubled m front) left (m ∷ more)) ∙ ap (λ (t : List ℕ). t ++ m ∷ more) (sym g)

doubled-mark : (m : ℕ) → doubled m (m ∷ []) ≡ m ∷ m ∷ []
doubled-mark m = elim (cases_Bool (m == m)) [ inl e ↦ rw e refl | inr e ↦ absurd (equal_not m m refl e) ]

pub doubled_on : (m : ℕ) (text front rest left more others : List ℕ) → text ≡ doubled m front ++ rest → Lacks m left → rest ≡ left ++ m ∷ more
    → more ≡ m ∷ others → text ≡ doubled m ((front ++ left) ++ m ∷ []) ++ others
doubled_on m text front rest left more others e l f g =
    closed_at m text front rest left more e l f ∙ ap (λ (t : List ℕ). doubled m (front ++ left) ++ m ∷ t) g
    ∙ sym (append_assoc (doubled m (front ++ left)) (m ∷ m ∷ []) others)
    ∙ ap (λ (t : List ℕ). t ++ others) (sym (doubled-append m (front ++ left) (m ∷ [])
    ∙ ap (λ (t : List ℕ). doubled m (front ++ left) ++ t) (doubled-mark m)))

-- ---- one string

at_mark : (m b : ℕ) (more content rest : List ℕ) → m ≡ b → is_quote m ≡ true → more ≡ doubled m content ++ m ∷ rest → StartsOff (λ c. c == m) rest
    → (is_quote b ≡ true) × (more ≡ doubled b content ++ b ∷ rest) × StartsOff (λ c. c == b) rest
at_mark m b more content rest e q w o =
    subst (λ (x : ℕ). (is_quote x ≡ true) × (more ≡ doubled x content ++ x ∷ rest) × StartsOff (λ c. c == x) rest) e (q, w, o)

pub string_at : (b : ℕ) (more content rest : List ℕ) → IsString (b ∷ more) content rest → (is_quote b ≡ true) × (more ≡ doubled b content ++ b ∷ rest)
    × StartsOff (λ c. c == b) rest
string_at b more content rest s =
    let e : b ∷ more ≡ s.mark ∷ (doubled s.mark content ++ s.mark ∷ rest) = s.whole in
    let k : s.mark ≡ b = cc in
    let w : more ≡ doubled s.mark content ++ s.mark ∷ rest = cc in
    at_mark s.mark b more content rest k s.quote w s.closed

pub one_string : (text c d a b : List ℕ) → IsString text c a → IsString text d b → (c ≡ d) × (a ≡ b)
one_string [] c d a b s t = absurd (let z : [] ≡ s.mark ∷ (doubled s.mark c ++ s.mark ∷ a) = s.whole in cc)
one_string (x ∷ more) c d a b s t =
    let p = string_at x more c a s in
    let q = string_at x more d b t in
    let r = one_doubled x c d (x ∷ a) (x ∷ b) (refl, p.2) (refl, q.2) (sym p.1 ∙ q.1) in
    let e : x ∷ a ≡ x ∷ b = r.1 in
    (r.0, cc)

pub string_tail : (text content rest : List ℕ) → IsString text content rest → (front : List ℕ) × (text ≡ front ++ rest)
string_tail text content rest s = (
  (s.mark ∷ (doubled s.mark content ++ s.mark ∷ [])),
  s.whole
      ∙ ap (λ (t : List ℕ). s.mark ∷ t) (sym (append_assoc (doubled s.mark content) (s.mark ∷ []) rest)),
)

-- the content up to the last mark
pub closed_content : (m : ℕ) (text front rest left more content : List ℕ) → text ≡ doubled m front ++ rest → Lacks m left → rest ≡ left ++ m ∷ more
    → StartsOff (λ b. b == m) more → text ≡ doubled m content ++ m ∷ [] → front ++ left ≡ content
closed_content m text front rest left more content e l f o h =
    (one_doubled m (front ++ left) content (m ∷ more) (m ∷ []) (refl, o) (refl, tt) (sym (closed_at m text front rest left more e l f) ∙ h)).0

-- a string that goes on isn't the whole text
goes_on : (m b : ℕ) (text content rest : List ℕ) → text ≡ doubled m content ++ m ∷ (b ∷ rest) → StartsOff (λ c. c == m) (b ∷ rest) → (other : List ℕ)
    → IsString (m ∷ text) other [] → ⊥
goes_on m b text content rest e o other s =
    let p = string_at m text other [] s in
    let r = one_doubled m content other (m ∷ b ∷ rest) (m ∷ []) (refl, o) (refl, tt) (sym e ∙ p.1) in
    let z : m ∷ b ∷ rest ≡ m ∷ [] = r.1 in
    cc

pub not_whole : (m : ℕ) (text content rest : List ℕ) → text ≡ doubled m content ++ m ∷ rest → StartsOff (λ c. c == m) rest → 0 < length rest → (other : List ℕ)
    → IsString (m ∷ text) other [] → ⊥
not_whole m text content [] e o l other s = omega (arith, l)
not_whole m text content (b ∷ rest) e o l other s = goes_on m b text content rest e o other s
