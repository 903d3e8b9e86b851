-- Longest runs and first marks are unique: what a reader's cut is the grammar's cut by.
use Rattle.std.proofs.Common.{◌≡◌, ℕ, Bool, true, false, not, List, [], ◌∷◌, ◌++◌, refl, sym, subst, ◌∙◌, arith, inl, inr}
use Rattle.std.specs.Prelude.{◌==◌}
use Rattle.std.proofs.lemmas.Grind.{common_steps}
use Rattle.std.proofs.lemmas.Bool.{eqb-true, eq-eqb, cases_Bool}
use Rattle.sw_base.specs.Text.{is_blank, is_digit, AllPass, Lacks, StartsOff, Spans}

pub AllPass-append : (p : ℕ → Bool) (xs ys : List ℕ) → AllPass p xs → AllPass p ys → AllPass p (xs ++ ys)
AllPass-append p [] ys a b = b
AllPass-append p (x ∷ xs) ys a b = (a.0, AllPass-append p xs ys a.1 b)

pub AllPass-left : (p : ℕ → Bool) (xs ys : List ℕ) → AllPass p (xs ++ ys) → AllPass p xs
AllPass-left p [] ys a = tt
AllPass-left p (x ∷ xs) ys a = (a.0, AllPass-left p xs ys a.1)

pub AllPass-right : (p : ℕ → Bool) (xs ys : List ℕ) → AllPass p (xs ++ ys) → AllPass p ys
AllPass-right p [] ys a = a
AllPass-right p (x ∷ xs) ys a = AllPass-right p xs ys a.1

pub AllPass-weaker : (p q : ℕ → Bool) → ((b : ℕ) → p b ≡ true → q b ≡ true) → (xs : List ℕ) → AllPass p xs → AllPass q xs
AllPass-weaker p q f [] a = tt
AllPass-weaker p q f (x ∷ xs) a = (f x a.0, AllPass-weaker p q f xs a.1)

-- two longest fronts of one text are one
pub same_span : (p : ℕ → Bool) (a b c d : List ℕ) → AllPass p a → StartsOff p b → AllPass p c → StartsOff p d → a ++ b ≡ c ++ d → (a ≡ c) × (b ≡ d)
same_span p [] b [] d pa ob pc od e = (refl, e)
same_span p [] b (y ∷ c) d pa ob pc od e = let o : p y ≡ false = subst (StartsOff p) e ob in absurd (let k : true ≡ false = sym pc.0 ∙ o in cc)
same_span p (x ∷ a) b [] d pa ob pc od e = let o : p x ≡ false = subst (StartsOff p) (sym e) od in absurd (let k : true ≡ false = sym pa.0 ∙ o in cc)
same_span p (x ∷ a) b (y ∷ c) d pa ob pc od e =
    let t : a ++ b ≡ c ++ d = cc in
    let h : x ≡ y = cc in
    let r = same_span p a b c d pa.1 ob pc.1 od t in
    (let f : a ≡ c = r.0 in cc, r.1)

pub one_span : (p : ℕ → Bool) (text a b c d : List ℕ) → Spans p text a b → Spans p text c d → (a ≡ c) × (b ≡ d)
one_span p text a b c d s t = same_span p a b c d s.pass s.off t.pass t.off (sym s.whole ∙ t.whole)

pub digit-blank : (b : ℕ) → is_digit b ≡ true → is_blank b ≡ false
digit-blank b h = grind (arith, common_steps)

pub blank-digit : (b : ℕ) → is_blank b ≡ true → is_digit b ≡ false
blank-digit b h = grind (arith, common_steps)

-- a byte that passes a test that the mark fails isn't the mark
pub lacks : (p : ℕ → Bool) (mark : ℕ) → p mark ≡ false → (b : ℕ) → p b ≡ true → not (b == mark) ≡ true
lacks p mark h b k =
    elim (cases_Bool (b == mark)) [
      | inl e ↦ let on : p mark ≡ true = subst (λ (x : ℕ). p x ≡ true) (eqb-true b mark e) k in absurd (let z : true ≡ false = sym on ∙ h in cc)
      | inr e ↦ rw e refl
    ]

pub Lacks-none : (mark : ℕ) (left right : List ℕ) → Lacks mark (left ++ mark ∷ right) → ⊥
Lacks-none mark left right h =
    let k : not (mark == mark) ≡ true = (AllPass-right (λ b. not (b == mark)) left (mark ∷ right) h).0 in
    let e : (mark == mark) ≡ true = eq-eqb mark mark refl in
    let z : not true ≡ true = rw e at k in cc

-- a text has one place where its first mark stands
pub one_cut : (mark : ℕ) (a b c d : List ℕ) → Lacks mark a → Lacks mark c → a ++ mark ∷ b ≡ c ++ mark ∷ d → (a ≡ c) × (b ≡ d)
one_cut mark a b c d pa pc e =
    let off : not (mark == mark) ≡ false = rw (eq-eqb mark mark refl) refl in
    let r = same_span (λ b. not (b == mark)) a (mark ∷ b) c (mark ∷ d) pa off pc off e in
    (r.0, let t : mark ∷ b ≡ mark ∷ d = r.1 in cc)
