-- Whether a code is paced, step by step.
use Rattle.std.proofs.Common.{◌≡◌, ℕ, zero, suc, ◌+◌, ◌<◌, true, List, [], ◌∷◌, length, Option, Some, None, refl, sym, ap, ◌∙◌, subst, arith, ⊎_elim}
use Rattle.std.specs.Prelude.{slice_index_or}
use Rattle.std.proofs.lemmas.Bool.{cases_eq}
use Rattle.std.proofs.lemmas.Option.{slice_get-get_or}
use Rattle.std.specs.List.{slice_get}
use Rattle.sw_code.specs.declared.code.Step.{Step}
use Rattle.sw_code.specs.declared.code.Step.TheVariants as step
use Rattle.sw_code.specs.Pace.{IsNear, IsNearAfter}
use Rattle.sw_verify.specs.Paced.{does_more}

-- after a step that does an item few steps only count, and after any other nothing is asked
pub near_after : (code : List Step) (n pc : ℕ) (i : Step) → (does_more i ≡ true → IsNear code n (pc + 1)) → IsNearAfter code n pc i
near_after code n pc (step.Set k v) h = tt
near_after code n pc (step.Wait name) h = h refl
near_after code n pc (step.Timer name micros) h = h refl
near_after code n pc (step.Pause micros) h = h refl
near_after code n pc (step.Close p) h = h refl
near_after code n pc step.Read h = h refl
near_after code n pc (step.Open p) h = h refl
near_after code n pc (step.Loop k to) h = tt
near_after code n pc step.Halt h = tt

pub after_near : (code : List Step) (n pc : ℕ) (i : Step) → does_more i ≡ true → IsNearAfter code n pc i → IsNear code n (pc + 1)
after_near code n pc (step.Set k v) e h = absurd (cc e)
after_near code n pc (step.Wait name) e h = h
after_near code n pc (step.Timer name micros) e h = h
after_near code n pc (step.Pause micros) e h = h
after_near code n pc (step.Close p) e h = h
after_near code n pc step.Read e h = h
after_near code n pc (step.Open p) e h = h
after_near code n pc (step.Loop k to) e h = absurd (cc e)
after_near code n pc step.Halt e h = absurd (cc e)

-- a step that is there has its place
pub within : (code : List Step) (i : ℕ) (s : Step) → slice_get code i ≡ Some s → i < length code
within [] i s e = absurd (cc e)
within (o ∷ code) zero s e = omega arith
within (o ∷ code) (suc i) s e = let h = within code i s e in omega (arith, h)

abbrev step_or : Option Step → Step → Step
step_or None s = s
step_or (Some t) s = t

some_same : (s t : Step) → Some s ≡ Some t → s ≡ t
some_same s t e = ap (λ (o : Option Step). step_or o s) e

-- few steps only count after each of the first steps that does an item
abbrev pub NearBelow : List Step → ℕ → ℕ → Type 0
NearBelow code n i = (j : ℕ) (s : Step) → j < i → slice_get code j ≡ Some s → IsNearAfter code n j s

pub near_more : (code : List Step) (n i : ℕ) (s : Step) → slice_get code i ≡ Some s → (does_more s ≡ true → IsNear code n (i + 1)) → NearBelow code n i
    → NearBelow code n (i + 1)
near_more code n i s is h below j t l e =
    ⊎_elim
    (λ (same : j ≡ i). subst (λ (k : ℕ). IsNearAfter code n k t) (sym same)
    (subst (λ (o : Step). IsNearAfter code n i o) (some_same s t (sym is ∙ ap (slice_get code) (sym same) ∙ e)) (near_after code n i s h)))
    (λ (other : j ≡ i → ⊥). below j t (grind arith) e) (cases_eq j i)

pub step_there : (code : List Step) (i : ℕ) (s : Step) → i < length code → s ≡ slice_index_or code i s → slice_get code i ≡ Some s
step_there code i s h e = slice_get-get_or code i s h ∙ ap Some (sym e)
