-- The verifier's look at one step.
use Rattle.std.proofs.Common.{◌≡◌, ℕ, ◌+◌, ◌<◌, ◌==◌, Bool, true, false, ◌||◌, List, [], ◌∷◌, ◌++◌, drop, length, reverse, get_or, refl, sym, ap, ◌∙◌}
use Rattle.std.proofs.lemmas.List.Folds.{list_any-append}
use Rattle.std.proofs.lemmas.List.{drop_more, reverse-append}
use Rattle.sw_code.specs.declared.code.Step.{Step}
use Rattle.sw_verify.specs.declared.nest.Frame.{Frame}
use Rattle.sw_verify.specs.Nest.{fault_in, in_use}

pub fault_more : (code : List Step) (i : ℕ) (fs : List Frame) (o : Step) → i < length code → o ≡ get_or code i o
    → fault_in (drop i code) i fs ≡ fault_in (o ∷ drop (i + 1) code) i fs
fault_more code i fs o h e = ap (λ (l : List Step). fault_in l i fs) (drop_more code i o h ∙ ap (λ (x : Step). x ∷ drop (i + 1) code) (sym e))

or_turned : (a b : Bool) → (a || (b || false)) ≡ (b || a)
or_turned true true = refl
or_turned true false = refl
or_turned false true = refl
or_turned false false = refl

or_swapped : (a b : Bool) → (a || b) ≡ (b || a)
or_swapped true true = refl
or_swapped true false = refl
or_swapped false true = refl
or_swapped false false = refl

-- a counter is in use whichever way round the loops stand
in_use_turned : (fs : List Frame) (k : ℕ) → in_use (reverse fs) k ≡ in_use fs k
in_use_turned [] k = refl
in_use_turned (f ∷ fs) k =
    ap (λ (l : List Frame). in_use l k) (reverse-append (f ∷ []) fs)
    ∙ list_any-append (λ (x : Frame). k == x.counter) (reverse fs) (f ∷ [])
    ∙ ap (λ (b : Bool). b || ((k == f.counter) || false)) (in_use_turned fs k)
    ∙ or_turned (in_use fs k) (k == f.counter)

-- and in two parts, the newer of which come first
pub in_use_parts : (few more : List Frame) (k : ℕ) → in_use (reverse more ++ reverse few) k ≡ (in_use few k || in_use more k)
in_use_parts few more k =
    list_any-append (λ (x : Frame). k == x.counter) (reverse more) (reverse few)
    ∙ ap (λ (b : Bool). b || in_use (reverse few) k) (in_use_turned more k)
    ∙ ap (λ (b : Bool). in_use more k || b) (in_use_turned few k)
    ∙ or_swapped (in_use more k) (in_use few k)
