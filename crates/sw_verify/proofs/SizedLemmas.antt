-- The number of items that is counted by loops is theirs.
use Rattle.std.proofs.Common.{◌≡◌, ℕ, zero, suc, ◌+◌, ◌*◌, ◌<◌, ◌≤◌, List, [], ◌∷◌, ◌++◌, length, drop, map, None, Some, not, eqb, cond, refl, ap, ◌∙◌, length-append, subst, arith}
use Rattle.sw_trigger.specs.declared.layer.Awaited.TheVariants.{Wait, Period, Pause, Read}
use Rattle.sw_trigger.specs.Agenda.{Item, Awaits, Close, Open, repeated}
use Rattle.sw_trigger.proofs.Repeats.{length-repeated}
use Rattle.sw_code.specs.declared.code.Step.{Step}
use Rattle.sw_code.specs.declared.code.Step.TheVariants as step
use Rattle.sw_verify.specs.declared.size.Opened.{Opened}
use Rattle.sw_verify.specs.Items.{OpenLoop, items_from, items_of}
use Rattle.sw_verify.specs.declared.nest.Frame.{Frame}
use Rattle.sw_verify.specs.declared.refusal.Refusal.TheVariants.{BadNesting, BadJump}
use Rattle.sw_verify.specs.Nest.{AreCounted, fault_in, in_use}
use Rattle.sw_verify.proofs.Limits.{chosen}
use Rattle.sw_verify.specs.Sized.{size_from, before_all, AreDone, Closes}

abbrev sized : OpenLoop → Opened
sized l = record { count = l.0; before = length l.1 }

one_more : (x : Item) (steps : List Step) (items : List Item) (os : List Opened) → size_from steps (length (items ++ x ∷ [])) os ≡ size_from steps (length items + 1) os
one_more x steps items os = ap (λ (n : ℕ). size_from steps n os) (length-append items (x ∷ []))

pub size_is : (steps : List Step) (items : List Item) (loops : List OpenLoop)
    → length (items_from steps items loops) ≡ size_from steps (length items) (map sized loops)
size_is [] items loops = refl
size_is (step.Set k n ∷ steps) items loops = size_is steps [] ((n, items) ∷ loops)
size_is (step.Wait name ∷ steps) items loops =
    size_is steps (items ++ Awaits (Wait name) ∷ []) loops ∙ one_more (Awaits (Wait name)) steps items (map sized loops)
size_is (step.Timer name micros ∷ steps) items loops =
    size_is steps (items ++ Awaits (Period name micros) ∷ []) loops ∙ one_more (Awaits (Period name micros)) steps items (map sized loops)
size_is (step.Pause micros ∷ steps) items loops =
    size_is steps (items ++ Awaits (Pause micros) ∷ []) loops ∙ one_more (Awaits (Pause micros)) steps items (map sized loops)
size_is (step.Close p ∷ steps) items loops = size_is steps (items ++ Close p ∷ []) loops ∙ one_more (Close p) steps items (map sized loops)
size_is (step.Read ∷ steps) items loops = size_is steps (items ++ Awaits Read ∷ []) loops ∙ one_more (Awaits Read) steps items (map sized loops)
size_is (step.Open p ∷ steps) items loops = size_is steps (items ++ Open p ∷ []) loops ∙ one_more (Open p) steps items (map sized loops)
size_is (step.Loop k to ∷ steps) items [] = refl
size_is (step.Loop k to ∷ steps) items (l ∷ loops) =
    size_is steps (l.1 ++ repeated l.0 items) loops
    ∙ ap (λ (n : ℕ). size_from steps n (map sized loops)) (length-append l.1 (repeated l.0 items) ∙ ap (λ (n : ℕ). length l.1 + n) (length-repeated l.0 items))
size_is (step.Halt ∷ steps) items loops = refl

pub size_of_all : (steps : List Step) → length (items_of steps) ≡ size_from steps 0 []
size_of_all steps = size_is steps [] []

-- ---- no fewer than counted so far

least_times : (n h : ℕ) → 0 < n → h ≤ n * h
least_times zero h some = absurd (omega (arith, some))
least_times (suc n) h some = omega arith

pub no_fewer : (steps : List Step) (here : ℕ) (os : List Opened) → Closes steps (length os) → AreDone os → here + before_all os ≤ size_from steps here os
no_fewer [] here os closes done = absurd closes
no_fewer (step.Set k n ∷ steps) here os closes done =
    let most = no_fewer steps 0 (record { count = n; before = here } ∷ os) closes.1 (closes.0, done) in omega (arith, most)
no_fewer (step.Wait name ∷ steps) here os closes done = let most = no_fewer steps (here + 1) os closes done in omega (arith, most)
no_fewer (step.Timer name micros ∷ steps) here os closes done = let most = no_fewer steps (here + 1) os closes done in omega (arith, most)
no_fewer (step.Pause micros ∷ steps) here os closes done = let most = no_fewer steps (here + 1) os closes done in omega (arith, most)
no_fewer (step.Close p ∷ steps) here os closes done = let most = no_fewer steps (here + 1) os closes done in omega (arith, most)
no_fewer (step.Read ∷ steps) here os closes done = let most = no_fewer steps (here + 1) os closes done in omega (arith, most)
no_fewer (step.Open p ∷ steps) here os closes done = let most = no_fewer steps (here + 1) os closes done in omega (arith, most)
no_fewer (step.Loop k to ∷ steps) here [] closes done = absurd closes
no_fewer (step.Loop k to ∷ steps) here (o ∷ os) closes done =
    let most = no_fewer steps (o.before + o.count * here) os closes done.1 in
    let least = least_times o.count here done.0 in
    omega (arith, most, least)
no_fewer (step.Halt ∷ steps) here [] closes done = omega arith
no_fewer (step.Halt ∷ steps) here (o ∷ os) closes done = absurd (cc closes)

-- nested loops, each done, are closed
pub nested_closes : (steps : List Step) (pc : ℕ) (fs : List Frame) → AreCounted steps → fault_in steps pc fs ≡ None → Closes steps (length fs)
nested_closes [] pc fs counted nested = absurd (cc nested)
nested_closes (step.Set k n ∷ steps) pc fs counted nested =
    let frame : Frame = record { counter = k; count = n; start = pc + 1 } in
    let rest = chosen (in_use fs k) BadNesting (fault_in steps (pc + 1) (frame ∷ fs)) nested in
    (counted.0, nested_closes steps (pc + 1) (frame ∷ fs) counted.1 rest.1)
nested_closes (step.Wait name ∷ steps) pc fs counted nested = nested_closes steps (pc + 1) fs counted nested
nested_closes (step.Timer name micros ∷ steps) pc fs counted nested = nested_closes steps (pc + 1) fs counted nested
nested_closes (step.Pause micros ∷ steps) pc fs counted nested = nested_closes steps (pc + 1) fs counted nested
nested_closes (step.Close p ∷ steps) pc fs counted nested = nested_closes steps (pc + 1) fs counted nested
nested_closes (step.Read ∷ steps) pc fs counted nested = nested_closes steps (pc + 1) fs counted nested
nested_closes (step.Open p ∷ steps) pc fs counted nested = nested_closes steps (pc + 1) fs counted nested
nested_closes (step.Loop k to ∷ steps) pc [] counted nested = absurd (cc nested)
nested_closes (step.Loop k to ∷ steps) pc (f ∷ fs) counted nested =
    let same = chosen (not (eqb k f.counter)) BadNesting (cond (not (eqb to f.start)) (Some BadJump) (fault_in steps (pc + 1) fs)) nested in
    let rest = chosen (not (eqb to f.start)) BadJump (fault_in steps (pc + 1) fs) same.1 in
    nested_closes steps (pc + 1) fs counted rest.1
nested_closes (step.Halt ∷ []) pc [] counted nested = refl
nested_closes (step.Halt ∷ []) pc (f ∷ fs) counted nested = absurd (cc nested)
nested_closes (step.Halt ∷ (o ∷ steps)) pc fs counted nested = absurd (cc nested)

module _ (steps left : List Step) (here : ℕ) (os : List Opened) where
  -- what is counted so far is no more than all
  too_many : size_from left here os ≡ size_from steps 0 [] → Closes left (length os) → AreDone os → here ≤ length (items_of steps)
  too_many same closes done =
      let most = no_fewer left here os closes done in
      let all = size_of_all steps in
      omega (arith, most, same, all)

-- where one step more is too many, or the turns of a loop are
module _ (steps left : List Step) (here : ℕ) (os : List Opened) (full : here ≡ 18446744073709551615) where
  full_one : size_from left (here + 1) os ≡ size_from steps 0 [] → Closes left (length os) → AreDone os → 18446744073709551616 ≤ length (items_of steps)
  full_one same closes done = let most = too_many steps left (here + 1) os same closes done in omega (arith, most, full)

pub full_turns : (steps left : List Step) (k to here : ℕ) (o : Opened) (os : List Opened) → 18446744073709551616 ≤ o.before + o.count * here
    → size_from (step.Loop k to ∷ left) here (o ∷ os) ≡ size_from steps 0 [] → Closes (step.Loop k to ∷ left) (length (o ∷ os)) → AreDone (o ∷ os)
    → 18446744073709551616 ≤ length (items_of steps)
full_turns steps left k to here o os over same closes done =
    let most = too_many steps left (o.before + o.count * here) os same closes done.1 in omega (arith, most, over)

-- at a step of the whole
module _ (steps left : List Step) (i here : ℕ) (opened : List Opened) (s : Step) (at : drop i steps ≡ s ∷ left)
    (same : size_from (drop i steps) here opened ≡ size_from steps 0 []) (closes : Closes (drop i steps) (length opened)) (done : AreDone opened) where
  -- an item more is too many
  pub too_many_steps : here ≡ 18446744073709551615 → ((k n : ℕ) → s ≡ step.Set k n → ⊥) → ((k to : ℕ) → s ≡ step.Loop k to → ⊥) → (s ≡ step.Halt → ⊥)
      → 18446744073709551616 ≤ length (items_of steps)
  too_many_steps full no_set no_loop no_halt =
      full_step s (subst (λ (l : List Step). size_from l here opened ≡ size_from steps 0 []) at same)
      (subst (λ (l : List Step). Closes l (length opened)) at closes) no_set no_loop no_halt
    where
      full_step : (t : Step) → size_from (t ∷ left) here opened ≡ size_from steps 0 [] → Closes (t ∷ left) (length opened)
          → ((k n : ℕ) → t ≡ step.Set k n → ⊥) → ((k to : ℕ) → t ≡ step.Loop k to → ⊥) → (t ≡ step.Halt → ⊥) → 18446744073709551616 ≤ length (items_of steps)
      full_step (step.Set k n) e c no_set no_loop no_halt = absurd (no_set k n refl)
      full_step (step.Wait name) e c no_set no_loop no_halt = full_one steps left here opened full e c done
      full_step (step.Timer name micros) e c no_set no_loop no_halt = full_one steps left here opened full e c done
      full_step (step.Pause micros) e c no_set no_loop no_halt = full_one steps left here opened full e c done
      full_step (step.Close p) e c no_set no_loop no_halt = full_one steps left here opened full e c done
      full_step step.Read e c no_set no_loop no_halt = full_one steps left here opened full e c done
      full_step (step.Open p) e c no_set no_loop no_halt = full_one steps left here opened full e c done
      full_step (step.Loop k to) e c no_set no_loop no_halt = absurd (no_loop k to refl)
      full_step step.Halt e c no_set no_loop no_halt = absurd (no_halt refl)

  -- the turns of a loop are too many
  pub too_many_turns : (k to : ℕ) (o : Opened) (os : List Opened) → s ≡ step.Loop k to → opened ≡ o ∷ os
      → 18446744073709551616 ≤ o.before + o.count * here → 18446744073709551616 ≤ length (items_of steps)
  too_many_turns k to o os is those over =
      let e : drop i steps ≡ step.Loop k to ∷ left = at ∙ ap (λ (t : Step). t ∷ left) is in
      full_turns steps left k to here o os over
      (subst (λ (l : List Step). size_from l here (o ∷ os) ≡ size_from steps 0 []) e
      (subst (λ (l : List Opened). size_from (drop i steps) here l ≡ size_from steps 0 []) those same))
      (subst (λ (l : List Step). Closes l (length (o ∷ os))) e (subst (λ (l : List Opened). Closes (drop i steps) (length l)) those closes))
      (subst AreDone those done)
