-- Nested loops make no step oftener than a loop on each counter comes to.
use Rattle.std.proofs.Common.{◌≡◌, ℕ, zero, suc, ◌+◌, ◌*◌, ◌<◌, ◌≤◌, Bool, true, false, not, ◌||◌, cond, eqb, List, [], ◌∷◌, Option, Some, None}
use Rattle.std.proofs.Common.{refl, sym, ap, ◌∙◌, arith}
use Rattle.std.specs.List.{AllByRecursion}
use Rattle.std.proofs.Math.Nat.{mul_assoc, one-le-mul, le-mul_of_pos_right, mul-le-mul_left, mul-le-mul_right}
use Rattle.std.proofs.lemmas.Bool.Decides.{nat_tests}
use Rattle.sw_base.specs.Limits.{most_counters, most_trigger_count}
use Rattle.sw_code.specs.declared.code.Step.{Step}
use Rattle.sw_code.specs.declared.code.Step.TheVariants as step
use Rattle.sw_code.specs.Range.{IsStep}
use Rattle.sw_verify.specs.declared.refusal.Refusal.TheVariants.{BadNesting, BadJump}
use Rattle.sw_verify.specs.declared.nest.Frame.{Frame}
use Rattle.sw_verify.specs.Nest.{in_use, at_loop, fault_in, most_turns, Limited, AreLimited}

-- what the loops of the counters that are free can still multiply, of those below a number
abbrev room_of : Bool → ℕ
room_of used = cond used 1 most_trigger_count

abbrev room_below : List Frame → ℕ → ℕ
room_below fs zero = 1
room_below fs (suc counter) = room_of (in_use fs counter) * room_below fs counter

abbrev room : List Frame → ℕ
room fs = room_below fs most_counters

-- the factors where the open loops began
abbrev AreWithin : List Frame → List ℕ → Type 0
AreWithin [] [] = Unit {0}
AreWithin (f ∷ fs) (g ∷ gs) = (g * room fs ≤ most_turns most_counters) × AreWithin fs gs
AreWithin _ _ = ⊥

some_room : (u : Bool) → 1 ≤ room_of u
some_room true = omega arith
some_room false = omega arith

some_below : (fs : List Frame) (n : ℕ) → 1 ≤ room_below fs n
some_below fs zero = omega arith
some_below fs (suc n) = one-le-mul (some_room (in_use fs n)) (some_below fs n)

some_left : (fs : List Frame) → 1 ≤ room fs
some_left fs = some_below fs most_counters

-- where no loop is open all of it is left
all_below : (n : ℕ) → room_below [] n ≡ most_turns n
all_below zero = refl
all_below (suc n) = ap (λ (r : ℕ). most_trigger_count * r) (all_below n)

-- a factor with room is limited
limited_by : (f r : ℕ) → 1 ≤ r → f * r ≤ most_turns most_counters → Limited f
limited_by f r some h = let a : f ≤ f * r = le-mul_of_pos_right f some in omega arith

-- a counter that was free takes its room
module _ (fs : List Frame) (count start k : ℕ) where
  abbrev more : List Frame
  more = record { counter = k; count = count; start = start } ∷ fs

  others_below : (n : ℕ) → n ≤ k → room_below more n ≡ room_below fs n
  others_below zero h = refl
  others_below (suc n) h =
      let other : eqb n k ≡ false = grind (arith, nat_tests) in
      ap (λ (b : Bool). room_of (b || in_use fs n) * room_below more n) other
      ∙ ap (λ (r : ℕ). room_of (in_use fs n) * r) (others_below n (omega arith))

  taken : (n : ℕ) → k < n → in_use fs k ≡ false → room_below more n * most_trigger_count ≡ room_below fs n
  taken zero h free = absurd (omega arith)
  taken (suc n) h free = at (eqb n k) refl (λ l. taken n l free) where
    at : (b : Bool) → eqb n k ≡ b → (k < n → room_below more n * most_trigger_count ≡ room_below fs n)
        → room_of (b || in_use fs n) * room_below more n * most_trigger_count ≡ room_of (in_use fs n) * room_below fs n
    at true e below =
        let same : n ≡ k = grind (arith, nat_tests) in
        let rest = others_below n (omega arith) in
        let unused : in_use fs n ≡ false = ap (in_use fs) same ∙ free in
        let a : 1 * room_below more n * most_trigger_count ≡ most_trigger_count * room_below fs n = omega (arith, rest) in
        a ∙ ap (λ (b : Bool). room_of b * room_below fs n) (sym unused)
    at false e below =
        let other : k < n = grind (arith, nat_tests) in
        mul_assoc (room_of (in_use fs n)) (room_below more n) most_trigger_count
        ∙ ap (λ (r : ℕ). room_of (in_use fs n) * r) (below other)

  within_more : (f : ℕ) → k < most_counters → count ≤ most_trigger_count → in_use fs k ≡ false → f * room fs ≤ most_turns most_counters
      → f * count * room more ≤ most_turns most_counters
  within_more f h most free w =
      let r = room more in
      let a : count * r ≤ most_trigger_count * r = mul-le-mul_right r most in
      let b : most_trigger_count * r ≡ r * most_trigger_count = grind arith in
      let c : count * r ≤ room fs = omega (arith, taken most_counters h free) in
      let d : f * (count * r) ≤ f * room fs = mul-le-mul_left f c in
      let e : f * count * r ≡ f * (count * r) = mul_assoc f count r in
      omega arith

pub chosen : {A : Type 0} (b : Bool) (x : A) (r : Option A) → cond b (Some x) r ≡ None → (b ≡ false) × (r ≡ None)
chosen true x r h = absurd (cc h)
chosen false x r h = (refl, h)

limited_end : (k to pc : ℕ) (steps : List Step) (fs : List Frame) (gs : List ℕ) → at_loop k to fs (fault_in steps (pc + 1)) ≡ None → AreWithin fs gs
    → ((es : List Frame) (g : ℕ) (hs : List ℕ) → fault_in steps (pc + 1) es ≡ None → g * room es ≤ most_turns most_counters → AreWithin es hs
    → AreLimited steps g hs)
    → AreLimited (step.Loop k to ∷ steps) 0 gs
limited_end k to pc steps [] gs h w up = absurd (cc h)
limited_end k to pc steps (f ∷ fs) [] h w up = absurd w
limited_end k to pc steps (f ∷ fs) (g ∷ gs) h w up =
    let a = chosen (not (eqb k f.counter)) BadNesting (cond (not (eqb to f.start)) (Some BadJump) (fault_in steps (pc + 1) fs)) h in
    let b = chosen (not (eqb to f.start)) BadJump (fault_in steps (pc + 1) fs) a.1 in
    (limited_by g (room fs) (some_left fs) w.0, up fs g gs b.1 w.0 w.1)

-- where no fault is found each step is limited
limited : (steps : List Step) (pc : ℕ) (fs : List Frame) (f : ℕ) (gs : List ℕ) → AllByRecursion IsStep steps → fault_in steps pc fs ≡ None
    → f * room fs ≤ most_turns most_counters → AreWithin fs gs → AreLimited steps f gs
limited [] pc fs f gs i h w a = tt
limited (step.Set k n ∷ steps) pc fs f gs i h w a =
    let frame : Frame = record { counter = k; count = n; start = pc + 1 } in
    let c = chosen (in_use fs k) BadNesting (fault_in steps (pc + 1) (frame ∷ fs)) h in
    let more = within_more fs n (pc + 1) k f i.0.0 i.0.2 c.0 w in
    (limited_by (f * n) (room (frame ∷ fs)) (some_left (frame ∷ fs)) more, limited steps (pc + 1) (frame ∷ fs) (f * n) (f ∷ gs) i.1 c.1 more (w, a))
limited (step.Wait name ∷ steps) pc fs f gs i h w a = limited steps (pc + 1) fs f gs i.1 h w a
limited (step.Timer name micros ∷ steps) pc fs f gs i h w a = limited steps (pc + 1) fs f gs i.1 h w a
limited (step.Pause micros ∷ steps) pc fs f gs i h w a = limited steps (pc + 1) fs f gs i.1 h w a
limited (step.Close c ∷ steps) pc fs f gs i h w a = limited steps (pc + 1) fs f gs i.1 h w a
limited (step.Read ∷ steps) pc fs f gs i h w a = limited steps (pc + 1) fs f gs i.1 h w a
limited (step.Open c ∷ steps) pc fs f gs i h w a = limited steps (pc + 1) fs f gs i.1 h w a
limited (step.Loop k to ∷ steps) pc fs f gs i h w a = limited_end k to pc steps fs gs h a (λ es g hs e v b. limited steps (pc + 1) es g hs i.1 e v b)
limited (step.Halt ∷ steps) pc fs f gs i h w a = tt

pub limited_from_start : (steps : List Step) → AllByRecursion IsStep steps → fault_in steps 0 [] ≡ None → AreLimited steps 1 []
limited_from_start steps i h = limited steps 0 [] 1 [] i h (omega (arith, all_below most_counters)) tt
