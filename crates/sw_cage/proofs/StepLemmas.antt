-- Single steps of a scan's code.
use Rattle.std.proofs.Common.{◌≡◌, ℕ, zero, suc, ◌+◌, ◌-◌, ◌<◌, ◌≤◌, ◌≢◌, Bool, true, false, cond, eqb, List, [], ◌∷◌, length, Option}
use Rattle.std.proofs.Common.{Some, None, slice_set, refl, sym, ap, ◌∙◌, subst, arith, get_or, ◌⊎◌, inl, inr}
use mathlib.Core.Path.{fun_ext}
use Rattle.std.specs.List.{slice_get, AllByRecursion}
use Rattle.std.proofs.lemmas.Bool.Decides.{nat_tests}
use Rattle.std.proofs.lemmas.List.{get_or-set_same, get_or-set_other}
use Rattle.sw_trigger.specs.declared.layer.Awaited.TheVariants.{Wait, Period, Pause, Read}
use Rattle.sw_trigger.specs.Agenda.{Item, Awaits, Close, Open}
use Rattle.sw_code.specs.declared.code.Step.{Step}
use Rattle.sw_code.specs.declared.code.Step.TheVariants as step
use Rattle.sw_code.specs.Range.{IsStep}
use Rattle.sw_code.specs.Code.{put, passing, act, exec}
use Rattle.sw_code.specs.Tree.{step_of}
use Rattle.sw_code.specs.Pace.{IsNearBy, IsNear, IsNearAfter, IsPaced}
use Rattle.sw_cage.specs.declared.scan.steps.ScanPlace.{ScanPlace}
use Rattle.sw_cage.specs.Steps.{counters_of, Does}

abbrev pub place : ℕ → List ℕ → ScanPlace
place pc counters = record { step = pc; counters = counters }

-- a step's numbers are in range
pub range_at : (is : List Step) (k : ℕ) (i : Step) → AllByRecursion IsStep is → slice_get is k ≡ Some i → IsStep i
range_at [] k i h e = absurd (cc)
range_at (x ∷ is) zero i h e = let same : x ≡ i = cc in subst IsStep same h.0
range_at (x ∷ is) (suc k) i h e = range_at is k i h.1 e

-- the counters

put_is : (cs : List ℕ) (k v : ℕ) → k < length cs → put k v (counters_of cs) ≡ counters_of (slice_set cs k v)
put_is cs k v h = fun_ext (λ j. at j (eqb j k) refl) where
  at : (j : ℕ) (b : Bool) → eqb j k ≡ b → cond b v (get_or cs j 0) ≡ get_or (slice_set cs k v) j 0
  at j true e =
      let same : j ≡ k = grind (arith, nat_tests) in
      sym (ap (λ (i : ℕ). get_or (slice_set cs k v) i 0) same ∙ get_or-set_same cs k v 0 h)
  at j false e =
      let other : j ≢ k = λ s. absurd (grind (arith, nat_tests)) in
      sym (get_or-set_other cs k j v 0 other)

module _ (code : List Step) (at : ScanPlace) where
  -- the step, and what comes then
  does_at : (items : List Item) (o : Option Step) → slice_get code at.step ≡ o → Does code at items
      → (n : ℕ) × (act o (exec code n) at.step (counters_of at.counters) ≡ Some items)
  does_at items o e d = go d.steps d.run where
    go : (n : ℕ) → exec code n at.step (counters_of at.counters) ≡ Some items → (m : ℕ) × (act o (exec code m) at.step (counters_of at.counters) ≡ Some items)
    go zero r = absurd (cc)
    go (suc n) r = (n, ap (λ (i : Option Step). act i (exec code n) at.step (counters_of at.counters)) (sym e) ∙ r)

  pub does_none : (items : List Item) → slice_get code at.step ≡ None → Does code at items → ⊥
  does_none items e d = let h = (does_at items None e d).1 in absurd (cc)

  pub does_halt : (items : List Item) → slice_get code at.step ≡ Some step.Halt → Does code at items → items ≡ []
  does_halt items e d = let h = (does_at items (Some step.Halt) e d).1 in cc

  act_item : (x : Item) (n : ℕ)
      → act (Some (step_of x)) (exec code n) at.step (counters_of at.counters) ≡ passing x (exec code n (at.step + 1) (counters_of at.counters))
  act_item (Awaits (Wait name)) n = refl
  act_item (Awaits (Period name micros)) n = refl
  act_item (Awaits (Pause micros)) n = refl
  act_item (Awaits Read) n = refl
  act_item (Close c) n = refl
  act_item (Open c) n = refl

  passed : (x : Item) (o : Option (List Item)) (items : List Item) → passing x o ≡ Some items → (rest : List Item) × (items ≡ x ∷ rest) × (o ≡ Some rest)
  passed x None items e = absurd (cc)
  passed x (Some rest) items e = let same : items ≡ x ∷ rest = cc in (rest, same, refl)

  pub does_item : (x : Item) (items : List Item) → slice_get code at.step ≡ Some (step_of x) → Does code at items
      → (rest : List Item) × (items ≡ x ∷ rest) × Does code (place (at.step + 1) at.counters) rest
  does_item x items e d =
      let h = does_at items (Some (step_of x)) e d in
      let p = passed x (exec code h.0 (at.step + 1) (counters_of at.counters)) items (sym (act_item x h.0) ∙ h.1) in
      (p.0, p.1, record { steps = h.0; run = p.2 })

  pub does_set : (k v : ℕ) (items : List Item) → slice_get code at.step ≡ Some (step.Set k v) → k < length at.counters → Does code at items
      → Does code (place (at.step + 1) (slice_set at.counters k v)) items
  does_set k v items e h d =
      let r = does_at items (Some (step.Set k v)) e d in
      record { steps = r.0; run = ap (exec code r.0 (at.step + 1)) (sym (put_is at.counters k v h)) ∙ r.1 }

  pub does_again : (k to : ℕ) (items : List Item) → slice_get code at.step ≡ Some (step.Loop k to) → k < length at.counters → 1 < get_or at.counters k 0
      → Does code at items → Does code (place to (slice_set at.counters k (get_or at.counters k 0 - 1))) items
  does_again k to items e h more d =
      let r = does_at items (Some (step.Loop k to)) e d in
      let left = get_or at.counters k 0 - 1 in
      let t : eqb left 0 ≡ false = grind (arith, nat_tests) in
      record {
        steps = r.0;
        run = ap (exec code r.0 to) (sym (put_is at.counters k left h))
            ∙ ap (λ (b : Bool). cond b (exec code r.0 (at.step + 1) (put k 0 (counters_of at.counters)))
            (exec code r.0 to (put k left (counters_of at.counters)))) (sym t)
            ∙ r.1;
      }

  pub does_over : (k to : ℕ) (items : List Item) → slice_get code at.step ≡ Some (step.Loop k to) → k < length at.counters → get_or at.counters k 0 ≤ 1
      → Does code at items → Does code (place (at.step + 1) (slice_set at.counters k 0)) items
  does_over k to items e h over d =
      let r = does_at items (Some (step.Loop k to)) e d in
      let left = get_or at.counters k 0 - 1 in
      let t : eqb left 0 ≡ true = grind (arith, nat_tests) in
      record {
        steps = r.0;
        run = ap (exec code r.0 (at.step + 1)) (sym (put_is at.counters k 0 h))
            ∙ ap (λ (b : Bool). cond b (exec code r.0 (at.step + 1) (put k 0 (counters_of at.counters)))
            (exec code r.0 to (put k left (counters_of at.counters)))) (sym t)
            ∙ r.1;
      }

  -- what is near

  pub near_at : (n : ℕ) (o : Option Step) → slice_get code at.step ≡ o → IsNear code (suc n) at.step → IsNearBy o (IsNear code n) at.step
  near_at n o e h = subst (λ (i : Option Step). IsNearBy i (IsNear code n) at.step) e h

  pub near_after : (n : ℕ) (i : Step) → IsPaced code n → slice_get code at.step ≡ Some i → IsNearAfter code n at.step i
  near_after n i p e = p.after at.step i e

  -- what a step that does more than count comes to
  at_rest : (items : List Item) → IsNear code 0 at.step → Does code at items → (P : Type 0)
      → ((x : Item) → slice_get code at.step ≡ Some (step_of x) → P) → (slice_get code at.step ≡ Some step.Halt → P) → P
  at_rest items near d P item halt = go (slice_get code at.step) refl where
    go : (o : Option Step) → slice_get code at.step ≡ o → P
    go None e = absurd (does_none items e d)
    go (Some (step.Set k n)) e = absurd (subst (λ (i : Option Step). IsNearBy i (λ p. ⊥) at.step) e near)
    go (Some (step.Wait name)) e = item (Awaits (Wait name)) e
    go (Some (step.Timer name micros)) e = item (Awaits (Period name micros)) e
    go (Some (step.Pause micros)) e = item (Awaits (Pause micros)) e
    go (Some (step.Close c)) e = item (Close c) e
    go (Some step.Read) e = item (Awaits Read) e
    go (Some (step.Open c)) e = item (Open c) e
    go (Some (step.Loop k to)) e = absurd (subst (λ (i : Option Step). IsNearBy i (λ p. ⊥) at.step) e near).0
    go (Some step.Halt) e = halt e

-- at a loop's end
module _ (code : List Step) (at : ScanPlace) (k to : ℕ) where
  abbrev turns : ℕ
  turns = get_or at.counters k 0

  over_or_again : (n : ℕ) → (1 < n) ⊎ (n ≤ 1)
  over_or_again zero = inr (omega arith)
  over_or_again (suc zero) = inr (omega arith)
  over_or_again (suc (suc n)) = inl (omega arith)

  pub loop_near : (n : ℕ) (after : ScanPlace) → slice_get code at.step ≡ Some (step.Loop k to) → IsNear code (suc n) at.step
      → (1 < turns → after ≡ place to (slice_set at.counters k (turns - 1))) → (turns ≤ 1 → after ≡ place (at.step + 1) (slice_set at.counters k 0))
      → IsNear code n after.step
  loop_near n after e near again over =
      let both = near_at code at n (Some (step.Loop k to)) e near in
      elim (over_or_again turns) [
        | inl more ↦ subst (λ (p : ScanPlace). IsNear code n p.step) (sym (again more)) both.1
        | inr done ↦ subst (λ (p : ScanPlace). IsNear code n p.step) (sym (over done)) both.0
      ]

  pub loop_does : (items : List Item) (after : ScanPlace) → slice_get code at.step ≡ Some (step.Loop k to) → k < length at.counters → Does code at items
      → (1 < turns → after ≡ place to (slice_set at.counters k (turns - 1))) → (turns ≤ 1 → after ≡ place (at.step + 1) (slice_set at.counters k 0))
      → Does code after items
  loop_does items after e h d again over = elim (over_or_again turns) [
    | inl more ↦ subst (λ (p : ScanPlace). Does code p items) (sym (again more)) (does_again code at k to items e h more d)
    | inr done ↦ subst (λ (p : ScanPlace). Does code p items) (sym (over done)) (does_over code at k to items e h done d)
  ]

-- past a step that does an item
module _ (code : List Step) (at : ScanPlace) where
  tail_is : (x y : Item) (items rest : List Item) → (x ∷ items) ≡ (y ∷ rest) → rest ≡ items
  tail_is x y items rest e = cc

  pub does_past : IsNear code 0 at.step → (x : Item) (items : List Item) → Does code at (x ∷ items) → Does code (place (at.step + 1) at.counters) items
  does_past near x items d =
      at_rest code at (x ∷ items) near d (Does code (place (at.step + 1) at.counters) items)
      (λ y e. let p = does_item code at y (x ∷ items) e d in subst (Does code (place (at.step + 1) at.counters)) (tail_is x y items p.0 p.1) p.2)
      (λ e. let h = does_halt code at (x ∷ items) e d in absurd (cc))

  item_near : (n : ℕ) (x : Item) → IsPaced code n → slice_get code at.step ≡ Some (step_of x) → IsNear code n (at.step + 1)
  item_near n (Awaits (Wait name)) p e = p.after at.step (step.Wait name) e
  item_near n (Awaits (Period name micros)) p e = p.after at.step (step.Timer name micros) e
  item_near n (Awaits (Pause micros)) p e = p.after at.step (step.Pause micros) e
  item_near n (Awaits Read) p e = p.after at.step step.Read e
  item_near n (Close c) p e = p.after at.step (step.Close c) e
  item_near n (Open c) p e = p.after at.step (step.Open c) e

  pub near_past : (n : ℕ) → IsPaced code n → IsNear code 0 at.step → (x : Item) (items : List Item) → Does code at (x ∷ items) → IsNear code n (at.step + 1)
  near_past n p near x items d =
      at_rest code at (x ∷ items) near d (IsNear code n (at.step + 1)) (λ y e. item_near n y p e)
      (λ e. let h = does_halt code at (x ∷ items) e d in absurd (cc))
