-- The code of settings is in range.
use Rattle.std.proofs.Common.{◌≡◌, ℕ, zero, suc, ◌+◌, ◌-◌, ◌*◌, ◌/◌, ◌%◌, ◌<◌, ◌≤◌, Bool, false, cond, eqb, List, [], ◌∷◌, ◌++◌, length, map, refl, sym, ap}
use Rattle.std.proofs.Common.{subst, arith, length-append}
use Rattle.std.specs.List.{AllByRecursion}
use Rattle.std.proofs.lemmas.Bool.Decides.{nat_tests}
use Rattle.std.proofs.lemmas.List.{length-map}
use Rattle.std.proofs.lemmas.Nat.{mod_below}
use Rattle.std.proofs.Math.Nat.{suc-mul, div-le_self}
use Rattle.sw_base.specs.declared.terms.LayerName.{LayerName}
use Rattle.sw_base.specs.declared.terms.LayerName.TheVariants.{Trigger}
use Rattle.sw_base.specs.declared.terms.Source.{Source}
use Rattle.sw_base.specs.declared.terms.Source.TheVariants.{Immediate, Bus, External, Hold, Timer}
use Rattle.sw_trigger.specs.declared.layer.Layer.{Layer}
use Rattle.sw_trigger.specs.declared.layer.Awaited.TheVariants.{Pause, Read}
use Rattle.sw_trigger.specs.Settings.{SettingsSeen, IsLayer, IsInRange, NamedLayer, named, arms_of}
use Rattle.sw_base.specs.Layers.{arm_layers, number_of}
use Rattle.sw_base.specs.declared.terms.ArmLayer.{ArmLayer}
use Rattle.sw_channel.specs.Positions.{Position}
use Rattle.sw_trigger.specs.Agenda.{Item, Awaits, Open, head_of, wait_by, wait_of, pause_of, position_at, visit, pass_of, passes}
use Rattle.sw_code.specs.declared.code.Step.{Step}
use Rattle.sw_code.specs.declared.code.Step.TheVariants as step
use Rattle.sw_base.specs.Limits.{most_arm_layers, most_counters, most_entries, most_arm_count, most_trigger_count}
use Rattle.sw_code.specs.Range.{most_steps, IsStep, IsProgramInRange as IsCode}
use Rattle.sw_code.specs.Tree.{Tree, Nil, Then, Times, step_of, size, flatten}
use Rattle.sw_code.specs.Compiled.{line, passes_tree, arms_tree, tree_of, compiled}
use Rattle.sw_code.proofs.Unfolding.{length-flatten}

abbrev pub Fits : List Item → Type 0
Fits items = AllByRecursion (λ x. IsStep (step_of x)) items

-- each loop and each item of the tree is in range
abbrev pub IsFit : Tree → Type 0
IsFit Nil = Unit {0}
IsFit (Then x rest) = IsStep (step_of x) × IsFit rest
IsFit (Times k n body rest) = ((k < most_counters) × (1 ≤ n) × (n ≤ 100000)) × IsFit body × IsFit rest

steps-append : (xs ys : List Step) → AllByRecursion IsStep xs → AllByRecursion IsStep ys → AllByRecursion IsStep (xs ++ ys)
steps-append [] ys a b = b
steps-append (x ∷ xs) ys a b = (a.0, steps-append xs ys a.1 b)

fits-append : (xs ys : List Item) → Fits xs → Fits ys → Fits (xs ++ ys)
fits-append [] ys a b = b
fits-append (x ∷ xs) ys a b = (a.0, fits-append xs ys a.1 b)

fit_steps : (t : Tree) (pc : ℕ) → IsFit t → pc + size t < most_steps → AllByRecursion IsStep (flatten t pc)
fit_steps Nil pc f h = tt
fit_steps (Then x rest) pc f h = (f.0, fit_steps rest (pc + 1) f.1 (omega arith))
fit_steps (Times k n body rest) pc f h =
    let target : pc + 1 < most_steps = omega arith in (
      f.0,
      steps-append (flatten body (pc + 1)) (step.Loop k (pc + 1) ∷ flatten rest (pc + 2 + size body))
          (fit_steps body (pc + 1) f.1 (omega arith))
          ((f.0.0, target), fit_steps rest (pc + 2 + size body) f.2 (omega arith)),
    )

fit-line : (xs : List Item) (rest : Tree) → Fits xs → IsFit rest → IsFit (line xs rest)
fit-line [] rest a b = b
fit-line (x ∷ xs) rest a b = (a.0, fit-line xs rest a.1 b)

size-line : (xs : List Item) (rest : Tree) → size (line xs rest) ≡ length xs + size rest
size-line [] rest = omega arith
size-line (x ∷ xs) rest = omega (arith, size-line xs rest)

fits-wait : (name : LayerName) (source : Source) (timer : ℕ) → (1 ≤ timer) × (timer ≤ 3600000000)
    → Fits (map Awaits (wait_by name source timer)) × (length (wait_by name source timer) ≤ 1)
fits-wait name Immediate timer t = (tt, omega arith)
fits-wait name Bus timer t = ((tt, tt), omega arith)
fits-wait name External timer t = ((tt, tt), omega arith)
fits-wait name Hold timer t = ((tt, tt), omega arith)
fits-wait name Timer timer t = ((t, tt), omega arith)

fits-pause : (micros : ℕ) → micros ≤ 3600000000 → Fits (map Awaits (pause_of micros)) × (length (pause_of micros) ≤ 1)
fits-pause zero h = (tt, omega arith)
fits-pause (suc m) h =
    let e : eqb (suc m) 0 ≡ false = grind (arith, nat_tests) in
    subst (λ (b : Bool). Fits (map Awaits (cond b [] (Pause (suc m) ∷ []))) × (length (cond b [] (Pause (suc m) ∷ [])) ≤ 1)) (sym e)
    (((omega arith, h), tt), omega arith)

map-append-awaits : (xs ys : List _) → map Awaits (xs ++ ys) ≡ map Awaits xs ++ map Awaits ys
map-append-awaits [] ys = refl
map-append-awaits (x ∷ xs) ys = ap (λ (l : List Item). Awaits x ∷ l) (map-append-awaits xs ys)

fits-head : {most : ℕ} (name : LayerName) (l : Layer) → IsLayer most l → Fits (map Awaits (head_of name l))
fits-head name l h =
    subst Fits (sym (map-append-awaits (wait_of name l) (pause_of l.delay_us)))
    (fits-append (map Awaits (wait_of name l)) (map Awaits (pause_of l.delay_us)) (fits-wait name l.source l.timer_us h.timer).0
    (fits-pause l.delay_us h.delay).0)

length-head : {most : ℕ} (name : LayerName) (l : Layer) → IsLayer most l → length (map Awaits (head_of name l)) ≤ 2
length-head name l h =
    let a = (fits-wait name l.source l.timer_us h.timer).1 in
    let b = (fits-pause l.delay_us h.delay).1 in
    omega (arith, a, b, length-map (head_of name l) Awaits, length-append (wait_of name l) (pause_of l.delay_us))

fits-visit : (settle : ℕ) (p : Position) → settle ≤ 3600000000 → Fits (visit settle p) × (length (visit settle p) ≤ 4)
fits-visit settle p h =
    let a = fits-pause settle h in (
      (tt, fits-append (map Awaits (pause_of settle)) (Awaits Read ∷ Open p ∷ []) a.0 (tt, (tt, tt))),
      omega (arith, a.1, length-map (pause_of settle) Awaits, length-append (map Awaits (pause_of settle)) (Awaits Read ∷ Open p ∷ [])),
    )

module _ (s : SettingsSeen) (h : IsLayer most_trigger_count s.trigger) (settled : s.settle_us ≤ 3600000000) where
  fits-passes : (k n : ℕ) → Fits (passes s k n)
  fits-passes k zero = tt
  fits-passes k (suc n) =
      fits-append (pass_of s k) (passes s (suc k) n)
      (fits-append (map Awaits (head_of Trigger s.trigger)) (visit s.settle_us (position_at s.list k)) (fits-head Trigger s.trigger h)
      (fits-visit s.settle_us (position_at s.list k) settled).0)
      (fits-passes (suc k) n)

  length-passes : (k n : ℕ) → length (passes s k n) ≤ n * 6
  length-passes k zero = omega arith
  length-passes k (suc n) =
      omega (
        arith,
        length-append (pass_of s k) (passes s (suc k) n),
        length-append (map Awaits (head_of Trigger s.trigger)) (visit s.settle_us (position_at s.list k)),
        length-head Trigger s.trigger h,
        (fits-visit s.settle_us (position_at s.list k) settled).1,
        length-passes (suc k) n,
        suc-mul n 6,
      )

  fit-some : (n : ℕ) → IsFit (line (passes s 0 n) Nil) × (size (line (passes s 0 n) Nil) ≤ n * 6)
  fit-some n = (fit-line (passes s 0 n) Nil (fits-passes 0 n) tt, omega (arith, size-line (passes s 0 n) Nil, length-passes 0 n))

  fit-rounds : 0 < length s.list → length s.list ≤ most_entries → s.trigger.count ≤ most_trigger_count → IsFit (passes_tree s) × (size (passes_tree s) ≤ 6140)
  fit-rounds some most count =
      at (s.trigger.count / length s.list) (div-le_self s.trigger.count (length s.list))
    where
      left : ℕ
      left = s.trigger.count % length s.list

      at : (q : ℕ) → q ≤ s.trigger.count
          → IsFit (cond (eqb q 0) (line (passes s 0 left) Nil) (Times most_arm_layers q (line (passes s 0 (length s.list)) Nil) (line (passes s 0 left) Nil)))
          × (size
          (cond (eqb q 0) (line (passes s 0 left) Nil)
          (Times most_arm_layers q (line (passes s 0 (length s.list)) Nil) (line (passes s 0 left) Nil))) ≤ 6140)
      at zero below =
          let r = fit-some left in
          let small : left < length s.list = mod_below s.trigger.count (length s.list) some in
          (r.0, omega (arith, r.1, small))
      at (suc q) below =
          let e : eqb (suc q) 0 ≡ false = grind (arith, nat_tests) in
          let r = fit-some left in
          let a = fit-some (length s.list) in
          let small : left < length s.list = mod_below s.trigger.count (length s.list) some in
          let body = line (passes s 0 (length s.list)) Nil in
          let rest = line (passes s 0 left) Nil in
          let few : 2 + size body + size rest ≤ 6140 = omega (arith, r.1, a.1, small) in
          let count : suc q ≤ 100000 = omega arith in
          let last : most_arm_layers < most_counters = omega arith in
          let one : 1 ≤ suc q = omega arith in
          subst
          (λ (b : Bool). IsFit (cond b rest (Times most_arm_layers (suc q) body rest))
          × (size (cond b rest (Times most_arm_layers (suc q) body rest)) ≤ 6140)) (sym e)
          (((last, one, count), a.0, r.0), few)

abbrev AreLayers : List NamedLayer → Type 0
AreLayers [] = Unit {0}
AreLayers (arm ∷ arms) = IsLayer most_arm_count arm.1 × AreLayers arms

arms_fit : (s : SettingsSeen) → IsInRange s → (arms : List ArmLayer) → AreLayers (named s arms)
arms_fit s i [] = tt
arms_fit s i (arm ∷ arms) = (i.arms (number_of arm - 1), arms_fit s i arms)

fit-arms : (k : ℕ) (arms : List NamedLayer) (inside : Tree) (n : ℕ) → AreLayers arms → k + length arms ≤ most_counters → IsFit inside → size inside ≤ n
    → IsFit (arms_tree k arms inside) × (size (arms_tree k arms inside) ≤ length arms * 4 + n)
fit-arms k [] inside n a few f h = (f, omega (arith, h))
fit-arms k (arm ∷ arms) inside n a few f h =
    let head = map Awaits (head_of arm.0 arm.1) in
    let r = fit-arms (k + 1) arms inside n a.1 (omega arith) f h in
    let c = a.0.count in
    let most : arm.1.count ≤ 100000 = omega (arith, c.1) in
    let within : k < most_counters = omega arith in (
      ((within, c.0, most), fit-line head (arms_tree (k + 1) arms inside) (fits-head arm.0 arm.1 a.0) r.0, tt),
      omega (arith, size-line head (arms_tree (k + 1) arms inside), r.1, length-head arm.0 arm.1 a.0),
    )

fit-tree : (s : SettingsSeen) → 0 < length s.list → IsInRange s → IsFit (tree_of s) × (size (tree_of s) ≤ most_arm_layers * 4 + 6140)
fit-tree s some i =
    let inner = fit-rounds s i.trigger i.settle some i.list i.trigger.count.1 in
    fit-arms 0 (arms_of s) (passes_tree s) 6140 (arms_fit s i arm_layers) (omega arith) inner.0 inner.1

pub compiled_fits : (s : SettingsSeen) → 0 < length s.list → IsInRange s → IsCode (compiled s)
compiled_fits s some i =
    let t = fit-tree s some i in
    record {
      meter = i.meter;
      length = omega (arith, length-append (flatten (tree_of s) 0) (step.Halt ∷ []), length-flatten (tree_of s) 0, t.1);
      steps = steps-append (flatten (tree_of s) 0) (step.Halt ∷ []) (fit_steps (tree_of s) 0 t.0 (omega (arith, t.1))) (tt, tt);
    }
