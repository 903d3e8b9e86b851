-- What settings compile to passes the verifier's looks, where their agenda is sound.
use Rattle.std.proofs.Common.{◌≡◌, ℕ, zero, suc, ◌+◌, ◌*◌, ◌/◌, ◌%◌, ◌<◌, ◌≤◌, Bool, true, false, not, ◌||◌, cond, eqb, List, [], ◌∷◌, ◌++◌, length, map}
use Rattle.std.proofs.Common.{Option}
use Rattle.std.proofs.Common.{Some, None, refl, sym, ap, ◌∙◌, subst, arith, append_assoc, append-nil}
use Rattle.std.proofs.lemmas.Bool.{both_ways, false_from_ne_true}
use Rattle.std.proofs.lemmas.Bool.Decides.{nat_tests}
use Rattle.std.proofs.lemmas.Nat.{div-add-mod'}
use Rattle.std.proofs.Math.Nat.{suc-mul}
use Rattle.sw_base.specs.Layout.{Channel, Layout}
use Rattle.sw_trigger.specs.declared.layer.Awaited.{Awaited}
use Rattle.sw_trigger.specs.declared.layer.Awaited.TheVariants.{Wait, Period, Pause, Read}
use Rattle.sw_trigger.specs.Settings.{SettingsSeen, IsInRange, NamedLayer, arms_of}
use Rattle.sw_base.specs.Layers.{arm_layers}
use Rattle.sw_base.specs.Limits.{most_arm_layers}
use Rattle.sw_trigger.specs.Agenda.{Item, Awaits, Close, Open, repeated, head_of, position_at, passes, agenda}
use Rattle.sw_code.specs.declared.code.Step.{Step}
use Rattle.sw_code.specs.declared.code.Step.TheVariants as step
use Rattle.sw_code.specs.Tree.{Tree, Nil, Then, Times, step_of, size, flatten, meaning, IsNested}
use Rattle.sw_code.specs.Compiled.{line, passes_tree, arms_tree, tree_of, compiled}
use Rattle.sw_code.proofs.Compiled.{meaning-line, meaning-passes, meaning-tree, nested-tree, AreCounted, arms_counted}
use Rattle.sw_verify.specs.declared.refusal.Refusal.{Refusal}
use Rattle.sw_verify.specs.declared.refusal.Refusal.TheVariants.{BadNesting, BadJump}
use Rattle.sw_verify.specs.declared.nest.Frame.{Frame}
use Rattle.sw_verify.specs.Channels.{Channels, none, same_channel, with_channel, with_each, without_each}
use Rattle.sw_verify.specs.Sound.{AllRight, effect, CanCloseEach, IsSound}
use Rattle.sw_channel.specs.Positions.{Position}
use Rattle.sw_verify.specs.Nest.{in_use, at_loop, fault_in, StepsRight}
use Rattle.sw_verify.proofs.Round.{anyone, effect-append, round-passes, round-agenda, sound_exactly}

fault_item : (x : Item) (steps : List Step) (pc : ℕ) (fs : List Frame) → fault_in (step_of x ∷ steps) pc fs ≡ fault_in steps (pc + 1) fs
fault_item (Awaits (Wait name)) steps pc fs = refl
fault_item (Awaits (Period name micros)) steps pc fs = refl
fault_item (Awaits (Pause micros)) steps pc fs = refl
fault_item (Awaits Read) steps pc fs = refl
fault_item (Close c) steps pc fs = refl
fault_item (Open c) steps pc fs = refl

same_self : (a : ℕ) → eqb a a ≡ true
same_self a = grind (arith, nat_tests)

loop_ends : (k to : ℕ) (f : Frame) (fs : List Frame) (go : List Frame → Option Refusal) → f.counter ≡ k → f.start ≡ to → at_loop k to (f ∷ fs) go ≡ go fs
loop_ends k to f fs go p q =
    let a : not (eqb k f.counter) ≡ false = ap (λ n. not (eqb k n)) p ∙ ap not (same_self k) in
    let b : not (eqb to f.start) ≡ false = ap (λ n. not (eqb to n)) q ∙ ap not (same_self to) in
    ap (λ v. cond v (Some BadNesting) (cond (not (eqb to f.start)) (Some BadJump) (go fs))) a ∙ ap (λ v. cond v (Some BadJump) (go fs)) b

fault_tree : (t : Tree) (pc : ℕ) (tail : List Step) (fs : List Frame) → IsNested (in_use fs) t
    → fault_in (flatten t pc ++ tail) pc fs ≡ fault_in tail (pc + size t) fs
fault_tree Nil pc tail fs w = let e : pc ≡ pc + 0 = omega arith in ap (λ (n : ℕ). fault_in tail n fs) e
fault_tree (Then x rest) pc tail fs w =
    let e : pc + 1 + size rest ≡ pc + (1 + size rest) = omega arith in
    fault_item x (flatten rest (pc + 1) ++ tail) pc fs ∙ fault_tree rest (pc + 1) tail fs w ∙ ap (λ (n : ℕ). fault_in tail n fs) e
fault_tree (Times k n body rest) pc tail fs w =
    let frame : Frame = record { counter = k; count = n; start = pc + 1 } in
    let more = flatten rest (pc + 2 + size body) in
    let e : pc + 1 + size body + 1 ≡ pc + 2 + size body = omega arith in
    let g : pc + 2 + size body + size rest ≡ pc + (2 + size body + size rest) = omega arith in
    ap (λ v. cond v (Some BadNesting) (fault_in ((flatten body (pc + 1) ++ (step.Loop k (pc + 1) ∷ more)) ++ tail) (pc + 1) (frame ∷ fs))) w.1
    ∙ ap (λ (l : List Step). fault_in l (pc + 1) (frame ∷ fs)) (append_assoc (flatten body (pc + 1)) (step.Loop k (pc + 1) ∷ more) tail)
    ∙ fault_tree body (pc + 1) (step.Loop k (pc + 1) ∷ (more ++ tail)) (frame ∷ fs) w.2
    ∙ loop_ends k (pc + 1) frame fs (fault_in (more ++ tail) (pc + 1 + size body + 1)) refl refl
    ∙ ap (λ (i : ℕ). fault_in (more ++ tail) i fs) e
    ∙ fault_tree rest (pc + 2 + size body) tail fs w.3
    ∙ ap (λ (i : ℕ). fault_in tail i fs) g

-- nested code has no fault
pub no_fault : (t : Tree) → IsNested (λ k. false) t → fault_in (flatten t 0 ++ step.Halt ∷ []) 0 [] ≡ None
no_fault t w = fault_tree t 0 (step.Halt ∷ []) [] w

module _ (layout : Layout) where
  -- each loop's body leaves the closed sets as it found them
  abbrev pub IsLevel : Channels → Channels → Tree → Type 0
  IsLevel b m Nil = Unit {0}
  IsLevel b m (Then x rest) = IsLevel (effect b (x ∷ [])) (effect m (x ∷ [])) rest
  IsLevel b m (Times k n body rest) = (0 < n) × IsLevel b m body × (effect b (meaning body) ≡ b) × (effect m (meaning body) ≡ m) × IsLevel b m rest

  right_front : (b m : Channels) (xs ys : List Item) → AllRight layout b m (xs ++ ys) → AllRight layout b m xs × AllRight layout (effect b xs) (effect m xs) ys
  right_front b m [] ys h = (tt, h)
  right_front b m (Awaits w ∷ xs) ys h = right_front b m xs ys h
  right_front b m (Close c ∷ xs) ys h = let r = right_front (with_each c b) (with_each c m) xs ys h.1 in ((h.0, r.0), r.1)
  right_front b m (Open c ∷ xs) ys h = let r = right_front (without_each c b) (without_each c m) xs ys h.1 in ((h.0, r.0), r.1)

  item_steps : (x : Item) (steps : List Step) (b m : Channels) (ss : List (Channels × Channels)) → AllRight layout b m (x ∷ [])
      → StepsRight layout steps (effect b (x ∷ [])) (effect m (x ∷ [])) ss → StepsRight layout (step_of x ∷ steps) b m ss
  item_steps (Awaits (Wait name)) steps b m ss p h = h
  item_steps (Awaits (Period name micros)) steps b m ss p h = h
  item_steps (Awaits (Pause micros)) steps b m ss p h = h
  item_steps (Awaits Read) steps b m ss p h = h
  item_steps (Close c) steps b m ss p h = (p.0, h)
  item_steps (Open c) steps b m ss p h = (p.0, h)

  effect-turns : (b : Channels) (xs : List Item) (n : ℕ) → effect b xs ≡ b → effect b (repeated n xs) ≡ b
  effect-turns b xs zero e = refl
  effect-turns b xs (suc n) e = effect-append b xs (repeated n xs) ∙ ap (λ (c : Channels). effect c (repeated n xs)) e ∙ effect-turns b xs n e

  first_turn : (b m : Channels) (xs : List Item) (n : ℕ) → 0 < n → AllRight layout b m (repeated n xs) → AllRight layout b m xs
  first_turn b m xs zero p h = absurd (omega arith)
  first_turn b m xs (suc n) p h = (right_front b m xs (repeated n xs) h).0

  -- what is right over the whole run is right at each step
  pub steps_tree : (t : Tree) (pc : ℕ) (tail : List Step) (b m : Channels) (ss : List (Channels × Channels)) → IsLevel b m t → AllRight layout b m (meaning t)
      → StepsRight layout tail (effect b (meaning t)) (effect m (meaning t)) ss → StepsRight layout (flatten t pc ++ tail) b m ss
  steps_tree Nil pc tail b m ss v h r = r
  steps_tree (Then x rest) pc tail b m ss v h r =
      let a = right_front b m (x ∷ []) (meaning rest) h in
      let r' = subst (λ (c : Channels). StepsRight layout tail c (effect (effect m (x ∷ [])) (meaning rest)) ss) (effect-append b (x ∷ []) (meaning rest))
      (subst (λ (c : Channels). StepsRight layout tail (effect b (x ∷ meaning rest)) c ss) (effect-append m (x ∷ []) (meaning rest)) r) in
      item_steps x (flatten rest (pc + 1) ++ tail) b m ss a.0 (steps_tree rest (pc + 1) tail (effect b (x ∷ [])) (effect m (x ∷ [])) ss v a.1 r')
  steps_tree (Times k n body rest) pc tail b m ss v h r =
      let xs = meaning body in
      let ys = meaning rest in
      let more = flatten rest (pc + 2 + size body) in
      let a = right_front b m (repeated n xs) ys h in
      let eb : effect b (repeated n xs) ≡ b = effect-turns b xs n v.2 in
      let em : effect m (repeated n xs) ≡ m = effect-turns m xs n v.3 in
      let rest_right : AllRight layout b m ys =
      subst (λ (c : Channels). AllRight layout c m ys) eb (subst (λ (c : Channels). AllRight layout (effect b (repeated n xs)) c ys) em a.1) in
      let all_b : effect b (repeated n xs ++ ys) ≡ effect b ys = effect-append b (repeated n xs) ys ∙ ap (λ (c : Channels). effect c ys) eb in
      let all_m : effect m (repeated n xs ++ ys) ≡ effect m ys = effect-append m (repeated n xs) ys ∙ ap (λ (c : Channels). effect c ys) em in
      let tail_right : StepsRight layout tail (effect b ys) (effect m ys) ss =
      subst (λ (c : Channels). StepsRight layout tail c (effect m ys) ss) all_b (subst (λ (c : Channels).
      StepsRight layout tail (effect b (repeated n xs ++ ys)) c ss) all_m r) in
      let rest_steps = steps_tree rest (pc + 2 + size body) tail b m ss v.4 rest_right tail_right in
      let after : StepsRight layout (more ++ tail) (effect b xs) (effect m xs) ss =
      subst (λ (c : Channels). StepsRight layout (more ++ tail) c (effect m xs) ss) (sym v.2) (subst (λ (c : Channels). StepsRight layout (more
      ++ tail) b c ss) (sym v.3) rest_steps) in
      let body_steps = steps_tree body (pc + 1) (step.Loop k (pc + 1) ∷ (more ++ tail)) b m ((b, m) ∷ ss) v.1 (first_turn b m xs n v.0 a.0) (v.2, v.3, after) in
      subst (λ (l : List Step). StepsRight layout l b m ((
        b,
        m,
      ) ∷ ss)) (sym (append_assoc (flatten body (pc + 1)) (step.Loop k (pc + 1) ∷ more) tail)) body_steps

  -- items in a row have no loop
  level-line : (b m : Channels) (xs : List Item) → IsLevel b m (line xs Nil)
  level-line b m [] = tt
  level-line b m (x ∷ xs) = level-line (effect b (x ∷ [])) (effect m (x ∷ [])) xs

  level-awaits : (b m : Channels) (ws : List Awaited) (rest : Tree) → IsLevel b m rest → IsLevel b m (line (map Awaits ws) rest)
  level-awaits b m [] rest h = h
  level-awaits b m (w ∷ ws) rest h = level-awaits b m ws rest h

  -- what is inside comes back to the closed sets, and so do the turns round it
  level-arms : (b m : Channels) (k : ℕ) (arms : List NamedLayer) (inside : Tree) → AreCounted arms → IsLevel b m inside → effect b (meaning inside) ≡ b
      → effect m (meaning inside) ≡ m
      → IsLevel b m (arms_tree k arms inside) × (effect b (meaning (arms_tree k arms inside)) ≡ b) × (effect m (meaning (arms_tree k arms inside)) ≡ m)
  level-arms b m k [] inside c level eb em = (level, eb, em)
  level-arms b m k (arm ∷ arms) inside c level eb em =
      let r = level-arms b m (k + 1) arms inside c.1 level eb em in
      let body = line (map Awaits (head_of arm.0 arm.1)) (arms_tree (k + 1) arms inside) in
      let tb : effect b (meaning body) ≡ b = turn b (head_of arm.0 arm.1) (arms_tree (k + 1) arms inside) r.1 in
      let tm : effect m (meaning body) ≡ m = turn m (head_of arm.0 arm.1) (arms_tree (k + 1) arms inside) r.2 in (
        (c.0, level-awaits b m (head_of arm.0 arm.1) (arms_tree (k + 1) arms inside) r.0, tb, tm, tt),
        whole b arm.1.count (meaning body) tb,
        whole m arm.1.count (meaning body) tm,
      )
    where
      turn : (b : Channels) (ws : List Awaited) (rest : Tree) → effect b (meaning rest) ≡ b → effect b (meaning (line (map Awaits ws) rest)) ≡ b
      turn b [] rest e = e
      turn b (w ∷ ws) rest e = turn b ws rest e

      whole : (b : Channels) (n : ℕ) (xs : List Item) → effect b xs ≡ b → effect b (repeated n xs ++ []) ≡ b
      whole b n xs e = ap (effect b) (append-nil (repeated n xs)) ∙ effect-turns b xs n e

  or_keeps : (t a b : Bool) → (a ≡ true → b ≡ true) → (t || a) ≡ true → (t || b) ≡ true
  or_keeps true a b f h = refl
  or_keeps false a b f h = f h

  can_among_fewer : (b few : Channels) (p : Position) → ((x : Channel) → few x ≡ true → b x ≡ true) → CanCloseEach layout b p → CanCloseEach layout few p
  can_among_fewer b few [] f k = tt
  can_among_fewer b few (c ∷ p) f k = (
    record {
      present = k.0.present;
      was_open = false_from_ne_true (few c) (λ e. both_ways (b c) k.0.was_open (f c e));
      apart = λ x e. k.0.apart x (f x e);
    },
    can_among_fewer (with_channel c b) (with_channel c few) p (λ x e. or_keeps (same_channel c x) (few x) (b x) (f x) e) k.1,
  )

  can_from_none : (b : Channels) (p : Position) → CanCloseEach layout b p → CanCloseEach layout none p
  can_from_none b p k = can_among_fewer b none p (λ x h. absurd (cc h)) k

module _ (layout : Layout) (b : Channels) (s : SettingsSeen) (range : IsInRange s) (can : (j : ℕ) → j < s.trigger.count
    → CanCloseEach layout b (position_at s.list j)) where
  free : (j : ℕ) → j < s.trigger.count → CanCloseEach layout none (position_at s.list j)
  free j h = can_from_none layout b (position_at s.list j) (can j h)

  level-passes : IsLevel layout b none (passes_tree s)
  level-passes = at (s.trigger.count / length s.list) (div-add-mod' s.trigger.count (length s.list)) where
    left : ℕ
    left = s.trigger.count % length s.list

    at : (q : ℕ) → q * length s.list + left ≡ s.trigger.count
        → IsLevel layout b none
        (cond (eqb q 0) (line (passes s 0 left) Nil) (Times most_arm_layers q (line (passes s 0 (length s.list)) Nil) (line (passes s 0 left) Nil)))
    at zero e = level-line layout b none (passes s 0 left)
    at (suc q) e =
        let n = length s.list in
        let f : eqb (suc q) 0 ≡ false = grind (arith, nat_tests) in
        let more : suc q * n ≡ q * n + n = suc-mul q n in
        let below : n ≤ s.trigger.count = omega (arith, e, more) in
        let body = line (passes s 0 n) Nil in
        let is : meaning body ≡ passes s 0 n = meaning-line (passes s 0 n) Nil ∙ append-nil (passes s 0 n) in
        let eb : effect b (meaning body) ≡ b = ap (effect b) is ∙ (round-passes layout b anyone s (λ k. tt) 0 n).keeps (λ j h g. can j (omega arith)) in
        let em : effect none (meaning body) ≡ none = ap (effect none) is
        ∙ (round-passes layout none anyone s (λ k. tt) 0 n).keeps (λ j h g. free j (omega arith)) in
        let some : 0 < suc q = omega arith in
        subst (λ (v : Bool). IsLevel layout b none (cond v (line (passes s 0 left) Nil) (Times most_arm_layers (suc q) body (line (passes s 0 left) Nil))))
        (sym f)
        (some, level-line layout b none (passes s 0 n), eb, em, level-line layout b none (passes s 0 left))

  level-tree : IsLevel layout b none (tree_of s)
  level-tree =
      let all = meaning-passes s in
      (level-arms layout b none 0 (arms_of s) (passes_tree s) (arms_counted s range arm_layers) level-passes
      (ap (effect b) all ∙ (round-passes layout b anyone s (λ k. tt) 0 s.trigger.count).keeps (λ j h g. can j (omega arith)))
      (ap (effect none) all ∙ (round-passes layout none anyone s (λ k. tt) 0 s.trigger.count).keeps (λ j h g. free j (omega arith)))).0

-- the code of settings whose agenda is sound has no fault, and each of its steps is right
pub compiled_nested : (s : SettingsSeen) → IsInRange s → fault_in (compiled s).steps 0 [] ≡ None
compiled_nested s range = no_fault (tree_of s) (nested-tree s range)

pub compiled_right : (layout : Layout) (b : Channels) (s : SettingsSeen) (room : ℕ) → 0 < length s.list → IsInRange s → IsSound layout b room (agenda s)
    → StepsRight layout (compiled s).steps b none []
compiled_right layout b s room listed range sound =
    let can = ((sound_exactly layout b anyone s (λ k. tt) room listed range).0 sound).0 in
    let is = meaning-tree s listed in
    let right : AllRight layout b none (meaning (tree_of s)) = subst (AllRight layout b none) (sym is) sound.right in
    let n1 : effect none (meaning (tree_of s)) ≡ none = ap (effect none) is ∙ clear in
    steps_tree layout (tree_of s) 0 (step.Halt ∷ []) b none [] (level-tree layout b s range can) right n1
  where
    clear : effect none (agenda s) ≡ none
    clear = (round-agenda layout none anyone s (λ k. tt) listed range).keeps (λ j h g.
        can_from_none layout b (position_at s.list j) (((sound_exactly layout b anyone s (λ k. tt) room listed range).0 sound).0 j (omega arith)))
