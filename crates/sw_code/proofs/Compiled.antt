-- What settings compile to unfolds to their agenda.
use Rattle.std.proofs.Common.{◌≡◌, ℕ, zero, suc, ◌+◌, ◌-◌, ◌*◌, ◌/◌, ◌%◌, ◌<◌, ◌≤◌, Bool, true, false, ◌||◌, cond, eqb, List, [], ◌∷◌, ◌++◌, length, map}
use Rattle.std.proofs.Common.{get_or, refl, sym, ap, ◌∙◌, subst, arith, append_assoc, append-nil, length-append, take, drop}
use Rattle.std.proofs.lemmas.Bool.Decides.{nat_tests}
use Rattle.std.proofs.lemmas.List.{length-map, map-append, take_all}
use Rattle.std.proofs.lemmas.Nat.{div-add-mod'}
use Rattle.std.proofs.Math.Nat.{add-mul-mod_self_right, suc-mul}
use Rattle.sw_base.specs.Limits.{most_arm_layers}
use Rattle.sw_base.specs.declared.terms.LayerName.{LayerName}
use Rattle.sw_base.specs.declared.terms.LayerName.TheVariants.{Arm, Trigger}
use Rattle.sw_channel.specs.Positions.{Position}
use Rattle.sw_code.specs.declared.code.Step.{Step}
use Rattle.sw_code.specs.declared.code.Step.TheVariants as step
use Rattle.sw_trigger.specs.declared.layer.Layer.{Layer}
use Rattle.sw_trigger.specs.Settings.{SettingsSeen, IsInRange, NamedLayer, layer_of, named, arms_of}
use Rattle.sw_base.specs.Layers.{arm_layers, number_of}
use Rattle.sw_base.specs.declared.terms.ArmLayer.{ArmLayer}
use Rattle.sw_trigger.specs.Agenda.{Item, Awaits, repeated, head_of, position_at, pass_of, passes, visit, turns_of, agenda}
use Rattle.sw_code.specs.Code.{Unfolds}
use Rattle.sw_code.specs.Tree.{Tree, Nil, Times, step_of, size, flatten, meaning, IsNested}
use Rattle.sw_code.specs.Compiled.{line, steps_of, passes_tree, arms_tree, tree_of}
use Rattle.sw_trigger.proofs.Awaiting.{agenda_is}
use Rattle.sw_code.proofs.Unfolding.{unfolds}

pub meaning-line : (xs : List Item) (rest : Tree) → meaning (line xs rest) ≡ xs ++ meaning rest
meaning-line [] rest = refl
meaning-line (x ∷ xs) rest = ap (λ (l : List Item). x ∷ l) (meaning-line xs rest)

pub flatten-line : (xs : List Item) (rest : Tree) (pc : ℕ) → flatten (line xs rest) pc ≡ steps_of xs ++ flatten rest (pc + length xs)
flatten-line [] rest pc = let e : pc ≡ pc + 0 = omega arith in ap (flatten rest) e
flatten-line (x ∷ xs) rest pc =
    let e : pc + 1 + length xs ≡ pc + length (x ∷ xs) = omega arith in
    ap (λ (l : List Step). step_of x ∷ l) (flatten-line xs rest (pc + 1) ∙ ap (λ (n : ℕ). steps_of xs ++ flatten rest n) e)

nested-line : (used : ℕ → Bool) (xs : List Item) (rest : Tree) → IsNested used rest → IsNested used (line xs rest)
nested-line used [] rest h = h
nested-line used (x ∷ xs) rest h = nested-line used xs rest h

-- passes, round the list
position_at-round : (list : List Position) (k : ℕ) → position_at list (k + length list) ≡ position_at list k
position_at-round list k =
    let e : k + length list ≡ k + 1 * length list = omega arith in
    ap (λ (i : ℕ). get_or list i []) (ap (λ (i : ℕ). i % length list) e ∙ add-mul-mod_self_right k 1 (length list))

passes-round : (s : SettingsSeen) (k n : ℕ) → passes s (k + length s.list) n ≡ passes s k n
passes-round s k zero = refl
passes-round s k (suc n) =
    let e : suc (k + length s.list) ≡ suc k + length s.list = omega arith in
    ap (λ (c : Position). (map Awaits (head_of Trigger s.trigger) ++ visit s.settle_us c) ++ passes s (suc (k + length s.list)) n) (position_at-round s.list k)
    ∙ ap (λ (i : ℕ). pass_of s k ++ passes s i n) e
    ∙ ap (λ (l : List Item). pass_of s k ++ l) (passes-round s (suc k) n)

pub passes-add : (s : SettingsSeen) (k m n : ℕ) → passes s k (m + n) ≡ passes s k m ++ passes s (k + m) n
passes-add s k zero n =
    let e : 0 + n ≡ n = omega arith in
    let f : k ≡ k + 0 = omega arith in
    ap (passes s k) e ∙ ap (λ (i : ℕ). passes s i n) f
passes-add s k (suc m) n =
    let e : suc m + n ≡ suc (m + n) = omega arith in
    let f : suc k + m ≡ k + suc m = omega arith in
    ap (passes s k) e
    ∙ ap (λ (l : List Item). pass_of s k ++ l) (passes-add s (suc k) m n ∙ ap (λ (i : ℕ). passes s (suc k) m ++ passes s i n) f)
    ∙ sym (append_assoc (pass_of s k) (passes s (suc k) m) (passes s (k + suc m) n))

rounds : (s : SettingsSeen) (q r : ℕ) → passes s 0 (q * length s.list + r) ≡ repeated q (passes s 0 (length s.list)) ++ passes s 0 r
rounds s zero r = let e : 0 * length s.list + r ≡ r = omega arith in ap (passes s 0) e
rounds s (suc q) r =
    let n = length s.list in
    let e : suc q * n + r ≡ n + (q * n + r) = omega (arith, suc-mul q n) in
    ap (passes s 0) e
    ∙ passes-add s 0 n (q * n + r)
    ∙ ap (λ (l : List Item). passes s 0 n ++ l) (passes-round s 0 (q * n + r) ∙ rounds s q r)
    ∙ sym (append_assoc (passes s 0 n) (repeated q (passes s 0 n)) (passes s 0 r))

pub meaning-passes : (s : SettingsSeen) → meaning (passes_tree s) ≡ passes s 0 s.trigger.count
meaning-passes s = at (s.trigger.count / length s.list) (s.trigger.count % length s.list) (div-add-mod' s.trigger.count (length s.list)) where
  left : (r : ℕ) → meaning (line (passes s 0 r) Nil) ≡ passes s 0 r
  left r = meaning-line (passes s 0 r) Nil ∙ append-nil (passes s 0 r)

  at : (q r : ℕ) → q * length s.list + r ≡ s.trigger.count
      → meaning (cond (eqb q 0) (line (passes s 0 r) Nil) (Times most_arm_layers q (line (passes s 0 (length s.list)) Nil) (line (passes s 0 r) Nil)))
      ≡ passes s 0 s.trigger.count
  at zero r e = left r ∙ sym (rounds s 0 r) ∙ ap (passes s 0) e
  at (suc q) r e =
      let f : eqb (suc q) 0 ≡ false = grind (arith, nat_tests) in
      ap (λ b. meaning (cond b (line (passes s 0 r) Nil) (Times most_arm_layers (suc q) (line (passes s 0 (length s.list)) Nil) (line (passes s 0 r) Nil)))) f
      ∙ ap (λ (l : List Item). repeated (suc q) l ++ meaning (line (passes s 0 r) Nil)) (left (length s.list))
      ∙ ap (λ (l : List Item). repeated (suc q) (passes s 0 (length s.list)) ++ l) (left r)
      ∙ sym (rounds s (suc q) r) ∙ ap (passes s 0) e

pub meaning-arms : (k : ℕ) (arms : List NamedLayer) (inside : Tree) → meaning (arms_tree k arms inside) ≡ turns_of arms (meaning inside)
meaning-arms k [] inside = refl
meaning-arms k (arm ∷ arms) inside =
    append-nil (repeated arm.1.count (meaning (line (map Awaits (head_of arm.0 arm.1)) (arms_tree (k + 1) arms inside))))
    ∙ ap (repeated arm.1.count) (meaning-line (map Awaits (head_of arm.0 arm.1)) (arms_tree (k + 1) arms inside)
    ∙ ap (λ (l : List Item). map Awaits (head_of arm.0 arm.1) ++ l) (meaning-arms (k + 1) arms inside))

pub meaning-tree : (s : SettingsSeen) → 0 < length s.list → meaning (tree_of s) ≡ agenda s
meaning-tree s h = meaning-arms 0 (arms_of s) (passes_tree s) ∙ ap (turns_of (arms_of s)) (meaning-passes s) ∙ sym (agenda_is s h)

nested-passes : (s : SettingsSeen) (used : ℕ → Bool) → used most_arm_layers ≡ false → IsNested used (passes_tree s)
nested-passes s used free = at (s.trigger.count / length s.list) where
  at : (q : ℕ) → IsNested used (cond (eqb q 0) (line (passes s 0 (s.trigger.count % length s.list)) Nil)
      (Times most_arm_layers q (line (passes s 0 (length s.list)) Nil) (line (passes s 0 (s.trigger.count % length s.list)) Nil)))
  at zero = nested-line used (passes s 0 (s.trigger.count % length s.list)) Nil tt
  at (suc q) =
      let f : eqb (suc q) 0 ≡ false = grind (arith, nat_tests) in
      subst (λ (b : Bool). IsNested used (cond b (line (passes s 0 (s.trigger.count % length s.list)) Nil)
      (Times most_arm_layers (suc q) (line (passes s 0 (length s.list)) Nil) (line (passes s 0 (s.trigger.count % length s.list)) Nil)))) (sym f) (
        omega arith,
        free,
        nested-line (λ j. eqb j most_arm_layers || used j) (passes s 0 (length s.list)) Nil tt,
        nested-line used (passes s 0 (s.trigger.count % length s.list)) Nil tt,
      )

abbrev pub AreCounted : List NamedLayer → Type 0
AreCounted [] = Unit {0}
AreCounted (arm ∷ arms) = (0 < arm.1.count) × AreCounted arms

pub arms_counted : (s : SettingsSeen) → IsInRange s → (arms : List ArmLayer) → AreCounted (named s arms)
arms_counted s i [] = tt
arms_counted s i (arm ∷ arms) = ((i.arms (number_of arm - 1)).count.0, arms_counted s i arms)

-- the counters from k on are free
abbrev IsFree : (ℕ → Bool) → ℕ → Type 0
IsFree used k = (j : ℕ) → k ≤ j → used j ≡ false

free_more : (used : ℕ → Bool) (k : ℕ) → IsFree used k → IsFree (λ j. eqb j k || used j) (k + 1)
free_more used k f j h = let e : eqb j k ≡ false = grind (arith, nat_tests) in ap (λ b. b || used j) e ∙ f j (omega arith)

nested-arms : (used : ℕ → Bool) (k : ℕ) (arms : List NamedLayer) (inside : Tree) → AreCounted arms → IsFree used k
    → ((used : ℕ → Bool) → IsFree used (k + length arms) → IsNested used inside) → IsNested used (arms_tree k arms inside)
nested-arms used k [] inside c f h = let e : k ≡ k + 0 = omega arith in h used (subst (IsFree used) e f)
nested-arms used k (arm ∷ arms) inside c f h =
    let e : k + 1 + length arms ≡ k + suc (length arms) = omega arith in (
      c.0,
      f k (omega arith),
      nested-line (λ j. eqb j k || used j) (map Awaits (head_of arm.0 arm.1)) (arms_tree (k + 1) arms inside)
          (nested-arms (λ j. eqb j k || used j) (k + 1) arms inside c.1 (free_more used k f) (λ u g. h u (subst (IsFree u) e g))),
      tt,
    )

pub nested-tree : (s : SettingsSeen) → IsInRange s → IsNested (λ k. false) (tree_of s)
nested-tree s i =
    nested-arms (λ k. false) 0 (arms_of s) (passes_tree s) (arms_counted s i arm_layers) (λ j h. refl)
    (λ used f. nested-passes s used (f most_arm_layers (omega arith)))

pub compiled_unfolds : (s : SettingsSeen) → 0 < length s.list → IsInRange s → Unfolds (flatten (tree_of s) 0 ++ step.Halt ∷ []) (agenda s)
compiled_unfolds s h i = subst (λ (l : List Item). Unfolds (flatten (tree_of s) 0
    ++ step.Halt ∷ []) l) (meaning-tree s h) (unfolds (tree_of s) (nested-tree s i))

-- one ARM layer more, as the program writes it
pub arms_more : (k n place : ℕ) (name : LayerName) (l : Layer) (arms : List NamedLayer) (inside : Tree) (before h body after : List Step) → n ≡ length before
    → place ≡ n + 1 → h ≡ steps_of (map Awaits (head_of name l))
    → body ≡ flatten (arms_tree (k + 1) arms inside) (place + length h)
    → after ≡ ((before ++ (step.Set k l.count ∷ h)) ++ body) ++ step.Loop k place ∷ []
    → after ≡ before ++ flatten (arms_tree k ((name, l) ∷ arms) inside) n
arms_more k n place name l arms inside before h body after e p q b a =
    let items = map Awaits (head_of name l) in
    let within : flatten (line items (arms_tree (k + 1) arms inside)) (n + 1) ≡ h ++ body =
    ap (flatten (line items (arms_tree (k + 1) arms inside))) (sym p)
    ∙ flatten-line items (arms_tree (k + 1) arms inside) place
    ∙ ap (λ (m : ℕ). steps_of items ++ flatten (arms_tree (k + 1) arms inside) m)
    (let r : place + length items ≡ place + length h = omega (arith, ap length q, length-map items step_of) in r)
    ∙ ap (λ (x : List Step). steps_of items ++ x) (sym b) ∙ ap (λ (x : List Step). x ++ body) (sym q) in
    let whole : flatten (arms_tree k ((name, l) ∷ arms) inside) n ≡ step.Set k l.count ∷ ((h ++ body) ++ step.Loop k place ∷ []) =
    ap (λ (x : List Step). step.Set k l.count ∷ (x ++ step.Loop k (n + 1) ∷ [])) within
    ∙ ap (λ (m : ℕ). step.Set k l.count ∷ ((h ++ body) ++ step.Loop k m ∷ [])) (sym p) in
    let turned : ((before ++ (step.Set k l.count ∷ h)) ++ body) ++ step.Loop k place ∷ []
    ≡ before ++ (step.Set k l.count ∷ ((h ++ body) ++ step.Loop k place ∷ [])) =
    simp append_assoc in
    a ∙ turned ∙ sym (ap (λ (x : List Step). before ++ x) whole)

pub first_and_rest : {A : Type 0} (l : List A) (d : A) → 1 ≤ length l → l ≡ get_or l 0 d ∷ take (length l - 1) (drop 1 l)
first_and_rest [] d h = absurd (omega arith)
first_and_rest (x ∷ l) d h =
    let n : length (x ∷ l) - 1 ≡ length l = omega arith in
    ap (λ t. x ∷ t) (sym (ap (λ (i : ℕ). take i l) n ∙ take_all (length l) l (omega arith)))

pub arms_step : (s : SettingsSeen) (k place : ℕ) (arms inner : List ArmLayer) (arm : ArmLayer) (before begun inside after : List Step) → arms ≡ arm ∷ inner
    → begun ≡ before ++ (step.Set k (layer_of s (Arm arm)).count ∷ steps_of (map Awaits (head_of (Arm arm) (layer_of s (Arm arm)))))
    → place ≡ length before + 1
    → inside ≡ begun ++ flatten (arms_tree (k + 1) (named s inner) (passes_tree s)) (length begun)
    → after ≡ inside ++ step.Loop k place ∷ []
    → after ≡ before ++ flatten (arms_tree k (named s arms) (passes_tree s)) (length before)
arms_step s k place arms inner arm before begun inside after e f p g h =
    let l = layer_of s (Arm arm) in
    let head = steps_of (map Awaits (head_of (Arm arm) l)) in
    let tree = arms_tree (k + 1) (named s inner) (passes_tree s) in
    let size : length begun ≡ place + length head = ap length f ∙ omega (arith, length-append before (step.Set k l.count ∷ head), p) in
    let whole : after ≡ ((before ++ (step.Set k l.count ∷ head)) ++ flatten tree (length begun)) ++ step.Loop k place ∷ [] =
    h ∙ ap (λ (x : List Step). x ++ step.Loop k place ∷ []) (g ∙ ap (λ (x : List Step). x ++ flatten tree (length begun)) f) in
    arms_more k (length before) place (Arm arm) l (named s inner) (passes_tree s) before head (flatten tree (length begun)) after refl p refl
    (ap (flatten tree) size) whole
    ∙ ap (λ (x : List ArmLayer). before ++ flatten (arms_tree k (named s x) (passes_tree s)) (length before)) (sym e)

-- the passes as the program writes them, with a loop and without
pub looped_is : (s : SettingsSeen) (place : ℕ) (body rest : List Step) → 0 < s.trigger.count / length s.list → body ≡ steps_of (passes s 0 (length s.list))
    → rest ≡ steps_of (passes s 0 (s.trigger.count % length s.list))
    → step.Set most_arm_layers (s.trigger.count / length s.list) ∷ (body ++ (step.Loop most_arm_layers (place + 1) ∷ rest)) ≡ flatten (passes_tree s) place
looped_is s place body rest h e f =
    let n = length s.list in
    let q = s.trigger.count / n in
    let t : eqb q 0 ≡ false = grind (arith, nat_tests) in
    let tail = line (passes s 0 (s.trigger.count % n)) Nil in
    let end : (p : ℕ) → flatten tail p ≡ rest = λ p. flatten-line (passes s 0 (s.trigger.count % n)) Nil p
    ∙ append-nil (steps_of (passes s 0 (s.trigger.count % n))) ∙ sym f in
    let inside : flatten (line (passes s 0 n) Nil) (place + 1) ≡ body = flatten-line (passes s 0 n) Nil (place + 1) ∙ append-nil (steps_of (passes s 0 n))
    ∙ sym e in
    sym (ap (λ b. flatten (cond b tail (Times most_arm_layers q (line (passes s 0 n) Nil) tail)) place) t
    ∙ ap
    (λ (l : List Step). step.Set most_arm_layers q
    ∷ (l ++ (step.Loop most_arm_layers (place + 1) ∷ flatten tail (place + 2 + size (line (passes s 0 n) Nil)))))
    inside
    ∙ ap (λ (l : List Step). step.Set most_arm_layers q ∷ (body ++ (step.Loop most_arm_layers (place + 1) ∷ l)))
    (end (place + 2 + size (line (passes s 0 n) Nil))))

pub plain_is : (s : SettingsSeen) (place : ℕ) (rest : List Step) → s.trigger.count / length s.list ≡ 0
    → rest ≡ steps_of (passes s 0 (s.trigger.count % length s.list))
    → rest ≡ flatten (passes_tree s) place
plain_is s place rest h f =
    let n = length s.list in
    let q = s.trigger.count / n in
    let t : eqb q 0 ≡ true = grind (arith, nat_tests) in
    let tail = line (passes s 0 (s.trigger.count % n)) Nil in
    f ∙ sym (append-nil (steps_of (passes s 0 (s.trigger.count % n)))) ∙ sym (flatten-line (passes s 0 (s.trigger.count % n)) Nil place)
    ∙ sym (ap (λ b. flatten (cond b tail (Times most_arm_layers q (line (passes s 0 n) Nil) tail)) place) t)

-- one more pass
pub steps-passes_more : (s : SettingsSeen) (j : ℕ) → steps_of (passes s 0 (j + 1)) ≡ steps_of (passes s 0 j) ++ steps_of (pass_of s j)
steps-passes_more s j =
    let e : 0 + j ≡ j = omega arith in
    ap steps_of (passes-add s 0 j 1 ∙ ap (λ (i : ℕ). passes s 0 j ++ passes s i 1) e ∙ ap (λ (l : List Item). passes s 0 j ++ l) (append-nil (pass_of s j)))
    ∙ map-append step_of (passes s 0 j) (pass_of s j)

-- appends, one after another
pub four_more : (code x y z w a b d e : List Step) → x ≡ code ++ a → y ≡ x ++ b → z ≡ y ++ d → w ≡ z ++ e → w ≡ code ++ (a ++ (b ++ (d ++ e)))
four_more code x y z w a b d e p q r s =
    s ∙ ap (λ (l : List Step). l ++ e) (r ∙ ap (λ (l : List Step). l ++ d) (q ∙ ap (λ (l : List Step). l ++ b) p)) ∙ simp append_assoc

pub six_more : (x0 x1 x2 x3 x4 x5 x6 a1 a2 a3 a4 a5 a6 : List Step) → x0 ≡ [] → x1 ≡ x0 ++ a1 → x2 ≡ x1 ++ a2 → x3 ≡ x2 ++ a3 → x4 ≡ x3 ++ a4
    → x5 ≡ x4 ++ a5 → x6 ≡ x5 ++ a6 → x6 ≡ a1 ++ (a2 ++ (a3 ++ (a4 ++ (a5 ++ a6))))
six_more x0 x1 x2 x3 x4 x5 x6 a1 a2 a3 a4 a5 a6 e0 e1 e2 e3 e4 e5 e6 =
    e6 ∙ ap (λ (l : List Step). l ++ a6) (four_more x1 x2 x3 x4 x5 a2 a3 a4 a5 e2 e3 e4 e5)
    ∙ ap (λ (l : List Step). (l ++ (a2 ++ (a3 ++ (a4 ++ a5)))) ++ a6) (e1 ∙ ap (λ (l : List Step). l ++ a1) e0) ∙ simp append_assoc
