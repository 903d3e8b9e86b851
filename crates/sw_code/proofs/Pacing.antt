-- Code with its loops seen as such comes from item to item in few steps.
use Rattle.std.proofs.Common.{◌≡◌, ℕ, zero, suc, ◌+◌, ◌-◌, ◌*◌, ◌/◌, ◌%◌, ◌<◌, ◌≤◌, Bool, false, cond, eqb, List, [], ◌∷◌, ◌++◌, length, map, Option}
use Rattle.std.proofs.Common.{Some, None, sym, subst, arith, length-append}
use Rattle.std.specs.List.{slice_get}
use Rattle.std.proofs.lemmas.Bool.Decides.{nat_tests}
use Rattle.std.proofs.lemmas.Nat.{div-add-mod'}
use Rattle.sw_base.specs.Limits.{most_arm_layers, most_counters}
use Rattle.sw_base.specs.declared.terms.LayerName.TheVariants.{Trigger}
use Rattle.sw_trigger.specs.declared.layer.Awaited.TheVariants.{Wait, Period, Pause, Read}
use Rattle.sw_code.specs.declared.code.Step.{Step}
use Rattle.sw_code.specs.declared.code.Step.TheVariants as step
use Rattle.sw_trigger.specs.Settings.{SettingsSeen, IsInRange, NamedLayer, arms_of}
use Rattle.sw_trigger.specs.Agenda.{Item, Awaits, Close, Open, head_of, position_at, pass_of, passes, visit}
use Rattle.sw_code.specs.Tree.{Tree, Nil, Then, Times, step_of, size, flatten}
use Rattle.sw_code.specs.Compiled.{line, passes_tree, arms_tree, tree_of, compiled}
use Rattle.sw_code.specs.Pace.{most_counting, IsNearBy, IsNear, IsNearAfter, IsPaced}
use Rattle.sw_code.proofs.Unfolding.{HasAt, has_front, has_back, has_all, length-flatten}

-- an item is done before the tree is left
abbrev HasItem : Tree → Type 0
HasItem Nil = ⊥
HasItem (Then x rest) = Unit {0}
HasItem (Times k n body rest) = HasItem body

-- loops are at most so deep, and an item is done in each turn
abbrev IsWithin : ℕ → Tree → Type 0
IsWithin d Nil = Unit {0}
IsWithin d (Then x rest) = IsWithin d rest
IsWithin zero (Times k n body rest) = ⊥
IsWithin (suc d) (Times k n body rest) = HasItem body × IsWithin d body × IsWithin (suc d) rest

module _ (code : List Step) where
  by_more : (o : Option Step) (f g : ℕ → Type 0) (pc : ℕ) → ((p : ℕ) → f p → g p) → IsNearBy o f pc → IsNearBy o g pc
  by_more None f g pc up h = tt
  by_more (Some (step.Set k n)) f g pc up h = up (pc + 1) h
  by_more (Some (step.Wait name)) f g pc up h = tt
  by_more (Some (step.Timer name micros)) f g pc up h = tt
  by_more (Some (step.Pause micros)) f g pc up h = tt
  by_more (Some (step.Close c)) f g pc up h = tt
  by_more (Some step.Read) f g pc up h = tt
  by_more (Some (step.Open c)) f g pc up h = tt
  by_more (Some (step.Loop k to)) f g pc up h = (up (pc + 1) h.0, up to h.1)
  by_more (Some step.Halt) f g pc up h = tt

  near_suc : (n pc : ℕ) → IsNear code n pc → IsNear code (suc n) pc
  near_suc zero pc h = by_more (slice_get code pc) (λ p. ⊥) (IsNear code 0) pc (λ p e. absurd e) h
  near_suc (suc n) pc h = by_more (slice_get code pc) (IsNear code n) (IsNear code (suc n)) pc (λ p e. near_suc n p e) h

  near_later : (m n pc : ℕ) → IsNear code n pc → IsNear code (m + n) pc
  near_later zero n pc h = let e : n ≡ 0 + n = omega arith in subst (λ (i : ℕ). IsNear code i pc) e h
  near_later (suc m) n pc h =
      let e : suc (m + n) ≡ suc m + n = omega arith in
      subst (λ (i : ℕ). IsNear code i pc) e (near_suc (m + n) pc (near_later m n pc h))

  near_more : (n m pc : ℕ) → n ≤ m → IsNear code n pc → IsNear code m pc
  near_more n m pc le h = let e : m - n + n ≡ m = omega arith in subst (λ (i : ℕ). IsNear code i pc) e (near_later (m - n) n pc h)

  by_item : (x : Item) (f : ℕ → Type 0) (pc : ℕ) → IsNearBy (Some (step_of x)) f pc
  by_item (Awaits (Wait name)) f pc = tt
  by_item (Awaits (Period name micros)) f pc = tt
  by_item (Awaits (Pause micros)) f pc = tt
  by_item (Awaits Read) f pc = tt
  by_item (Close c) f pc = tt
  by_item (Open c) f pc = tt

  after_item : (x : Item) (n pc : ℕ) → IsNear code n (pc + 1) → IsNearAfter code n pc (step_of x)
  after_item (Awaits (Wait name)) n pc h = h
  after_item (Awaits (Period name micros)) n pc h = h
  after_item (Awaits (Pause micros)) n pc h = h
  after_item (Awaits Read) n pc h = h
  after_item (Close c) n pc h = h
  after_item (Open c) n pc h = h

  item_near : (x : Item) (n pc : ℕ) → slice_get code pc ≡ Some (step_of x) → IsNear code n pc
  item_near x zero pc e = subst (λ (o : Option Step). IsNearBy o (λ p. ⊥) pc) (sym e) (by_item x (λ p. ⊥) pc)
  item_near x (suc n) pc e = subst (λ (o : Option Step). IsNearBy o (IsNear code n) pc) (sym e) (by_item x (IsNear code n) pc)

  set_near : (k v n pc : ℕ) → slice_get code pc ≡ Some (step.Set k v) → IsNear code n (pc + 1) → IsNear code (suc n) pc
  set_near k v n pc e h = subst (λ (o : Option Step). IsNearBy o (IsNear code n) pc) (sym e) h

  loop_near : (k to n pc : ℕ) → slice_get code pc ≡ Some (step.Loop k to) → IsNear code n (pc + 1) → IsNear code n to → IsNear code (suc n) pc
  loop_near k to n pc e h g = subst (λ (o : Option Step). IsNearBy o (IsNear code n) pc) (sym e) (h, g)

  halt_near : (n pc : ℕ) → slice_get code pc ≡ Some step.Halt → IsNear code n pc
  halt_near zero pc e = subst (λ (o : Option Step). IsNearBy o (λ p. ⊥) pc) (sym e) tt
  halt_near (suc n) pc e = subst (λ (o : Option Step). IsNearBy o (IsNear code n) pc) (sym e) tt

  -- into a tree that has an item
  near_item : (t : Tree) (d pc : ℕ) → IsWithin d t → HasItem t → HasAt code pc (flatten t pc) → IsNear code d pc
  near_item Nil d pc w i h = absurd i
  near_item (Then x rest) d pc w i h = item_near x d pc h.0
  near_item (Times k n body rest) zero pc w i h = absurd w
  near_item (Times k n body rest) (suc d) pc w i h =
      set_near k n d pc h.0 (near_item body d (pc + 1) w.1 i (has_front code (pc + 1) (flatten body (pc + 1))
      (step.Loop k (pc + 1) ∷ flatten rest (pc + 2 + size body)) h.1))

  -- into a tree, or past an empty one
  near_from : (t : Tree) (d e pc : ℕ) → IsWithin d t → d ≤ e → HasAt code pc (flatten t pc) → IsNear code e (pc + size t) → IsNear code e pc
  near_from Nil d e pc w le h far = let q : pc + 0 ≡ pc = omega arith in subst (λ (p : ℕ). IsNear code e p) q far
  near_from (Then x rest) d e pc w le h far = item_near x e pc h.0
  near_from (Times k n body rest) zero e pc w le h far = absurd w
  near_from (Times k n body rest) (suc d) e pc w le h far = near_more (suc d) e pc le (near_item (Times k n body rest) (suc d) pc w w.0 h)

  -- after each item of these steps the next is near
  abbrev AllNear : ℕ → ℕ → List Step → Type 0
  AllNear m pc [] = Unit {0}
  AllNear m pc (i ∷ is) = IsNearAfter code m pc i × AllNear m (pc + 1) is

  all-append : (m pc : ℕ) (a b : List Step) → AllNear m pc a → AllNear m (pc + length a) b → AllNear m pc (a ++ b)
  all-append m pc [] b f g = let e : pc + 0 ≡ pc = omega arith in subst (λ (p : ℕ). AllNear m p b) e g
  all-append m pc (i ∷ a) b f g =
      let e : pc + length (i ∷ a) ≡ pc + 1 + length a = omega arith in
      (f.0, all-append m (pc + 1) a b f.1 (subst (λ (p : ℕ). AllNear m p b) e g))

  all_near : (t : Tree) (d e m pc : ℕ) → IsWithin d t → d ≤ e → e + d ≤ m → HasAt code pc (flatten t pc) → IsNear code e (pc + size t)
      → AllNear m pc (flatten t pc)
  all_near Nil d e m pc w le most h far = tt
  all_near (Then x rest) d e m pc w le most h far =
      let q : pc + (1 + size rest) ≡ pc + 1 + size rest = omega arith in
      let far : IsNear code e (pc + 1 + size rest) = subst (λ (p : ℕ). IsNear code e p) q far in
      (after_item x m pc (near_more e m (pc + 1) (omega arith) (near_from rest d e (pc + 1) w le h.1 far)), all_near rest d e m (pc + 1) w le most h.1 far)
  all_near (Times k n body rest) zero e m pc w le most h far = absurd w
  all_near (Times k n body rest) (suc d) e m pc w le most h far =
      let in_body = has_front code (pc + 1) (flatten body (pc + 1)) (step.Loop k (pc + 1) ∷ flatten rest (pc + 2 + size body)) h.1 in
      let len : pc + 1 + length (flatten body (pc + 1)) ≡ pc + 1 + size body = omega (arith, length-flatten body (pc + 1)) in
      let tail = subst (λ (p : ℕ). HasAt code p (step.Loop k (pc + 1) ∷ flatten rest (pc + 2 + size body))) len
      (has_back code (pc + 1) (flatten body (pc + 1)) (step.Loop k (pc + 1) ∷ flatten rest (pc + 2 + size body)) h.1) in
      let after : pc + 1 + size body + 1 ≡ pc + 2 + size body = omega arith in
      let in_rest = subst (λ (p : ℕ). HasAt code p (flatten rest (pc + 2 + size body))) after tail.1 in
      let end : pc + (2 + size body + size rest) ≡ pc + 2 + size body + size rest = omega arith in
      let far : IsNear code e (pc + 2 + size body + size rest) = subst (λ (p : ℕ). IsNear code e p) end far in
      let out : IsNear code e (pc + 1 + size body + 1) =
      subst (λ (p : ℕ). IsNear code e p) (sym after) (near_from rest (suc d) e (pc + 2 + size body) w.2 le in_rest far) in
      let back : IsNear code e (pc + 1) = near_more d e (pc + 1) (omega arith) (near_item body d (pc + 1) w.1 w.0 in_body) in
      let loop : IsNear code (suc e) (pc + 1 + size body) = loop_near k (pc + 1) e (pc + 1 + size body) tail.0 out back in
      let inside : AllNear m (pc + 1) (flatten body (pc + 1)) = all_near body d (suc e) m (pc + 1) w.1 (omega arith) (omega arith) in_body loop in
      let later : AllNear m (pc + 2 + size body) (flatten rest (pc + 2 + size body)) = all_near rest (suc d) e m (pc + 2 + size body) w.2 le most in_rest far in
      let later : AllNear m (pc + 1 + length (flatten body (pc + 1)) + 1) (flatten rest (pc + 2 + size body)) =
      let q : pc + 2 + size body ≡ pc + 1 + length (flatten body (pc + 1)) + 1 = omega (arith, length-flatten body (pc + 1)) in
      subst (λ (p : ℕ). AllNear m p (flatten rest (pc + 2 + size body))) q later in
      (tt, all-append m (pc + 1) (flatten body (pc + 1)) (step.Loop k (pc + 1) ∷ flatten rest (pc + 2 + size body)) inside (tt, later))

  all_at : (m pc k : ℕ) (is : List Step) (i : Step) → AllNear m pc is → slice_get is k ≡ Some i → IsNearAfter code m (pc + k) i
  all_at m pc k [] i h e = absurd (cc)
  all_at m pc zero (x ∷ is) i h e =
      let q : pc ≡ pc + 0 = omega arith in
      let same : x ≡ i = cc in
      subst (λ (p : ℕ). IsNearAfter code m p i) q (subst (IsNearAfter code m pc) same h.0)
  all_at m pc (suc k) (x ∷ is) i h e =
      let q : pc + 1 + k ≡ pc + suc k = omega arith in
      subst (λ (p : ℕ). IsNearAfter code m p i) q (all_at m (pc + 1) k is i h.1 e)

-- code whose loops are at most so deep, and halt
pub paced : (t : Tree) (d : ℕ) → IsWithin d t → IsPaced (flatten t 0 ++ step.Halt ∷ []) (d + d)
paced t d w =
    let code = flatten t 0 ++ step.Halt ∷ [] in
    let has = has_all code [] in
    let front = has_front code 0 (flatten t 0) (step.Halt ∷ []) has in
    let e : 0 + length (flatten t 0) ≡ 0 + size t = omega (arith, length-flatten t 0) in
    let halt = (subst (λ (p : ℕ). HasAt code p (step.Halt ∷ [])) e (has_back code 0 (flatten t 0) (step.Halt ∷ []) has)).0 in
    let far : IsNear code d (0 + size t) = halt_near code d (0 + size t) halt in
    let le : d ≤ d = omega arith in
    let most : d + d ≤ d + d = omega arith in
    let all : AllNear code (d + d) 0 code = all-append code (d + d) 0 (flatten t 0) (step.Halt ∷ []) (all_near code t d d (d + d) 0 w le most front far) (
      tt,
      tt,
    ) in
    record {
      start = near_more code d (d + d) 0 (omega arith) (near_from code t d d 0 w le front far);
      after = λ pc i h.
          let e : 0 + pc ≡ pc = omega arith in
          subst (λ (p : ℕ). IsNearAfter code (d + d) p i) e (all_at code (d + d) 0 pc code i all h);
    }

within-line : (d : ℕ) (xs : List Item) (rest : Tree) → IsWithin d rest → IsWithin d (line xs rest)
within-line d [] rest w = w
within-line d (x ∷ xs) rest w = within-line d xs rest w

item-line : (xs : List Item) (rest : Tree) → HasItem rest → HasItem (line xs rest)
item-line [] rest h = h
item-line (x ∷ xs) rest h = tt

item-some : (xs : List Item) (rest : Tree) → 0 < length xs → HasItem (line xs rest)
item-some [] rest h = absurd (omega arith)
item-some (x ∷ xs) rest h = tt

passes_some : (s : SettingsSeen) (n : ℕ) → 0 < n → 0 < length (passes s 0 n)
passes_some s zero h = absurd (omega arith)
passes_some s (suc n) h =
    omega (arith, length-append (pass_of s 0) (passes s 1 n), length-append (map Awaits (head_of Trigger s.trigger)) (visit s.settle_us (position_at s.list 0)))

passes_within : (s : SettingsSeen) → 0 < length s.list → 0 < s.trigger.count → HasItem (passes_tree s) × IsWithin 1 (passes_tree s)
passes_within s some count = at (s.trigger.count / length s.list) (s.trigger.count % length s.list) (div-add-mod' s.trigger.count (length s.list)) where
  at : (q r : ℕ) → q * length s.list + r ≡ s.trigger.count
      → HasItem (cond (eqb q 0) (line (passes s 0 r) Nil) (Times most_arm_layers q (line (passes s 0 (length s.list)) Nil) (line (passes s 0 r) Nil)))
      × IsWithin 1 (cond (eqb q 0) (line (passes s 0 r) Nil) (Times most_arm_layers q (line (passes s 0 (length s.list)) Nil) (line (passes s 0 r) Nil)))
  at zero r e = (item-some (passes s 0 r) Nil (passes_some s r (omega arith)), within-line 1 (passes s 0 r) Nil tt)
  at (suc q) r e =
      let f : eqb (suc q) 0 ≡ false = grind (arith, nat_tests) in
      let body = line (passes s 0 (length s.list)) Nil in
      let rest = line (passes s 0 r) Nil in
      let item : HasItem body = item-some (passes s 0 (length s.list)) Nil (passes_some s (length s.list) some) in
      subst
      (λ (b : Bool). HasItem (cond b rest (Times most_arm_layers (suc q) body rest)) × IsWithin 1 (cond b rest (Times most_arm_layers (suc q) body rest)))
      (sym f)
      (item, (item, within-line 0 (passes s 0 (length s.list)) Nil tt, within-line 1 (passes s 0 r) Nil tt))

-- each ARM layer is one loop more
arms_item : (k : ℕ) (arms : List NamedLayer) (inside : Tree) → HasItem inside → HasItem (arms_tree k arms inside)
arms_item k [] inside h = h
arms_item k (arm ∷ arms) inside h = item-line (map Awaits (head_of arm.0 arm.1)) (arms_tree (k + 1) arms inside) (arms_item (k + 1) arms inside h)

arms_within : (k d : ℕ) (arms : List NamedLayer) (inside : Tree) → HasItem inside → IsWithin d inside → IsWithin (length arms + d) (arms_tree k arms inside)
arms_within k d [] inside h w = let e : d ≡ 0 + d = omega arith in subst (λ (n : ℕ). IsWithin n inside) e w
arms_within k d (arm ∷ arms) inside h w =
    let e : suc (length arms + d) ≡ suc (length arms) + d = omega arith in
    subst (λ (n : ℕ). IsWithin n (arms_tree k (arm ∷ arms) inside)) e (
      item-line (map Awaits (head_of arm.0 arm.1)) (arms_tree (k + 1) arms inside) (arms_item (k + 1) arms inside h),
      within-line (length arms + d) (map Awaits (head_of arm.0 arm.1)) (arms_tree (k + 1) arms inside) (arms_within (k + 1) d arms inside h w),
      tt,
    )

-- the code of settings
pub compiled_paced : (s : SettingsSeen) → 0 < length s.list → IsInRange s → IsPaced (compiled s).steps most_counting
compiled_paced s some i =
    let inner = passes_within s some i.trigger.count.0 in paced (tree_of s) most_counters (arms_within 0 1 (arms_of s) (passes_tree s) inner.0 inner.1)
