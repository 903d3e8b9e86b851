-- What the verifier's look at each step tells of the whole run.
use Rattle.std.proofs.Common.{◌≡◌, ℕ, zero, suc, ◌+◌, ◌*◌, ◌<◌, ◌≤◌, Bool, true, false, ◌||◌, ◌&&◌, not, cond, eqb, List, [], ◌∷◌, ◌++◌, length, Option, Some}
use Rattle.std.proofs.Common.{None, refl, sym, ap, ◌∙◌, subst, arith, append_assoc, add_assoc}
use Rattle.std.proofs.lemmas.Bool.Decides.{nat_tests}
use Rattle.std.specs.Option.{IfSome}
use Rattle.std.specs.List.{AllByRecursion}
use Rattle.std.proofs.Math.Nat.{mul-add, mul_assoc, suc-mul}
use Rattle.sw_trigger.specs.declared.layer.Awaited.{Awaited}
use Rattle.sw_trigger.specs.declared.layer.Awaited.TheVariants.{Wait, Period, Pause, Read}
use Rattle.sw_code.specs.declared.code.Step.{Step}
use Rattle.sw_code.specs.declared.code.Step.TheVariants as step
use Rattle.sw_verify.specs.declared.refusal.Refusal.TheVariants.{BadNesting, BadJump}
use Rattle.sw_verify.specs.declared.nest.Frame.{Frame}
use Rattle.sw_trigger.specs.Agenda.{Item, Awaits, Close, Open, repeated}
use Rattle.sw_code.specs.Code.{Unfolds}
use Rattle.sw_verify.specs.Channels.{Channels, none, with_channel, without, same_channel, with_each, without_each}
use Rattle.sw_base.specs.Layout.{Channel, Layout}
use Rattle.sw_channel.specs.Positions.{Position}
use Rattle.sw_trigger.specs.Counts.{awaiting, is_reading, reads}
use Rattle.sw_base.specs.Layout.{has_meter}
use Rattle.sw_code.specs.Range.{Program, IsStep, IsProgramInRange}
use Rattle.sw_verify.specs.Judged.{HasCounts, IsVerified}
use Rattle.sw_verify.specs.Sound.{CanCloseEach, CanOpenEach, AllRight, effect, IsSound}
use Rattle.sw_code.specs.Tree.{Tree, Nil, Then, Times, step_of, size, flatten, meaning, IsNested}
use Rattle.sw_verify.specs.Nest.{in_use, at_loop, fault_in, AreCounted, StepsRight, tally, every, is_read}
use Rattle.sw_code.proofs.Unfolding.{unfolds}
use Rattle.sw_verify.specs.Items.{items_of}
use Rattle.sw_verify.proofs.ItemsLemmas.{items_tree}
use Rattle.sw_verify.proofs.Round.{effect-append, same_channel_is}

-- The steps are a tree's, then the end of the innermost open loop, a tree's again, and so on to halt.
abbrev IsJoin : List Step → ℕ → List Frame → Type 0
IsJoin steps pc [] = (t : Tree) × IsNested (in_use []) t × (steps ≡ flatten t pc ++ step.Halt ∷ [])
IsJoin steps pc (f ∷ fs) = (t : Tree) × (rest : List Step) × IsNested (in_use (f ∷ fs)) t × (steps ≡ flatten t pc ++ (step.Loop f.counter f.start ∷ rest))
    × IsJoin rest (pc + size t + 1) fs

-- one more item in front
join_item : (x : Item) (steps : List Step) (pc : ℕ) (fs : List Frame) → IsJoin steps (pc + 1) fs → IsJoin (step_of x ∷ steps) pc fs
join_item x steps pc [] j = (Then x j.0, j.1, ap (λ (l : List Step). step_of x ∷ l) j.2)
join_item x steps pc (f ∷ fs) j =
    let e : pc + 1 + size j.0 + 1 ≡ pc + (1 + size j.0) + 1 = omega arith in
    (Then x j.0, j.1, j.2, ap (λ (l : List Step). step_of x ∷ l) j.3, subst (λ (n : ℕ). IsJoin j.1 n fs) e j.4)

-- a loop in front
join_set : (k n : ℕ) (steps : List Step) (pc : ℕ) (fs : List Frame) → 0 < n → in_use fs k ≡ false
    → IsJoin steps (pc + 1) (record { counter = k; count = n; start = pc + 1 } ∷ fs) → IsJoin (step.Set k n ∷ steps) pc fs
join_set k n steps pc [] p free j =
    let i = j.4 in
    let e : pc + 1 + size j.0 + 1 ≡ pc + 2 + size j.0 = omega arith in (
      Times k n j.0 i.0,
      (p, free, j.2, i.1),
      ap (λ (l : List Step). step.Set k n ∷ l)
          (j.3 ∙ ap (λ (l : List Step). flatten j.0 (pc + 1) ++ (step.Loop k (pc + 1) ∷ l)) (i.2 ∙ ap (λ (m : ℕ). flatten i.0 m ++ step.Halt ∷ []) e)
          ∙ sym (append_assoc (flatten j.0 (pc + 1)) (step.Loop k (pc + 1) ∷ flatten i.0 (pc + 2 + size j.0)) (step.Halt ∷ []))),
    )
join_set k n steps pc (f ∷ fs) p free j =
    let i = j.4 in
    let e : pc + 1 + size j.0 + 1 ≡ pc + 2 + size j.0 = omega arith in
    let g : pc + 1 + size j.0 + 1 + size i.0 + 1 ≡ pc + (2 + size j.0 + size i.0) + 1 = omega arith in (
      Times k n j.0 i.0,
      i.1,
      (p, free, j.2, i.2),
      ap (λ (l : List Step). step.Set k n ∷ l)
          (j.3 ∙ ap (λ (l : List Step). flatten j.0 (pc + 1) ++ (step.Loop k (pc + 1) ∷ l)) (i.3
          ∙ ap (λ (m : ℕ). flatten i.0 m ++ (step.Loop f.counter f.start ∷ i.1)) e)
          ∙ sym (append_assoc (flatten j.0 (pc + 1)) (step.Loop k (pc + 1) ∷ flatten i.0 (pc + 2 + size j.0)) (step.Loop f.counter f.start ∷ i.1))),
      subst (λ (m : ℕ). IsJoin i.1 m fs) g i.4,
    )

chosen : {A : Type 0} (b : Bool) (x : A) (r : Option A) → cond b (Some x) r ≡ None → (b ≡ false) × (r ≡ None)
chosen true x r h = absurd (cc h)
chosen false x r h = (refl, h)

not_false_is : (b : Bool) → not b ≡ false → b ≡ true
not_false_is true h = refl
not_false_is false h = absurd (cc h)

same_number : (a b : ℕ) → eqb a b ≡ true → a ≡ b
same_number a b h = grind (arith, nat_tests)

join_loop : (k to : ℕ) (steps : List Step) (pc : ℕ) (fs : List Frame) → at_loop k to fs (fault_in steps (pc + 1)) ≡ None
    → ((gs : List Frame) → fault_in steps (pc + 1) gs ≡ None → IsJoin steps (pc + 1) gs) → IsJoin (step.Loop k to ∷ steps) pc fs
join_loop k to steps pc [] h up = absurd (cc h)
join_loop k to steps pc (f ∷ fs) h up =
    let a = chosen (not (eqb k f.counter)) BadNesting (cond (not (eqb to f.start)) (Some BadJump) (fault_in steps (pc + 1) fs)) h in
    let b = chosen (not (eqb to f.start)) BadJump (fault_in steps (pc + 1) fs) a.1 in
    let p : k ≡ f.counter = same_number k f.counter (not_false_is (eqb k f.counter) a.0) in
    let q : to ≡ f.start = same_number to f.start (not_false_is (eqb to f.start) b.0) in
    let e : pc + 1 ≡ pc + 0 + 1 = omega arith in
    let same : step.Loop k to ∷ steps ≡ step.Loop f.counter f.start ∷ steps = cc in
    (Nil, steps, tt, same, subst (λ (n : ℕ). IsJoin steps n fs) e (up fs b.1))

-- where no fault is found the steps are those of trees
joined : (steps : List Step) (pc : ℕ) (fs : List Frame) → AreCounted steps → fault_in steps pc fs ≡ None → IsJoin steps pc fs
joined [] pc fs w h = absurd (cc h)
joined (step.Set k n ∷ steps) pc fs w h =
    let a = chosen (in_use fs k) BadNesting (fault_in steps (pc + 1) (record { counter = k; count = n; start = pc + 1 } ∷ fs)) h in
    join_set k n steps pc fs w.0 a.0 (joined steps (pc + 1) (record { counter = k; count = n; start = pc + 1 } ∷ fs) w.1 a.1)
joined (step.Wait name ∷ steps) pc fs w h = join_item (Awaits (Wait name)) steps pc fs (joined steps (pc + 1) fs w h)
joined (step.Timer name micros ∷ steps) pc fs w h = join_item (Awaits (Period name micros)) steps pc fs (joined steps (pc + 1) fs w h)
joined (step.Pause micros ∷ steps) pc fs w h = join_item (Awaits (Pause micros)) steps pc fs (joined steps (pc + 1) fs w h)
joined (step.Close c ∷ steps) pc fs w h = join_item (Close c) steps pc fs (joined steps (pc + 1) fs w h)
joined (step.Read ∷ steps) pc fs w h = join_item (Awaits Read) steps pc fs (joined steps (pc + 1) fs w h)
joined (step.Open c ∷ steps) pc fs w h = join_item (Open c) steps pc fs (joined steps (pc + 1) fs w h)
joined (step.Loop k to ∷ steps) pc fs w h = join_loop k to steps pc fs h (λ gs e. joined steps (pc + 1) gs w e)
joined (step.Halt ∷ []) pc [] w h = (Nil, tt, refl)
joined (step.Halt ∷ []) pc (f ∷ fs) w h = absurd (cc h)
joined (step.Halt ∷ o ∷ steps) pc fs w h = absurd (cc h)

module _ (layout : Layout) where
  right-append : (b m : Channels) (xs ys : List Item) → AllRight layout b m xs → AllRight layout (effect b xs) (effect m xs) ys → AllRight layout b m (xs ++ ys)
  right-append b m [] ys p q = q
  right-append b m (Awaits w ∷ xs) ys p q = right-append b m xs ys p q
  right-append b m (Close c ∷ xs) ys p q = (p.0, right-append (with_each c b) (with_each c m) xs ys p.1 q)
  right-append b m (Open c ∷ xs) ys p q = (p.0, right-append (without_each c b) (without_each c m) xs ys p.1 q)

  effect-repeated : (b : Channels) (xs : List Item) (n : ℕ) → effect b xs ≡ b → effect b (repeated n xs) ≡ b
  effect-repeated b xs zero e = refl
  effect-repeated b xs (suc n) e = effect-append b xs (repeated n xs) ∙ ap (λ (c : Channels). effect c (repeated n xs)) e ∙ effect-repeated b xs n e

  -- a turn that comes back to the closed set that it began with may be made again and again
  right-repeated : (b m : Channels) (xs : List Item) (n : ℕ) → AllRight layout b m xs → effect b xs ≡ b → effect m xs ≡ m → AllRight layout b m (repeated n xs)
  right-repeated b m xs zero p e f = tt
  right-repeated b m xs (suc n) p e f =
      right-append b m xs (repeated n xs) p
      (subst (λ (c : Channels). AllRight layout c (effect m xs) (repeated n xs)) (sym e)
      (subst (λ (c : Channels). AllRight layout b c (repeated n xs)) (sym f) (right-repeated b m xs n p e f)))

  step_right : (x : Item) (steps : List Step) (b m : Channels) (ss : List (Channels × Channels)) → StepsRight layout (step_of x ∷ steps) b m ss
      → AllRight layout b m (x ∷ []) × StepsRight layout steps (effect b (x ∷ [])) (effect m (x ∷ [])) ss
  step_right (Awaits (Wait name)) steps b m ss h = (tt, h)
  step_right (Awaits (Period name micros)) steps b m ss h = (tt, h)
  step_right (Awaits (Pause micros)) steps b m ss h = (tt, h)
  step_right (Awaits Read) steps b m ss h = (tt, h)
  step_right (Close c) steps b m ss h = ((h.0, tt), h.1)
  step_right (Open c) steps b m ss h = ((h.0, tt), h.1)

  -- steps that are right when each is looked at once are right over the whole run
  right_tree : (t : Tree) (pc : ℕ) (tail : List Step) (b m : Channels) (ss : List (Channels × Channels)) → StepsRight layout (flatten t pc ++ tail) b m ss
      → AllRight layout b m (meaning t) × StepsRight layout tail (effect b (meaning t)) (effect m (meaning t)) ss
  right_tree Nil pc tail b m ss h = (tt, h)
  right_tree (Then x rest) pc tail b m ss h =
      let a = step_right x (flatten rest (pc + 1) ++ tail) b m ss h in
      let r = right_tree rest (pc + 1) tail (effect b (x ∷ [])) (effect m (x ∷ [])) ss a.1 in (
        right-append b m (x ∷ []) (meaning rest) a.0 r.0,
        subst (λ (c : Channels). StepsRight layout tail c (effect m (x ∷ meaning rest)) ss) (sym (effect-append b (x ∷ []) (meaning rest)))
            (subst (λ (c : Channels). StepsRight layout tail (effect (effect b (x ∷ [])) (meaning rest)) c ss)
            (sym (effect-append m (x ∷ []) (meaning rest))) r.1),
      )
  right_tree (Times k n body rest) pc tail b m ss h =
      let more = flatten rest (pc + 2 + size body) in
      let xs = meaning body in
      let h' = subst (λ (l : List Step). StepsRight layout l b m ((b, m) ∷ ss)) (append_assoc (flatten body (pc + 1)) (step.Loop k (pc + 1) ∷ more) tail) h in
      let a = right_tree body (pc + 1) (step.Loop k (pc + 1) ∷ (more ++ tail)) b m ((b, m) ∷ ss) h' in
      let e : effect b xs ≡ b = a.1.0 in
      let f : effect m xs ≡ m = a.1.1 in
      let go : StepsRight layout (more ++ tail) b m ss =
      subst (λ (c : Channels). StepsRight layout (more ++ tail) c m ss) e (subst (λ (c : Channels). StepsRight layout (more
      ++ tail) (effect b xs) c ss) f a.1.2) in
      let r = right_tree rest (pc + 2 + size body) tail b m ss go in
      let eb : effect b (repeated n xs) ≡ b = effect-repeated b xs n e in
      let em : effect m (repeated n xs) ≡ m = effect-repeated m xs n f in
      let all_b : effect b (repeated n xs ++ meaning rest) ≡ effect b (meaning rest) = effect-append b (repeated n xs) (meaning rest)
      ∙ ap (λ (c : Channels). effect c (meaning rest)) eb in
      let all_m : effect m (repeated n xs ++ meaning rest) ≡ effect m (meaning rest) = effect-append m (repeated n xs) (meaning rest)
      ∙ ap (λ (c : Channels). effect c (meaning rest)) em in (
        right-append b m (repeated n xs) (meaning rest) (right-repeated b m xs n a.0 e f)
            (subst (λ (c : Channels). AllRight layout c (effect m (repeated n xs)) (meaning rest)) (sym eb) (subst (λ (c : Channels).
            AllRight layout b c (meaning rest)) (sym em) r.0)),
        subst (λ (c : Channels). StepsRight layout tail c (effect m (repeated n xs ++ meaning rest)) ss) (sym all_b)
            (subst (λ (c : Channels). StepsRight layout tail (effect b (meaning rest)) c ss) (sym all_m) r.1),
      )

-- how many of the items count
abbrev pub weigh : (Awaited → Bool) → List Item → ℕ
weigh p [] = 0
weigh p (Awaits x ∷ items) = cond (p x) (suc (weigh p items)) (weigh p items)
weigh p (Close c ∷ items) = weigh p items
weigh p (Open c ∷ items) = weigh p items

weigh-append : (p : Awaited → Bool) (xs ys : List Item) → weigh p (xs ++ ys) ≡ weigh p xs + weigh p ys
weigh-append p [] ys = omega arith
weigh-append p (Awaits x ∷ xs) ys = at (p x) (weigh-append p xs ys) where
  at : (b : Bool) → weigh p (xs ++ ys) ≡ weigh p xs + weigh p ys
      → cond b (suc (weigh p (xs ++ ys))) (weigh p (xs ++ ys)) ≡ cond b (suc (weigh p xs)) (weigh p xs) + weigh p ys
  at true e = omega (arith, e)
  at false e = e
weigh-append p (Close c ∷ xs) ys = weigh-append p xs ys
weigh-append p (Open c ∷ xs) ys = weigh-append p xs ys

weigh-repeated : (p : Awaited → Bool) (n : ℕ) (xs : List Item) → weigh p (repeated n xs) ≡ n * weigh p xs
weigh-repeated p zero xs = omega arith
weigh-repeated p (suc n) xs = omega (arith, weigh-append p xs (repeated n xs), weigh-repeated p n xs, suc-mul n (weigh p xs))

weigh-reads : (xs : List Item) → weigh is_read xs ≡ reads xs
weigh-reads [] = refl
weigh-reads (Awaits (Wait name) ∷ xs) = omega (arith, weigh-reads xs)
weigh-reads (Awaits (Period name micros) ∷ xs) = omega (arith, weigh-reads xs)
weigh-reads (Awaits (Pause micros) ∷ xs) = omega (arith, weigh-reads xs)
weigh-reads (Awaits Read ∷ xs) = omega (arith, weigh-reads xs)
weigh-reads (Close c ∷ xs) = weigh-reads xs
weigh-reads (Open c ∷ xs) = weigh-reads xs

weigh-every : (xs : List Item) → weigh every xs ≡ length (awaiting xs)
weigh-every [] = refl
weigh-every (Awaits x ∷ xs) = omega (arith, weigh-every xs)
weigh-every (Close c ∷ xs) = weigh-every xs
weigh-every (Open c ∷ xs) = weigh-every xs

module _ (p : Awaited → Bool) where
  one_at : (b : Bool) (f t : ℕ) → cond b (f + t) t ≡ f * cond b (suc 0) 0 + t
  one_at true f t = grind arith
  one_at false f t = grind arith

  -- the count of one look at each step is that of the whole run
  tally_one : (x : Item) (steps : List Step) (f : ℕ) (gs : List ℕ) → tally p (step_of x ∷ steps) f gs ≡ f * weigh p (x ∷ []) + tally p steps f gs
  tally_one (Awaits (Wait name)) steps f gs = one_at (p (Wait name)) f (tally p steps f gs)
  tally_one (Awaits (Period name micros)) steps f gs = one_at (p (Period name micros)) f (tally p steps f gs)
  tally_one (Awaits (Pause micros)) steps f gs = one_at (p (Pause micros)) f (tally p steps f gs)
  tally_one (Awaits Read) steps f gs = one_at (p Read) f (tally p steps f gs)
  tally_one (Close c) steps f gs = grind arith
  tally_one (Open c) steps f gs = grind arith

  tally_tree : (t : Tree) (pc : ℕ) (tail : List Step) (f : ℕ) (gs : List ℕ) → tally p (flatten t pc ++ tail) f gs ≡ f * weigh p (meaning t) + tally p tail f gs
  tally_tree Nil pc tail f gs = grind arith
  tally_tree (Then x rest) pc tail f gs =
      tally_one x (flatten rest (pc + 1) ++ tail) f gs
      ∙ ap (λ (n : ℕ). f * weigh p (x ∷ []) + n) (tally_tree rest (pc + 1) tail f gs)
      ∙ sym (add_assoc (f * weigh p (x ∷ [])) (f * weigh p (meaning rest)) (tally p tail f gs))
      ∙ ap (λ (n : ℕ). n + tally p tail f gs) (sym (mul-add f (weigh p (x ∷ [])) (weigh p (meaning rest)))
      ∙ ap (λ (n : ℕ). f * n) (sym (weigh-append p (x ∷ []) (meaning rest))))
  tally_tree (Times k n body rest) pc tail f gs =
      let more = flatten rest (pc + 2 + size body) in
      ap (λ (l : List Step). tally p l (f * n) (f ∷ gs)) (append_assoc (flatten body (pc + 1)) (step.Loop k (pc + 1) ∷ more) tail)
      ∙ tally_tree body (pc + 1) (step.Loop k (pc + 1) ∷ (more ++ tail)) (f * n) (f ∷ gs)
      ∙ ap (λ (i : ℕ). f * n * weigh p (meaning body) + i) (tally_tree rest (pc + 2 + size body) tail f gs)
      ∙ sym (add_assoc (f * n * weigh p (meaning body)) (f * weigh p (meaning rest)) (tally p tail f gs))
      ∙ ap (λ (i : ℕ). i + tally p tail f gs)
      (ap (λ (i : ℕ). i + f * weigh p (meaning rest)) (mul_assoc f n (weigh p (meaning body)) ∙ ap (λ (i : ℕ). f * i) (sym (weigh-repeated p n (meaning body))))
      ∙ sym (mul-add f (weigh p (repeated n (meaning body))) (weigh p (meaning rest)))
      ∙ ap (λ (i : ℕ). f * i) (sym (weigh-append p (repeated n (meaning body)) (meaning rest))))

-- what is closed is what was at the start, and apart from that what the code closed
module _ (layout : Layout) (start : Channels) where
  IsSplit : Channels → Channels → Type 0
  IsSplit b m = (x : Channel) → (b x ≡ (start x || m x)) × (m x ≡ true → start x ≡ false)

  or_turned : (t a c : Bool) → (t || (a || c)) ≡ (a || (t || c))
  or_turned true true c = refl
  or_turned true false c = refl
  or_turned false a c = refl

  and_turned : (t a c : Bool) → (t ≡ true → a ≡ false) → (not t && (a || c)) ≡ (a || (not t && c))
  and_turned true a c h = ap (λ v. v || false) (sym (h refl))
  and_turned false a c h = refl

  and_true : (t c : Bool) → (not t && c) ≡ true → c ≡ true
  and_true true c h = absurd (cc h)
  and_true false c h = h

  or_true : (t c : Bool) (A : Type 0) → (t || c) ≡ true → (t ≡ true → A) → (c ≡ true → A) → A
  or_true true c A h p q = p refl
  or_true false c A h p q = q h

  first_false : (a c : Bool) → (a || c) ≡ false → a ≡ false
  first_false true c h = absurd (cc h)
  first_false false c h = refl

  closed_split : (b m : Channels) (c : Channel) → b c ≡ false → IsSplit b m → IsSplit (with_channel c b) (with_channel c m)
  unfolding IsSplit
  closed_split b m c free s x = (
    ap (λ v. same_channel c x || v) (s x).0 ∙ or_turned (same_channel c x) (start x) (m x),
    λ h. or_true (same_channel c x) (m x) (start x ≡ false) h
        (λ e. ap start (sym (same_channel_is c x e)) ∙ first_false (start c) (m c) (sym (s c).0 ∙ free))
        (λ e. (s x).1 e),
  )

  opened_split : (b m : Channels) (c : Channel) → m c ≡ true → IsSplit b m → IsSplit (without c b) (without c m)
  unfolding IsSplit
  opened_split b m c mine s x = (
    ap (λ v. not (same_channel c x) && v) (s x).0 ∙ and_turned (same_channel c x) (start x) (m x) (λ e. ap start (sym (same_channel_is c x e)) ∙ (s c).1 mine),
    λ h. (s x).1 (and_true (same_channel c x) (m x) h),
  )

  each_closed_split : (b m : Channels) (p : Position) → CanCloseEach layout b p → IsSplit b m → IsSplit (with_each p b) (with_each p m)
  each_closed_split b m [] k s = s
  each_closed_split b m (c ∷ p) k s = each_closed_split (with_channel c b) (with_channel c m) p k.1 (closed_split b m c k.0.was_open s)

  each_opened_split : (b m : Channels) (p : Position) → CanOpenEach m p → IsSplit b m → IsSplit (without_each p b) (without_each p m)
  each_opened_split b m [] k s = s
  each_opened_split b m (c ∷ p) k s = each_opened_split (without c b) (without c m) p k.1 (opened_split b m c k.0 s)

  split_after : (b m : Channels) (xs : List Item) → IsSplit b m → AllRight layout b m xs → IsSplit (effect b xs) (effect m xs)
  split_after b m [] s h = s
  split_after b m (Awaits w ∷ xs) s h = split_after b m xs s h
  split_after b m (Close p ∷ xs) s h = split_after (with_each p b) (with_each p m) xs (each_closed_split b m p h.0 s) h.1
  split_after b m (Open p ∷ xs) s h = split_after (without_each p b) (without_each p m) xs (each_opened_split b m p h.0 s) h.1

  or_none : (a : Bool) → (a || false) ≡ a
  or_none true = refl
  or_none false = refl

  -- where nothing that the items closed is left closed, the closed set is that of the start
  pub back_at_start : (xs : List Item) → AllRight layout start none xs → effect none xs ≡ none → (x : Channel) → effect start xs x ≡ start x
  unfolding IsSplit
  back_at_start xs h e x =
      (split_after start none xs (λ y. (sym (or_none (start y)), λ f. absurd (cc f))) h x).0
      ∙ ap (λ (m : Channels). start x || m x) e ∙ or_none (start x)

-- steps in range have counts of at least 1
pub counted : (steps : List Step) → AllByRecursion IsStep steps → AreCounted steps
counted [] h = tt
counted (step.Set k n ∷ steps) h = let p : 0 < n = omega (arith, h.0.1) in (p, counted steps h.1)
counted (step.Wait name ∷ steps) h = counted steps h.1
counted (step.Timer name micros ∷ steps) h = counted steps h.1
counted (step.Pause micros ∷ steps) h = counted steps h.1
counted (step.Close c ∷ steps) h = counted steps h.1
counted (step.Read ∷ steps) h = counted steps h.1
counted (step.Open c ∷ steps) h = counted steps h.1
counted (step.Loop k to ∷ steps) h = counted steps h.1
counted (step.Halt ∷ steps) h = counted steps h.1

-- steps that pass the looks have an unfolding, which is sound, with the tallied counts
pub verified : (layout : Layout) (b : Channels) (code : List Step) (room : ℕ) → AreCounted code → fault_in code 0 [] ≡ None → StepsRight layout code b none []
    → tally is_read code 1 [] ≤ room → (items : List Item) × Unfolds code items × IsSound layout b room items × (tally is_read code 1 [] ≡ reads items)
    × (tally every code 1 [] ≡ length (awaiting items))
verified layout b code room w h s k =
    let j = joined code 0 [] w h in
    let t = j.0 in
    let xs = meaning t in
    let a = right_tree layout t 0 (step.Halt ∷ []) b none [] (subst (λ (l : List Step). StepsRight layout l b none []) j.2 s) in
    let n : tally is_read code 1 [] ≡ reads xs =
    ap (λ (l : List Step). tally is_read l 1 []) j.2 ∙ tally_tree is_read t 0 (step.Halt ∷ []) 1 [] ∙ omega (arith, weigh-reads xs) in
    let m : tally every code 1 [] ≡ length (awaiting xs) =
    ap (λ (l : List Step). tally every l 1 []) j.2 ∙ tally_tree every t 0 (step.Halt ∷ []) 1 [] ∙ omega (arith, weigh-every xs) in (
      xs,
      subst (λ (l : List Step). Unfolds l xs) (sym j.2) (unfolds t j.1),
      record { right = a.0; fits = omega (arith, n); back = back_at_start layout b xs a.0 a.1 },
      n,
      m,
    )

-- what the looks and counts of a code say
pub judged : (layout : Layout) (b : Channels) (code : Program) (room bound readings : ℕ) → IsProgramInRange code → fault_in code.steps 0 [] ≡ None
    → StepsRight layout code.steps b none [] → has_meter layout code.meter ≡ true → bound ≡ tally every code.steps 1 []
    → readings ≡ tally is_read code.steps 1 [] → readings ≤ room → IsVerified layout b room code (record { code = code; bound = bound; readings = readings })
judged layout b code room bound readings i nested right meter m n most =
    let few : tally is_read code.steps 1 [] ≤ room = subst (λ (x : ℕ). x ≤ room) n most in
    let all = verified layout b code.steps room (counted code.steps i.steps) nested right few in
    record { same = refl; measured = meter; items = all.0; unfolds = all.1; sound = all.2; bound = m ∙ all.4; readings = n ∙ all.3 }

pub has_counts : (layout : Layout) (closed : Channels) (room : ℕ) (code : Program) (bound readings : ℕ)
    → IsVerified layout closed room code (record { code = code; bound = bound; readings = readings })
    → HasCounts (record { code = code; bound = bound; readings = readings })
has_counts layout closed room code bound readings v = record { items = v.items; unfolds = v.unfolds; bound = v.bound; readings = v.readings }

-- code whose loops are nested does its items, and their tally is that of the things awaited among them
pub does_nested : (code : List Step) → AreCounted code → fault_in code 0 [] ≡ None → Unfolds code (items_of code)
    × (tally every code 1 [] ≡ length (awaiting (items_of code))) × (tally is_read code 1 [] ≡ reads (items_of code))
does_nested code w h =
    let j = joined code 0 [] w h in
    let t = j.0 in
    let items : items_of code ≡ meaning t = ap items_of j.2 ∙ items_tree t 0 (step.Halt ∷ []) [] [] in
    let count : tally every code 1 [] ≡ length (awaiting (meaning t)) =
    ap (λ (l : List Step). tally every l 1 []) j.2 ∙ tally_tree every t 0 (step.Halt ∷ []) 1 [] ∙ omega (arith, weigh-every (meaning t)) in
    let read : tally is_read code 1 [] ≡ reads (meaning t) =
    ap (λ (l : List Step). tally is_read l 1 []) j.2 ∙ tally_tree is_read t 0 (step.Halt ∷ []) 1 [] ∙ omega (arith, weigh-reads (meaning t)) in (
      subst (λ (l : List Item). Unfolds code l) (sym items) (subst (λ (l : List Step). Unfolds l (meaning t)) (sym j.2) (unfolds t j.1)),
      count ∙ ap (λ (l : List Item). length (awaiting l)) (sym items),
      read ∙ ap reads (sym items),
    )

-- no more is awaited than is done
pub awaits_some_items : (items : List Item) → length (awaiting items) ≤ length items
awaits_some_items [] = omega arith
awaits_some_items (Awaits w ∷ items) = omega (arith, awaits_some_items items)
awaits_some_items (Close p ∷ items) = omega (arith, awaits_some_items items)
awaits_some_items (Open p ∷ items) = omega (arith, awaits_some_items items)

at_most_one : (w : Awaited) → is_reading w ≤ 1
at_most_one (Wait name) = omega arith
at_most_one (Period name micros) = omega arith
at_most_one (Pause micros) = omega arith
at_most_one Read = omega arith

-- no more is read than is done
pub reads_some_items : (items : List Item) → reads items ≤ length items
reads_some_items [] = omega arith
reads_some_items (Awaits w ∷ items) = omega (arith, at_most_one w, reads_some_items items)
reads_some_items (Close p ∷ items) = omega (arith, reads_some_items items)
reads_some_items (Open p ∷ items) = omega (arith, reads_some_items items)

pub some_value : {T : Type 0} (o : Option T) (x : T) (P : T → Type 0) → o ≡ Some x → IfSome o P → P x
some_value {T = T} o x P e h = subst (λ (p : Option T). IfSome p P) e h
