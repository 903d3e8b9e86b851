-- What a run of nested code passes.
use Rattle.std.proofs.Common.{◌≡◌, ℕ, zero, suc, ◌+◌, ◌-◌, ◌<◌, Bool, true, false, ◌||◌, cond, eqb, List, [], ◌∷◌, ◌++◌, length, Option, Some, None, refl}
use Rattle.std.proofs.Common.{sym, ap, ◌∙◌, subst, arith, append_assoc, append-nil, length-append}
use Rattle.std.specs.List.{slice_get}
use Rattle.std.proofs.Math.Seq.{get_or-append_seam}
use Rattle.std.proofs.lemmas.Option.{slice_get-get_or, same_Some}
use Rattle.std.proofs.lemmas.Bool.Decides.{nat_tests}
use Rattle.sw_trigger.specs.declared.layer.Awaited.TheVariants.{Wait, Period, Pause, Read}
use Rattle.sw_code.specs.declared.code.Step.{Step}
use Rattle.sw_code.specs.declared.code.Step.TheVariants as step
use Rattle.sw_trigger.specs.Agenda.{Item, Awaits, Close, Open, repeated}
use Rattle.sw_code.specs.Code.{Counters, put, Next, passing, act, exec, Unfolds}
use Rattle.sw_code.specs.Tree.{Tree, Nil, Then, Times, step_of, size, flatten, meaning, IsNested}

-- the steps stand in the code at this place
abbrev pub HasAt : List Step → ℕ → List Step → Type 0
HasAt code pc [] = Unit {0}
HasAt code pc (i ∷ is) = (slice_get code pc ≡ Some i) × HasAt code (pc + 1) is

pub has_front : (code : List Step) (pc : ℕ) (a b : List Step) → HasAt code pc (a ++ b) → HasAt code pc a
has_front code pc [] b h = tt
has_front code pc (i ∷ a) b h = (h.0, has_front code (pc + 1) a b h.1)

pub has_back : (code : List Step) (pc : ℕ) (a b : List Step) → HasAt code pc (a ++ b) → HasAt code (pc + length a) b
has_back code pc [] b h = let e : pc ≡ pc + 0 = omega arith in subst (λ n. HasAt code n b) e h
has_back code pc (i ∷ a) b h =
    let e : pc + 1 + length a ≡ pc + length (i ∷ a) = omega arith in
    subst (λ n. HasAt code n b) e (has_back code (pc + 1) a b h.1)

pub has_all : (is pre : List Step) → HasAt (pre ++ is) (length pre) is
has_all [] pre = tt
has_all (i ∷ is) pre =
    let within : length pre < length (pre ++ i ∷ is) = omega (arith, length-append pre (i ∷ is)) in
    let here = slice_get-get_or (pre ++ i ∷ is) (length pre) i within ∙ ap Some (get_or-append_seam pre i is i) in
    let n : length (pre ++ i ∷ []) ≡ length pre + 1 = omega (arith, length-append pre (i ∷ [])) in
    let rest = has_all is (pre ++ i ∷ []) in
    let rest' = subst (λ l. HasAt l (length (pre ++ i ∷ [])) is) (append_assoc pre (i ∷ []) is) rest in
    (here, subst (λ m. HasAt (pre ++ i ∷ is) m is) n rest')

pub length-flatten : (t : Tree) (pc : ℕ) → length (flatten t pc) ≡ size t
length-flatten Nil pc = refl
length-flatten (Then x rest) pc = omega (arith, length-flatten rest (pc + 1))
length-flatten (Times k n body rest) pc =
    omega (
      arith,
      length-append (flatten body (pc + 1)) (step.Loop k (pc + 1) ∷ flatten rest (pc + 2 + size body)),
      length-flatten body (pc + 1),
      length-flatten rest (pc + 2 + size body),
    )

-- from one state a run passes these items and comes to another
pub record Passes (code : List Step) (pc : ℕ) (cs : Counters) (xs : List Item) (pc' : ℕ) (cs' : Counters) : Type 0 where
  pub by : (k : ℕ) (rest : List Item) → exec code k pc' cs' ≡ Some rest → (j : ℕ) × (exec code j pc cs ≡ Some (xs ++ rest))

-- the counters that are in use keep their values
abbrev pub Keeps : (ℕ → Bool) → Counters → Counters → Type 0
Keeps used cs cs' = (j : ℕ) → used j ≡ true → cs' j ≡ cs j

put_same : (k v : ℕ) (cs : Counters) → put k v cs k ≡ v
put_same k v cs = grind (arith, nat_tests)

put_other : (j k v : ℕ) (cs : Counters) (used : ℕ → Bool) → used j ≡ true → used k ≡ false → put k v cs j ≡ cs j
put_other j k v cs used h g = at (eqb j k) refl where
  at : (b : Bool) → eqb j k ≡ b → cond b v (cs j) ≡ cs j
  at true e = let same : j ≡ k = grind (arith, nat_tests) in absurd (cc (h, g, ap used same))
  at false e = refl

in_use_self : (k : ℕ) (used : ℕ → Bool) → (eqb k k || used k) ≡ true
in_use_self k used = let e : eqb k k ≡ true = grind (arith, nat_tests) in ap (λ b. b || used k) e

or_more : (a b : Bool) → b ≡ true → (a || b) ≡ true
or_more true b h = refl
or_more false b h = h

in_use_more : (j k : ℕ) (used : ℕ → Bool) → used j ≡ true → (eqb j k || used j) ≡ true
in_use_more j k used h = or_more (eqb j k) (used j) h

module _ (code : List Step) where
  nowhere : (pc : ℕ) (cs : Counters) → Passes code pc cs [] pc cs
  nowhere pc cs = record { by = λ k rest h. (k, h) }

  then_passes : (p0 p1 p2 : ℕ) (c0 c1 c2 : Counters) (xs ys : List Item) → Passes code p0 c0 xs p1 c1 → Passes code p1 c1 ys p2 c2
      → Passes code p0 c0 (xs ++ ys) p2 c2
  then_passes p0 p1 p2 c0 c1 c2 xs ys a b = record {
    by = λ k rest h.
        let v = b.by k rest h in
        let u = a.by v.0 (ys ++ rest) v.1 in
        (u.0, u.1 ∙ ap Some (sym (append_assoc xs ys rest)));
  }

  -- one step
  one : (pc : ℕ) (cs : Counters) (i : Step) → slice_get code pc ≡ Some i → (k : ℕ) → exec code (suc k) pc cs ≡ act (Some i) (exec code k) pc cs
  one pc cs i h k = ap (λ o. act o (exec code k) pc cs) h

  act_item : (x : Item) (next : Next) (pc : ℕ) (cs : Counters) → act (Some (step_of x)) next pc cs ≡ passing x (next (pc + 1) cs)
  act_item (Awaits (Wait name)) next pc cs = refl
  act_item (Awaits (Period name micros)) next pc cs = refl
  act_item (Awaits (Pause micros)) next pc cs = refl
  act_item (Awaits Read) next pc cs = refl
  act_item (Close c) next pc cs = refl
  act_item (Open c) next pc cs = refl

  item_passes : (pc : ℕ) (cs : Counters) (x : Item) → slice_get code pc ≡ Some (step_of x) → Passes code pc cs (x ∷ []) (pc + 1) cs
  item_passes pc cs x h = record { by = λ k rest e. (suc k, one pc cs (step_of x) h k ∙ act_item x (exec code k) pc cs ∙ ap (passing x) e) }

  set_passes : (pc k n : ℕ) (cs : Counters) → slice_get code pc ≡ Some (step.Set k n) → Passes code pc cs [] (pc + 1) (put k n cs)
  set_passes pc k n cs h = record { by = λ j rest e. (suc j, one pc cs (step.Set k n) h j ∙ e) }

  last_turn : (pc k to : ℕ) (cs : Counters) → slice_get code pc ≡ Some (step.Loop k to) → cs k ≡ 1 → Passes code pc cs [] (pc + 1) (put k 0 cs)
  last_turn pc k to cs h g = record {
    by = λ j rest e.
        let t : eqb (cs k - 1) 0 ≡ true = grind (arith, nat_tests) in
        (suc j, one pc cs (step.Loop k to) h j ∙ ap (λ b. cond b (exec code j (pc + 1) (put k 0 cs)) (exec code j to (put k (cs k - 1) cs))) t ∙ e);
  }

  turn_back : (pc k to m : ℕ) (cs : Counters) → slice_get code pc ≡ Some (step.Loop k to) → cs k ≡ suc (suc m) → Passes code pc cs [] to (put k (suc m) cs)
  turn_back pc k to m cs h g = record {
    by = λ j rest e.
        let t : eqb (cs k - 1) 0 ≡ false = grind (arith, nat_tests) in
        let v : cs k - 1 ≡ suc m = omega arith in (
          suc j,
          one pc cs (step.Loop k to) h j ∙ ap (λ b. cond b (exec code j (pc + 1) (put k 0 cs)) (exec code j to (put k (cs k - 1) cs))) t
              ∙ ap (λ w. exec code j to (put k w cs)) v ∙ e,
        );
  }

  -- a loop's turns, given what one turn of its body does
  turns : (used : ℕ → Bool) (k b e : ℕ) (xs : List Item) → used k ≡ false → slice_get code e ≡ Some (step.Loop k b)
      → ((cs : Counters) → (cs' : Counters) × Keeps (λ j. eqb j k || used j) cs cs' × Passes code b cs xs e cs') → (m : ℕ) (cs : Counters) → cs k ≡ suc m
      → (cs' : Counters) × Keeps used cs cs' × Passes code b cs (repeated (suc m) xs) (e + 1) cs'
  turns used k b e xs free at body zero cs h =
      let r = body cs in
      let v : r.0 k ≡ 1 = r.1 k (in_use_self k used) ∙ h in (
        put k 0 r.0,
        λ j u. put_other j k 0 r.0 used u free ∙ r.1 j (in_use_more j k used u),
        then_passes b e (e + 1) cs r.0 (put k 0 r.0) xs [] r.2 (last_turn e k b r.0 at v),
      )
  turns used k b e xs free at body (suc m) cs h =
      let r = body cs in
      let v : r.0 k ≡ suc (suc m) = r.1 k (in_use_self k used) ∙ h in
      let again = turns used k b e xs free at body m (put k (suc m) r.0) (put_same k (suc m) r.0) in (
        again.0,
        λ j u. again.1 j u ∙ put_other j k (suc m) r.0 used u free ∙ r.1 j (in_use_more j k used u),
        then_passes b e (e + 1) cs r.0 again.0 xs (repeated (suc m) xs) r.2
            (then_passes e b (e + 1) r.0 (put k (suc m) r.0) again.0 [] (repeated (suc m) xs) (turn_back e k b m r.0 at v) again.2),
      )

  -- nested code passes what it means, and keeps the counters of the loops round it
  pub passes_meaning : (t : Tree) (used : ℕ → Bool) (pc : ℕ) (cs : Counters) → IsNested used t → HasAt code pc (flatten t pc) → (cs' : Counters)
      × Keeps used cs cs' × Passes code pc cs (meaning t) (pc + size t) cs'
  passes_meaning Nil used pc cs w h =
      let e : pc ≡ pc + 0 = omega arith in
      (cs, λ j u. refl, subst (λ (p : ℕ). Passes code pc cs [] p cs) e (nowhere pc cs))
  passes_meaning (Then x rest) used pc cs w h =
      let r = passes_meaning rest used (pc + 1) cs w h.1 in
      let e : pc + 1 + size rest ≡ pc + (1 + size rest) = omega arith in (
        r.0,
        r.1,
        subst (λ (p : ℕ). Passes code pc cs (x ∷ meaning rest) p r.0) e
            (then_passes pc (pc + 1) (pc + 1 + size rest) cs cs r.0 (x ∷ []) (meaning rest) (item_passes pc cs x h.0) r.2),
      )
  passes_meaning (Times k n body rest) used pc cs w h =
      let in_body = has_front code (pc + 1) (flatten body (pc + 1)) (step.Loop k (pc + 1) ∷ flatten rest (pc + 2 + size body)) h.1 in
      let len : pc + 1 + length (flatten body (pc + 1)) ≡ pc + 1 + size body = omega (arith, length-flatten body (pc + 1)) in
      let tail = subst (λ (p : ℕ). HasAt code p (step.Loop k (pc + 1) ∷ flatten rest (pc + 2 + size body))) len
      (has_back code (pc + 1) (flatten body (pc + 1)) (step.Loop k (pc + 1) ∷ flatten rest (pc + 2 + size body)) h.1) in
      let after : pc + 1 + size body + 1 ≡ pc + 2 + size body = omega arith in
      let in_rest = subst (λ (p : ℕ). HasAt code p (flatten rest (pc + 2 + size body))) after tail.1 in
      let start = put k n cs in
      let count : start k ≡ suc (n - 1) = let p : 0 < n = w.0 in omega (arith, put_same k n cs) in
      let loop = turns used k (pc + 1) (pc + 1 + size body) (meaning body) w.1 tail.0
      (λ c. passes_meaning body (λ j. eqb j k || used j) (pc + 1) c w.2 in_body) (n - 1) start count in
      let n_is : suc (n - 1) ≡ n = let p : 0 < n = w.0 in omega arith in
      let turned : Passes code (pc + 1) start (repeated n (meaning body)) (pc + 2 + size body) loop.0 =
      subst (λ (p : ℕ). Passes code (pc + 1) start (repeated n (meaning body)) p loop.0) after
      (subst (λ (i : ℕ). Passes code (pc + 1) start (repeated i (meaning body)) (pc + 1 + size body + 1) loop.0) n_is loop.2) in
      let r = passes_meaning rest used (pc + 2 + size body) loop.0 w.3 in_rest in
      let end : pc + 2 + size body + size rest ≡ pc + (2 + size body + size rest) = omega arith in (
        r.0,
        λ j u. r.1 j u ∙ loop.1 j u ∙ put_other j k n cs used u w.1,
        subst (λ (p : ℕ). Passes code pc cs (repeated n (meaning body) ++ meaning rest) p r.0) end
            (then_passes pc (pc + 1) (pc + 2 + size body + size rest) cs start r.0 [] (repeated n (meaning body) ++ meaning rest) (set_passes pc k n cs h.0)
            (then_passes (pc + 1) (pc + 2 + size body) (pc + 2 + size body + size rest) start loop.0 r.0 (repeated n (meaning body)) (meaning rest) turned
            r.2)),
      )

-- nested code and halt unfold to what they mean
pub unfolds : (t : Tree) → IsNested (λ k. false) t → Unfolds (flatten t 0 ++ step.Halt ∷ []) (meaning t)
unfolds t w =
    let code = flatten t 0 ++ step.Halt ∷ [] in
    let has = has_all code [] in
    let r = passes_meaning code t (λ k. false) 0 (λ k. 0) w (has_front code 0 (flatten t 0) (step.Halt ∷ []) has) in
    let e : 0 + length (flatten t 0) ≡ 0 + size t = omega (arith, length-flatten t 0) in
    let halt = (subst (λ (p : ℕ). HasAt code p (step.Halt ∷ [])) e (has_back code 0 (flatten t 0) (step.Halt ∷ []) has)).0 in
    let last : exec code 1 (0 + size t) r.0 ≡ Some [] = one code (0 + size t) r.0 step.Halt halt 0 in
    let all = r.2.by 1 [] last in
    record { steps = all.0; run = all.1 ∙ ap Some (append-nil (meaning t)) }

-- a run that halted does the same with more steps
passing_some : (x : Item) (o p : Option (List Item)) (l : List Item) → passing x o ≡ Some l → ((m : List Item) → o ≡ Some m → p ≡ Some m) → passing x p ≡ Some l
passing_some x None p l h f = absurd (cc h)
passing_some x (Some m) p l h f = ap (passing x) (f m refl) ∙ h

act_more : (o : Option Step) (f g : Next) (pc : ℕ) (cs : Counters) (l : List Item) → ((p : ℕ) (c : Counters) (m : List Item) → f p c ≡ Some m → g p c ≡ Some m)
    → act o f pc cs ≡ Some l → act o g pc cs ≡ Some l
act_more None f g pc cs l up h = h
act_more (Some (step.Set k n)) f g pc cs l up h = up (pc + 1) (put k n cs) l h
act_more (Some (step.Wait name)) f g pc cs l up h = passing_some (Awaits (Wait name)) (f (pc + 1) cs) (g (pc + 1) cs) l h (λ m e. up (pc + 1) cs m e)
act_more (Some (step.Timer name micros)) f g pc cs l up h = passing_some (Awaits (Period name micros)) (f (pc + 1) cs) (g (pc + 1) cs) l h
    (λ m e. up (pc + 1) cs m e)
act_more (Some (step.Pause micros)) f g pc cs l up h = passing_some (Awaits (Pause micros)) (f (pc + 1) cs) (g (pc + 1) cs) l h (λ m e. up (pc + 1) cs m e)
act_more (Some (step.Close c)) f g pc cs l up h = passing_some (Close c) (f (pc + 1) cs) (g (pc + 1) cs) l h (λ m e. up (pc + 1) cs m e)
act_more (Some step.Read) f g pc cs l up h = passing_some (Awaits Read) (f (pc + 1) cs) (g (pc + 1) cs) l h (λ m e. up (pc + 1) cs m e)
act_more (Some (step.Open c)) f g pc cs l up h = passing_some (Open c) (f (pc + 1) cs) (g (pc + 1) cs) l h (λ m e. up (pc + 1) cs m e)
act_more (Some (step.Loop k to)) f g pc cs l up h =
    either (eqb (cs k - 1) 0) (f (pc + 1) (put k 0 cs)) (f to (put k (cs k - 1) cs)) (g (pc + 1) (put k 0 cs)) (g to (put k (cs k - 1) cs))
    (up (pc + 1) (put k 0 cs) l) (up to (put k (cs k - 1) cs) l) h where
      either : (b : Bool) (x y u v : Option (List Item)) → (x ≡ Some l → u ≡ Some l) → (y ≡ Some l → v ≡ Some l) → cond b x y ≡ Some l → cond b u v ≡ Some l
      either true x y u v p q e = p e
      either false x y u v p q e = q e
act_more (Some step.Halt) f g pc cs l up h = h

exec_more : (code : List Step) (n : ℕ) (pc : ℕ) (cs : Counters) (l : List Item) → exec code n pc cs ≡ Some l → exec code (suc n) pc cs ≡ Some l
exec_more code zero pc cs l h = absurd (cc h)
exec_more code (suc n) pc cs l h = act_more (slice_get code pc) (exec code n) (exec code (suc n)) pc cs l (λ p c m e. exec_more code n p c m e) h

exec_later : (code : List Step) (m n : ℕ) (pc : ℕ) (cs : Counters) (l : List Item) → exec code n pc cs ≡ Some l → exec code (m + n) pc cs ≡ Some l
exec_later code zero n pc cs l h = let e : n ≡ 0 + n = omega arith in subst (λ (i : ℕ). exec code i pc cs ≡ Some l) e h
exec_later code (suc m) n pc cs l h =
    let e : suc (m + n) ≡ suc m + n = omega arith in
    subst (λ (i : ℕ). exec code i pc cs ≡ Some l) e (exec_more code (m + n) pc cs l (exec_later code m n pc cs l h))

-- a code has one unfolding at most
pub unfolds_once : (code : List Step) (a b : List Item) → Unfolds code a → Unfolds code b → a ≡ b
unfolds_once code a b u v =
    let start : Counters = λ k. 0 in
    let x = exec_later code v.steps u.steps 0 start a u.run in
    let y = exec_later code u.steps v.steps 0 start b v.run in
    let e : v.steps + u.steps ≡ u.steps + v.steps = omega arith in
    let z = subst (λ (i : ℕ). exec code i 0 start ≡ Some a) e x in
    same_Some a b (sym z ∙ y)
