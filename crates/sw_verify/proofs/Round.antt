-- Items that leave the closed set as they found it.
use Rattle.std.proofs.Common.{◌≡◌, ℕ, zero, suc, ◌+◌, ◌<◌, ◌≤◌, Bool, true, false, ◌&&◌, ◌||◌, not, List, [], ◌∷◌, ◌++◌, length, map, take, refl, sym, ap, ◌∙◌}
use Rattle.std.proofs.Common.{subst, ⊎_elim, inl, inr, arith, append_assoc, append-nil, ◌↔◌, ◌⊎◌}
use mathlib.Core.Path.{fun_ext}
use Rattle.std.proofs.lemmas.Bool.{cases_eq, or_cases, or_left, or_right, and_from}
use Rattle.sw_base.specs.Layout.{Channel, Layout}
use Rattle.sw_channel.specs.Positions.{Position}
use Rattle.sw_trigger.specs.declared.layer.Awaited.{Awaited}
use Rattle.sw_base.specs.declared.terms.LayerName.TheVariants.{Trigger}
use Rattle.sw_trigger.specs.Settings.{SettingsSeen, IsInRange, NamedLayer, arms_of}
use Rattle.sw_base.specs.Layers.{arm_layers}
use Rattle.sw_trigger.specs.declared.layer.Awaited.TheVariants.{Read}
use Rattle.sw_trigger.specs.Agenda.{Item, Awaits, Close, Open, repeated, visit, head_of, pause_of, position_at, pass_of, passes, turns_of, agenda}
use Rattle.sw_trigger.specs.Counts.{reads}
use Rattle.sw_trigger.proofs.Awaiting.{agenda_is}
use Rattle.sw_trigger.proofs.Same.{channel_decides}
use Rattle.sw_verify.specs.Channels.{same_channel, Channels, none, is_among, with_channel, without, with_each, without_each}
use Rattle.sw_verify.specs.Sound.{CanCloseEach, CanOpenEach, AllRight, effect, IsSound}
use Rattle.sw_code.proofs.Compiled.{AreCounted, arms_counted}
use Rattle.sw_verify.specs.Moments.{AtMostOneMore}

pub same_channel_is : (a b : Channel) → same_channel a b ≡ true → a ≡ b
same_channel_is a b h = (channel_decides a b).0 h

pub same_channel_self : (a : Channel) → same_channel a a ≡ true
same_channel_self a = (channel_decides a a).1 refl

same_bools : (a b : Bool) → (a ≡ true → b ≡ true) → (b ≡ true → a ≡ true) → a ≡ b
same_bools true b f g = sym (f refl)
same_bools false true f g = g refl
same_bools false false f g = refl

-- closing and opening a channel that was open changes nothing
undone_at : (t v : Bool) → (t ≡ true → v ≡ false) → (not t && (t || v)) ≡ v
undone_at true v h = sym (h refl)
undone_at false v h = refl

swapped_one : (a b : Channel) → same_channel a b ≡ true → same_channel b a ≡ true
swapped_one a b e = ap (λ (x : Channel). same_channel x a) (sym (same_channel_is a b e)) ∙ same_channel_self a

pub same_swap : (a b : Channel) → same_channel a b ≡ same_channel b a
same_swap a b = same_bools (same_channel a b) (same_channel b a) (swapped_one a b) (swapped_one b a)

-- what is closed with a position, and without it
or_moved : (t u a : Bool) → (t || (u || a)) ≡ ((u || t) || a)
or_moved true true a = refl
or_moved true false a = refl
or_moved false true a = refl
or_moved false false a = refl

and_moved : (t u a : Bool) → (not t && (not u && a)) ≡ (not (u || t) && a)
and_moved true true a = refl
and_moved true false a = refl
and_moved false true a = refl
and_moved false false a = refl

pub with_each_is : (p : Position) (b : Channels) (x : Channel) → with_each p b x ≡ (is_among p x || b x)
with_each_is [] b x = refl
with_each_is (c ∷ p) b x =
    with_each_is p (with_channel c b) x ∙ ap (λ (t : Bool). is_among p x || (t || b x)) (same_swap c x) ∙ or_moved (is_among p x) (same_channel x c) (b x)

pub without_each_is : (p : Position) (b : Channels) (x : Channel) → without_each p b x ≡ (not (is_among p x) && b x)
without_each_is [] b x = refl
without_each_is (c ∷ p) b x =
    without_each_is p (without c b) x ∙ ap (λ (t : Bool). not (is_among p x) && (not t && b x)) (same_swap c x)
    ∙ and_moved (is_among p x) (same_channel x c) (b x)

pub undone : (p : Position) (b : Channels) → ((x : Channel) → is_among p x ≡ true → b x ≡ false) → without_each p (with_each p b) ≡ b
undone p b h = fun_ext (λ x. without_each_is p (with_each p b) x ∙ ap (λ (t : Bool). not (is_among p x) && t) (with_each_is p b x)
    ∙ undone_at (is_among p x) (b x) (h x))

or_none : (a b : Bool) → (a || b) ≡ false → (a ≡ false) × (b ≡ false)
or_none true b h = absurd (cc h)
or_none false b h = (refl, h)

-- the channels of a position that can be closed are open, and all of them can be opened again
pub each_open : (layout : Layout) (b : Channels) (p : Position) → CanCloseEach layout b p → (x : Channel) → is_among p x ≡ true → b x ≡ false
each_open layout b [] k x e = absurd (cc e)
each_open layout b (c ∷ p) k x e =
    ⊎_elim (λ (s : same_channel x c ≡ true). ap b (same_channel_is x c s) ∙ k.0.was_open)
    (λ (s : is_among p x ≡ true). (or_none (same_channel c x) (b x) (each_open layout (with_channel c b) p k.1 x s)).1)
    (or_cases (same_channel x c) (is_among p x) e)

pub each_opens : (layout : Layout) (b m : Channels) (p : Position) → CanCloseEach layout b p → ((x : Channel) → is_among p x ≡ true → m x ≡ true)
    → CanOpenEach m p
each_opens layout b m [] k h = tt
each_opens layout b m (c ∷ p) k h = (
  h c (or_left (same_channel c c) (is_among p c) (same_channel_self c)),
  each_opens layout (with_channel c b) (without c m) p k.1 (λ x e.
      and_from (not (same_channel c x)) (m x) (ap not (or_none (same_channel c x) (b x) (each_open layout (with_channel c b) p k.1 x e)).0)
      (h x (or_right (same_channel x c) (is_among p x) e))),
)

pub each_among : (p : Position) (b : Channels) (x : Channel) → is_among p x ≡ true → with_each p b x ≡ true
each_among p b x e = with_each_is p b x ∙ or_left (is_among p x) (b x) e

-- the items may be done from b exactly where P holds, whatever comes after them, and then leave b
pub record IsRound (layout : Layout) (b : Channels) (Of : Position → Type 0) (P : Type 0) (items : List Item) : Type 0 where
  pub needs : (rest : List Item) → AllRight layout b none (items ++ rest) → P × AllRight layout b none rest
  pub may : (rest : List Item) → P → AllRight layout b none rest → AllRight layout b none (items ++ rest)
  pub keeps : P → effect b items ≡ b
  pub moments : P → (i : ℕ) → AtMostOneMore Of b (effect b (take i items))

pub effect-append : (b : Channels) (xs ys : List Item) → effect b (xs ++ ys) ≡ effect (effect b xs) ys
effect-append b [] ys = refl
effect-append b (Awaits w ∷ xs) ys = effect-append b xs ys
effect-append b (Close p ∷ xs) ys = effect-append (with_each p b) xs ys
effect-append b (Open p ∷ xs) ys = effect-append (without_each p b) xs ys

-- the first i items of two lists in a row
split_take : (xs ys : List Item) (i : ℕ) → (take i (xs ++ ys) ≡ take i xs) ⊎ ((j : ℕ) × (take i (xs ++ ys) ≡ xs ++ take j ys))
split_take [] ys i = inr (i, refl)
split_take (x ∷ xs) ys zero = inl refl
split_take (x ∷ xs) ys (suc i) =
    ⊎_elim (λ (e : take i (xs ++ ys) ≡ take i xs). inl (ap (λ l. x ∷ l) e))
    (λ (e : (j : ℕ) × (take i (xs ++ ys) ≡ xs ++ take j ys)). inr (e.0, ap (λ l. x ∷ l) e.1))
    (split_take xs ys i)

-- the same channels are at most one more
same_is_near : (Of : Position → Type 0) (before now : Channels) → now ≡ before → AtMostOneMore Of before now
same_is_near Of before now e = inl (λ x. ap (λ (m : Channels). m x) e)

moments_awaits : (b : Channels) (ws : List Awaited) (i : ℕ) → effect b (take i (map Awaits ws)) ≡ b
moments_awaits b [] zero = refl
moments_awaits b [] (suc i) = refl
moments_awaits b (w ∷ ws) zero = refl
moments_awaits b (w ∷ ws) (suc i) = moments_awaits b ws i

effect-awaits : (b : Channels) (ws : List Awaited) (xs : List Item) → effect b (map Awaits ws ++ xs) ≡ effect b xs
effect-awaits b [] xs = refl
effect-awaits b (w ∷ ws) xs = effect-awaits b ws xs

-- a position that is closed, awaited, read and opened
moments_closed : (Of : Position → Type 0) (b : Channels) (ws : List Awaited) (c : Position) → Of c → ((x : Channel) → is_among c x ≡ true → b x ≡ false)
    → (i : ℕ) → AtMostOneMore Of b (effect (with_each c b) (take i (map Awaits ws ++ Awaits Read ∷ Open c ∷ [])))
moments_closed Of b [] c of h zero = inr (c, of, λ x. refl)
moments_closed Of b [] c of h (suc zero) = inr (c, of, λ x. refl)
moments_closed Of b [] c of h (suc (suc zero)) = same_is_near Of b (without_each c (with_each c b)) (undone c b h)
moments_closed Of b [] c of h (suc (suc (suc i))) = same_is_near Of b (without_each c (with_each c b)) (undone c b h)
moments_closed Of b (w ∷ ws) c of h zero = inr (c, of, λ x. refl)
moments_closed Of b (w ∷ ws) c of h (suc i) = moments_closed Of b ws c of h i

moments_visit : (Of : Position → Type 0) (b : Channels) (settle : ℕ) (c : Position) → Of c → ((x : Channel) → is_among c x ≡ true → b x ≡ false) → (i : ℕ)
    → AtMostOneMore Of b (effect b (take i (visit settle c)))
moments_visit Of b settle c of h zero = inl (λ x. refl)
moments_visit Of b settle c of h (suc i) = moments_closed Of b (pause_of settle) c of h i

-- any position
abbrev pub anyone : Position → Type 0
anyone p = Unit {0}

module _ (layout : Layout) (b : Channels) (Of : Position → Type 0) where
  pub round-none : IsRound layout b Of (Unit {0}) []
  round-none = record {
    needs = λ rest h. (tt, h);
    may = λ rest p h. h;
    keeps = λ p. refl;
    moments = λ p i. same_is_near Of b (effect b (take i [])) (moments_awaits b [] i);
  }

  pub round-awaits : (ws : List Awaited) → IsRound layout b Of (Unit {0}) (map Awaits ws)
  round-awaits [] = round-none
  round-awaits (w ∷ ws) = let r = round-awaits ws in record {
    needs = λ rest h. r.needs rest h;
    may = λ rest p h. r.may rest p h;
    keeps = λ p. r.keeps p;
    moments = λ p i. same_is_near Of b (effect b (take i (map Awaits (w ∷ ws)))) (moments_awaits b (w ∷ ws) i);
  }

  -- what is awaited is always right
  past_awaits : (m o : Channels) (ws : List Awaited) (xs : List Item) → AllRight layout m o (map Awaits ws ++ xs) → AllRight layout m o xs
  past_awaits m o [] xs h = h
  past_awaits m o (w ∷ ws) xs h = past_awaits m o ws xs h

  before_awaits : (m o : Channels) (ws : List Awaited) (xs : List Item) → AllRight layout m o xs → AllRight layout m o (map Awaits ws ++ xs)
  before_awaits m o [] xs h = h
  before_awaits m o (w ∷ ws) xs h = before_awaits m o ws xs h

  pub round-visit : (settle : ℕ) (c : Position) → Of c → IsRound layout b Of (CanCloseEach layout b c) (visit settle c)
  round-visit settle c of =
      let clear : without_each c (with_each c none) ≡ none = undone c none (λ x e. refl) in
      let ws = pause_of settle in
      let end : List Item = Awaits Read ∷ Open c ∷ [] in
      let apart : (rest : List Item) → (map Awaits ws ++ end) ++ rest ≡ map Awaits ws ++ (end ++ rest) = λ rest. append_assoc (map Awaits ws) end rest in
      record {
        needs = λ rest h.
            let opened = past_awaits (with_each c b) (with_each c none) ws (end ++ rest)
            (subst (λ (l : List Item). AllRight layout (with_each c b) (with_each c none) l) (apart rest) h.1) in (
              h.0,
              subst (λ (m : Channels). AllRight layout m none rest) (undone c b (each_open layout b c h.0)) (subst (λ (m : Channels).
                  AllRight layout (without_each c (with_each c b)) m rest) clear opened.1),
            );
        may = λ rest p h. (
          p,
          subst (λ (l : List Item). AllRight layout (with_each c b) (with_each c none) l) (sym (apart rest))
              (before_awaits (with_each c b) (with_each c none) ws (end ++ rest) (
                each_opens layout b (with_each c none) c p (each_among c none),
                subst (λ (m : Channels). AllRight layout (without_each c (with_each c b)) m rest) (sym clear) (subst (λ (m : Channels).
                    AllRight layout m none rest) (sym (undone c b (each_open layout b c p))) h),
              )),
        );
        keeps = λ p. effect-awaits (with_each c b) ws end ∙ undone c b (each_open layout b c p);
        moments = λ p i. moments_visit Of b settle c of (each_open layout b c p) i;
      }

  pub round-append : (xs ys : List Item) {P Q : Type 0} → IsRound layout b Of P xs → IsRound layout b Of Q ys → IsRound layout b Of (P × Q) (xs ++ ys)
  round-append xs ys r q = record {
    needs = λ rest h.
        let at = r.needs (ys ++ rest) (subst (λ (l : List Item). AllRight layout b none l) (append_assoc xs ys rest) h) in
        let after = q.needs rest at.1 in
        ((at.0, after.0), after.1);
    may = λ rest p h. subst (λ (l : List Item). AllRight layout b none l) (sym (append_assoc xs ys rest)) (r.may (ys ++ rest) p.0 (q.may rest p.1 h));
    keeps = λ p. effect-append b xs ys ∙ ap (λ (m : Channels). effect m ys) (r.keeps p.0) ∙ q.keeps p.1;
    moments = λ p i.
        ⊎_elim
        (λ (e : take i (xs ++ ys) ≡ take i xs). subst (λ (l : List Item). AtMostOneMore Of b (effect b l)) (sym e) (r.moments p.0 i))
        (λ (e : (j : ℕ) × (take i (xs ++ ys) ≡ xs ++ take j ys)).
        let on = effect-append b xs (take e.0 ys) ∙ ap (λ (m : Channels). effect m (take e.0 ys)) (r.keeps p.0) in
        subst (λ (l : List Item). AtMostOneMore Of b (effect b l)) (sym e.1) (subst (λ (m : Channels). AtMostOneMore Of b m) (sym on) (q.moments p.1 e.0)))
        (split_take xs ys i);
  }

  pub round-like : (xs : List Item) {P Q : Type 0} → (P → Q) → (Q → P) → IsRound layout b Of P xs → IsRound layout b Of Q xs
  round-like xs f g r = record {
    needs = λ rest h. let at = r.needs rest h in (f at.0, at.1);
    may = λ rest p h. r.may rest (g p) h;
    keeps = λ p. r.keeps (g p);
    moments = λ p i. r.moments (g p) i;
  }

  pub round-repeated : (n : ℕ) (xs : List Item) {P : Type 0} → IsRound layout b Of P xs → IsRound layout b Of (0 < n → P) (repeated n xs)
  round-repeated zero xs {P = P} r = round-like [] (λ (u : Unit {0}). λ (h : 0 < 0). absurd (omega arith)) (λ (f : 0 < 0 → P). tt) round-none
  round-repeated (suc n) xs {P = P} r =
      round-like (repeated (suc n) xs)
      (λ (w : P × (0 < n → P)). λ (h : 0 < suc n). w.0)
      (λ (f : 0 < suc n → P). (f (omega arith), λ (h : 0 < n). f (omega arith)))
      (round-append xs (repeated n xs) r (round-repeated n xs r))

  -- each position of the list is such a one
  abbrev IsOf : SettingsSeen → Type 0
  IsOf s = (k : ℕ) → Of (position_at s.list k)

  -- the channels of the passes from number k on
  abbrev CanPass : SettingsSeen → ℕ → ℕ → Type 0
  CanPass s k n = (j : ℕ) → k ≤ j → j < k + n → CanCloseEach layout b (position_at s.list j)

  pub round-pass : (s : SettingsSeen) → IsOf s → (k : ℕ) → IsRound layout b Of (CanCloseEach layout b (position_at s.list k)) (pass_of s k)
  round-pass s of k =
      round-like (pass_of s k) (λ (w : Unit {0} × CanCloseEach layout b (position_at s.list k)). w.1)
      (λ (h : CanCloseEach layout b (position_at s.list k)). (tt, h))
      (round-append (map Awaits (head_of Trigger s.trigger)) (visit s.settle_us (position_at s.list k)) (round-awaits (head_of Trigger s.trigger))
      (round-visit s.settle_us (position_at s.list k) (of k)))

  pub round-passes : (s : SettingsSeen) → IsOf s → (k n : ℕ) → IsRound layout b Of (CanPass s k n) (passes s k n)
  round-passes s of k zero = round-like [] (λ (u : Unit {0}). λ j h g. absurd (omega arith)) (λ (f : CanPass s k 0). tt) round-none
  round-passes s of k (suc n) =
      round-like (passes s k (suc n))
      (λ (w : CanCloseEach layout b (position_at s.list k) × CanPass s (suc k) n). λ j h g.
      ⊎_elim (λ (e : k ≡ j). subst (λ (i : ℕ). CanCloseEach layout b (position_at s.list i)) e w.0)
      (λ (d : k ≡ j → ⊥). w.1 j (grind arith) (omega arith)) (cases_eq k j))
      (λ (f : CanPass s k (suc n)). (f k (omega arith) (omega arith), λ j h g. f j (omega arith) (omega arith)))
      (round-append (pass_of s k) (passes s (suc k) n) (round-pass s of k) (round-passes s of (suc k) n))

  pub round-turn : (arm : NamedLayer) (inside : List Item) {P : Type 0} → IsRound layout b Of P inside
      → IsRound layout b Of P (map Awaits (head_of arm.0 arm.1) ++ inside)
  round-turn arm inside {P = P} r =
      round-like (map Awaits (head_of arm.0 arm.1) ++ inside) (λ (w : Unit {0} × P). w.1) (λ (h : P). (tt, h))
      (round-append (map Awaits (head_of arm.0 arm.1)) inside (round-awaits (head_of arm.0 arm.1)) r)

  pub round-arms : (arms : List NamedLayer) (inside : List Item) {P : Type 0} → IsRound layout b Of P inside
      → IsRound layout b Of (AreCounted arms → P) (turns_of arms inside)
  round-arms [] inside {P = P} r = round-like inside (λ (h : P). λ (c : Unit {0}). h) (λ (f : Unit {0} → P). f tt) r
  round-arms (arm ∷ arms) inside {P = P} r =
      round-like (turns_of (arm ∷ arms) inside)
      (λ (f : 0 < arm.1.count → AreCounted arms → P). λ (c : AreCounted (arm ∷ arms)). f c.0 c.1)
      (λ (f : AreCounted (arm ∷ arms) → P). λ (h : 0 < arm.1.count). λ (c : AreCounted arms). f (h, c))
      (round-repeated arm.1.count (map Awaits (head_of arm.0 arm.1) ++ turns_of arms inside) (round-turn arm (turns_of arms inside) (round-arms arms inside r)))

  pub round-turns : (s : SettingsSeen) → IsOf s → 0 < length s.list → IsRound layout b Of (AreCounted (arms_of s) → CanPass s 0 s.trigger.count) (agenda s)
  round-turns s of h =
      subst (λ (l : List Item). IsRound layout b Of (AreCounted (arms_of s) → CanPass s 0 s.trigger.count) l) (sym (agenda_is s h))
      (round-arms (arms_of s) (passes s 0 s.trigger.count) (round-passes s of 0 s.trigger.count))

  pub round-agenda : (s : SettingsSeen) → IsOf s → 0 < length s.list → IsInRange s → IsRound layout b Of (CanPass s 0 s.trigger.count) (agenda s)
  round-agenda s of h i =
      round-like (agenda s)
      (λ (f : AreCounted (arms_of s) → CanPass s 0 s.trigger.count). f (arms_counted s i arm_layers))
      (λ (f : CanPass s 0 s.trigger.count). λ (c : AreCounted (arms_of s)). f)
      (round-turns s of h)

  -- the whole agenda is sound exactly where each entry that is used can be closed, and the readings have room
  pub sound_exactly : (s : SettingsSeen) → IsOf s → (room : ℕ) → 0 < length s.list → IsInRange s → IsSound layout b room (agenda s)
      ↔ ((j : ℕ) → j < s.trigger.count → CanCloseEach layout b (position_at s.list j)) × (reads (agenda s) ≤ room)
  sound_exactly s of room h i =
      let r = round-agenda s of h i in
      let e = append-nil (agenda s) in (
        λ (w : IsSound layout b room (agenda s)). let p = (r.needs [] (subst (λ (l : List Item). AllRight layout b none l) (sym e) w.right)).0 in
            (λ j k. p j (omega arith) (omega arith), w.fits),
        λ (w : ((j : ℕ) → j < s.trigger.count → CanCloseEach layout b (position_at s.list j)) × (reads (agenda s) ≤ room)).
            let p : CanPass s 0 s.trigger.count = λ j k l. w.0 j (omega arith) in
            record {
              right = subst (λ (l : List Item). AllRight layout b none l) e (r.may [] p tt);
              fits = w.1;
              back = λ x. ap (λ (m : Channels). m x) (r.keeps p);
            },
      )
