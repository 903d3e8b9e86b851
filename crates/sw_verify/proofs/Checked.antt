-- What the tests of the check tell.
use Rattle.std.proofs.Common.{◌≡◌, ℕ, zero, suc, ◌%◌, ◌<◌, ◌≤◌, Bool, true, false, List, [], ◌∷◌, length, take, get_or, refl, sym, ap, ◌∙◌}
use Rattle.std.proofs.Common.{subst, ⊎_elim, inl, inr, arith}
use Rattle.std.specs.List.{list_all, list_any, Any, AllByRecursion}
use Rattle.std.proofs.lemmas.Bool.{and_parts, and_cases, and_from, or_cases, or_left, or_right}
use Rattle.std.proofs.lemmas.Bool.{both_ways}
use Rattle.std.proofs.Math.Nat.{mod-eq_of_lt, mod-lt, mod-le}
use Rattle.sw_channel.specs.Positions.{Position}
use Rattle.sw_base.specs.Layout.{Channel, Layout, is_present, IsClash}
use Rattle.sw_trigger.specs.Settings.{SettingsSeen, IsInRange}
use Rattle.sw_trigger.specs.Agenda.{position_at, used_of, agenda}
use Rattle.sw_trigger.specs.Counts.{reads}
use Rattle.sw_verify.specs.Channels.{Channels, same_channel, is_among, with_channel}
use Rattle.sw_verify.specs.Sound.{CanCloseOne, CanCloseEach, IsSound}
use Rattle.sw_verify.specs.Check.{IsBlocked, IsBlockedAt}
use Rattle.sw_verify.specs.Stops.{IsBarred, IsBarredAt, IsFirstBarred}
use Rattle.sw_verify.specs.declared.refusal.Refusal.{Refusal}
use Rattle.sw_verify.specs.declared.refusal.Refusal.TheVariants.{NoChannel, GroupClash}
use Rattle.sw_verify.proofs.Round.{anyone, same_channel_is, same_channel_self, sound_exactly}

-- an entry that fails the test is there exactly where the list's test fails
pub any_fails : {X : Type 0} (p : X → Bool) (P : X → Type 0) → ((x : X) → p x ≡ false → P x) → (xs : List X) → list_all p xs ≡ false → Any P xs
any_fails p P f [] h = absurd (cc h)
any_fails p P f (x ∷ xs) h =
    ⊎_elim (λ (e : p x ≡ false). (0, x, omega arith, refl, f x e))
    (λ (e : list_all p xs ≡ false). let r = any_fails p P f xs e in (suc r.0, r.1, omega arith, r.3, r.4))
    (and_cases (p x) (list_all p xs) h)

pub none_fails : {X : Type 0} (p : X → Bool) (P : X → Type 0) → ((x : X) → p x ≡ true → P x → ⊥) → (xs : List X) → list_all p xs ≡ true → Any P xs → ⊥
none_fails p P f [] h (k, x, l, e, w) = absurd (omega arith)
none_fails p P f (y ∷ ys) h (zero, x, l, e, w) = f y (and_parts (p y) (list_all p ys) h).0 (subst P (sym e) w)
none_fails p P f (y ∷ ys) h (suc k, x, l, e, w) = none_fails p P f ys (and_parts (p y) (list_all p ys) h).1 (k, x, omega arith, e, w)

-- what holds of each entry
each_at : {X : Type 0} (P : X → Type 0) (xs : List X) (n : ℕ) (d : X) → AllByRecursion P (take n xs) → (j : ℕ) → j < n → j < length xs → P (get_or xs j d)
each_at P [] n d h j k l = absurd (omega arith)
each_at P (x ∷ xs) zero d h j k l = absurd (omega arith)
each_at P (x ∷ xs) (suc n) d h zero k l = h.0
each_at P (x ∷ xs) (suc n) d h (suc j) k l = each_at P xs n d h.1 j (omega arith) (omega arith)

each_from : {X : Type 0} (P : X → Type 0) (xs : List X) (n : ℕ) (d : X) → ((j : ℕ) → j < n → j < length xs → P (get_or xs j d))
    → AllByRecursion P (take n xs)
each_from P [] zero d h = tt
each_from P [] (suc n) d h = tt
each_from P (x ∷ xs) zero d h = tt
each_from P (x ∷ xs) (suc n) d h = (h 0 (omega arith) (omega arith), each_from P xs n d (λ j k l. h (suc j) (omega arith) (omega arith)))

all_each : {X : Type 0} (p : X → Bool) (P : X → Type 0) → ((x : X) → P x → p x ≡ true) → (xs : List X) → AllByRecursion P xs → list_all p xs ≡ true
all_each p P f [] h = refl
all_each p P f (x ∷ xs) h = and_from (p x) (list_all p xs) (f x h.0) (all_each p P f xs h.1)

pub each_but_any : {X : Type 0} (P Q : X → Type 0) → ((x : X) → P x → Q x → ⊥) → (xs : List X) → AllByRecursion P xs → Any Q xs → ⊥
each_but_any P Q f [] h (k, x, l, e, w) = absurd (omega arith)
each_but_any P Q f (y ∷ ys) h (zero, x, l, e, w) = f y h.0 (subst Q (sym e) w)
each_but_any P Q f (y ∷ ys) h (suc k, x, l, e, w) = each_but_any P Q f ys h.1 (k, x, omega arith, e, w)

pub any_with : {X : Type 0} (p : X → Bool) (P Q : X → Type 0) → ((x : X) → p x ≡ true → P x → Q x) → (xs : List X) → list_all p xs ≡ true → Any P xs → Any Q xs
any_with p P Q f [] h (k, x, l, e, w) = absurd (omega arith)
any_with p P Q f (y ∷ ys) h (zero, x, l, e, w) = (0, y, omega arith, refl, f y (and_parts (p y) (list_all p ys) h).0 (subst P (sym e) w))
any_with p P Q f (y ∷ ys) h (suc k, x, l, e, w) =
    let r = any_with p P Q f ys (and_parts (p y) (list_all p ys) h).1 (k, x, omega arith, e, w) in (suc r.0, r.1, omega arith, r.3, r.4)

-- the same for the positions of the passes
used_each : (P : Position → Type 0) (s : SettingsSeen) → 0 < length s.list → AllByRecursion P (used_of s) → (j : ℕ) → j < s.trigger.count
    → P (position_at s.list j)
used_each P s h a j k =
    let i : j % length s.list < length s.list = mod-lt j h in
    let l : j % length s.list ≤ j = mod-le j (length s.list) in
    each_at P s.list s.trigger.count [] a (j % length s.list) (omega arith) i

each_used : (P : Position → Type 0) (s : SettingsSeen) → ((j : ℕ) → j < s.trigger.count → P (position_at s.list j)) → AllByRecursion P (used_of s)
each_used P s a =
    each_from P s.list s.trigger.count [] (λ j k l. subst (λ (i : ℕ). P (get_or s.list i [])) (mod-eq_of_lt l) (a j k))

-- a channel of the list passes the test exactly where the list's test says so
pub any_among : (p : Channel → Bool) (xs : List Channel) (x : Channel) → is_among xs x ≡ true → p x ≡ true → list_any p xs ≡ true
any_among p [] x m h = absurd (cc m)
any_among p (y ∷ ys) x m h =
    ⊎_elim (λ (e : same_channel x y ≡ true). or_left (p y) (list_any p ys) (ap p (sym (same_channel_is x y e)) ∙ h))
    (λ (e : is_among ys x ≡ true). or_right (p y) (list_any p ys) (any_among p ys x e h))
    (or_cases (same_channel x y) (is_among ys x) m)

pub among_any : (p : Channel → Bool) (xs : List Channel) → list_any p xs ≡ true → (x : Channel) × (is_among xs x ≡ true) × (p x ≡ true)
among_any p [] h = absurd (cc h)
among_any p (y ∷ ys) h =
    ⊎_elim (λ (e : p y ≡ true). (y, or_left (same_channel y y) (is_among ys y) (same_channel_self y), e))
    (λ (e : list_any p ys ≡ true). let r = among_any p ys e in (r.0, or_right (same_channel r.0 y) (is_among ys r.0) r.1, r.2))
    (or_cases (p y) (list_any p ys) h)

-- where each channel can be closed, all of them are there, and none is so that it can't be closed
pub each_present : (layout : Layout) (b : Channels) (p : Position) → CanCloseEach layout b p → list_all (is_present layout) p ≡ true
each_present layout b [] k = refl
each_present layout b (c ∷ p) k = and_from (is_present layout c) (list_all (is_present layout) p) k.0.present (each_present layout (with_channel c b) p k.1)

pub each_not_blocked : (layout : Layout) (b : Channels) (p : Position) → CanCloseEach layout b p → IsBlockedAt layout b p → ⊥
each_not_blocked layout b [] k h = h
each_not_blocked layout b (c ∷ p) k h =
    ⊎_elim
    (λ (w : IsBlocked layout b c). ⊎_elim (λ (e : b c ≡ true). both_ways (b c) k.0.was_open e)
    (λ (e : (x : Channel) × (b x ≡ true) × IsClash layout c x). k.0.apart e.0 e.1 e.2) w)
    (λ (w : IsBlockedAt layout (with_channel c b) p). each_not_blocked layout (with_channel c b) p k.1 w)
    h

-- what bars a position whose channels are there is that one of them is blocked
pub barred_blocked : (layout : Layout) (b : Channels) (p : Position) (r : Refusal) → list_all (is_present layout) p ≡ true → IsBarredAt layout b p r
    → IsBlockedAt layout b p
barred_blocked layout b [] r t h = h
barred_blocked layout b (c ∷ p) r t h =
    let there = and_parts (is_present layout c) (list_all (is_present layout) p) t in
    ⊎_elim
    (λ (w : IsBarred layout b c r).
    ⊎_elim (λ (x : (is_present layout c ≡ false) × (r ≡ NoChannel)). absurd (both_ways (is_present layout c) x.0 there.0))
    (λ (x : (is_present layout c ≡ true) × IsBlocked layout b c × (r ≡ GroupClash)). inl x.1) w)
    (λ (w : CanCloseOne layout b c × IsBarredAt layout (with_channel c b) p r). inr (barred_blocked layout (with_channel c b) p r there.1 w.1))
    h

-- a position that can't be closed is there
pub any_barred : (layout : Layout) (b : Channels) (ps : List Position) (p : Position) → IsFirstBarred layout b ps p
    → Any (λ (q : Position). (r : Refusal) × IsBarredAt layout b q r) ps
any_barred layout b ps p f = (f.at, p, f.within, f.there, (f.cause, f.barred))

pub each_not_barred : (layout : Layout) (b : Channels) (p : Position) (r : Refusal) → CanCloseEach layout b p → IsBarredAt layout b p r → ⊥
each_not_barred layout b p r k h = each_not_blocked layout b p k (barred_blocked layout b p r (each_present layout b p k) h)

module _ (layout : Layout) (closed : List Channel) (s : SettingsSeen) (listed : 0 < length s.list) (range : IsInRange s) where
  pub sound_from_free : AllByRecursion (CanCloseEach layout (is_among closed)) (used_of s) → reads (agenda s) ≤ s.points
      → IsSound layout (is_among closed) s.points (agenda s)
  sound_from_free f r =
      (sound_exactly layout (is_among closed) anyone s (λ k. tt) s.points listed range).1
      (λ j h. used_each (CanCloseEach layout (is_among closed)) s listed f j h, r)

  pub free_from_sound : IsSound layout (is_among closed) s.points (agenda s) → AllByRecursion (CanCloseEach layout (is_among closed)) (used_of s)
  free_from_sound w = each_used (CanCloseEach layout (is_among closed)) s
      ((sound_exactly layout (is_among closed) anyone s (λ k. tt) s.points listed range).0 w).0

  pub present_from_sound : IsSound layout (is_among closed) s.points (agenda s) → list_all (list_all (is_present layout)) (used_of s) ≡ true
  present_from_sound w = all_each (list_all (is_present layout)) (CanCloseEach layout (is_among closed)) (each_present layout (is_among closed)) (used_of s)
      (free_from_sound w)
