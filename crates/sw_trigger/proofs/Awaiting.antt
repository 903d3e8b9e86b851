-- The awaiting items of an agenda.
use Rattle.std.proofs.Common.{◌≡◌, ℕ, zero, suc, ◌+◌, ◌-◌, ◌*◌, ◌%◌, ◌<◌, ◌≤◌, List, [], ◌∷◌, ◌++◌, length, map, Bool, true, false, None, cond, eqb, refl, sym}
use Rattle.std.proofs.Common.{ap, ◌∙◌, arith, length-append, le_trans}
use Rattle.std.specs.List.{slice_get}
use Rattle.std.proofs.Math.Nat.{suc-mul, le-mul_of_pos_right, mul-le-mul_left, mul-le-mul_right, mul_comm}
use Rattle.std.proofs.lemmas.Bool.Decides.{nat_tests}
use Rattle.std.proofs.lemmas.Nat.{mod_below}
use Rattle.std.proofs.lemmas.List.{map-append}
use Rattle.sw_trigger.specs.declared.layer.Layer.{Layer}
use Rattle.sw_base.specs.declared.terms.LayerName.{LayerName}
use Rattle.sw_base.specs.declared.terms.LayerName.TheVariants.{Trigger}
use Rattle.sw_base.specs.Limits.{most_arm_layers, most_arm_count}
use Rattle.sw_base.specs.declared.terms.Source.{Source}
use Rattle.sw_base.specs.declared.terms.Source.TheVariants.{Immediate, Bus, External, Hold, Timer}
use Rattle.sw_trigger.specs.declared.layer.Awaited.{Awaited}
use Rattle.sw_trigger.specs.declared.layer.Awaited.TheVariants.{Pause, Read}
use Rattle.sw_trigger.specs.Settings.{SettingsSeen, NamedLayer, arms_of}
use Rattle.sw_trigger.specs.Agenda.{Item, Awaits, Close, Open, repeated, head_of, passes, pass_of, visit, position_at, turns_of, agenda, wait_by, wait_of}
use Rattle.sw_trigger.specs.Agenda.{pause_of}
use Rattle.sw_trigger.specs.Counts.{awaiting, reads, in_turns, in_arms, in_visit, in_scan, times, most_awaited, most_read}
use Rattle.sw_channel.specs.Positions.{Position}
use Rattle.sw_trigger.proofs.Repeats.{length-repeated, get-repeated, get-append_left, get-append_right}

pub awaiting-append : (xs ys : List Item) → awaiting (xs ++ ys) ≡ awaiting xs ++ awaiting ys
awaiting-append [] ys = refl
awaiting-append (Awaits a ∷ xs) ys = ap (λ l. a ∷ l) (awaiting-append xs ys)
awaiting-append (Close c ∷ xs) ys = awaiting-append xs ys
awaiting-append (Open c ∷ xs) ys = awaiting-append xs ys

pub awaiting-awaits : (xs : List Awaited) → awaiting (map Awaits xs) ≡ xs
awaiting-awaits [] = refl
awaiting-awaits (x ∷ xs) = ap (λ l. x ∷ l) (awaiting-awaits xs)

pub awaiting-repeated : (n : ℕ) (xs : List Item) → awaiting (repeated n xs) ≡ repeated n (awaiting xs)
awaiting-repeated zero xs = refl
awaiting-repeated (suc n) xs = awaiting-append xs (repeated n xs) ∙ ap (λ l. awaiting xs ++ l) (awaiting-repeated n xs)

pub awaiting-after_head : (h : List Awaited) (xs : List Item) → awaiting (map Awaits h ++ xs) ≡ h ++ awaiting xs
awaiting-after_head h xs = awaiting-append (map Awaits h) xs ∙ ap (λ l. l ++ awaiting xs) (awaiting-awaits h)

pub awaiting-visit : (settle : ℕ) (p : Position) → awaiting (visit settle p) ≡ in_visit settle
awaiting-visit settle p = awaiting-after_head (pause_of settle) (Awaits Read ∷ Open p ∷ [])

pub awaiting-passes : (s : SettingsSeen) (k n : ℕ) → awaiting (passes s k n) ≡ repeated n (head_of Trigger s.trigger ++ in_visit s.settle_us)
awaiting-passes s k zero = refl
awaiting-passes s k (suc n) =
    awaiting-append (pass_of s k) (passes s (suc k) n)
    ∙ ap (λ l. l ++ awaiting (passes s (suc k) n)) (awaiting-after_head (head_of Trigger s.trigger) (visit s.settle_us (position_at s.list k))
    ∙ ap (λ l. head_of Trigger s.trigger ++ l) (awaiting-visit s.settle_us (position_at s.list k)))
    ∙ ap (λ l. (head_of Trigger s.trigger ++ in_visit s.settle_us) ++ l) (awaiting-passes s (suc k) n)

pub awaiting-turns : (arms : List NamedLayer) (inside : List Item) → awaiting (turns_of arms inside) ≡ in_arms arms (awaiting inside)
awaiting-turns [] inside = refl
awaiting-turns (arm ∷ arms) inside =
    awaiting-repeated arm.1.count (map Awaits (head_of arm.0 arm.1) ++ turns_of arms inside)
    ∙ ap (repeated arm.1.count) (awaiting-after_head (head_of arm.0 arm.1) (turns_of arms inside))
    ∙ ap (in_turns arm.0 arm.1) (awaiting-turns arms inside)

-- an agenda that isn't empty
pub agenda_is : (s : SettingsSeen) → 0 < length s.list → agenda s ≡ turns_of (arms_of s) (passes s 0 s.trigger.count)
agenda_is s h = grind arith

pub awaiting-agenda : (s : SettingsSeen) → 0 < length s.list → awaiting (agenda s) ≡ in_scan s
awaiting-agenda s h =
    ap awaiting (agenda_is s h) ∙ awaiting-turns (arms_of s) (passes s 0 s.trigger.count)
    ∙ ap (in_arms (arms_of s)) (awaiting-passes s 0 s.trigger.count)

pub length-in_turns : (name : LayerName) (l : Layer) (inside : List Awaited)
    → length (in_turns name l inside) ≡ l.count * (length (head_of name l) + length inside)
length-in_turns name l inside =
    length-repeated l.count (head_of name l ++ inside) ∙ ap (λ n. l.count * n) (length-append (head_of name l) inside)

-- readings
pub reads-append : (xs ys : List Item) → reads (xs ++ ys) ≡ reads xs + reads ys
reads-append [] ys = omega arith
reads-append (Awaits a ∷ xs) ys = omega (arith, reads-append xs ys)
reads-append (Close c ∷ xs) ys = reads-append xs ys
reads-append (Open c ∷ xs) ys = reads-append xs ys

pub reads-repeated : (n : ℕ) (xs : List Item) → reads (repeated n xs) ≡ n * reads xs
reads-repeated zero xs = omega arith
reads-repeated (suc n) xs = omega (arith, reads-append xs (repeated n xs), reads-repeated n xs, suc-mul n (reads xs))

pub reads-wait : (name : LayerName) (source : Source) (timer : ℕ) → reads (map Awaits (wait_by name source timer)) ≡ 0
reads-wait name Immediate timer = refl
reads-wait name Bus timer = refl
reads-wait name External timer = refl
reads-wait name Hold timer = refl
reads-wait name Timer timer = refl

reads-cond_pause : (b : Bool) (micros : ℕ) → reads (map Awaits (cond b [] (Pause micros ∷ []))) ≡ 0
reads-cond_pause true micros = refl
reads-cond_pause false micros = refl

reads-pause : (micros : ℕ) → reads (map Awaits (pause_of micros)) ≡ 0
reads-pause micros = reads-cond_pause (eqb micros 0) micros

pub reads-head : (name : LayerName) (l : Layer) → reads (map Awaits (head_of name l)) ≡ 0
reads-head name l =
    ap reads (map-append Awaits (wait_of name l) (pause_of l.delay_us))
    ∙ omega (arith, reads-append (map Awaits (wait_of name l)) (map Awaits (pause_of l.delay_us)), reads-wait name l.source l.timer_us, reads-pause l.delay_us)

pub reads-visit : (settle : ℕ) (p : Position) → reads (visit settle p) ≡ 1
reads-visit settle p = omega (arith, reads-append (map Awaits (pause_of settle)) (Awaits Read ∷ Open p ∷ []), reads-pause settle)

pub reads-passes : (s : SettingsSeen) (k n : ℕ) → reads (passes s k n) ≡ n
reads-passes s k zero = refl
reads-passes s k (suc n) =
    omega (
      arith,
      reads-append (pass_of s k) (passes s (suc k) n),
      reads-append (map Awaits (head_of Trigger s.trigger)) (visit s.settle_us (position_at s.list k)),
      reads-head Trigger s.trigger,
      reads-visit s.settle_us (position_at s.list k),
      reads-passes s (suc k) n,
    )

pub reads-turns : (arms : List NamedLayer) (inside : List Item) → reads (turns_of arms inside) ≡ times arms (reads inside)
reads-turns [] inside = refl
reads-turns (arm ∷ arms) inside =
    let turn : reads (map Awaits (head_of arm.0 arm.1) ++ turns_of arms inside) ≡ reads (turns_of arms inside) =
    omega (arith, reads-append (map Awaits (head_of arm.0 arm.1)) (turns_of arms inside), reads-head arm.0 arm.1) in
    reads-repeated arm.1.count (map Awaits (head_of arm.0 arm.1) ++ turns_of arms inside) ∙ ap (λ n. arm.1.count * n) (turn ∙ reads-turns arms inside)

pub reads-agenda : (s : SettingsSeen) → 0 < length s.list → reads (agenda s) ≡ times (arms_of s) s.trigger.count
reads-agenda s h =
    ap reads (agenda_is s h) ∙ reads-turns (arms_of s) (passes s 0 s.trigger.count)
    ∙ ap (times (arms_of s)) (reads-passes s 0 s.trigger.count)

pub listed_from_test : (b : Bool) (m n : ℕ) → b ≡ eqb m 0 → b ≡ false → n ≡ m → 0 < n
listed_from_test b m n e f g = grind (arith, nat_tests)

some_left : (m n : ℕ) (xs : List Item) → n < length (awaiting (cond (eqb m 0) [] xs)) → 0 < m
some_left zero n xs h = absurd (omega (arith, h))
some_left (suc m) n xs h = omega arith

pub listed_from_within : (s : SettingsSeen) (n : ℕ) → n < length (awaiting (agenda s)) → 0 < length s.list
listed_from_within s n h = some_left (length s.list) n (turns_of (arms_of s) (passes s 0 s.trigger.count)) h

-- the item at a place in the turns of a layer, by division
module _ (name : LayerName) (l : Layer) (xs : List Awaited) (n m : ℕ) (within : n < length (in_turns name l xs)) (len : m ≡ length (head_of name l) + length xs)
    (some : 0 < m) where
  whole : n < l.count * length (head_of name l ++ xs)
  whole = omega (arith, length-in_turns name l xs, ap (λ k. l.count * k) (length-append (head_of name l) xs))

  at_turn : slice_get (in_turns name l xs) n ≡ slice_get (head_of name l ++ xs) (n % m)
  at_turn = get-repeated l.count (head_of name l ++ xs) n whole
      ∙ ap (λ k. slice_get (head_of name l ++ xs) (n % k)) (length-append (head_of name l) xs ∙ sym len)

  pub at_head : n % m < length (head_of name l) → slice_get (in_turns name l xs) n ≡ slice_get (head_of name l) (n % m)
  at_head h = at_turn ∙ get-append_left (head_of name l) xs (n % m) h

  pub at_inside : length (head_of name l) ≤ n % m
      → (n % m - length (head_of name l) < length xs) × (slice_get (in_turns name l xs) n ≡ slice_get xs (n % m - length (head_of name l)))
  at_inside h =
      let lt : n % m < m = mod_below n m some in (
        omega (arith, lt, len, h),
        at_turn ∙ get-append_right (head_of name l) xs (n % m) (n % m - length (head_of name l)) (omega arith),
      )

-- what is there is found
pub some_there : (l : List Awaited) (i : ℕ) → i < length l → slice_get l i ≡ None → ⊥
some_there [] i h e = omega arith
some_there (x ∷ l) zero h e = absurd (cc e)
some_there (x ∷ l) (suc i) h e = some_there l i (omega arith) e

-- the product that the turns of a layer come to
pub turned : (count head inside c : ℕ) → 1 ≤ count → head ≤ 2 → c ≡ count → (2 + inside) * count < 18446744073709551616
    → (head + inside < 18446744073709551616) × (c * (head + inside) < 18446744073709551616) × (inside ≤ c * (head + inside))
    × (c * (head + inside) ≤ (2 + inside) * count)
turned count head inside c some small same fits =
    let least : head + inside ≤ (head + inside) * count = le-mul_of_pos_right (head + inside) some in
    let swap : (head + inside) * count ≡ count * (head + inside) = mul_comm (head + inside) count in
    let more : count * (head + inside) ≤ count * (2 + inside) = mul-le-mul_left count (omega arith) in
    let turn : count * (2 + inside) ≡ (2 + inside) * count = mul_comm count (2 + inside) in
    let e : c * (head + inside) ≡ count * (head + inside) = ap (λ n. n * (head + inside)) same in
    (omega (arith, least, swap, more, turn), omega (arith, more, turn, e), omega (arith, least, swap, e), omega (arith, more, turn, e))

-- ---- the most of each

-- products of what is at most so much
pub product_most : (a b m n : ℕ) → a ≤ m → b ≤ n → a * b ≤ m * n
product_most a b m n h k = le_trans (mul-le-mul_left a k) (mul-le-mul_right n h)

-- what is awaited of a position that is closed
length-cond_visit : (b : Bool) (micros : ℕ) → length (cond b [] (Pause micros ∷ []) ++ Read ∷ []) ≤ 2
length-cond_visit true micros = omega arith
length-cond_visit false micros = omega arith

pub length-visit : (settle : ℕ) → length (in_visit settle) ≤ 2
length-visit settle = length-cond_visit (eqb settle 0) settle

-- fewer layers, and shorter visits, await and read no more
fewer_await : (v w m n : ℕ) → v ≤ w → n ≤ m → most_awaited v n ≤ most_awaited w m
fewer_await v w zero zero g h = omega arith
fewer_await v w zero (suc n) g h = absurd (omega arith)
fewer_await v w (suc m) zero g h = omega (arith, fewer_await v w m zero g (omega arith))
fewer_await v w (suc m) (suc n) g h = omega (arith, fewer_await v w m n g (omega arith))

fewer_read : (m n : ℕ) → n ≤ m → most_read n ≤ most_read m
fewer_read zero zero h = omega arith
fewer_read zero (suc n) h = absurd (omega arith)
fewer_read (suc m) zero h = omega (arith, fewer_read m zero (omega arith))
fewer_read (suc m) (suc n) h = omega (arith, fewer_read m n (omega arith))

-- the layers that stand inside the outermost
abbrev inner_layers : ℕ
inner_layers = most_arm_layers - 1

-- the turns of a layer more fit into a number of the code, and so does what they read
pub fits_awaited : (settle n inside count : ℕ) → suc n ≤ most_arm_layers → inside ≤ most_awaited (length (in_visit settle)) n → count ≤ most_arm_count
    → (2 + inside) * count < 18446744073709551616
fits_awaited settle n inside count few h k =
    let b = fewer_await (length (in_visit settle)) 2 inner_layers n (length-visit settle) (omega arith) in
    let p = product_most (2 + inside) count (2 + most_awaited 2 inner_layers) most_arm_count (omega (arith, h, b)) k in
    omega (arith, p)

pub fits_turn : (settle n inside : ℕ) → suc n ≤ most_arm_layers → inside ≤ most_awaited (length (in_visit settle)) n
    → 2 + inside < 18446744073709551616
fits_turn settle n inside few h =
    let b = fewer_await (length (in_visit settle)) 2 inner_layers n (length-visit settle) (omega arith) in
    omega (arith, h, b)

pub fits_read : (n inside count : ℕ) → suc n ≤ most_arm_layers → inside ≤ most_read n → count ≤ most_arm_count
    → count * inside < 18446744073709551616
fits_read n inside count few h k =
    let b = fewer_read inner_layers n (omega arith) in
    let p = product_most count inside most_arm_count (most_read inner_layers) k (omega (arith, h, b)) in
    omega (arith, p)
