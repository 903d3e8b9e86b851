-- How long an agenda is at most.
use Rattle.std.proofs.Common.{ℕ, zero, suc, ◌+◌, ◌-◌, ◌*◌, ◌<◌, ◌≤◌, ◌^◌, Bool, true, false, List, [], ◌∷◌, ◌++◌, length, map, cond, eqb, ap}
use Rattle.std.proofs.Common.{arith, length-append}
use Rattle.std.proofs.Math.Nat.{suc-mul}
use Rattle.std.proofs.lemmas.Nat.{mul-le}
use Rattle.std.proofs.lemmas.List.{length-map}
use Rattle.sw_base.specs.declared.terms.LayerName.{LayerName}
use Rattle.sw_base.specs.declared.terms.LayerName.TheVariants.{Arm, Trigger}
use Rattle.sw_base.specs.declared.terms.ArmLayer.{ArmLayer}
use Rattle.sw_base.specs.Layers.{arm_layers, number_of}
use Rattle.sw_base.specs.Limits.{most_arm_layers}
use Rattle.sw_base.specs.declared.terms.Source.{Source}
use Rattle.sw_base.specs.declared.terms.Source.TheVariants.{Immediate, Bus, External, Hold, Timer}
use Rattle.sw_trigger.specs.declared.layer.Layer.{Layer}
use Rattle.sw_channel.specs.Positions.{Position}
use Rattle.sw_trigger.specs.declared.layer.Awaited.TheVariants.{Pause, Read}
use Rattle.sw_trigger.specs.Settings.{SettingsSeen, IsInRange, NamedLayer, named, layer_of, arms_of}
use Rattle.sw_trigger.specs.Agenda.{Item, Awaits, Open, wait_by, wait_of, pause_of, head_of, position_at, visit, pass_of, passes, repeated, turns_of}
use Rattle.sw_trigger.specs.Agenda.{agenda}
use Rattle.sw_trigger.proofs.Repeats.{length-repeated}
use Rattle.sw_trigger.proofs.Awaiting.{agenda_is}

length-wait : (name : LayerName) (source : Source) (timer : ℕ) → length (wait_by name source timer) ≤ 1
length-wait name Immediate timer = omega arith
length-wait name Bus timer = omega arith
length-wait name External timer = omega arith
length-wait name Hold timer = omega arith
length-wait name Timer timer = omega arith

length-cond_pause : (b : Bool) (micros : ℕ) → length (cond b [] (Pause micros ∷ [])) ≤ 1
length-cond_pause true micros = omega arith
length-cond_pause false micros = omega arith

length-head : (name : LayerName) (l : Layer) → length (map Awaits (head_of name l)) ≤ 2
length-head name l =
    omega (
      arith,
      length-map (head_of name l) Awaits,
      length-append (wait_of name l) (pause_of l.delay_us),
      length-wait name l.source l.timer_us,
      length-cond_pause (eqb l.delay_us 0) l.delay_us,
    )

length-visit : (settle : ℕ) (p : Position) → length (visit settle p) ≤ 4
length-visit settle p =
    omega (
      arith,
      length-append (map Awaits (pause_of settle)) (Awaits Read ∷ Open p ∷ []),
      length-map (pause_of settle) Awaits,
      length-cond_pause (eqb settle 0) settle,
    )

length-passes : (s : SettingsSeen) (k n : ℕ) → length (passes s k n) ≤ n * 6
length-passes s k zero = omega arith
length-passes s k (suc n) =
    omega (
      arith,
      length-append (pass_of s k) (passes s (suc k) n),
      length-append (map Awaits (head_of Trigger s.trigger)) (visit s.settle_us (position_at s.list k)),
      length-head Trigger s.trigger,
      length-visit s.settle_us (position_at s.list k),
      length-passes s (suc k) n,
      suc-mul n 6,
    )

length-turns : (arm : NamedLayer) (inside : List Item) (most : ℕ) → arm.1.count ≤ 1000 → length inside ≤ most
    → length (repeated arm.1.count (map Awaits (head_of arm.0 arm.1) ++ inside)) ≤ 1000 * (2 + most)
length-turns arm inside most few short =
    let turn : length (map Awaits (head_of arm.0 arm.1) ++ inside) ≤ 2 + most =
    omega (arith, length-append (map Awaits (head_of arm.0 arm.1)) inside, length-head arm.0 arm.1) in
    omega (
      arith,
      length-repeated arm.1.count (map Awaits (head_of arm.0 arm.1) ++ inside),
      mul-le arm.1.count (length (map Awaits (head_of arm.0 arm.1) ++ inside)) 1000 (2 + most) few turn,
    )

-- the most items of the passes inside so many ARM layers
abbrev most_items : ℕ → ℕ
most_items zero = 600000
most_items (suc n) = 1000 * (2 + most_items n)

length-arms : (s : SettingsSeen) → IsInRange s → (arms : List ArmLayer) (inside : List Item) → length inside ≤ most_items 0
    → length (turns_of (named s arms) inside) ≤ most_items (length arms)
length-arms s i [] inside h = h
length-arms s i (arm ∷ arms) inside h =
    length-turns (Arm arm, layer_of s (Arm arm)) (turns_of (named s arms) inside) (most_items (length arms)) (i.arms (number_of arm - 1)).count.1
    (length-arms s i arms inside h)

pub length-agenda : (s : SettingsSeen) → 0 < length s.list → IsInRange s → length (agenda s) < 2 ^ 64
length-agenda s h i =
    let all = passes s 0 s.trigger.count in
    let c : s.trigger.count * 6 ≤ 100000 * 6 = mul-le s.trigger.count 6 100000 6 i.trigger.count.1 (omega arith) in
    let turns : length (turns_of (arms_of s) all) ≤ most_items most_arm_layers =
    length-arms s i arm_layers all (omega (arith, length-passes s 0 s.trigger.count, c)) in
    omega (arith, turns, ap length (agenda_is s h))
