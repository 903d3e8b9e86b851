-- Settings in their ranges: what is so of each layer, how it stays so, and that a scan of what is listed awaits something.
use Rattle.std.proofs.Common.{◌≡◌, ◌≢◌, ℕ, zero, suc, ◌-◌, ◌<◌, ◌≤◌, ◌*◌, ◌+◌, List, [], ◌∷◌, length, replicate, refl, sym, ap, ◌∙◌, subst, arith, ⊎_elim, length-append}
use Rattle.std.specs.Prelude.{slice_index_or, slice_set}
use Rattle.std.proofs.lemmas.List.{get_or-set_same, get_or-set_other, length-set}
use Rattle.std.proofs.lemmas.Bool.{cases_eq}
use Rattle.std.proofs.Math.Nat.{le-mul_of_pos_right, mul_comm}
use Rattle.sw_base.specs.Limits.{most_arm_layers, most_arm_count, most_trigger_count}
use Rattle.sw_base.specs.Layers.{arm_layers, number_of}
use Rattle.sw_base.specs.declared.terms.ArmLayer.{ArmLayer}
use Rattle.sw_base.specs.declared.terms.ArmLayer.TheVariants.{First}
use Rattle.sw_base.specs.declared.terms.LayerName.{LayerName}
use Rattle.sw_base.specs.declared.terms.LayerName.TheVariants.{Arm, Trigger}
use Rattle.sw_trigger.specs.declared.layer.Layer.{Layer}
use Rattle.sw_trigger.specs.declared.layer.Awaited.{Awaited}
use Rattle.sw_trigger.specs.declared.layer.Awaited.TheVariants.{Read}
use Rattle.sw_trigger.specs.Settings.{SettingsSeen, IsInRange, IsLayer, AreArms, layer_of, with_layer, named, most_of, plain_layer, at_reset}
use Rattle.sw_trigger.specs.Agenda.{head_of, pause_of}
use Rattle.sw_trigger.specs.Counts.{in_turns, in_arms, in_visit, in_passes, bound_of}
use Rattle.sw_trigger.proofs.Awaiting.{length-in_turns, awaiting-agenda}

-- each ARM layer has its place
number_below : (arm : ArmLayer) → number_of arm - 1 < most_arm_layers
number_below First = omega arith
number_below inner = omega arith

pub layer_range : (s : SettingsSeen) (l : LayerName) → IsInRange s → IsLayer (most_of l) (layer_of s l)
layer_range s (Arm arm) r = r.arms (number_of arm - 1)
layer_range s Trigger r = r.trigger

arms_set : (arms : List Layer) (i : ℕ) (layer : Layer) → i < length arms → AreArms arms → IsLayer most_arm_count layer → AreArms (slice_set arms i layer)
arms_set arms i layer w r h = λ j. ⊎_elim
    (λ (e : j ≡ i). subst (IsLayer most_arm_count) (sym (ap (λ (k : ℕ). slice_index_or (slice_set arms i layer) k plain_layer) e
    ∙ get_or-set_same arms i layer plain_layer w)) h)
    (λ (n : j ≢ i). subst (IsLayer most_arm_count) (sym (get_or-set_other arms i j layer plain_layer n)) (r j))
    (cases_eq j i)

-- a layer that is set keeps the ranges
pub range_layer : (s : SettingsSeen) (l : LayerName) (layer : Layer) → IsInRange s → IsLayer (most_of l) layer → IsInRange (with_layer s l layer)
range_layer s (Arm arm) layer r h = record {
  layers = length-set s.arms (number_of arm - 1) layer ∙ r.layers;
  arms = arms_set s.arms (number_of arm - 1) layer (omega (arith, number_below arm, r.layers)) r.arms h;
  trigger = r.trigger;
  list = r.list;
  meter = r.meter;
  points = r.points;
  settle = r.settle;
}
range_layer s Trigger layer r h =
    record { layers = r.layers; arms = r.arms; trigger = h; list = r.list; meter = r.meter; points = r.points; settle = r.settle }

plain_range : (most : ℕ) → 1 ≤ most → IsLayer most plain_layer
plain_range most h = record { count = (omega arith, h); delay = omega arith; timer = (omega arith, omega arith) }

plain_at : (n i : ℕ) → slice_index_or (replicate n plain_layer) i plain_layer ≡ plain_layer
plain_at zero i = refl
plain_at (suc n) zero = refl
plain_at (suc n) (suc i) = plain_at n i

pub reset_range : IsInRange at_reset
reset_range = record {
  layers = refl;
  arms = λ i. subst (IsLayer most_arm_count) (sym (plain_at most_arm_layers i)) (plain_range most_arm_count (omega arith));
  trigger = plain_range most_trigger_count (omega arith);
  list = omega arith;
  meter = (omega arith, omega arith);
  points = (omega arith, omega arith);
  settle = omega arith;
}

-- turns await something where something is awaited inside them
some_turns : (name : LayerName) (l : Layer) (inside : List Awaited) → 0 < l.count → 0 < length inside → 0 < length (in_turns name l inside)
some_turns name l inside c h =
    let more : length (head_of name l) + length inside ≤ (length (head_of name l) + length inside) * l.count =
    le-mul_of_pos_right (length (head_of name l) + length inside) c in
    omega (arith, length-in_turns name l inside, mul_comm l.count (length (head_of name l) + length inside), more, h)

some_arms : (s : SettingsSeen) → IsInRange s → (arms : List ArmLayer) (inside : List Awaited) → 0 < length inside → 0 < length (in_arms (named s arms) inside)
some_arms s r [] inside h = h
some_arms s r (arm ∷ arms) inside h =
    some_turns (Arm arm) (layer_of s (Arm arm)) (in_arms (named s arms) inside) (r.arms (number_of arm - 1)).count.0 (some_arms s r arms inside h)

-- a scan of what is listed awaits something
pub some_bound : (s : SettingsSeen) → 0 < length s.list → IsInRange s → 0 < bound_of s
some_bound s listed r =
    let visit : 0 < length (in_visit s.settle_us) = omega (arith, length-append (pause_of s.settle_us) (Read ∷ [])) in
    let passes : 0 < length (in_passes s.settle_us s.trigger) = some_turns Trigger s.trigger (in_visit s.settle_us) r.trigger.count.0 visit in
    omega (arith, ap length (awaiting-agenda s listed), some_arms s r arm_layers (in_passes s.settle_us s.trigger) passes)
