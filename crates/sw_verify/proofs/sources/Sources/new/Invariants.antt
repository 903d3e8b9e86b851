use Rattle.std.proofs.Common.{◌≡◌, ℕ, ◌+◌, ◌<◌, length, slice_index_or}
use Rattle.sw_base.specs.Layers.{arm_layers}
use Rattle.sw_base.specs.declared.terms.ArmLayer.TheVariants.{First}
use Rattle.sw_base.specs.declared.terms.LayerName.TheVariants.{Arm, Trigger}
use Rattle.sw_base.specs.declared.terms.Source.TheVariants.{Immediate}
use Rattle.sw_trigger.specs.Settings.{layer_of}
use Rattle.sw_verify.specs.Course.{layers}
use Rattle.sw_verify.proofs.sources.Sources.new.Given as goal

abbrev pub invariant-loop-i : goal.invariant-loop-i
invariant-loop-i l = record {
  size : length l.by_layer ≡ length layers;
  trigger : slice_index_or l.by_layer 0 Immediate ≡ (layer_of l.settings Trigger).source;
  arms :
      (j : ℕ) → j < l.i → slice_index_or l.by_layer (j + 1) Immediate ≡ (layer_of l.settings (Arm (slice_index_or arm_layers j First))).source;
}
