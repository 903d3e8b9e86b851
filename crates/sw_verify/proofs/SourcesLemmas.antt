-- The sources of all layers, one by one.
use Rattle.std.proofs.Common.{◌≡◌, ℕ, zero, suc, ◌+◌, ◌<◌, List, length, map, slice_index_or, sym, ap, ◌∙◌, arith}
use Rattle.std.proofs.lemmas.List.{same_lists, get_or-map, get_or_default}
use Rattle.sw_base.specs.Layers.{arm_layers}
use Rattle.sw_base.specs.Limits.{most_arm_layers}
use Rattle.sw_base.specs.declared.terms.ArmLayer.TheVariants.{First}
use Rattle.sw_base.specs.declared.terms.LayerName.{LayerName}
use Rattle.sw_base.specs.declared.terms.LayerName.TheVariants.{Arm, Trigger}
use Rattle.sw_base.specs.declared.terms.Source.{Source}
use Rattle.sw_base.specs.declared.terms.Source.TheVariants.{Immediate}
use Rattle.sw_trigger.specs.Settings.{SettingsSeen, layer_of}
use Rattle.sw_verify.specs.Course.{layers, sources_of}

-- a source for each layer, by its number
pub each_source : (s : SettingsSeen) (l : List Source) → length l ≡ length layers → slice_index_or l 0 Immediate ≡ (layer_of s Trigger).source
    → ((j : ℕ) → j < most_arm_layers → slice_index_or l (j + 1) Immediate ≡ (layer_of s (Arm (slice_index_or arm_layers j First))).source)
    → l ≡ sources_of s
each_source s l size trigger arms = same_lists l (sources_of s) size (λ k d lt.
    get_or_default l k d Immediate lt ∙ at k lt ∙ get_or_default (sources_of s) k Immediate d (omega (arith, size))) where
      source : LayerName → Source
      source name = (layer_of s name).source

      at : (k : ℕ) → k < length l → slice_index_or l k Immediate ≡ slice_index_or (sources_of s) k Immediate
      at zero lt = trigger
      at (suc j) lt =
          let few : j < most_arm_layers = omega (arith, size) in
          let place : suc j ≡ j + 1 = omega arith in
          ap (λ (i : ℕ). slice_index_or l i Immediate) place ∙ arms j few
          ∙ sym (get_or-map source (map Arm arm_layers) j (Arm First) Immediate few ∙ ap source (get_or-map Arm arm_layers j First (Arm First) few))
