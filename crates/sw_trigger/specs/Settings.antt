-- The settings of a scan: the layers of the ARM-TRIGger model (SCPI-1999, chapter 24), the scan list, the meter's slot,
-- the room for readings, and the microseconds that a position settles for between its closing and its reading.
use Rattle.std.specs.Prelude.{◌≡◌, ℕ, ◌-◌, ◌≤◌, List, [], length, map, replicate, slice_index_or, slice_set}
use Rattle.sw_channel.specs.Positions.{Position}
pub use Rattle.sw_base.specs.Limits.{longest_delay}
use Rattle.sw_base.specs.Limits.{most_slots, most_entries, most_points, most_arm_layers, most_arm_count}
use Rattle.sw_base.specs.Limits.{most_trigger_count}
use Rattle.sw_base.specs.declared.terms.Source.TheVariants.{Immediate}
use Rattle.sw_base.specs.Layers.{arm_layers, number_of}
use Rattle.sw_base.specs.declared.terms.ArmLayer.{ArmLayer}
use Rattle.sw_base.specs.declared.terms.LayerName.{LayerName}
use Rattle.sw_base.specs.declared.terms.LayerName.TheVariants.{Arm, Trigger}
use Rattle.sw_trigger.specs.declared.layer.Layer.{Layer}

-- the settings as callers see them: the ARM layers from the outermost on
pub record SettingsSeen : Type 0 where
  pub arms : List Layer
  pub trigger : Layer
  pub list : List Position
  pub meter : ℕ
  pub points : ℕ
  pub settle_us : ℕ

-- a layer at *RST: once, at once
abbrev pub plain_layer : Layer
plain_layer = record { count = 1; source = Immediate; delay_us = 0; timer_us = 1000000 }

abbrev pub layer_of : SettingsSeen → LayerName → Layer
layer_of s (Arm arm) = slice_index_or s.arms (number_of arm - 1) plain_layer
layer_of s Trigger = s.trigger

-- the settings with another layer of that name
abbrev pub with_layer : SettingsSeen → LayerName → Layer → SettingsSeen
with_layer s (Arm arm) layer = record s { arms = slice_set s.arms (number_of arm - 1) layer }
with_layer s Trigger layer = record s { trigger = layer }

-- ARM layers with their names
abbrev pub NamedLayer : Type 0
NamedLayer = LayerName × Layer

abbrev pub named : SettingsSeen → List ArmLayer → List NamedLayer
named s arms = map (λ arm. (Arm arm, layer_of s (Arm arm))) arms

-- all ARM layers by name, the outermost first
abbrev pub arms_of : SettingsSeen → List NamedLayer
arms_of s = named s arm_layers

-- the greatest count of a layer
abbrev pub most_of : LayerName → ℕ
most_of (Arm arm) = most_arm_count
most_of Trigger = most_trigger_count

pub record IsLayer (most : ℕ) (layer : Layer) : Type 0 where
  pub count : (1 ≤ layer.count) × (layer.count ≤ most)
  pub delay : layer.delay_us ≤ longest_delay
  pub timer : (1 ≤ layer.timer_us) × (layer.timer_us ≤ longest_delay)

-- each of the ARM layers is in its range
abbrev pub AreArms : List Layer → Type 0
AreArms arms = (i : ℕ) → IsLayer most_arm_count (slice_index_or arms i plain_layer)

pub record IsInRange (s : SettingsSeen) : Type 0 where
  pub layers : length s.arms ≡ most_arm_layers
  pub arms : AreArms s.arms
  pub trigger : IsLayer most_trigger_count s.trigger
  pub list : length s.list ≤ most_entries
  pub meter : (1 ≤ s.meter) × (s.meter ≤ most_slots)
  pub points : (1 ≤ s.points) × (s.points ≤ most_points)
  pub settle : s.settle_us ≤ longest_delay

-- the settings at *RST
abbrev pub at_reset : SettingsSeen
at_reset = record {
  arms = replicate most_arm_layers plain_layer;
  trigger = plain_layer;
  list = [];
  meter = 4;
  points = 1000;
  settle_us = 0;
}
