-- What a scan does, and what it needs for that.
use Rattle.std.specs.Prelude.{ℕ, ◌<◌, ◌^◌, List, ◌∷◌, length, map, slice_index_or}
use Rattle.sw_base.specs.declared.terms.Source.{Source}
use Rattle.sw_base.specs.declared.terms.Source.TheVariants.{Immediate}
use Rattle.sw_base.specs.declared.terms.LayerName.{LayerName}
use Rattle.sw_base.specs.declared.terms.LayerName.TheVariants.{Arm, Trigger}
use Rattle.sw_base.specs.Layers.{arm_layers, number_of}
use Rattle.sw_trigger.specs.Settings.{SettingsSeen, layer_of}
use Rattle.sw_trigger.specs.Agenda.{Item}
use Rattle.sw_code.specs.Range.{Program, IsProgramInRange}
use Rattle.sw_code.specs.Code.{Unfolds}
use Rattle.sw_code.specs.Pace.{most_counting, IsPaced}
use Rattle.sw_verify.specs.Items.{items_of}

-- the layers by number: TRIGger, and the ARM layers from the outermost on
abbrev pub layers : List LayerName
layers = Trigger ∷ map Arm arm_layers

abbrev pub layer_number : LayerName → ℕ
layer_number (Arm arm) = number_of arm
layer_number Trigger = 0

-- by the layer's number, where its wait takes its trigger from
abbrev pub source_at : List Source → LayerName → Source
source_at sources name = slice_index_or sources (layer_number name) Immediate

abbrev pub sources_of : SettingsSeen → List Source
sources_of s = map (λ name. (layer_of s name).source) layers

-- what is done in order, the slot of the meter that reads, the sources of the waits, and the room for readings
pub record CourseSeen : Type 0 where
  pub items : List Item
  pub meter : ℕ
  pub sources : List Source
  pub points : ℕ

-- a run of the code does its items, with few steps between two, and they can be numbered
pub record CanRun (code : Program) : Type 0 where
  pub range : IsProgramInRange code
  pub unfolds : Unfolds code.steps (items_of code.steps)
  pub paced : IsPaced code.steps most_counting
  pub few : length (items_of code.steps) < 2 ^ 64
