-- The ARM layers of the trigger model (SCPI-1999, chapter 24); that they are numbered from the outermost inwards is our
-- own.
use Rattle.std.specs.Prelude.{ℕ, ◌-◌, List, [], ◌∷◌, slice_index_or}
use Rattle.sw_base.specs.declared.terms.ArmLayer.{ArmLayer}
use Rattle.sw_base.specs.declared.terms.ArmLayer.TheVariants.{First, Second, Third}

-- the ARM layers, the outermost first
abbrev pub arm_layers : List ArmLayer
arm_layers = First ∷ Second ∷ Third ∷ []

-- the number of each, from 1
abbrev pub number_of : ArmLayer → ℕ
number_of First = 1
number_of Second = 2
number_of Third = 3

-- the ARM layer of a number, the outermost where there is none
abbrev pub arm_numbered : ℕ → ArmLayer
arm_numbered number = slice_index_or arm_layers (number - 1) First
