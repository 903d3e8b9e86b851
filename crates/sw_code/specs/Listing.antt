-- The listing of a code, by the newest version (own): lines that end with a line feed, each of parts joined by one
-- space.
use Rattle.std.specs.Prelude.{ℕ, List, [], ◌∷◌, ◌++◌, codes, decimal}
use Rattle.std.specs.List.{join_with_byte}
use Rattle.sw_base.specs.Layout.{Channel}
use Rattle.sw_channel.specs.Positions.{Position}
use Rattle.sw_base.specs.declared.terms.LayerName.{LayerName}
use Rattle.sw_base.specs.declared.terms.LayerName.TheVariants.{Arm, Trigger}
use Rattle.sw_base.specs.Layers.{number_of}
use Rattle.sw_code.specs.declared.code.Step.{Step}
use Rattle.sw_code.specs.declared.code.Step.TheVariants as step
use Rattle.sw_code.specs.Range.{Program}
use Rattle.sw_code.specs.Versions.{newest, first_parts}

-- `arm` and the layer's number, or `trig`
abbrev pub layer_word : LayerName → List ℕ
layer_word (Arm arm) = codes "arm" ++ decimal (number_of arm)
layer_word Trigger = codes "trig"

-- `s!c`
abbrev pub channel_text : Channel → List ℕ
channel_text c = decimal c.0 ++ 33 ∷ decimal c.1

-- each after `&`
abbrev pub others_text : Position → List ℕ
others_text [] = []
others_text (c ∷ p) = 38 ∷ (channel_text c ++ others_text p)

-- joined by `&`
abbrev pub position_text : Position → List ℕ
position_text [] = []
position_text (c ∷ p) = channel_text c ++ others_text p

-- the parts of a step's line
abbrev pub parts_of : Step → List (List ℕ)
parts_of (step.Set k n) = codes "set" ∷ decimal k ∷ decimal n ∷ []
parts_of (step.Wait name) = codes "wait" ∷ layer_word name ∷ []
parts_of (step.Timer name micros) = codes "timer" ∷ layer_word name ∷ decimal micros ∷ []
parts_of (step.Pause micros) = codes "pause" ∷ decimal micros ∷ []
parts_of (step.Close p) = codes "close" ∷ position_text p ∷ []
parts_of step.Read = codes "read" ∷ []
parts_of (step.Open p) = codes "open" ∷ position_text p ∷ []
parts_of (step.Loop k to) = codes "loop" ∷ decimal k ∷ decimal to ∷ []
parts_of step.Halt = codes "halt" ∷ []

abbrev pub line_of : List (List ℕ) → List ℕ
line_of parts = join_with_byte 32 parts ++ 10 ∷ []

abbrev pub listed_lines : List Step → List ℕ
listed_lines [] = []
listed_lines (s ∷ steps) = line_of (parts_of s) ++ listed_lines steps

-- the version, the slot of the meter, and the steps
abbrev pub listing_of : Program → List ℕ
listing_of p = line_of (first_parts newest)
    ++ (line_of (codes "meter" ∷ decimal p.meter ∷ []) ++ listed_lines p.steps)
