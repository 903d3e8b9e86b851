-- Which code a listing writes, or its first fault by line (own).
use Rattle.std.specs.Prelude.{ℕ, ◌+◌, ◌-◌, Bool, ◌==◌, ◌&&◌, nat_lt, nat_le, List, [], ◌∷◌, ◌++◌, length, take}
use Rattle.std.specs.Prelude.{Option, None, Result, Ok, Err, codes, if◌then◌else◌}
use Rattle.std.specs.List.{list_all, slice_split}
use Rattle.std.specs.Result.{result_ok}
use Rattle.std.specs.Str.{bytes_eq}
use Rattle.sw_base.specs.Layout.{Channel}
use Rattle.sw_channel.specs.Positions.{Position, is_among}
use Rattle.sw_base.specs.Limits.{most_channels, most_trigger_count, longest_delay}
use Rattle.sw_base.specs.Layers.{arm_layers}
use Rattle.sw_base.specs.Text.{is_digit}
use Rattle.sw_base.specs.Number.{value_of}
use Rattle.sw_base.specs.declared.terms.LayerName.{LayerName}
use Rattle.sw_base.specs.declared.terms.LayerName.TheVariants.{Arm, Trigger}
use Rattle.sw_base.specs.declared.terms.ArmLayer.{ArmLayer}
use Rattle.sw_code.specs.declared.code.Step.{Step}
use Rattle.sw_code.specs.declared.code.Step.TheVariants as step
use Rattle.sw_code.specs.declared.fault.ListFault.{ListFault}
use Rattle.sw_code.specs.declared.fault.ListFault.TheVariants.{BadStep, BadNumber, TooLong, NoMemory}
use Rattle.sw_code.specs.declared.fault.ListError.{ListError}
use Rattle.sw_code.specs.declared.version.Version.{Version}
use Rattle.sw_code.specs.Range.{Program, most_steps}
use Rattle.sw_code.specs.Listing.{layer_word}
use Rattle.sw_code.specs.Versions.{version_in}

-- the parts between the marks; the marks are one fewer
abbrev pub parts_at : ℕ → List ℕ → List (List ℕ)
parts_at mark bytes = slice_split (λ b. b == mark) bytes

abbrev pub then_read : {A B E : Type 0} → Result A E → (A → Result B E) → Result B E
then_read (Ok x) go = go x
then_read (Err e) go = Err e

-- 1 to 20 digits, zeros in front among them
abbrev pub is_numeral : List ℕ → Bool
is_numeral part = nat_lt 0 (length part) && nat_le (length part) 20 && list_all is_digit part

abbrev pub number_in : ℕ → ℕ → List ℕ → Result ℕ ListFault
number_in low high part =
    if is_numeral part && nat_le low (value_of part)
    && nat_le (value_of part) high then Ok (value_of part) else Err BadNumber

-- the layer that a word names, among these ARM layers and TRIGger
abbrev pub layer_among : List ArmLayer → List ℕ → Result LayerName ListFault
layer_among [] word = if bytes_eq word (layer_word Trigger) then Ok Trigger else Err BadStep
layer_among (arm ∷ arms) word =
    if bytes_eq word (layer_word (Arm arm)) then Ok (Arm arm) else layer_among arms word

-- the step of a word alone
abbrev pub plain_step : List ℕ → Result Step ListFault
plain_step word =
    if bytes_eq word (codes "read") then Ok step.Read else
    (if bytes_eq word (codes "halt") then Ok step.Halt else Err BadStep)

-- a fault on the line of that number
abbrev pub on_line : {A : Type 0} → ℕ → Result A ListFault → Result A ListError
on_line line (Ok x) = Ok x
on_line line (Err kind) = Err (record { line = line; kind = kind })

-- steps that came before
abbrev pub after_steps : List Step → Result (List Step) ListError → Result (List Step) ListError
after_steps before (Ok steps) = Ok (before ++ steps)
after_steps before (Err e) = Err e

-- by a version
module _ (v : Version) where
  -- `s!c`
  abbrev pub channel_in : List (List ℕ) → Result Channel ListFault
  channel_in (s ∷ c ∷ []) = then_read (number_in 1 v.slots s) (λ slot.
      then_read (number_in 1 most_channels c) (λ ch. Ok (slot, ch)))
  channel_in _ = Err BadNumber

  -- a channel more: not one that is there, nor one too many
  abbrev pub joined_with : Position → Channel → Result Position ListFault
  joined_with p c = if is_among p c then Err BadNumber else
      (if nat_lt (length p) v.joined then Ok (p ++ c ∷ []) else Err BadNumber)

  abbrev pub joined_in : Position → List (List ℕ) → Result Position ListFault
  joined_in p [] = Ok p
  joined_in p (a ∷ parts) = then_read (channel_in (parts_at 33 a)) (λ c.
      then_read (joined_with p c) (λ q. joined_in q parts))

  -- channels joined by `&`
  abbrev pub position_in : List (List ℕ) → Result Position ListFault
  position_in [] = Err BadNumber
  position_in (a ∷ parts) = then_read (channel_in (parts_at 33 a)) (λ c. joined_in (c ∷ []) parts)

  -- TRIGger, or one of as many ARM layers as there are
  abbrev pub layer_in : List ℕ → Result LayerName ListFault
  layer_in word = layer_among (take v.arm_layers arm_layers) word

  abbrev pub counter_in : List ℕ → Result ℕ ListFault
  counter_in part = number_in 0 (v.counters - 1) part

  -- the step of a word and one part, and of a word and two
  abbrev pub step_with : List ℕ → List ℕ → Result Step ListFault
  step_with word a =
      if bytes_eq word (codes "wait") then then_read (layer_in a) (λ name. Ok (step.Wait name))
      else (if bytes_eq word (codes "pause") then then_read (number_in 1 longest_delay a) (λ micros.
      Ok (step.Pause micros))
      else (if bytes_eq word (codes "close") then then_read (position_in (parts_at 38 a)) (λ p. Ok (step.Close p))
      else (if bytes_eq word (codes "open") then then_read (position_in (parts_at 38 a)) (λ p. Ok (step.Open p))
      else Err BadStep)))

  abbrev pub step_with_two : List ℕ → List ℕ → List ℕ → Result Step ListFault
  step_with_two word a b =
      if bytes_eq word (codes "set") then then_read (counter_in a) (λ k.
      then_read (number_in 1 most_trigger_count b) (λ n. Ok (step.Set k n)))
      else (if v.has_timer && bytes_eq word (codes "timer") then then_read (layer_in a) (λ name.
      then_read (number_in 1 longest_delay b) (λ micros. Ok (step.Timer name micros)))
      else (if bytes_eq word (codes "loop") then then_read (counter_in a) (λ k.
      then_read (number_in 0 (most_steps - 1) b) (λ to. Ok (step.Loop k to)))
      else Err BadStep))

  -- the step of a line's parts
  abbrev pub step_in : List (List ℕ) → Result Step ListFault
  step_in [] = Err BadStep
  step_in (word ∷ []) = plain_step word
  step_in (word ∷ a ∷ []) = step_with word a
  step_in (word ∷ a ∷ b ∷ []) = step_with_two word a b
  step_in (word ∷ a ∷ b ∷ c ∷ more) = Err BadStep

  -- the slot of the meter, by the parts of the second line
  abbrev pub meter_in : List (List ℕ) → Result ℕ ListFault
  meter_in (word ∷ s ∷ []) = if bytes_eq word (codes "meter") then number_in 1 v.slots s else Err BadStep
  meter_in _ = Err BadStep

  -- the step on a line; there is room for as many steps after the first two lines
  abbrev pub numbered_step : ℕ → List ℕ → Result Step ListFault
  numbered_step line text = then_read (step_in (parts_at 32 text))
      (λ s. if nat_lt (2 + most_steps) line then Err TooLong else Ok s)

  -- The steps of the lines from that number on. The last of the texts follows the last line feed; it is a line without
  -- its line feed, unless it is empty.
  abbrev pub steps_in : ℕ → List (List ℕ) → Result (List Step) ListError
  steps_in line [] = Ok []
  steps_in line (last ∷ []) = if length last == 0 then Ok [] else Err (record { line = line; kind = BadStep })
  steps_in line (text ∷ next ∷ more) =
      then_read (on_line line (numbered_step line text)) (λ s.
      then_read (steps_in (line + 1) (next ∷ more)) (λ steps. Ok (s ∷ steps)))

  -- the code of the lines from the second on
  abbrev pub code_after_version : List (List ℕ) → Result Program ListError
  code_after_version (text ∷ next ∷ more) =
      then_read (on_line 2 (meter_in (parts_at 32 text)))
      (λ meter. then_read (steps_in 3 (next ∷ more)) (λ steps. Ok (record { meter = meter; steps = steps })))
  code_after_version _ = Err (record { line = 2; kind = BadStep })

-- the version in the first line; the reader reads all the rest by it
abbrev pub code_of_lines : List (List ℕ) → Result Program ListError
code_of_lines (text ∷ next ∷ more) =
    then_read (on_line 1 (version_in text)) (λ v. code_after_version v (next ∷ more))
code_of_lines _ = Err (record { line = 1; kind = BadStep })

-- the code that a text lists, or its first fault
abbrev pub code_in : List ℕ → Result Program ListError
code_in text = code_of_lines (parts_at 10 text)

-- the version of a text, if its first line names one
abbrev pub version_of_lines : List (List ℕ) → Option Version
version_of_lines (text ∷ next ∷ more) = result_ok (version_in text)
version_of_lines _ = None

abbrev pub version_of : List ℕ → Option Version
version_of text = version_of_lines (parts_at 10 text)

-- the name of a fault, as `check` prints it
abbrev pub fault_name : ListFault → List ℕ
fault_name BadStep = codes "BadStep"
fault_name BadNumber = codes "BadNumber"
fault_name TooLong = codes "TooLong"
fault_name NoMemory = codes "NoMemory"
