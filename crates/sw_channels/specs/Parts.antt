-- A message that comes in parts is one message.
use Rattle.std.specs.Prelude.{Bool, ◌≡◌, ℕ, List, [], ◌∷◌, ◌++◌, Some, ◌↔◌}
use Rattle.std.specs.List.{concat}
use Rattle.std.specs.Io.BufRead.{strip_last}
use Rattle.sw_macro.specs.Table.{Table}
use Rattle.sw_core.specs.declared.ask.Sid.{Sid}
use Rattle.sw_talk.specs.Trace.{Entry}
use Rattle.sw_talk.specs.Talk.{TalksMessage}
use Rattle.sw_channels.specs.EngineSync.{with_part, whole}
use Rattle.sw_channels.specs.declared.partial_message.PartialMessage.{PartialMessage}

-- the front of a program message with these parts, one after another
abbrev pub with_parts : PartialMessage → List (List ℕ) → PartialMessage
with_parts partial [] = partial
with_parts partial (part ∷ parts) = with_parts (with_part partial part) parts

-- The talk about the one message is the talk about the other.
abbrev pub IsSameMessage : List ℕ → List ℕ → Type 0
IsSameMessage text text' = (sid : Sid) (macros macros' : Table) (trace : List Entry) (bytes : List ℕ)
    (lasts : Bool) → TalksMessage sid macros (strip_last 10 text) trace bytes lasts macros'
    ↔ TalksMessage sid macros (strip_last 10 text') trace bytes lasts macros'

-- A program message that came in parts, none of them skipped, is talked over as all their bytes, however many they are.
abbrev pub PartsAreOneMessage : Type 0
PartsAreOneMessage = (parts : List (List ℕ)) (last : List ℕ) → (text : List ℕ)
    × (whole (with_parts PartialMessage.Nothing parts) last ≡ Some text) × IsSameMessage text (concat parts ++ last)
