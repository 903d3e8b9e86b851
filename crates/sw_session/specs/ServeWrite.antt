-- What is written of messages.
use Rattle.std.specs.Prelude.{◌≡◌, ℕ, Bool, true, false, List, [], ◌++◌, Option, Result, Ok, Err, if◌then◌else◌}
use Rattle.std.specs.Io.KnownBytes.{Appends}
use Rattle.sw_hislip.specs.Wire.{wire}
use Rattle.sw_channels.specs.declared.step.Channel.{Channel}
use Rattle.sw_channels.specs.declared.step.Channel.TheVariants.{Synchronous, Asynchronous}
use Rattle.sw_channels.specs.declared.step.Sent.{Sent}

-- a message of that channel goes to the writer of this one
abbrev pub is_own : Channel → Channel → Bool
is_own Synchronous Synchronous = true
is_own Asynchronous Asynchronous = true
is_own Synchronous Asynchronous = false
is_own Asynchronous Synchronous = false

-- what the writer gets of a message
abbrev pub wire_on : Channel → Sent → List ℕ
wire_on own s = if is_own own s.channel then wire s.message else []

-- what the side writer gets of a message
abbrev pub wire_off : Channel → Sent → List ℕ
wire_off own s = if is_own own s.channel then [] else wire s.message

-- a front part of the bytes is written
pub record WritesPart (old new : Option (List ℕ)) (bytes : List ℕ) : Type 0 where
  pub front : List ℕ
  pub back : List ℕ
  pub parts : bytes ≡ front ++ back
  pub writes : Appends old new front

-- all of the bytes are written, or a front part of them where that fails
abbrev pub Wrote : {F : Type 0} → Result (Unit {0}) F → Option (List ℕ) → Option (List ℕ) → List ℕ → Type 0
Wrote (Ok _) old new bytes = Appends old new bytes
Wrote (Err _) old new bytes = WritesPart old new bytes
