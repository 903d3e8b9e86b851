-- The state of a server of one channel, and what it speaks by.
use Rattle.std.specs.Prelude.{ℕ, List, Option}
use Rattle.sw_core.specs.declared.ask.Sid.{Sid}
use Rattle.sw_channels.specs.declared.step.Channel.{Channel}
use Rattle.sw_channels.specs.Said.{StepSeen}
use Rattle.sw_session.specs.Acts.{Act}
use Rattle.sw_talk.specs.Trace.{Entry}

-- An engine's definition: what it asks and says to an act, and its state then; what it may have asked, and its possible
-- state, where it found no memory; and which session it has joined.
pub record Protocol (E : Type 0) : Type 1 where
  pub speaks : E → Act → List Entry → StepSeen → E → Type 0
  pub falters : E → Act → List Entry → E → Type 0
  pub session : E → Option Sid

-- What one channel's server rests on: the engine's definition, what passes between it and its desk, and which channel
-- it serves.
pub record Voice (E D : Type 0) : Type 1 where
  pub protocol : Protocol E
  pub passes : D → Entry → D → Type 0
  pub own : Channel

abbrev pub voice : {E D : Type 0} → Protocol E → (D → Entry → D → Type 0) → Channel → Voice E D
voice v passes own = record { protocol = v; passes = passes; own = own }

-- the state of a server: its engine, its desk, and what its two writers hold
pub record Point (E D : Type 0) : Type 0 where
  pub engine : E
  pub desk : D
  pub main : Option (List ℕ)
  pub side : Option (List ℕ)

abbrev pub point : {E D : Type 0} → E → D → Option (List ℕ) → Option (List ℕ) → Point E D
point s d w x = record { engine = s; desk = d; main = w; side = x }
