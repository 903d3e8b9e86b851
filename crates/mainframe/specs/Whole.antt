-- Reading all that a reader has left.
use Rattle.std.specs.Prelude.{◌≡◌, ℕ, Bool, true, List, ◌++◌, Option, Result, Ok, OnOk}
use Rattle.std.specs.Io.KnownBytes.{Consumes, IsAtEnd}
use Rattle.mainframe.specs.declared.fault.RunFault.{RunFault}
use Rattle.mainframe.specs.declared.fault.RunFault.TheVariants.{Input, Output, Memory, Listen, Descriptors}

-- A piece of it is read, and at Ok kept behind what was read before. Ok says whether the reader is at its end then.
pub record TakesPiece (old new : Option (List ℕ)) (kept kept' : List ℕ) (result : Result Bool RunFault) : Type 0 where
  pub part : List ℕ
  pub consumed : Consumes old new part
  pub keeps : OnOk result (kept' ≡ kept ++ part)
  pub at_end : result ≡ Ok true → IsAtEnd new

-- a front part of it is read, or all
abbrev pub LosesPart : Option (List ℕ) → Option (List ℕ) → Type 0
LosesPart old new = (part : List ℕ) × Consumes old new part

-- it is read to the end, and is these bytes
pub record GivesWhole (old new : Option (List ℕ)) (bytes : List ℕ) : Type 0 where
  pub consumed : Consumes old new bytes
  pub at_end : IsAtEnd new

-- The state of a reader after a listing was to be read to its end and its judgement written. Where a read failed, or
-- memory ran out, a front part is read, or all. Where a write failed, all is.
abbrev pub StandsAt : RunFault → Option (List ℕ) → Option (List ℕ) → Type 0
StandsAt Input old new = LosesPart old new
StandsAt Memory old new = LosesPart old new
StandsAt Output old new = (bytes : List ℕ) × GivesWhole old new bytes
StandsAt Listen old new = ⊥
StandsAt Descriptors old new = ⊥
