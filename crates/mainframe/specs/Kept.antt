-- Reads one line, and keeps no more of it than a message may have.
use Rattle.std.specs.Prelude.{◌≡◌, ◌≢◌, ℕ, ◌+◌, Bool, true, List, [], ◌++◌, All, length, take, drop}
use Rattle.std.specs.Prelude.{Option, Some, IfSome, Result, Ok, OnSome}
use Rattle.std.specs.Io.{StopsAt, IsEmptyOrEndsWith}
use Rattle.std.specs.Io.KnownBytes.{Consumes, IsAtEnd}
use Rattle.std.specs.Io.BufRead.{take_through}
use Rattle.sw_base.specs.Limits.{most_kept}
use Rattle.mainframe.specs.declared.fault.RunFault.{RunFault}

-- bytes are gone; no more than the last of them is a line feed
abbrev pub CutsLine : Option (List ℕ) → Option (List ℕ) → Type 0
CutsLine old new = (cut : List ℕ) × Consumes old new cut × StopsAt cut 10

-- the first n bytes are a line with its line feed, and these bytes of it are kept
abbrev pub KeepsFront : List ℕ → ℕ → List ℕ → Type 0
KeepsFront bytes n kept =
    StopsAt (take n bytes) 10 × IsEmptyOrEndsWith (take n bytes) 10 × (kept ≡ take most_kept (take n bytes))

-- the first line of the bytes has this length, and these bytes of it are kept
abbrev pub IsFirstLine : List ℕ → ℕ → List ℕ → Type 0
IsFirstLine bytes n kept = (n ≡ length (take_through 10 bytes)) × (kept ≡ take most_kept (take_through 10 bytes))

-- so it is with the known bytes
abbrev pub ShowsLine : Option (List ℕ) → ℕ → List ℕ → Type 0
ShowsLine known n kept = (kept ≢ []) × IfSome known (λ bytes. IsFirstLine bytes n kept)

-- known bytes lose this many at the front
abbrev pub LosesFront : Option (List ℕ) → Option (List ℕ) → ℕ → Type 0
LosesFront old new n = IfSome old (λ bytes. new ≡ Some (drop n bytes))

-- The next part of a line is taken, and kept as far as there is room. Ok says whether the part ends the line, by its
-- line feed or at the end of the input.
pub record TakesPart (old new : Option (List ℕ)) (kept kept' : List ℕ) (result : Result Bool RunFault) : Type 0 where
  pub part : List ℕ
  pub consumed : Consumes old new part
  pub keeps : kept' ≡ take most_kept (kept ++ part)
  pub stops : StopsAt part 10
  pub ends : result ≡ Ok true → IsEmptyOrEndsWith part 10
  pub at_end : result ≡ Ok true → length part ≡ 0 → OnSome old (IsAtEnd new)
  pub goes_on : result ≢ Ok true → All (λ x. x ≢ 10) part
