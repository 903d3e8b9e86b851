-- What contracts know of the other end of a wire: the bytes of the exchange, and which coils are on.
use Rattle.std.specs.Prelude.{◌≡◌, ◌<◌, ◌≤◌, ◌⊎◌, ℕ, ◌+◌, ◌/◌, ◌%◌, ◌==◌, Bool, true, false, List, ◌∷◌, ◌++◌}
use Rattle.std.specs.Prelude.{Option, Some, None, IsTrue}
use Rattle.std.specs.Prelude.{get_or}
use Rattle.std.specs.Int.{bit_at}
use Rattle.sw_drivers.specs.declared.frame.Request.{Request as Asked}
use Rattle.sw_drivers.specs.declared.frame.Request.TheVariants.{Read, Write, Clear}
use Rattle.sw_drivers.specs.declared.frame.Wrapping.{Wrapping as Wrapped}
use Rattle.sw_drivers.specs.Frames.{confirms, frame, tells, wrapped}

-- these are all bytes of the exchange, where they are known
abbrev pub IsAll : Option (List ℕ) → List ℕ → Type 0
IsAll None bytes = Unit {0}
IsAll (Some all) bytes = all ≡ bytes

-- known bytes with more behind them
abbrev pub grown : Option (List ℕ) → List ℕ → Option (List ℕ)
grown None more = None
grown (Some bytes) more = Some (bytes ++ more)

-- whether a board of coils has this one on: eight coils a byte, the first one lowest
abbrev pub is_on : List ℕ → ℕ → Bool
is_on states k = bit_at (get_or states (k / 8) 0) (k % 8) == 1

-- no coil of any unit has come on
abbrev pub Fewer : (ℕ → ℕ → Bool) → (ℕ → ℕ → Bool) → Type 0
Fewer old new = (unit coil : ℕ) → IsTrue (new unit coil) → IsTrue (old unit coil)

-- the request switches this coil on
abbrev pub SwitchesOn : Asked → ℕ → Type 0
SwitchesOn (Read first count) coil = ⊥
SwitchesOn (Write at on) coil = (on ≡ true) × (coil ≡ at)
SwitchesOn (Clear first count) coil = ⊥

-- no coil has come on, unless the request asked this unit to switch it on
abbrev pub Switched : ℕ → Asked → (ℕ → ℕ → Bool) → (ℕ → ℕ → Bool) → Type 0
Switched asked request old new =
    (unit coil : ℕ) → IsTrue (new unit coil) → IsTrue (old unit coil) ⊎ ((unit ≡ asked) × SwitchesOn request coil)

-- by this answer to the request the coil is off
abbrev pub SaysOff : Asked → List ℕ → ℕ → Type 0
SaysOff (Read first count) answer coil =
    (states : List ℕ) × (k : ℕ) × (answer ≡ tells count states) × (k < count) × (coil ≡ first + k)
    × (is_on states k ≡ false)
SaysOff (Write at on) answer coil = (answer ≡ confirms (Write at on)) × (on ≡ false) × (coil ≡ at)
SaysOff (Clear first count) answer coil =
    (answer ≡ confirms (Clear first count)) × (first ≤ coil) × (coil < first + count)

-- a coil that is off by the answer to a request is off
abbrev pub IsHonest : Option (List ℕ) → Option (List ℕ) → (ℕ → ℕ → Bool) → Type 0
IsHonest asked answered on = (wrapping : Wrapped) (number unit : ℕ) (request : Asked) (answer : List ℕ) (coil : ℕ)
    → IsAll asked (frame wrapping number unit request) → IsAll answered (wrapped wrapping number (unit ∷ answer))
    → SaysOff request answer coil → on unit coil ≡ false
