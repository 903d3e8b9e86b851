-- The requests to a board of coils and its responses (MODBUS Application Protocol V1.1b3: 6.1, 6.5, 6.11, 7), and their
-- frames on the wire (MODBUS Messaging on TCP/IP, 3.1.3; MODBUS over Serial Line, 2.5.1).
use Rattle.std.specs.Prelude.{◌<◌, ◌≤◌, ℕ, ◌+◌, ◌/◌, List, [], ◌∷◌, ◌++◌, length, replicate, if◌then◌else◌}
use Rattle.std.specs.Int.{w16, to_be_bytes, to_le_bytes}
use Rattle.sw_drivers.specs.declared.frame.Request.{Request as Asked}
use Rattle.sw_drivers.specs.declared.frame.Request.TheVariants.{Read, Write, Clear}
use Rattle.sw_drivers.specs.declared.frame.Wrapping.{Wrapping as Wrapped}
use Rattle.sw_drivers.specs.declared.frame.Wrapping.TheVariants.{Tcp, Rtu}
use Rattle.sw_drivers.specs.Crc.{crc_of}

-- the number of bytes for the states of this many coils
abbrev pub bytes_for : ℕ → ℕ
bytes_for count = (count + 7) / 8

-- a card has no more channels
abbrev pub IsSmall : Asked → Type 0
IsSmall (Read first count) = count ≤ 99
IsSmall (Write coil on) = Unit {0}
IsSmall (Clear first count) = count ≤ 99

-- its numbers are those of two bytes
abbrev pub IsInRange : Asked → Type 0
IsInRange (Read first count) = (first < 65536) × (count < 65536)
IsInRange (Write coil on) = coil < 65536
IsInRange (Clear first count) = (first < 65536) × (count < 65536)

-- the function and its data
abbrev pub asks : Asked → List ℕ
asks (Read first count) = 1 ∷ (to_be_bytes w16 first ++ to_be_bytes w16 count)
asks (Write coil on) = 5 ∷ (to_be_bytes w16 coil ++ (if on then 255 else 0) ∷ 0 ∷ [])
asks (Clear first count) =
    15 ∷ (to_be_bytes w16 first ++ (to_be_bytes w16 count ++ bytes_for count ∷ replicate (bytes_for count) 0))

-- the bytes behind the header, or before the checksum
abbrev pub body : ℕ → Asked → List ℕ
body unit asked = unit ∷ asks asked

-- the whole frame, for the board of this unit
abbrev pub wrapped : Wrapped → ℕ → List ℕ → List ℕ
wrapped Tcp number bytes = to_be_bytes w16 number ++ (0 ∷ 0 ∷ (to_be_bytes w16 (length bytes) ++ bytes))
wrapped Rtu number bytes = bytes ++ to_le_bytes w16 (crc_of bytes)

abbrev pub frame : Wrapped → ℕ → ℕ → Asked → List ℕ
frame wrapping number unit asked = wrapped wrapping number (body unit asked)

-- the response of a board that has made the requested change
abbrev pub confirms : Asked → List ℕ
confirms (Read first count) = []
confirms (Write coil on) = asks (Write coil on)
confirms (Clear first count) = 15 ∷ (to_be_bytes w16 first ++ to_be_bytes w16 count)

-- the response to a request for the states of this many coils: eight coils a byte, the first one lowest
abbrev pub tells : ℕ → List ℕ → List ℕ
tells count states = 1 ∷ bytes_for count ∷ states

abbrev pub function : Asked → ℕ
function (Read first count) = 1
function (Write coil on) = 5
function (Clear first count) = 15

-- the response that refuses, by an exception's code
abbrev pub refuses : Asked → ℕ → List ℕ
refuses asked code = (128 + function asked) ∷ code ∷ []

-- the number of bytes of the function and the data in a response that doesn't refuse
abbrev pub answer_size : Asked → ℕ
answer_size (Read first count) = 2 + bytes_for count
answer_size (Write coil on) = 5
answer_size (Clear first count) = 5
