-- The contents of the messages of an instrument (IVI-6.1 HiSLIP; what is said to be own is this instrument's choice).
use Rattle.std.specs.Prelude.{◌≡◌, ℕ, ◌+◌, ◌-◌, ◌*◌, ◌/◌, ◌^◌, ◌<◌, ◌≤◌, ◌%◌, min, max, nat_eq, bit_or, Bool, List, []}
use Rattle.std.specs.Prelude.{◌∷◌, ◌++◌, length, take, drop, replicate, if◌then◌else◌}
use Rattle.std.specs.Str.{IsAscii}
use Rattle.std.specs.Int.{w64, to_be_bytes, from_be_bytes}
use Rattle.sw_hislip.specs.declared.kind.Kind.{Kind}
use Rattle.sw_hislip.specs.declared.message.Message.{Message}
use Rattle.sw_channels.specs.declared.refusals.ErrorCode.{ErrorCode}
use Rattle.sw_channels.specs.declared.refusals.ErrorCode.TheVariants.{UnrecognizedType, UnrecognizedControl}
use Rattle.sw_channels.specs.declared.refusals.ErrorCode.TheVariants.{UnrecognizedVendor, TooLarge}
use Rattle.sw_channels.specs.declared.refusals.FatalCode.{FatalCode}
use Rattle.sw_channels.specs.declared.refusals.FatalCode.TheVariants.{PoorlyFormed, WithoutBothChannels}
use Rattle.sw_channels.specs.declared.refusals.FatalCode.TheVariants.{InvalidInitialization, TooManyClients}

-- a message without a payload
abbrev pub plain : Kind → ℕ → ℕ → Message
plain kind control parameter = record { kind = kind; control = control; parameter = parameter; payload = [] }

-- ---- faults (error codes of Error and FatalError)

abbrev pub error_number : ErrorCode → ℕ
error_number UnrecognizedType = 1
error_number UnrecognizedControl = 2
error_number UnrecognizedVendor = 3
error_number TooLarge = 4

abbrev pub fatal_number : FatalCode → ℕ
fatal_number PoorlyFormed = 1
fatal_number WithoutBothChannels = 2
fatal_number InvalidInitialization = 3
fatal_number TooManyClients = 4

-- the control code is the code of a fault, and nothing else is said of it (own)
abbrev pub error_message : ErrorCode → Message
error_message code = plain Kind.Error (error_number code) 0

abbrev pub fatal_of : FatalCode → Message
fatal_of code = plain Kind.FatalError (fatal_number code) 0

-- ---- initialization

-- a sub-address: ASCII, of 256 bytes at most
pub record IsSubAddress (bytes : List ℕ) : Type 0 where
  pub short : length bytes ≤ 256
  pub ascii : IsAscii bytes

-- the version of the protocol that an instrument speaks, 1.0
abbrev pub own_version : ℕ
own_version = 0x0100

-- the version that a client speaks is the upper half of the parameter
abbrev pub version_told : ℕ → ℕ
version_told parameter = parameter / 2 ^ 16

-- InitializeResponse: the smaller of the two versions in the upper half, the session's number in the lower one
abbrev pub welcome : ℕ → ℕ → Message
welcome parameter number = plain Kind.InitializeResponse 0 (min own_version (version_told parameter) * 2 ^ 16 + number)

-- AsyncInitializeResponse: the vendor, `SW` (own)
abbrev pub second_welcome : Message
second_welcome = plain Kind.AsyncInitializeResponse 0 0x5357

-- ---- sizes

-- The size that a client sends: the number in the first eight bytes of the payload. Fewer bytes are a shorter number
-- (own).
abbrev pub size_told : List ℕ → ℕ
size_told payload = from_be_bytes w64 (replicate (8 - length payload) 0 ++ take 8 payload)

-- the size that the instrument takes: 65,536 bytes of a payload
abbrev pub size_response : Message
size_response = record {
  kind = Kind.AsyncMaximumMessageSizeResponse;
  control = 0;
  parameter = 0;
  payload = to_be_bytes w64 65536;
}

-- how many bytes of an answer go into one payload for a client that takes messages of this size (own)
abbrev pub room_of : ℕ → ℕ
room_of size = max 1 (min size 65536 - 16)

-- a part of an answer under this identifier
abbrev pub part : Kind → ℕ → List ℕ → Message
part kind id bytes = record { kind = kind; control = 0; parameter = id; payload = bytes }

-- An answer, cut so that each payload has this many bytes but the last, which may have fewer: all but the last go as
-- Data, the last as DataEnd.
abbrev pub IsCut : ℕ → ℕ → List ℕ → List Message → Type 0
IsCut room id bytes [] = ⊥
IsCut room id bytes (m ∷ []) = (length bytes ≤ room) × (m ≡ part Kind.DataEnd id bytes)
IsCut room id bytes (m ∷ n ∷ more) = (room < length bytes) × (m ≡ part Kind.Data id (take room bytes))
    × IsCut room id (drop room bytes) (n ∷ more)

-- ---- delivery and status

-- bit 0 of the control code: the client has taken the last answer whole (RMT)
abbrev pub tells_delivery : ℕ → Bool
tells_delivery control = nat_eq (control % 2) 1

-- the status byte with MAV, bit 4, and RQS, bit 6 (IEEE 488.2, 11.2)
abbrev pub status_byte : ℕ → Bool → Bool → ℕ
status_byte byte mav rqs = bit_or (bit_or byte (if mav then 2 ^ 4 else 0)) (if rqs then 2 ^ 6 else 0)

-- ---- locks and remote control

-- AsyncLockInfoResponse: whether a session holds the exclusive lock, and how many sessions hold a lock
abbrev pub lock_info : Bool → ℕ → Message
lock_info exclusive holders = plain Kind.AsyncLockInfoResponse (if exclusive then 1 else 0) holders
