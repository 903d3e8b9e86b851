-- Messages on the wire (IVI-6.1 HiSLIP, message header).
use Rattle.std.specs.Prelude.{◌≡◌, ◌<◌, ◌^◌, ℕ, List, ◌∷◌, ◌++◌, length}
use Rattle.std.specs.Int.{w32, w64, to_be_bytes}
use Rattle.sw_hislip.specs.declared.header.Header.{Header}
use Rattle.sw_hislip.specs.declared.message.Message.{Message}
use Rattle.sw_hislip.specs.Kinds.{kind_number, IsKind}

-- the 16 bytes of a header: `HS`, kind, control code, parameter, length of the payload
abbrev pub header : Header → List ℕ
header h = 0x48 ∷ 0x53 ∷ kind_number h.kind ∷ h.control ∷ (to_be_bytes w32 h.parameter ++ to_be_bytes w64 h.length)

abbrev pub header_of : Message → Header
header_of m = record { kind = m.kind; control = m.control; parameter = m.parameter; length = length m.payload }

-- a message: its header and its payload
abbrev pub wire : Message → List ℕ
wire m = header (header_of m) ++ m.payload

-- what a header may hold
pub record IsHeader (h : Header) : Type 0 where
  pub kind : IsKind h.kind
  pub control : h.control < 256
  pub parameter : h.parameter < 2 ^ 32
  pub length : h.length < 2 ^ 64

abbrev pub IsWireMessage : Message → Type 0
IsWireMessage m = IsHeader (header_of m)

-- the bytes are a header, and what follows it
pub record HasHeader (bytes : List ℕ) (h : Header) (more : List ℕ) : Type 0 where
  pub whole : bytes ≡ header h ++ more
  pub proper : IsHeader h
