-- What a decoder has not taken yet, and what its calls make of it.
use Rattle.std.specs.Prelude.{◌≡◌, ◌≢◌, ◌<◌, ◌≤◌, ◌*◌, ◌-◌, ℕ, ◌⊎◌, List, [], ◌∷◌, ◌++◌, length, take, drop, Option}
use Rattle.std.specs.Prelude.{None, Some, IfSome, Result, Ok, Err}
use Rattle.sw_base.specs.Limits.{most_bytes}
use Rattle.sw_hislip.specs.declared.fault.WireFault.{WireFault}
use Rattle.sw_hislip.specs.declared.fault.WireFault.TheVariants.{BadPrologue, TooLarge, NoMemory}
use Rattle.sw_hislip.specs.declared.header.Header.{Header}
use Rattle.sw_hislip.specs.declared.kind.Kind.{Kind}
use Rattle.sw_hislip.specs.declared.message.Message.{Message}
use Rattle.sw_hislip.specs.Wire.{HasHeader, wire, IsWireMessage}

-- the most bytes of a payload that the decoder takes
abbrev pub longest_payload : ℕ
longest_payload = most_bytes

-- the bytes that were fed and not taken, and how many of the bytes to come are of a payload that is skipped
pub record Pending : Type 0 where
  pub bytes : List ℕ
  pub skip : ℕ

-- What contracts see of a decoder: what is pending, and how many bytes of the stream it keeps in memory.
pub record DecoderSeen : Type 0 where
  pub pending : Pending
  pub room : ℕ

-- The decoder keeps nothing of a payload that it skips, and of what was taken no more than of what is pending.
pub record IsLean (d : DecoderSeen) : Type 0 where
  pub skipped : 0 < d.pending.skip → d.room ≡ 0
  pub held : length d.pending.bytes ≤ d.room
  pub spare : d.room ≤ 2 * length d.pending.bytes

-- a decoder at the start
abbrev pub nothing_fed : Pending
nothing_fed = record { bytes = []; skip = 0 }

-- of these bytes nothing was taken yet, and nothing is skipped
abbrev pub heard : List ℕ → Pending
heard bytes = record { bytes = bytes; skip = 0 }

-- after a piece of the stream: the decoder keeps nothing of what it skips
abbrev pub fed : Pending → List ℕ → Pending
fed p piece = record { bytes = p.bytes ++ drop p.skip piece; skip = p.skip - length piece }

-- 16 bytes are there, and the first two are not `HS`
pub record HasWrongPrologue (bytes : List ℕ) : Type 0 where
  pub header : 16 ≤ length bytes
  pub wrong : take 2 bytes ≢ 0x48 ∷ 0x53 ∷ []

-- the bytes begin with a whole message, not too large, and more follows it
pub record HasMessage (bytes : List ℕ) (m : Message) (more : List ℕ) : Type 0 where
  pub whole : bytes ≡ wire m ++ more
  pub proper : IsWireMessage m
  pub fits : length m.payload ≤ longest_payload

-- the bytes begin with the header of a payload that is too large, and this much of the payload
pub record IsTooLarge (bytes : List ℕ) (h : Header) (got : List ℕ) : Type 0 where
  pub begins : HasHeader bytes h got
  pub large : longest_payload < h.length

-- the bytes begin with the header of a payload that is not too large, and less than that payload
pub record LacksPayload (bytes : List ℕ) : Type 0 where
  pub h : Header
  pub got : List ℕ
  pub begins : HasHeader bytes h got
  pub fits : h.length ≤ longest_payload
  pub lacks : length got < h.length

-- no whole message, and no fault in sight: less than a header is there, or less than its payload
abbrev pub Waits : List ℕ → Type 0
Waits bytes = (length bytes < 16) ⊎ LacksPayload bytes

-- without n bytes at the front
abbrev pub without_front : Pending → ℕ → Pending
without_front p n = record { bytes = drop n p.bytes; skip = p.skip }

-- with this much of a payload of n bytes that the decoder skips
abbrev pub skipping : List ℕ → ℕ → Pending
skipping got n = record { bytes = drop n got; skip = n - length got }

-- What the decoder gives for the bytes at the front, and what is pending after it.
abbrev pub GivesNext : Pending → Result (Option Message) WireFault → Pending → Type 0
GivesNext old (Ok (Some m)) new = HasMessage old.bytes m new.bytes × (new.skip ≡ old.skip)
GivesNext old (Ok None) new = Waits old.bytes × (new ≡ old)
GivesNext old (Err BadPrologue) new = HasWrongPrologue old.bytes × (new ≡ old)
-- the decoder drops what is there of the payload, and has the rest of it to skip
GivesNext old (Err (TooLarge kind)) new =
    (h : Header) × (got : List ℕ) × IsTooLarge old.bytes h got × (h.kind ≡ kind) × (new ≡ skipping got h.length)
-- there is a message, and no memory for its payload
GivesNext old (Err NoMemory) new = (m : Message) × (more : List ℕ) × HasMessage old.bytes m more × (new ≡ old)

-- what the header at the front is, if it is there
abbrev pub ReadsHeader : List ℕ → Result (Option Header) WireFault → Type 0
ReadsHeader bytes (Ok None) = length bytes < 16
ReadsHeader bytes (Ok (Some h)) = HasHeader bytes h (drop 16 bytes)
ReadsHeader bytes (Err e) = (e ≡ BadPrologue) × HasWrongPrologue bytes

-- the bytes begin with the header of a message of this kind
abbrev pub BeginsWith : Kind → List ℕ → Type 0
BeginsWith kind bytes = (h : Header) × (got : List ℕ) × HasHeader bytes h got × (h.kind ≡ kind)

-- the kind of the message whose header is at the front, where there is one
pub record IsFrontKind (bytes : List ℕ) (found : Option Kind) : Type 0 where
  pub some : IfSome found (λ kind. BeginsWith kind bytes)
  pub only : (kind : Kind) → BeginsWith kind bytes → found ≡ Some kind
