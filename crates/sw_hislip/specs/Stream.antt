-- The stream of a connection, and what a decoder gives of it over all its calls.
use Rattle.std.specs.Prelude.{◌≡◌, ◌<◌, ◌+◌, ◌*◌, ℕ, nat_lt, ◌⊎◌, List, [], ◌∷◌, ◌++◌, length, map, Option, None, Some}
use Rattle.std.specs.Prelude.{Result, Ok, Err, if◌then◌else◌}
use Rattle.std.specs.List.{AllByRecursion, flat_map}
use Rattle.sw_hislip.specs.declared.fault.WireFault.{WireFault}
use Rattle.sw_hislip.specs.declared.fault.WireFault.TheVariants.{BadPrologue, TooLarge, NoMemory}
use Rattle.sw_hislip.specs.declared.header.Header.{Header}
use Rattle.sw_hislip.specs.declared.kind.Kind.{Kind}
use Rattle.sw_hislip.specs.declared.message.Message.{Message}
use Rattle.sw_hislip.specs.Wire.{wire, IsWireMessage, HasHeader}
use Rattle.sw_hislip.specs.Pending.{longest_payload, Pending, DecoderSeen, IsLean, nothing_fed, fed}
use Rattle.sw_hislip.specs.Pending.{HasWrongPrologue, Waits, GivesNext, HasMessage}

-- no whole message, however large, is at the front
abbrev pub IsRest : List ℕ → Type 0
IsRest rest = (m : Message) (more : List ℕ) → IsWireMessage m → rest ≡ wire m ++ more → ⊥

-- the bytes are these messages, and then a rest that is no whole message
pub record IsStream (bytes : List ℕ) (messages : List Message) (rest : List ℕ) : Type 0 where
  pub whole : bytes ≡ flat_map wire messages ++ rest
  pub each : AllByRecursion IsWireMessage messages
  pub partial : IsRest rest

-- what a decoder gives for a message: the message, or its kind where its payload is too large
abbrev pub told_of : Message → Result Message Kind
told_of m = if nat_lt longest_payload (length m.payload) then Err m.kind else Ok m

-- ---- a decoder's calls

-- a piece that was fed, or the answer to a call for the next message; a refused piece changes nothing, and is no call
pub data Call : Type 0 where
  feeds : List ℕ → Call
  answers : Result (Option Message) WireFault → Call

-- the calls in this order lead from one state to another
abbrev pub Decodes : Pending → List Call → Pending → Type 0
Decodes old [] new = new ≡ old
Decodes old (feeds piece ∷ calls) new = Decodes (fed old piece) calls new
Decodes old (answers answer ∷ calls) new = (after : Pending) × GivesNext old answer after × Decodes after calls new

-- all bytes that were fed
abbrev pub stream_of : List Call → List ℕ
stream_of [] = []
stream_of (feeds piece ∷ calls) = piece ++ stream_of calls
stream_of (answers answer ∷ calls) = stream_of calls

-- the messages that were given, and the kinds of those that were too large, in order
abbrev pub told : List Call → List (Result Message Kind)
told [] = []
told (answers (Ok (Some m)) ∷ calls) = Ok m ∷ told calls
told (answers (Err (TooLarge kind)) ∷ calls) = Err kind ∷ told calls
told (answers (Ok None) ∷ calls) = told calls
told (answers (Err BadPrologue) ∷ calls) = told calls
told (answers (Err NoMemory) ∷ calls) = told calls
told (feeds piece ∷ calls) = told calls

-- ---- a decoder's place in the stream

-- The front of a message with a payload that is too large and that the decoder skips; `skip` of its bytes are still to
-- come.
pub record IsSkipped (rest : List ℕ) (kind : Kind) (skip : ℕ) : Type 0 where
  pub h : Header
  pub got : List ℕ
  pub begins : HasHeader rest h got
  pub large : longest_payload < h.length
  pub kind_is : h.kind ≡ kind
  pub missing : length got + skip ≡ h.length
  pub some : 0 < skip

-- A decoder gave these messages, and the rest is pending; or the rest is the front of a message that it skips; it gave
-- that one's kind too.
abbrev pub Leaves : List Message → List ℕ → List (Result Message Kind) → Pending → Type 0
Leaves messages rest told p =
    ((told ≡ map told_of messages) × (p ≡ record { bytes = rest; skip = 0 }))
    ⊎ ((kind : Kind) × IsSkipped rest kind p.skip × (told ≡ map told_of messages ++ Err kind ∷ []) × (p.bytes ≡ []))

-- What a decoder gave is the messages of the stream, from its start on and in order, and no others.
pub record Follows (bytes : List ℕ) (told : List (Result Message Kind)) (p : Pending) : Type 0 where
  pub messages : List Message
  pub rest : List ℕ
  pub each : AllByRecursion IsWireMessage messages
  pub whole : bytes ≡ flat_map wire messages ++ rest
  pub leaves : Leaves messages rest told p

-- A decoder rests: it waits for more bytes, or it is at a wrong prologue.
abbrev pub Rests : List ℕ → Type 0
Rests bytes = Waits bytes ⊎ HasWrongPrologue bytes

-- ---- the laws

-- Any calls of a new decoder give the messages of the stream, in order.
abbrev pub EveryMessageComesOut : List Call → Pending → Type 0
EveryMessageComesOut calls p = Decodes nothing_fed calls p → Follows (stream_of calls) (told calls) p

-- A decoder that rests has given every message: what is left is no whole one.
abbrev pub LeavesARest : List ℕ → List (Result Message Kind) → Pending → Type 0
LeavesARest bytes told p = (f : Follows bytes told p) → Rests p.bytes → IsStream bytes f.messages f.rest

-- bytes are one list of messages and one rest
abbrev pub OneStream : List ℕ → Type 0
OneStream bytes =
    (ms ns : List Message) (rest other : List ℕ) → IsStream bytes ms rest → IsStream bytes ns other
    → (ms ≡ ns) × (rest ≡ other)

-- Two decoders that were fed the same stream and rest gave the same, and the same is pending in both.
abbrev pub TellAlike : List ℕ → List (Result Message Kind) → List (Result Message Kind) → Pending → Pending → Type 0
TellAlike bytes t u p q =
    Follows bytes t p → Follows bytes u q → Rests p.bytes → Rests q.bytes → (t ≡ u) × (p ≡ q)

-- the same of two lists of calls that feed one stream, each in its own pieces
abbrev pub CutsDoNotMatter : List Call → List Call → Type 0
CutsDoNotMatter calls others =
    (p q : Pending) → Decodes nothing_fed calls p → Decodes nothing_fed others q → Rests p.bytes → Rests q.bytes
    → stream_of calls ≡ stream_of others → (told calls ≡ told others) × (p ≡ q)

-- a decoder that waits for more keeps less than twice a header and the longest payload in memory
abbrev pub RoomIsBounded : DecoderSeen → Type 0
RoomIsBounded d = IsLean d → Waits d.pending.bytes → d.room < 2 * (16 + longest_payload)

-- A message on the wire is given, with any bytes behind it, unless there is no memory for it.
abbrev pub ComesBack : Message → Type 0
ComesBack m =
    (old new : Pending) (more : List ℕ) (answer : Result (Option Message) WireFault) → HasMessage old.bytes m more
    → GivesNext old answer new
    → ((answer ≡ Ok (Some m)) × (new ≡ record { bytes = more; skip = old.skip })) ⊎ (answer ≡ Err NoMemory)

-- every answer is that the prologue is wrong
abbrev pub AllWrong : List Call → Type 0
AllWrong [] = Unit {0}
AllWrong (feeds piece ∷ calls) = AllWrong calls
AllWrong (answers answer ∷ calls) = (answer ≡ Err BadPrologue) × AllWrong calls

-- Once a decoder is at a wrong prologue, it answers nothing else.
abbrev pub WrongPrologueStays : List Call → Type 0
WrongPrologueStays calls = (p q : Pending) → HasWrongPrologue p.bytes → Decodes p calls q → AllWrong calls
