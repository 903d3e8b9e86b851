-- What a server of one channel asks and writes for what it reads. An engine takes one act after another; an exchange is
-- an act with what was asked and said for it.
use Rattle.std.specs.Prelude.{◌≡◌, ◌≢◌, ℕ, ◌+◌, ◌<◌, ◌≤◌, ◌⊎◌, Bool, true, false, List, [], ◌∷◌, ◌++◌, length, map}
use Rattle.std.specs.Prelude.{Option, None, Some, Result, Ok, Err, IfOk, if◌then◌else◌}
use Rattle.std.specs.List.{flat_map}
use Rattle.std.specs.Io.KnownBytes.{Appends, Consumes, IsAtEnd}
use Rattle.sw_hislip.specs.declared.fault.WireFault.{WireFault}
use Rattle.sw_hislip.specs.declared.fault.WireFault.TheVariants.{TooLarge, BadPrologue}
use Rattle.sw_hislip.specs.declared.kind.Kind.{Kind}
use Rattle.sw_hislip.specs.declared.message.Message.{Message}
use Rattle.sw_hislip.specs.Pending.{Pending, fed, Waits, GivesNext, HasMessage, HasWrongPrologue}
use Rattle.sw_hislip.specs.Stream.{Call, Decodes, stream_of, told, Follows, IsStream, Rests}
use Rattle.sw_core.specs.declared.ask.Sid.{Sid}
use Rattle.sw_core.specs.declared.ask.SessionAsk.TheVariants as Ask
use Rattle.sw_core.specs.declared.ask.SessionAnswer.{SessionAnswer}
use Rattle.sw_channels.specs.declared.step.Sent.{Sent}
use Rattle.sw_channels.specs.Said.{StepSeen, fatal_code}
use Rattle.sw_session.specs.Acts.{Act, Takes, Skips, Refuses, Notices, asked_by}
use Rattle.sw_session.specs.declared.after_step.AfterStep.{AfterStep}
use Rattle.sw_session.specs.declared.after_step.AfterStep.TheVariants.{Goes, Ends, Fatal, Malformed}
use Rattle.sw_session.specs.declared.fault.ServeFault.{ServeFault}
use Rattle.sw_session.specs.declared.fault.ServeFault.TheVariants as Fault
use Rattle.sw_session.specs.declared.turns.Received.{Received}
use Rattle.sw_session.specs.declared.turns.Received.TheVariants.{End, Bytes, Paused}
use Rattle.sw_session.specs.declared.turns.Next.{Next}
use Rattle.sw_session.specs.declared.turns.Next.TheVariants.{On, Over}
use Rattle.sw_talk.specs.Trace.{Entry, Asked, Leads}
use Rattle.sw_session.specs.ServeRead.{PausesBy}
use Rattle.sw_session.specs.ServeWrite.{wire_on, wire_off}
use Rattle.sw_session.specs.ServePoint.{Protocol, Voice, Point, point}
use Rattle.sw_session.specs.ServeHand.{availability_notes, HandsOver, HandsUpTo}

-- ---- acts

-- what a server does for what it reads: before each message is taken it looks for service requests
abbrev pub acts_for : Act → List Act
acts_for (Takes m) = Notices ∷ Takes m ∷ []
acts_for (Skips kind) = Skips kind ∷ []
acts_for Refuses = Refuses ∷ []
acts_for Notices = Notices ∷ []

-- what the decoder gave: a message, or the kind of one that is too large; nothing at a read that a time limit ended
abbrev pub arrived : Act → List (Result Message Kind)
arrived (Takes m) = Ok m ∷ []
arrived (Skips kind) = Err kind ∷ []
arrived Refuses = []
arrived Notices = []

abbrev pub is_pause : Act → ℕ
is_pause Notices = 1
is_pause (Takes m) = 0
is_pause (Skips kind) = 0
is_pause Refuses = 0

-- how many reads a time limit ended
abbrev pub pauses : List Act → ℕ
pauses [] = 0
pauses (i ∷ inputs) = is_pause i + pauses inputs

-- ---- exchanges

-- an act, what was asked for it, what was said, and the notes of a message available made as the server gave that to
-- its writer
pub record Exchange : Type 0 where
  pub act : Act
  pub asked : List Entry
  pub step : StepSeen
  pub noted : List Entry

abbrev pub is_refused : Act → Bool
is_refused Refuses = true
is_refused (Takes m) = false
is_refused (Skips kind) = false
is_refused Notices = false

-- how the channel ends by a fatal error of this code, or without one
abbrev pub ended_by : Option ℕ → AfterStep
ended_by None = Ends
ended_by (Some code) = Fatal code

-- how the channel continues: a wrong prologue ends it, and so does a step that says so, with a fatal error or without
abbrev pub after_step : Bool → StepSeen → AfterStep
after_step true step = Malformed
after_step false step = if step.ends then ended_by (fatal_code step.out) else Goes

-- another act may follow
abbrev pub goes_on : Result AfterStep ServeFault → Bool
goes_on (Ok Goes) = true
goes_on (Ok Ends) = false
goes_on (Ok (Fatal code)) = false
goes_on (Ok Malformed) = false
goes_on (Err fault) = false

abbrev pub ProceedsAfter : {E : Type 0} → Type 0 → AfterStep → E → List Exchange → AfterStep → E → Type 0
ProceedsAfter on Goes mid xs after s' = on
ProceedsAfter on Ends mid xs after s' = (xs ≡ []) × (after ≡ Ends) × (s' ≡ mid)
ProceedsAfter on (Fatal code) mid xs after s' = (xs ≡ []) × (after ≡ Fatal code) × (s' ≡ mid)
ProceedsAfter on Malformed mid xs after s' = (xs ≡ []) × (after ≡ Malformed) × (s' ≡ mid)

-- an engine goes through these exchanges, and only the last may end the channel
abbrev pub Speaks : {E : Type 0} → Protocol E → E → List Exchange → AfterStep → E → Type 0
Speaks v s [] after s' = (after ≡ Goes) × (s' ≡ s)
Speaks v s (x ∷ xs) after s' =
    (step : AfterStep) × (mid : _) × v.speaks s x.act x.asked x.step mid
    × (x.noted ≡ availability_notes (v.session mid) x.step.out)
    × (step ≡ after_step (is_refused x.act) x.step)
    × ProceedsAfter (Speaks v mid xs after s') step mid xs after s'

abbrev pub acts_of : List Exchange → List Act
acts_of xs = map (λ (x : Exchange). x.act) xs

abbrev pub asks_of : List Exchange → List Entry
asks_of xs = flat_map (λ (x : Exchange). x.asked ++ x.noted) xs

abbrev pub said_of : List Exchange → List Sent
said_of xs = flat_map (λ (x : Exchange). x.step.out) xs

-- What was asked, and what the writers got, is what the engine's definition says of these exchanges.
pub record Spoken {E D : Type 0} (u : Voice E D) (a b : Point E D) (xs : List Exchange) (after : AfterStep)
    : Type 0 where
  pub speaks : Speaks u.protocol a.engine xs after b.engine
  pub asks : Leads u.passes a.desk (asks_of xs) b.desk
  pub main : Appends a.main b.main (flat_map (wire_on u.own) (said_of xs))
  pub side : Appends a.side b.side (flat_map (wire_off u.own) (said_of xs))

-- ---- acts that fail

-- the server gave the messages said to an act to their writers, up to one that is not written
pub record IsCutOff {E D : Type 0} (u : Voice E D) (a b : Point E D) (act : Act) (fault : ServeFault) : Type 0 where
  pub asked : List Entry
  pub step : StepSeen
  pub engine : E
  pub speaks : u.protocol.speaks a.engine act asked step engine
  pub desk : D
  pub asks : Leads u.passes a.desk asked desk
  pub cut : HandsUpTo u (point engine desk a.main a.side) b step.out fault

-- there was no memory for an act
pub record IsStarved {E D : Type 0} (u : Voice E D) (a b : Point E D) (act : Act) : Type 0 where
  pub asked : List Entry
  pub falters : u.protocol.falters a.engine act asked b.engine
  pub asks : Leads u.passes a.desk asked b.desk
  pub main : b.main ≡ a.main
  pub side : b.side ≡ a.side

abbrev pub Breaks : {E D : Type 0} → Voice E D → Point E D → Point E D → Act → ServeFault → Type 0
Breaks u a b act Fault.Write = IsCutOff u a b act Fault.Write
Breaks u a b act Fault.NoMemory = IsCutOff u a b act Fault.NoMemory ⊎ IsStarved u a b act
Breaks u a b act fault = ⊥

-- these acts are carried out up to one that fails
pub record Stops {E D : Type 0} (u : Voice E D) (a b : Point E D) (acts : List Act)
    (fault : ServeFault) : Type 0 where
  pub xs : List Exchange
  pub act : Act
  pub rest : List Act
  pub mid : Point E D
  pub acts_are : acts_of xs ++ act ∷ rest ≡ acts
  pub spoken : Spoken u a mid xs Goes
  pub breaks : Breaks u mid b act fault

-- these acts are carried out: all of them where the channel continues, else up to the one that ends it
abbrev pub GoesThrough : {E D : Type 0} → Voice E D → Point E D → Point E D → List Act → AfterStep → Type 0
GoesThrough u a b acts after =
    (xs : List Exchange) × (rest : List Act) × (acts_of xs ++ rest ≡ acts) × (after ≡ Goes → rest ≡ [])
    × Spoken u a b xs after

-- ---- clauses of a server's parts

-- what the engine said is given to the writers, if there was memory for it
abbrev pub Says : {E D X : Type 0} → Voice E D → Result StepSeen X → Bool → Point E D → Point E D
    → Result AfterStep ServeFault → Type 0
Says u (Ok step) wrong a b (Ok after) = HandsOver u a b step.out × (after ≡ after_step wrong step)
Says u (Ok step) wrong a b (Err fault) = HandsUpTo u a b step.out fault
Says u (Err _) wrong a b result = (result ≡ Err Fault.NoMemory) × (b ≡ a)

-- one act
abbrev pub Processes : {E D : Type 0} → Voice E D → Act → Point E D → Point E D → Result AfterStep ServeFault → Type 0
Processes u act a b (Ok after) = GoesThrough u a b (act ∷ []) after
Processes u act a b (Err fault) = Breaks u a b act fault

-- only a wrong prologue ends a channel as malformed, and it always does
abbrev pub Judges : Bool → AfterStep → Type 0
Judges true after = after ≡ Malformed
Judges false after = after ≢ Malformed

-- some acts
abbrev pub ProcessesEach : {E D : Type 0} → Voice E D → List Act → Point E D → Point E D → Result AfterStep ServeFault
    → Type 0
ProcessesEach u acts a b (Ok after) = GoesThrough u a b acts after
ProcessesEach u acts a b (Err fault) = Stops u a b acts fault

-- a whole message is at the front
abbrev pub HoldsMessage : Pending → Type 0
HoldsMessage p = (m : Message) × (more : List ℕ) × HasMessage p.bytes m more

-- what the decoder gives next
abbrev pub Finds : Pending → Act → Pending → Type 0
Finds p (Takes m) p' = GivesNext p (Ok (Some m)) p'
Finds p (Skips kind) p' = GivesNext p (Err (TooLarge kind)) p'
Finds p Refuses p' = GivesNext p (Err BadPrologue) p'
Finds p Notices p' = ⊥

-- what the decoder gives next: where there is no memory for a message that is whole, it stays
abbrev pub GivesHeard : Pending → Pending → Option (Result Message WireFault) → Type 0
GivesHeard p p' None = GivesNext p (Ok None) p'
GivesHeard p p' (Some (Ok m)) = GivesNext p (Ok (Some m)) p'
GivesHeard p p' (Some (Err fault)) = GivesNext p (Err fault) p'

-- What was heard is served: the act that it asks for, and what comes before that. Where there was no memory for it
-- nothing is done.
abbrev pub ServesAct : {E D : Type 0} → Voice E D → Option Act → Point E D → Point E D → Result AfterStep ServeFault
    → Type 0
ServesAct u (Some act) a b result =
    ProcessesEach u (acts_for act) a b result × IfOk result (λ after. Judges (is_refused act) after)
ServesAct u None a b result = (result ≡ Err Fault.NoMemory) × (b ≡ a)

abbrev pub ServesHeard : {E D : Type 0} → Voice E D → Result Message WireFault → Point E D → Point E D
    → Result AfterStep ServeFault → Type 0
ServesHeard u heard a b result = ServesAct u (asked_by heard) a b result

-- one read: what came is fed, or lost where there is no memory for it
abbrev pub Listens : Option (List ℕ) → Option (List ℕ) → Pending → Pending → Result Received ServeFault → Type 0
Listens old new p p' (Ok End) = Consumes old new [] × IsAtEnd new × (p' ≡ p)
Listens old new p p' (Ok Bytes) = (piece : List ℕ) × (0 < length piece) × Consumes old new piece × (p' ≡ fed p piece)
Listens old new p p' (Ok Paused) = Consumes old new [] × (p' ≡ p)
Listens old new p p' (Err e) =
    (p' ≡ p)
    × (((e ≡ Fault.Read) × Consumes old new [])
    ⊎ ((e ≡ Fault.NoMemory) × ((lost : List ℕ) × Consumes old new lost × (0 < length lost))))

-- such a read is counted where a time limit ended it
abbrev pub CountsReceived : Option ℕ → Option ℕ → Result Received ServeFault → Type 0
CountsReceived old new (Ok End) = new ≡ old
CountsReceived old new (Ok Bytes) = new ≡ old
CountsReceived old new (Ok Paused) = PausesBy old new 1
CountsReceived old new (Err e) = new ≡ old

-- a decoder was fed these bytes, and gave these acts
pub record TellsActs (p p' : Pending) (read : List ℕ) (inputs : List Act) : Type 0 where
  pub calls : List Call
  pub decodes : Decodes p calls p'
  pub stream : stream_of calls ≡ read
  pub told : told calls ≡ flat_map arrived inputs

-- what is pending where a channel continues, or is at a wrong prologue
abbrev pub Stands : AfterStep → Pending → Type 0
Stands Goes p = Waits p.bytes
Stands Malformed p = HasWrongPrologue p.bytes
Stands Ends p = Unit {0}
Stands (Fatal code) p = Unit {0}

abbrev pub HearsInputs : {E D : Type 0} → Voice E D → List Act → Pending → Point E D → Point E D
    → Result AfterStep ServeFault → Type 0
HearsInputs u inputs p a b (Ok after) = GoesThrough u a b (flat_map acts_for inputs) after × Stands after p
HearsInputs u inputs p a b (Err fault) =
    Stops u a b (flat_map acts_for inputs) fault
    ⊎ ((fault ≡ Fault.NoMemory) × GoesThrough u a b (flat_map acts_for inputs) Goes × HoldsMessage p)

-- all that the decoder gives is carried out, or what it gives up to an end of the channel or a fault
pub record HearsAll {E D : Type 0} (u : Voice E D) (p p' : Pending) (a b : Point E D)
    (result : Result AfterStep ServeFault) : Type 0 where
  pub inputs : List Act
  pub unpaused : pauses inputs ≡ 0
  pub tells : TellsActs p p' [] inputs
  pub spoken : HearsInputs u inputs p' a b result

-- how a channel's state ends a turn
abbrev pub conclude : Result AfterStep ServeFault → Result Next ServeFault
conclude (Ok Goes) = Ok On
conclude (Ok Ends) = Ok Over
conclude (Ok (Fatal code)) = Err (Fault.Fatal code)
conclude (Ok Malformed) = Err Fault.Wire
conclude (Err fault) = Err fault

-- ---- a turn, and a run

-- nothing is lost, unless there was no memory
abbrev pub LosesAt : ServeFault → List ℕ → Type 0
LosesAt Fault.NoMemory lost = Unit {0}
LosesAt fault lost = lost ≡ []

abbrev pub Loses : {A : Type 0} → Result A ServeFault → List ℕ → Type 0
Loses (Ok _) lost = lost ≡ []
Loses (Err fault) lost = LosesAt fault lost

-- How far a run, or a turn, has come: the acts for what was read, what is pending, the bytes that were lost, how many
-- bytes and pauses were read, and what is left to be read, where that is known.
pub record Progress : Type 0 where
  pub acts : List Act
  pub pending : Pending
  pub lost : List ℕ
  pub count : ℕ
  pub left : Option (List ℕ)

abbrev pub progress : List Act → Pending → List ℕ → ℕ → Option (List ℕ) → Progress
progress acts p lost count left = record { acts = acts; pending = p; lost = lost; count = count; left = left }

-- A run ends well where all was read and carried out, or where the channel ended.
abbrev pub EndsWell : {E D : Type 0} → Voice E D → Point E D → Point E D → Progress → Type 0
EndsWell u a b so_far = (GoesThrough u a b so_far.acts Goes × Waits so_far.pending.bytes × IsAtEnd so_far.left)
    ⊎ GoesThrough u a b so_far.acts Ends

-- there was no memory for bytes that came, or for a whole message at the front
abbrev pub LacksMemory : Pending → List ℕ → Type 0
LacksMemory p lost = (0 < length lost) ⊎ HoldsMessage p

-- Why a run fails. After a read fault all that was read is carried out. Wire is a wrong prologue, Fatal a fatal error
-- that the engine said. ReadBound comes after as many bytes and pauses as there are turns.
abbrev pub FailsBy : {E D : Type 0} → Voice E D → Point E D → Point E D → Progress → ℕ → ServeFault → Type 0
FailsBy u a b so_far turns Fault.Read = GoesThrough u a b so_far.acts Goes × Waits so_far.pending.bytes
FailsBy u a b so_far turns Fault.Write = Stops u a b so_far.acts Fault.Write
FailsBy u a b so_far turns Fault.Wire = GoesThrough u a b so_far.acts Malformed × HasWrongPrologue so_far.pending.bytes
FailsBy u a b so_far turns (Fault.Fatal code) = GoesThrough u a b so_far.acts (Fatal code)
FailsBy u a b so_far turns Fault.NoMemory = Stops u a b so_far.acts Fault.NoMemory
    ⊎ (GoesThrough u a b so_far.acts Goes × LacksMemory so_far.pending so_far.lost)
FailsBy u a b so_far turns Fault.ReadBound = GoesThrough u a b so_far.acts Goes × Waits so_far.pending.bytes
    × (turns ≤ so_far.count)

abbrev pub EndsTurn : {E D : Type 0} → Voice E D → Point E D → Point E D → Progress → Result Next ServeFault → Type 0
EndsTurn u a b so_far (Ok On) = GoesThrough u a b so_far.acts Goes × Waits so_far.pending.bytes × (0 < so_far.count)
EndsTurn u a b so_far (Ok Over) = EndsWell u a b so_far
EndsTurn u a b so_far (Err fault) = FailsBy u a b so_far 0 fault × (fault ≡ Fault.ReadBound → ⊥)

-- a server's point, what is left to be read, and how many reads a time limit has ended so far, where that is known
pub record Course (E D : Type 0) : Type 0 where
  pub point : Point E D
  pub input : Option (List ℕ)
  pub pauses : Option ℕ

abbrev pub course : {E D : Type 0} → Point E D → Option (List ℕ) → Option ℕ → Course E D
course a input pauses = record { point = a; input = input; pauses = pauses }

-- one read, and what is carried out for it
pub record TakesServerTurn {E D : Type 0} (u : Voice E D) (p p' : Pending) (before after : Course E D)
    (result : Result Next ServeFault) : Type 0 where
  pub read : List ℕ
  pub lost : List ℕ
  pub reads : Consumes before.input after.input (read ++ lost)
  pub loses : Loses result lost
  pub inputs : List Act
  pub paused : PausesBy before.pauses after.pauses (pauses inputs)
  pub tells : TellsActs p p' read inputs
  pub ends : EndsTurn u before.point after.point
      (progress (flat_map acts_for inputs) p' lost (length read + pauses inputs) after.input) result

abbrev pub EndsRun : {E D : Type 0} → Voice E D → Point E D → Point E D → Progress → ℕ → Result (Unit {0}) ServeFault
    → Type 0
EndsRun u a b so_far turns (Ok _) = EndsWell u a b so_far
EndsRun u a b so_far turns (Err fault) = FailsBy u a b so_far turns fault

-- These bytes were read, however they were cut. The engine takes the messages that are in them, as far as the run came;
-- where it waits for more, or is at a wrong prologue, those are all messages of the stream. Where the reader counts the
-- reads that a time limit ended, the inputs have a pause for each of them, and no other.
pub record RunsChannel {E D : Type 0} (u : Voice E D) (turns : ℕ) (before after : Course E D)
    (result : Result (Unit {0}) ServeFault) : Type 0 where
  pub read : List ℕ
  pub lost : List ℕ
  pub reads : Consumes before.input after.input (read ++ lost)
  pub loses : Loses result lost
  pub inputs : List Act
  pub paused : PausesBy before.pauses after.pauses (pauses inputs)
  pub pending : Pending
  pub follows : Follows read (flat_map arrived inputs) pending
  pub stream : Rests pending.bytes → IsStream read follows.messages follows.rest
  pub ends : EndsRun u before.point after.point
      (progress (flat_map acts_for inputs) pending lost (length read + pauses inputs) after.input) turns result

-- the channel leaves a session that it joined, and asks nothing else
abbrev pub LeavesSession : {D : Type 0} → (D → Entry → D → Type 0) → Option Sid → D → D → Type 0
LeavesSession passes None d d' = d' ≡ d
LeavesSession passes (Some sid) d d' = (answer : SessionAnswer) × passes d (Asked (Ask.Leave sid) answer) d'

-- the same with this desk
abbrev pub with_desk : {E D : Type 0} → D → Course E D → Course E D
with_desk d c = course (point c.point.engine d c.point.main c.point.side) c.input c.pauses

-- a run, and then the channel leaves its session
pub record ServesAndLeaves {E D : Type 0} (u : Voice E D) (turns : ℕ) (before after : Course E D)
    (result : Result (Unit {0}) ServeFault) : Type 0 where
  pub desk : D
  pub runs : RunsChannel u turns before (with_desk desk after) result
  pub leaves : LeavesSession u.passes (u.protocol.session after.point.engine) desk after.point.desk
