-- What a desk asks, and the work that it carries out.
use Rattle.std.specs.Prelude.{◌≡◌, ◌+◌, ◌⊎◌, ℕ, List, [], ◌∷◌, Option, None, Some}
use Rattle.std.specs.declared.time.Instant.{Instant}
use Rattle.sw_core.specs.declared.ask.Sid.{Sid}
use Rattle.sw_core.specs.declared.ask.SessionAsk.{SessionAsk}
use Rattle.sw_core.specs.declared.ask.SessionAsk.TheVariants as Ask
use Rattle.sw_core.specs.declared.ask.SessionAnswer.{SessionAnswer}
use Rattle.sw_core.specs.Panel.{Panel}
use Rattle.sw_core.specs.Seen.{WorkSeen, Measures, Pauses, AskSeen, AskSession, AnswerSeen, SaysSession}
use Rattle.sw_core.specs.Run.{Event}
use Rattle.sw_talk.specs.declared.desk.Wake.{Wake}
use Rattle.sw_talk.specs.declared.desk.Wake.TheVariants.{Again, Over}
use Rattle.sw_talk.specs.Trace.{Entry, Asked, Waited, Polled, Noted}
use Rattle.sw_talk.specs.CoreDesk.{TellsOfPiece, brought}
use Rattle.sw_history.specs.Asks.{AsksOnce}
use Rattle.sw_connections.specs.Reads.{ReadsStatus}
use Rattle.sw_history.specs.Board.{Known}
use Rattle.sw_workers.specs.Waits.{MayEnd, is_leave, serving_after}
use Rattle.sw_history.specs.Held.{AtDesk}
use Rattle.sw_history.specs.History.{event, AsksInHistory}
use Rattle.sw_history.specs.Shares.{is_counted, one_if}
use Rattle.sw_workers.specs.declared.pauses.Pause.{Pause}

-- What the mainframe was asked by a desk at the panel that was behind the lock then, what was answered, and the panel
-- after it; and what the desk's seat knew before and after.
pub record MadeAsk : Type 0 where
  pub before : Panel
  pub event : Event
  pub knew : Known
  pub knows : Known

-- it is a step of a mainframe that opened so, and in its history
abbrev pub IsMade : Panel → MadeAsk → Type 0
IsMade start m = AsksInHistory start m.before m.knew m.event m.knows

-- the events among them that are numbered
abbrev pub events_of : List MadeAsk → ℕ
events_of [] = 0
events_of (m ∷ made) = one_if (is_counted m.before.events m.event.answer) + events_of made

-- what the seat knows continues from one to the next
abbrev pub Learns : Known → List MadeAsk → Known → Type 0
Learns v [] w = w ≡ v
Learns v (m ∷ made) w = (m.knew ≡ v) × Learns m.knows made w

-- The work was sent, or there was none. Or it was carried out, and the same holds of what that brought.
abbrev pub Carries : Panel → Option WorkSeen → List MadeAsk → Type 0
Carries start work [] = Unit {0}
Carries start None (m ∷ made) = ⊥
Carries start (Some piece) (m ∷ made) =
    TellsOfPiece piece m.event.ask × IsMade start m × Carries start (brought m.event.answer) made

-- what a desk counts and knows where the work is sent or carried out
pub record Adds (start : Panel) (work : Option WorkSeen) (old new : AtDesk) : Type 0 where
  pub made : List MadeAsk
  pub carries : Carries start work made
  pub counts : new.amount ≡ old.amount + events_of made
  pub learns : Learns old.seat made new.seat

-- what is left to be done of the work after this: what was brought last
abbrev pub left_over : Option WorkSeen → List MadeAsk → Option WorkSeen
left_over work [] = work
left_over work (m ∷ made) = left_over (brought m.event.answer) made

-- it was sent, or there was none
abbrev pub IsSentOn : (WorkSeen → Type 0) → Option WorkSeen → Type 0
IsSentOn sent None = Unit {0}
IsSentOn sent (Some piece) = sent piece

-- no piece was dropped: each was carried out and reported, but for the last, which was sent
pub record SeesToWork (start : Panel) (sent : WorkSeen → Type 0) (work : Option WorkSeen) (old new : AtDesk) : Type 0
  where
    pub adds : Adds start work old new
    pub rest : IsSentOn sent (left_over work adds.made)

-- a pause was waited out
abbrev pub IsRested : (ℕ → Type 0) → WorkSeen → Type 0
IsRested rested (Pauses ticket micros) = rested micros
IsRested rested (Measures job) = Unit {0}

-- the mainframe got this ask, which brought this work
pub record Brings (start : Panel) (ask : AskSeen) (old : AtDesk) (brings : Option WorkSeen) (new : AtDesk)
    : Type 0 where
  pub answer : AnswerSeen
  pub asks : AsksOnce start ask answer old new
  pub brings_is : brings ≡ brought answer

-- one piece was carried out and reported to the mainframe, which brought this
pub record EndsPiece (start : Panel) (piece : WorkSeen) (old : AtDesk) (brings : Option WorkSeen) (new : AtDesk)
    : Type 0 where
  pub ask : AskSeen
  pub tells : TellsOfPiece piece ask
  pub told : Brings start ask old brings new

-- the ask reports a piece of work that was the worker's own, or that was left to be done
pub record IsToldOfWork (start : Panel) (own : WorkSeen → Type 0) (left : Option WorkSeen) (m : MadeAsk) : Type 0
  where
    pub piece : WorkSeen
    pub whose : own piece ⊎ (left ≡ Some piece)
    pub tells : TellsOfPiece piece m.event.ask
    pub made : IsMade start m

-- each piece that was reported was the worker's own, or came of the one reported before it; at first this is left to be
-- done
abbrev pub AreTold : Panel → (own : WorkSeen → Type 0) → (left : Option WorkSeen) → List MadeAsk → Type 0
AreTold start own left [] = Unit {0}
AreTold start own left (m ∷ made) =
    IsToldOfWork start own left m × AreTold start own (brought m.event.answer) made

-- what a worker's desk counts and knows: the events of its reports of such work, and no others
pub record Works (start : Panel) (own : WorkSeen → Type 0) (left : Option WorkSeen) (old new : AtDesk) : Type 0
  where
    pub made : List MadeAsk
    pub told : AreTold start own left made
    pub counts : new.amount ≡ old.amount + events_of made
    pub learns : Learns old.seat made new.seat

-- no piece is a worker's own
abbrev pub none_own : WorkSeen → Type 0
none_own piece = ⊥

-- a card worker's own: a measurement that it received
abbrev pub IsReceivedJob : (received : WorkSeen → Type 0) → WorkSeen → Type 0
IsReceivedJob received (Measures job) = received (Measures job)
IsReceivedJob received (Pauses ticket micros) = ⊥

-- a timer worker's own: a pause that it received, once its end has come
abbrev pub IsOverPause : (arrived : Pause → Type 0) → (reached : Instant → Type 0) → WorkSeen → Type 0
IsOverPause arrived reached (Measures job) = ⊥
IsOverPause arrived reached (Pauses ticket micros) =
    (pause : Pause) × arrived pause × reached pause.at × (pause.ticket ≡ ticket) × (pause.micros ≡ micros)

-- a session's ask, and the work that it brought
pub record AnswersDesk (start : Panel) (ask : SessionAsk) (answer : SessionAnswer) (old new : AtDesk) : Type 0 where
  pub work : Option WorkSeen
  pub mid : AtDesk
  pub asks : AsksOnce start (AskSession ask) (SaysSession answer work) old mid
  pub adds : Adds start work mid new

-- a desk: what it counts and knows, and the session that it serves
pub record DeskSeen : Type 0 where
  pub part : AtDesk
  pub serves : Option Sid

abbrev pub desk_seen : AtDesk → Option Sid → DeskSeen
desk_seen part serves = record { part = part; serves = serves }

-- the session that the desk serves after an ask: one that it joined or attached to, until it leaves that
abbrev pub serves_after : Option Sid → SessionAsk → SessionAnswer → Option Sid
serves_after serves ask answer = serving_after serves (is_leave ask) answer

-- the desk leaves the session that it serves, as if that were asked, and no other
pub record LeavesServed (start : Panel) (old new : DeskSeen) : Type 0 where
  pub sid : Sid
  pub served : old.serves ≡ Some sid
  pub answer : SessionAnswer
  pub answers : AnswersDesk start (Ask.Leave sid) answer old.part new.part
  pub serves : new.serves ≡ serves_after old.serves (Ask.Leave sid) answer

-- where the desk serves no session, it leaves none
abbrev pub LeavesGoneClient : Panel → DeskSeen → DeskSeen → Type 0
LeavesGoneClient start old new = ((old.serves ≡ None) × (new ≡ old)) ⊎ LeavesServed start old new

-- A wait that is over by itself changes nothing. One that found its client gone leaves the session that the desk
-- serves.
abbrev pub Rests : Panel → (ended gone : Type 0) → (limit : Option ℕ) → Wake → DeskSeen → DeskSeen → Type 0
Rests start ended gone limit Over old new = (MayEnd ended limit × (new ≡ old)) ⊎ (gone × LeavesGoneClient start old new)
Rests start ended gone limit (Again left) old new = new ≡ old

-- What a desk of a mainframe that opened so counts and knows after each entry, where the mainframe's end has begun and
-- where a client was found gone. Only an ask counts events, and a wait that leaves the session.
abbrev pub DeskPasses : Panel → (ended gone : Type 0) → DeskSeen → Entry → DeskSeen → Type 0
DeskPasses start ended gone old (Asked ask answer) new =
    AnswersDesk start ask answer old.part new.part × (new.serves ≡ serves_after old.serves ask answer)
DeskPasses start ended gone old (Waited limit wake) new = Rests start ended gone limit wake old new
DeskPasses start ended gone old (Polled sid view) new =
    ReadsStatus start view old.part new.part × (new.serves ≡ old.serves)
DeskPasses start ended gone old (Noted sid mav) new = new ≡ old
