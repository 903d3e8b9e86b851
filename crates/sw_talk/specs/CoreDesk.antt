-- A desk over a mainframe of its own.
use Rattle.std.specs.Prelude.{◌≡◌, ℕ, ◌-◌, ◌^◌, ◌≤◌, Bool, true, false, List, [], ◌∷◌, ◌++◌, length, map, replicate}
use Rattle.std.specs.Prelude.{Option, None, Some}
use Rattle.sw_status.specs.StatusModel.{summary_of}
use Rattle.sw_cage.specs.Change.{any_failed}
use Rattle.sw_cage.specs.Work.{FinishedSeen, IsDone}
use Rattle.sw_core.specs.declared.ask.Sid.{Sid}
use Rattle.sw_core.specs.declared.ask.SessionAsk.{SessionAsk}
use Rattle.sw_core.specs.declared.ask.SessionAnswer.{SessionAnswer}
use Rattle.sw_core.specs.declared.ask.Work.{Work}
use Rattle.sw_core.specs.Panel.{Panel}
use Rattle.sw_core.specs.Seen.{WorkSeen, Measures, Pauses, AskSeen, AskSession, AskElapsed, AskFinished, AnswerSeen}
use Rattle.sw_core.specs.Seen.{SaysSession, SaysTaken, IsOwnAccount, failed_in}
use Rattle.sw_core.specs.Step.{Step}
use Rattle.sw_talk.specs.declared.desk.View.{View}
use Rattle.sw_talk.specs.declared.desk.Wake.TheVariants.{Again, Over}
use Rattle.sw_talk.specs.Trace.{Entry, Asked, Waited, Polled, Noted, Leads}
use Rattle.sw_talk.specs.Available.{Notes, no_notes, is_available, with_note, seated}

-- the mainframe's panel, the work that is outstanding, the oldest first, for how many pieces of it there is room before
-- that has to grow, and for which sessions a message is available
pub record DeskSeen : Type 0 where
  pub panel : Panel
  pub work : List WorkSeen
  pub room : ℕ
  pub available : Notes

-- the pieces that are outstanding, the oldest first, and for how many of them there is room
pub record QueueSeen : Type 0 where
  pub pieces : List WorkSeen
  pub room : ℕ

-- no work, and room for the piece that a scan has
abbrev pub no_work : QueueSeen
no_work = record { pieces = []; room = 1 }

-- a desk over this mainframe, with nothing outstanding, room for one piece, and no message available
abbrev pub desk_over : Panel → DeskSeen
desk_over p = record { panel = p; work = []; room = 1; available = no_notes }

-- a desk but for how much room it has
abbrev pub but_room : DeskSeen → DeskSeen
but_room d = record d { room = 0 }

-- the next piece needs a growth
abbrev pub IsFull : DeskSeen → Type 0
IsFull d = d.room ≤ length d.work

-- a piece of work as plain data
abbrev pub piece_seen : {M : _} → Work M → WorkSeen
piece_seen (Work.Measure job) = Measures job.1
piece_seen (Work.Pause ticket micros) = Pauses ticket micros

-- the pieces in their order, the oldest of which is kept apart
abbrev pub outstanding : {M : _} → Option (Work M) → List (Work M) → List WorkSeen
outstanding None others = []
outstanding (Some oldest) others = piece_seen oldest ∷ map piece_seen others

-- a piece that was carried out: the report to the mainframe, whether a card failed in that call, what the mainframe
-- answered, and its state after that
pub record Carried : Type 0 where
  pub ask : AskSeen
  pub failed : Bool
  pub answer : AnswerSeen
  pub after : Panel

-- the work that comes with an answer
abbrev pub brought : AnswerSeen → Option WorkSeen
brought (SaysTaken work) = work
brought answer = None

-- the report of a piece: that a pause is over, for pauses take no time; or a measurement, made once
abbrev pub TellsOfPiece : WorkSeen → AskSeen → Type 0
TellsOfPiece (Pauses ticket micros) ask = ask ≡ AskElapsed ticket
TellsOfPiece (Measures job) ask = (done : FinishedSeen) × IsDone job done × (ask ≡ AskFinished done)

-- The piece is carried out and reported to the mainframe. A card failed in that call where the counts of failures say
-- so.
pub record CarriesOut (old : Panel) (piece : WorkSeen) (c : Carried) : Type 0 where
  pub tells : TellsOfPiece piece c.ask
  pub own : IsOwnAccount c.ask
  pub step : Step old c.ask c.failed c.answer c.after
  pub counts : c.failed ≡ failed_in c.ask c.answer old.cage.cards c.after.cage.cards

-- The piece is put behind the rest, for which the room may grow.
pub record PutsBehind (old : DeskSeen) (piece : WorkSeen) (new : DeskSeen) : Type 0 where
  pub roomy : old.room ≤ new.room
  pub leaves : new ≡ record old { work = old.work ++ piece ∷ []; room = new.room }

-- There is no room for the last piece of this work: the oldest is carried out, and the rest stays in its order.
pub record CarriesOldest (old : DeskSeen) (work : List WorkSeen) (c : Carried) (new : DeskSeen) : Type 0 where
  pub full : IsFull old
  pub piece : WorkSeen
  pub others : List WorkSeen
  pub oldest : work ≡ piece ∷ others
  pub carries : CarriesOut old.panel piece c
  pub roomy : old.room ≤ new.room
  pub leaves : new ≡ record old { panel = c.after; work = others; room = new.room }

-- Work that came with an answer is kept behind the rest. Where a growth for it was refused, the oldest piece of all is
-- carried out at once in its place, and what that brings is kept in turn.
abbrev pub Keeps : List Carried → DeskSeen → Option WorkSeen → DeskSeen → Type 0
Keeps [] d None new = new ≡ d
Keeps [] d (Some piece) new = PutsBehind d piece new
Keeps (c ∷ carried) d None new = ⊥
Keeps (c ∷ carried) d (Some piece) new =
    (mid : DeskSeen) × CarriesOldest d (d.work ++ piece ∷ []) c mid × Keeps carried mid (brought c.answer) new

-- The clauses of the desk's parts: work is kept, and a piece is carried out and brings this.
pub record IsKept (old : DeskSeen) (brings : Option WorkSeen) (new : DeskSeen) : Type 0 where
  pub carried : List Carried
  pub keeps : Keeps carried old brings new

pub record IsCarried (old : DeskSeen) (piece : WorkSeen) (brings : Option WorkSeen) (new : DeskSeen) : Type 0 where
  pub c : Carried
  pub carries : CarriesOut old.panel piece c
  pub brings_is : brings ≡ brought c.answer
  pub leaves : new ≡ record old { panel = c.after }

-- An ask is one step of the mainframe, in which a card failed where the counts of failures say so, and its work is
-- kept. A session that joins by it has no message available.
pub record AnswersAsk (carried : List Carried) (old : DeskSeen) (ask : SessionAsk) (answer : SessionAnswer)
    (new : DeskSeen) : Type 0 where
  pub failed : Bool
  pub brings : Option WorkSeen
  pub after : Panel
  pub step : Step old.panel (AskSession ask) failed (SaysSession answer brings) after
  pub counts : failed ≡ any_failed old.panel.cage.cards after.cage.cards
  pub keeps : Keeps carried (record old { panel = after; available = seated old.available ask answer }) brings new

-- the oldest piece is carried out, and what it brings is kept
pub record CarriesOutOldest (c : Carried) (carried : List Carried) (old new : DeskSeen) : Type 0 where
  pub piece : WorkSeen
  pub others : List WorkSeen
  pub oldest : old.work ≡ piece ∷ others
  pub carries : CarriesOut old.panel piece c
  pub keeps : Keeps carried (record old { panel = c.after; work = others }) (brought c.answer) new

-- what a session sees of its status
abbrev pub view_of : DeskSeen → Sid → View
view_of d sid = record {
  byte = summary_of d.panel.status;
  requests = d.panel.status.requests;
  mav = is_available d.available sid;
}

-- What is carried out in one call: at an ask nothing and at a wait one piece, where no growth is refused. A wait takes
-- no time, and is over where nothing is outstanding.
abbrev pub PassesBy : List Carried → DeskSeen → Entry → DeskSeen → Type 0
PassesBy carried old (Asked ask answer) new = AnswersAsk carried old ask answer new
PassesBy (c ∷ carried) old (Waited limit (Again left)) new = (left ≡ limit) × CarriesOutOldest c carried old new
PassesBy [] old (Waited limit Over) new = (old.work ≡ []) × (new ≡ old)
PassesBy [] old (Polled sid view) new = (view ≡ view_of old sid) × (new ≡ old)
PassesBy [] old (Noted sid mav) new = new ≡ record old { available = with_note old.available sid mav }
PassesBy carried old entry new = ⊥

abbrev pub CorePasses : DeskSeen → Entry → DeskSeen → Type 0
CorePasses old entry new = (carried : List Carried) × PassesBy carried old entry new

-- what a rest that succeeds ends with
abbrev pub last_wait : Bool → List Entry
last_wait true = Waited None Over ∷ []
last_wait false = []

-- how often a rest waits at most
abbrev pub most_waits : ℕ
most_waits = 2 ^ 64 - 1

-- The desk waits without a limit until nothing is outstanding, or `most_waits` times in vain.
pub record WaitsOut (old : DeskSeen) (rested : Bool) (new : DeskSeen) : Type 0 where
  pub waits : ℕ
  pub leads : Leads CorePasses old (replicate waits (Waited None (Again None)) ++ last_wait rested) new
  pub in_vain : rested ≡ false → waits ≡ most_waits
