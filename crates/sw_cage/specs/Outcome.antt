-- What a scan does after a happening that it took: past the item, and on over closings and openings to the next
-- awaiting one.
use Rattle.std.specs.Prelude.{◌≡◌, ℕ, ◌+◌, ◌-◌, false, List, [], ◌∷◌, ◌++◌, map, Option, Some, None, slice_set, Result}
use Rattle.std.specs.Prelude.{Ok, Err}
use Rattle.sw_base.specs.Layout.{Channel, slot_at}
use Rattle.sw_base.specs.declared.terms.LayerName.{LayerName}
use Rattle.sw_base.specs.declared.reading.Reading.{Reading}
use Rattle.sw_card.specs.declared.board.CardFault.{CardFault}
use Rattle.sw_card.specs.Account.{of_meter}
use Rattle.sw_trigger.specs.declared.layer.Awaited.{Awaited}
use Rattle.sw_trigger.specs.declared.layer.Awaited.TheVariants.{Wait, Period, Pause, Read}
use Rattle.sw_trigger.specs.Agenda.{Item}
use Rattle.sw_verify.specs.Sound.{effect}
use Rattle.sw_verify.specs.Course.{CourseSeen}
use Rattle.sw_cage.specs.Accounts.{Accounts, is_closed, all_open}
use Rattle.sw_cage.specs.Change.{RelayFailed, identity}
use Rattle.sw_cage.specs.Cage.{ScanSeen, CageSeen, ticket_of, safe_state}
use Rattle.sw_cage.specs.Advance.{moves_from, next_place, awaits}
use Rattle.sw_cage.specs.Work.{JobSeen, FinishedSeen}
use Rattle.sw_cage.specs.TakenSeen.{TakenSeen, SaysIgnored, SaysWaits, SaysPause, SaysJob, SaysEnded, SaysFault}
use Rattle.sw_cage.specs.declared.job.Ticket.{Ticket}

-- the closings and openings are done, and the cards are the same
pub record Moved (old : Accounts) (moves : List Item) (new : Accounts) : Type 0 where
  pub rest : all_open new ≡ all_open old
  pub closed : (c : Channel) → is_closed new c ≡ effect (is_closed old) moves c

-- a call on a relay card failed: the cards are the same, and every relay is open
pub record IsSafeAfterFault (old new : Accounts) : Type 0 where
  pub cards : map identity new ≡ map identity old
  pub failed : RelayFailed old new
  pub none : (c : Channel) → is_closed new c ≡ false

-- the cards in their slots, and the tickets of those that are out
pub record Occupancy : Type 0 where
  pub cards : Accounts
  pub out : List (Option Ticket)

abbrev pub occupancy_of : CageSeen → Occupancy
occupancy_of p = record { cards = p.cards; out = p.out }

-- the meter of the slot goes out under the ticket
pub record IsSent (old : Occupancy) (slot : ℕ) (ticket : Ticket) (job : JobSeen) (new : Occupancy) : Type 0 where
  pub slot_is : job.slot ≡ slot
  pub ticket_is : job.ticket ≡ ticket
  pub meter : slot_at old.cards slot ≡ Some (of_meter job.meter)
  pub after : new ≡ record {
    cards = slice_set old.cards (slot - 1) None;
    out = slice_set old.out (slot - 1) (Some ticket);
  }

-- how many microseconds something awaited lasts that ends by itself
abbrev pub lasting : Option Awaited → Option ℕ
lasting None = None
lasting (Some (Wait name)) = None
lasting (Some (Period name micros)) = Some micros
lasting (Some (Pause micros)) = Some micros
lasting (Some Read) = None

-- The outcome of a scan that reaches this place: what it awaits there. A pause and a reading come with their ticket,
-- and for a reading the meter goes out.
abbrev pub Arrives : Occupancy → ℕ → ScanSeen → TakenSeen → Occupancy → Option ScanSeen → Type 0
Arrives old number at SaysIgnored new scan = ⊥
Arrives old number at SaysWaits new scan = ((name : LayerName) × (awaits at ≡ Some (Wait name))) × (new ≡ old)
    × (scan ≡ Some at)
Arrives old number at (SaysPause ticket micros) new scan =
    (lasting (awaits at) ≡ Some micros) × (ticket ≡ ticket_of number at) × (new ≡ old) × (scan ≡ Some at)
Arrives old number at (SaysJob job) new scan =
    (awaits at ≡ Some Read) × IsSent old at.course.meter (ticket_of number at) job new × (scan ≡ Some at)
Arrives old number at SaysEnded new scan = (awaits at ≡ None) × (new ≡ old) × (scan ≡ None)
Arrives old number at SaysFault new scan = ⊥

-- after the moves the scan is at this place
pub record Reaches (old : Occupancy) (number : ℕ) (moves : List Item) (at : ScanSeen) (told : TakenSeen)
    (new : Occupancy)
    (scan : Option ScanSeen) : Type 0 where
  pub cards : Accounts
  pub moved : Moved old.cards moves cards
  pub arrives : Arrives (record old { cards = cards }) number at told new scan

-- a card call failed on the way: the scan is over
pub record EntersSafeState (old new : Occupancy) (scan : Option ScanSeen) : Type 0 where
  pub fallen : IsSafeAfterFault old.cards new.cards
  pub out : new.out ≡ old.out
  pub over : scan ≡ None

-- the cage makes the moves, and the scan reaches the place, unless a card call fails
abbrev pub AdvancesOrFails : Occupancy → ℕ → List Item → ScanSeen → TakenSeen → Occupancy → Option ScanSeen → Type 0
AdvancesOrFails old number moves at SaysFault new scan = EntersSafeState old new scan
AdvancesOrFails old number moves at SaysIgnored new scan = Reaches old number moves at SaysIgnored new scan
AdvancesOrFails old number moves at SaysWaits new scan = Reaches old number moves at SaysWaits new scan
AdvancesOrFails old number moves at (SaysPause ticket micros) new scan =
    Reaches old number moves at (SaysPause ticket micros) new scan
AdvancesOrFails old number moves at (SaysJob job) new scan = Reaches old number moves at (SaysJob job) new scan
AdvancesOrFails old number moves at SaysEnded new scan = Reaches old number moves at SaysEnded new scan

-- From item i of its course the scan advances to the next awaiting item; the outcome says what it awaits there.
pub record Advances (p : CageSeen) (course : CourseSeen) (i : ℕ) (told : TakenSeen) (q : CageSeen) : Type 0 where
  pub runs :
      AdvancesOrFails (occupancy_of p) p.number (moves_from course i) (next_place course i) told (occupancy_of q) q.scan
  pub number : q.number ≡ p.number
  pub readings : q.readings ≡ p.readings

-- past what the scan awaits
abbrev pub AdvancesPastFrom : CageSeen → Option ScanSeen → TakenSeen → CageSeen → Type 0
AdvancesPastFrom p None told q = ⊥
AdvancesPastFrom p (Some at) told q = Advances p at.course (at.index + 1) told q

abbrev pub AdvancesPast : CageSeen → TakenSeen → CageSeen → Type 0
AdvancesPast p told q = AdvancesPastFrom p p.scan told q

-- the meter is back in its slot
abbrev pub with_back : CageSeen → FinishedSeen → CageSeen
with_back p done = record p {
  cards = slice_set p.cards (done.slot - 1) (Some (of_meter done.meter));
  out = slice_set p.out (done.slot - 1) None;
}

-- the readings after a measurement: a reading is one more, a failure adds none
abbrev pub readings_with : List Reading → Result Reading CardFault → List Reading
readings_with readings (Ok r) = readings ++ r ∷ []
readings_with readings (Err e) = readings

abbrev pub with_reading : CageSeen → Reading → CageSeen
with_reading p r = record p { readings = p.readings ++ r ∷ [] }

-- a return that the scan takes, the meter being back: the scan adds its reading and continues; its failure ends the
-- scan
abbrev pub Counts : CageSeen → Result Reading CardFault → TakenSeen → CageSeen → Type 0
Counts p (Ok r) told q = AdvancesPast (with_reading p r) told q
Counts p (Err e) told q = (told ≡ SaysFault) × (q ≡ safe_state p)

-- a scan begins: its number is one more, and no reading is made
abbrev pub begun : CageSeen → CageSeen
begun p = record p { number = p.number + 1; readings = [] }
