-- A session's asks of its seat and of the locks, and their answers (IVI-6.1 HiSLIP; what a clear drops is own).
use Rattle.std.specs.Prelude.{◌≡◌, ℕ, ◌⊎◌, Bool, true, false, not, List, Option, None, Some, is_some}
use Rattle.sw_base.specs.Layout.{slot_at}
use Rattle.sw_base.specs.Limits.{most_sessions}
use Rattle.sw_hislip.specs.LockTable.{LockTable, Replies, MayLackMemory, holders, freed, released, without_session}
use Rattle.sw_hislip.specs.declared.locks.LockReply.TheVariants as Reply
use Rattle.sw_hislip.specs.declared.locks.Released.{Released}
use Rattle.sw_hislip.specs.declared.locks.Released.TheVariants as Freed
use Rattle.sw_core.specs.declared.ask.Sid.{Sid}
use Rattle.sw_core.specs.declared.ask.SessionAsk.{SessionAsk}
use Rattle.sw_core.specs.declared.ask.SessionAsk.TheVariants as Ask
use Rattle.sw_core.specs.declared.ask.SessionAnswer.{SessionAnswer}
use Rattle.sw_core.specs.declared.ask.SessionAnswer.TheVariants.{Done, Missed, Max, Lock, Info, Hold}
use Rattle.sw_core.specs.declared.sessions.Seat.{Seat}
use Rattle.sw_core.specs.Sessions.{SessionsSeen, seat_of, with_seat}

-- the session that asks, or none
abbrev pub asker_of : SessionAsk → Option Sid
asker_of Ask.Join = None
asker_of (Ask.Attach number) = None
asker_of (Ask.Attached sid) = Some sid
asker_of (Ask.Leave sid) = Some sid
asker_of (Ask.Size sid n) = Some sid
asker_of (Ask.MaxSize sid) = Some sid
asker_of (Ask.Clear sid) = Some sid
asker_of (Ask.Cleared sid) = Some sid
asker_of (Ask.Lock sid key) = Some sid
asker_of (Ask.Release sid) = Some sid
asker_of (Ask.LockInfo sid) = Some sid
asker_of (Ask.Unit sid command available) = Some sid
asker_of (Ask.Fault sid e) = Some sid
asker_of (Ask.Bus sid) = Some sid
asker_of (Ask.Snapshot sid) = Some sid
asker_of (Ask.Start sid plan) = Some sid

-- what waits for the locks of other sessions: what drives the instrument
abbrev pub is_shut_out : SessionAsk → Bool
is_shut_out (Ask.Unit sid command available) = true
is_shut_out (Ask.Bus sid) = true
is_shut_out (Ask.Snapshot sid) = true
is_shut_out (Ask.Start sid plan) = true
is_shut_out ask = false

-- what is dropped while its session is being cleared: that, errors and asks for a lock
abbrev pub is_dropped : SessionAsk → Bool
is_dropped (Ask.Fault sid e) = true
is_dropped (Ask.Lock sid key) = true
is_dropped ask = is_shut_out ask

-- an ask of the seat or of the locks alone
abbrev pub is_seats : SessionAsk → Bool
is_seats (Ask.Attached sid) = true
is_seats (Ask.Leave sid) = true
is_seats (Ask.Size sid n) = true
is_seats (Ask.MaxSize sid) = true
is_seats (Ask.Clear sid) = true
is_seats (Ask.Cleared sid) = true
is_seats (Ask.Lock sid key) = true
is_seats (Ask.Release sid) = true
is_seats (Ask.LockInfo sid) = true
is_seats ask = false

-- a session has the seat, and no second channel
abbrev pub lacks_second : Option Seat → Bool
lacks_second None = false
lacks_second (Some seat) = not seat.attached

abbrev pub LacksSecond : SessionsSeen → ℕ → Type 0
LacksSecond s number = lacks_second (slot_at s.seats number) ≡ true

-- with the second channel of this session
abbrev pub attached : SessionsSeen → ℕ → SessionsSeen
attached s number = with_seat s number (Some (record (seat_of s number) { attached = true }))

-- the asker is the second channel of the session with this number
pub record Attaches (s : SessionsSeen) (number : ℕ) (sid : Sid) (t : SessionsSeen) : Type 0 where
  pub lacks : LacksSecond s number
  pub number_is : sid.number ≡ number
  pub joined : sid.joined ≡ (seat_of s number).joined
  pub after : t ≡ attached s number

-- the code of what was freed
abbrev pub released_code : Released → ℕ
released_code Freed.Exclusive = 1
released_code Freed.Shared = 2
released_code Freed.Nothing = 3

-- A lock is granted, the ask is an error, or the key of a lock that is due found no memory.
abbrev pub Locks : LockTable → ℕ → List ℕ → ℕ → LockTable → Type 0
Locks l number key code m =
    ((code ≡ 1) × Replies l number key Reply.Granted m)
    ⊎ (((code ≡ 3) × Replies l number key Reply.Wrong m) ⊎ ((code ≡ 3) × MayLackMemory l number key × (m ≡ l)))

-- an ask for a lock: the mainframe holds it while the lock is not free for the session
abbrev pub StepLock : SessionsSeen → Sid → List ℕ → SessionAnswer → SessionsSeen → Type 0
StepLock s sid key (Lock code) t = Locks s.locks sid.number key code t.locks × (t.seats ≡ s.seats)
StepLock s sid key (Hold back) t =
    Replies s.locks sid.number key Reply.NotNow t.locks × (back ≡ Ask.Lock sid key) × (t ≡ s)
StepLock s sid key answer t = ⊥

-- The answer reports no lack of memory: a lock is no error while its key is due and may find none.
abbrev pub FindsKey : SessionsSeen → SessionAsk → SessionAnswer → Type 0
FindsKey s (Ask.Lock sid key) (Lock code) = code ≡ 3 → MayLackMemory s.locks sid.number key → ⊥
FindsKey s ask answer = Unit {0}

-- What a joined session asks of its seat or of the locks.
abbrev pub StepSeat : SessionsSeen → SessionAsk → SessionAnswer → SessionsSeen → Type 0
StepSeat s (Ask.Leave sid) (Done None) t =
    t ≡ record (with_seat s sid.number None) { locks = without_session s.locks sid.number }
StepSeat s (Ask.Attached sid) (Done None) t = ((seat_of s sid.number).attached ≡ true) × (t ≡ s)
StepSeat s (Ask.Attached sid) Missed t = ((seat_of s sid.number).attached ≡ false) × (t ≡ s)
StepSeat s (Ask.Size sid n) (Done None) t =
    t ≡ with_seat s sid.number (Some (record (seat_of s sid.number) { size = n }))
StepSeat s (Ask.MaxSize sid) (Max n) t = (n ≡ (seat_of s sid.number).size) × (t ≡ s)
StepSeat s (Ask.Clear sid) (Done None) t =
    t ≡ with_seat s sid.number (Some (record (seat_of s sid.number) { clearing = true }))
StepSeat s (Ask.Cleared sid) (Done None) t =
    t ≡ with_seat s sid.number (Some (record (seat_of s sid.number) { clearing = false }))
StepSeat s (Ask.Lock sid key) answer t = StepLock s sid key answer t
StepSeat s (Ask.Release sid) (Lock code) t =
    (code ≡ released_code (freed s.locks sid.number)) × (t ≡ record s { locks = released s.locks sid.number })
StepSeat s (Ask.LockInfo sid) (Info exclusive n) t =
    (exclusive ≡ is_some s.locks.exclusive) × (n ≡ holders s.locks most_sessions) × (t ≡ s)
StepSeat s ask answer t = ⊥
