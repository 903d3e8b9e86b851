-- Which sessions are joined, and which locks they hold.
use Rattle.std.specs.Prelude.{◌≡◌, ◌≢◌, ℕ, ◌-◌, ◌≤◌, ◌<◌, Bool, true, false, List, length, Option, None, Some}
use Rattle.std.specs.Prelude.{is_some, replicate, slice_set}
use Rattle.sw_base.specs.Layout.{slot_at}
use Rattle.sw_base.specs.Limits.{most_bytes, most_sessions}
use Rattle.sw_hislip.specs.LockTable.{LockTable, no_locks, holds}
use Rattle.sw_hislip.specs.LockRules.{IsSession, IsOrderly}
use Rattle.sw_core.specs.declared.ask.Sid.{Sid}
use Rattle.sw_core.specs.declared.sessions.Seat.{Seat}

-- of each session number, from 1 on, the session that has it; and the table of locks
pub record SessionsSeen : Type 0 where
  pub seats : List (Option Seat)
  pub locks : LockTable

abbrev pub nobody : SessionsSeen
nobody = record { seats = replicate most_sessions None; locks = no_locks }

-- a session that joined after this number of events: until it notes another size, it takes messages of the greatest
-- length
abbrev pub fresh_seat : ℕ → Seat
fresh_seat events = record { joined = events; attached = false; size = most_bytes; clearing = false }

abbrev pub with_seat : SessionsSeen → ℕ → Option Seat → SessionsSeen
with_seat s number seat = record s { seats = slice_set s.seats (number - 1) seat }

abbrev pub joined_in : Option Seat → Option ℕ
joined_in None = None
joined_in (Some seat) = Some seat.joined

-- the session is joined
abbrev pub IsJoined : SessionsSeen → Sid → Type 0
IsJoined s sid = joined_in (slot_at s.seats sid.number) ≡ Some sid.joined

abbrev pub seat_in : Option Seat → Seat
seat_in None = fresh_seat 0
seat_in (Some seat) = seat

-- the seat of the session with this number
abbrev pub seat_of : SessionsSeen → ℕ → Seat
seat_of s number = seat_in (slot_at s.seats number)

-- the session is being cleared
abbrev pub is_clearing : SessionsSeen → ℕ → Bool
is_clearing s number = (seat_of s number).clearing

-- the least number that no session has
pub record IsLeastFree (s : SessionsSeen) (number : ℕ) : Type 0 where
  pub first : 1 ≤ number
  pub last : number ≤ most_sessions
  pub free : slot_at s.seats number ≡ None
  pub below : (k : ℕ) → 1 ≤ k → k < number → slot_at s.seats k ≢ None

-- What holds of the sessions at all times: the locks are in order, and each session that holds one is joined.
pub record AreSeated (s : SessionsSeen) : Type 0 where
  -- there is a seat for each session number
  pub seats : length s.seats ≡ most_sessions
  -- all sessions that share a lock have one key, and beside the exclusive lock only sessions that its holder shares
  -- with hold one
  pub locks : IsOrderly s.locks
  -- each session that holds the exclusive lock or shares one has a seat
  pub joined : (number : ℕ) → IsSession number → holds s.locks number ≡ true
      → is_some (slot_at s.seats number) ≡ true
