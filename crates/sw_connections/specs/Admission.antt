-- Which connections the server takes.
use Rattle.std.specs.Prelude.{◌≡◌, ◌≤◌, ◌+◌, ℕ, Bool, true, false, Option, None, Some, Result, Ok, Err}
use Rattle.sw_connections.specs.Limits.{one_more}
use Rattle.sw_connections.specs.declared.connections.Unserved.{Unserved}
use Rattle.sw_connections.specs.declared.connections.Unserved.TheVariants.{Ending, Full, NoMemory}

-- how many connections are served, how many of them have no session, for how many there is memory, the next one's
-- ticket, and whether the server ends
pub record Admitted : Type 0 where
  pub served : ℕ
  pub pending : ℕ
  pub room : ℕ
  pub next : ℕ
  pub closed : Bool

-- why one more is not served: the server ends; as many as may be have no session; the memory has to grow for it
abbrev pub TurnsAway : Admitted → Unserved → Type 0
TurnsAway a Ending = a.closed ≡ true
TurnsAway a Full = (a.closed ≡ false) × (one_more a.pending ≡ None)
TurnsAway a NoMemory = (a.closed ≡ false) × ((more : ℕ) × (one_more a.pending ≡ Some more)) × (a.room ≤ a.served)

-- One more is served, under the next ticket and without a session; or it is not, for a cause, and nothing changes, but
-- for memory that was found.
abbrev pub Admits : Admitted → Result ℕ Unserved → Admitted → Type 0
Admits old (Ok ticket) new =
    (old.closed ≡ false) × (one_more old.pending ≡ Some new.pending) × (ticket ≡ old.next)
    × (new.served ≡ old.served + 1)
Admits old (Err why) new = TurnsAway old why × (new ≡ record old { room = new.room })

-- why a connection was not served: there was no memory for it; or the server turned it away, for its own cause
abbrev pub IsUnserved : (Unserved → Type 0) → Unserved → Type 0
IsUnserved turned_away NoMemory = Unit {0}
IsUnserved turned_away why = turned_away why
