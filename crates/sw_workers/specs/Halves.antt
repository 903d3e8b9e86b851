-- The sessions that lack their second channel, by number.
use Rattle.std.specs.Prelude.{◌≡◌, ◌≢◌, ◌⊎◌, ℕ, ◌-◌, ◌<◌, ◌≤◌, List, length, Option, None, Some, slice_set}
use Rattle.sw_base.specs.Layout.{slot_at}
use Rattle.sw_core.specs.declared.ask.Sid.{Sid}
use Rattle.sw_core.specs.declared.ask.SessionAnswer.{SessionAnswer}
use Rattle.sw_core.specs.declared.ask.SessionAnswer.TheVariants.{Joined}
use Rattle.sw_core.specs.Panel.{Panel}
use Rattle.sw_core.specs.Sessions.{SessionsSeen, IsJoined}
use Rattle.sw_history.specs.declared.coming.Coming.{Coming}
use Rattle.sw_history.specs.declared.coming.Coming.TheVariants.{Joins, Attaches, Leaves}

-- from session number 1 on, whose second half waits
abbrev pub Rows : Type 0
Rows = List (Option Sid)

-- each half that waits is at its number, and of a session that is joined
abbrev pub AreJoined : SessionsSeen → Rows → Type 0
AreJoined s rows = (number : ℕ) (sid : Sid) → slot_at rows number ≡ Some sid → (sid.number ≡ number) × IsJoined s sid

-- whoever was joined is
abbrev pub StayJoined : Panel → Panel → Type 0
StayJoined p q = (sid : Sid) → IsJoined p.sessions sid → IsJoined q.sessions sid

-- the session's half is at its number now, or for want of a room none is
pub record Puts (old : Rows) (sid : Sid) (new : Rows) : Type 0 where
  pub half : Option Sid
  pub own : (other : Sid) → half ≡ Some other → other ≡ sid
  pub first : 0 < sid.number
  pub last : sid.number ≤ length old
  pub after : new ≡ slice_set old (sid.number - 1) half

abbrev pub Begins : Rows → Sid → Rows → Type 0
Begins old sid new = (new ≡ old) ⊎ Puts old sid new

-- the session's half waited, and doesn't now
pub record Gives (old : Rows) (sid : Sid) (new : Rows) : Type 0 where
  pub waited : slot_at old sid.number ≡ Some sid
  pub first : 0 < sid.number
  pub last : sid.number ≤ length old
  pub after : new ≡ slice_set old (sid.number - 1) None

-- the session's half waits no more
abbrev pub Takes : Rows → Sid → Rows → Type 0
Takes old sid new = ((new ≡ old) × (slot_at old sid.number ≢ Some sid)) ⊎ Gives old sid new

-- the session that the answer tells to have joined
abbrev pub joined_by : Option SessionAnswer → Option Sid
joined_by (Some (Joined sid)) = Some sid
joined_by answer = None

-- what waits after an ask by which a session comes or goes
abbrev pub Follows : Rows → Coming → Option Sid → Rows → Type 0
Follows old Joins (Some sid) new = Begins old sid new
Follows old Attaches (Some sid) new = Takes old sid new
Follows old (Leaves sid) joined new = Takes old sid new
Follows old coming joined new = new ≡ old
