-- For which sessions a message is available (IEEE 488.2, 11.2.1.2), as they noted it.
use Rattle.std.specs.Prelude.{◌≡◌, ◌≢◌, ℕ, ◌-◌, ◌==◌, ◌&&◌, Bool, false, nat_le, List, length, Option, Some, None}
use Rattle.std.specs.Prelude.{replicate}
use Rattle.std.specs.Prelude.{slice_set, if◌then◌else◌}
use Rattle.sw_base.specs.Limits.{most_sessions}
use Rattle.sw_base.specs.Layout.{slot_at}
use Rattle.sw_core.specs.declared.ask.Sid.{Sid}
use Rattle.sw_core.specs.declared.ask.SessionAsk.{SessionAsk}
use Rattle.sw_core.specs.declared.ask.SessionAsk.TheVariants as Ask
use Rattle.sw_core.specs.declared.ask.SessionAnswer.{SessionAnswer}
use Rattle.sw_core.specs.declared.ask.SessionAnswer.TheVariants.{Joined, Done}
use Rattle.sw_talk.specs.declared.available.Mark.{Mark}
use Rattle.sw_talk.specs.declared.available.Seating.{Seating}
use Rattle.sw_talk.specs.declared.available.Seating.TheVariants.{Joins, Leaves, Stays}

-- For each session number, from 1 on: the session that has joined under it, by the number of events after its Join, and
-- whether a message is available for it.
abbrev pub Notes : Type 0
Notes = List (Option Mark)

abbrev pub no_notes : Notes
no_notes = replicate most_sessions None

-- it is that of the session that joined after this many events
abbrev pub is_joined_after : ℕ → Option Mark → Bool
is_joined_after joined None = false
is_joined_after joined (Some mark) = mark.joined == joined

-- the same, and a message is available for it
abbrev pub has_message : ℕ → Option Mark → Bool
has_message joined None = false
has_message joined (Some mark) = (mark.joined == joined) && mark.mav

-- the session is the one that has joined under its number
abbrev pub is_joined : Notes → Sid → Bool
is_joined notes sid = is_joined_after sid.joined (slot_at notes sid.number)

-- a message is available for the session
abbrev pub is_available : Notes → Sid → Bool
is_available notes sid = has_message sid.joined (slot_at notes sid.number)

-- a session's number
abbrev pub is_number : ℕ → Bool
is_number number = nat_le 1 number && nat_le number most_sessions

abbrev pub with_mark : Notes → ℕ → Option Mark → Notes
with_mark notes number mark = if is_number number then slice_set notes (number - 1) mark else notes

-- What is noted of a session that isn't joined now changes nothing.
abbrev pub with_note : Notes → Sid → Bool → Notes
with_note notes sid mav =
    if is_joined notes sid then with_mark notes sid.number (Some (record { joined = sid.joined; mav = mav })) else notes

-- the session has its number from its Join on, with no message, until it leaves
abbrev pub with_joined : Notes → Sid → Notes
with_joined notes sid = with_mark notes sid.number (Some (record { joined = sid.joined; mav = false }))

abbrev pub with_left : Notes → Sid → Notes
with_left notes sid = if is_joined notes sid then with_mark notes sid.number None else notes

-- how an ask is to change which sessions have joined
abbrev pub seating_of : SessionAsk → Seating
seating_of Ask.Join = Joins
seating_of (Ask.Leave sid) = Leaves sid
seating_of ask = Stays

abbrev pub followed : Notes → SessionAnswer → Seating → Notes
followed notes (Joined sid) Joins = with_joined notes sid
followed notes (Done text) (Leaves sid) = with_left notes sid
followed notes answer seating = notes

-- the notes after an ask and its answer
abbrev pub seated : Notes → SessionAsk → SessionAnswer → Notes
seated notes ask answer = followed notes answer (seating_of ask)

-- What is noted of one session leaves what is noted of every other.
abbrev pub NoteLeavesOthers : Type 0
NoteLeavesOthers = (notes : Notes) (sid other : Sid) (mav : Bool) → length notes ≡ most_sessions → sid ≢ other
    → is_available (with_note notes sid mav) other ≡ is_available notes other
