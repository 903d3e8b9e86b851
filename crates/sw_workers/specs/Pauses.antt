-- Pauses that a timer waits out: only the latest can still be awaited.
use Rattle.std.specs.Prelude.{◌≡◌, ◌==◌, ◌+◌, ◌*◌, ◌&&◌, ◌||◌, Bool, true, nat_lt, Option, None, Some, IfSome}
use Rattle.std.specs.Prelude.{if◌then◌else◌}
use Rattle.std.specs.Time.{instant_nanos}
use Rattle.std.specs.declared.time.Instant.{Instant}
use Rattle.sw_cage.specs.declared.job.Ticket.{Ticket}
use Rattle.sw_workers.specs.declared.pauses.Next.{Next}
use Rattle.sw_workers.specs.declared.pauses.Next.TheVariants.{Begins, Ends, Over}
use Rattle.sw_workers.specs.declared.pauses.Pause.{Pause}
use Rattle.sw_workers.specs.declared.pauses.Standing.{Standing}

-- it is over as many microseconds after it began as it is long
abbrev pub IsPause : Pause → Type 0
IsPause pause = instant_nanos pause.at ≡ instant_nanos pause.begin + pause.micros * 1000

-- it was made in an earlier scan, or earlier in the same one
abbrev pub is_earlier : Ticket → Ticket → Bool
is_earlier first other = nat_lt first.scan other.scan || ((first.scan == other.scan) && nat_lt first.index other.index)

-- it was made after every ticket that came
abbrev pub is_latest : Option Ticket → Ticket → Bool
is_latest None ticket = true
is_latest (Some latest) ticket = is_earlier latest ticket

-- a pause is current once it came, unless a later one had come; the one before it is stale
abbrev pub with_pause : Standing → Pause → Standing
with_pause s pause =
    if is_latest s.latest pause.ticket then record { latest = Some pause.ticket; stands = Some pause } else s

-- the current pause is over
abbrev pub with_none : Standing → Standing
with_none s = record s { stands = None }

-- after what came next
abbrev pub after_next : Standing → Next → Standing
after_next s (Begins pause) = with_pause s pause
after_next s (Ends ticket) = with_none s
after_next s Over = s

-- Only the current pause ends, under its own ticket, once its end has come.
abbrev pub EndsStanding : (reached : Instant → Type 0) → Option Pause → Next → Type 0
EndsStanding reached None (Ends ticket) = ⊥
EndsStanding reached (Some pause) (Ends ticket) = (ticket ≡ pause.ticket) × reached pause.at
EndsStanding reached stands next = Unit {0}

-- the worker received a pause that begins
abbrev pub BeginsArrived : (arrived : Pause → Type 0) → Next → Type 0
BeginsArrived arrived (Begins pause) = arrived pause
BeginsArrived arrived next = Unit {0}

-- the worker received the current pause
abbrev pub IsOfArrived : (arrived : Pause → Type 0) → Standing → Type 0
IsOfArrived arrived s = IfSome s.stands arrived
