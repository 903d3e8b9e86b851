-- How long a thread waits, and how long a connection may be without its session.
use Rattle.std.specs.Prelude.{ℕ, ◌+◌, ◌-◌, ◌/◌, ◌^◌, nat_lt, Bool, true, false, not, Option, None, Some, if◌then◌else◌}
use Rattle.std.specs.Time.{instant_nanos}
use Rattle.std.specs.declared.time.Instant.{Instant}

-- for how many milliseconds at most a thread waits before it looks whether its client is still there
abbrev pub most_slice : ℕ
most_slice = 100

-- the smaller one
abbrev pub at_most : ℕ → ℕ → ℕ
at_most most n = if nat_lt n most then n else most

-- what 64 bits hold of a number: the greatest where it is greater
abbrev pub in_64_bits : ℕ → ℕ
in_64_bits n = at_most (2 ^ 64 - 1) n

-- whole microseconds and milliseconds from one instant to another, none where that came before
abbrev pub micros_between : Instant → Instant → ℕ
micros_between earlier later = in_64_bits ((instant_nanos later - instant_nanos earlier) / 1000)

abbrev pub ms_between : Instant → Instant → ℕ
ms_between earlier later = in_64_bits ((instant_nanos later - instant_nanos earlier) / 1000000)

-- these microseconds in whole milliseconds, rounded up
abbrev pub whole_ms : ℕ → ℕ
whole_ms micros = (micros + 999) / 1000

-- what is left of a limit this many microseconds before its end: never more than the limit
abbrev pub left_of : ℕ → ℕ → ℕ
left_of limit micros = at_most limit (whole_ms micros)

abbrev pub slice_of : Option ℕ → ℕ
slice_of None = most_slice
slice_of (Some left) = at_most most_slice left

-- how many connections may be without a session
abbrev pub most_pending : ℕ
most_pending = 64

-- how many there are with one more, which finds no room beside the most
abbrev pub one_more : ℕ → Option ℕ
one_more pending = if nat_lt pending most_pending then Some (pending + 1) else None

-- How long a connection may be open, in milliseconds from its beginning: 10 seconds until its first header is whole, a
-- minute until its session has both connections, without a limit from then on.
abbrev pub time_for : Bool → Bool → Option ℕ
time_for false paired = Some 10000
time_for true false = Some 60000
time_for true true = None

abbrev pub is_spent : Option ℕ → ℕ → Bool
is_spent None stood = false
is_spent (Some most) stood = not (nat_lt stood most)
