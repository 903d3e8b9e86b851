-- What the thread of a session's second connection does once that connection has ended, and what a server's end does
-- with its connections.
use Rattle.std.specs.Prelude.{ℕ, nat_lt, Bool, true, false, Option, None, Some, if◌then◌else◌}
use Rattle.sw_channels.specs.declared.step.Channel.{Channel}
use Rattle.sw_channels.specs.declared.step.Channel.TheVariants.{Synchronous, Asynchronous}
use Rattle.sw_connections.specs.declared.connections.AtTheEnd.{AtTheEnd}
use Rattle.sw_connections.specs.declared.connections.AtTheEnd.TheVariants as End
use Rattle.sw_connections.specs.declared.leaving.AfterEnd.{AfterEnd}
use Rattle.sw_connections.specs.declared.leaving.AfterEnd.TheVariants.{Leaves, Awaits, Stops}

-- for how many milliseconds the first connection may still bring what was on its way
abbrev pub drain_time : ℕ
drain_time = 100

-- for how many milliseconds an answer on it may stay unread
abbrev pub unread_time : ℕ
unread_time = 1000

-- Where the first connection has an end, what came before that is served first, however long it takes. Where it has
-- none yet, one is made once what was on its way has had its time. A client that doesn't take its answer in time is
-- left.
abbrev pub after_end : (has_ended : Bool) → (unread waited : ℕ) → AfterEnd
after_end has_ended unread waited =
    if nat_lt unread unread_time
    then (if has_ended then Awaits else (if nat_lt waited drain_time then Awaits else Stops))
    else Leaves

-- At a server's end a session may finish its current message, so its first connection is read no more, and the second
-- one ends with the session; a connection without a session is closed. Where it ends at once, all are.
abbrev pub at_the_end : (channel : Option Channel) → (at_once : Bool) → AtTheEnd
at_the_end channel true = End.Closes
at_the_end None false = End.Closes
at_the_end (Some Synchronous) false = End.Finishes
at_the_end (Some Asynchronous) false = End.Leaves
