-- How events are counted, each once, in shares that together are their number.
use Rattle.std.specs.Prelude.{◌==◌, ◌&&◌, ℕ, Bool, true, false, not}
use Rattle.sw_core.specs.declared.ask.SessionAnswer.{SessionAnswer}
use Rattle.sw_core.specs.declared.ask.SessionAnswer.TheVariants.{Stranger, Broken, Hold, Worn}
use Rattle.sw_core.specs.Event.{last_number}
use Rattle.sw_core.specs.Seen.{AnswerSeen, SaysSession, SaysBack, SaysWorn}

-- An ask is no event where it is of no joined session, is dropped or held, or is given back.
abbrev pub is_session_event : SessionAnswer → Bool
is_session_event Stranger = false
is_session_event Broken = false
is_session_event (Hold ask) = false
is_session_event (Worn ask) = false
is_session_event answer = true

abbrev pub is_event : AnswerSeen → Bool
is_event (SaysSession answer work) = is_session_event answer
is_event SaysBack = false
is_event SaysWorn = false
is_event answer = true

-- the answer after this many events is a further event's, and there is a number for it
abbrev pub is_counted : ℕ → AnswerSeen → Bool
is_counted events answer = is_event answer && not (events == last_number)

abbrev pub one_if : Bool → ℕ
one_if true = 1
one_if false = 0

-- the parts of the ledger: one for each of at most 2^33 desks, and one to spare
abbrev pub all_parts : ℕ
all_parts = 8589934593
