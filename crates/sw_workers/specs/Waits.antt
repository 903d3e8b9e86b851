-- How a wait ends, and what a desk keeps of it.
use Rattle.std.specs.Prelude.{◌==◌, ℕ, Bool, true, false, Option, None, Some, if◌then◌else◌}
use Rattle.sw_core.specs.declared.ask.Sid.{Sid}
use Rattle.sw_core.specs.declared.ask.SessionAsk.{SessionAsk}
use Rattle.sw_core.specs.declared.ask.SessionAsk.TheVariants as Ask
use Rattle.sw_core.specs.declared.ask.SessionAnswer.{SessionAnswer}
use Rattle.sw_core.specs.declared.ask.SessionAnswer.TheVariants.{Hold, Joined}
use Rattle.sw_connections.specs.Limits.{at_most}
use Rattle.sw_connections.specs.declared.limits.Limit.{Limit}
use Rattle.sw_workers.specs.declared.desk.WaitEnd.{WaitEnd}
use Rattle.sw_workers.specs.declared.desk.WaitEnd.TheVariants.{Again, Over, ClientGone}
use Rattle.sw_workers.specs.declared.shared.Woken.{Woken}
use Rattle.sw_workers.specs.declared.shared.Woken.TheVariants.{Turned, Unchanged, Closing}

-- The end ends every wait. Else a wait continues while the turn is the one that the thread saw.
abbrev pub outcome_of : ℕ → ℕ → Bool → Woken
outcome_of seen turn true = Closing
outcome_of seen turn false = if turn == seen then Unchanged else Turned

-- A wait without a limit is over by itself only once the end has begun.
abbrev pub MayEnd : (ended : Type 0) → (limit : Option ℕ) → Type 0
MayEnd ended None = ended
MayEnd ended (Some ms) = Unit {0}

-- A wait is over by itself, or because the desk found its client gone.
abbrev pub MayRest : (ended gone : Type 0) → (limit : Option ℕ) → WaitEnd → Type 0
MayRest ended gone limit Over = MayEnd ended limit
MayRest ended gone limit (Again left) = Unit {0}
MayRest ended gone limit ClientGone = gone

-- what a wait reports to be left of a limit of this many milliseconds: never more than that
abbrev pub told_left : Option ℕ → Option Limit → Option ℕ
told_left None limit = None
told_left (Some ms) None = Some ms
told_left (Some ms) (Some limit) = Some (at_most ms limit.left_ms)

-- a limit continues while the mainframe holds the ask
abbrev pub limit_after : Option Limit → SessionAnswer → Option Limit
limit_after limit (Hold ask) = limit
limit_after limit answer = None

-- the ask leaves a session
abbrev pub is_leave : SessionAsk → Bool
is_leave (Ask.Leave sid) = true
is_leave ask = false

-- the session that a desk serves after an answer to an ask that leaves a session, or doesn't
abbrev pub serving_after : (serves : Option Sid) → (leaves : Bool) → SessionAnswer → Option Sid
serving_after serves leaves (Joined sid) = Some sid
serving_after serves true answer = None
serving_after serves false answer = serves
