-- A happening's effect by its answer: whether the scan took it, and the readings after it.
use Rattle.std.specs.Prelude.{◌≡◌, ℕ, Bool, true, false, List, []}
use Rattle.sw_base.specs.Layout.{Channel}
use Rattle.sw_base.specs.declared.error.ScpiError.TheVariants.{HardwareError}
use Rattle.sw_base.specs.declared.reading.Reading.{Reading}
use Rattle.sw_lex.specs.declared.command.Command.TheVariants as command
use Rattle.sw_lex.specs.declared.command.NoData.TheVariants as plain
use Rattle.sw_cage.specs.Accounts.{is_closed}
use Rattle.sw_cage.specs.Outcome.{readings_with}
use Rattle.sw_core.specs.declared.ask.SessionAsk.TheVariants as Ask
use Rattle.sw_core.specs.declared.ask.SessionAnswer.{SessionAnswer}
use Rattle.sw_core.specs.declared.ask.SessionAnswer.TheVariants.{Done, Refused}
use Rattle.sw_core.specs.Panel.{Panel}
use Rattle.sw_core.specs.Seen.{AskSeen, AskSession, AskExternal, AskElapsed, AskFinished}
use Rattle.sw_core.specs.Seen.{AnswerSeen, SaysSession, SaysTaken, SaysFailed}
use Rattle.sw_core.specs.Action.{Effect, Triggers, Action, AtOnce, BetweenScans, AfterScan, action_of, is_trigger}

-- 1 for an answer that says that the scan took it: done, or a card failed on the way
abbrev pub went_on : SessionAnswer → ℕ
went_on (Done text) = 1
went_on (Refused HardwareError) = 1
went_on answer = 0

abbrev pub was_taken : AnswerSeen → ℕ
was_taken (SaysTaken work) = 1
was_taken SaysFailed = 1
was_taken answer = 0

abbrev pub took_effect : Effect → SessionAnswer → ℕ
took_effect (Triggers happening error) answer = went_on answer
took_effect effect answer = 0

abbrev pub took_command : Action → SessionAnswer → ℕ
took_command (AtOnce effect) answer = took_effect effect answer
took_command (BetweenScans effect) answer = took_effect effect answer
took_command (AfterScan effect) answer = took_effect effect answer

-- 1 for a trigger, the end of a pause, or a meter's return that a scan took
abbrev pub took : AskSeen → AnswerSeen → ℕ
took (AskSession (Ask.Unit sid unit available)) (SaysSession answer work) =
    took_command (action_of available unit) answer
took (AskSession (Ask.Bus sid)) (SaysSession answer work) = went_on answer
took AskExternal answer = was_taken answer
took (AskElapsed ticket) answer = was_taken answer
took (AskFinished done) answer = was_taken answer
took ask answer = 0

-- asks that the cage offers to the scan: a trigger, the end of a pause, or a meter's return
abbrev pub is_happening : AskSeen → Bool
is_happening (AskSession (Ask.Unit sid unit available)) = is_trigger unit
is_happening (AskSession (Ask.Bus sid)) = true
is_happening AskExternal = true
is_happening (AskElapsed ticket) = true
is_happening (AskFinished done) = true
is_happening ask = false

-- the scan, its readings and every relay are as they were
pub record IsUnmoved (p q : Panel) : Type 0 where
  pub scan : q.cage.scan ≡ p.cage.scan
  pub readings : q.cage.readings ≡ p.cage.readings
  pub relays : (c : Channel) → is_closed q.cage.cards c ≡ is_closed p.cage.cards c

-- The readings after an event. *RST drops them, and so does a scan that begins, one that a card's failure ends at once
-- included; the return of a meter that the scan takes adds what it read; nothing else changes them.
abbrev pub readings_after : AskSeen → AnswerSeen → List Reading → List Reading
readings_after (AskSession (Ask.Unit sid (command.NoData plain.Reset) available)) (SaysSession (Done text) work) old = []
readings_after (AskSession (Ask.Start sid plan)) (SaysSession (Done text) work) old = []
readings_after (AskSession (Ask.Start sid plan)) (SaysSession (Refused HardwareError) work) old = []
readings_after (AskFinished done) (SaysTaken work) old = readings_with old done.outcome
readings_after (AskFinished done) SaysFailed old = readings_with old done.outcome
readings_after ask answer old = old
