-- What is said of an event, with cards by their accounts.
use Rattle.std.specs.Prelude.{Option, None, Some}
use Rattle.sw_core.specs.declared.ask.SessionAnswer.{SessionAnswer}
use Rattle.sw_core.specs.Seen.{AskSeen, AnswerSeen, SaysSession}
use Rattle.sw_history.specs.declared.telling.Happened.{Happened}
use Rattle.sw_history.specs.Board.{Said}

-- by what is seen of an ask, and of an answer with what came beside it
abbrev pub said_in : {A B C : Type 0} → (A → AskSeen) → (B → C → AnswerSeen) → Happened A B C → Said
said_in asked answered event = record {
  number = event.number;
  ask = asked event.ask.value;
  answer = answered event.answer.value event.left.value;
  pair = event.pair;
}

-- the session's answer, where a session asked
abbrev pub session_told : AnswerSeen → Option SessionAnswer
session_told (SaysSession answer work) = Some answer
session_told answer = None
