-- A run leaves no choice but what is measured and which calls of cards fail.
use Rattle.std.specs.Prelude.{◌≡◌, ℕ, List, [], ◌∷◌}
use Rattle.sw_core.specs.declared.ask.Sid.{Sid}
use Rattle.sw_core.specs.Panel.{Panel}
use Rattle.sw_talk.specs.Law.{AllAmple, AllSmooth, carried_in, waits_of, carried_at_rest}
use Rattle.sw_talk.specs.Law.{Outcome, outcomes_in_talk, outcomes_at_rest}
use Rattle.sw_serve.specs.SlotCards.{PlacedCard, IsSetUp}
use Rattle.mainframe.specs.Run.{RunState, begins_over, Line, Run, RunsTo}

-- no growth was refused in the talk about one line and in the rest after it
pub record IsPlainLine {sid : Sid} {old new : RunState} {line told : List ℕ}
    (l : Line sid old line told new) : Type 0 where
  pub ample : AllAmple l.talked.trace
  pub talk : AllSmooth l.talked.trace (carried_in l.talked)
  pub rest : AllSmooth (waits_of l.rests) (carried_at_rest l.rests)

-- nor in any of these lines
abbrev pub IsPlainRun : (sid : Sid) (s : RunState) (lines : List (List ℕ)) (bytes : List ℕ) (s' : RunState)
    → Run sid s lines bytes s' → Type 0
IsPlainRun sid s [] bytes s' run = Unit {0}
IsPlainRun sid s (l ∷ ls) bytes s' run = IsPlainLine run.3 × IsPlainRun sid run.1 ls run.2 s' run.4

-- the outcomes of measurements and of calls of cards: for each line in the talk about it, and in the rest after it
abbrev pub outcomes_in_run : (sid : Sid) (s : RunState) (lines : List (List ℕ)) (bytes : List ℕ) (s' : RunState)
    → Run sid s lines bytes s' → List (List Outcome)
outcomes_in_run sid s [] bytes s' run = []
outcomes_in_run sid s (l ∷ ls) bytes s' run =
    outcomes_in_talk run.3.talked ∷ outcomes_at_rest run.3.rests
    ∷ outcomes_in_run sid run.1 ls run.2 s' run.4

-- Where no growth is refused, the cards, what is read, what is measured and what the cards do determine what is
-- written. What the cards do: for each call of the mainframe whether a card failed in it, and if so, how often each
-- card has failed after it; and whether a card that is asked says that it is sure of its relays.
abbrev pub RunIsDetermined : Type 0
RunIsDetermined = (cards : List PlacedCard) (sid sid' : Sid) (start start' : Panel) (input bytes bytes' : List ℕ)
    → IsSetUp cards sid start → IsSetUp cards sid' start'
    → (r : RunsTo sid (begins_over start) input [] bytes) (r' : RunsTo sid' (begins_over start') input [] bytes')
    → IsPlainRun sid (begins_over start) r.done bytes r.after r.run
    → IsPlainRun sid' (begins_over start') r'.done bytes' r'.after r'.run
    → outcomes_in_run sid (begins_over start) r.done bytes r.after r.run
    ≡ outcomes_in_run sid' (begins_over start') r'.done bytes' r'.after r'.run
    → bytes ≡ bytes'
