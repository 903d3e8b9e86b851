-- A talk leaves no choice.
use Rattle.std.specs.Prelude.{Bool, ◌≡◌, ◌≢◌, ℕ, ◌≤◌, List, [], ◌∷◌, ◌++◌, length, replicate, true, Option, None}
use Rattle.std.specs.Prelude.{Result}
use Rattle.std.specs.List.{AllByRecursion}
use Rattle.sw_base.specs.declared.error.ScpiError.TheVariants.{OutOfMemory}
use Rattle.sw_core.specs.declared.ask.Sid.{Sid}
use Rattle.sw_core.specs.declared.ask.SessionAsk.{SessionAsk}
use Rattle.sw_core.specs.declared.ask.SessionAsk.TheVariants as Ask
use Rattle.sw_base.specs.declared.reading.Reading.{Reading}
use Rattle.sw_card.specs.declared.board.CardFault.{CardFault}
use Rattle.sw_core.specs.declared.ask.SessionAnswer.{SessionAnswer}
use Rattle.sw_core.specs.Panel.{Panel}
use Rattle.sw_core.specs.Run.{IsPlain, KeepsKey, FailuresAfter, failures_after}
use Rattle.sw_core.specs.LeftOpen.{LeftOpen, Determined, answer_leaves}
use Rattle.sw_core.specs.Seen.{WorkSeen, AskSeen, AskSession, AskFinished, SaysSession}
use Rattle.sw_macro.specs.Table.{Table}
use Rattle.sw_talk.specs.CoreDesk.{DeskSeen, but_room, Carried, PassesBy, CorePasses, WaitsOut, last_wait}
use Rattle.sw_talk.specs.declared.desk.Wake.TheVariants.{Again}
use Rattle.sw_talk.specs.Trace.{Entry, Asked, Waited, Polled, Noted, Leads}
use Rattle.sw_talk.specs.Talk.{TalkState, Talked, TalksMessage}

-- the talker had memory: it queued no error for want of it
abbrev pub IsAmple : Entry → Type 0
IsAmple (Asked (Ask.Fault sid e) answer) = e ≢ OutOfMemory
IsAmple entry = Unit {0}

abbrev pub AllAmple : List Entry → Type 0
AllAmple trace = AllByRecursion IsAmple trace

-- The same call is made of the desk; where it answers the same, this follows.
abbrev pub SameCall : Entry → Entry → Type 0 → Type 0
SameCall (Asked a r) (Asked a' r') follows = (a ≡ a') × (r ≡ r' → follows)
SameCall (Waited limit w) (Waited limit' w') follows = (limit ≡ limit') × (w ≡ w' → follows)
SameCall (Polled sid v) (Polled sid' v') follows = (sid ≡ sid') × (v ≡ v' → follows)
SameCall (Noted sid mav) (Noted sid' mav') follows = (sid ≡ sid') × (mav ≡ mav') × follows
SameCall entry entry' follows = ⊥

-- Two talks ask, wait, look and note the same, until the desk answers differently. Where it never does, they end
-- together and leave the same.
abbrev pub SameTalk : {T : Type 0} → T → T → List Entry → List Entry → Type 0
SameTalk end end' [] [] = end ≡ end'
SameTalk end end' (entry ∷ trace) (entry' ∷ trace') = SameCall entry entry' (SameTalk end end' trace trace')
SameTalk end end' trace trace' = ⊥

-- what a talk leaves: what is written, and the session's macros
pub record Left : Type 0 where
  pub bytes : List ℕ
  pub macros : Table

abbrev pub left : List ℕ → Table → Left
left bytes macros = record { bytes = bytes; macros = macros }

-- The message, the macros and what the desk answers determine what is asked, what is written and the macros after it,
-- where no growth was refused.
abbrev pub TalkIsDetermined : Type 0
TalkIsDetermined = (sid : Sid) (macros : Table) (text : List ℕ) (trace trace' : List Entry) (bytes bytes' : List ℕ)
    (lasts lasts' : Bool) (kept kept' : Table) → TalksMessage sid macros text trace bytes lasts kept
    → TalksMessage sid macros text trace' bytes' lasts' kept' → AllAmple trace → AllAmple trace'
    → SameTalk (left bytes kept) (left bytes' kept') trace trace'

-- the mainframe reports no want of memory
abbrev pub TellsPlainly : SessionAnswer → Type 0
TellsPlainly answer = (work : Option WorkSeen) → IsPlain (SaysSession answer work)

-- nor a key of a lock that found no memory
abbrev pub KeepsKeys : SessionAsk → SessionAnswer → Type 0
KeepsKeys ask answer = (p : Panel) (work : Option WorkSeen) → KeepsKey p (AskSession ask) (SaysSession answer work)

-- no growth was refused in a call of the desk, in which these pieces were carried out
abbrev pub IsSmooth : Entry → List Carried → Type 0
IsSmooth (Asked ask answer) carried = TellsPlainly answer × (carried ≡ []) × KeepsKeys ask answer
IsSmooth entry carried = AllByRecursion (λ c. IsPlain c.answer) carried × (length carried ≤ 1)

-- nor in any of these calls
abbrev pub AllSmooth : List Entry → List (List Carried) → Type 0
AllSmooth [] carried = Unit {0}
AllSmooth (e ∷ trace) [] = ⊥
AllSmooth (e ∷ trace) (c ∷ carried) = IsSmooth e c × AllSmooth trace carried

-- the pieces that were carried out, call by call
abbrev pub carried_of : (old : DeskSeen) (trace : List Entry) (new : DeskSeen) → Leads CorePasses old trace new
    → List (List Carried)
carried_of old [] new l = []
carried_of old (e ∷ trace) new (mid, passes, l) = passes.0 ∷ carried_of mid trace new l

-- What is up to the world: the outcome of a measurement, and what the cards did in a call of the mainframe: their
-- failures, and what else the state leaves open of its answer.
pub data Outcome : Type 0 where
  Measured : (outcome : Result Reading CardFault) → Outcome
  Cards : (failures : FailuresAfter) → (left : LeftOpen) → Outcome

-- the outcome of a measurement, where the ask reports one
abbrev pub measured : AskSeen → List Outcome
measured (AskFinished done) = Measured done.outcome ∷ []
measured ask = []

-- the outcomes of these pieces, in order; the answers to them are determined
abbrev pub outcomes_in : List Carried → List Outcome
outcomes_in [] = []
outcomes_in (c ∷ carried) =
    measured c.ask ++ Cards (failures_after c.failed c.after.cage.cards) Determined ∷ outcomes_in carried

-- the outcomes of a call of the desk: of the ask itself, and of the pieces that were carried out
abbrev pub outcomes_by : (carried : List Carried) (old : DeskSeen) (entry : Entry) (new : DeskSeen)
    → PassesBy carried old entry new → List Outcome
outcomes_by carried old (Asked ask answer) new passes =
    Cards (failures_after passes.failed passes.after.cage.cards) (answer_leaves old.panel ask answer)
    ∷ outcomes_in carried
outcomes_by carried old entry new passes = outcomes_in carried

-- the outcomes of all these calls
abbrev pub outcomes_of : (old : DeskSeen) (trace : List Entry) (new : DeskSeen) → Leads CorePasses old trace new
    → List Outcome
outcomes_of old [] new l = []
outcomes_of old (e ∷ trace) new (mid, passes, l) =
    outcomes_by passes.0 old e mid passes.1 ++ outcomes_of mid trace new l

-- the pieces that were carried out in a talk, and its outcomes
abbrev pub carried_in : {old new : TalkState DeskSeen} {sid : Sid} {message bytes : List ℕ}
    → Talked CorePasses sid old message bytes new → List (List Carried)
carried_in {old} {new} t = carried_of old.desk t.trace new.desk t.leads

abbrev pub outcomes_in_talk : {old new : TalkState DeskSeen} {sid : Sid} {message bytes : List ℕ}
    → Talked CorePasses sid old message bytes new → List Outcome
outcomes_in_talk {old} {new} t = outcomes_of old.desk t.trace new.desk t.leads

-- two desks differ in their room alone
abbrev pub IsSameDesk : DeskSeen → DeskSeen → Type 0
IsSameDesk d d' = but_room d ≡ but_room d'

-- Over a mainframe the message, the macros, the outcomes of the measurements that are carried out and what the cards
-- did determine what is asked, answered and written, the desk that is left but for its room, and the macros, where no
-- growth was refused.
abbrev pub CoreTalkIsDetermined : Type 0
CoreTalkIsDetermined = (sid : Sid) (old old' new new' : TalkState DeskSeen) (message bytes bytes' : List ℕ)
    (t : Talked CorePasses sid old message bytes new) (t' : Talked CorePasses sid old' message bytes' new')
    → IsSameDesk old.desk old'.desk → old.macros ≡ old'.macros → AllAmple t.trace → AllAmple t'.trace
    → AllSmooth t.trace (carried_in t) → AllSmooth t'.trace (carried_in t')
    → outcomes_in_talk t ≡ outcomes_in_talk t' → (t.trace ≡ t'.trace) × (bytes ≡ bytes')
    × (new.macros ≡ new'.macros) × IsSameDesk new.desk new'.desk

-- the calls of a rest that succeeds, the pieces that were carried out in them, and their outcomes
abbrev pub waits_of : {old new : DeskSeen} → WaitsOut old true new → List Entry
waits_of r = replicate r.waits (Waited None (Again None)) ++ last_wait true

abbrev pub carried_at_rest : {old new : DeskSeen} → WaitsOut old true new → List (List Carried)
carried_at_rest {old} {new} r = carried_of old (waits_of r) new r.leads

abbrev pub outcomes_at_rest : {old new : DeskSeen} → WaitsOut old true new → List Outcome
outcomes_at_rest {old} {new} r = outcomes_of old (waits_of r) new r.leads

-- What is measured and what the cards did determine the desk that a rest that succeeds leaves, but for its room, where
-- no growth was refused.
abbrev pub CoreRestIsDetermined : Type 0
CoreRestIsDetermined = (d d' e e' : DeskSeen) (r : WaitsOut d true e) (r' : WaitsOut d' true e') → IsSameDesk d d'
    → AllSmooth (waits_of r) (carried_at_rest r) → AllSmooth (waits_of r') (carried_at_rest r')
    → outcomes_at_rest r ≡ outcomes_at_rest r' → IsSameDesk e e'
