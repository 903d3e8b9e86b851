-- What a step holds, or can't number, it hands back.
use Rattle.std.proofs.Common.{◌≡◌, Bool, true, false, Option, Some, None}
use Rattle.std.specs.Prelude.{◌==◌, ◌&&◌, not, MatchBool}
use Rattle.sw_core.specs.declared.ask.SessionAsk.{SessionAsk}
use Rattle.sw_core.specs.declared.ask.SessionAsk.TheVariants as Ask
use Rattle.sw_core.specs.declared.ask.SessionAnswer.{SessionAnswer}
use Rattle.sw_core.specs.declared.ask.SessionAnswer.TheVariants.{Joined, Full, Stranger, Broken, Done, Snapshot, Refused, Hold, Worn, Missed, Max, Lock, Info}
use Rattle.sw_core.specs.Panel.{Panel, is_running}
use Rattle.sw_core.specs.Action.{Effect, Action, AtOnce, BetweenScans, AfterScan, action_of}
use Rattle.sw_core.proofs.AnsweredLemmas.{effect_answered, barred_answered, happening_answered}
use Rattle.sw_core.specs.Event.{last_number}
use Rattle.sw_core.specs.Seen.{WorkSeen, AskSession, SaysSession}
use Rattle.sw_core.specs.Step.{StepEffect, StepHeld, StepAction, StepSession, Step, IsUnnumbered, IsEvent}
use Rattle.sw_core.specs.Step.{acts_unnumbered, StepJoined, StepAdmitted}
use Rattle.sw_core.specs.Step.{Admission, Dropped, ShutOut, Admitted, admission}
use Rattle.sw_core.specs.Seats.{asker_of}
use Rattle.sw_core.specs.declared.ask.Sid.{Sid}
use Rattle.sw_talk.specs.Trace.{HandsBackAsk}
use Rattle.sw_talk.proofs.NearerLemmas.{numbered}

held-back : (p : Panel) (ask : SessionAsk) (f : Bool) (back : SessionAsk) (work : Option WorkSeen) (q : Panel) → StepHeld p ask f (Hold back) work q
    → back ≡ ask
held-back p ask f back None q s = s.1
held-back p ask f back (Some work) q s = absurd s

waiting-hold : (b : Bool) (effect : Effect) (p : Panel) (ask : SessionAsk) (f : Bool) (back : SessionAsk) (work : Option WorkSeen) (q : Panel)
    → MatchBool b (StepHeld p ask f (Hold back) work q) (StepEffect effect p f (Hold back) work q) → back ≡ ask
waiting-hold true effect p ask f back work q s = held-back p ask f back work q s
waiting-hold false effect p ask f back work q s = absurd (effect_answered effect p f (Hold back) work q s)

hold-action : (action : Action) (p : Panel) (ask : SessionAsk) (f : Bool) (back : SessionAsk) (work : Option WorkSeen) (q : Panel)
    → StepAction action p ask f (Hold back) work q → back ≡ ask
hold-action (AtOnce effect) p ask f back work q s = absurd (effect_answered effect p f (Hold back) work q s)
hold-action (BetweenScans effect) p ask f back work q s = absurd (barred_answered (is_running p) effect p f (Hold back) work q s)
hold-action (AfterScan effect) p ask f back work q s = waiting-hold (is_running p) effect p ask f back work q s

waiting-worn : (b : Bool) (effect : Effect) (p : Panel) (ask : SessionAsk) (f : Bool) (back : SessionAsk) (work : Option WorkSeen) (q : Panel)
    → MatchBool b (StepHeld p ask f (Worn back) work q) (StepEffect effect p f (Worn back) work q) → ⊥
waiting-worn true effect p ask f back work q s = s
waiting-worn false effect p ask f back work q s = effect_answered effect p f (Worn back) work q s

worn-action : (action : Action) (p : Panel) (ask : SessionAsk) (f : Bool) (back : SessionAsk) (work : Option WorkSeen) (q : Panel)
    → StepAction action p ask f (Worn back) work q → ⊥
worn-action (AtOnce effect) p ask f back work q s = effect_answered effect p f (Worn back) work q s
worn-action (BetweenScans effect) p ask f back work q s = barred_answered (is_running p) effect p f (Worn back) work q s
worn-action (AfterScan effect) p ask f back work q s = waiting-worn (is_running p) effect p ask f back work q s

held-served : (p : Panel) (ask : SessionAsk) (f : Bool) (back : SessionAsk) (work : Option WorkSeen) (q : Panel) → StepJoined p ask f (Hold back) work q
    → back ≡ ask
held-served p (Ask.Unit sid command answered) f back work q s = hold-action (action_of answered command) p (Ask.Unit sid command answered) f back work q s
held-served p (Ask.Fault sid e) f back None q s = absurd s.served
held-served p (Ask.Fault sid e) f back (Some work) q s = absurd s
held-served p (Ask.Bus sid) f back work q s = absurd (happening_answered _ s.told (Hold back) s.answer_is)
held-served p (Ask.Snapshot sid) f back None q s = absurd s
held-served p (Ask.Snapshot sid) f back (Some work) q s = absurd s
held-served p (Ask.Start sid plan) f back work q s = absurd s
held-served p (Ask.Lock sid key) f back None q s = s.served.1
held-served p (Ask.Lock sid key) f back (Some work) q s = absurd s
held-served p (Ask.Attached sid) f back None q s = absurd s.served
held-served p (Ask.Attached sid) f back (Some work) q s = absurd s
held-served p (Ask.Leave sid) f back None q s = absurd s.served
held-served p (Ask.Leave sid) f back (Some work) q s = absurd s
held-served p (Ask.Size sid size) f back None q s = absurd s.served
held-served p (Ask.Size sid size) f back (Some work) q s = absurd s
held-served p (Ask.MaxSize sid) f back None q s = absurd s.served
held-served p (Ask.MaxSize sid) f back (Some work) q s = absurd s
held-served p (Ask.Clear sid) f back None q s = absurd s.served
held-served p (Ask.Clear sid) f back (Some work) q s = absurd s
held-served p (Ask.Cleared sid) f back None q s = absurd s.served
held-served p (Ask.Cleared sid) f back (Some work) q s = absurd s
held-served p (Ask.Release sid) f back None q s = absurd s.served
held-served p (Ask.Release sid) f back (Some work) q s = absurd s
held-served p (Ask.LockInfo sid) f back None q s = absurd s.served
held-served p (Ask.LockInfo sid) f back (Some work) q s = absurd s
held-served p (Ask.Attach number) f back None q s = absurd s.served
held-served p (Ask.Attach number) f back (Some work) q s = absurd s
held-served p Ask.Join f back None q s = absurd s.served
held-served p Ask.Join f back (Some work) q s = absurd s

held-admitted : (now : Admission) (p : Panel) (ask : SessionAsk) (f : Bool) (back : SessionAsk) (work : Option WorkSeen) (q : Panel)
    → StepAdmitted now p ask f (Hold back) work q → back ≡ ask
held-admitted Dropped p ask f back work q s = absurd s
held-admitted ShutOut p ask f back work q s = held-back p ask f back work q s
held-admitted Admitted p ask f back work q s = held-served p ask f back work q s

held-of : (o : Option Sid) (p : Panel) (ask : SessionAsk) (f : Bool) (back : SessionAsk) (work : Option WorkSeen) (q : Panel)
    → StepSession o p ask f (Hold back) work q → back ≡ ask
held-of None p Ask.Join f back work q s = absurd s
held-of None p (Ask.Attach number) f back work q s = absurd s
held-of None p ask f back work q s = absurd s
held-of (Some sid) p ask f back work q s = held-admitted (admission p sid ask) p ask f back work q s.1

held : (p : Panel) (ask : SessionAsk) (f : Bool) (back : SessionAsk) (work : Option WorkSeen) (q : Panel)
    → StepSession (asker_of ask) p ask f (Hold back) work q → back ≡ ask
held p ask f back work q s = held-of (asker_of ask) p ask f back work q s

unworn-served : (p : Panel) (ask : SessionAsk) (f : Bool) (back : SessionAsk) (work : Option WorkSeen) (q : Panel) → StepJoined p ask f (Worn back) work q → ⊥
unworn-served p (Ask.Unit sid command answered) f back work q s = worn-action (action_of answered command) p (Ask.Unit sid command answered) f back work q s
unworn-served p (Ask.Fault sid e) f back None q s = s.served
unworn-served p (Ask.Fault sid e) f back (Some work) q s = s
unworn-served p (Ask.Bus sid) f back work q s = happening_answered _ s.told (Worn back) s.answer_is
unworn-served p (Ask.Snapshot sid) f back None q s = s
unworn-served p (Ask.Snapshot sid) f back (Some work) q s = s
unworn-served p (Ask.Start sid plan) f back work q s = s
unworn-served p (Ask.Attached sid) f back None q s = s.served
unworn-served p (Ask.Attached sid) f back (Some work) q s = s
unworn-served p (Ask.Leave sid) f back None q s = s.served
unworn-served p (Ask.Leave sid) f back (Some work) q s = s
unworn-served p (Ask.Size sid size) f back None q s = s.served
unworn-served p (Ask.Size sid size) f back (Some work) q s = s
unworn-served p (Ask.MaxSize sid) f back None q s = s.served
unworn-served p (Ask.MaxSize sid) f back (Some work) q s = s
unworn-served p (Ask.Clear sid) f back None q s = s.served
unworn-served p (Ask.Clear sid) f back (Some work) q s = s
unworn-served p (Ask.Cleared sid) f back None q s = s.served
unworn-served p (Ask.Cleared sid) f back (Some work) q s = s
unworn-served p (Ask.Release sid) f back None q s = s.served
unworn-served p (Ask.Release sid) f back (Some work) q s = s
unworn-served p (Ask.LockInfo sid) f back None q s = s.served
unworn-served p (Ask.LockInfo sid) f back (Some work) q s = s
unworn-served p (Ask.Lock sid key) f back None q s = s.served
unworn-served p (Ask.Lock sid key) f back (Some work) q s = s
unworn-served p (Ask.Attach number) f back None q s = s.served
unworn-served p (Ask.Attach number) f back (Some work) q s = s
unworn-served p Ask.Join f back None q s = s.served
unworn-served p Ask.Join f back (Some work) q s = s

unworn-admitted : (now : Admission) (p : Panel) (ask : SessionAsk) (f : Bool) (back : SessionAsk) (work : Option WorkSeen) (q : Panel)
    → StepAdmitted now p ask f (Worn back) work q → ⊥
unworn-admitted Dropped p ask f back work q s = s
unworn-admitted ShutOut p ask f back work q s = s
unworn-admitted Admitted p ask f back work q s = unworn-served p ask f back work q s

unworn-of : (o : Option Sid) (p : Panel) (ask : SessionAsk) (f : Bool) (back : SessionAsk) (work : Option WorkSeen) (q : Panel)
    → StepSession o p ask f (Worn back) work q → ⊥
unworn-of None p Ask.Join f back work q s = s
unworn-of None p (Ask.Attach number) f back work q s = s
unworn-of None p ask f back work q s = s
unworn-of (Some sid) p ask f back work q s = unworn-admitted (admission p sid ask) p ask f back work q s.1

unworn : (p : Panel) (ask : SessionAsk) (f : Bool) (back : SessionAsk) (work : Option WorkSeen) (q : Panel)
    → StepSession (asker_of ask) p ask f (Worn back) work q → ⊥
unworn p ask f back work q s = unworn-of (asker_of ask) p ask f back work q s

worn : (p : Panel) (ask : SessionAsk) (f : Bool) (back : SessionAsk) (work : Option WorkSeen) (q : Panel)
    → IsUnnumbered p (AskSession ask) f (SaysSession (Worn back) work) q → back ≡ ask
worn p ask f back None q u = u.worn
worn p ask f back (Some work) q u = absurd u.worn

pub handed-back : (p : Panel) (ask : SessionAsk) (f : Bool) (answer : SessionAnswer) (work : Option WorkSeen) (q : Panel)
    → Step p (AskSession ask) f (SaysSession answer work) q → HandsBackAsk ask answer
handed-back p ask f (Hold back) work q s =
    numbered ((p.events == last_number) && not (acts_unnumbered (AskSession ask))) s
    (λ (u : IsUnnumbered p (AskSession ask) f (SaysSession (Hold back) work) q). absurd u.worn)
    (λ (e : IsEvent p (AskSession ask) f (SaysSession (Hold back) work) q). held p ask f back work e.done e.acts)
handed-back p ask f (Worn back) work q s =
    numbered ((p.events == last_number) && not (acts_unnumbered (AskSession ask))) s
    (λ (u : IsUnnumbered p (AskSession ask) f (SaysSession (Worn back) work) q). worn p ask f back work q u)
    (λ (e : IsEvent p (AskSession ask) f (SaysSession (Worn back) work) q). absurd (unworn p ask f back work e.done e.acts))
handed-back p ask f (Joined sid) work q s = tt
handed-back p ask f Full work q s = tt
handed-back p ask f Missed work q s = tt
handed-back p ask f (Max size) work q s = tt
handed-back p ask f (Lock code) work q s = tt
handed-back p ask f (Info exclusive holders) work q s = tt
handed-back p ask f Stranger work q s = tt
handed-back p ask f Broken work q s = tt
handed-back p ask f (Done text) work q s = tt
handed-back p ask f (Snapshot snapshot number) work q s = tt
handed-back p ask f (Refused e) work q s = tt
