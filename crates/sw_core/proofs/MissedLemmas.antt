-- A happening that no scan takes moves nothing.
use Rattle.std.proofs.Common.{◌≡◌, ℕ, ◌==◌, ◌&&◌, not, Bool, true, false, Option, None, Some, refl, sym, ◌∙◌, ap, subst, arith}
use Rattle.std.specs.Prelude.{MatchBool}
use Rattle.sw_base.specs.declared.error.ScpiError.{ScpiError}
use Rattle.sw_base.specs.declared.error.ScpiError.TheVariants.{TriggerIgnored, ArmIgnored}
use Rattle.sw_base.specs.declared.terms.LayerName.TheVariants as layer_name
use Rattle.sw_lex.specs.declared.command.Command.{Command}
use Rattle.sw_lex.specs.declared.command.NoData.{NoData}
use Rattle.sw_cage.specs.Accounts.{is_closed}
use Rattle.sw_cage.specs.Cage.{CageSeen}
use Rattle.sw_cage.specs.Good.{IsHeld}
use Rattle.sw_cage.specs.Outcome.{with_back}
use Rattle.sw_cage.specs.Work.{FinishedSeen}
use Rattle.sw_cage.specs.TakenSeen.{TakenSeen, SaysIgnored, SaysWaits, SaysPause, SaysJob, SaysEnded, SaysFault}
use Rattle.sw_cage.specs.declared.taken.Happening.{Happening}
use Rattle.sw_cage.specs.declared.taken.Happening.TheVariants.{Bus, Signal, External, Elapsed}
use Rattle.sw_core.specs.declared.ask.Sid.{Sid}
use Rattle.sw_core.specs.declared.ask.SessionAsk.{SessionAsk}
use Rattle.sw_core.specs.declared.ask.SessionAsk.TheVariants as Ask
use Rattle.sw_core.specs.declared.ask.SessionAnswer.{SessionAnswer}
use Rattle.sw_core.specs.declared.ask.SessionAnswer.TheVariants.{Stranger, Broken, Hold}
use Rattle.sw_core.specs.Panel.{Panel}
use Rattle.sw_core.specs.Action.{action_of, is_trigger}
use Rattle.sw_core.specs.Event.{last_number}
use Rattle.sw_core.specs.Seats.{asker_of}
use Rattle.sw_core.specs.Seen.{WorkSeen, AskSeen, AskSession, AskInstall, AskEject, AskExternal, AskElapsed, AskFinished, AnswerSeen, SaysSession, SaysBack}
use Rattle.sw_core.specs.Step.{Happens, StepHappens, session_told, StepAction, StepJoined, StepAdmitted, StepNew, StepSession, outside_told, StepOutside}
use Rattle.sw_core.specs.Step.{Returns, StepFinished, Acts, acts_unnumbered, IsEvent, IsUnnumbered, Step, Admission, Dropped, ShutOut, Admitted, admission}
use Rattle.sw_core.specs.Taken.{went_on, was_taken, took_command, took, is_happening, IsUnmoved}
use Rattle.sw_core.proofs.AdvancingLemmas.{same_back}
use Rattle.sw_core.proofs.MovingLemmas.{concluded_scan}

-- what is as it was is unmoved
unmoved_is : (p q : Panel) → q.cage ≡ p.cage → IsUnmoved p q
unmoved_is p q e = record {
  scan = ap (λ (c : CageSeen). c.scan) e;
  readings = ap (λ (c : CageSeen). c.readings) e;
  relays = λ c. ap (λ (x : CageSeen). is_closed x.cards c) e;
}

one_none : {A : Type 0} → ◌≡◌ {A = ℕ} 1 0 → A
one_none e = absurd (omega (arith, e))

-- ---- sessions

ignored : (p : Panel) (happening : Happening) (error : ScpiError) (f : Bool) (told : TakenSeen) (q : Panel) → went_on (session_told error told) ≡ 0
    → Happens p happening f told q → q ≡ p
ignored p happening error f SaysIgnored q n h = h.2
ignored p happening error f SaysWaits q n h = one_none n
ignored p happening error f (SaysPause t u) q n h = one_none n
ignored p happening error f (SaysJob job) q n h = one_none n
ignored p happening error f SaysEnded q n h = one_none n
ignored p happening error f SaysFault q n h = one_none n

missed_offer : (p : Panel) (happening : Happening) (error : ScpiError) (f : Bool) (a : SessionAnswer) (w : Option WorkSeen) (q : Panel)
    → StepHappens p happening error f a w q → went_on a ≡ 0 → q ≡ p
missed_offer p happening error f a w q h n = ignored p happening error f h.told q (sym (ap went_on h.answer_is) ∙ n) h.happens

missed_unit : (p : Panel) (sid : Sid) (command : Command) (available f : Bool) (a : SessionAnswer) (w : Option WorkSeen) (q : Panel)
    → is_trigger command ≡ true → StepAction (action_of available command) p (Ask.Unit sid command available) f a w q
    → took_command (action_of available command) a ≡ 0 → q ≡ p
missed_unit p sid (Command.NoData NoData.Trigger) available f a w q o h n = missed_offer p Bus TriggerIgnored f a w q h n
missed_unit p sid (Command.Signal layer_name.Trigger) available f a w q o h n = missed_offer p (Signal layer_name.Trigger) TriggerIgnored f a w q h n
missed_unit p sid (Command.Signal (layer_name.Arm arm)) available f a w q o h n = missed_offer p (Signal (layer_name.Arm arm)) ArmIgnored f a w q h n
missed_unit p sid command available f a w q o h n = absurd (cc (o))

missed_joined : (p : Panel) (ask : SessionAsk) (f : Bool) (a : SessionAnswer) (w : Option WorkSeen) (q : Panel) → is_happening (AskSession ask) ≡ true
    → StepJoined p ask f a w q → took (AskSession ask) (SaysSession a w) ≡ 0 → q ≡ p
missed_joined p (Ask.Unit sid command available) f a w q o h n = missed_unit p sid command available f a w q o h n
missed_joined p (Ask.Bus sid) f a w q o h n = missed_offer p Bus TriggerIgnored f a w q h n
missed_joined p ask f a w q o h n = absurd (cc (o))

missed_admitted : (now : Admission) (p : Panel) (ask : SessionAsk) (f : Bool) (a : SessionAnswer) (w : Option WorkSeen) (q : Panel)
    → is_happening (AskSession ask) ≡ true → StepAdmitted now p ask f a w q → took (AskSession ask) (SaysSession a w) ≡ 0 → q ≡ p
missed_admitted Dropped p ask f Broken None q o h n = h.1
missed_admitted Dropped p ask f a w q o h n = absurd h
missed_admitted ShutOut p ask f (Hold back) None q o h n = h.2
missed_admitted ShutOut p ask f a w q o h n = absurd h
missed_admitted Admitted p ask f a w q o h n = missed_joined p ask f a w q o h n

missed_new : (p : Panel) (ask : SessionAsk) (f : Bool) (a : SessionAnswer) (w : Option WorkSeen) (q : Panel) → is_happening (AskSession ask) ≡ true
    → StepNew p ask f a w q → q ≡ p
missed_new p Ask.Join f a w q o h = absurd (cc (o))
missed_new p (Ask.Attach number) f a w q o h = absurd (cc (o))
missed_new p ask f a w q o h = absurd h

missed_session : (o : Option Sid) (p : Panel) (ask : SessionAsk) (f : Bool) (a : SessionAnswer) (w : Option WorkSeen) (q : Panel)
    → is_happening (AskSession ask) ≡ true → StepSession o p ask f a w q → took (AskSession ask) (SaysSession a w) ≡ 0 → q ≡ p
missed_session None p ask f a w q o h n = missed_new p ask f a w q o h
missed_session (Some sid) p ask f Stranger None q o h n = h.2
missed_session (Some sid) p ask f a w q o h n = missed_admitted (admission p sid ask) p ask f a w q o h.1 n

-- ---- what is no session's

not_taken : (told : TakenSeen) → was_taken (outside_told told) ≡ 0 → told ≡ SaysIgnored
not_taken SaysIgnored n = refl
not_taken SaysWaits n = one_none n
not_taken (SaysPause t u) n = one_none n
not_taken (SaysJob job) n = one_none n
not_taken SaysEnded n = one_none n
not_taken SaysFault n = one_none n

missed_outside : (p : Panel) (happening : Happening) (f : Bool) (a : AnswerSeen) (q : Panel) → StepOutside p happening f a q → was_taken a ≡ 0 → q ≡ p
missed_outside p happening f a q h n =
    let none : h.told ≡ SaysIgnored = not_taken h.told (sym (ap was_taken h.answer_is) ∙ n) in
    let same : Happens p happening f SaysIgnored q = subst (λ (t : TakenSeen). Happens p happening f t q) none h.happens in
    same.2

missed_finished : (p : Panel) (done : FinishedSeen) (f : Bool) (a : AnswerSeen) (q : Panel) → IsHeld p.cage → StepFinished p done f a q → was_taken a ≡ 0
    → IsUnmoved p q
missed_finished p done f SaysBack q k h n = unmoved_is p q (ap (λ (x : Panel). x.cage) h.2)
missed_finished p done f a q k h n =
    let none : h.told ≡ SaysIgnored = not_taken h.told (sym (ap was_taken h.answer_is) ∙ n) in
    let late : Returns p done f SaysIgnored q = subst (λ (t : TakenSeen). Returns p done f t q) none h.returns in
    let cage : q.cage ≡ with_back p.cage done = ap (λ (x : Panel). x.cage) late.2 in
    record {
      scan = ap (λ (c : CageSeen). c.scan) cage;
      readings = ap (λ (c : CageSeen). c.readings) cage;
      relays = λ c. ap (λ (x : CageSeen). is_closed x.cards c) cage ∙ same_back p.cage done k h.out c;
    }

-- ---- events

missed_acts : (p : Panel) (ask : AskSeen) (f : Bool) (a : AnswerSeen) (q : Panel) → IsHeld p.cage → is_happening ask ≡ true → Acts p ask f a q
    → took ask a ≡ 0 → IsUnmoved p q
missed_acts p (AskSession ask) f (SaysSession a w) q k o h n =
    unmoved_is p q (ap (λ (x : Panel). x.cage) (missed_session (asker_of ask) p ask f a w q o h n))
missed_acts p (AskInstall slot card) f a q k o h n = absurd (cc (o))
missed_acts p (AskEject slot) f a q k o h n = absurd (cc (o))
missed_acts p AskExternal f a q k o h n = unmoved_is p q (ap (λ (x : Panel). x.cage) (missed_outside p External f a q h n))
missed_acts p (AskElapsed ticket) f a q k o h n = unmoved_is p q (ap (λ (x : Panel). x.cage) (missed_outside p (Elapsed ticket) f a q h n))
missed_acts p (AskFinished done) f a q k o h n = missed_finished p done f a q k h n
missed_acts p ask f a q k o h n = absurd h

unmoved_as : (p m q : Panel) → q.cage ≡ m.cage → IsUnmoved p m → IsUnmoved p q
unmoved_as p m q e u = record {
  scan = ap (λ (c : CageSeen). c.scan) e ∙ u.scan;
  readings = ap (λ (c : CageSeen). c.readings) e ∙ u.readings;
  relays = λ c. ap (λ (x : CageSeen). is_closed x.cards c) e ∙ u.relays c;
}

missed_either : (b : Bool) (p : Panel) (ask : AskSeen) (f : Bool) (a : AnswerSeen) (q : Panel) → IsHeld p.cage → is_happening ask ≡ true
    → MatchBool b (IsUnnumbered p ask f a q) (IsEvent p ask f a q) → took ask a ≡ 0 → IsUnmoved p q
missed_either true p ask f a q k o h n = unmoved_is p q (ap (λ (x : Panel). x.cage) h.same)
missed_either false p ask f a q k o h n =
    unmoved_as p h.done q (ap (λ (x : Panel). x.cage) h.after ∙ concluded_scan a h.done) (missed_acts p ask f a h.done k o h.acts n)

pub missed_step : (p : Panel) (ask : AskSeen) (f : Bool) (a : AnswerSeen) (q : Panel) → IsHeld p.cage → is_happening ask ≡ true → Step p ask f a q
    → took ask a ≡ 0 → IsUnmoved p q
missed_step p ask f a q k o h n = missed_either ((p.events == last_number) && not (acts_unnumbered ask)) p ask f a q k o h n
