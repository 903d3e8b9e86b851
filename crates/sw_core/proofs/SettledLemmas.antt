-- OPERation's condition tells what the scan awaits, at the end of each event.
use Rattle.std.proofs.Common.{◌≡◌, ◌==◌, ◌&&◌, not, Bool, true, false, Option, None, Some, refl, sym, subst}
use Rattle.std.specs.Prelude.{MatchBool}
use Rattle.sw_base.specs.declared.error.ScpiError.TheVariants.{TriggerIgnored, HardwareError}
use Rattle.sw_base.specs.declared.terms.LayerName.TheVariants.{Arm, Trigger}
use Rattle.sw_trigger.specs.declared.layer.Awaited.{Awaited}
use Rattle.sw_trigger.specs.declared.layer.Awaited.TheVariants.{Wait, Period, Pause, Read}
use Rattle.sw_verify.specs.declared.snapshot.Snapshot.{Snapshot}
use Rattle.sw_status.specs.Registers.{low_15}
use Rattle.sw_cage.specs.Takes.{awaited_now, awaited_after}
use Rattle.sw_cage.specs.TakenSeen.{TakenSeen, SaysIgnored, SaysWaits, SaysPause, SaysJob, SaysEnded, SaysFault}
use Rattle.sw_core.specs.declared.ask.Sid.{Sid}
use Rattle.sw_core.specs.declared.ask.SessionAsk.{SessionAsk}
use Rattle.sw_core.specs.declared.ask.SessionAsk.TheVariants as Ask
use Rattle.sw_core.specs.declared.ask.SessionAnswer.{SessionAnswer}
use Rattle.sw_core.specs.declared.ask.SessionAnswer.TheVariants as answers
use Rattle.sw_core.specs.declared.ask.SessionAnswer.TheVariants.{Joined, Full, Stranger, Broken, Done, Refused, Hold, Worn}
use Rattle.sw_core.specs.Panel.{Panel, is_running}
use Rattle.sw_core.specs.Action.{Effect, Action, AtOnce, BetweenScans, AfterScan, action_of}
use Rattle.sw_core.specs.Event.{pause_bits, awaited_bits, scan_bits, ended, erred, concluded, session_concluded, last_number}
use Rattle.sw_core.specs.Seen.{WorkSeen, AskSeen, AskSession, AskExternal, AskElapsed, AskFinished, AnswerSeen, SaysSession}
use Rattle.sw_core.specs.Seen.{SaysInstalled}
use Rattle.sw_core.specs.Seen.{SaysNotInstalled, SaysEjected, SaysNotEjected, SaysTaken, SaysMissed, SaysFailed, SaysBack, SaysWorn}
use Rattle.sw_core.specs.Seats.{asker_of}
use Rattle.sw_core.specs.Step.{StepEffect, StepHeld, StepAction, StepSnapshot, StepStart, IsServed, StepJoined, StepAdmitted}
use Rattle.sw_core.specs.Step.{StepJoin, StepAttach, StepNew, StepSession, outside_told, Acts, acts_unnumbered, IsEvent, IsUnnumbered, Step}
use Rattle.sw_core.specs.Step.{Admission, Dropped, ShutOut, Admitted, admission}
use Rattle.sw_core.proofs.AnsweredLemmas.{IsAnswered, effect_answered, barred_answered, happening_answered}

abbrev pub IsTelling : Panel → Type 0
IsTelling p = p.status.operation.condition ≡ scan_bits p.cage.scan

low_pause_bits : (after : Option Awaited) → low_15 (pause_bits after) ≡ pause_bits after
low_pause_bits (Some Read) = refl
low_pause_bits (Some (Wait name)) = refl
low_pause_bits (Some (Period name micros)) = refl
low_pause_bits (Some (Pause micros)) = refl
low_pause_bits None = refl

low_bits : (o after : Option Awaited) → low_15 (awaited_bits o after) ≡ awaited_bits o after
low_bits (Some Read) after = refl
low_bits (Some (Wait Trigger)) after = refl
low_bits (Some (Wait (Arm arm))) after = refl
low_bits (Some (Period Trigger micros)) after = refl
low_bits (Some (Period (Arm arm) micros)) after = refl
low_bits (Some (Pause micros)) after = low_pause_bits after
low_bits None after = refl

-- an event that ends tells it anew
ended_telling : (p : Panel) → IsTelling (ended p)
ended_telling p = low_bits (awaited_now p.cage.scan) (awaited_after p.cage.scan)

telling_as : (p q : Panel) → q ≡ p → IsTelling p → IsTelling q
telling_as p q e k = subst (λ (x : Panel). IsTelling x) (sym e) k

-- ---- what is no event

-- an answer that ends no event
abbrev pub IsSilent : SessionAnswer → Type 0
IsSilent Stranger = Unit {0}
IsSilent Broken = Unit {0}
IsSilent (Hold ask) = Unit {0}
IsSilent (Worn ask) = Unit {0}
IsSilent answer = ⊥

silent_apart : (a : SessionAnswer) → IsAnswered a → IsSilent a → ⊥
silent_apart (Done text) k n = n
silent_apart (Refused e) k n = n
silent_apart a k n = absurd k

held_telling : (p : Panel) (ask : SessionAsk) (f : Bool) (a : SessionAnswer) (w : Option WorkSeen) (q : Panel) → IsTelling p → StepHeld p ask f a w q
    → IsTelling q
held_telling p ask f (Hold back) None q k h = telling_as p q h.2 k
held_telling p ask f a w q k h = absurd h

waiting_telling : (b : Bool) (e : Effect) (p : Panel) (ask : SessionAsk) (f : Bool) (a : SessionAnswer) (w : Option WorkSeen) (q : Panel) → IsSilent a
    → IsTelling p
    → MatchBool b (StepHeld p ask f a w q) (StepEffect e p f a w q) → IsTelling q
waiting_telling true e p ask f a w q n k h = held_telling p ask f a w q k h
waiting_telling false e p ask f a w q n k h = absurd (silent_apart a (effect_answered e p f a w q h) n)

action_telling : (x : Action) (p : Panel) (ask : SessionAsk) (f : Bool) (a : SessionAnswer) (w : Option WorkSeen) (q : Panel) → IsSilent a → IsTelling p
    → StepAction x p ask f a w q → IsTelling q
action_telling (AtOnce e) p ask f a w q n k h = absurd (silent_apart a (effect_answered e p f a w q h) n)
action_telling (BetweenScans e) p ask f a w q n k h = absurd (silent_apart a (barred_answered (is_running p) e p f a w q h) n)
action_telling (AfterScan e) p ask f a w q n k h = waiting_telling (is_running p) e p ask f a w q n k h

snapshot_silent : (p : Panel) (f : Bool) (a : SessionAnswer) (q : Panel) → IsSilent a → StepSnapshot p f a q → ⊥
snapshot_silent p f Stranger q n h = h
snapshot_silent p f Broken q n h = h
snapshot_silent p f (Hold back) q n h = h
snapshot_silent p f (Worn back) q n h = h
snapshot_silent p f a q n h = absurd n

start_silent : (p : Panel) (plan : Snapshot) (f : Bool) (a : SessionAnswer) (w : Option WorkSeen) (q : Panel) → IsSilent a → StepStart p plan f a w q → ⊥
start_silent p plan f Stranger w q n h = h
start_silent p plan f Broken w q n h = h
start_silent p plan f (Hold back) w q n h = h
start_silent p plan f (Worn back) w q n h = h
start_silent p plan f a w q n h = absurd n

served_telling : (p : Panel) (ask : SessionAsk) (f : Bool) (a : SessionAnswer) (q : Panel) → IsTelling p → IsServed p ask f a q → IsTelling q
served_telling p ask f a q k h = telling_as (record p { sessions = h.sessions }) q h.after k

joined_telling : (p : Panel) (ask : SessionAsk) (f : Bool) (a : SessionAnswer) (w : Option WorkSeen) (q : Panel) → IsSilent a → IsTelling p
    → StepJoined p ask f a w q → IsTelling q
joined_telling p (Ask.Fault sid e) f (Done text) w q n k h = absurd n
joined_telling p (Ask.Fault sid e) f a None q n k h = served_telling p (Ask.Fault sid e) f a q k h
joined_telling p (Ask.Unit sid command available) f a w q n k h = action_telling (action_of available command) p (Ask.Unit sid command available) f a w q n k h
joined_telling p (Ask.Bus sid) f a w q n k h = absurd (silent_apart a (happening_answered TriggerIgnored h.told a h.answer_is) n)
joined_telling p (Ask.Snapshot sid) f a None q n k h = absurd (snapshot_silent p f a q n h)
joined_telling p (Ask.Start sid plan) f a w q n k h = absurd (start_silent p plan f a w q n h)
joined_telling p (Ask.Attached sid) f a None q n k h = served_telling p (Ask.Attached sid) f a q k h
joined_telling p (Ask.Leave sid) f a None q n k h = served_telling p (Ask.Leave sid) f a q k h
joined_telling p (Ask.Size sid size) f a None q n k h = served_telling p (Ask.Size sid size) f a q k h
joined_telling p (Ask.MaxSize sid) f a None q n k h = served_telling p (Ask.MaxSize sid) f a q k h
joined_telling p (Ask.Clear sid) f a None q n k h = served_telling p (Ask.Clear sid) f a q k h
joined_telling p (Ask.Cleared sid) f a None q n k h = served_telling p (Ask.Cleared sid) f a q k h
joined_telling p (Ask.Lock sid key) f a None q n k h = served_telling p (Ask.Lock sid key) f a q k h
joined_telling p (Ask.Release sid) f a None q n k h = served_telling p (Ask.Release sid) f a q k h
joined_telling p (Ask.LockInfo sid) f a None q n k h = served_telling p (Ask.LockInfo sid) f a q k h
joined_telling p Ask.Join f a None q n k h = served_telling p Ask.Join f a q k h
joined_telling p (Ask.Attach number) f a None q n k h = served_telling p (Ask.Attach number) f a q k h
joined_telling p ask f a w q n k h = absurd h

admitted_telling : (now : Admission) (p : Panel) (ask : SessionAsk) (f : Bool) (a : SessionAnswer) (w : Option WorkSeen) (q : Panel) → IsSilent a → IsTelling p
    → StepAdmitted now p ask f a w q → IsTelling q
admitted_telling Dropped p ask f Broken None q n k h = telling_as p q h.1 k
admitted_telling Dropped p ask f a w q n k h = absurd h
admitted_telling ShutOut p ask f a w q n k h = held_telling p ask f a w q k h
admitted_telling Admitted p ask f a w q n k h = joined_telling p ask f a w q n k h

join_silent : (p : Panel) (f : Bool) (a : SessionAnswer) (w : Option WorkSeen) (q : Panel) → IsSilent a → StepJoin p f a w q → ⊥
join_silent p f (Joined sid) w q n h = n
join_silent p f Full w q n h = n
join_silent p f a w q n h = h

attach_telling : (p : Panel) (number : _) (f : Bool) (a : SessionAnswer) (w : Option WorkSeen) (q : Panel) → IsSilent a → IsTelling p
    → StepAttach p number f a w q → IsTelling q
attach_telling p number f (Joined sid) w q n k h = absurd n
attach_telling p number f Stranger None q n k h = telling_as p q h.2 k
attach_telling p number f a w q n k h = absurd h

new_telling : (p : Panel) (ask : SessionAsk) (f : Bool) (a : SessionAnswer) (w : Option WorkSeen) (q : Panel) → IsSilent a → IsTelling p → StepNew p ask f a w q
    → IsTelling q
new_telling p Ask.Join f a w q n k h = absurd (join_silent p f a w q n h)
new_telling p (Ask.Attach number) f a w q n k h = attach_telling p number f a w q n k h
new_telling p ask f a w q n k h = absurd h

session_telling : (o : Option Sid) (p : Panel) (ask : SessionAsk) (f : Bool) (a : SessionAnswer) (w : Option WorkSeen) (q : Panel) → IsSilent a → IsTelling p
    → StepSession o p ask f a w q → IsTelling q
session_telling None p ask f a w q n k h = new_telling p ask f a w q n k h
session_telling (Some sid) p ask f Stranger None q n k h = telling_as p q h.2 k
session_telling (Some sid) p ask f a w q n k h = admitted_telling (admission p sid ask) p ask f a w q n k h.1

-- ---- events

session_settled : (a : SessionAnswer) (w : Option WorkSeen) (p : Panel) (ask : SessionAsk) (f : Bool) (q : Panel) → IsTelling p
    → StepSession (asker_of ask) p ask f a w q → IsTelling (session_concluded a q)
session_settled Stranger w p ask f q k h = session_telling (asker_of ask) p ask f Stranger w q tt k h
session_settled Broken w p ask f q k h = session_telling (asker_of ask) p ask f Broken w q tt k h
session_settled (Hold back) w p ask f q k h = session_telling (asker_of ask) p ask f (Hold back) w q tt k h
session_settled (Worn back) w p ask f q k h = session_telling (asker_of ask) p ask f (Worn back) w q tt k h
session_settled (Refused e) w p ask f q k h = ended_telling (erred q e)
session_settled (Joined sid) w p ask f q k h = ended_telling q
session_settled Full w p ask f q k h = ended_telling q
session_settled (Done text) w p ask f q k h = ended_telling q
session_settled (answers.Snapshot s number) w p ask f q k h = ended_telling q
session_settled answers.Missed w p ask f q k h = ended_telling q
session_settled (answers.Max n) w p ask f q k h = ended_telling q
session_settled (answers.Lock code) w p ask f q k h = ended_telling q
session_settled (answers.Info exclusive n) w p ask f q k h = ended_telling q

-- what is answered to no session
abbrev pub IsOutside : AnswerSeen → Type 0
IsOutside SaysMissed = Unit {0}
IsOutside SaysFailed = Unit {0}
IsOutside (SaysTaken work) = Unit {0}
IsOutside answer = ⊥

told_outside : (told : TakenSeen) → IsOutside (outside_told told)
told_outside SaysIgnored = tt
told_outside SaysWaits = tt
told_outside (SaysPause t u) = tt
told_outside (SaysJob job) = tt
told_outside SaysEnded = tt
told_outside SaysFault = tt

pub is_outside : (told : TakenSeen) (a : AnswerSeen) → a ≡ outside_told told → IsOutside a
is_outside told a e = subst (λ (x : AnswerSeen). IsOutside x) (sym e) (told_outside told)

acts_settled : (p : Panel) (ask : AskSeen) (f : Bool) (a : AnswerSeen) (q : Panel) → IsTelling p → Acts p ask f a q → IsTelling (concluded a q)
acts_settled p (AskSession ask) f (SaysSession a w) q k h = session_settled a w p ask f q k h
acts_settled p AskExternal f (SaysSession a w) q k h = absurd (is_outside h.told (SaysSession a w) h.answer_is)
acts_settled p (AskElapsed ticket) f (SaysSession a w) q k h = absurd (is_outside h.told (SaysSession a w) h.answer_is)
acts_settled p (AskFinished done) f (SaysSession a w) q k h = absurd (is_outside h.told (SaysSession a w) h.answer_is)
acts_settled p (AskFinished done) f SaysBack q k h = telling_as p q h.2 k
acts_settled p AskExternal f SaysBack q k h = absurd (is_outside h.told SaysBack h.answer_is)
acts_settled p (AskElapsed ticket) f SaysBack q k h = absurd (is_outside h.told SaysBack h.answer_is)
acts_settled p (AskFinished done) f SaysWorn q k h = absurd (is_outside h.told SaysWorn h.answer_is)
acts_settled p AskExternal f SaysWorn q k h = absurd (is_outside h.told SaysWorn h.answer_is)
acts_settled p (AskElapsed ticket) f SaysWorn q k h = absurd (is_outside h.told SaysWorn h.answer_is)
acts_settled p ask f SaysInstalled q k h = ended_telling q
acts_settled p ask f (SaysNotInstalled refusal) q k h = ended_telling q
acts_settled p ask f (SaysEjected card) q k h = ended_telling q
acts_settled p ask f (SaysNotEjected refusal) q k h = ended_telling q
acts_settled p ask f (SaysTaken work) q k h = ended_telling q
acts_settled p ask f SaysMissed q k h = ended_telling q
acts_settled p ask f SaysFailed q k h = ended_telling (erred q HardwareError)
acts_settled p ask f a q k h = absurd h

either_settled : (b : Bool) (p : Panel) (ask : AskSeen) (f : Bool) (a : AnswerSeen) (q : Panel) → IsTelling p
    → MatchBool b (IsUnnumbered p ask f a q) (IsEvent p ask f a q) → IsTelling q
either_settled true p ask f a q k h = telling_as p q h.same k
either_settled false p ask f a q k h = telling_as (concluded a h.done) q h.after (acts_settled p ask f a h.done k h.acts)

pub step_settled : (p : Panel) (ask : AskSeen) (f : Bool) (a : AnswerSeen) (q : Panel) → IsTelling p → Step p ask f a q → IsTelling q
step_settled p ask f a q k h = either_settled ((p.events == last_number) && not (acts_unnumbered ask)) p ask f a q k h
