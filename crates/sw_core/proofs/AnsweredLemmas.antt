-- A command that is carried out is done or refused.
use Rattle.std.proofs.Common.{◌≡◌, Bool, true, false, List, [], ◌∷◌, Option, None, Some, sym, ap, ◌∙◌, subst}
use Rattle.std.specs.Prelude.{MatchBool, if◌then◌else◌}
use Rattle.sw_base.specs.declared.error.ScpiError.{ScpiError}
use Rattle.sw_base.specs.declared.error.ScpiError.TheVariants.{SettingsConflict}
use Rattle.sw_base.specs.declared.reading.Reading.{Reading}
use Rattle.sw_cage.specs.TakenSeen.{TakenSeen, SaysIgnored, SaysFault, SaysWaits, SaysPause, SaysJob, SaysEnded}
use Rattle.sw_core.specs.Action.{Effect, TellsText, TellsReadings, ReadsOut, SetsStatus, SetsUp, ClosesListed, OpensListed, TellsHardware, TellsSurety, TellsListing}
use Rattle.sw_core.specs.Action.{Changes}
use Rattle.sw_core.specs.Action.{Resets, Triggers, RefusesWith, IsOfMacros, Initiates, Action, AtOnce, BetweenScans, AfterScan, action_of}
use Rattle.sw_core.specs.declared.ask.Sid.{Sid}
use Rattle.sw_core.specs.declared.ask.SessionAsk.{SessionAsk}
use Rattle.sw_core.specs.declared.ask.SessionAsk.TheVariants as Ask
use Rattle.sw_core.specs.declared.ask.SessionAnswer.{SessionAnswer}
use Rattle.sw_core.specs.declared.ask.SessionAnswer.TheVariants.{Stranger, Done, Refused}
use Rattle.sw_core.specs.Panel.{Panel, is_running}
use Rattle.sw_core.specs.Sessions.{IsJoined}
use Rattle.sw_core.specs.Seen.{WorkSeen}
use Rattle.sw_core.specs.Step.{StepRefused, StepReadings, StepAlone, StepEffect, StepHeld, StepAction, session_told, StepJoined, StepAdmitted, StepSession}
use Rattle.sw_core.specs.Step.{Admission, Dropped, ShutOut, Admitted, drops, shuts_out, admission}

-- done, or refused
abbrev pub IsAnswered : SessionAnswer → Type 0
IsAnswered (Done text) = Unit {0}
IsAnswered (Refused e) = Unit {0}
IsAnswered answer = ⊥

readings_answered : (l : List Reading) (p : Panel) (f : Bool) (a : SessionAnswer) (q : Panel) → StepReadings l p f a q → IsAnswered a
readings_answered l p f (Done text) q h = tt
readings_answered l p f (Refused e) q h = tt
readings_answered [] p f a q h = absurd h
readings_answered (r ∷ rs) p f a q h = absurd h

pub alone_answered : (e : Effect) (p : Panel) (f : Bool) (a : SessionAnswer) (q : Panel) → StepAlone e p f a q → IsAnswered a
alone_answered e p f (Done text) q h = tt
alone_answered e p f (Refused x) q h = tt
alone_answered (TellsReadings readings) p f a q h = readings_answered (readings p) p f a q h
alone_answered (TellsText text) p f a q h = absurd h
alone_answered (ReadsOut text after) p f a q h = absurd h
alone_answered (SetsStatus after) p f a q h = absurd h
alone_answered (SetsUp Fits error after) p f a q h = absurd h
alone_answered (ClosesListed chans) p f a q h = absurd h
alone_answered (OpensListed chans) p f a q h = absurd h
alone_answered (TellsHardware there text) p f a q h = absurd h
alone_answered (TellsSurety text) p f a q h = absurd h
alone_answered (TellsListing listing) p f a q h = absurd h
alone_answered (Changes after) p f a q h = absurd h
alone_answered Resets p f a q h = absurd h
alone_answered (RefusesWith error) p f a q h = absurd h
alone_answered IsOfMacros p f a q h = absurd h
alone_answered Initiates p f a q h = absurd h
alone_answered (Triggers happening error) p f a q h = absurd h

told_answered : (error : ScpiError) (told : TakenSeen) → IsAnswered (session_told error told)
told_answered error SaysIgnored = tt
told_answered error SaysWaits = tt
told_answered error (SaysPause ticket micros) = tt
told_answered error (SaysJob job) = tt
told_answered error SaysEnded = tt
told_answered error SaysFault = tt

pub happening_answered : (error : ScpiError) (told : TakenSeen) (a : SessionAnswer) → a ≡ session_told error told → IsAnswered a
happening_answered error told a is = subst (λ (x : SessionAnswer). IsAnswered x) (sym is) (told_answered error told)

pub effect_answered : (e : Effect) (p : Panel) (f : Bool) (a : SessionAnswer) (w : Option WorkSeen) (q : Panel) → StepEffect e p f a w q → IsAnswered a
effect_answered (Triggers happening error) p f a w q h = happening_answered error h.told a h.answer_is
effect_answered e p f a w q h = alone_answered e p f a q h.0

pub refused_answered : (p : Panel) (error : ScpiError) (f : Bool) (a : SessionAnswer) (q : Panel) → StepRefused p error f a q → IsAnswered a
refused_answered p error f (Refused e) q h = tt
refused_answered p error f a q h = absurd h

-- refused or carried out
pub barred_answered : (b : Bool) (e : Effect) (p : Panel) (f : Bool) (a : SessionAnswer) (w : Option WorkSeen) (q : Panel)
    → MatchBool b (StepRefused p SettingsConflict f a q × (w ≡ None)) (StepEffect e p f a w q) → IsAnswered a
barred_answered true e p f a w q h = refused_answered p SettingsConflict f a q h.0
barred_answered false e p f a w q h = effect_answered e p f a w q h

-- ---- a joined session is no stranger

known_waiting : (b : Bool) (e : Effect) (p : Panel) (ask : SessionAsk) (f : Bool) (q : Panel)
    → MatchBool b (StepHeld p ask f Stranger None q) (StepEffect e p f Stranger None q) → ⊥
known_waiting true e p ask f q h = h
known_waiting false e p ask f q h = effect_answered e p f Stranger None q h

known_action : (x : Action) (p : Panel) (ask : SessionAsk) (f : Bool) (q : Panel) → StepAction x p ask f Stranger None q → ⊥
known_action (AtOnce e) p ask f q h = effect_answered e p f Stranger None q h
known_action (BetweenScans e) p ask f q h = barred_answered (is_running p) e p f Stranger None q h
known_action (AfterScan e) p ask f q h = known_waiting (is_running p) e p ask f q h

known : (p : Panel) (ask : SessionAsk) (f : Bool) (q : Panel) → StepJoined p ask f Stranger None q → ⊥
known p (Ask.Unit sid command available) f q h = known_action (action_of available command) p (Ask.Unit sid command available) f q h
known p (Ask.Bus sid) f q h = happening_answered _ h.told Stranger h.answer_is
known p (Ask.Snapshot sid) f q h = h
known p (Ask.Start sid plan) f q h = h
known p (Ask.Fault sid e) f q h = h.served
known p (Ask.Attached sid) f q h = h.served
known p (Ask.Leave sid) f q h = h.served
known p (Ask.Size sid size) f q h = h.served
known p (Ask.MaxSize sid) f q h = h.served
known p (Ask.Clear sid) f q h = h.served
known p (Ask.Cleared sid) f q h = h.served
known p (Ask.Lock sid key) f q h = h.served
known p (Ask.Release sid) f q h = h.served
known p (Ask.LockInfo sid) f q h = h.served
known p (Ask.Attach number) f q h = h.served
known p Ask.Join f q h = h.served

-- what a joined session asks that is neither dropped nor kept out
pub admitted : (p : Panel) (sid : Sid) (ask : SessionAsk) (f : Bool) (a : SessionAnswer) (w : Option WorkSeen) (q : Panel) → IsJoined p.sessions sid
    → drops p sid ask ≡ false → shuts_out p sid ask ≡ false → StepJoined p ask f a w q → StepSession (Some sid) p ask f a w q
admitted p sid ask f a w q joined d o h = by_answer a w h
  where
    goes_on : admission p sid ask ≡ Admitted
    goes_on =
        ap (λ (b : Bool). if b then Dropped else if shuts_out p sid ask then ShutOut else Admitted) d
        ∙ ap (λ (b : Bool). if b then ShutOut else Admitted) o

    clear : (a : SessionAnswer) (w : Option WorkSeen) → StepJoined p ask f a w q → StepAdmitted (admission p sid ask) p ask f a w q
    clear a w h =
        subst (λ (x : Admission). StepAdmitted x p ask f a w q) (sym goes_on) h

    by_answer : (a : SessionAnswer) (w : Option WorkSeen) → StepJoined p ask f a w q → StepSession (Some sid) p ask f a w q
    by_answer Stranger None h = absurd (known p ask f q h)
    by_answer a w h = (joined, clear a w h)
