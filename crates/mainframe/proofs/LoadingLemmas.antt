-- A scan program that the mainframe takes.
use Rattle.std.proofs.Common.{◌≡◌, ◌==◌, ◌&&◌, not, Bool, true, false, List, [], ◌∷◌, Option, None, Some, ℕ, ap, subst, ◌∙◌}
use Rattle.std.specs.Prelude.{MatchBool}
use Rattle.sw_base.specs.declared.error.ScpiError.TheVariants.{SettingsConflict}
use Rattle.sw_code.specs.Range.{Program}
use Rattle.sw_lex.specs.declared.command.Command.TheVariants as Command
use Rattle.sw_lex.specs.declared.command.Setting.TheVariants as Setting
use Rattle.sw_verify.specs.declared.setup.Loaded.TheVariants.{On}
use Rattle.sw_core.specs.declared.ask.Sid.{Sid}
use Rattle.sw_core.specs.declared.ask.SessionAsk.{SessionAsk}
use Rattle.sw_core.specs.declared.ask.SessionAsk.TheVariants as Ask
use Rattle.sw_core.specs.declared.ask.SessionAnswer.TheVariants.{Done}
use Rattle.sw_core.specs.Action.{Effect, SetsUp, Fits, misfit, with_value}
use Rattle.sw_core.specs.Event.{last_number}
use Rattle.sw_core.specs.Panel.{Panel, is_running}
use Rattle.sw_core.specs.Seen.{WorkSeen, AskSeen, AskSession, AnswerSeen, SaysSession}
use Rattle.sw_core.specs.Step.{StepRefused, StepEffect, StepJoined, StepAdmitted, Admission, Dropped, ShutOut, Admitted, admission}
use Rattle.sw_core.specs.Step.{acts_unnumbered, IsWorn, IsEvent, IsUnnumbered, Step}
use Rattle.sw_talk.specs.Available.{seated}
use Rattle.sw_talk.specs.CoreDesk.{DeskSeen, Carried, Keeps, CorePasses}
use Rattle.sw_talk.specs.Trace.{Asked}
use Rattle.mainframe.specs.Run.{takes_program}

-- an answer that hands nothing back is an event's
event_if : (b : Bool) (p : Panel) (ask : AskSeen) (f : Bool) (a : AnswerSeen) (q : Panel) → (IsWorn ask a → ⊥)
    → MatchBool b (IsUnnumbered p ask f a q) (IsEvent p ask f a q) → IsEvent p ask f a q
event_if true p ask f a q n h = absurd (n h.worn)
event_if false p ask f a q n h = h

-- what is done was neither dropped nor held, nor refused for a scan
not_kept_out : (now : Admission) (p : Panel) (ask : SessionAsk) (f : Bool) (w : Option WorkSeen) (q : Panel) → StepAdmitted now p ask f (Done None) w q
    → StepJoined p ask f (Done None) w q
not_kept_out Dropped p ask f w q h = absurd h
not_kept_out ShutOut p ask f w q h = absurd h
not_kept_out Admitted p ask f w q h = h

not_barred : (b : Bool) (p : Panel) (effect : Effect) (f : Bool) (w : Option WorkSeen) (q : Panel)
    → MatchBool b (StepRefused p SettingsConflict f (Done None) q × (w ≡ None)) (StepEffect effect p f (Done None) w q) → StepEffect effect p f (Done None) w q
not_barred true p effect f w q h = absurd h.0
not_barred false p effect f w q h = h

-- the step of the mainframe: the program is on, and no work comes of it
record Takes (p : Panel) (program : Program) (work : Option WorkSeen) (q : Panel) : Type 0 where
  none : work ≡ None
  on : q.settings ≡ record p.settings { program = On program }

step_takes : (p q : Panel) (program : Program) (sid : Sid) (f : Bool) (w : Option WorkSeen)
    → Step p (AskSession (Ask.Unit sid (Command.Set (Setting.Program program)) false)) f (SaysSession (Done None) w) q → Takes p program w q
step_takes p q program sid f w h =
    let setting = Setting.Program program in
    let ask = Ask.Unit sid (Command.Set setting) false in
    let e = event_if ((p.events == last_number) && not (acts_unnumbered (AskSession ask))) p (AskSession ask) f (SaysSession (Done None) w) q (λ x. x) h in
    let done = not_barred (is_running p) p (SetsUp (Fits setting) (misfit setting) (with_value setting)) f w e.done
    (not_kept_out (admission p sid ask) p ask f w e.done e.acts.1) in
    record {
      none = done.1;
      on = ap (λ (x : Panel). x.settings) e.after ∙ ap (λ (x : Panel). x.settings) done.0.2;
    }

-- no work is kept
keeps_none : (carried : List Carried) (d : DeskSeen) (work : Option WorkSeen) (new : DeskSeen) → work ≡ None → Keeps carried d work new → new ≡ d
keeps_none [] d None new none k = k
keeps_none [] d (Some piece) new none k = absurd (cc (none))
keeps_none (c ∷ carried) d None new none k = absurd k
keeps_none (c ∷ carried) d (Some piece) new none k = absurd (cc (none))

-- the desk has it on then
pub loaded : (old new : DeskSeen) (program : Program) (sid : Sid) (text : Option (List ℕ)) → text ≡ None
    → CorePasses old (Asked (Ask.Unit sid (Command.Set (Setting.Program program)) false) (Done text)) new
    → new.panel.settings ≡ record old.panel.settings { program = On program }
loaded old new program sid text none passes =
    let ask = Ask.Unit sid (Command.Set (Setting.Program program)) false in
    let p : CorePasses old (takes_program program sid) new = subst (λ (t : Option (List ℕ)). CorePasses old (Asked ask (Done t)) new) none passes in
    let a = p.1 in
    let t = step_takes old.panel a.after program sid a.failed a.brings a.step in
    let kept = record old { panel = a.after; available = seated old.available ask (Done None) } in
    ap (λ (d : DeskSeen). d.panel.settings) (keeps_none p.0 kept a.brings new t.none a.keeps) ∙ t.on
