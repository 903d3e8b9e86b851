-- A good mainframe stays good, and so is each event of a run.
use Rattle.std.proofs.Common.{◌≡◌, ◌≢◌, ℕ, ◌==◌, ◌&&◌, ◌||◌, not, Bool, true, false, List, [], ◌∷◌, Option, None, Some, Result, Ok, Err, is_err, refl, sym, ◌∙◌}
use Rattle.std.proofs.Common.{ap, subst, length, inl, inr, ◌⊎◌}
use Rattle.std.specs.Prelude.{MatchBool, decimal, OnErr, IfSome}
use Rattle.sw_base.specs.declared.reading.Reading.{Reading}
use Rattle.sw_card.specs.declared.board.CardFault.{CardFault}
use Rattle.sw_lex.specs.declared.command.Command.TheVariants as command
use Rattle.sw_lex.specs.declared.command.PlainQuery.TheVariants as query
use Rattle.sw_verify.specs.declared.setup.Setup.{Setup}
use Rattle.sw_verify.specs.Course.{CourseSeen}
use Rattle.sw_verify.specs.Setup.{bound_of, course_of}
use Rattle.sw_trigger.specs.Counts.{awaiting}
use Rattle.sw_cage.specs.Accounts.{Accounts}
use Rattle.sw_cage.specs.Cage.{ScanSeen}
use Rattle.sw_cage.specs.Change.{any_failed}
use Rattle.sw_cage.specs.Work.{FinishedSeen}
use Rattle.sw_core.specs.declared.ask.Sid.{Sid}
use Rattle.sw_core.specs.declared.ask.SessionAsk.TheVariants as Ask
use Rattle.sw_core.specs.declared.ask.SessionAnswer.TheVariants.{Done}
use Rattle.sw_core.specs.Panel.{Panel, opening_at}
use Rattle.sw_core.specs.Seen.{AskSeen, AskSession, AskInstall, AskEject, AskExternal, AskElapsed, AskFinished, AnswerSeen, SaysSession}
use Rattle.sw_core.specs.Seen.{SaysFailed, failed_in, IsOwnAccount, with_meter}
use Rattle.sw_core.specs.Event.{last_number}
use Rattle.sw_core.specs.Step.{Step, StepAdmitted, IsEvent, IsUnnumbered, acts_unnumbered}
use Rattle.sw_core.specs.Step.{Admission, Dropped, ShutOut, Admitted, admission}
use Rattle.sw_core.specs.Good.{IsGoodPanel, StaysGood}
use Rattle.sw_core.specs.Run.{Event, IsNextEvent, IsRun, AtEach, TellsBound, tells_failure, CountsFailure, AddsOwn, IsGoodEvent, EveryRunIsGood}
use Rattle.sw_core.specs.Ends.{begins, last_of}
use Rattle.sw_core.specs.Sessions.{AreSeated}
use Rattle.sw_core.proofs.HarmlessLemmas.{IsFine}
use Rattle.sw_core.proofs.SafetyLemmas.{step_fine, opening_fine_at}
use Rattle.sw_core.proofs.SettledLemmas.{IsTelling, step_settled}
use Rattle.sw_core.proofs.ObeyedLemmas.{failed}
use Rattle.sw_core.proofs.MovingLemmas.{move_step}
use Rattle.sw_core.proofs.ScanRunsLemmas.{begun_step}
use Rattle.sw_core.proofs.SeatedLemmas.{opening_seated, step_seated}
use Rattle.sw_core.proofs.CountedLemmas.{counted_told}
use Rattle.sw_core.proofs.KeepingLemmas.{reads_step}
use Rattle.sw_core.proofs.MissedLemmas.{missed_step}

fine_of : (p : Panel) → IsGoodPanel p → IsFine p
fine_of p g = record { cage = record { good = g.good; safe = g.safe; few = g.few }; range = g.range; settings = g.settings; status = g.status }

good_of : (p : Panel) → IsFine p → AreSeated p.sessions → IsTelling p → IsGoodPanel p
good_of p k s t = record {
  safe = k.cage.safe;
  good = k.cage.good;
  few = k.cage.few;
  range = k.range;
  settings = k.settings;
  status = k.status;
  sessions = s;
  condition = t;
}

good_step : (p q : Panel) (ask : AskSeen) (failed : Bool) (answer : AnswerSeen) → IsGoodPanel p → Step p ask failed answer q → IsGoodPanel q
good_step p q ask failed answer g h =
    good_of q (step_fine p ask failed answer q (fine_of p g) h) (step_seated p ask failed answer q g.sessions h)
    (step_settled p ask failed answer q g.condition h)

pub good_opening : (events scans : ℕ) → IsGoodPanel (opening_at events scans)
good_opening events scans = good_of (opening_at events scans) (opening_fine_at events scans) (opening_seated events scans) refl

pub stays_good : StaysGood
stays_good = record { opening = good_opening; step = good_step }

-- ---- the bound that is told

bound_admitted : (now : Admission) (p : Panel) (sid : Sid) (available f : Bool) (text : List ℕ) (q : Panel)
    → StepAdmitted now p (Ask.Unit sid (command.Query query.Bound) available) f (Done (Some text)) None q → text ≡ decimal (bound_of q.settings)
bound_admitted Dropped p sid available f text q h = absurd h
bound_admitted ShutOut p sid available f text q h = absurd h
bound_admitted Admitted p sid available f text q h = h.0.1 ∙ ap (λ (s : Setup). decimal (bound_of s)) (sym (ap (λ (x : Panel). x.settings) h.0.2))

bound_either : (b : Bool) (p : Panel) (sid : Sid) (available f : Bool) (text : List ℕ) (q : Panel)
    → MatchBool b (IsUnnumbered p (AskSession (Ask.Unit sid (command.Query query.Bound) available)) f (SaysSession (Done (Some text)) None) q)
    (IsEvent p (AskSession (Ask.Unit sid (command.Query query.Bound) available)) f (SaysSession (Done (Some text)) None) q)
    → text ≡ decimal (bound_of q.settings)
bound_either true p sid available f text q h = absurd h.worn
bound_either false p sid available f text q h =
    let ask = Ask.Unit sid (command.Query query.Bound) available in
    bound_admitted (admission p sid ask) p sid available f text h.done h.acts.1
    ∙ ap (λ (s : Setup). decimal (bound_of s)) (sym (ap (λ (x : Panel). x.settings) h.after))

bound_step : (p q : Panel) (ask : AskSeen) (f : Bool) (answer : AnswerSeen) (sid : Sid) (available : Bool) (text : List ℕ)
    → ask ≡ AskSession (Ask.Unit sid (command.Query query.Bound) available) → answer ≡ SaysSession (Done (Some text)) None → Step p ask f answer q
    → text ≡ decimal (bound_of q.settings)
bound_step p q ask f answer sid available text e r h =
    let there = AskSession (Ask.Unit sid (command.Query query.Bound) available) in
    bound_either ((p.events == last_number) && not (acts_unnumbered there)) p sid available f text q
    (subst (λ (y : AnswerSeen). Step p there f y q) r (subst (λ (x : AskSeen). Step p x f answer q) e h))

by_course : (scan : Option ScanSeen) (s : CourseSeen) (at : ScanSeen) → IfSome scan (λ at. at.course ≡ s) → scan ≡ Some at → at.course ≡ s
by_course scan s at k e = subst (λ (o : Option ScanSeen). IfSome o (λ at. at.course ≡ s)) e k

tells_bound : (p : Panel) (e : Event) (f : Bool) → IsGoodPanel e.panel → Step p e.ask f e.answer e.panel → TellsBound e
tells_bound p e f g h sid available text at asked told runs =
    bound_step p e.panel e.ask f e.answer sid available text asked told h
    ∙ ap (λ (s : CourseSeen). decimal (length (awaiting s.items))) (sym (by_course e.panel.cage.scan (course_of e.panel.settings) at g.settings runs))

-- ---- a failure that is told was counted

or_counted : (done : FinishedSeen) (outcome : Result Reading CardFault) (other : Bool) → OnErr outcome (done.meter.failures ≢ done.before)
    → (is_err outcome || other) ≡ true → (done.meter.failures ≢ done.before) ⊎ (other ≡ true)
or_counted done (Ok r) other own h = inr h
or_counted done (Err e) other own h = inl own

failed_finished : (done : FinishedSeen) (a : AnswerSeen) (old new : Accounts) → IsOwnAccount (AskFinished done) → tells_failure a ≡ true
    → failed_in (AskFinished done) a old new ≡ true → CountsFailure (AskFinished done) old new
failed_finished done SaysFailed old new own t h = or_counted done done.outcome (any_failed (with_meter old done) new) own.counted h
failed_finished done (SaysSession a w) old new own t h = or_counted done done.outcome (any_failed (with_meter old done) new) own.counted h
failed_finished done a old new own t h = absurd (cc (t))

has_failed : (ask : AskSeen) (a : AnswerSeen) (old new : Accounts) → IsOwnAccount ask → tells_failure a ≡ true → failed_in ask a old new ≡ true
    → CountsFailure ask old new
has_failed (AskFinished done) a old new own t h = failed_finished done a old new own t h
has_failed (AskSession ask) a old new own t h = h
has_failed (AskInstall slot card) a old new own t h = h
has_failed (AskEject slot) a old new own t h = h
has_failed AskExternal a old new own t h = h
has_failed (AskElapsed ticket) a old new own t h = h

-- ---- readings

-- what begins a scan is a start
begins_plan : (ask : AskSeen) (a : AnswerSeen) → begins ask a ≡ true → (sid : Sid) × (plan : _) × (ask ≡ AskSession (Ask.Start sid plan))
begins_plan (AskSession (Ask.Start sid plan)) a h = (sid, plan, refl)
begins_plan ask a h = absurd (cc (h))

adds_own : (p q : Panel) (ask : AskSeen) (f : Bool) (a : AnswerSeen) → IsFine p → IsOwnAccount ask → Step p ask f a q
    → AddsOwn ask p.cage.readings q.cage.readings
adds_own p q ask f a k own h = by_begins (begins ask a) refl
  where
    by_begins : (b : Bool) → begins ask a ≡ b → AddsOwn ask p.cage.readings q.cage.readings
    by_begins false n = (move_step p ask f a q k.cage.good.held n h).adds own
    by_begins true n =
        let s = begins_plan ask a n in
        inr (inl (begun_step p q s.0 s.1 f a k (subst (λ (x : AskSeen). begins x a ≡ true) s.2 n) (subst (λ (x : AskSeen). Step p x f a q) s.2 h)).none)

-- ---- runs

good_event : (p : Panel) (e : Event) → IsGoodPanel p → IsNextEvent p e → IsGoodEvent p e
good_event p e g n =
    let f = failed_in e.ask e.answer p.cage.cards e.panel.cage.cards in
    let after = good_step p e.panel e.ask f e.answer g n.step in
    record {
      panel = after;
      bound = tells_bound p e f after n.step;
      failure = λ t. has_failed e.ask e.answer p.cage.cards e.panel.cage.cards n.own t (failed p e.panel e.ask f e.answer t n.step).0;
      told = λ x. counted_told p e.ask e.answer e.panel g.good n.step x;
      own = adds_own p e.panel e.ask f e.answer (fine_of p g) n.own n.step;
      readings = reads_step p e.ask f e.answer e.panel n.step;
      missed = λ o t. missed_step p e.ask f e.answer e.panel g.good.held o n.step t;
    }

pub good_run : (p : Panel) (events : List Event) → IsGoodPanel p → IsRun p events → AtEach IsGoodEvent p events
good_run p [] g r = tt
good_run p (e ∷ events) g r = let h = good_event p e g r.0 in (h, good_run e.panel events h.panel r.1)

pub good_last : (p : Panel) (events : List Event) → IsGoodPanel p → IsRun p events → IsGoodPanel (last_of p events)
good_last p [] g r = g
good_last p (e ∷ events) g r = good_last e.panel events (good_event p e g r.0).panel r.1

pub every_run : EveryRunIsGood
every_run events scans run r = good_run (opening_at events scans) run (good_opening events scans) r
