-- What a call on the scan does to the counts of failures, and what the cage tells.
use Rattle.std.proofs.Common.{subst, ◌≡◌, Option, None, Some, refl, sym, ◌∙◌, ap, Result, Ok, Err, inl, inr}
use Rattle.std.specs.Prelude.{if◌then◌else◌}
use Rattle.sw_status.specs.StatusModel.{StatusSeen}
use Rattle.sw_verify.specs.Setup.{course_of}
use Rattle.sw_cage.specs.Change.{any_failed}
use Rattle.sw_cage.specs.Cage.{ScanSeen, CageSeen}
use Rattle.sw_base.specs.declared.error.ScpiError.{ScpiError}
use Rattle.sw_base.specs.declared.error.ScpiError.TheVariants.{OutOfMemory, InitIgnored, SettingsConflict, SystemError}
use Rattle.sw_core.specs.declared.ask.SessionAnswer.TheVariants.{Refused}
use Rattle.sw_base.specs.declared.reading.Reading.{Reading}
use Rattle.sw_card.specs.declared.board.CardFault.{CardFault}
use Rattle.sw_verify.specs.declared.snapshot.Snapshot.{Snapshot}
use Rattle.sw_verify.specs.Ready.{IsReady}
use Rattle.sw_cage.specs.Work.{FinishedSeen}
use Rattle.sw_cage.specs.Outcome.{Advances, AdvancesPast, AdvancesPastFrom, Counts, begun, with_back, with_reading}
use Rattle.sw_cage.specs.Takes.{Takes, TakesReturn}
use Rattle.sw_cage.specs.TakenSeen.{TakenSeen, SaysIgnored, SaysWaits, SaysPause, SaysJob, SaysEnded, SaysFault, tells_fault}
use Rattle.sw_cage.specs.declared.taken.Happening.{Happening}
use Rattle.sw_cage.proofs.FailureLemmas.{failed_goes, failed_past, failed_counts}
use Rattle.sw_core.specs.Panel.{Panel}
use Rattle.sw_core.specs.Registers.{card_fault_reported, card_fault_cleared}
use Rattle.sw_core.specs.Seen.{AnswerSeen, AskFinished, failed_in}
use Rattle.sw_core.specs.Step.{StepFinished, IsOut, outside_told, work_of, Happens, Returns, RefusesScan, MayScan, snapshot_of, StepStart, started_answer}
use Rattle.sw_core.proofs.CallsLemmas.{failed_same}

pub never_ignored : (p q : CageSeen) (scan : Option ScanSeen) → AdvancesPastFrom p scan SaysIgnored q → ⊥
never_ignored p q None h = h
never_ignored p q (Some at) h = h.runs.arrives

abbrev told_panel : Panel → CageSeen → StatusSeen → Panel
told_panel p cage s = record p { cage = cage; status = s }

-- a call of the cage with a happening, by what it told
pub happened : (p : Panel) (h : Happening) (told : TakenSeen) (cage : CageSeen) (s : StatusSeen)
    → ((Takes p.cage h → ⊥) → (told ≡ SaysIgnored) × (cage ≡ p.cage)) → (Takes p.cage h → AdvancesPast p.cage told cage)
    → ((told ≡ SaysIgnored → ⊥) → Takes p.cage h)
    → s ≡ (if tells_fault told then card_fault_reported p.status else p.status)
    → Happens p h (any_failed p.cage.cards cage.cards) told (record p { cage = cage; status = s })
happened p h SaysIgnored cage s ignored taken takes e =
    let none : Takes p.cage h → ⊥ = λ t. never_ignored p.cage cage p.cage.scan (taken t) in
    let same : cage ≡ p.cage = (ignored none).1 in (
      ap (λ (c : CageSeen). any_failed p.cage.cards c.cards) same ∙ failed_same p.cage.cards,
      none,
      ap (λ (x : StatusSeen). told_panel p cage x) e
          ∙ ap (λ (c : CageSeen). told_panel p c p.status) same,
    )
happened p h SaysWaits cage s ignored taken takes e = let t : Takes p.cage h = takes (λ (x : SaysWaits ≡ SaysIgnored). absurd (cc (x))) in
    (t, taken t, (failed_past p.cage cage SaysWaits (taken t), ap (λ (x : StatusSeen). told_panel p cage x) e))
happened p h (SaysPause ticket micros) cage s ignored taken takes e = let t : Takes p.cage h =
    takes (λ (x : SaysPause ticket micros ≡ SaysIgnored). absurd (cc (x))) in
    (t, taken t, (failed_past p.cage cage (SaysPause ticket micros) (taken t), ap (λ (x : StatusSeen). told_panel p cage x) e))
happened p h (SaysJob job) cage s ignored taken takes e = let t : Takes p.cage h = takes (λ (x : SaysJob job ≡ SaysIgnored). absurd (cc (x))) in
    (t, taken t, (failed_past p.cage cage (SaysJob job) (taken t), ap (λ (x : StatusSeen). told_panel p cage x) e))
happened p h SaysEnded cage s ignored taken takes e = let t : Takes p.cage h = takes (λ (x : SaysEnded ≡ SaysIgnored). absurd (cc (x))) in
    (t, taken t, (failed_past p.cage cage SaysEnded (taken t), ap (λ (x : StatusSeen). told_panel p cage x) e))
happened p h SaysFault cage s ignored taken takes e = let t : Takes p.cage h = takes (λ (x : SaysFault ≡ SaysIgnored). absurd (cc (x))) in
    (t, taken t, (failed_past p.cage cage SaysFault (taken t), ap (λ (x : StatusSeen). told_panel p cage x) e))

pub counts_ignored : (p q : CageSeen) (outcome : Result Reading CardFault) → Counts p outcome SaysIgnored q → ⊥
counts_ignored p q (Ok r) h = never_ignored (with_reading p r) q p.scan h
counts_ignored p q (Err e) h = absurd (let x : SaysIgnored ≡ SaysFault = h.0 in cc (x))

-- a meter's return, by what the cage told: a failure is told where one was counted
pub returned : (p : Panel) (done : FinishedSeen) (told : TakenSeen) (cage : CageSeen) (s : StatusSeen)
    → ((TakesReturn p.cage done.slot done.ticket → ⊥) → (told ≡ SaysIgnored) × (cage ≡ with_back p.cage done))
    → (TakesReturn p.cage done.slot done.ticket → Counts (with_back p.cage done) done.outcome told cage)
    → ((told ≡ SaysIgnored → ⊥) → TakesReturn p.cage done.slot done.ticket) → s ≡ (if tells_fault told then card_fault_reported p.status else p.status)
    → Returns p done (failed_in (AskFinished done) (outside_told told) p.cage.cards cage.cards) told (record p { cage = cage; status = s })
returned p done SaysIgnored cage s ignored taken takes e =
    let none : TakesReturn p.cage done.slot done.ticket → ⊥ = λ t. counts_ignored (with_back p.cage done) cage done.outcome (taken t) in
    (refl, none, ap (λ (x : StatusSeen). told_panel p cage x) e ∙ ap (λ (c : CageSeen). told_panel p c p.status) (ignored none).1)
returned p done SaysWaits cage s ignored taken takes e =
    let t : TakesReturn p.cage done.slot done.ticket = takes (λ (x : SaysWaits ≡ SaysIgnored). absurd (cc (x))) in
    (t, taken t, (sym (failed_counts (with_back p.cage done) cage done.outcome SaysWaits (taken t)), ap (λ (x : StatusSeen). told_panel p cage x) e))
returned p done (SaysPause ticket micros) cage s ignored taken takes e =
    let t : TakesReturn p.cage done.slot done.ticket = takes (λ (x : SaysPause ticket micros ≡ SaysIgnored). absurd (cc (x))) in (
      t,
      taken t,
      (
        sym (failed_counts (with_back p.cage done) cage done.outcome (SaysPause ticket micros) (taken t)),
        ap (λ (x : StatusSeen). told_panel p cage x) e,
      ),
    )
returned p done (SaysJob job) cage s ignored taken takes e =
    let t : TakesReturn p.cage done.slot done.ticket = takes (λ (x : SaysJob job ≡ SaysIgnored). absurd (cc (x))) in
    (t, taken t, (sym (failed_counts (with_back p.cage done) cage done.outcome (SaysJob job) (taken t)), ap (λ (x : StatusSeen). told_panel p cage x) e))
returned p done SaysEnded cage s ignored taken takes e =
    let t : TakesReturn p.cage done.slot done.ticket = takes (λ (x : SaysEnded ≡ SaysIgnored). absurd (cc (x))) in
    (t, taken t, (sym (failed_counts (with_back p.cage done) cage done.outcome SaysEnded (taken t)), ap (λ (x : StatusSeen). told_panel p cage x) e))
returned p done SaysFault cage s ignored taken takes e =
    let t : TakesReturn p.cage done.slot done.ticket = takes (λ (x : SaysFault ≡ SaysIgnored). absurd (cc (x))) in
    (t, taken t, (sym (failed_counts (with_back p.cage done) cage done.outcome SaysFault (taken t)), ap (λ (x : StatusSeen). told_panel p cage x) e))

-- and what is answered
pub return_answered : (p : Panel) (done : FinishedSeen) (told : TakenSeen) (cage : CageSeen) (s : StatusSeen) (answer : AnswerSeen) → IsOut p done
    → Returns p done (failed_in (AskFinished done) (outside_told told) p.cage.cards cage.cards) told (record p { cage = cage; status = s })
    → answer ≡ outside_told told
    → StepFinished p done (failed_in (AskFinished done) answer p.cage.cards cage.cards) answer (record p { cage = cage; status = s })
return_answered p done told cage s answer out h e =
    subst (λ (a : AnswerSeen). StepFinished p done (failed_in (AskFinished done) a p.cage.cards cage.cards) a (record p {
      cage = cage;
      status = s;
    })) (sym e) (by_told told h)
  where
    by_told : (told : TakenSeen)
        → Returns p done (failed_in (AskFinished done) (outside_told told) p.cage.cards cage.cards) told (record p { cage = cage; status = s })
        → StepFinished p done (failed_in (AskFinished done) (outside_told told) p.cage.cards cage.cards) (outside_told told) (record p {
          cage = cage;
          status = s;
        })
    by_told SaysIgnored h = record { out = out; told = SaysIgnored; returns = h; answer_is = refl }
    by_told SaysWaits h = record { out = out; told = SaysWaits; returns = h; answer_is = refl }
    by_told (SaysPause ticket micros) h = record { out = out; told = SaysPause ticket micros; returns = h; answer_is = refl }
    by_told (SaysJob job) h = record { out = out; told = SaysJob job; returns = h; answer_is = refl }
    by_told SaysEnded h = record { out = out; told = SaysEnded; returns = h; answer_is = refl }
    by_told SaysFault h = record { out = out; told = SaysFault; returns = h; answer_is = refl }

-- the scan of a plan began, by what the cage told
pub started : (p : Panel) (plan : Snapshot) (told : TakenSeen) (cage : CageSeen) (s : StatusSeen) → MayScan p → plan ≡ snapshot_of p → IsReady plan
    → Advances (begun p.cage) (course_of p.settings) 0 told cage → s ≡ (if tells_fault told then card_fault_reported p.status else card_fault_cleared p.status)
    → StepStart p plan (any_failed p.cage.cards cage.cards) (started_answer told) (work_of told) (record p { cage = cage; status = s })
started p plan SaysIgnored cage s may same ready goes e = absurd goes.runs.arrives
started p plan SaysWaits cage s may same ready goes e =
    record {
      may = may;
      told = SaysWaits;
      starts = (
        failed_goes (begun p.cage) cage (course_of p.settings) 0 (SaysWaits) goes,
        same,
        ready,
        goes,
        ap (λ (x : StatusSeen). told_panel p cage x) e,
      );
      answer_is = refl;
      work_is = refl;
    }
started p plan (SaysPause ticket micros) cage s may same ready goes e =
    record {
      may = may;
      told = SaysPause ticket micros;
      starts = (
        failed_goes (begun p.cage) cage (course_of p.settings) 0 (SaysPause ticket micros) goes,
        same,
        ready,
        goes,
        ap (λ (x : StatusSeen). told_panel p cage x) e,
      );
      answer_is = refl;
      work_is = refl;
    }
started p plan (SaysJob job) cage s may same ready goes e =
    record {
      may = may;
      told = SaysJob job;
      starts = (
        failed_goes (begun p.cage) cage (course_of p.settings) 0 (SaysJob job) goes,
        same,
        ready,
        goes,
        ap (λ (x : StatusSeen). told_panel p cage x) e,
      );
      answer_is = refl;
      work_is = refl;
    }
started p plan SaysEnded cage s may same ready goes e =
    record {
      may = may;
      told = SaysEnded;
      starts = (
        failed_goes (begun p.cage) cage (course_of p.settings) 0 (SaysEnded) goes,
        same,
        ready,
        goes,
        ap (λ (x : StatusSeen). told_panel p cage x) e,
      );
      answer_is = refl;
      work_is = refl;
    }
started p plan SaysFault cage s may same ready goes e =
    record {
      may = may;
      told = SaysFault;
      starts = (
        failed_goes (begun p.cage) cage (course_of p.settings) 0 (SaysFault) goes,
        same,
        ready,
        goes,
        ap (λ (x : StatusSeen). told_panel p cage x) e,
      );
      answer_is = refl;
      work_is = refl;
    }

-- no scan began: for want of memory, for what is so of the cage, or for a plan of another state
pub unbegun : (p : Panel) (plan : Snapshot) (cage : CageSeen) → cage ≡ p.cage → MayScan p → plan ≡ snapshot_of p
    → StepStart p plan (any_failed p.cage.cards cage.cards) (Refused OutOfMemory) None (record p { cage = cage })
unbegun p plan cage e may same =
    (ap (λ (c : CageSeen). any_failed p.cage.cards c.cards) e ∙ failed_same p.cage.cards, may, same, ap (λ (c : CageSeen). told_panel p c p.status) e)

pub refused_start : (p : Panel) (plan : Snapshot) (error : ScpiError) → RefusesScan p error
    → StepStart p plan (any_failed p.cage.cards p.cage.cards) (Refused error) None p
refused_start p plan InitIgnored h = (failed_same p.cage.cards, h, refl)
refused_start p plan SettingsConflict h = (failed_same p.cage.cards, inl h, refl)
refused_start p plan SystemError h = (failed_same p.cage.cards, h, refl)
refused_start p plan error h = absurd h

pub stale_start : (p : Panel) (plan : Snapshot) → MayScan p → (plan ≡ snapshot_of p → ⊥)
    → StepStart p plan (any_failed p.cage.cards p.cage.cards) (Refused SettingsConflict) None p
stale_start p plan may other = (failed_same p.cage.cards, inr (may, other), refl)
