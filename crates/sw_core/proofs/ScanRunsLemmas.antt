-- Each scan of a run does what its plan says, and ends.
use Rattle.std.proofs.Common.{◌≡◌, ℕ, suc, ◌+◌, ◌≤◌, ◌<◌, ◌==◌, ◌&&◌, not, Bool, true, false, List, [], ◌∷◌, ◌++◌, length, take, drop, Option, None, Some}
use Rattle.std.proofs.Common.{is_some, ◌⊎◌, inl, inr, refl, ap, sym, subst, ◌∙◌, arith}
use Rattle.std.specs.Prelude.{MatchBool, IfSome}
use Rattle.std.proofs.lemmas.List.{take-append-drop}
use mathlib.Core.Path.{fun_ext}
use Rattle.sw_trigger.specs.declared.layer.Awaited.{Awaited}
use Rattle.sw_verify.specs.declared.setup.Setup.{Setup}
use Rattle.sw_trigger.specs.Agenda.{Item}
use Rattle.sw_trigger.specs.Counts.{awaiting, reads}
use Rattle.sw_verify.specs.declared.snapshot.Snapshot.{Snapshot}
use Rattle.sw_verify.specs.Channels.{Channels, is_among}
use Rattle.sw_verify.specs.Sound.{effect}
use Rattle.sw_verify.specs.Course.{CourseSeen}
use Rattle.sw_verify.specs.Setup.{agenda, bound_of, points_of, course_of}
use Rattle.sw_verify.proofs.ReadyLemmas.{ready_some, ready_sound}
use Rattle.sw_verify.proofs.Round.{effect-append}
use Rattle.sw_cage.specs.Accounts.{is_closed}
use Rattle.sw_cage.specs.Channels.{closed_list}
use Rattle.sw_cage.specs.Cage.{ScanSeen, CageSeen}
use Rattle.sw_cage.specs.Good.{IsRunning, MeterStands}
use Rattle.sw_cage.specs.Advance.{moves_from, next_place, awaits}
use Rattle.sw_cage.specs.TakenSeen.{TakenSeen, SaysIgnored, SaysWaits, SaysPause, SaysJob, SaysEnded, SaysFault}
use Rattle.sw_cage.specs.declared.job.Ticket.{Ticket}
use Rattle.sw_cage.specs.Outcome.{Occupancy, occupancy_of, AdvancesOrFails, begun}
use Rattle.sw_core.specs.declared.ask.Sid.{Sid}
use Rattle.sw_core.specs.declared.ask.SessionAsk.TheVariants as Ask
use Rattle.sw_core.specs.declared.ask.SessionAnswer.{SessionAnswer}
use Rattle.sw_core.specs.declared.ask.SessionAnswer.TheVariants.{Stranger, Broken, Done, Hold, Worn}
use Rattle.sw_core.specs.Panel.{Panel, opening_at, is_running}
use Rattle.sw_core.specs.Event.{last_number}
use Rattle.sw_core.specs.Step.{Starts, StepStart, started_answer}
use Rattle.sw_core.specs.Step.{StepAdmitted, StepSession, Acts}
use Rattle.sw_core.specs.Step.{acts_unnumbered, IsWorn, IsEvent, IsUnnumbered, Step}
use Rattle.sw_core.specs.Step.{Admission, Dropped, ShutOut, Admitted, admission}
use Rattle.sw_cage.proofs.ClosedMemberLemmas.{among_closed}
use Rattle.sw_core.specs.Seen.{WorkSeen, AskSeen, AskSession, AnswerSeen, SaysSession}
use Rattle.sw_trigger.specs.Settings.{IsInRange}
use Rattle.sw_trigger.proofs.Awaiting.{reads-append}
use Rattle.sw_cage.specs.Good.{IsUnderway}
use Rattle.sw_core.specs.Seen.{failed_in}
use Rattle.sw_core.specs.Run.{Event, IsNextEvent, IsRun}
use Rattle.sw_core.specs.Taken.{took, readings_after}
use Rattle.sw_core.specs.Ends.{left_at, left_of, left_in, taken_in, begins, BeginsNoScan, last_of, IsFollowing, breaks_off, IsComplete, IsBrokenOff}
use Rattle.sw_core.specs.Ends.{IsOver}
use Rattle.sw_core.specs.Ends.{IsEnding, BeginsScan, EveryScanEnds}
use Rattle.sw_core.proofs.KeptLemmas.{inside}
use Rattle.sw_core.proofs.HarmlessLemmas.{IsFine, none_of}
use Rattle.sw_core.proofs.SafetyLemmas.{step_fine, opening_fine_at}
use Rattle.sw_core.proofs.CourseLemmas.{leaves, leaves_goes, Holds, holds_none, holds_on}
use Rattle.sw_core.proofs.AdvancingLemmas.{left_past, left_arrives, Nears, near_is, Completed, Stopped}
use Rattle.sw_core.proofs.MovingLemmas.{concluded_scan, move_step}
use Rattle.sw_core.proofs.KeepingLemmas.{reads_step}

-- ---- runs

near_on : (p m q : Panel) (a b : ℕ) → Nears p a m → Nears m b q → Nears p (a + b) q
near_on p m q a b h k = by_first h.left k.left
  where
    by_first : (a + left_in m ≡ left_in p) ⊎ (m.cage.scan ≡ None) → (b + left_in q ≡ left_in m) ⊎ (q.cage.scan ≡ None) → Nears p (a + b) q
    by_first (inl l) (inl r) = record {
      most = omega (arith, l, k.most);
      left = inl (omega (arith, l, r));
      idle = λ i. k.idle (h.idle i);
      holds = holds_on p.cage m.cage q.cage h.holds k.holds;
    }
    by_first (inl l) (inr r) = record { most = omega (arith, l, k.most); left = inr r; idle = λ i. r; holds = holds_none p.cage q.cage r }
    by_first (inr i) r =
        let none : left_in m ≡ 0 = ap left_of i in
        record { most = omega (arith, h.most, k.most, none); left = inr (k.idle i); idle = λ e. k.idle i; holds = holds_none p.cage q.cage (k.idle i) }

near_run : (p : Panel) (events : List Event) → IsFine p → IsRun p events → BeginsNoScan events → Nears p (taken_in events) (last_of p events)
near_run p [] k r n = near_is p p refl
near_run p (e ∷ events) k r n =
    let f = failed_in e.ask e.answer p.cage.cards e.panel.cage.cards in
    let on : IsFine e.panel = step_fine p e.ask f e.answer e.panel k r.0.step in
    near_on p e.panel (last_of e.panel events) (took e.ask e.answer) (taken_in events) (move_step p e.ask f e.answer e.panel k.cage.good.held n.0 r.0.step).near
    (near_run e.panel events on r.1 n.1)

-- ---- a scan begins

-- a scan that begins awaits all of its agenda
left_started : (old new : Occupancy) (number : ℕ) (s : CourseSeen) (i : ℕ) (told : TakenSeen) (scan : Option ScanSeen) → started_answer told ≡ Done None
    → AdvancesOrFails old number (moves_from s i) (next_place s i) told new scan → left_of scan ≡ length (awaiting (drop i s.items))
left_started old new number s i SaysFault scan e h = absurd (cc (e))
left_started old new number s i SaysIgnored scan e h = left_arrives (record old { cards = h.cards }) new number s i SaysIgnored scan h.arrives
left_started old new number s i SaysWaits scan e h = left_arrives (record old { cards = h.cards }) new number s i SaysWaits scan h.arrives
left_started old new number s i (SaysPause ticket micros) scan e h =
    left_arrives (record old { cards = h.cards }) new number s i (SaysPause ticket micros) scan h.arrives
left_started old new number s i (SaysJob job) scan e h = left_arrives (record old { cards = h.cards }) new number s i (SaysJob job) scan h.arrives
left_started old new number s i SaysEnded scan e h = left_arrives (record old { cards = h.cards }) new number s i SaysEnded scan h.arrives

-- The scan of a plan begins: it awaits all of its agenda, and would leave closed what the plan found closed.
pub record Begun (plan : Snapshot) (c : CageSeen) : Type 0 where
  pub left : left_of c.scan ≡ bound_of plan.settings
  pub some : 0 < bound_of plan.settings
  pub none : c.readings ≡ []
  pub held : (at : ScanSeen) → c.scan ≡ Some at → (at.course ≡ course_of plan.settings) × (leaves c.cards at ≡ is_among plan.closed)

begun_by : (p q : Panel) (plan : Snapshot) (f : Bool) (told : TakenSeen) → IsFine p → started_answer told ≡ Done None → Starts p plan f told q
    → Begun plan q.cage
begun_by p q plan f told k e h =
    let settings : plan.settings ≡ p.settings = ap (λ (s : Snapshot). s.settings) h.1 in
    let listed : plan.closed ≡ closed_list p.cage.cards = ap (λ (s : Snapshot). s.closed) h.1 in
    let found : is_closed p.cage.cards ≡ is_among plan.closed = sym (fun_ext (among_closed p.cage.cards (inside p.cage k.cage))) ∙ ap is_among (sym listed) in
    record {
      left = left_started (occupancy_of (begun p.cage)) (occupancy_of q.cage) (p.cage.number + 1) (course_of p.settings) 0 told q.cage.scan e h.3.runs
          ∙ ap bound_of (sym settings);
      some = ready_some plan (subst (λ (s : Setup). IsInRange s.scan) (sym settings) k.range) h.2;
      none = h.3.readings;
      held = λ at is.
          let r = leaves_goes (occupancy_of (begun p.cage)) (occupancy_of q.cage) (p.cage.number + 1) (course_of p.settings) 0 told q.cage.scan at
          h.3.runs is in
          let all : effect (is_closed p.cage.cards) (agenda p.settings) ≡ is_among plan.closed =
          ap (λ (b : Channels). effect b (agenda p.settings)) found ∙ ap (λ (s : Setup). effect (is_among plan.closed) (agenda s)) (sym settings)
          ∙ fun_ext (ready_sound plan h.2).back in
          (r.0 ∙ ap course_of (sym settings), r.1 ∙ all);
    }

begun_start : (p q : Panel) (sid : Sid) (plan : Snapshot) (f : Bool) (a : SessionAnswer) (w : Option WorkSeen) → IsFine p
    → begins (AskSession (Ask.Start sid plan)) (SaysSession a w) ≡ true → StepStart p plan f a w q → Begun plan q.cage
begun_start p q sid plan f (Done None) w k n h = begun_by p q plan f h.told k (sym h.answer_is) h.starts
begun_start p q sid plan f (Done (Some text)) w k n h = absurd h
begun_start p q sid plan f a w k n h = absurd (cc (n))

begun_admitted : (now : Admission) (p q : Panel) (sid : Sid) (plan : Snapshot) (f : Bool) (a : SessionAnswer) (w : Option WorkSeen) → IsFine p
    → begins (AskSession (Ask.Start sid plan)) (SaysSession a w) ≡ true → StepAdmitted now p (Ask.Start sid plan) f a w q → Begun plan q.cage
begun_admitted Dropped p q sid plan f Broken None k n h = absurd (cc (n))
begun_admitted Dropped p q sid plan f a w k n h = absurd h
begun_admitted ShutOut p q sid plan f (Hold back) None k n h = absurd (cc (n))
begun_admitted ShutOut p q sid plan f a w k n h = absurd h
begun_admitted Admitted p q sid plan f a w k n h = begun_start p q sid plan f a w k n h

begun_session : (p q : Panel) (sid : Sid) (plan : Snapshot) (f : Bool) (a : SessionAnswer) (w : Option WorkSeen) → IsFine p
    → begins (AskSession (Ask.Start sid plan)) (SaysSession a w) ≡ true → StepSession (Some sid) p (Ask.Start sid plan) f a w q → Begun plan q.cage
begun_session p q sid plan f Stranger w k n h = absurd (cc (n))
begun_session p q sid plan f a w k n h = begun_admitted (admission p sid (Ask.Start sid plan)) p q sid plan f a w k n h.1

begun_acts : (p q : Panel) (sid : Sid) (plan : Snapshot) (f : Bool) (a : AnswerSeen) → IsFine p → begins (AskSession (Ask.Start sid plan)) a ≡ true
    → Acts p (AskSession (Ask.Start sid plan)) f a q → Begun plan q.cage
begun_acts p q sid plan f (SaysSession a w) k n h = begun_session p q sid plan f a w k n h
begun_acts p q sid plan f a k n h = absurd (cc (n))

begun_worn : (sid : Sid) (plan : Snapshot) (a : AnswerSeen) → begins (AskSession (Ask.Start sid plan)) a ≡ true → IsWorn (AskSession (Ask.Start sid plan)) a → ⊥
begun_worn sid plan (SaysSession (Worn back) None) n h = cc (n)
begun_worn sid plan a n h = h

begun_either : (b : Bool) (p q : Panel) (sid : Sid) (plan : Snapshot) (f : Bool) (a : AnswerSeen) → IsFine p → begins (AskSession (Ask.Start sid plan)) a ≡ true
    → MatchBool b (IsUnnumbered p (AskSession (Ask.Start sid plan)) f a q) (IsEvent p (AskSession (Ask.Start sid plan)) f a q) → Begun plan q.cage
begun_either true p q sid plan f a k n h = absurd (begun_worn sid plan a n h.worn)
begun_either false p q sid plan f a k n h =
    subst (λ (c : CageSeen). Begun plan c) (sym (ap (λ (x : Panel). x.cage) h.after ∙ concluded_scan a h.done)) (begun_acts p h.done sid plan f a k n h.acts)

pub begun_step : (p q : Panel) (sid : Sid) (plan : Snapshot) (f : Bool) (a : AnswerSeen) → IsFine p → begins (AskSession (Ask.Start sid plan)) a ≡ true
    → Step p (AskSession (Ask.Start sid plan)) f a q → Begun plan q.cage
begun_step p q sid plan f a k n h = begun_either ((p.events == last_number) && not (acts_unnumbered (AskSession (Ask.Start sid plan)))) p q sid plan f a k n h

-- ---- where it ends

-- what some items read is at most what all do
reads_part : (items : List Item) (n : ℕ) → reads (take n items) ≤ reads items
reads_part items n =
    let whole = ap reads (sym (take-append-drop n items)) ∙ reads-append (take n items) (drop n items) in
    omega (arith, whole)

-- a scan that runs awaits something
stands_some : (out : Option Ticket) (ticket : Ticket) (o : Option Awaited) → MeterStands out ticket o → (x : Awaited) × (o ≡ Some x)
stands_some out ticket None h = absurd h
stands_some out ticket (Some x) h = (x, refl)

over_at : (c : CageSeen) (scan : Option ScanSeen) → IsRunning c scan → left_of scan ≡ 0 → scan ≡ None
over_at c None r n = refl
over_at c (Some at) r n =
    let x = stands_some _ _ (awaits at) r.meter in
    let some : left_at at ≡ suc (length (awaiting (drop (at.index + 1) at.course.items))) = left_past at x.0 x.1 in
    absurd (omega (arith, n, some))

fine_last : (p : Panel) (events : List Event) → IsFine p → IsRun p events → IsFine (last_of p events)
fine_last p [] k r = k
fine_last p (e ∷ events) k r = fine_last e.panel events (step_fine p e.ask _ e.answer e.panel k r.0.step) r.1

-- a run up to an event, and that event
pub record Cut (p : Panel) (before : List Event) (e : Event) : Type 0 where
  pub first : IsRun p before
  pub next : IsNextEvent (last_of p before) e

cut_run : (p : Panel) (before : List Event) (e : Event) → IsRun p (before ++ e ∷ []) → Cut p before e
cut_run p [] e r = record { first = tt; next = r.0 }
cut_run p (b ∷ before) e r = let c = cut_run b.panel before e r.1 in record { first = (r.0, c.first); next = c.next }

cut_none : (before : List Event) (e : Event) → BeginsNoScan (before ++ e ∷ []) → BeginsNoScan before × (begins e.ask e.answer ≡ false)
cut_none [] e n = (tt, n.0)
cut_none (b ∷ before) e n = let c = cut_none before e n.1 in ((n.0, c.0), c.1)

-- a scan that would leave closed what its plan found has done the front of its agenda from there
follows : (plan : Snapshot) (start end : Panel) → Begun plan start.cage → Holds start.cage end.cage → (scan : Option ScanSeen) → end.cage.scan ≡ scan
    → IsRunning end.cage scan → IfSome scan (λ at. IsFollowing plan end at)
follows plan start end b h None e r = tt
follows plan start end b h (Some at) e r =
    let old = h at e in
    let first = b.held old.0 old.1 in
    let same : at.course ≡ course_of plan.settings = old.2 ∙ first.0 in
    let done = take at.index at.course.items in
    let left = drop at.index at.course.items in
    let found : r.way.found ≡ leaves end.cage.cards at =
    sym (fun_ext r.way.sound.back) ∙ ap (effect r.way.found) (sym (take-append-drop at.index at.course.items)) ∙ effect-append r.way.found done left
    ∙ ap (λ (m : Channels). effect m left) (sym r.way.so_far) in
    let whole : r.way.found ≡ is_among plan.closed = found ∙ old.3 ∙ first.1 in
    let now : is_closed end.cage.cards ≡ effect (is_among plan.closed) (take at.index (agenda plan.settings)) =
    r.way.so_far ∙ ap (λ (m : Channels). effect m done) whole ∙ ap (λ (s : CourseSeen). effect (is_among plan.closed) (take at.index s.items)) same in
    record {
      course = same;
      closed = λ c. ap (λ (m : Channels). m c) now;
      readings =
          r.readings ∙ ap (λ (s : CourseSeen). reads (take at.index s.items)) same;
    }

underway_at : (c : CageSeen) (scan : Option ScanSeen) (at : ScanSeen) → IsRunning c scan → scan ≡ Some at → IsUnderway c at
underway_at c scan at r e = subst (λ (o : Option ScanSeen). IsRunning c o) e r

-- where the scan of a plan stands, that began at start
pub record Stands (plan : Snapshot) (p : Panel) (taken : ℕ) (at : ScanSeen) : Type 0 where
  pub course : at.course ≡ course_of plan.settings
  pub leaves_it : leaves p.cage.cards at ≡ is_among plan.closed
  pub taken_left : taken + left_at at ≡ bound_of plan.settings

stands : (plan : Snapshot) (start p : Panel) (taken : ℕ) (at : ScanSeen) → Begun plan start.cage → Nears start taken p → p.cage.scan ≡ Some at
    → Stands plan p taken at
stands plan start p taken at b h e =
    let old = h.holds at e in
    let first = b.held old.0 old.1 in
    let here : left_in p ≡ left_at at = ap left_of e in
    record {
      course = old.2 ∙ first.0;
      leaves_it = old.3 ∙ first.1;
      taken_left = elim h.left [ inl l ↦ omega (arith, l, here, b.left) | inr i ↦ absurd (let n = sym e ∙ i in cc (n)) ];
    }

-- the scan is over at q
over_by : (plan : Snapshot) (p q : Panel) (taken : ℕ) (e : Event) (at : ScanSeen) → Stands plan p taken at → IsUnderway p.cage at → e.panel ≡ q
    → q.cage.readings ≡ readings_after e.ask e.answer p.cage.readings
    → Completed p.cage at (took e.ask e.answer) q.cage ⊎ ((breaks_off e.ask e.answer ≡ true) × Stopped at q.cage) → IsOver plan taken p e
over_by plan p q taken e at s u is kept h =
    let all : (n : ℕ)
    → reads (take n at.course.items) ≤ points_of plan.settings =
    λ (n : ℕ). subst (λ (x : CourseSeen). reads (take n at.course.items) ≤ x.points) s.course (omega (arith, u.way.sound.fits, reads_part at.course.items n)) in
    subst (λ (x : Panel). IsComplete plan (taken + took e.ask e.answer) x
    ⊎ ((breaks_off e.ask e.answer ≡ true) × IsBrokenOff plan p e.ask e.answer x)) (sym is) (by_end all h)
  where
    by_end : ((n : ℕ) → reads (take n at.course.items) ≤ points_of plan.settings) → Completed p.cage at (took e.ask e.answer) q.cage
        ⊎ ((breaks_off e.ask e.answer ≡ true) × Stopped at q.cage)
        → IsComplete plan (taken + took e.ask e.answer) q ⊎ ((breaks_off e.ask e.answer ≡ true) × IsBrokenOff plan p e.ask e.answer q)
    by_end all (inl h) = inl (record {
      closed = λ c. ap (λ (m : Channels). m c) (h.closed ∙ s.leaves_it);
      taken = omega (arith, h.one, h.last, s.taken_left);
      readings = h.readings ∙ ap (λ (x : CourseSeen). reads x.items) s.course;
      room = omega (arith, h.readings, subst (λ (x : CourseSeen). reads at.course.items ≤ x.points) s.course u.way.sound.fits);
    })
    by_end all (inr h) = inr (
      h.0,
      record {
        none = h.1.none;
        readings = kept;
        room = omega (arith, h.1.readings, all h.1.items);
      },
    )

running_some : (o : Option ScanSeen) → is_some o ≡ true → (at : ScanSeen) × (o ≡ Some at)
running_some None e = absurd (cc (e))
running_some (Some at) e = (at, refl)

runs_some : (o : Option ScanSeen) → 0 < left_of o → is_some o ≡ true
runs_some None e = absurd (omega (arith, e))
runs_some (Some at) e = refl

begun_in : (p : Panel) (start : Event) (plan : Snapshot) → IsFine p → IsNextEvent p start → BeginsScan plan start → Begun plan start.panel.cage
begun_in p start plan k r b =
    let f = failed_in start.ask start.answer p.cage.cards start.panel.cage.cards in
    begun_step p start.panel b.sid plan f start.answer k (subst (λ (x : AskSeen). begins x start.answer ≡ true) b.ask b.done)
    (subst (λ (x : AskSeen). Step p x f start.answer start.panel) b.ask r.step)

along : (plan : Snapshot) (start : Panel) (after : List Event) → IsFine start → Begun plan start.cage → BeginsNoScan after → IsRun start after
    → IsEnding plan start after
along plan start after fine b none run =
    let h = near_run start after fine run none in
    let good = (fine_last start after fine run).cage.good.running in
    let end = last_of start after in
    record {
      follows = follows plan start end b h.holds end.cage.scan refl good;
      most = omega (arith, h.most, b.left);
      adds_up = elim h.left [ inl l ↦ inl (l ∙ b.left) | inr i ↦ inr i ];
      over = λ t. elim h.left [ inl l ↦ over_at end.cage end.cage.scan good (omega (arith, l, b.left, t)) | inr i ↦ i ];
    }

ends : (plan : Snapshot) (start : Panel) (between : List Event) (e : Event) → IsFine start → Begun plan start.cage → BeginsNoScan (between ++ e ∷ [])
    → IsRun start (between ++ e ∷ [])
    → is_running (last_of start between) ≡ true → is_running e.panel ≡ false → IsOver plan (taken_in between) (last_of start between) e
ends plan start between e fine b none run runs idle =
    let n = cut_none between e none in
    let c = cut_run start between e run in
    let p = last_of start between in
    let k : IsFine p = fine_last start between fine c.first in
    let at = running_some p.cage.scan runs in
    let u : IsUnderway p.cage at.0 = underway_at p.cage p.cage.scan at.0 k.cage.good.running at.1 in
    let s = stands plan start p (taken_in between) at.0 b (near_run start between fine c.first n.0) at.1 in
    let m = move_step p e.ask _ e.answer e.panel k.cage.good.held n.1 c.next.step in
    over_by plan p e.panel (taken_in between) e at.0 s u refl (reads_step p e.ask _ e.answer e.panel c.next.step) (m.ends at.0 at.1 u (none_of e.panel idle))

pub every_scan : EveryScanEnds
every_scan numbered scanned before start plan run b =
    let c = cut_run (opening_at numbered scanned) before start run in
    let p = last_of (opening_at numbered scanned) before in
    let ready : IsFine p = fine_last (opening_at numbered scanned) before (opening_fine_at numbered scanned) c.first in
    let g : Begun plan start.panel.cage = begun_in p start plan ready c.next b in
    let fine : IsFine start.panel = step_fine p start.ask _ start.answer start.panel ready c.next.step in
    record {
      runs = runs_some start.panel.cage.scan (omega (arith, g.left, g.some));
      along = λ after none run. along plan start.panel after fine g none run;
      ends = λ between e none run runs idle. ends plan start.panel between e fine g none run runs idle;
    }
