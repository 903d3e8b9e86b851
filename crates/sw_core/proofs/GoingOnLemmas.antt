-- What a run from the opening state leads to goes on so.
use Rattle.std.proofs.Common.{◌≡◌, ℕ, true, List, [], ◌∷◌, ◌++◌, refl, sym, ◌∙◌, ap, subst}
use Rattle.std.specs.List.{AllByRecursion}
use Rattle.sw_verify.specs.declared.snapshot.Snapshot.{Snapshot}
use Rattle.sw_core.specs.Panel.{Panel, opening_at}
use Rattle.sw_core.specs.Good.{IsGoodPanel}
use Rattle.sw_core.specs.Run.{Event, IsNextEvent, IsRun}
use Rattle.sw_core.specs.Ends.{last_of, BeginsScan, ScanEnds}
use Rattle.sw_core.specs.Opening.{is_install, IsReached, IsFresh, RunsGoOn}
use Rattle.sw_core.proofs.EveryRunLemmas.{good_opening, good_last, good_run}
use Rattle.sw_core.proofs.ScanRunsLemmas.{every_scan}

-- ---- two runs one after the other

last_on : (p : Panel) (before after : List Event) → last_of p (before ++ after) ≡ last_of (last_of p before) after
last_on p [] after = refl
last_on p (e ∷ before) after = last_on e.panel before after

run_on : (p : Panel) (before after : List Event) → IsRun p before → IsRun (last_of p before) after → IsRun p (before ++ after)
run_on p [] after r s = s
run_on p (e ∷ before) after r s = (r.0, run_on e.panel before after r.1 s)

all_on : (before : List Event) (e : Event) → AllByRecursion (λ (x : Event). is_install x.ask ≡ true) before → is_install e.ask ≡ true
    → AllByRecursion (λ (x : Event). is_install x.ask ≡ true) (before ++ e ∷ [])
all_on [] e h o = (o, tt)
all_on (b ∷ before) e h o = (h.0, all_on before e h.1 o)

same_list : (before middle after : List Event) → (before ++ middle) ++ after ≡ before ++ (middle ++ after)
same_list [] middle after = refl
same_list (b ∷ before) middle after = ap (λ (l : List Event). b ∷ l) (same_list before middle after)

-- ---- what is reached

reached_on : (p : Panel) (events : List Event) → IsReached p → IsRun p events → IsReached (last_of p events)
reached_on p events h r = record {
  numbered = h.numbered;
  scanned = h.scanned;
  events = h.events ++ events;
  run = run_on (opening_at h.numbered h.scanned) h.events events h.run (subst (λ (x : Panel). IsRun x events) h.there r);
  there = ap (λ (x : Panel). last_of x events) h.there ∙ sym (last_on (opening_at h.numbered h.scanned) h.events events);
}

reached_next : (p : Panel) (e : Event) → IsReached p → IsNextEvent p e → IsReached e.panel
reached_next p e h n = reached_on p (e ∷ []) h (n, tt)

fresh_reached : (p : Panel) → IsFresh p → IsReached p
fresh_reached p h = record { numbered = h.numbered; scanned = h.scanned; events = h.installs; run = h.run; there = h.there }

fresh_made : (events scans : ℕ) → IsFresh (opening_at events scans)
fresh_made events scans = record { numbered = events; scanned = scans; installs = []; only = tt; run = tt; there = refl }

fresh_offered : (p : Panel) (e : Event) → IsFresh p → is_install e.ask ≡ true → IsNextEvent p e → IsFresh e.panel
fresh_offered p e h o n = record {
  numbered = h.numbered;
  scanned = h.scanned;
  installs = h.installs ++ e ∷ [];
  only = all_on h.installs e h.only o;
  run = run_on (opening_at h.numbered h.scanned) h.installs (e ∷ []) h.run (subst (λ (x : Panel). IsNextEvent x e) h.there n, tt);
  there = sym (last_on (opening_at h.numbered h.scanned) h.installs (e ∷ []));
}

reached_good : (p : Panel) → IsReached p → IsGoodPanel p
reached_good p h =
    subst (λ (x : Panel). IsGoodPanel x) (sym h.there)
    (good_last (opening_at h.numbered h.scanned) h.events (good_opening h.numbered h.scanned) h.run)

reached_scans : (p : Panel) (before : List Event) (start : Event) (plan : Snapshot) → IsReached p → IsRun p (before ++ start ∷ []) → BeginsScan plan start
    → ScanEnds plan start
reached_scans p before start plan h r b =
    let whole = run_on (opening_at h.numbered h.scanned) h.events (before ++ start ∷ []) h.run
    (subst (λ (x : Panel). IsRun x (before ++ start ∷ [])) h.there r) in
    every_scan h.numbered h.scanned (h.events ++ before) start plan
    (subst (λ (l : List Event). IsRun (opening_at h.numbered h.scanned) l) (sym (same_list h.events before (start ∷ []))) whole) b

pub runs_on : RunsGoOn
runs_on = record {
  made = fresh_made;
  installed = fresh_offered;
  fresh = fresh_reached;
  next = reached_next;
  on = reached_on;
  good = reached_good;
  events = λ p events h r. good_run p events (reached_good p h) r;
  scans = reached_scans;
}
