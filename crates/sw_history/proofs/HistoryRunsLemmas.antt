-- Every history is a run.
use Rattle.std.proofs.Common.{◌≡◌, List, [], ◌∷◌, ◌++◌, map, refl, sym, subst}
use Rattle.sw_core.specs.Ends.{last_of}
use Rattle.sw_core.specs.Opening.{IsReached, RunsGoOn}
use Rattle.sw_core.specs.Panel.{Panel}
use Rattle.sw_core.specs.Run.{Event, IsRun}
use Rattle.sw_history.specs.Entries.{HistoryEntry}
use Rattle.sw_history.specs.History.{IsHistory, IsEntry, event}
use Rattle.sw_history.specs.Laws.{said_of, said_by, EveryHistoryIsARun}

-- the events of a history
record Runs (start : Panel) (entries : List HistoryEntry) (panel : Panel) : Type 0 where
  events : List Event
  told : map said_of entries ≡ map said_by events
  run : IsRun start events
  there : panel ≡ last_of start events

said : (p : Panel) (e : HistoryEntry) (q : Panel) → IsEntry p e q → said_of e ≡ said_by (event e.ask e.answer q)
said p e q entry = λ j. record { number = entry.number j; ask = e.ask; answer = e.answer; pair = entry.pair j }

runs : (p : Panel) (es : List HistoryEntry) (q : Panel) → IsHistory p es q → Runs p es q
runs p [] q h = record { events = []; told = refl; run = tt; there = sym h }
runs p (e ∷ es) q (next, entry, rest) =
    let more = runs next es q rest in
    let same = said p e next entry in record {
      events = event e.ask e.answer next ∷ more.events;
      told = λ j. same j ∷ more.told j;
      run = (entry.next, more.run);
      there = more.there;
    }

-- a run up to one of its events
run_to : (p : Panel) (before : List Event) (e : Event) (after : List Event) → IsRun p (before ++ e ∷ after) → IsRun p (before ++ e ∷ [])
run_to p [] e after r = (r.0, tt)
run_to p (b ∷ before) e after r = (r.0, run_to b.panel before e after r.1)

pub every_history : RunsGoOn → EveryHistoryIsARun
every_history law start entries panel fresh h =
    let made = runs start entries panel h in
    let from = law.fresh start fresh in record {
      events = made.events;
      told = made.told;
      run = made.run;
      there = made.there;
      reached = subst (λ (x : Panel). IsReached x) (sym made.there) (law.on start made.events from made.run);
      good = law.events start made.events from made.run;
      scans = λ before after begin plan is begins.
          law.scans start before begin plan from
          (run_to start before begin after (subst (λ (l : List Event). IsRun start l) is made.run)) begins;
    }
