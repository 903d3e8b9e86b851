-- All that was asked of a mainframe is a run.
use Rattle.std.proofs.Common.{◌≡◌, ℕ, zero, suc, Bool, true, List, [], ◌∷◌, ◌++◌, Option, None, refl, sym, ap, ◌∙◌, subst}
use Rattle.std.specs.Prelude.{replicate}
use Rattle.std.proofs.lemmas.List.{append-nil}
use Rattle.sw_cage.specs.Cage.{CageSeen}
use Rattle.sw_cage.specs.Change.{any_failed}
use Rattle.sw_cage.proofs.ChannelCallLemmas.{failed_same}
use Rattle.sw_core.specs.declared.ask.Sid.{Sid}
use Rattle.sw_core.specs.declared.ask.SessionAsk.TheVariants as Ask
use Rattle.sw_core.specs.declared.ask.SessionAnswer.TheVariants.{Joined}
use Rattle.sw_core.specs.Panel.{Panel, opening}
use Rattle.sw_core.specs.Run.{EveryRunIsGood}
use Rattle.sw_core.specs.Seen.{AskSession, AskInstall, SaysSession, SaysInstalled}
use Rattle.sw_core.specs.Step.{Step}
use Rattle.sw_talk.specs.declared.desk.Wake.TheVariants.{Again}
use Rattle.sw_talk.specs.CoreDesk.{DeskSeen, CorePasses, desk_over, last_wait}
use Rattle.sw_talk.specs.DeskRuns.{Exchange, asked_in}
use Rattle.sw_talk.specs.Trace.{Entry, Waited, Leads}
use Rattle.sw_talk.proofs.DeskRunsLemmas.{RunsAsking, stays, begins, goes-on, leads-runs}
use Rattle.sw_serve.specs.SlotCards.{PlacedCard, TakesCards, Joins, IsSetUp}
use Rattle.sw_serve.proofs.FittingLemmas.{joined_bare}
use Rattle.mainframe.specs.Run.{RunState, begins_at, Line, Run, RunsTo, EndsFrom, asks_over, IsWholeOf, IsWholeTo}
use Rattle.mainframe.specs.declared.fault.RunFault.{RunFault}
use Rattle.mainframe.specs.declared.fault.RunFault.TheVariants.{Input, Output, Memory, Listen, Descriptors}
use Rattle.mainframe.proofs.DeterminedLemmas.{join_unfailed}

joins : (sid : Sid) (p q : Panel) (asks : List Exchange) → Joins sid p → RunsAsking p q asks
    → RunsAsking opening q (record { ask = Ask.Join; answer = Joined sid } ∷ asks)
joins sid p q asks j r =
    let counts : j.failed ≡ any_failed opening.cage.cards p.cage.cards =
    join_unfailed opening sid j.failed p j.step ∙ sym (failed_same opening.cage.cards)
    ∙ ap (λ (c : CageSeen). any_failed opening.cage.cards c.cards) (sym (joined_bare sid p j).0) in
    begins opening q (record { ask = AskSession Ask.Join; answer = SaysSession (Joined sid) None; panel = p }) asks
    (record { own = tt; step = subst (λ (f : Bool). Step opening (AskSession Ask.Join) f (SaysSession (Joined sid) None) p) counts j.step }) r

fits : (cards : List PlacedCard) (p q : Panel) → TakesCards p cards q → RunsAsking p q []
fits [] p q same = stays p q same
fits (o ∷ more) p q (mid, t, on) =
    begins p q (record { ask = AskInstall o.slot o.card; answer = SaysInstalled; panel = mid }) []
    (record { own = t.own; step = subst (λ (f : Bool). Step p (AskInstall o.slot o.card) f SaysInstalled mid) t.counted t.step })
    (fits more mid q on)

-- a rest asks nothing
rest-asks : (n : ℕ) → asked_in (replicate n (Waited None (Again None)) ++ last_wait true) ≡ []
rest-asks zero = refl
rest-asks (suc n) = rest-asks n

answers : (sid : Sid) (s s' : RunState) (line told : List ℕ) (l : Line sid s line told s')
    → RunsAsking s.desk.panel s'.desk.panel (asked_in l.talked.trace)
answers sid s s' line told l =
    let rests : RunsAsking l.spoken.panel s'.desk.panel [] =
    subst (λ (asks : List Exchange). RunsAsking l.spoken.panel s'.desk.panel asks) (rest-asks l.rests.waits)
    (leads-runs l.spoken s'.desk (replicate l.rests.waits (Waited None (Again None)) ++ last_wait true) l.rests.leads) in
    subst (λ (asks : List Exchange). RunsAsking s.desk.panel s'.desk.panel asks) (append-nil (asked_in l.talked.trace))
    (goes-on s.desk.panel l.spoken.panel s'.desk.panel (asked_in l.talked.trace) [] (leads-runs s.desk l.spoken l.talked.trace l.talked.leads) rests)

answers-all : (sid : Sid) (s : RunState) (lines : List (List ℕ)) (bytes : List ℕ) (s' : RunState) (r : Run sid s lines bytes s')
    → RunsAsking s.desk.panel s'.desk.panel (asks_over sid s lines bytes s' r)
answers-all sid s [] bytes s' (none, same) = stays s.desk.panel s'.desk.panel (ap (λ (x : RunState). x.desk.panel) same)
answers-all sid s (l ∷ ls) bytes s' (told, mid, more, line, run, is) =
    goes-on s.desk.panel mid.desk.panel s'.desk.panel (asked_in line.talked.trace) (asks_over sid mid ls more s' run) (answers sid s mid l told line)
    (answers-all sid mid ls more s' run)

pub whole-of : EveryRunIsGood → (first : List Entry) (cards : List PlacedCard) (sid : Sid) (fitted : Panel) (start : DeskSeen) (input rest bytes : List ℕ)
    → IsSetUp cards sid fitted → Leads CorePasses (desk_over fitted) first start
    → (r : RunsTo sid (begins_at start) input rest bytes) → IsWholeOf sid (asked_in first) (begins_at start) input rest bytes r
whole-of law first cards sid fitted start input rest bytes s leads r =
    let asks = asks_over sid (begins_at start) r.done bytes r.after r.run in
    let lines = goes-on fitted start.panel r.after.desk.panel (asked_in first) asks (leads-runs (desk_over fitted) start first leads)
    (answers-all sid (begins_at start) r.done bytes r.after r.run) in
    let w = joins sid s.begun r.after.desk.panel (asked_in first ++ asks) s.joined
    (goes-on s.begun fitted r.after.desk.panel [] (asked_in first ++ asks) (fits cards s.begun fitted s.fitted) lines) in
    record { runs = w.runs; asks_are = w.asks_is; good = law 0 0 w.runs.events w.runs.run }

pub whole-to : EveryRunIsGood → (first : List Entry) (cards : List PlacedCard) (sid : Sid) (fitted : Panel) (start : DeskSeen) (fault : RunFault)
    (input : List ℕ) (left old new : Option (List ℕ)) → IsSetUp cards sid fitted → Leads CorePasses (desk_over fitted) first start
    → (ends : EndsFrom sid (begins_at start) fault input left old new)
    → IsWholeTo sid (asked_in first) (begins_at start) fault input left old new ends
whole-to law first cards sid fitted start Input input left old new s leads ends =
    whole-of law first cards sid fitted start input (ends.cut ++ ends.unread) ends.answered.bytes s leads ends.answered.runs
whole-to law first cards sid fitted start Memory input left old new s leads ends =
    whole-of law first cards sid fitted start input (ends.cut ++ ends.unread) ends.answered.bytes s leads ends.answered.runs
whole-to law first cards sid fitted start Output input left old new s leads ends =
    whole-of law first cards sid fitted start input ends.rest ends.bytes s leads ends.runs
whole-to law first cards sid fitted start Listen input left old new s leads ends = ends
whole-to law first cards sid fitted start Descriptors input left old new s leads ends = ends
