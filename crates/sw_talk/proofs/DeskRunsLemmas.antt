-- What a desk does over its mainframe is a run.
use Rattle.std.proofs.Common.{◌≡◌, Bool, List, [], ◌∷◌, ◌++◌, Option, None, Some, refl, sym, ap, ◌∙◌, subst}
use Rattle.std.proofs.lemmas.List.{append_assoc, append-nil}
use Rattle.sw_core.specs.Ends.{last_of}
use Rattle.sw_core.specs.Panel.{Panel}
use Rattle.sw_core.specs.Run.{Event, IsNextEvent, IsRun}
use Rattle.sw_core.specs.Seen.{WorkSeen, Measures, Pauses, AskSeen, AskSession, AnswerSeen, SaysSession}
use Rattle.sw_core.specs.Step.{Step}
use Rattle.sw_talk.specs.declared.desk.Wake.TheVariants.{Again, Over}
use Rattle.sw_talk.specs.Available.{seated}
use Rattle.sw_talk.specs.CoreDesk.{DeskSeen, Carried, TellsOfPiece, CarriesOut, Keeps, PassesBy, CorePasses, brought}
use Rattle.sw_talk.specs.DeskRuns.{Exchange, IsRunTo, CoreDeskRuns, asked_at, asked_in, asked_by, asked_of}
use Rattle.sw_talk.specs.Trace.{Entry, Asked, Waited, Polled, Noted, Leads}

run-append : (p : Panel) (xs ys : List Event) → IsRun p xs → IsRun (last_of p xs) ys → IsRun p (xs ++ ys)
run-append p [] ys a b = b
run-append p (x ∷ xs) ys a b = (a.0, run-append x.panel xs ys a.1 b)

last-append : (p : Panel) (xs ys : List Event) → last_of p (xs ++ ys) ≡ last_of (last_of p xs) ys
last-append p [] ys = refl
last-append p (x ∷ xs) ys = last-append x.panel xs ys

asked-append : (xs ys : List Event) → asked_of (xs ++ ys) ≡ asked_of xs ++ asked_of ys
asked-append [] ys = refl
asked-append (x ∷ xs) ys =
    ap (λ (l : List Exchange). asked_by x.ask x.answer ++ l) (asked-append xs ys)
    ∙ sym (append_assoc (asked_by x.ask x.answer) (asked_of xs) (asked_of ys))

-- a run that asks this
pub record RunsAsking (p q : Panel) (asks : List Exchange) : Type 0 where
  pub runs : IsRunTo p q
  pub asks_is : asked_of runs.events ≡ asks

pub stays : (p q : Panel) → q ≡ p → RunsAsking p q []
stays p q same = record { runs = record { events = []; run = tt; there = same }; asks_is = refl }

pub begins : (p q : Panel) (e : Event) (asks : List Exchange) → IsNextEvent p e → RunsAsking e.panel q asks → RunsAsking p q (asked_by e.ask e.answer ++ asks)
begins p q e asks next r = record {
  runs = record { events = e ∷ r.runs.events; run = (next, r.runs.run); there = r.runs.there };
  asks_is = ap (λ (l : List Exchange). asked_by e.ask e.answer ++ l) r.asks_is;
}

pub goes-on : (p mid q : Panel) (asks more : List Exchange) → RunsAsking p mid asks → RunsAsking mid q more → RunsAsking p q (asks ++ more)
goes-on p mid q asks more a b = record {
  runs = record {
    events = a.runs.events ++ b.runs.events;
    run = run-append p a.runs.events b.runs.events a.runs.run (subst (λ (x : Panel). IsRun x b.runs.events) a.runs.there b.runs.run);
    there = b.runs.there ∙ ap (λ (x : Panel). last_of x b.runs.events) a.runs.there ∙ sym (last-append p a.runs.events b.runs.events);
  };
  asks_is = asked-append a.runs.events b.runs.events ∙ ap (λ (l : List Exchange). l ++ asked_of b.runs.events) a.asks_is
      ∙ ap (λ (l : List Exchange). asks ++ l) b.asks_is;
}

-- a piece that is carried out is told, and asked by no session
asked-none : (piece : WorkSeen) (ask : AskSeen) (answer : AnswerSeen) → TellsOfPiece piece ask → asked_by ask answer ≡ []
asked-none (Pauses ticket micros) ask answer tells = ap (λ (a : AskSeen). asked_by a answer) tells
asked-none (Measures job) ask answer tells = ap (λ (a : AskSeen). asked_by a answer) tells.2

carried-next : (p : Panel) (piece : WorkSeen) (c : Carried) → CarriesOut p piece c → IsNextEvent p (record { ask = c.ask; answer = c.answer; panel = c.after })
carried-next p piece c o = record { own = o.own; step = subst (λ (f : Bool). Step p c.ask f c.answer c.after) o.counts o.step }

carried-runs : (p q : Panel) (piece : WorkSeen) (c : Carried) → CarriesOut p piece c → RunsAsking c.after q [] → RunsAsking p q []
carried-runs p q piece c o r =
    subst (λ (l : List Exchange). RunsAsking p q l) (append-nil (asked_by c.ask c.answer) ∙ asked-none piece c.ask c.answer o.tells)
    (begins p q (record { ask = c.ask; answer = c.answer; panel = c.after }) [] (carried-next p piece c o) r)

keeps-runs : (carried : List Carried) (d : DeskSeen) (brings : Option WorkSeen) (new : DeskSeen) → Keeps carried d brings new → RunsAsking d.panel new.panel []
keeps-runs [] d None new k = stays d.panel new.panel (ap (λ (x : DeskSeen). x.panel) k)
keeps-runs [] d (Some piece) new k = stays d.panel new.panel (ap (λ (x : DeskSeen). x.panel) k.leaves)
keeps-runs (c ∷ carried) d None new k = absurd k
keeps-runs (c ∷ carried) d (Some piece) new (mid, off, k) =
    carried-runs d.panel new.panel off.piece c off.carries
    (subst (λ (x : Panel). RunsAsking x new.panel []) (ap (λ (x : DeskSeen). x.panel) off.leaves) (keeps-runs carried mid (brought c.answer) new k))

passes-runs : (carried : List Carried) (old : DeskSeen) (entry : Entry) (new : DeskSeen) → PassesBy carried old entry new
    → RunsAsking old.panel new.panel (asked_at entry)
passes-runs carried old (Asked ask answer) new p =
    begins old.panel new.panel (record { ask = AskSession ask; answer = SaysSession answer p.brings; panel = p.after }) []
    (record { own = tt; step = subst (λ (f : Bool). Step old.panel (AskSession ask) f (SaysSession answer p.brings) p.after) p.counts p.step })
    (keeps-runs carried (record old { panel = p.after; available = seated old.available ask answer }) p.brings new p.keeps)
passes-runs [] old (Waited limit (Again rest)) new p = absurd p
passes-runs (c ∷ carried) old (Waited limit (Again rest)) new (is, w) =
    carried-runs old.panel new.panel w.piece c w.carries
    (keeps-runs carried (record old { panel = c.after; work = w.others }) (brought c.answer) new w.keeps)
passes-runs [] old (Waited limit Over) new p = stays old.panel new.panel (ap (λ (x : DeskSeen). x.panel) p.1)
passes-runs (c ∷ carried) old (Waited limit Over) new p = absurd p
passes-runs [] old (Polled sid view) new p = stays old.panel new.panel (ap (λ (x : DeskSeen). x.panel) p.1)
passes-runs (c ∷ carried) old (Polled sid view) new p = absurd p
passes-runs [] old (Noted sid mav) new p = stays old.panel new.panel (ap (λ (x : DeskSeen). x.panel) p)
passes-runs (c ∷ carried) old (Noted sid mav) new p = absurd p

pub leads-runs : (old new : DeskSeen) (trace : List Entry) → Leads CorePasses old trace new → RunsAsking old.panel new.panel (asked_in trace)
leads-runs old new [] same = stays old.panel new.panel (ap (λ (x : DeskSeen). x.panel) same)
leads-runs old new (entry ∷ trace) (mid, p, more) =
    goes-on old.panel mid.panel new.panel (asked_at entry) (asked_in trace) (passes-runs p.0 old entry mid p.1) (leads-runs mid new trace more)

pub desk-runs : CoreDeskRuns
desk-runs old new trace leads = let r = leads-runs old new trace leads in record { runs = r.runs; asks = r.asks_is }
