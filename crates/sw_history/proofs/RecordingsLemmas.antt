-- What an ask makes of the history, and what its desk is told.
use Rattle.std.proofs.Common.{◌≡◌, ℕ, ◌<◌, ◌^◌, Bool, true, false, List, [], ◌∷◌, ◌++◌, Some, refl, ap, sym, ◌∙◌, subst}
use Rattle.std.specs.Option.{unwrap_or}
use mathlib.Core.List.{IsPrefix}
use Rattle.sw_core.specs.Panel.{Panel}
use Rattle.sw_core.specs.Opening.{IsReached, RunsGoOn}
use Rattle.sw_core.specs.Run.{Event, IsNextEvent}
use Rattle.sw_core.specs.Seen.{AskSeen, AnswerSeen}
use Rattle.sw_history.specs.Board.{Known, Said, entry_of}
use Rattle.sw_history.specs.Entries.{HistoryEntry, made_by}
use Rattle.sw_history.specs.History.{IsEntry, IsHistory, event, said_at, Entered, Replied, SeatTold, AsksInHistory}
use Rattle.sw_history.specs.Shares.{is_event}
use Rattle.sw_history.proofs.HistoriesLemmas.{history_more}

-- after an event of a mainframe that is reached its service requests fit into the word
pub next_fits : RunsGoOn → (p : Panel) (e : Event) (n : ℕ) → IsReached p → IsNextEvent p e → n ≡ e.panel.status.requests → n < 2 ^ 56
next_fits law p e n reached next is =
    subst (λ (m : ℕ). m < 2 ^ 56) (sym is) (law.good e.panel (law.next p e reached next)).status.requests

-- the event leads from p to q
pub record Leads (p : Panel) (ask : AskSeen) (answer : AnswerSeen) (q : Panel) : Type 0 where
  pub next : IsNextEvent p (record { ask = ask; answer = answer; panel = q })
  pub event : is_event answer ≡ true

abbrev after_said : List HistoryEntry → Known → Said → List HistoryEntry
after_said es v said = es ++ entry_of v said ∷ []

pub history_event : (start : Panel) (es : List HistoryEntry) (p : Panel) (v : Known) (said : Said) (ask : AskSeen) (answer : AnswerSeen) (q : Panel)
    → IsHistory start es p → Leads p ask answer q → said ≡ said_at q ask answer → IsHistory start (es ++ entry_of v said ∷ []) q
history_event start es p v said ask answer q h l e =
    subst
    (λ (s : Said). IsHistory start (after_said es v s) q)
    (sym e)
    (history_more start es (entry_of v (said_at q ask answer)) p q h (record { next = l.next; event = l.event; number = refl; pair = refl }))

-- what the desk knows after its event
pub record SawEvent (es : List HistoryEntry) (v : Known) (said : Said) (w : Known) : Type 0 where
  pub later : IsPrefix v.seen es
  pub seen : w.seen ≡ es ++ entry_of v said ∷ []
  pub desk : w.desk ≡ v.desk
  pub mine : w.mine ≡ v.mine ++ entry_of v said ∷ []
  pub own : (d : ℕ) → w.desk ≡ Some d → made_by d w.seen ≡ w.mine

pub asks_event : (start : Panel) (es : List HistoryEntry) (p : Panel) (v : Known) (said : Said) (ask : AskSeen) (answer : AnswerSeen) (q : Panel) (w : Known)
    (d : ℕ)
    → IsHistory start es p → Leads p ask answer q → said ≡ said_at q ask answer → v.desk ≡ Some d → SawEvent es v said w
    → AsksInHistory start p v (event ask answer q) w
asks_event start es p v said ask answer q w d h l e is s =
    let entered : Entered start p v (event ask answer q) w = record {
      before = es;
      entry = entry_of v said;
      seen = s.seen;
      later = s.later;
      leads = h;
      is_entry = subst (λ (x : Said). IsEntry p (entry_of v x) q) (sym e) (record { next = l.next; event = l.event; number = refl; pair = refl });
      ask_is = ap (λ (x : Said). x.ask) e;
      answer_is = ap (λ (x : Said). x.answer) e;
      desk = is ∙ ap Some (sym (ap (λ o. unwrap_or o 0) is));
      mine = s.mine;
    } in record {
      next = l.next;
      told = subst (λ (b : Bool). SeatTold b start p v (event ask answer q) w) (sym l.event) entered;
      legal = subst (λ (xs : List HistoryEntry). IsHistory start xs q) (sym s.seen) (history_event start es p v said ask answer q h l e);
      desk = s.desk;
      own = s.own;
    }

-- what the desk knows after what was no event
pub record SawNone (es : List HistoryEntry) (v w : Known) : Type 0 where
  pub later : IsPrefix v.seen es
  pub seen : w.seen ≡ es
  pub desk : w.desk ≡ v.desk
  pub mine : w.mine ≡ v.mine
  pub own : (d : ℕ) → w.desk ≡ Some d → made_by d w.seen ≡ w.mine

pub asks_nothing : (start : Panel) (es : List HistoryEntry) (p : Panel) (v : Known) (ask : AskSeen) (answer : AnswerSeen) (q : Panel) (w : Known)
    → IsHistory start es p → IsNextEvent p (event ask answer q) → q ≡ p → is_event answer ≡ false → SawNone es v w
    → AsksInHistory start p v (event ask answer q) w
asks_nothing start es p v ask answer q w h n e quiet s =
    let there : IsHistory start w.seen p = subst (λ (xs : List HistoryEntry). IsHistory start xs p) (sym s.seen) h in
    let replied : Replied start p v (event ask answer q) w = record {
      same = e;
      leads = there;
      later = subst (λ (xs : List HistoryEntry). IsPrefix v.seen xs) (sym s.seen) s.later;
      mine = s.mine;
    } in record {
      next = n;
      told = subst (λ (b : Bool). SeatTold b start p v (event ask answer q) w) (sym quiet) replied;
      legal = subst (λ (x : Panel). IsHistory start w.seen x) (sym e) there;
      desk = s.desk;
      own = s.own;
    }
