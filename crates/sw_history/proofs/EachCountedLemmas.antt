-- Each event of a desk is counted.
use Rattle.std.proofs.Common.{◌≡◌, ◌+◌, ◌==◌, ℕ, Bool, true, false, not, List, [], ◌∷◌, sym, ap, ◌∙◌, subst, arith}
use Rattle.sw_core.specs.Panel.{Panel}
use Rattle.sw_core.specs.Event.{last_number}
use Rattle.sw_core.specs.Seen.{AskSeen, AnswerSeen}
use Rattle.sw_history.specs.Entries.{HistoryEntry}
use Rattle.sw_history.specs.Held.{AtDesk}
use Rattle.sw_history.specs.History.{IsHistory, Entered, SeatTold, event}
use Rattle.sw_history.specs.Laws.{number_after, IsCounted, EachEventIsCounted}
use Rattle.sw_history.specs.Shares.{is_event, is_counted, one_if}
use Rattle.sw_history.specs.Asks.{AsksOnce}

-- a history leads to a panel with the number of its last entry
led : (p : Panel) (es : List HistoryEntry) (q : Panel) → IsHistory p es q → q.events ≡ number_after p.events es
led p [] q h = sym (ap (λ (x : Panel). x.events) h)
led p (e ∷ es) q (next, entry, rest) = led next es q rest ∙ ap (λ (n : ℕ). number_after n es) (sym entry.number)

-- an event is counted where a number is left
counted-event : (n : ℕ) (answer : AnswerSeen) → is_event answer ≡ true → is_counted n answer ≡ not (n == last_number)
counted-event n answer e = cc (e)

counted-none : (n : ℕ) (answer : AnswerSeen) → is_event answer ≡ false → is_counted n answer ≡ false
counted-none n answer e = cc (e)

entered-counted : (start : Panel) (ask : AskSeen) (answer : AnswerSeen) (old new : AtDesk) (asks : AsksOnce start ask answer old new)
    → is_event answer ≡ true → Entered start asks.before old.seat (event ask answer asks.after) new.seat
    → IsCounted start ask answer old new
entered-counted start ask answer old new asks is t = record {
  before = t.before;
  entry = t.entry;
  seen = t.seen;
  mine = t.mine;
  ask_is = t.ask_is;
  answer_is = t.answer_is;
  counts = asks.counts ∙ ap (λ (b : Bool). old.amount + one_if b)
      (counted-event asks.before.events answer is
      ∙ ap (λ (n : ℕ). not (n == last_number)) (led start t.before asks.before t.leads));
}

events : (start : Panel) (ask : AskSeen) (answer : AnswerSeen) (old new : AtDesk)
    → AsksOnce start ask answer old new → is_event answer ≡ true → IsCounted start ask answer old new
events start ask answer old new asks is = entered-counted start ask answer old new asks is
    (subst (λ (b : Bool). SeatTold b start asks.before old.seat (event ask answer asks.after) new.seat) is asks.history.told)

others : (start : Panel) (ask : AskSeen) (answer : AnswerSeen) (old new : AtDesk)
    → AsksOnce start ask answer old new → is_event answer ≡ false → new.amount ≡ old.amount
others start ask answer old new asks is =
    asks.counts ∙ ap (λ (b : Bool). old.amount + one_if b) (counted-none asks.before.events answer is) ∙ omega arith

pub each-counted : EachEventIsCounted
each-counted = record { events = events; others = others }
