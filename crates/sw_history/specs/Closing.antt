-- The end of a mainframe.
use Rattle.std.specs.Prelude.{◌≡◌, ℕ, Bool, true, false, List, [], ◌∷◌, ◌++◌}
use Rattle.sw_base.specs.Limits.{most_slots}
use Rattle.sw_card.specs.Account.{Account, closed_at}
use Rattle.sw_cage.specs.Accounts.{Accounts, all_open}
use Rattle.sw_core.specs.Opening.{IsFresh, IsReached}
use Rattle.sw_core.specs.Panel.{Panel}
use Rattle.sw_core.specs.Run.{IsAtRest}
use Rattle.sw_core.specs.Seen.{AskSeen, AskSession}
use Rattle.sw_history.specs.Entries.{HistoryEntry}
use Rattle.sw_history.specs.History.{IsEntry, IsHistory}
use Rattle.sw_history.specs.Opened.{IsOpened, AddsSlots}

-- no channel of the card is closed
abbrev pub IsOpen : Account → Type 0
IsOpen card = (ch : ℕ) → closed_at card.closed ch ≡ false

-- what no session asks: a card goes in or comes out, an external trigger comes, a pause ends, a meter returns
abbrev pub is_unasked : AskSeen → Bool
is_unasked (AskSession ask) = false
is_unasked ask = true

-- These entries lead from p to q, and no session asked any of them. At p, at q and between no scan runs, and no relay
-- is closed.
abbrev pub StaysAtRest : Panel → List HistoryEntry → Panel → Type 0
StaysAtRest p [] q = (q ≡ p) × IsAtRest p
StaysAtRest p (e ∷ entries) q =
    IsAtRest p × (is_unasked e.ask ≡ true) × (next : Panel) × IsEntry p e next × StaysAtRest next entries q

-- The history has an abort: the card of slot after slot came out and went back, and every relay was open. From then on
-- no session asked anything, no scan ran and no relay was closed.
pub record EndsAtRest (start : Panel) (history : List HistoryEntry) (panel : Panel) : Type 0 where
  pub before : List HistoryEntry
  pub abort : List HistoryEntry
  pub behind : List HistoryEntry
  pub whole : history ≡ before ++ (abort ++ behind)
  pub past : Panel
  pub opened : Panel
  pub leads : IsHistory start before past
  pub aborts : AddsSlots past abort most_slots opened
  pub opens : IsOpened past opened
  pub rests : StaysAtRest opened behind panel

-- A mainframe that opened so, which was fresh, is closed down. Its history has led to a panel, which is reached, after
-- this many events in all. It ends at rest behind an abort. These cards come out, by slot: each that was in its slot
-- then, with every relay open. An empty slot gives none, and so does the slot of a card that is out at a measurement:
-- in a mainframe that is reached that slot is empty (IsHeld).
pub record IsClosedDown (start : Panel) (events : ℕ) (cards : Accounts) : Type 0 where
  pub panel : Panel
  pub history : List HistoryEntry
  pub leads : IsHistory start history panel
  pub rests : EndsAtRest start history panel
  pub fresh : IsFresh start
  pub reached : IsReached panel
  pub count : events ≡ panel.events
  pub by_slot : cards ≡ all_open panel.cage.cards
