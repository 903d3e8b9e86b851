-- What opens every relay, whichever session has a lock.
use Rattle.std.specs.Prelude.{◌≡◌, ◌≢◌, ◌⊎◌, ℕ, ◌+◌, ◌*◌, ◌≤◌, true, false, List, [], ◌∷◌, ◌++◌, length, is_some}
use Rattle.std.specs.Prelude.{zero, suc, None, Some}
use Rattle.sw_base.specs.Limits.{most_slots}
use Rattle.sw_base.specs.Layout.{Channel, slot_at}
use Rattle.sw_card.specs.Account.{Account, is_meter}
use Rattle.sw_cage.specs.Accounts.{Accounts, is_closed, all_open}
use Rattle.sw_core.specs.Event.{last_number}
use Rattle.sw_core.specs.Panel.{Panel}
use Rattle.sw_core.specs.Seen.{AskSeen, AskInstall, AskEject}
use Rattle.sw_history.specs.Entries.{HistoryEntry}
use Rattle.sw_history.specs.Held.{AtDesk}
use Rattle.sw_history.specs.History.{IsHistory}

-- each relay card has a channel: one that has none is installed in no slot
abbrev pub HaveChannels : Accounts → Type 0
HaveChannels rack = (slot : ℕ) (card : Account)
    → slot_at rack slot ≡ Some card → is_meter card ≡ false → 1 ≤ length card.groups

-- What opening one slot does: the slot has nothing closed, and nothing is closed that was not; the cards are as they
-- were but for what is closed; and a scan has ended, unless the slot has no card and the cage is as it was.
pub record Reopens (p : Panel) (slot : ℕ) (q : Panel) : Type 0 where
  pub closed : (c : Channel) → is_closed q.cage.cards c ≡ true → (is_closed p.cage.cards c ≡ true) × (c.0 ≢ slot)
  pub events : q.events ≤ p.events + 2
  pub back : p.events + 2 ≤ last_number → HaveChannels p.cage.cards → all_open q.cage.cards ≡ all_open p.cage.cards
  pub idle : (q.cage.scan ≡ None) ⊎ ((slot_at p.cage.cards slot ≡ None) × (q.cage ≡ p.cage))

-- Every relay of every slot is open. A scan that ran has ended, where the cage held a card. And each card is in its
-- slot as it was, but with nothing closed: a card comes out and goes back by two events, which have to have numbers.
pub record IsOpened (p q : Panel) : Type 0 where
  pub none : (c : Channel) → is_closed q.cage.cards c ≡ false
  pub idle : (slot : ℕ) → is_some (slot_at p.cage.cards slot) ≡ true → q.cage.scan ≡ None
  pub back : p.events + 2 * most_slots ≤ last_number → HaveChannels p.cage.cards
      → all_open q.cage.cards ≡ all_open p.cage.cards

-- the slots whose cards these entries ask out, in their order
abbrev pub out_by : AskSeen → List ℕ
out_by (AskEject slot) = slot ∷ []
out_by ask = []

abbrev pub slots_out : List HistoryEntry → List ℕ
slots_out [] = []
slots_out (e ∷ entries) = out_by e.ask ++ slots_out entries

-- the slots 1 to n
abbrev pub first_slots : ℕ → List ℕ
first_slots zero = []
first_slots (suc n) = first_slots n ++ (n + 1) ∷ []

-- a card comes out or goes in
abbrev pub IsOfCard : AskSeen → Type 0
IsOfCard (AskEject slot) = Unit {0}
IsOfCard (AskInstall slot card) = Unit {0}
IsOfCard ask = ⊥

abbrev pub AreOfCards : List HistoryEntry → Type 0
AreOfCards [] = Unit {0}
AreOfCards (e ∷ entries) = IsOfCard e.ask × AreOfCards entries

-- These entries lead from p to q. They ask the cards of slots 1 to `slots` out in turn, and ask nothing else but that
-- cards go in.
pub record AddsSlots (p : Panel) (entries : List HistoryEntry) (slots : ℕ) (q : Panel) : Type 0 where
  pub leads : IsHistory p entries q
  pub out : slots_out entries ≡ first_slots slots
  pub cards : AreOfCards entries

-- the history grew by these entries, which are of one slot
pub record AddsSlot (p : Panel) (old : List HistoryEntry) (slot : ℕ) (q : Panel) (new : List HistoryEntry)
    : Type 0 where
  pub entries : List HistoryEntry
  pub grown : new ≡ old ++ entries
  pub leads : IsHistory p entries q
  pub out : slots_out entries ≡ slot ∷ []
  pub cards : AreOfCards entries

-- The history that a desk has now seen leads to a panel where all is open, from the panel that was behind the lock.
pub record OpensAll (start : Panel) (new : AtDesk) : Type 0 where
  pub before : Panel
  pub after : Panel
  pub history : IsHistory start new.seat.seen after
  pub opened : IsOpened before after
