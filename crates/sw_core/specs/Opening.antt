-- Runs that begin at a mainframe just made and fitted with cards, and the states that they lead to.
use Rattle.std.specs.Prelude.{◌≡◌, ℕ, Bool, true, false, List, [], ◌∷◌, ◌++◌}
use Rattle.std.specs.List.{AllByRecursion}
use Rattle.sw_verify.specs.declared.snapshot.Snapshot.{Snapshot}
use Rattle.sw_core.specs.Panel.{Panel, opening_at}
use Rattle.sw_core.specs.Seen.{AskSeen, AskInstall}
use Rattle.sw_core.specs.Good.{IsGoodPanel}
use Rattle.sw_core.specs.Run.{Event, IsNextEvent, IsRun, AtEach, IsGoodEvent}
use Rattle.sw_core.specs.Ends.{last_of, BeginsScan, ScanEnds}

-- the ask offers a card to a slot
abbrev pub is_install : AskSeen → Bool
is_install (AskInstall slot card) = true
is_install ask = false

-- A run from an opening state, with any first numbers of events and scans, leads to this state.
pub record IsReached (p : Panel) : Type 0 where
  pub numbered : ℕ
  pub scanned : ℕ
  pub events : List Event
  pub run : IsRun (opening_at numbered scanned) events
  pub there : p ≡ last_of (opening_at numbered scanned) events

-- A mainframe just made, whose only asks were installs of cards: it took or refused each.
pub record IsFresh (p : Panel) : Type 0 where
  pub numbered : ℕ
  pub scanned : ℕ
  pub installs : List Event
  pub only : AllByRecursion (λ e. is_install e.ask ≡ true) installs
  pub run : IsRun (opening_at numbered scanned) installs
  pub there : p ≡ last_of (opening_at numbered scanned) installs

-- What the maker of a mainframe, its fitting with cards and each ask promise the next caller: a run leads to the state.
-- So the laws over runs from the opening state hold of each run from such a state.
pub record RunsGoOn : Type 0 where
  -- it is fresh as it is made, and after each install of a card then
  pub made : (events scans : ℕ) → IsFresh (opening_at events scans)
  pub installed : (p : Panel) (e : Event) → IsFresh p → is_install e.ask ≡ true → IsNextEvent p e → IsFresh e.panel
  -- a fresh one is reached, and so is each state that an event or a run leads to from there
  pub fresh : (p : Panel) → IsFresh p → IsReached p
  pub next : (p : Panel) (e : Event) → IsReached p → IsNextEvent p e → IsReached e.panel
  pub on : (p : Panel) (events : List Event) → IsReached p → IsRun p events → IsReached (last_of p events)
  -- a reached state is good, and so is each event of a run from there
  pub good : (p : Panel) → IsReached p → IsGoodPanel p
  pub events : (p : Panel) (events : List Event) → IsReached p → IsRun p events → AtEach IsGoodEvent p events
  -- a scan that begins in such a run does what its plan says, and ends
  pub scans : (p : Panel) (before : List Event) (start : Event) (plan : Snapshot) → IsReached p
      → IsRun p (before ++ start ∷ []) → BeginsScan plan start → ScanEnds plan start
