-- The mainframe that is served.
use Rattle.std.specs.Prelude.{ℕ, List}
use Rattle.sw_cage.specs.Accounts.{Accounts}
use Rattle.sw_core.specs.Panel.{Panel}
use Rattle.sw_history.specs.Closing.{IsClosedDown}
use Rattle.sw_serve.specs.SlotCards.{PlacedCard, IsFitted}

-- a mainframe that was fitted with these cards is closed down: after this many events these come out, by slot
pub record ClosesDown (cards : List PlacedCard) (events : ℕ) (out : Accounts) : Type 0 where
  pub start : Panel
  pub fits : IsFitted cards start
  pub closes : IsClosedDown start events out
