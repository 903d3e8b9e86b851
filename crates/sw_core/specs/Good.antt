-- What holds of every mainframe, after any asks.
use Rattle.std.specs.Prelude.{◌≡◌, ℕ, ◌≤◌, Bool, false, length, Option, None, Some, IfSome}
use Rattle.sw_base.specs.Limits.{most_channels}
use Rattle.sw_base.specs.Layout.{slot_at}
use Rattle.sw_card.specs.Account.{Account, is_meter}
use Rattle.sw_trigger.specs.Settings.{IsInRange}
use Rattle.sw_verify.specs.Setup.{course_of}
use Rattle.sw_status.specs.StatusModel.{IsStatus}
use Rattle.sw_cage.specs.Accounts.{Accounts}
use Rattle.sw_cage.specs.Good.{IsGood}
use Rattle.sw_core.specs.Sessions.{AreSeated}
use Rattle.sw_core.specs.Event.{scan_bits}
use Rattle.sw_core.specs.Panel.{Panel, opening_at, IsSafe}
use Rattle.sw_core.specs.Seen.{AskSeen, AnswerSeen}
use Rattle.sw_core.specs.Step.{Step}

-- a relay card has no more channels than a card may have
abbrev pub OptionFew : Option Account → Type 0
OptionFew None = Unit {0}
OptionFew (Some card) = is_meter card ≡ false → length card.groups ≤ most_channels

abbrev pub IsFew : Accounts → Type 0
IsFew cards = (slot : ℕ) → OptionFew (slot_at cards slot)

-- what holds at the end of each event
pub record IsGoodPanel (p : Panel) : Type 0 where
  -- only relays of the cage are closed, and no two closed ones are of one group
  pub safe : IsSafe p
  -- a scan that runs has done a prefix of its items, which are sound for the cage's cards and what it found closed,
  -- with as many readings as that prefix reads, and its meter is out exactly at a reading
  pub good : IsGood p.cage
  -- no relay card has more channels than a card may have
  pub few : IsFew p.cage.cards
  -- the settings are within their limits
  pub range : IsInRange p.settings.scan
  -- a scan that runs follows the settings: its items are their agenda
  pub settings : IfSome p.cage.scan (λ at. at.course ≡ course_of p.settings)
  -- the status is within its limits: the queue holds 32 errors at most
  pub status : IsStatus p.status
  -- the locks are in order, and each session that holds one is joined
  pub sessions : AreSeated p.sessions
  -- OPERation's condition shows what the scan awaits, nothing where none runs
  pub condition : p.status.operation.condition ≡ scan_bits p.cage.scan

-- A mainframe begins good. One that is good before an ask is good after it. So a function that borrows a mainframe
-- knows it good without knowing the asks before.
pub record StaysGood : Type 0 where
  pub opening : (events scans : ℕ) → IsGoodPanel (opening_at events scans)
  pub step : (p q : Panel) (ask : AskSeen) (failed : Bool) (answer : AnswerSeen)
      → IsGoodPanel p → Step p ask failed answer q → IsGoodPanel q
