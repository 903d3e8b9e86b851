-- Which moves a scan may make, and what a failed one leaves.
use Rattle.std.specs.Prelude.{◌≡◌, ◌≤◌, ℕ, true, List, [], ◌∷◌, drop, map}
use Rattle.sw_base.specs.Limits.{most_slots}
use Rattle.sw_base.specs.Layout.{Layout, has_meter}
use Rattle.sw_trigger.specs.Agenda.{Item, Awaits, Close, Open}
use Rattle.sw_verify.specs.Channels.{Channels, with_each, without_each}
use Rattle.sw_verify.specs.Course.{CourseSeen}
use Rattle.sw_verify.specs.Sound.{CanCloseEach, CanOpenEach}
use Rattle.sw_cage.specs.Accounts.{Accounts}
use Rattle.sw_cage.specs.Change.{RelayFailed, identity}

-- the cage may open and close, one after the other, what these items open and close before the first that awaits
abbrev pub MayMove : Layout → Channels → List Item → Type 0
MayMove layout closed [] = Unit {0}
MayMove layout closed (Awaits what ∷ items) = Unit {0}
MayMove layout closed (Close p ∷ items) = CanCloseEach layout closed p × MayMove layout (with_each p closed) items
MayMove layout closed (Open p ∷ items) = CanOpenEach closed p × MayMove layout (without_each p closed) items

-- From item i of its course a scan may continue: its meter is there, and the cage may make the moves up to the next
-- item that awaits.
pub record MayGoOn (layout : Layout) (closed : Channels) (course : CourseSeen) (i : ℕ) : Type 0 where
  pub slot_in : (1 ≤ course.meter) × (course.meter ≤ most_slots)
  pub meter : has_meter layout course.meter ≡ true
  pub moves : MayMove layout closed (drop i course.items)

-- a call on a relay card failed: the cards are the same
pub record RelayCallFailed (old new : Accounts) : Type 0 where
  pub cards : map identity new ≡ map identity old
  pub failed : RelayFailed old new
