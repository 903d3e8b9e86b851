-- What holds of every cage.
use Rattle.std.specs.Prelude.{◌≡◌, ℕ, ◌≤◌, true, length, take, Option, Some, None, is_some}
use Rattle.sw_base.specs.Limits.{most_slots}
use Rattle.sw_base.specs.Layout.{Layout, slot_at, has_meter}
use Rattle.sw_trigger.specs.declared.layer.Awaited.{Awaited}
use Rattle.sw_trigger.specs.declared.layer.Awaited.TheVariants.{Wait, Period, Pause, Read}
use Rattle.sw_trigger.specs.Counts.{reads}
use Rattle.sw_verify.specs.Channels.{Channels}
use Rattle.sw_verify.specs.Course.{CourseSeen}
use Rattle.sw_verify.specs.Sound.{effect, IsSound}
use Rattle.sw_cage.specs.Accounts.{is_closed}
use Rattle.sw_cage.specs.Cage.{ScanSeen, CageSeen, cage_layout, ticket_of}
use Rattle.sw_cage.specs.Advance.{awaits}
use Rattle.sw_cage.specs.declared.job.Ticket.{Ticket}

-- A sound scan has done the items before this one: they lead from some channels that it found closed to these.
pub record HasDone (layout : Layout) (closed : Channels) (course : CourseSeen) (index : ℕ) : Type 0 where
  pub found : Channels
  pub sound : IsSound layout found course.points course.items
  pub so_far : closed ≡ effect found (take index course.items)

-- the scan's meter is out under the scan's present ticket where a reading is awaited, and else in its slot
abbrev pub MeterStands : Option Ticket → Ticket → Option Awaited → Type 0
MeterStands out ticket None = ⊥
MeterStands out ticket (Some (Wait name)) = out ≡ None
MeterStands out ticket (Some (Period name micros)) = out ≡ None
MeterStands out ticket (Some (Pause micros)) = out ≡ None
MeterStands out ticket (Some Read) = out ≡ Some ticket

-- A scan runs: it is sound for the cage's cards, its place is an item that awaits, and it has made the readings before
-- that.
pub record IsUnderway (p : CageSeen) (at : ScanSeen) : Type 0 where
  pub slot_in : (1 ≤ at.course.meter) × (at.course.meter ≤ most_slots)
  pub measured : has_meter (cage_layout p) at.course.meter ≡ true
  pub way : HasDone (cage_layout p) (is_closed p.cards) at.course at.index
  pub readings : length p.readings ≡ reads (take at.index at.course.items)
  pub meter : MeterStands (slot_at p.out at.course.meter) (ticket_of p.number at) (awaits at)

abbrev pub IsRunning : CageSeen → Option ScanSeen → Type 0
IsRunning p None = Unit {0}
IsRunning p (Some at) = IsUnderway p at

-- All slots; a slot whose meter is out is empty; and no ticket is of a scan to come.
pub record IsHeld (p : CageSeen) : Type 0 where
  pub slots : length p.cards ≡ most_slots
  pub outs : length p.out ≡ most_slots
  pub empty : (slot : ℕ) → is_some (slot_at p.out slot) ≡ true → slot_at p.cards slot ≡ None
  pub past : (slot : ℕ) (ticket : Ticket) → slot_at p.out slot ≡ Some ticket → ticket.scan ≤ p.number

-- what holds of every cage: a scan that runs is underway
pub record IsGood (p : CageSeen) : Type 0 where
  pub held : IsHeld p
  pub running : IsRunning p p.scan

-- there is room for every reading of the scan
abbrev pub HasRoom : Option ScanSeen → ℕ → Type 0
HasRoom None capacity = Unit {0}
HasRoom (Some at) capacity = reads at.course.items ≤ capacity

pub record IsGoodWithRoom (p : CageSeen) (capacity : ℕ) : Type 0 where
  pub good : IsGood p
  pub room : HasRoom p.scan capacity
