-- Which codes can be programs of a scan: they can be run wherever the cards allow it.
use Rattle.std.specs.Prelude.{◌≡◌, ◌<◌, ◌^◌, [], None, length}
use Rattle.sw_trigger.specs.Counts.{awaiting}
use Rattle.sw_code.specs.Range.{Program}
use Rattle.sw_code.specs.Pace.{most_counting, IsPaced}
use Rattle.sw_verify.specs.Nest.{fault_in}
use Rattle.sw_verify.specs.Items.{items_of}

-- The loops are nested, few steps only count between two items, something is awaited, and the items can be numbered.
pub record IsRunnable (code : Program) : Type 0 where
  pub nested : fault_in code.steps 0 [] ≡ None
  pub paced : IsPaced code.steps most_counting
  pub some : 0 < length (awaiting (items_of code.steps))
  pub few : length (items_of code.steps) < 2 ^ 64
