-- A scan as the cage sees it.
use Rattle.std.specs.Prelude.{drop}
use Rattle.sw_code.specs.Pace.{IsNear}
use Rattle.sw_verify.specs.Items.{items_of}
use Rattle.sw_verify.specs.Course.{CanRun}
use Rattle.sw_cage.specs.Cage.{ScanSeen}
use Rattle.sw_cage.specs.Steps.{Does}
use Rattle.sw_cage.specs.declared.scan.Scan.TheInside.{Inside}

abbrev pub scan_seen : Inside → ScanSeen
scan_seen s = record {
  course = record {
    items = items_of s.code.steps;
    meter = s.code.meter;
    sources = s.sources;
    points = s.points;
  };
  index = s.index;
}

-- from its place the code does the items from that index on; its place is at a step that does more than count
pub record IsPlaced (s : Inside) : Type 0 where
  pub runs : CanRun s.code
  pub does : Does s.code.steps s.at (drop s.index (items_of s.code.steps))
  pub near : IsNear s.code.steps 0 s.at.step
