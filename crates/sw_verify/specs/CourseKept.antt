-- What a course keeps.
use Rattle.std.specs.Prelude.{◌≤◌}
use Rattle.sw_base.specs.Limits.{most_points}
use Rattle.sw_trigger.specs.Counts.{reads}
use Rattle.sw_verify.specs.Items.{items_of}
use Rattle.sw_verify.specs.Course.{CourseSeen, CanRun}
use Rattle.sw_verify.specs.declared.course.Course.TheInside.{Inside}

abbrev pub course_seen : Inside → CourseSeen
course_seen c = record {
  items = items_of c.verified.code.steps;
  meter = c.verified.code.meter;
  sources = c.sources;
  points = c.points;
}

-- its code can run, and there is room for its readings
pub record IsCourse (c : Inside) : Type 0 where
  pub runs : CanRun c.verified.code
  pub fits : reads (items_of c.verified.code.steps) ≤ c.points
  pub room : c.points ≤ most_points
