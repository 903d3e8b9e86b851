use Rattle.std.proofs.Common.{◌≡◌, length}
use Rattle.sw_code.specs.Reading.{parts_at, joined_in}
use Rattle.sw_code.proofs.parts.all_joined.Given as goal

abbrev pub invariant-channels : goal.invariant-channels
invariant-channels l = joined_in l.version l.joined (parts_at 38 l.rest) ≡ joined_in l.version l.fn.position (parts_at 38 l.text)

abbrev pub decreases-channels : goal.decreases-channels
decreases-channels l = length l.rest
