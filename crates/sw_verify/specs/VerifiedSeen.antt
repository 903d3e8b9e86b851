-- Verified code as callers see it.
use Rattle.sw_verify.specs.Judged.{Judged, HasCounts}
use Rattle.sw_verify.specs.declared.verified.Verified.TheInside.{Inside}

abbrev pub judged_of : Inside → Judged
judged_of v = record { code = v.code; bound = v.bound; readings = v.readings }

abbrev pub HoldsCounts : Inside → Type 0
HoldsCounts v = HasCounts (judged_of v)
