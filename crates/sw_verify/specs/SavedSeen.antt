-- What contracts see of rows that were kept.
use Rattle.std.specs.Prelude.{Bool, false, List, ◌++◌, reverse, replicate}
use Rattle.sw_base.specs.Limits.{channel_places}
use Rattle.sw_verify.specs.declared.saved.SavedRows.TheInside.{Inside}

-- the newest first, and those with no flag last
abbrev pub saved_rows : Inside → List (List Bool)
saved_rows s = reverse s.kept.items ++ replicate s.clear (replicate channel_places false)
