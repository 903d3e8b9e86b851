-- What the sources of layers keep.
use Rattle.std.specs.Prelude.{◌≡◌, length}
use Rattle.sw_verify.specs.Course.{layers}
use Rattle.sw_verify.specs.declared.sources.Sources.TheInside.{Inside}

-- one for each layer
abbrev pub HasLayers : Inside → Type 0
HasLayers s = length s.by_layer ≡ length layers
