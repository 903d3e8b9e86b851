-- Sets of channels, each a test.
use Rattle.std.specs.Prelude.{Bool, false, ◌&&◌, ◌||◌, not, List, [], ◌∷◌}
use Rattle.sw_base.specs.Layout.{Channel}
pub use Rattle.sw_channel.specs.Positions.{same_channel, is_among}

abbrev pub Channels : Type 0
Channels = Channel → Bool

abbrev pub none : Channels
none x = false

abbrev pub with_channel : Channel → Channels → Channels
with_channel c b = λ x. same_channel c x || b x

abbrev pub without : Channel → Channels → Channels
without c b = λ x. not (same_channel c x) && b x

-- with the channels of a position, and without them, one after the other
abbrev pub with_each : List Channel → Channels → Channels
with_each [] b = b
with_each (c ∷ p) b = with_each p (with_channel c b)

abbrev pub without_each : List Channel → Channels → Channels
without_each [] b = b
without_each (c ∷ p) b = without_each p (without c b)
