-- Rows of flags that show at once which channels of a list are there, and which groups.
use Rattle.std.specs.Prelude.{◌≡◌, ℕ, ◌+◌, ◌*◌, ◌<◌, Bool, false, ◌==◌, List, slice_index_or}
use Rattle.std.specs.List.{list_any}
use Rattle.sw_base.specs.Layout.{Channel, Layout, group_of}
use Rattle.sw_code.specs.Range.{IsInChannelRange}
use Rattle.sw_verify.specs.Channels.{same_channel}

abbrev pub place : Channel → ℕ
place c = c.0 * 100 + c.1

-- the flag of each key says whether a channel of the list passes the key's test
abbrev pub Marks : {K : Type 0} → (K → ℕ) → (K → Type 0) → (K → Channel → Bool) → List Channel → List Bool → Type 0
Marks index Within test list marks = (k : _) → Within k → slice_index_or marks (index k) false ≡ list_any (test k) list

abbrev pub ChannelMarks : List Channel → List Bool → Type 0
ChannelMarks list marks = Marks place IsInChannelRange same_channel list marks

abbrev pub in_group : Layout → ℕ → Channel → Bool
in_group layout group x = group_of layout x == group

abbrev pub GroupMarks : Layout → List Channel → List Bool → Type 0
GroupMarks layout list marks = Marks (λ g. g) (λ g. g < 256) (in_group layout) list marks
