-- Why channels may not be closed now: the answer to DIAGnostic:CLOSe:CHECk? (own).
use Rattle.std.specs.Prelude.{ℕ, ◌==◌, Bool, not, ◌&&◌, List, [], ◌∷◌, ◌++◌, codes, Option, Some, None, if◌then◌else◌}
use Rattle.sw_base.specs.Layout.{Channel, Layout, is_present, group_of}
use Rattle.sw_channel.specs.Positions.{same_channel}
use Rattle.sw_channel.specs.Printing.{printed}
use Rattle.sw_cage.specs.Cage.{cage_layout}
use Rattle.sw_cage.specs.Channels.{closed_list}
use Rattle.sw_core.specs.Panel.{Panel, is_running}

-- the first of the channels that the cage lacks
abbrev pub first_absent : Layout → List Channel → Option Channel
first_absent layout [] = None
first_absent layout (c ∷ chans) = if is_present layout c then first_absent layout chans else Some c

-- two different channels are of one group
abbrev pub are_joined : Layout → Channel → Channel → Bool
are_joined layout c d =
    not (same_channel c d) && (not (group_of layout c == 0) && (group_of layout c == group_of layout d))

-- the first of these channels that is of one group with this one
abbrev pub joined_with : Layout → Channel → List Channel → Option Channel
joined_with layout c [] = None
joined_with layout c (d ∷ others) = if are_joined layout c d then Some d else joined_with layout c others

-- a channel with its other, where there is one; else the pair that the rest gives
abbrev pub pair_or : Channel → Option Channel → Option (Channel × Channel) → Option (Channel × Channel)
pair_or c None rest = rest
pair_or c (Some d) rest = Some (c, d)

-- Channels are closed one after another, where these are closed before: the first that would join another, and that.
abbrev pub first_joined : Layout → List Channel → List Channel → Option (Channel × Channel)
first_joined layout before [] = None
first_joined layout before (c ∷ chans) =
    pair_or c (joined_with layout c before) (first_joined layout (before ++ c ∷ []) chans)

-- words in double quotes, with channels behind them where there are any
abbrev pub listed : List Channel → List ℕ
listed [] = []
listed (c ∷ chans) = printed (c ∷ chans)

abbrev pub quoted : List ℕ → List Channel → List ℕ
quoted words chans = 34 ∷ (words ++ (listed chans ++ 34 ∷ []))

abbrev pub joined_text : Option (Channel × Channel) → List ℕ
joined_text None = quoted (codes "ok") []
joined_text (Some pair) = quoted (codes "of one group: ") (pair.0 ∷ pair.1 ∷ [])

abbrev pub absent_text : Option Channel → Option (Channel × Channel) → List ℕ
absent_text None joined = joined_text joined
absent_text (Some c) joined = quoted (codes "no such channel: ") (c ∷ [])

-- Why ROUTe:CLOSe of these channels would be refused now, the first cause alone; `ok` where it would not.
abbrev pub check_text : List Channel → Panel → List ℕ
check_text chans p =
    if is_running p then quoted (codes "a scan runs") []
    else absent_text (first_absent (cage_layout p.cage) chans)
    (first_joined (cage_layout p.cage) (closed_list p.cage.cards) chans)
