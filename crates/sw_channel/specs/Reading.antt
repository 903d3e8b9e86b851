-- What reading a text as a list may answer: of channels, or of positions.
use Rattle.std.specs.Prelude.{◌≡◌, ◌≤◌, ℕ, List, [], length, Result, Ok, Err, ◌⊎◌}
use Rattle.sw_base.specs.Layout.{Channel}
use Rattle.sw_base.specs.Limits.{most_entries}
use Rattle.sw_base.specs.declared.error.ScpiError.{ScpiError}
use Rattle.sw_base.specs.declared.error.ScpiError.TheVariants.{InvalidExpression, OutOfMemory}
use Rattle.sw_channel.specs.Grammar.{ListItem, IsList, PositionItem, IsPositionList}
use Rattle.sw_channel.specs.Meaning.{Names, Mean, judged, channels_judged}
use Rattle.sw_channel.specs.Positions.{Position}
use Rattle.sw_channel.specs.PositionMeaning.{NamePositions, positions_judged}

-- A kind of list: how it is written, what an item names, and what it adds to this many entries, or its refusal.
pub record ListKind (I V : Type 0) : Type 1 where
  pub Written : List ℕ → List I → Type 0
  pub NamesEach : I → List V → Type 0
  pub judge : ℕ → I → Result (List V) ScpiError

abbrev pub channel_list : ListKind ListItem Channel
channel_list = record { Written = IsList; NamesEach = Names; judge = channels_judged }

abbrev pub position_list : ListKind PositionItem Position
position_list = record { Written = IsPositionList; NamesEach = NamePositions; judge = positions_judged }

-- The text spells the entries.
abbrev pub SpellsAs : {I V : Type 0} → ListKind I V → List ℕ → List V → Type 0
SpellsAs {I} {V} kind text vs = (items : List I) × kind.Written text items × Mean kind.NamesEach items vs

-- the text is no such list
abbrev pub IsNoListOf : {I V : Type 0} → ListKind I V → List ℕ → Type 0
IsNoListOf {I} {V} kind text = (items : List I) → kind.Written text items → ⊥

-- The first refusal of the text: -171 for what is no list anywhere in it, else that of its first item that has one.
abbrev pub IsRefusedAs : {I V : Type 0} → ListKind I V → List ℕ → ScpiError → Type 0
IsRefusedAs {I} {V} kind text e = (IsNoListOf kind text × (e ≡ InvalidExpression))
    ⊎ ((items : List I) × kind.Written text items × (judged kind.judge [] items ≡ Err e))

-- The entries that the text spells, at most that many; or its first refusal; or lack of memory for such entries.
abbrev pub ReadsAs : {I V : Type 0} → ListKind I V → List ℕ → Result (List V) ScpiError → Type 0
ReadsAs kind text (Ok vs) = SpellsAs kind text vs × (length vs ≤ most_entries)
ReadsAs {I} {V} kind text (Err e) = IsRefusedAs kind text e
    ⊎ ((e ≡ OutOfMemory) × ((vs : List V) × SpellsAs kind text vs × (length vs ≤ most_entries)))

-- ---- channel lists

abbrev pub IsNoList : List ℕ → Type 0
IsNoList = IsNoListOf channel_list

abbrev pub IsRefusedList : List ℕ → ScpiError → Type 0
IsRefusedList = IsRefusedAs channel_list

abbrev pub Reads : List ℕ → Result (List Channel) ScpiError → Type 0
Reads = ReadsAs channel_list

-- ---- lists of positions

abbrev pub IsNoPositionList : List ℕ → Type 0
IsNoPositionList = IsNoListOf position_list

abbrev pub IsRefusedPositions : List ℕ → ScpiError → Type 0
IsRefusedPositions = IsRefusedAs position_list

abbrev pub ReadsPositions : List ℕ → Result (List Position) ScpiError → Type 0
ReadsPositions = ReadsAs position_list
