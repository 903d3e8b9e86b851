-- What is behind the lock, and what a desk has of it.
use Rattle.std.specs.Prelude.{ℕ, Bool, true, false, List, [], ◌∷◌, ◌++◌, map, Option, None, Some}
use Rattle.circular_buffer.specs.Buffer.{keep_last}
use Rattle.sw_cage.specs.Cards.{Cards}
use Rattle.sw_core.specs.Panel.{Panel}
use Rattle.sw_history.specs.declared.note.Note.{Note}
use Rattle.sw_history.specs.Board.{Known}
use Rattle.sw_history.specs.Entries.{HistoryEntry}
use Rattle.sw_history.specs.Kinds.{ask_kind}

-- what is behind the lock: the mainframe's panel and its cards by slot, how many desks there are, all events, and the
-- turn
pub record Locked (C : Type 0) : Type 0 where
  pub panel : Panel
  pub cards : Cards C
  pub given : ℕ
  pub history : List HistoryEntry
  pub turn : ℕ

-- how many events have a note
abbrev pub most_notes : ℕ
most_notes = 64

-- the note of an event, and the notes of the last ones, the oldest first
abbrev pub note_of : HistoryEntry → Note
note_of e = record { number = e.number; ask = ask_kind e.ask }

abbrev pub notes_of : List HistoryEntry → List Note
notes_of entries = keep_last most_notes (map note_of entries)

-- the notes after an event, or after what is none
abbrev pub noted : Bool → List Note → Note → List Note
noted true notes note = keep_last most_notes (notes ++ note ∷ [])
noted false notes note = notes

-- it is a desk's
abbrev pub is_desk : Option ℕ → Bool
is_desk None = false
is_desk (Some desk) = true

-- what a desk's share counts, and what its seat knows
pub record AtDesk : Type 0 where
  pub amount : ℕ
  pub seat : Known
