-- From one item that a scan awaits to the next.
use Rattle.std.specs.Prelude.{ℕ, ◌+◌, List, [], ◌∷◌, length, drop, Option, Some, None}
use Rattle.sw_trigger.specs.declared.layer.Awaited.{Awaited}
use Rattle.sw_trigger.specs.Agenda.{Item, Awaits, Close, Open}
use Rattle.sw_verify.specs.Course.{CourseSeen}
use Rattle.sw_cage.specs.Cage.{ScanSeen}

-- the closings and openings before the next awaiting item
abbrev pub leading_moves : List Item → List Item
leading_moves [] = []
leading_moves (Awaits what ∷ items) = []
leading_moves (Close c ∷ items) = Close c ∷ leading_moves items
leading_moves (Open c ∷ items) = Open c ∷ leading_moves items

-- what the first item awaits, if it awaits
abbrev pub first_awaited : List Item → Option Awaited
first_awaited [] = None
first_awaited (Awaits what ∷ items) = Some what
first_awaited (Close c ∷ items) = None
first_awaited (Open c ∷ items) = None

-- what is done from item i on, before the next awaiting item
abbrev pub moves_from : CourseSeen → ℕ → List Item
moves_from course i = leading_moves (drop i course.items)

-- the first awaiting item from item i on, or the end
abbrev pub next_place : CourseSeen → ℕ → ScanSeen
next_place course i = record { course = course; index = i + length (moves_from course i) }

-- what a scan awaits; nothing, where it is over
abbrev pub awaits : ScanSeen → Option Awaited
awaits at = first_awaited (drop at.index at.course.items)
