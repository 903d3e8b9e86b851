-- A scan's place in its code, and what the scan does there.
use Rattle.std.specs.Prelude.{◌≡◌, ℕ, List, [], ◌∷◌, Option, Some, None, slice_index_or}
use Rattle.sw_trigger.specs.Agenda.{Item, Awaits, Close, Open}
use Rattle.sw_code.specs.declared.code.Step.{Step}
use Rattle.sw_code.specs.Code.{Counters, exec}
use Rattle.sw_cage.specs.declared.scan.steps.ScanPlace.{ScanPlace}
use Rattle.sw_cage.specs.declared.scan.steps.Move.{Move}
use Rattle.sw_cage.specs.declared.scan.steps.Move.TheVariants as move

abbrev pub counters_of : List ℕ → Counters
counters_of counters = λ k. slice_index_or counters k 0

-- from the place on the code does these items, and then halts
pub record Does (code : List Step) (place : ScanPlace) (items : List Item) : Type 0 where
  pub steps : ℕ
  pub run : exec code steps place.step (counters_of place.counters) ≡ Some items

-- what these items open or close first; nothing where the first awaits, or there is none
abbrev pub next_move : List Item → Option Move
next_move [] = None
next_move (Awaits what ∷ items) = None
next_move (Close p ∷ items) = Some (move.Close p)
next_move (Open p ∷ items) = Some (move.Open p)

abbrev pub move_item : Move → Item
move_item (move.Open p) = Open p
move_item (move.Close p) = Close p
