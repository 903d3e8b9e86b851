-- The units of a message, from the front as far as it is read.
use Rattle.std.specs.Prelude.{ℕ, List, [], ◌∷◌}
use Rattle.sw_base.specs.declared.error.ScpiError.{ScpiError}
use Rattle.sw_lex.specs.Unit.{UnitSeen, IsUnit, IsRefusedUnit, IsBlank}

-- where the units end: at the end of the text, at the first byte that fits no form, or where the session reads no
-- further
pub data Ending : Type 0 where
  Complete : Ending
  EndsRefused : ScpiError → Ending
  EndsUnread : Ending

-- a text is these units, one after another, and then the ending
abbrev pub IsScript : List ℕ → List UnitSeen → Ending → Type 0
IsScript text [] Complete = IsBlank text
IsScript text [] (EndsRefused e) = IsRefusedUnit text e
IsScript text [] EndsUnread = Unit {0}
IsScript text (u ∷ us) ending = (rest : List ℕ) × IsUnit text u rest × IsScript rest us ending
