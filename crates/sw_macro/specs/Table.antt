-- The macros of a session (IEEE 488.2, 10.7 to 10.9, 10.13, 10.16 and 10.22, and *RMC; SCPI-1999, volume 2, 21.8.10
-- for the errors). The limits are own.
use Rattle.std.specs.Prelude.{◌≡◌, ◌≤◌, ℕ, Bool, true, false, not, nat_lt, nat_le, ◌++◌, List, [], ◌∷◌, length, map}
use Rattle.std.specs.Prelude.{Option, Some, None, is_some, if◌then◌else◌}
use Rattle.std.specs.List.{AllByRecursion, IsDistinct}
use Rattle.std.specs.Str.{bytes_eq}
use Rattle.sw_base.specs.declared.error.ScpiError.{ScpiError}
use Rattle.sw_base.specs.declared.error.ScpiError.TheVariants.{IllegalMacroLabel, MacroDefinitionTooLong}
use Rattle.sw_base.specs.declared.error.ScpiError.TheVariants.{MacroRedefinitionNotAllowed, MacroHeaderNotFound}
use Rattle.sw_base.specs.declared.error.ScpiError.TheVariants.{TooMuchData, OutOfMemory}
use Rattle.sw_base.specs.Limits.{most_macros, longest_body}
use Rattle.sw_macro.specs.Label.{is_label, in_capitals}

-- a label in capitals, and its body
abbrev pub Macro : Type 0
Macro = List ℕ × List ℕ

-- the macros in order of definition, and whether they are on
pub record Table : Type 0 where
  pub macros : List Macro
  pub on : Bool

-- no macro, and macros off
abbrev pub no_macros : Table
no_macros = record { macros = []; on = false }

-- the body of the macro with this label, which is in capitals
abbrev pub body_of : List ℕ → List Macro → Option (List ℕ)
body_of label [] = None
body_of label (m ∷ ms) = if bytes_eq label m.0 then Some m.1 else body_of label ms

-- the macros but for the one with this label
abbrev pub without_label : List ℕ → List Macro → List Macro
without_label label [] = []
without_label label (m ∷ ms) = if bytes_eq label m.0 then ms else m ∷ without_label label ms

-- what holds of every macro: its label is one, in capitals, and its body isn't too long
pub record IsMacro (m : Macro) : Type 0 where
  pub label : is_label m.0 ≡ true
  pub capitals : in_capitals m.0 ≡ m.0
  pub body : length m.1 ≤ longest_body

abbrev pub same_label : Macro → Macro → Bool
same_label m k = bytes_eq m.0 k.0

-- what holds of the macros of every session: none has the label of a later one, and there aren't too many
pub record IsTable (ms : List Macro) : Type 0 where
  pub distinct : IsDistinct same_label ms
  pub each : AllByRecursion IsMacro ms
  pub few : length ms ≤ most_macros

abbrev pub labels : List Macro → List (List ℕ)
labels ms = map (λ m. m.0) ms

-- the table after a definition that is taken
abbrev pub with_macro : Table → List ℕ → List ℕ → Table
with_macro t label body = record { macros = t.macros ++ (in_capitals label, body) ∷ []; on = t.on }

abbrev pub without_macro : Table → List ℕ → Table
without_macro t label = record { macros = without_label (in_capitals label) t.macros; on = t.on }

-- the first of the refusals of a definition that applies, memory aside
abbrev pub refusal_to_define : Table → List ℕ → List ℕ → Option ScpiError
refusal_to_define t label body =
    if not (is_label label) then Some IllegalMacroLabel
    else (if nat_lt longest_body (length body) then Some MacroDefinitionTooLong
    else (if is_some (body_of (in_capitals label) t.macros) then Some MacroRedefinitionNotAllowed
    else (if nat_le most_macros (length t.macros) then Some TooMuchData
    else None)))

-- the refusal of a label that should name a macro
abbrev pub refusal_to_find : Table → List ℕ → Option ScpiError
refusal_to_find t label =
    if not (is_label label) then Some IllegalMacroLabel
    else (if is_some (body_of (in_capitals label) t.macros) then None
    else Some MacroHeaderNotFound)

-- the refusal that applies, or a lack of memory where none does
abbrev pub RefusedBy : Option ScpiError → ScpiError → Type 0
RefusedBy (Some r) e = e ≡ r
RefusedBy None e = e ≡ OutOfMemory
