-- What a unit is replaced by while macros are on (IEEE 488.2, 10.7 and 10.8; the bounds, their errors and the order of
-- faults are own).
use Rattle.std.specs.Prelude.{◌≡◌, ℕ, Bool, true, false, ◌||◌, ◌&&◌, is_some, nat_lt, nat_le, List, [], ◌∷◌, ◌++◌}
use Rattle.std.specs.Prelude.{length, Option, Some, None, Result, Ok, Err, ◌⊎◌, if◌then◌else◌}
use Rattle.std.specs.List.{list_any}
use Rattle.std.specs.Str.{bytes_eq}
use Rattle.std.specs.Result.{result_map_both}
use Rattle.sw_base.specs.Limits.{most_levels, most_bytes}
use Rattle.sw_base.specs.declared.error.ScpiError.{ScpiError}
use Rattle.sw_base.specs.declared.error.ScpiError.TheVariants.{MacroRecursionError}
use Rattle.sw_lex.specs.Unit.{Heading, common, path, UnitSeen, IsUnit, IsRefusedUnit, IsBlank, IsWritten}
use Rattle.sw_macro.specs.Label.{is_label, in_capitals}
use Rattle.sw_macro.specs.Table.{Macro, Table, body_of}
use Rattle.sw_macro.specs.Filling.{put_in}

-- ---- the macro that a unit calls

abbrev pub with_label : List ℕ → Option (List ℕ) → Option Macro
with_label label None = None
with_label label (Some body) = Some (label, body)

abbrev pub macro_at : List Macro → List ℕ → Option Macro
macro_at ms text = if is_label text then with_label (in_capitals text) (body_of (in_capitals text) ms) else None

abbrev pub named_by : List Macro → Heading → Option Macro
named_by ms (common name) = None
named_by ms (path true nodes) = None
named_by ms (path false nodes) = macro_at ms nodes

-- the macro with exactly the unit's header as its label, without a colon and without a question mark
abbrev pub called : List Macro → UnitSeen → Option Macro
called ms unit = if unit.query then None else named_by ms unit.header

-- the macro with this name, if there is one
abbrev pub named : List Macro → Option (List ℕ) → Option Macro
named ms None = None
named ms (Some text) = macro_at ms text

-- whether a unit is replaced: macros are on, and it calls one
abbrev pub calls : Table → UnitSeen → Bool
calls t unit = t.on && is_some (called t.macros unit)

-- ---- its body in the unit's place

abbrev pub is_one_of : List ℕ → List (List ℕ) → Bool
is_one_of label names = list_any (bytes_eq label) names

abbrev pub opened_found : List (List ℕ) → UnitSeen → ℕ → Option Macro → Result (Option Macro) ScpiError
opened_found names unit n None = Ok None
opened_found names unit n (Some m) =
    if is_one_of m.0 names || nat_le most_levels (length names) then Err MacroRecursionError
    else result_map_both (λ text. Some (m.0, text)) (λ e. e) (put_in unit.elements m.1 n)

-- The label and the filled body of the macro that a unit calls, or none where it calls none. The names are the labels
-- of the bodies that the unit is in, the outermost first; n bytes come before it. A label inside its own body and a
-- ninth level are refused first.
abbrev pub opened_macro : List Macro → List (List ℕ) → UnitSeen → ℕ → Result (Option Macro) ScpiError
opened_macro ms names unit n = opened_found names unit n (called ms unit)

-- ---- a filled body, unit by unit

-- a unit in its place: the bytes before it, itself as it is written, the bytes between it and the rest, and the rest
pub record Place : Type 0 where
  pub before : List ℕ
  pub unit : UnitSeen
  pub written : List ℕ
  pub between : List ℕ
  pub rest : List ℕ

-- the first unit of a text
pub record IsFirstUnit (text : List ℕ) (p : Place) : Type 0 where
  pub reads : IsUnit text p.unit p.rest
  pub left : List ℕ
  pub writes : IsWritten text p.before p.unit p.written left
  pub parts : left ≡ p.between ++ p.rest

abbrev pub HasNoUnit : List ℕ → Type 0
HasNoUnit text = IsBlank text ⊎ ((e : ScpiError) × IsRefusedUnit text e)

-- A text below these names, after what was written so far, gives what is written then, or the first fault.
pub data Becomes (ms : List Macro) : List (List ℕ) → List ℕ → List ℕ → Result (List ℕ) ScpiError → Type 0 where
  -- where no unit can be read, the text stays as it is
  ends : {names : List (List ℕ)} {text sofar : List ℕ}
      → HasNoUnit text
      → Becomes ms names text sofar (Ok (sofar ++ text))
  -- a unit that calls no macro stays as it is written
  keeps : {names : List (List ℕ)} {text sofar : List ℕ} {p : Place} {r : Result (List ℕ) ScpiError}
      → IsFirstUnit text p
      → opened_macro ms names p.unit (length (sofar ++ p.before)) ≡ Ok None
      → Becomes ms names p.rest (((sofar ++ p.before) ++ p.written) ++ p.between) r
      → Becomes ms names text sofar r
  -- a macro that can't be opened
  fails : {names : List (List ℕ)} {text sofar : List ℕ} {p : Place} {e : ScpiError}
      → IsFirstUnit text p
      → opened_macro ms names p.unit (length (sofar ++ p.before)) ≡ Err e
      → Becomes ms names text sofar (Err e)
  -- a fault within the body of a macro
  stops : {names : List (List ℕ)} {text sofar : List ℕ} {p : Place} {m : Macro} {e : ScpiError}
      → IsFirstUnit text p
      → opened_macro ms names p.unit (length (sofar ++ p.before)) ≡ Ok (Some m)
      → Becomes ms (names ++ m.0 ∷ []) m.1 (sofar ++ p.before) (Err e)
      → Becomes ms names text sofar (Err e)
  -- the expansion of the macro's body takes the unit's place
  goes : {names : List (List ℕ)} {text sofar done : List ℕ} {p : Place} {m : Macro} {r : Result (List ℕ) ScpiError}
      → IsFirstUnit text p
      → opened_macro ms names p.unit (length (sofar ++ p.before)) ≡ Ok (Some m)
      → Becomes ms (names ++ m.0 ∷ []) m.1 (sofar ++ p.before) (Ok done)
      → Becomes ms names p.rest (done ++ p.between) r
      → Becomes ms names text sofar r

-- what a unit that was opened so becomes after what was written so far, where it calls a macro
abbrev pub BecomesOpened : List Macro → List (List ℕ) → Result (Option Macro) ScpiError → List ℕ
    → Result (List ℕ) ScpiError → Type 0
BecomesOpened ms names (Err e) sofar r = r ≡ Err e
BecomesOpened ms names (Ok None) sofar r = ⊥
BecomesOpened ms names (Ok (Some m)) sofar r = Becomes ms (names ++ m.0 ∷ []) m.1 sofar r

-- a unit below these names that calls a macro becomes this
abbrev pub UnitBecomes : List Macro → List (List ℕ) → UnitSeen → List ℕ → Result (List ℕ) ScpiError → Type 0
UnitBecomes ms names unit sofar r = BecomesOpened ms names (opened_macro ms names unit (length sofar)) sofar r

-- none of the text's units calls a macro, in any table of macros
abbrev pub StaysAsItIs : List ℕ → Type 0
StaysAsItIs text =
    (ms : List Macro) (names : List (List ℕ)) (sofar : List ℕ) → Becomes ms names text sofar (Ok (sofar ++ text))

-- ---- the expansion of a unit

-- the finished text is judged once more
abbrev pub within_bound : Result (List ℕ) ScpiError → Result (List ℕ) ScpiError
within_bound (Err e) = Err e
within_bound (Ok text) = if nat_lt most_bytes (length text) then Err MacroRecursionError else Ok text

abbrev pub Replaces : List Macro → Result (Option Macro) ScpiError → List ℕ → Result (List ℕ) ScpiError → Type 0
Replaces ms (Err e) written r = r ≡ Err e
Replaces ms (Ok None) written r = r ≡ Ok written
Replaces ms (Ok (Some m)) written r =
    (text : Result (List ℕ) ScpiError) × Becomes ms (m.0 ∷ []) m.1 [] text × (r ≡ within_bound text)

-- while macros are off no unit calls one
abbrev pub opened_in : Table → UnitSeen → Result (Option Macro) ScpiError
opened_in t unit = if t.on then opened_macro t.macros [] unit 0 else Ok None

-- A unit that is written so gives this text, or this fault. A unit that calls no macro gives itself.
abbrev pub Expands : Table → UnitSeen → List ℕ → Result (List ℕ) ScpiError → Type 0
Expands t unit written r = Replaces t.macros (opened_in t unit) written r
