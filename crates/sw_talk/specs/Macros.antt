-- The macro commands: what each does to a session's macros, and what it answers (IEEE 488.2, 10.7 to 10.9, 10.13, 10.16
-- and 10.22).
use Rattle.std.specs.Prelude.{◌≡◌, ℕ, List, [], ◌∷◌, ◌++◌, map, Option, Some, None, Result, Ok, Err}
use Rattle.std.specs.List.{join_with_byte}
use Rattle.sw_base.specs.declared.error.ScpiError.{ScpiError}
use Rattle.sw_base.specs.declared.error.ScpiError.TheVariants.{OutOfMemory}
pub use Rattle.sw_lex.specs.Block.{block_of}
use Rattle.sw_lex.specs.declared.command.Command.{Command}
use Rattle.sw_lex.specs.declared.command.Command.TheVariants.{Macros, Macro}
use Rattle.sw_lex.specs.declared.command.AllMacros.TheVariants.{LabelsQuery, Purge, EnableQuery}
use Rattle.sw_lex.specs.declared.command.MacroCommand.TheVariants.{Define, BodyQuery, Remove, Enable}
use Rattle.sw_macro.specs.Label.{in_capitals}
use Rattle.sw_macro.specs.Table.{Table, labels, body_of, with_macro, without_macro, refusal_to_define, refusal_to_find}
use Rattle.sw_macro.specs.Table.{RefusedBy}
use Rattle.sw_core.specs.Answers.{yes_or_no}

-- the outcome of a command: its answer, if it has one, or its refusal
abbrev pub Told : Type 0
Told = Result (Option (List ℕ)) ScpiError

-- ---- the texts

-- a label in double quotes
abbrev pub quoted : List ℕ → List ℕ
quoted label = 34 ∷ (label ++ 34 ∷ [])

-- labels, each in double quotes, joined by commas
abbrev pub row_of : List (List ℕ) → List ℕ
row_of labels = join_with_byte 44 (map quoted labels)

-- an empty string for none
abbrev pub labels_text : List (List ℕ) → List ℕ
labels_text [] = quoted []
labels_text (l ∷ ls) = row_of (l ∷ ls)

-- ---- the outcome of a command

-- a text is answered, unless there is no memory for it
abbrev pub TellsMacroText : List ℕ → Told → Type 0
TellsMacroText text (Ok told) = told ≡ Some text
TellsMacroText text (Err e) = e ≡ OutOfMemory

-- *DMC: the macro is defined; or its first refusal, or want of memory, and the macros stay
abbrev pub DefinesMacro : List ℕ → List ℕ → Table → Told → Table → Type 0
DefinesMacro label body t (Ok text) t' = (refusal_to_define t label body ≡ None) × (text ≡ None)
    × (t' ≡ with_macro t label body)
DefinesMacro label body t (Err e) t' = RefusedBy (refusal_to_define t label body) e × (t' ≡ t)

-- *RMC: the macro is removed; or its refusal, and the macros stay
abbrev pub Removes : List ℕ → Table → Told → Table → Type 0
Removes label t (Ok text) t' = (refusal_to_find t label ≡ None) × (text ≡ None) × (t' ≡ without_macro t label)
Removes label t (Err e) t' = (refusal_to_find t label ≡ Some e) × (t' ≡ t)

-- *GMC?: the macro's body as a block; or its refusal, or want of memory
abbrev pub TellsBody : List ℕ → Table → Told → Type 0
TellsBody label t (Ok text) = (body : List ℕ) × (refusal_to_find t label ≡ None)
    × (body_of (in_capitals label) t.macros ≡ Some body) × (text ≡ Some (block_of body))
TellsBody label t (Err e) = RefusedBy (refusal_to_find t label) e

-- What a macro command does to the macros, and its outcome.
abbrev pub ActsOnMacros : Command → Table → Told → Table → Type 0
ActsOnMacros (Macro (Define macro)) t told t' = DefinesMacro macro.label macro.body t told t'
ActsOnMacros (Macro (BodyQuery label)) t told t' = TellsBody label t told × (t' ≡ t)
ActsOnMacros (Macro (Remove label)) t told t' = Removes label t told t'
ActsOnMacros (Macro (Enable on)) t told t' = (told ≡ Ok None) × (t' ≡ record t { on = on })
ActsOnMacros (Macros LabelsQuery) t told t' = TellsMacroText (labels_text (labels t.macros)) told × (t' ≡ t)
ActsOnMacros (Macros Purge) t told t' = (told ≡ Ok None) × (t' ≡ record t { macros = [] })
ActsOnMacros (Macros EnableQuery) t told t' = TellsMacroText (yes_or_no t.on) told × (t' ≡ t)
ActsOnMacros command t told t' = ⊥
