-- From a unit to its command (SCPI-1999, volume 1, 6.2.4 for paths; 21.8.9 for refusals).
use Rattle.std.specs.Prelude.{◌≡◌, ℕ, ◌-◌, Bool, true, false, List, [], ◌∷◌, ◌++◌, length, map, take, Result, Ok}
use Rattle.std.specs.Prelude.{Err, ◌⊎◌}
use Rattle.std.specs.Char.{to_ascii_uppercase}
use Rattle.std.specs.Result.{result_map_both}
use Rattle.sw_base.specs.declared.error.ScpiError.{ScpiError}
use Rattle.sw_base.specs.declared.error.ScpiError.TheVariants.{DataTypeError, ParameterNotAllowed, MissingParameter}
use Rattle.sw_base.specs.declared.error.ScpiError.TheVariants.{UndefinedHeader, HeaderSuffixOutOfRange}
use Rattle.sw_base.specs.Number.{Written}
use Rattle.sw_channel.specs.Reading.{Reads, ReadsPositions}
use Rattle.sw_lex.specs.declared.command.Command.{Command}
use Rattle.sw_lex.specs.declared.command.Command.TheVariants as commands
use Rattle.sw_lex.specs.declared.command.MacroCommand.TheVariants as macros
use Rattle.sw_lex.specs.declared.command.PlainQuery.TheVariants as queries
use Rattle.sw_lex.specs.declared.command.Setting.TheVariants as settings
use Rattle.sw_lex.specs.declared.table.HeaderMeaning.{HeaderMeaning}
use Rattle.sw_lex.specs.declared.table.HeaderMeaning.TheVariants as keys
use Rattle.sw_lex.specs.declared.table.Switch.{Switch}
use Rattle.sw_lex.specs.declared.path.Path.{Path}
use Rattle.sw_lex.specs.Unit.{Heading, common, path, Datum, number, character, string, block, expression, UnitSeen}
use Rattle.sw_lex.specs.Commands.{layer_numbered}
use Rattle.sw_lex.specs.Values.{on_ok, ReadsQuantity, ReadsString, ReadsBlock, whole_of, switched_by, macros_of}
use Rattle.sw_lex.specs.Values.{time_of, source_meant, switch_meant, unnumbered}
use Rattle.sw_lex.specs.Split.{nodes_of}
use Rattle.sw_lex.specs.Packed.{word_of}
use Rattle.sw_code.specs.Range.{Program}
use Rattle.sw_lex.specs.Programs.{ReadsProgram}
use Rattle.sw_lex.specs.Found.{IsFound}
use Rattle.sw_lex.specs.Table.{entries}

-- ---- where a header is looked up

abbrev pub Nodes : Type 0
Nodes = List (List ℕ)

-- case doesn't matter
abbrev pub capitals : Nodes → Nodes
capitals ws = map (λ w. map to_ascii_uppercase w) ws

-- the nodes below which a unit without a leading colon is looked up, in capitals
abbrev pub path_of : Path → Nodes
path_of p = map word_of (take p.nodes.count p.nodes.kept)

-- A header with a leading colon, and a common one, are looked up from the root, any other below the path.
abbrev pub looked_up : Heading → Nodes → Nodes
looked_up (common name) below = name ∷ []
looked_up (path true nodes) below = nodes_of nodes
looked_up (path false nodes) below = below ++ nodes_of nodes

abbrev pub all_but_last : Nodes → Nodes
all_but_last ws = take (length ws - 1) ws

-- After a header that was found the path is its nodes as looked up, but for the last, in capitals. A common header
-- leaves the path.
abbrev pub path_after : Heading → Nodes → Nodes
path_after (common name) below = below
path_after (path leading nodes) below = capitals (all_but_last (looked_up (path leading nodes) below))

-- ---- what a command takes

-- no data
abbrev pub WithNone : Command → List Datum → Result Command ScpiError → Type 0
WithNone command [] r = r ≡ Ok command
WithNone command (d ∷ ds) r = r ≡ Err ParameterNotAllowed

-- one list, of channels or of positions: too few elements are refused first, then too many, then another kind, then
-- what the list refuses
abbrev pub WithList : {V : Type 0} → (List ℕ → Result (List V) ScpiError → Type 0) → List Datum
    → Result (List V) ScpiError → Type 0
WithList ReadsList [] r = r ≡ Err MissingParameter
WithList ReadsList (number t ∷ []) r = r ≡ Err DataTypeError
WithList ReadsList (character t ∷ []) r = r ≡ Err DataTypeError
WithList ReadsList (string t ∷ []) r = r ≡ Err DataTypeError
WithList ReadsList (block t ∷ []) r = r ≡ Err DataTypeError
WithList ReadsList (expression t ∷ []) r = ReadsList t r
WithList ReadsList (d ∷ c ∷ ds) r = r ≡ Err ParameterNotAllowed

-- one block
abbrev pub WithBlock : {V : Type 0} → (List ℕ → Result V ScpiError → Type 0) → List Datum → Result V ScpiError → Type 0
WithBlock ReadsIt [] r = r ≡ Err MissingParameter
WithBlock ReadsIt (number t ∷ []) r = r ≡ Err DataTypeError
WithBlock ReadsIt (character t ∷ []) r = r ≡ Err DataTypeError
WithBlock ReadsIt (string t ∷ []) r = r ≡ Err DataTypeError
WithBlock ReadsIt (block t ∷ []) r = ReadsIt t r
WithBlock ReadsIt (expression t ∷ []) r = r ≡ Err DataTypeError
WithBlock ReadsIt (d ∷ c ∷ ds) r = r ≡ Err ParameterNotAllowed

-- the command of one list
abbrev pub OfList : {V : Type 0} → (List ℕ → Result (List V) ScpiError → Type 0) → (List V → Command) → List Datum
    → Result Command ScpiError → Type 0
OfList {V} ReadsList make ds r = (read : Result (List V) ScpiError) × WithList ReadsList ds read
    × (r ≡ result_map_both make (λ e. e) read)

-- one number: the number and its suffix, or the first refusal
abbrev pub WithNumber : List Datum → Result (Written × List ℕ) ScpiError → Type 0
WithNumber [] r = r ≡ Err MissingParameter
WithNumber (number t ∷ []) r = ReadsQuantity t r
WithNumber (character t ∷ []) r = r ≡ Err DataTypeError
WithNumber (string t ∷ []) r = r ≡ Err DataTypeError
WithNumber (block t ∷ []) r = r ≡ Err DataTypeError
WithNumber (expression t ∷ []) r = r ≡ Err DataTypeError
WithNumber (d ∷ c ∷ ds) r = r ≡ Err ParameterNotAllowed

-- the command of one number
abbrev pub OfNumber : (Written → List ℕ → Result Command ScpiError) → List Datum → Result Command ScpiError → Type 0
OfNumber meaning ds r = (read : Result (Written × List ℕ) ScpiError) × WithNumber ds read
    × (r ≡ on_ok read (λ x. meaning x.0 x.1))

-- the command of one word
abbrev pub OfWord : (List ℕ → Result Command ScpiError) → List Datum → Result Command ScpiError → Type 0
OfWord meaning [] r = r ≡ Err MissingParameter
OfWord meaning (number t ∷ []) r = r ≡ Err DataTypeError
OfWord meaning (character t ∷ []) r = r ≡ meaning t
OfWord meaning (string t ∷ []) r = r ≡ Err DataTypeError
OfWord meaning (block t ∷ []) r = r ≡ Err DataTypeError
OfWord meaning (expression t ∷ []) r = r ≡ Err DataTypeError
OfWord meaning (d ∷ c ∷ ds) r = r ≡ Err ParameterNotAllowed

-- the command of one switch: a word or a number
abbrev pub OfSwitch : Switch → List Datum → Result Command ScpiError → Type 0
OfSwitch ask [] r = r ≡ Err MissingParameter
OfSwitch ask (number t ∷ []) r = (read : Result (Written × List ℕ) ScpiError) × ReadsQuantity t read
    × (r ≡ on_ok read (λ x. switched_by ask x.0 x.1))
OfSwitch ask (character t ∷ []) r = r ≡ switch_meant ask t
OfSwitch ask (string t ∷ []) r = r ≡ Err DataTypeError
OfSwitch ask (block t ∷ []) r = r ≡ Err DataTypeError
OfSwitch ask (expression t ∷ []) r = r ≡ Err DataTypeError
OfSwitch ask (d ∷ c ∷ ds) r = r ≡ Err ParameterNotAllowed

-- one string: its content, or the first refusal
abbrev pub WithString : List Datum → Result (List ℕ) ScpiError → Type 0
WithString [] r = r ≡ Err MissingParameter
WithString (number t ∷ []) r = r ≡ Err DataTypeError
WithString (character t ∷ []) r = r ≡ Err DataTypeError
WithString (string t ∷ []) r = ReadsString t r
WithString (block t ∷ []) r = r ≡ Err DataTypeError
WithString (expression t ∷ []) r = r ≡ Err DataTypeError
WithString (d ∷ c ∷ ds) r = r ≡ Err ParameterNotAllowed

-- the command of one string
abbrev pub OfString : (List ℕ → Command) → List Datum → Result Command ScpiError → Type 0
OfString make ds r = (read : Result (List ℕ) ScpiError) × WithString ds read × (r ≡ result_map_both make (λ e. e) read)

-- the definition of a macro with this body, where its label was read
abbrev pub Defines : List ℕ → Result (List ℕ) ScpiError → Result Command ScpiError → Type 0
Defines body (Err e) r = r ≡ Err e
Defines body (Ok label) r = (read : Result (List ℕ) ScpiError) × ReadsBlock body read
    × (r ≡ result_map_both (λ b. commands.Macro (macros.Define (record { label = label; body = b }))) (λ e. e) read)

-- the definition of a macro: a label in a string, and a body in a block
abbrev pub OfMacro : List Datum → Result Command ScpiError → Type 0
OfMacro [] r = r ≡ Err MissingParameter
OfMacro (d ∷ []) r = r ≡ Err MissingParameter
OfMacro (number t ∷ c ∷ []) r = r ≡ Err DataTypeError
OfMacro (character t ∷ c ∷ []) r = r ≡ Err DataTypeError
OfMacro (block t ∷ c ∷ []) r = r ≡ Err DataTypeError
OfMacro (expression t ∷ c ∷ []) r = r ≡ Err DataTypeError
OfMacro (string t ∷ number u ∷ []) r = r ≡ Err DataTypeError
OfMacro (string t ∷ character u ∷ []) r = r ≡ Err DataTypeError
OfMacro (string t ∷ string u ∷ []) r = r ≡ Err DataTypeError
OfMacro (string t ∷ expression u ∷ []) r = r ≡ Err DataTypeError
OfMacro (string t ∷ block u ∷ []) r = (label : Result (List ℕ) ScpiError) × ReadsString t label × Defines u label r
OfMacro (d ∷ c ∷ b ∷ ds) r = r ≡ Err ParameterNotAllowed

-- DIAGnostic:SCAN:CHECk? alone, or with one block
abbrev pub OfCheck : List Datum → Result Command ScpiError → Type 0
OfCheck [] r = r ≡ Ok (commands.Query queries.ScanCheck)
OfCheck (d ∷ ds) r = (read : Result (List ℕ) ScpiError) × WithBlock ReadsBlock (d ∷ ds) read
    × (r ≡ result_map_both (λ text. commands.ListingCheck text) (λ e. e) read)

-- the command of a header with this number in it and these data, or its first refusal; or lack of memory where a list,
-- a string or a block is read
abbrev pub DecodesCommand : HeaderMeaning → ℕ → List Datum → Result Command ScpiError → Type 0
DecodesCommand (keys.NoData ask) k ds r = WithNone (commands.NoData ask) ds r
DecodesCommand (keys.Query ask) k ds r = WithNone (commands.Query ask) ds r
DecodesCommand (keys.LayerQuery ask family) k ds r = WithNone (commands.LayerQuery ask (layer_numbered family k)) ds r
DecodesCommand (keys.GroupQuery ask group) k ds r = WithNone (commands.GroupQuery ask group) ds r
DecodesCommand (keys.DestructiveQuery ask) k ds r = WithNone (commands.DestructiveQuery ask) ds r
DecodesCommand (keys.Signal family) k ds r = WithNone (commands.Signal (layer_numbered family k)) ds r
DecodesCommand (keys.Macros ask) k ds r = WithNone (commands.Macros ask) ds r
DecodesCommand (keys.Relays ask) k ds r = OfList Reads (λ list. commands.Relays ask list) ds r
DecodesCommand keys.Scan k ds r = OfList ReadsPositions (λ list. commands.Set (settings.Scan list)) ds r
DecodesCommand keys.Program k ds r =
    (read : Result Program ScpiError) × WithBlock ReadsProgram ds read
    × (r ≡ result_map_both (λ code. commands.Set (settings.Program code)) (λ e. e) read)
DecodesCommand keys.NoProgram k ds r = WithNone (commands.Set settings.NoProgram) ds r
DecodesCommand keys.ScanCheck k ds r = OfCheck ds r
DecodesCommand (keys.Numeric ask) k ds r = OfNumber (whole_of ask k) ds r
DecodesCommand (keys.Time kind family) k ds r = OfNumber (time_of kind (layer_numbered family k)) ds r
DecodesCommand (keys.Source family) k ds r = OfWord (source_meant (layer_numbered family k)) ds r
DecodesCommand (keys.Switch ask) k ds r = OfSwitch ask ds r
DecodesCommand keys.EnableMacros k ds r = OfNumber macros_of ds r
DecodesCommand keys.DefineMacro k ds r = OfMacro ds r
DecodesCommand keys.MacroQuery k ds r = OfString (λ label. commands.Macro (macros.BodyQuery label)) ds r
DecodesCommand keys.RemoveMacro k ds r = OfString (λ label. commands.Macro (macros.Remove label)) ds r

-- ---- a unit's meaning

-- the words of a header, in capitals
abbrev pub asked : UnitSeen → Nodes → Nodes
asked unit below = capitals (looked_up unit.header below)

-- the same without a trigger layer's number
abbrev pub without_number : UnitSeen → Nodes → Nodes
without_number unit below = capitals (map unnumbered (looked_up unit.header below))

abbrev pub IsNone : Nodes → Bool → Type 0
IsNone words query = (key : HeaderMeaning) (number : ℕ) → IsFound entries words query key number → ⊥

-- the refusal of nodes that are no header of the table
abbrev pub IsRefusal : Nodes → Bool → ScpiError → Type 0
IsRefusal nodes query e =
    ((key : HeaderMeaning) × (number : ℕ) × IsFound entries (capitals (map unnumbered nodes)) query key number
    × (e ≡ HeaderSuffixOutOfRange))
    ⊎ (IsNone (capitals (map unnumbered nodes)) query × (e ≡ UndefinedHeader))

-- the header is one of the table
pub record IsCommand (unit : UnitSeen) (below : Nodes) (result : Result Command ScpiError)
    (after : Nodes) : Type 0 where
  pub key : HeaderMeaning
  pub number : ℕ
  pub found : IsFound entries (asked unit below) unit.query key number
  pub decoded : DecodesCommand key number unit.elements result
  pub onward : after ≡ path_after unit.header below

-- the header is none of the table, with its question mark or without as it is written
pub record IsUnknown (unit : UnitSeen) (below : Nodes) (result : Result Command ScpiError)
    (after : Nodes) : Type 0 where
  pub nothing : IsNone (asked unit below) unit.query
  pub nowhere : IsNone (without_number unit below) unit.query
  pub refused : result ≡ Err UndefinedHeader
  pub stays : after ≡ below

-- the header is none of the table, but is one without its trigger layer's number
pub record IsMisnumbered (unit : UnitSeen) (below : Nodes) (result : Result Command ScpiError)
    (after : Nodes) : Type 0 where
  pub nothing : IsNone (asked unit below) unit.query
  pub key : HeaderMeaning
  pub number : ℕ
  pub found : IsFound entries (without_number unit below) unit.query key number
  pub refused : result ≡ Err HeaderSuffixOutOfRange
  pub stays : after ≡ below

-- The unit below a path gives a command or its first refusal, and the path of the next unit.
abbrev pub Resolves : UnitSeen → Nodes → Result Command ScpiError → Nodes → Type 0
Resolves unit below result after =
    IsCommand unit below result after ⊎ (IsMisnumbered unit below result after ⊎ IsUnknown unit below result after)
