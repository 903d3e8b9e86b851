-- Program message units (IEEE 488.2, 7.3 to 7.7; SCPI-1999, volume 1, 6).
use Rattle.std.specs.Prelude.{◌≡◌, ℕ, ◌<◌, ◌≤◌, Bool, true, false, not, nat_lt, ◌==◌, ◌||◌, List, [], ◌∷◌, ◌++◌}
use Rattle.std.specs.Prelude.{length, map, ◌⊎◌, if◌then◌else◌, Option, Some, None}
use Rattle.std.specs.List.{AllByRecursion, flat_map}
use Rattle.sw_base.specs.Text.{is_blank, is_digit, is_letter, is_word, AllPass, StartsOff, Spans}
use Rattle.sw_base.specs.declared.error.ScpiError.{ScpiError}
use Rattle.sw_base.specs.declared.error.ScpiError.TheVariants.{InvalidCharacter, SyntaxError, InvalidSeparator}
use Rattle.sw_base.specs.declared.error.ScpiError.TheVariants.{ParameterNotAllowed, DataTypeError, InvalidStringData}
use Rattle.sw_base.specs.declared.error.ScpiError.TheVariants.{InvalidBlockData, InvalidExpression}
use Rattle.sw_lex.specs.Elements.{is_inner, kind_at, IsString, IsBlock, IsElement}
use Rattle.sw_lex.specs.declared.elements.ElementKind.{ElementKind}
use Rattle.sw_lex.specs.declared.elements.ElementKind.TheVariants as kinds
use Rattle.sw_lex.specs.declared.unit.Element.{Element}
use Rattle.sw_lex.specs.declared.unit.Element.TheVariants as elements
use Rattle.sw_lex.specs.declared.unit.Header.{Header}
use Rattle.sw_lex.specs.declared.unit.Header.TheVariants as headers
use Rattle.sw_lex.specs.declared.raw_unit.RawUnit.{RawUnit}

-- data elements of a unit: own
abbrev pub most_elements : ℕ
most_elements = 16

-- ---- a unit as plain data

-- a header as written: `*` and letters; or mnemonics joined by colons, after a leading colon or none
pub data Heading : Type 0 where
  common : (name : List ℕ) → Heading
  path : (leading : Bool) → (nodes : List ℕ) → Heading

-- a data element as written
pub data Datum : Type 0 where
  number : List ℕ → Datum
  character : List ℕ → Datum
  string : List ℕ → Datum
  block : List ℕ → Datum
  expression : List ℕ → Datum

-- a unit: its header, whether it is a query, and its data elements
pub record UnitSeen : Type 0 where
  pub header : Heading
  pub query : Bool
  pub elements : List Datum

abbrev pub heading_of : Header → Heading
heading_of (headers.Common name) = common name.now
heading_of (headers.Path leading nodes) = path leading nodes.now

abbrev pub datum_of : Element → Datum
datum_of (elements.Number t) = number t.now
datum_of (elements.Character t) = character t.now
datum_of (elements.String t) = string t.now
datum_of (elements.Block t) = block t.now
datum_of (elements.Expression t) = expression t.now

abbrev pub data_of : List Element → List Datum
data_of es = map datum_of es

abbrev pub unit_of : RawUnit → UnitSeen
unit_of u = record { header = heading_of u.header; query = u.query; elements = data_of u.elements.now }

-- a unit as it is written
abbrev pub written_of : RawUnit → List ℕ
written_of u = u.text.now

-- ---- bytes

-- white space or the end of an empty unit
abbrev pub is_gap : ℕ → Bool
is_gap b = is_blank b || b == 59

-- the error for the bytes at the front: a line feed or a byte above 126 is an invalid character first of all
abbrev pub fault_at : ScpiError → List ℕ → ScpiError
fault_at e [] = e
fault_at e (b ∷ bytes) = if b == 10 || nat_lt 126 b then InvalidCharacter else e

-- ---- headers

-- a letter, and then letters, digits or underscores
abbrev pub IsMnemonic : List ℕ → Type 0
IsMnemonic [] = ⊥
IsMnemonic (b ∷ bs) = (is_letter b ≡ true) × AllPass is_word bs

-- mnemonics, each with its colon
abbrev pub colons : List (List ℕ) → List ℕ
colons ms = flat_map (λ m. m ++ 58 ∷ []) ms

-- mnemonics joined by colons
pub record IsPath (text : List ℕ) : Type 0 where
  pub nodes : List (List ℕ)
  pub last : List ℕ
  pub each : AllByRecursion IsMnemonic nodes
  pub last_one : IsMnemonic last
  pub whole : text ≡ colons nodes ++ last

-- letters, at least one
abbrev pub IsName : List ℕ → Type 0
IsName [] = ⊥
IsName (b ∷ bs) = AllPass is_letter (b ∷ bs)

abbrev pub IsHeading : Heading → Type 0
IsHeading (common text) = (name : List ℕ) × IsName name × (text ≡ 42 ∷ name)
IsHeading (path leading text) = IsPath text

abbrev pub colon : Bool → List ℕ
colon true = 58 ∷ []
colon false = []

abbrev pub heading_text : Heading → List ℕ
heading_text (common text) = text
heading_text (path leading text) = colon leading ++ text

-- a header is as long as it can be
abbrev pub IsFar : Heading → List ℕ → Type 0
IsFar (common text) after = StartsOff is_letter after
IsFar (path leading text) after = StartsOff is_word after × StartsOff (λ b. b == 58) after

-- a question mark directly after the header makes it a query
abbrev pub Asks : List ℕ → Bool → List ℕ → Type 0
Asks after true tail = after ≡ 63 ∷ tail
Asks after false tail = (after ≡ tail) × StartsOff (λ b. b == 63) tail

-- a header at the front of a text
pub record Heads (text : List ℕ) (heading : Heading) (after : List ℕ) : Type 0 where
  pub form : IsHeading heading
  pub whole : text ≡ heading_text heading ++ after
  pub far : IsFar heading after

-- mnemonics that break off: after some of them and their colons comes no letter
pub record BreaksOff (text : List ℕ) (e : ScpiError) : Type 0 where
  pub nodes : List (List ℕ)
  pub each : AllByRecursion IsMnemonic nodes
  pub more : List ℕ
  pub whole : text ≡ colons nodes ++ more
  pub off : StartsOff is_letter more
  pub error : e ≡ fault_at SyntaxError more

-- a text with no header at its front
abbrev pub HasNoHeading : List ℕ → ScpiError → Type 0
HasNoHeading [] e = e ≡ SyntaxError
HasNoHeading (b ∷ more) e =
    ((b ≡ 42) × StartsOff is_letter more × (e ≡ fault_at SyntaxError more))
    ⊎ (((b ≡ 58) × BreaksOff more e)
    ⊎ (((b == 42) ≡ false) × ((b == 58) ≡ false) × BreaksOff (b ∷ more) e))

-- ---- data

abbrev pub datum_text : Datum → List ℕ
datum_text (number t) = t
datum_text (character t) = t
datum_text (string t) = t
datum_text (block t) = t
datum_text (expression t) = t

abbrev pub kind_of : Datum → ElementKind
kind_of (number t) = kinds.Number
kind_of (character t) = kinds.Character
kind_of (string t) = kinds.String
kind_of (block t) = kinds.Block
kind_of (expression t) = kinds.Expression

-- the element of a kind that is written so
abbrev pub datum_with : ElementKind → List ℕ → Datum
datum_with kinds.Number t = number t
datum_with kinds.Character t = character t
datum_with kinds.String t = string t
datum_with kinds.Block t = block t
datum_with kinds.Expression t = expression t

-- an element at the front of a text, of the kind that its first byte begins
pub record LeadsElement (text : List ℕ) (d : Datum) (after : List ℕ) : Type 0 where
  pub starts : kind_at text ≡ Some (kind_of d)
  pub form : IsElement (kind_of d) text after
  pub whole : text ≡ datum_text d ++ after

-- a unit ends at a semicolon or at the end of the text
abbrev pub Ends : List ℕ → List ℕ → Type 0
Ends [] rest = rest ≡ []
Ends (b ∷ more) rest = (b ≡ 59) × (rest ≡ more)

abbrev pub HasNoEnd : List ℕ → Type 0
HasNoEnd text = (rest : List ℕ) → Ends text rest → ⊥

-- an element and the comma after it, with white space round the comma
pub record IsNext (text : List ℕ) (d : Datum) (next : List ℕ) : Type 0 where
  pub after : List ℕ
  pub gap : List ℕ
  pub others : List ℕ
  pub space : List ℕ
  pub element : LeadsElement text d after
  pub before : Spans is_blank after gap (44 ∷ others)
  pub behind : Spans is_blank others space next

-- an element and the unit's end after it
pub record IsLast (text : List ℕ) (d : Datum) (rest : List ℕ) : Type 0 where
  pub after : List ℕ
  pub gap : List ℕ
  pub end : List ℕ
  pub element : LeadsElement text d after
  pub before : Spans is_blank after gap end
  pub ends : Ends end rest

-- elements joined by commas, and then the unit's end
abbrev pub IsData : List ℕ → List Datum → List ℕ → Type 0
IsData text [] rest = ⊥
IsData text (d ∷ []) rest = IsLast text d rest
IsData text (d ∷ c ∷ ds) rest = (next : List ℕ) × IsNext text d next × IsData next (c ∷ ds) rest

-- what follows a header: no data, or white space and data
pub record IsTail (tail : List ℕ) (ds : List Datum) (rest : List ℕ) : Type 0 where
  pub gap : List ℕ
  pub more : List ℕ
  pub before : Spans is_blank tail gap more
  pub follows : ((ds ≡ []) × Ends more rest) ⊎ ((0 < length gap) × HasNoEnd more × IsData more ds rest)

-- a unit at the front of a text, after white space and empty units, and what follows it
pub record IsUnit (text : List ℕ) (unit : UnitSeen) (rest : List ℕ) : Type 0 where
  pub before : List ℕ
  pub start : List ℕ
  pub after : List ℕ
  pub tail : List ℕ
  pub skipped : Spans is_gap text before start
  pub header : Heads start unit.header after
  pub asks : Asks after unit.query tail
  pub follows : IsTail tail unit.elements rest
  pub few : length unit.elements ≤ most_elements

-- ---- a unit as it is written

-- elements joined by commas, and what follows the last of them
abbrev pub AreJoinedElements : List ℕ → List Datum → List ℕ → Type 0
AreJoinedElements text [] left = ⊥
AreJoinedElements text (d ∷ []) left = LeadsElement text d left
AreJoinedElements text (d ∷ c ∷ ds) left = (next : List ℕ) × IsNext text d next × AreJoinedElements next (c ∷ ds) left

-- what follows the last part of a unit: its last element, or where it has none its header and question mark
abbrev pub IsLeft : List ℕ → List Datum → List ℕ → Type 0
IsLeft tail [] left = left ≡ tail
IsLeft tail (d ∷ ds) left = (gap : List ℕ) × (more : List ℕ) × Spans is_blank tail gap more
    × AreJoinedElements more (d ∷ ds) left

-- the first unit of a text as it is written, from its header's first byte to the last byte of its last part; the bytes
-- before it, and those after it
pub record IsWritten (text before : List ℕ) (unit : UnitSeen) (written left : List ℕ) : Type 0 where
  pub start : List ℕ
  pub after : List ℕ
  pub tail : List ℕ
  pub skipped : Spans is_gap text before start
  pub header : Heads start unit.header after
  pub asks : Asks after unit.query tail
  pub ends : IsLeft tail unit.elements left
  pub whole : start ≡ written ++ left

-- white space, and the unit's end
pub record Closes (left rest : List ℕ) : Type 0 where
  pub gap : List ℕ
  pub end : List ℕ
  pub space : Spans is_blank left gap end
  pub ends : Ends end rest

-- ---- refusals: at the first byte that fits no form

-- these elements and their commas come first
abbrev pub ReachesElement : List ℕ → List Datum → List ℕ → Type 0
ReachesElement text [] here = text ≡ here
ReachesElement text (d ∷ ds) here = (next : List ℕ) × IsNext text d next × ReachesElement next ds here

-- no element begins here
abbrev pub BeginsNone : List ℕ → ScpiError → Type 0
BeginsNone text e = (kind_at text ≡ None) × (e ≡ fault_at SyntaxError text)

-- an element begins here, as the seventeenth
abbrev pub IsSeventeenth : ℕ → List ℕ → ScpiError → Type 0
IsSeventeenth n text e = (n ≡ most_elements) × (kind : ElementKind) × (kind_at text ≡ Some kind)
    × (e ≡ ParameterNotAllowed)

-- a string that has no end
pub record IsOpenString (text : List ℕ) (e : ScpiError) : Type 0 where
  pub open_still : (content after : List ℕ) → IsString text content after → ⊥
  pub error : e ≡ InvalidStringData

-- `#`, after it a digit or nothing, and no block; or `#` and another byte
pub record IsBadBlock (text : List ℕ) (e : ScpiError) : Type 0 where
  pub more : List ℕ
  pub opened : text ≡ 35 ∷ more
  pub why :
      (StartsOff (λ b. not (is_digit b)) more × ((bytes after : List ℕ) → IsBlock text bytes after → ⊥)
      × (e ≡ InvalidBlockData))
      ⊎ ((b : ℕ) × (others : List ℕ) × (more ≡ b ∷ others) × (is_digit b ≡ false) × (e ≡ fault_at DataTypeError more))

-- an expression that has no end
pub record IsUnclosed (text : List ℕ) (e : ScpiError) : Type 0 where
  pub more : List ℕ
  pub inner : List ℕ
  pub after : List ℕ
  pub opened : text ≡ 40 ∷ more
  pub span : Spans is_inner more inner after
  pub open_still : StartsOff (λ b. b == 41) after
  pub error : e ≡ fault_at InvalidExpression after

-- an element of the kind begins here, and breaks off
abbrev pub IsBroken : ElementKind → List ℕ → ScpiError → Type 0
IsBroken kinds.Number text e = ⊥
IsBroken kinds.Character text e = ⊥
IsBroken kinds.String text e = IsOpenString text e
IsBroken kinds.Block text e = IsBadBlock text e
IsBroken kinds.Expression text e = IsUnclosed text e

-- an element begins here that breaks off
abbrev pub BreaksIn : List ℕ → ScpiError → Type 0
BreaksIn text e = (kind : ElementKind) × (kind_at text ≡ Some kind) × IsBroken kind text e

-- after an element comes neither a comma nor the unit's end
pub record IsUnseparated (text : List ℕ) (e : ScpiError) : Type 0 where
  pub datum : Datum
  pub after : List ℕ
  pub gap : List ℕ
  pub more : List ℕ
  pub element : LeadsElement text datum after
  pub before : Spans is_blank after gap more
  pub on : HasNoEnd more
  pub off : StartsOff (λ b. b == 44) more
  pub error : e ≡ fault_at InvalidSeparator more

-- the refusal at a place where an element should be, with n before it
abbrev pub IsStuck : ℕ → List ℕ → ScpiError → Type 0
IsStuck n here e = BeginsNone here e
    ⊎ (IsSeventeenth n here e ⊎ ((n < most_elements) × (BreaksIn here e ⊎ IsUnseparated here e)))

-- the refusal of the data at the front of a text
pub record IsDataRefused (text : List ℕ) (e : ScpiError) : Type 0 where
  pub front : List Datum
  pub here : List ℕ
  pub reached : ReachesElement text front here
  pub few : length front ≤ most_elements
  pub why : IsStuck (length front) here e

-- the refusal of what follows a header
pub record IsTailRefused (tail : List ℕ) (e : ScpiError) : Type 0 where
  pub gap : List ℕ
  pub more : List ℕ
  pub before : Spans is_blank tail gap more
  pub on : HasNoEnd more
  pub why : ((gap ≡ []) × (e ≡ fault_at InvalidSeparator more)) ⊎ ((0 < length gap) × IsDataRefused more e)

-- the refusal of what follows a proper header
pub record IsPartRefused (start : List ℕ) (e : ScpiError) : Type 0 where
  pub heading : Heading
  pub query : Bool
  pub after : List ℕ
  pub tail : List ℕ
  pub header : Heads start heading after
  pub asks : Asks after query tail
  pub refused : IsTailRefused tail e

-- the refusal of the unit at the front of a text
pub record IsRefusedUnit (text : List ℕ) (e : ScpiError) : Type 0 where
  pub before : List ℕ
  pub start : List ℕ
  pub skipped : Spans is_gap text before start
  pub some : 0 < length start
  pub refused : HasNoHeading start e ⊎ IsPartRefused start e

-- ---- a whole message

-- nothing but white space and empty units
abbrev pub IsBlank : List ℕ → Type 0
IsBlank text = AllPass is_gap text

-- The units of a message from the front, up to its end or to its first refusal.
abbrev pub IsMessage : List ℕ → List UnitSeen → Option ScpiError → Type 0
IsMessage text [] None = IsBlank text
IsMessage text [] (Some e) = IsRefusedUnit text e
IsMessage text (u ∷ us) end = (rest : List ℕ) × IsUnit text u rest × IsMessage rest us end
