-- How a channel list is written: a grammar by cases on whole texts (SCPI-1999 volume 1, 8.3.2, channel lists).
use Rattle.std.specs.Prelude.{◌≡◌, ℕ, ◌<◌, List, [], ◌∷◌, ◌++◌, length}
use Rattle.sw_base.specs.Text.{is_blank, is_digit, AllPass}

-- A channel as it is written: a plain number, or a slot and a number on its card, each as its digits.
pub data WrittenChannel : Type 0 where
  plain : List ℕ → WrittenChannel
  pair : List ℕ → List ℕ → WrittenChannel

-- An item of a list as it is written: a channel, or the two ends of a range.
pub data ListItem : Type 0 where
  one : WrittenChannel → ListItem
  range : WrittenChannel → WrittenChannel → ListItem

-- a number: its digits, with white space on either side
pub record IsPadded (text digits : List ℕ) : Type 0 where
  pub before : List ℕ
  pub after : List ℕ
  pub whole : text ≡ before ++ (digits ++ after)
  pub before_blank : AllPass is_blank before
  pub after_blank : AllPass is_blank after
  pub digits_only : AllPass is_digit digits
  pub some : 0 < length digits

-- two parts with a mark between them
pub record IsMarkedPair (mark : ℕ) (First Second : List ℕ → Type 0) (text : List ℕ) : Type 0 where
  pub left : List ℕ
  pub right : List ℕ
  pub first : First left
  pub second : Second right
  pub whole : text ≡ left ++ mark ∷ right

-- a channel: a number, or two joined by `!`
abbrev pub IsChannel : List ℕ → WrittenChannel → Type 0
IsChannel text (plain n) = IsPadded text n
IsChannel text (pair s c) = IsMarkedPair 33 (λ t. IsPadded t s) (λ t. IsPadded t c) text

-- an item: a channel, or two joined by `:`
abbrev pub IsItem : List ℕ → ListItem → Type 0
IsItem text (one w) = IsChannel text w
IsItem text (range v w) = IsMarkedPair 58 (λ t. IsChannel t v) (λ t. IsChannel t w) text

-- one part or more, joined by a mark
abbrev pub AreJoined : {W : Type 0} → ℕ → (List ℕ → W → Type 0) → List ℕ → List W → Type 0
AreJoined mark Part text [] = ⊥
AreJoined mark Part text (w ∷ []) = Part text w
AreJoined mark Part text (w ∷ v ∷ ws) =
    IsMarkedPair mark (λ t. Part t w) (λ t. AreJoined mark Part t (v ∷ ws)) text

-- the text between `(@` and `)`
abbrev pub IsBracketed : {I : Type 0} → (List ℕ → I → Type 0) → List ℕ → I → Type 0
IsBracketed Body text i = (body : List ℕ) × Body body i × (text ≡ 40 ∷ 64 ∷ (body ++ 41 ∷ []))

-- one item or more, joined by `,`
abbrev pub IsItems : List ℕ → List ListItem → Type 0
IsItems = AreJoined 44 IsItem

-- a list: these between `(@` and `)`
abbrev pub IsList : List ℕ → List ListItem → Type 0
IsList = IsBracketed IsItems

-- ---- lists of positions (this instrument's own)

-- An item of such a list as it is written: a channel and those joined to it, or the two ends of a range.
pub data PositionItem : Type 0 where
  joined : WrittenChannel → List WrittenChannel → PositionItem
  single_each : WrittenChannel → WrittenChannel → PositionItem

-- an item: channels joined by `&`, or two joined by `:`
abbrev pub IsPositionItem : List ℕ → PositionItem → Type 0
IsPositionItem text (joined w ws) = AreJoined 38 IsChannel text (w ∷ ws)
IsPositionItem text (single_each v w) = IsItem text (range v w)

abbrev pub IsPositionItems : List ℕ → List PositionItem → Type 0
IsPositionItems = AreJoined 44 IsPositionItem

-- a list of positions: one item or more, joined by `,`, between `(@` and `)`
abbrev pub IsPositionList : List ℕ → List PositionItem → Type 0
IsPositionList = IsBracketed IsPositionItems
