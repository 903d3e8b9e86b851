-- Which command a header is: its spellings, all of them.
use Rattle.std.specs.Prelude.{◌≡◌, ◌≤◌, ℕ, zero, suc, ◌+◌, Bool, List, [], ◌∷◌, ◌++◌, map, ◌⊎◌}
use Rattle.sw_base.specs.Limits.{most_arm_layers}
use Rattle.sw_lex.specs.declared.table.HeaderMeaning.{HeaderMeaning}
use Rattle.sw_lex.specs.Words.{short_of, long_of}
use Rattle.sw_lex.specs.Table.{Node, must, may, numbered, HeaderEntry}

-- x is one of these
abbrev pub IsIn : {X : Type 0} → X → List X → Type 0
IsIn x [] = ⊥
IsIn x (y ∷ ys) = (x ≡ y) ⊎ IsIn x ys

-- a header in capitals, and the number in it, 0 where it has none
abbrev pub Spelling : Type 0
Spelling = List (List ℕ) × ℕ

-- a word before each of these
abbrev pub after_word : List ℕ → List Spelling → List Spelling
after_word word rest = map (λ s. (word ∷ s.0, s.1)) rest

-- the same for a word that has the number
abbrev pub after_numbered : List ℕ → ℕ → List Spelling → List Spelling
after_numbered word n rest = map (λ s. (word ∷ s.0, n)) rest

abbrev pub after_either : List ℕ → List Spelling → List Spelling
after_either w rest = after_word (short_of w) rest ++ after_word (long_of w) rest

-- a number of one digit behind a form
abbrev pub with_digit : List ℕ → ℕ → List ℕ
with_digit form n = form ++ (48 + n) ∷ []

-- the same for a word with this number behind it
abbrev pub after_number : List ℕ → ℕ → List Spelling → List Spelling
after_number w n rest = after_numbered (with_digit (short_of w) n) n rest
    ++ after_numbered (with_digit (long_of w) n) n rest

-- for each number from 1 to n
abbrev pub after_numbers : List ℕ → ℕ → List Spelling → List Spelling
after_numbers w zero rest = []
after_numbers w (suc n) rest = after_numbers w n rest ++ after_number w (suc n) rest

-- the ways to write a header
abbrev pub spellings : List Node → List Spelling
spellings [] = ([], 0) ∷ []
spellings (must w ∷ ns) = after_either w (spellings ns)
spellings (may w ∷ ns) = after_either w (spellings ns) ++ spellings ns
spellings (numbered w ∷ ns) =
    after_either w (spellings ns) ++ (after_numbers w most_arm_layers (spellings ns) ++ spellings ns)

-- the words, in capitals, are a header of the table
pub record IsFound (entries : List HeaderEntry) (words : List (List ℕ)) (query : Bool) (key : HeaderMeaning)
    (number : ℕ) : Type 0 where
  pub entry : HeaderEntry
  pub listed : IsIn entry entries
  pub query_is : entry.query ≡ query
  pub key_is : entry.key ≡ key
  pub spelled : IsIn (words, number) (spellings entry.nodes)

-- ---- the same by cases on the nodes and the words

-- one of the two forms of a mnemonic
abbrev pub IsForm : List ℕ → List ℕ → Type 0
IsForm w x = (x ≡ short_of w) ⊎ (x ≡ long_of w)

-- the same with this number behind it
abbrev pub HasNumber : List ℕ → ℕ → List ℕ → Type 0
HasNumber w n x = (x ≡ with_digit (short_of w) n) ⊎ (x ≡ with_digit (long_of w) n)

-- the same with one of the numbers that an ARM layer has
abbrev pub IsNumbered : List ℕ → ℕ → List ℕ → Type 0
IsNumbered w n x = (1 ≤ n) × (n ≤ most_arm_layers) × HasNumber w n x

abbrev pub Fits : List Node → List (List ℕ) → ℕ → Type 0
Fits [] ws k = (ws ≡ []) × (k ≡ 0)
Fits (must w ∷ ns) [] k = ⊥
Fits (must w ∷ ns) (x ∷ ws) k = IsForm w x × Fits ns ws k
Fits (may w ∷ ns) [] k = Fits ns [] k
Fits (may w ∷ ns) (x ∷ ws) k = (IsForm w x × Fits ns ws k) ⊎ Fits ns (x ∷ ws) k
Fits (numbered w ∷ ns) [] k = Fits ns [] k
Fits (numbered w ∷ ns) (x ∷ ws) k = (IsForm w x × Fits ns ws k)
    ⊎ (((m : ℕ) × Fits ns ws m × IsNumbered w k x) ⊎ Fits ns (x ∷ ws) k)
