-- A test over a whole table: no header is two commands.
use Rattle.std.specs.Prelude.{ℕ, Bool, true, false, not, ◌==◌, ◌&&◌, ◌||◌, List, [], ◌∷◌}
use Rattle.sw_lex.specs.Table.{HeaderEntry}
use Rattle.sw_lex.specs.Found.{Spelling, spellings}

abbrev pub same_word : List ℕ → List ℕ → Bool
same_word [] [] = true
same_word [] (y ∷ ys) = false
same_word (x ∷ xs) [] = false
same_word (x ∷ xs) (y ∷ ys) = x == y && same_word xs ys

abbrev pub same_words : List (List ℕ) → List (List ℕ) → Bool
same_words [] [] = true
same_words [] (y ∷ ys) = false
same_words (x ∷ xs) [] = false
same_words (x ∷ xs) (y ∷ ys) = same_word x y && same_words xs ys

-- no spelling is this one
abbrev pub lacks_words : List (List ℕ) → List Spelling → Bool
lacks_words ws [] = true
lacks_words ws (s ∷ ss) = not (same_words ws s.0) && lacks_words ws ss

abbrev pub disjoint : List Spelling → List Spelling → Bool
disjoint [] ts = true
disjoint (s ∷ ss) ts = lacks_words s.0 ts && disjoint ss ts

-- a spelling of the entry has one number
abbrev pub one_number : Spelling → List Spelling → Bool
one_number s [] = true
one_number s (t ∷ ts) = (not (same_words s.0 t.0) || s.1 == t.1) && one_number s ts

abbrev pub numbers_agree : List Spelling → Bool
numbers_agree [] = true
numbers_agree (s ∷ ss) = one_number s ss && numbers_agree ss

abbrev pub same_bool : Bool → Bool → Bool
same_bool true b = b
same_bool false b = not b

-- apart from each later entry of its kind
abbrev pub apart_from : HeaderEntry → List HeaderEntry → Bool
apart_from e [] = true
apart_from e (d ∷ es) = (not (same_bool e.query d.query) || disjoint (spellings e.nodes) (spellings d.nodes))
    && apart_from e es

abbrev pub all_apart : List HeaderEntry → Bool
all_apart [] = true
all_apart (e ∷ es) = apart_from e es && (numbers_agree (spellings e.nodes) && all_apart es)
