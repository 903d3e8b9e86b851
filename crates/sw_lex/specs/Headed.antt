-- The words of a header, and their numbers as far as they are kept.
use Rattle.std.specs.Prelude.{ℕ, Bool, false, List, [], ◌∷◌, map, take, get_or}
use Rattle.std.specs.List.{list_all}
use Rattle.std.specs.Char.{to_ascii_uppercase}
use Rattle.sw_lex.specs.declared.unit.Header.{Header}
use Rattle.sw_lex.specs.declared.unit.Header.TheVariants as headers
use Rattle.sw_lex.specs.Split.{nodes_of}
use Rattle.sw_lex.specs.Packed.{is_byte, number_at}
use Rattle.sw_lex.specs.Parts.{part_of}

-- the words that are kept: one more than a header of the table has
abbrev pub most_words : ℕ
most_words = 5

abbrev pub word_number : List ℕ → ℕ
word_number word = number_at (map to_ascii_uppercase word)

abbrev pub path_numbers : List ℕ → List ℕ
path_numbers text = take most_words (map word_number (nodes_of text))

abbrev pub header_nodes : Header → List (List ℕ)
header_nodes (headers.Common name) = name.now ∷ []
header_nodes (headers.Path leading nodes) = nodes_of nodes.now

abbrev pub header_numbers : Header → List ℕ
header_numbers header = take most_words (map word_number (header_nodes header))

-- each word is one of bytes
abbrev pub header_bytes : Header → Bool
header_bytes header = list_all (λ w. list_all is_byte (map to_ascii_uppercase w)) (header_nodes header)

-- by what a header is looked up from the root: of a common one the letter behind the star
abbrev pub header_part : Header → Bool × ℕ
header_part (headers.Common name) = part_of (map to_ascii_uppercase name.now)
header_part (headers.Path leading nodes) = (false, to_ascii_uppercase (get_or nodes.now 0 0))

-- the first word, and this letter where there is none
abbrev pub first_or : ℕ → List (List ℕ) → List ℕ
first_or letter [] = letter ∷ []
first_or letter (w ∷ ws) = w

abbrev pub first_word : List (List ℕ) → List ℕ
first_word [] = []
first_word (w ∷ ws) = w
