-- What an operator types to a server.
use Rattle.std.specs.Prelude.{◌≡◌, ◌==◌, ◌++◌, ◌||◌, not, nat_lt, ℕ, List, [], ◌∷◌, length, if◌then◌else◌}

-- the word of the line that opens every relay: abort
abbrev pub abort_word : List ℕ
abort_word = 97 ∷ 98 ∷ 111 ∷ 114 ∷ 116 ∷ []

-- how much of a line is kept: one byte more than that word has
abbrev pub kept : ℕ
kept = 6

-- the line that is being typed after one more byte: a line feed ends it, a carriage return is no part of it
abbrev pub line_after : List ℕ → ℕ → List ℕ
line_after line byte =
    if byte == 10 then [] else (if (byte == 13) || (not (nat_lt (length line) kept)) then line else line ++ byte ∷ [])

-- that byte ends the line of that word
abbrev pub IsAbortLine : List ℕ → ℕ → Type 0
IsAbortLine line byte = (byte ≡ 10) × (line ≡ abort_word)
