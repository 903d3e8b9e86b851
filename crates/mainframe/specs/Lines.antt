-- Lines of a text.
use Rattle.std.specs.Prelude.{ℕ, ◌==◌, List, [], ◌∷◌, if◌then◌else◌}

-- a byte before some lines belongs to the first
abbrev pub onto_line : ℕ → List (List ℕ) → List (List ℕ)
onto_line x [] = (x ∷ []) ∷ []
onto_line x (l ∷ ls) = (x ∷ l) ∷ ls

-- the lines of a text, each with its line feed; what is after the last line feed is a line too, if there is any
abbrev pub lines_of : List ℕ → List (List ℕ)
lines_of [] = []
lines_of (x ∷ xs) = if x == 10 then (10 ∷ []) ∷ lines_of xs else onto_line x (lines_of xs)
