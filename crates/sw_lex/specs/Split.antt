-- A text as nodes between colons.
use Rattle.std.specs.Prelude.{ℕ, ◌==◌, List, [], ◌∷◌, if◌then◌else◌}

abbrev pub led_by : ℕ → List (List ℕ) → List (List ℕ)
led_by b [] = (b ∷ []) ∷ []
led_by b (n ∷ ns) = (b ∷ n) ∷ ns

-- the nodes between the colons of a text
abbrev pub nodes_of : List ℕ → List (List ℕ)
nodes_of [] = [] ∷ []
nodes_of (b ∷ bs) = if b == 58 then [] ∷ nodes_of bs else led_by b (nodes_of bs)
