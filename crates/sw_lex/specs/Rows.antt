-- How the rows of the code are read as entries of the table.
use Rattle.std.specs.Prelude.{◌≡◌, ℕ, Bool, true, false, not, ◌==◌, ◌&&◌, List, [], ◌∷◌, ◌++◌, map, ◌⊎◌}
use Rattle.std.specs.Char.{is_ascii_lowercase, to_ascii_uppercase}
use Rattle.sw_lex.specs.declared.table.HeaderMeaning.{HeaderMeaning}
use Rattle.sw_lex.specs.declared.rows.HeaderNode.{HeaderNode}
use Rattle.sw_lex.specs.declared.rows.HeaderNode.TheVariants.{Must, May, Numbered}
use Rattle.sw_lex.specs.declared.rows.Row.{Row}
use Rattle.sw_lex.specs.declared.rows.Row.TheVariants.{Command, Query}
use Rattle.sw_lex.specs.declared.rows.Subsystem.{Subsystem}
use Rattle.sw_lex.specs.Table.{Node, must, may, numbered, HeaderEntry}
use Rattle.sw_lex.specs.Found.{IsForm, Fits}

-- The word is the rest of the mnemonic's long form; or of its short form, where only capitals have been passed.
abbrev pub is_form_from : List ℕ → List ℕ → Bool → Bool
is_form_from [] [] capitals = true
is_form_from [] (b ∷ form) capitals = capitals && is_ascii_lowercase b
is_form_from (x ∷ word) [] capitals = false
is_form_from (x ∷ word) (b ∷ form) capitals =
    x == to_ascii_uppercase b && is_form_from word form (capitals && not (is_ascii_lowercase b))

-- nodes of the table, each by the text of its form
abbrev pub nodes_at : List HeaderNode → List Node
nodes_at [] = []
nodes_at (Must form ∷ nodes) = must form.text.now ∷ nodes_at nodes
nodes_at (May form ∷ nodes) = may form.text.now ∷ nodes_at nodes
nodes_at (Numbered form ∷ nodes) = numbered form.text.now ∷ nodes_at nodes

-- whether a row has a question mark
abbrev pub is_query_row : Row → Bool
is_query_row (Command nodes key) = false
is_query_row (Query nodes key) = true

-- its nodes below the first
abbrev pub row_nodes : Row → List HeaderNode
row_nodes (Command nodes key) = nodes.now
row_nodes (Query nodes key) = nodes.now

-- what it asks for
abbrev pub key_of_row : Row → HeaderMeaning
key_of_row (Command nodes key) = key
key_of_row (Query nodes key) = key

-- the entry of a row below this first mnemonic
abbrev pub entry_at : List ℕ → Row → HeaderEntry
entry_at first row = record {
  nodes = must first ∷ nodes_at (row_nodes row);
  query = is_query_row row;
  key =
      key_of_row row;
}

unfoldable pub entries_of : List Subsystem → List HeaderEntry
entries_of [] = []
entries_of (group ∷ groups) = map (entry_at group.first.text.now) group.rows.now ++ entries_of groups

-- the words, in capitals, are what one of the rows has below its first node
abbrev pub MatchesRow : List Row → List (List ℕ) → Bool → HeaderMeaning → ℕ → Type 0
MatchesRow [] ws query key k = ⊥
MatchesRow (row ∷ rows) ws query key k =
    ((is_query_row row ≡ query) × (key_of_row row ≡ key) × Fits (nodes_at (row_nodes row)) ws k)
    ⊎ MatchesRow rows ws query key k

-- the word and those after it, in capitals, are a header of one of the groups
abbrev pub Matches : List Subsystem → List ℕ → List (List ℕ) → Bool → HeaderMeaning → ℕ → Type 0
Matches [] w ws query key k = ⊥
Matches (group ∷ groups) w ws query key k =
    (IsForm group.first.text.now w × MatchesRow group.rows.now ws query key k) ⊎ Matches groups w ws query key k
