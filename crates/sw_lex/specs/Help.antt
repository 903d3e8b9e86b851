-- The answer to SYSTem:HELP:HEADers?: the table of headers, a line for each header (SCPI-1999, volume 2, 21,
-- SYSTem:HELP:HEADers?).
use Rattle.std.specs.Prelude.{ℕ, Bool, false, ◌==◌, ◌||◌, List, [], ◌∷◌, ◌++◌, codes, if◌then◌else◌}
use Rattle.std.specs.List.{join_with_byte}
use Rattle.sw_lex.specs.declared.table.HeaderMeaning.{HeaderMeaning}
use Rattle.sw_lex.specs.Apart.{same_word}
use Rattle.sw_lex.specs.Block.{block_of}
use Rattle.sw_lex.specs.Table.{table, is_query}

-- a header's text without its question mark
abbrev pub unasked : List ℕ → List ℕ
unasked [] = []
unasked (b ∷ text) = if b == 63 then [] else b ∷ unasked text

-- whether one of the rows is this header
abbrev pub is_among : List ℕ → List (List ℕ × HeaderMeaning) → Bool
is_among header [] = false
is_among header (row ∷ rows) = same_word header row.0 || is_among header rows

-- from the root, with a colon before all but a common header
abbrev pub from_root : List ℕ → List ℕ
from_root [] = []
from_root (b ∷ text) = if b == 42 then b ∷ text else 58 ∷ b ∷ text

-- The line of a header. One that is a query alone is marked so, and so is one that has no query; where the table has
-- both, the query has no line of its own.
abbrev pub help_line : List ℕ → List (List ℕ)
help_line header =
    if is_query header then
    if is_among (unasked header) table then []
    else (from_root header ++ codes "/qonly/") ∷ []
    else if is_among (header ++ 63 ∷ []) table then from_root header ∷ []
    else (from_root header ++ codes "/nquery/") ∷ []

abbrev pub help_lines : List (List ℕ × HeaderMeaning) → List (List ℕ)
help_lines [] = []
help_lines (row ∷ rows) = help_line row.0 ++ help_lines rows

-- the lines of the table, joined by line feeds, as a block
unfoldable pub headers_text : List ℕ
headers_text = block_of (join_with_byte 10 (help_lines table))
