-- The part of the table of headers in which a word is looked up: by its first letter, and for a common command by the
-- letter behind the star; and commands apart from queries.
use Rattle.std.specs.Prelude.{◌≡◌, ℕ, Bool, true, false, ◌==◌, ◌&&◌, List, [], ◌∷◌, if◌then◌else◌}
use Rattle.std.specs.List.{filter, list_any}
use Rattle.sw_lex.specs.declared.rows.HeadersByLetter.{HeadersByLetter}
use Rattle.sw_lex.specs.Table.{HeaderEntry, entries}
use Rattle.sw_lex.specs.Found.{spellings}
use Rattle.sw_lex.specs.Apart.{same_bool}
use Rattle.sw_lex.specs.Rows.{entries_of}
use Rattle.sw_lex.specs.Packed.{groups_packed}

-- whether a word in capitals begins with a star, and the letter by which it is looked up
abbrev pub part_of : List ℕ → Bool × ℕ
part_of [] = (false, 0)
part_of (b ∷ []) = (false, b)
part_of (b ∷ c ∷ word) = if b == 42 then (true, c) else (false, b)

abbrev pub same_part : Bool × ℕ → Bool × ℕ → Bool
same_part p q = same_bool p.0 q.0 && p.1 == q.1

-- whether a spelling begins with this letter
abbrev pub begins_words : Bool × ℕ → List (List ℕ) → Bool
begins_words part [] = false
begins_words part (word ∷ words) = same_part part (part_of word)

-- whether an entry of the table is a query or not, as asked, and a spelling of it begins with this letter
abbrev pub belongs : Bool × ℕ → Bool → HeaderEntry → Bool
belongs part query e = same_bool query e.query && list_any (λ s. begins_words part s.0) (spellings e.nodes)

-- These are all entries of the table that begin with this letter: the commands, and the queries. The numbers of their
-- mnemonics are right.
abbrev pub IsPart : Bool × ℕ → HeadersByLetter → Type 0
IsPart part p = (entries_of p.commands.now ≡ filter (belongs part false) entries)
    × (entries_of p.queries.now ≡ filter (belongs part true) entries)
    × (groups_packed p.commands.now ≡ true) × (groups_packed p.queries.now ≡ true)
