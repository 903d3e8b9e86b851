-- Words in capitals as numbers, and what the numbers in the rows of the code have to be.
use Rattle.std.specs.Prelude.{◌≡◌, ◌≤◌, ◌<◌, ◌+◌, ◌*◌, ◌-◌, ◌/◌, ◌%◌, ℕ, zero, suc, Bool, ◌==◌, ◌&&◌, nat_lt, nat_le}
use Rattle.std.specs.Prelude.{List, [], ◌∷◌, ◌++◌, length, map, ◌⊎◌, ⊤, if◌then◌else◌}
use Rattle.std.specs.List.{list_all}
use Rattle.std.specs.Char.{to_ascii_uppercase}
use Rattle.sw_base.specs.Text.{is_word, AllPass}
use Rattle.sw_base.specs.Limits.{longest_mnemonic, most_arm_layers}
use Rattle.sw_lex.specs.declared.table.HeaderMeaning.{HeaderMeaning}
use Rattle.sw_lex.specs.declared.packing.Mnemonic.{Mnemonic}
use Rattle.sw_lex.specs.declared.rows.HeaderNode.{HeaderNode}
use Rattle.sw_lex.specs.declared.rows.HeaderNode.TheVariants.{Must, May, Numbered}
use Rattle.sw_lex.specs.declared.rows.Row.{Row}
use Rattle.sw_lex.specs.declared.rows.Subsystem.{Subsystem}
use Rattle.sw_lex.specs.Words.{short_of, long_of}
use Rattle.sw_lex.specs.Rows.{is_query_row, row_nodes, key_of_row}

-- ---- words

-- these bytes as further digits, to the base 256, of a number
abbrev pub packed_after : ℕ → List ℕ → ℕ
packed_after n [] = n
packed_after n (b ∷ bytes) = packed_after (n * 256 + b) bytes

-- a one, and then the bytes
abbrev pub packed : List ℕ → ℕ
packed word = packed_after 1 word

abbrev pub is_byte : ℕ → Bool
is_byte b = nat_lt b 256

-- the last bytes of a number, at most this many, without the one before them
abbrev pub last_bytes : ℕ → ℕ → List ℕ
last_bytes zero n = []
last_bytes (suc k) n = if nat_lt 1 n then last_bytes k (n / 256) ++ (n % 256) ∷ [] else []

-- the word of a number, in capitals
abbrev pub word_of : ℕ → List ℕ
word_of n = map to_ascii_uppercase (last_bytes longest_mnemonic n)

-- the capital of a byte that a mnemonic may have, 0 of any other
abbrev pub capital_of : ℕ → ℕ
capital_of b = if is_word b then to_ascii_uppercase b else 0

-- those of the bytes from i to 255, in their order
abbrev pub are_capitals : ℕ → List ℕ → Bool
are_capitals i [] = i == 256
are_capitals i (x ∷ xs) = x == capital_of i && are_capitals (i + 1) xs

-- the number of a word, 0 for one longer than each mnemonic of the table
abbrev pub number_at : List ℕ → ℕ
number_at word = if nat_le (length word) longest_mnemonic then packed word else 0

-- the number of a word; that of a word longer than each mnemonic of the table is 0
abbrev pub IsNumberOf : List ℕ → ℕ → Type 0
IsNumberOf word n = ((length word ≤ longest_mnemonic) × AllPass is_byte word × (n ≡ packed word))
    ⊎ ((longest_mnemonic < length word) × (n ≡ 0))

abbrev pub AreNumbersOf : List (List ℕ) → List ℕ → Type 0
AreNumbersOf [] [] = ⊤
AreNumbersOf [] (n ∷ ns) = ⊥
AreNumbersOf (w ∷ ws) [] = ⊥
AreNumbersOf (w ∷ ws) (n ∷ ns) = IsNumberOf w n × AreNumbersOf ws ns

-- ---- the rows of the code

-- the number is that of the word, which is no longer than this
abbrev pub is_number : ℕ → ℕ → List ℕ → Bool
is_number most n word = n == packed word && (nat_le (length word) most && list_all is_byte word)

-- the numbers of a mnemonic's two forms are those of its text
abbrev pub is_packed : ℕ → Mnemonic → Bool
is_packed most form = is_number most form.short (short_of form.text.now) && is_number most form.long
    (long_of form.text.now)

-- one byte is left for the number of a layer
abbrev pub node_packed : HeaderNode → Bool
node_packed (Must form) = is_packed longest_mnemonic form
node_packed (May form) = is_packed longest_mnemonic form
node_packed (Numbered form) = is_packed (longest_mnemonic - 1) form

abbrev pub nodes_packed : List HeaderNode → Bool
nodes_packed nodes = list_all node_packed nodes

abbrev pub rows_packed : List Row → Bool
rows_packed rows = list_all (λ row. nodes_packed (row_nodes row)) rows

abbrev pub groups_packed : List Subsystem → Bool
groups_packed groups = list_all (λ group. is_packed longest_mnemonic group.first && rows_packed group.rows.now) groups

-- ---- numbers of words that are spellings of rows: `Found` and `Rows` over numbers

abbrev pub IsFormNumber : Mnemonic → ℕ → Type 0
IsFormNumber form n = (n ≡ form.short) ⊎ (n ≡ form.long)

-- the digit of an ARM layer is the last byte
abbrev pub IsNumberedForm : Mnemonic → ℕ → ℕ → Type 0
IsNumberedForm form k n = (1 ≤ k) × (k ≤ most_arm_layers) × (n % 256 ≡ 48 + k) × IsFormNumber form (n / 256)

abbrev pub FitNumbers : List HeaderNode → List ℕ → ℕ → Type 0
FitNumbers [] ns k = (ns ≡ []) × (k ≡ 0)
FitNumbers (Must form ∷ nodes) [] k = ⊥
FitNumbers (Must form ∷ nodes) (n ∷ ns) k = IsFormNumber form n × FitNumbers nodes ns k
FitNumbers (May form ∷ nodes) [] k = FitNumbers nodes [] k
FitNumbers (May form ∷ nodes) (n ∷ ns) k = (IsFormNumber form n × FitNumbers nodes ns k) ⊎ FitNumbers nodes (n ∷ ns) k
FitNumbers (Numbered form ∷ nodes) [] k = FitNumbers nodes [] k
FitNumbers (Numbered form ∷ nodes) (n ∷ ns) k = (IsFormNumber form n × FitNumbers nodes ns k)
    ⊎ (((m : ℕ) × FitNumbers nodes ns m × IsNumberedForm form k n) ⊎ FitNumbers nodes (n ∷ ns) k)

abbrev pub RowNumbers : List Row → List ℕ → Bool → HeaderMeaning → ℕ → Type 0
RowNumbers [] ns query key k = ⊥
RowNumbers (row ∷ rows) ns query key k =
    ((is_query_row row ≡ query) × (key_of_row row ≡ key) × FitNumbers (row_nodes row) ns k) ⊎ RowNumbers rows ns query
    key k

abbrev pub GroupNumbers : List Subsystem → ℕ → List ℕ → Bool → HeaderMeaning → ℕ → Type 0
GroupNumbers [] n ns query key k = ⊥
GroupNumbers (group ∷ groups) n ns query key k =
    (IsFormNumber group.first n × RowNumbers group.rows.now ns query key k) ⊎ GroupNumbers groups n ns query key k
