-- The table of headers as a text.
use Rattle.std.proofs.Common.{◌≡◌, ℕ, List, ◌∷◌, ◌++◌, ◌+◌, length, refl, ◌∙◌, ap}
use Rattle.std.specs.Prelude.{codes, decimal}
use Rattle.std.specs.Fmt.{digits}
use Rattle.std.specs.List.{join_with_byte}
use Rattle.sw_lex.specs.Table.{table}
use Rattle.sw_lex.specs.Help.{headers_text, help_lines}

-- its length
size : decimal 1395 ≡ codes "1395"
unfolding digits
size = refl

abbrev lines : List ℕ
lines = join_with_byte 10 (help_lines table)

long : length lines ≡ 1395
unfolding table
long = refl

-- the text begins as a block of that length
pub headed : headers_text ≡ codes "#41395" ++ lines
unfolding headers_text
headed =
    ap (λ (n : ℕ). 35 ∷ (48 + length (decimal n)) ∷ (decimal n ++ lines)) long ∙ ap (λ (d : List ℕ). 35 ∷ (48 + length d) ∷ (d ++ lines)) size
