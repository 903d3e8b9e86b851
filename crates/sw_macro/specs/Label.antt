-- Labels of macros (IEEE 488.2, 10.7): mnemonics (7.6.1), a letter and then letters, digits or underscores, without
-- regard to case.
use Rattle.std.specs.Prelude.{ℕ, Bool, false, ◌&&◌, nat_lt, List, [], ◌∷◌, length, map}
use Rattle.std.specs.List.{list_all}
use Rattle.std.specs.Char.{to_ascii_uppercase}
use Rattle.sw_base.specs.Limits.{longest_mnemonic}
use Rattle.sw_base.specs.Text.{is_letter, is_word}

abbrev pub is_label : List ℕ → Bool
is_label [] = false
is_label (b ∷ bs) = is_letter b && (list_all is_word bs && nat_lt (length bs) longest_mnemonic)

-- labels are compared and kept in capitals
abbrev pub in_capitals : List ℕ → List ℕ
in_capitals bytes = map to_ascii_uppercase bytes
