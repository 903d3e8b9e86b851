-- Rows of flags as bits, one for each channel's place.
use Rattle.std.specs.Prelude.{◌≡◌, ℕ, ◌/◌, ◌%◌, ◌^◌, ◌<◌, ◌≤◌, ◌+◌, ◌⊎◌, ◌==◌, Bool, false, List, length}
use Rattle.std.specs.Prelude.{slice_index_or, map, count_by}
use Rattle.std.specs.Int.{bit_at}
use Rattle.std.specs.List.{range_with_len}
use Rattle.sw_base.specs.Limits.{channel_places}

-- whether the bit of a place is set
abbrev pub flag_at : List ℕ → ℕ → Bool
flag_at words at = bit_at (slice_index_or words (at / 64) 0) (at % 64) == 1

unfoldable pub flags_of : List ℕ → List Bool
flags_of words = map (flag_at words) (range_with_len 0 channel_places)

-- no bit behind the last place is set
abbrev pub HasNoMore : List ℕ → Type 0
HasNoMore words = (at : ℕ) → channel_places ≤ at → flag_at words at ≡ false

-- each word has 64 bits
abbrev pub Fit : List ℕ → Type 0
Fit words = (i : ℕ) → slice_index_or words i 0 < 2 ^ 64

abbrev pub row_words : ℕ
row_words = (channel_places + 63) / 64

-- `number` of a row's flags are set
pub record IsRow (words : List ℕ) (number : ℕ) : Type 0 where
  pub size : length words ≡ row_words
  pub count : number ≡ count_by (λ (f : Bool). f) (flags_of words)
  pub fit : Fit words
  pub no_more : HasNoMore words

-- a row, or nothing
pub record IsKept (words : List ℕ) : Type 0 where
  pub size : (length words ≡ 0) ⊎ (length words ≡ row_words)
  pub fit : Fit words
  pub no_more : HasNoMore words
