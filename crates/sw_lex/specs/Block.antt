-- Blocks as answers (IEEE 488.2, 8.7.9).
use Rattle.std.specs.Prelude.{ℕ, ◌+◌, List, ◌∷◌, ◌++◌, length, decimal}

-- a definite block: `#`, a digit that counts the digits of the length, the length, and the bytes
abbrev pub block_of : List ℕ → List ℕ
block_of bytes = 35 ∷ (48 + length (decimal (length bytes))) ∷ (decimal (length bytes) ++ bytes)
