-- Mnemonics as the standard writes them (SCPI-1999, volume 1, 6.2.1): the short form in capitals, and what the long
-- form adds in small letters. There is no other form, and case doesn't matter: forms are compared in capitals.
use Rattle.std.specs.Prelude.{ℕ, List, [], ◌∷◌, map, if◌then◌else◌}
use Rattle.std.specs.Char.{is_ascii_lowercase, to_ascii_uppercase}

-- the bytes before the first small letter
abbrev pub short_of : List ℕ → List ℕ
short_of [] = []
short_of (b ∷ bs) = if is_ascii_lowercase b then [] else to_ascii_uppercase b ∷ short_of bs

-- all of it
abbrev pub long_of : List ℕ → List ℕ
long_of text = map to_ascii_uppercase text
