-- Reading items one after the other, as a loop does.
use Rattle.std.proofs.Common.{◌≡◌, List, ◌++◌, Option, Some, None, option_map, is_some, Result, Ok, refl}
use Rattle.sw_rack.specs.Reading.{Miss, ◌>>=◌}

-- what was read before, and what is still read
abbrev pub with_front : {A : Type 0} → List A → Result (List A) Miss → Result (List A) Miss
with_front front read = read >>= λ xs. Ok (front ++ xs)

pub is_some_map : {A B : Type 0} (f : A → B) (o : Option A) → is_some (option_map f o) ≡ is_some o
is_some_map f None = refl
is_some_map f (Some x) = refl
