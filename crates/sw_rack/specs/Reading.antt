-- What a reading gives: a value, or the first fault with its word.
use Rattle.std.specs.Prelude.{◌≡◌, ℕ, List, Result, Ok, Err, string_bytes}
use Rattle.sw_rack.specs.declared.cause.Cause.{Cause}
use Rattle.sw_rack.specs.declared.cause.ReadError.{ReadError}
use Rattle.sw_rack.specs.declared.cause.ReadError.TheVariants as errors

abbrev pub Miss : Type 0
Miss = Cause × List ℕ

-- one reading after the other: the first fault ends it
infixl 10 ◌>>=◌
abbrev pub ◌>>=◌ : {A B E : Type 0} → Result A E → (A → Result B E) → Result B E
(Ok x) >>= f = f x
(Err e) >>= f = Err e

-- what a function returned, seen by view, is what reading gives, unless memory ran out
abbrev pub Fails : {Y : Type 0} → ReadError → Result Y Miss → Type 0
Fails errors.Memory read = Unit {0}
Fails (errors.Fault cause word) read = read ≡ Err (cause, string_bytes word)

abbrev pub Gives : {X Y : Type 0} → (X → Y) → Result X ReadError → Result Y Miss → Type 0
Gives view (Ok x) read = read ≡ Ok (view x)
Gives view (Err e) read = Fails e read
