-- What the first thread of a session leaves to the second one.
use Rattle.std.specs.Prelude.{◌≡◌, ◌+◌, ◌<◌, ℕ, nat_le, Bool, true, false, List, ◌++◌, length, Result, Ok, Err}
use Rattle.sw_connections.specs.declared.side.Refused.{Refused}
use Rattle.sw_connections.specs.declared.side.Refused.TheVariants.{Full, NoMemory}

-- the bytes that wait, and the memory that there is for them
pub record Waiting : Type 0 where
  pub bytes : List ℕ
  pub room : ℕ

-- how many bytes may wait
abbrev pub most_waiting : ℕ
most_waiting = 65536

-- these bytes may wait beside those that do
abbrev pub has_room : Waiting → List ℕ → Bool
has_room w bytes = nat_le (length w.bytes + length bytes) most_waiting

-- why bytes are refused: they are too many, or the memory has to grow for them
abbrev pub Refuses : Waiting → List ℕ → Refused → Type 0
Refuses w bytes Full = has_room w bytes ≡ false
Refuses w bytes NoMemory = (has_room w bytes ≡ true) × (w.room < length w.bytes + length bytes)

-- all of the bytes wait behind the others, or none, and the cause is so
abbrev pub Leaves : Waiting → List ℕ → Result (Unit {0}) Refused → Waiting → Type 0
Leaves old bytes (Ok done) new = (has_room old bytes ≡ true) × (new.bytes ≡ old.bytes ++ bytes)
Leaves old bytes (Err why) new = Refuses old bytes why × (new.bytes ≡ old.bytes)
