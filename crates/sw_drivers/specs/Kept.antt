-- A board and the account of its coils.
use Rattle.std.specs.Prelude.{ℕ, Bool, List, IsTrue, false, slice_index_or}

-- where the last cut was confirmed, each coil that is on is in the account
abbrev pub HoldsOn : Bool → (ℕ → Bool) → List Bool → Type 0
HoldsOn sure on coils = IsTrue sure → (ch : ℕ) → IsTrue (on ch) → IsTrue (slice_index_or coils ch false)
