-- Labels as the code keeps them.
use Rattle.std.specs.Prelude.{ℕ, List, map}
use Rattle.arrayvec.specs.ArrayVec.{ArrayVec}

abbrev pub names_of : List (ArrayVec ℕ) → List (List ℕ)
names_of labels = map (λ label. label.items) labels
