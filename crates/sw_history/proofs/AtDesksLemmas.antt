-- What a desk has.
use Rattle.std.proofs.Common.{◌≡◌, ℕ, true, Option, None, Some, refl, ap}
use Rattle.sw_history.specs.Held.{is_desk}

none_is : (o : Option ℕ) → is_desk o ≡ true → (d : ℕ) × (o ≡ Some d)
none_is None h = absurd (cc h)
none_is (Some d) h = (d, refl)

pub some_desk : (o : Option ℕ) → is_desk o ≡ true → (d : ℕ) × (o ≡ Some d)
some_desk o h = none_is o h

pub desk_is : (o : Option ℕ) (d : ℕ) → o ≡ Some d → is_desk o ≡ true
desk_is o d e = ap is_desk e
