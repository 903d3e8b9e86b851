-- The number for "there is none" is read in one way.
use Rattle.std.proofs.Common.{◌≡◌, ◌⊎◌, ℕ, Bool, false, pos, codes, List, sym, ap, ◌∙◌, subst}
use Rattle.sw_base.specs.Number.{IsExponent, IsMantissa, Written, rounded}
use Rattle.sw_base.proofs.Numerals.{one_exponent, one_mantissa}
use Rattle.sw_drivers.specs.Readings.{IsNan}

same_written : (m n : Written) → m.negative ≡ n.negative → m.whole ≡ n.whole → m.fraction ≡ n.fraction → m.exponent ≡ n.exponent → m ≡ n
same_written m n p q r s = λ i. record { negative = p i; whole = q i; fraction = r i; exponent = s i }

-- the mantissa that stands there, and what follows it
pub nan_mantissa : (text : List ℕ) (m : Written) (rest : List ℕ) → IsMantissa text m rest → m.exponent ≡ pos 0 → (nan : IsNan text)
    → (m ≡ nan.mantissa) × (rest ≡ nan.behind)
nan_mantissa text m rest h bare nan =
    let one = one_mantissa text m rest nan.mantissa nan.behind h nan.read in
    (same_written m nan.mantissa one.0 one.1 one.2 (bare ∙ sym nan.bare), one.3)

pub nan_exponent : (text : List ℕ) (m : Written) (rest : List ℕ) (negative : Bool) (digits after : List ℕ) → IsMantissa text m rest → m.exponent ≡ pos 0
    → IsExponent rest negative digits after → IsNan text
    → (rounded m 9 ≡ pos 9910000000) × (negative ≡ false) × ((digits ≡ codes "37") ⊎ (digits ≡ codes "037"))
nan_exponent text m rest negative digits after h bare e nan =
    let front = nan_mantissa text m rest h bare nan in
    let back = one_exponent nan.behind negative digits after false nan.digits nan.rest
    (subst (λ (x : List ℕ). IsExponent x negative digits after) front.1 e) nan.exponent in
    (ap (λ (x : Written). rounded x 9) front.0 ∙ nan.size, back.0, subst (λ (x : List ℕ). (x ≡ codes "37") ⊎ (x ≡ codes "037")) (sym back.1) nan.tens)
