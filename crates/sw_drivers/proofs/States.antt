-- The states in a board's answer.
use Rattle.std.proofs.Common.{◌≡◌, ◌⊎◌, ◌+◌, ◌∷◌, ℕ, List, length, ◌∙◌, arith, inl, inr}
use Rattle.std.proofs.lemmas.List.{take_all, take_at, drop-take}
use Rattle.std.proofs.lemmas.Slice.{between_is}
use Rattle.std.specs.List.{between}
use Rattle.std.specs.Int.{w16, to_le_bytes}
use Rattle.sw_drivers.specs.declared.frame.Wrapping.{Wrapping as Wrapped}
use Rattle.sw_drivers.specs.declared.frame.Wrapping.TheVariants.{Tcp, Rtu}
use Rattle.sw_drivers.specs.Crc.{crc_of}
use Rattle.sw_drivers.specs.Frames.{tells, wrapped}

pub told_tcp : (number unit count size : ℕ) (states : List ℕ) → length states ≡ size → between 9 (9 + size) (wrapped Tcp number (unit ∷ tells count states)) ≡ states
told_tcp number unit count size states e =
    let all = wrapped Tcp number (unit ∷ tells count states) in
    between_is all 9 (9 + size) ∙ drop-take 9 size all ∙ take_all size states (omega (arith, e))

pub told_rtu : (number unit count size : ℕ) (states : List ℕ) → length states ≡ size → between 3 (3 + size) (wrapped Rtu number (unit ∷ tells count states)) ≡ states
told_rtu number unit count size states e =
    let all = wrapped Rtu number (unit ∷ tells count states) in
    between_is all 3 (3 + size) ∙ drop-take 3 size all ∙ take_at states (to_le_bytes w16 (crc_of (unit ∷ tells count states))) size e

-- where the states stand in the answer that tells them
pub told_at : (wrapping : Wrapped) (number unit count at size : ℕ) (states : List ℕ) → ((wrapping ≡ Tcp) × (at ≡ 9)) ⊎ ((wrapping ≡ Rtu) × (at ≡ 3))
    → length states ≡ size → between at (at + size) (wrapped wrapping number (unit ∷ tells count states)) ≡ states
told_at wrapping number unit count at size states (inl (w, a)) e = rw (w, a) (told_tcp number unit count size states e)
told_at wrapping number unit count at size states (inr (w, a)) e = rw (w, a) (told_rtu number unit count size states e)
