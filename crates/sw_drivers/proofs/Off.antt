-- Coils that are off, by what a board's answer says.
use Rattle.std.proofs.Common.{◌≡◌, ◌<◌, ◌≤◌, ◌+◌, ◌-◌, ℕ, Bool, false, Result, Ok, Err, OnOk, nat_lt, nat_le, arith, inl, inr}
use Rattle.std.proofs.lemmas.Bool.{cases_Bool}
use Rattle.std.proofs.lemmas.Grind.{common_steps}
use Rattle.sw_drivers.specs.declared.coils.Coils.{Coils}
use Rattle.sw_drivers.specs.Boards.{channel_on}
use Rattle.sw_drivers.specs.Wires.{Fewer}

pub on_ok : {A E : Type 0} {P : Type 0} (r : Result A E) → P → OnOk r P
on_ok (Ok x) p = p
on_ok (Err e) p = tt

-- a coil that is off stays so where none comes on
pub still_off : (old new : ℕ → ℕ → Bool) → Fewer old new → (unit coil : ℕ) → old unit coil ≡ false → new unit coil ≡ false
still_off old new fewer unit coil off = elim (cases_Bool (new unit coil)) [
  | inl on ↦ absurd (let was = fewer unit coil on in grind (arith, common_steps, was, off))
  | inr now ↦ now
]

-- a channel is off whose coil is
pub channel_off : (coils : Coils) (on : ℕ → ℕ → Bool) (ch : ℕ) → on coils.unit (coils.first + ch - 1) ≡ false → channel_on coils on ch ≡ false
channel_off coils on ch off = grind (arith, common_steps, off)

-- all channels are off where their coils are
pub channels_off : (coils : Coils) (on : ℕ → ℕ → Bool)
    → ((coil : ℕ) → coils.first ≤ coil → coil < coils.first + coils.channels → on coils.unit coil ≡ false) → (ch : ℕ) → channel_on coils on ch ≡ false
channels_off coils on off ch = elim (cases_Bool (nat_lt 0 ch)) [
  | inl some ↦ elim (cases_Bool (nat_le ch coils.channels)) [
    | inl few ↦ channel_off coils on ch (off (coils.first + ch - 1) (grind (arith, common_steps, some)) (grind (arith, common_steps, some, few)))
    | inr many ↦ grind (arith, common_steps, many)
  ]
  | inr none ↦ grind (arith, common_steps, none)
]
