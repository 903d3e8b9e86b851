-- Drivers and sources of which one call fails: the calls that are left until then, and what one call does.
use Rattle.std.specs.Prelude.{◌≡◌, ℕ, ◌-◌, Bool, true, false, not, nat_lt, ◌==◌, Option, Some, None, Result, IsErr}
use Rattle.std.specs.Prelude.{OnOk, if◌then◌else◌}
use Rattle.sw_base.specs.declared.reading.Reading.{Reading}
use Rattle.sw_card.specs.declared.board.CardFault.{CardFault}

-- the calls up to the failing one, after one more call; one that does not count is none of them
abbrev pub left_after : Bool → Option ℕ → Option ℕ
left_after false left = left
left_after true None = None
left_after true (Some left) = if nat_lt 1 left then Some (left - 1) else None

-- the call, which counts or does not, is the failing one
abbrev pub is_failing : Bool → Option ℕ → Bool
is_failing false left = false
is_failing true None = false
is_failing true (Some left) = left == 1

-- One call through the fuse of closings, by what a call of the driver behind it does and leaves driven: it passes, but
-- at the failing closing it reports a fault, and the driver behind it got the call all the same.
pub record DrivesByFuse {D : Type 0}
    (drives : D → ℕ → Bool → Result (Unit {0}) CardFault → D → Type 0) (driven : D → ℕ → Bool)
    (old : D × Option ℕ) (ch : ℕ) (on : Bool) (result : Result (Unit {0}) CardFault) (new : D × Option ℕ) : Type 0 where
  pub counted : new.1 ≡ left_after on old.1
  pub passes : is_failing on old.1 ≡ false → drives old.0 ch on result new.0
  pub reports : is_failing on old.1 ≡ true → IsErr result
  pub asks : is_failing on old.1 ≡ true → (asked : Result (Unit {0}) CardFault)
      × (drives old.0 ch on asked new.0 × OnOk asked (driven new.0 ch ≡ on))

-- One call through the fuse of openings, by what a call of the driver behind it does: it passes, but at the failing
-- opening it reports a fault, and the driver behind it stays as it was.
pub record DrivesByOpenFuse {D : Type 0} (drives : D → ℕ → Bool → Result (Unit {0}) CardFault → D → Type 0)
    (old : D × Option ℕ) (ch : ℕ) (on : Bool) (result : Result (Unit {0}) CardFault) (new : D × Option ℕ) : Type 0 where
  pub counted : new.1 ≡ left_after (not on) old.1
  pub passes : is_failing (not on) old.1 ≡ false → drives old.0 ch on result new.0
  pub reports : is_failing (not on) old.1 ≡ true → IsErr result
  pub stays : is_failing (not on) old.1 ≡ true → new.0 ≡ old.0

-- One call through the fuse of readings, by what a call of the source behind it does: it passes, but at the failing
-- reading it reports a fault, and the source behind it stays as it was.
pub record SamplesByFuse {S : Type 0} (samples : S → Result Reading CardFault → S → Type 0)
    (old : S × Option ℕ) (result : Result Reading CardFault) (new : S × Option ℕ) : Type 0 where
  pub counted : new.1 ≡ left_after true old.1
  pub passes : is_failing true old.1 ≡ false → samples old.0 result new.0
  pub reports : is_failing true old.1 ≡ true → IsErr result
  pub stays : is_failing true old.1 ≡ true → new.0 ≡ old.0
