-- What contracts see of a card: its serial number, how often it failed, its relays, and what it measured last.
use Rattle.std.specs.Prelude.{◌≡◌, ℕ, ◌+◌, ◌-◌, ◌%◌, ◌^◌, Bool, true, false, ◌&&◌, nat_lt, List, [], ◌∷◌, Option, None}
use Rattle.std.specs.Prelude.{Some, slice_index_or, slice_set, is_some, Result, Ok, Err}
use Rattle.sw_base.specs.declared.reading.Reading.{Reading}

-- a card by its own account: each channel's group and whether it is closed, from channel 1 on; of a meter, its last
-- reading, and no channels
pub record Account : Type 0 where
  pub serial : ℕ
  pub failures : ℕ
  pub groups : List ℕ
  pub closed : List Bool
  pub last : Option (Option Reading)

abbrev pub relay_account : ℕ → ℕ → List ℕ → List Bool → Account
relay_account serial failures groups closed =
    record { serial = serial; failures = failures; groups = groups; closed = closed; last = None }

-- a meter card by its own account
pub record MeterAccount : Type 0 where
  pub serial : ℕ
  pub failures : ℕ
  pub last : Option Reading

-- a meter card as one of the cards
abbrev pub of_meter : MeterAccount → Account
of_meter m = record { serial = m.serial; failures = m.failures; groups = []; closed = []; last = Some m.last }

-- whether the card is a meter
abbrev pub is_meter : Account → Bool
is_meter a = is_some a.last

-- whether the channel is closed; there is no channel 0
abbrev pub closed_at : List Bool → ℕ → Bool
closed_at closed ch = nat_lt 0 ch && slice_index_or closed (ch - 1) false

-- the states after the channel is set
abbrev pub set_closed : List Bool → ℕ → Bool → List Bool
set_closed closed ch on = slice_set closed (ch - 1) on

abbrev pub none_closed : List Bool → List Bool
none_closed [] = []
none_closed (x ∷ xs) = false ∷ none_closed xs

-- of equal length, and closed only where the other is
abbrev pub IsWithin : List Bool → List Bool → Type 0
IsWithin [] [] = Unit {0}
IsWithin (x ∷ xs) (y ∷ ys) = (x ≡ true → y ≡ true) × IsWithin xs ys
IsWithin [] (y ∷ ys) = ⊥
IsWithin (x ∷ xs) [] = ⊥

-- the card after its channel is set
abbrev pub with_set : Account → ℕ → Bool → Account
with_set a ch on = record a { closed = set_closed a.closed ch on }

-- the card with no channel closed
abbrev pub at_rest : Account → Account
at_rest a = record a { closed = none_closed a.closed }

-- the call failed: it was counted, and nothing is closed but what might be
pub record IsFault (old : Account) (most : List Bool) (new : Account) : Type 0 where
  pub serial : new.serial ≡ old.serial
  pub groups : new.groups ≡ old.groups
  pub last : new.last ≡ old.last
  pub count : new.failures ≡ (old.failures + 1) % 2 ^ 64
  pub within : IsWithin new.closed most

-- the meter after a measurement
abbrev pub IsMeasured : {E : Type 0} → MeterAccount → Result Reading E → MeterAccount → Type 0
IsMeasured a (Ok r) b = b ≡ record a { last = Some r }
IsMeasured a (Err e) b = b ≡ record a { failures = (a.failures + 1) % 2 ^ 64 }
