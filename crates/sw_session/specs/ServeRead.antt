-- What a server makes of its reads.
use Rattle.std.specs.Prelude.{◌≡◌, ◌≢◌, ◌⊎◌, ℕ, ◌+◌, Option, None, Some, Result, Ok, Err, option_map}
use Rattle.sw_session.specs.declared.source.Unread.{Unread}
use Rattle.sw_session.specs.declared.source.Unread.TheVariants.{Paused, Failed}

-- a read that gave bytes gives just these, and one that gave an error none
abbrev pub GivesBytes : {E : Type 0} → Result ℕ E → Option (Result ℕ Unread) → Type 0
GivesBytes (Ok n) told = told ≡ Some (Ok n)
GivesBytes (Err e) (Some (Ok n)) = ⊥
GivesBytes (Err e) (Some (Err why)) = Unit {0}
GivesBytes (Err e) None = Unit {0}

-- What an error of this kind means: interrupted, the server reads again; one of the two kinds of a time limit ended the
-- read; it failed.
pub record ComesTo {K : Type 0} (interrupted timed_out would_block kind : K)
    (told : Option (Result ℕ Unread)) : Type 0 where
  pub again : kind ≡ interrupted → told ≡ None
  pub limit : (kind ≡ timed_out) ⊎ (kind ≡ would_block) → told ≡ Some (Err Paused)
  pub failure : kind ≢ interrupted → kind ≢ timed_out → kind ≢ would_block → told ≡ Some (Err Failed)

-- such a step has led to this state
abbrev pub IsLedTo : {A : Type 0} → (A → A → Type 0) → A → Type 0
IsLedTo step new = (old : _) × step old new

-- time limits ended this many reads more: their count rises by as many where it is known, and else it stays unknown
abbrev pub PausesBy : Option ℕ → Option ℕ → ℕ → Type 0
PausesBy old new n = new ≡ option_map (λ m. m + n) old

-- a read that a time limit ended is counted, and no other is
abbrev pub CountsPause : Option ℕ → Option ℕ → Result ℕ Unread → Type 0
CountsPause old new (Ok n) = new ≡ old
CountsPause old new (Err Paused) = PausesBy old new 1
CountsPause old new (Err Failed) = new ≡ old
