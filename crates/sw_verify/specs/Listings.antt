-- The judgement of a listing: whether its scan may be done with these cards, while these channels are closed (own).
use Rattle.std.specs.Prelude.{◌≡◌, ◌≢◌, ℕ, Bool, true, false, List, ◌++◌, Ok, Err, ◌⊎◌, codes, decimal}
use Rattle.sw_base.specs.Layout.{Layout, Channel}
use Rattle.sw_code.specs.declared.fault.ListError.{ListError}
use Rattle.sw_code.specs.Range.{Program}
use Rattle.sw_code.specs.Reading.{code_in, fault_name}
use Rattle.sw_verify.specs.declared.refusal.Refusal.{Refusal}
use Rattle.sw_verify.specs.declared.refusal.Refusal.TheVariants.{NoMemory}
use Rattle.sw_verify.specs.Channels.{is_among}
use Rattle.sw_verify.specs.Check.{refusal_number, refusal_name}
use Rattle.sw_verify.specs.Judged.{Judged, IsVerified}
use Rattle.sw_verify.specs.Denied.{IsDenied}

abbrev pub accepted_line : ℕ → ℕ → List ℕ
accepted_line bound readings = codes "ok bound " ++ (decimal bound ++ (codes " readings " ++ decimal readings))

abbrev pub refused_line : Refusal → List ℕ
refused_line r = codes "refused " ++ (decimal (refusal_number r) ++ (codes " " ++ refusal_name r))

abbrev pub faulty_line : ListError → List ℕ
faulty_line e = codes "line " ++ (decimal e.line ++ (codes ": " ++ fault_name e.kind))

-- The text lists a code that unfolds to items that are sound here, and the line has their counts.
pub record IsAccepted (layout : Layout) (closed : List Channel) (room : ℕ) (text line : List ℕ) : Type 0 where
  pub code : Program
  pub listed : code_in text ≡ Ok code
  pub judged : Judged
  pub verified : IsVerified layout (is_among closed) room code judged
  pub told : line ≡ accepted_line judged.bound judged.readings

-- The text lists a code, and the line names the first cause for which the check refuses it here. Lack of memory is
-- none: it says nothing of a listing.
pub record IsRefusedListing (layout : Layout) (closed : List Channel) (room : ℕ) (text line : List ℕ) : Type 0 where
  pub code : Program
  pub listed : code_in text ≡ Ok code
  pub cause : Refusal
  pub denied : IsDenied layout (is_among closed) room code cause
  pub named : cause ≢ NoMemory
  pub told : line ≡ refused_line cause

-- The text lists no code, and the line names its first fault.
pub record IsFaulty (text line : List ℕ) : Type 0 where
  pub error : ListError
  pub listed : code_in text ≡ Err error
  pub told : line ≡ faulty_line error

-- the judgement of a text
abbrev pub Says : Layout → List Channel → ℕ → Bool → List ℕ → List ℕ → Type 0
Says layout closed room true text line = IsAccepted layout closed room text line
Says layout closed room false text line = IsRefusedListing layout closed room text line ⊎ IsFaulty text line
