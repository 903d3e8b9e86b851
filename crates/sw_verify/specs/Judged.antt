-- What verified code is.
use Rattle.std.specs.Prelude.{◌≡◌, ℕ, true, List, length}
use Rattle.sw_base.specs.Layout.{Layout, has_meter}
use Rattle.sw_trigger.specs.Agenda.{Item}
use Rattle.sw_trigger.specs.Counts.{awaiting, reads}
use Rattle.sw_code.specs.Range.{Program}
use Rattle.sw_code.specs.Code.{Unfolds}
use Rattle.sw_verify.specs.Channels.{Channels}
use Rattle.sw_verify.specs.Sound.{IsSound}

-- a code, how many things it awaits, and how many readings it makes
pub record Judged : Type 0 where
  pub code : Program
  pub bound : ℕ
  pub readings : ℕ

-- the counts are those of what the code unfolds to
pub record HasCounts (v : Judged) : Type 0 where
  pub items : List Item
  pub unfolds : Unfolds v.code.steps items
  pub bound : v.bound ≡ length (awaiting items)
  pub readings : v.readings ≡ reads items

-- the code unfolds to items that are sound here, its meter is there, and the counts are those of the items
pub record IsVerified (layout : Layout) (closed : Channels) (room : ℕ) (code : Program) (v : Judged) : Type 0 where
  pub same : v.code ≡ code
  pub measured : has_meter layout code.meter ≡ true
  pub items : List Item
  pub unfolds : Unfolds code.steps items
  pub sound : IsSound layout closed room items
  pub bound : v.bound ≡ length (awaiting items)
  pub readings : v.readings ≡ reads items
