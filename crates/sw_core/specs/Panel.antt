-- The whole state of the mainframe as plain data.
use Rattle.std.specs.Prelude.{ℕ, Bool, false, List, is_some}
use Rattle.sw_base.specs.Layout.{Channel, IsExclusive}
use Rattle.sw_verify.specs.declared.setup.Setup.{Setup}
use Rattle.sw_verify.specs.Setup.{setup_at_reset}
use Rattle.sw_status.specs.StatusModel.{StatusSeen, first_status}
use Rattle.sw_cage.specs.Cage.{CageSeen, empty_cage}
use Rattle.sw_cage.specs.Accounts.{Accounts, layout_of, is_closed}
use Rattle.sw_cage.specs.Close.{all_present}
use Rattle.sw_core.specs.Sessions.{SessionsSeen, nobody}

-- opc_waits: an *OPC waits for the end of the scan; events: how many there were
pub record Panel : Type 0 where
  pub cage : CageSeen
  pub sessions : SessionsSeen
  pub status : StatusSeen
  pub settings : Setup
  pub opc_waits : Bool
  pub events : ℕ

-- an empty cage, no session joined, status and settings as at the start, and these numbers of events and scans
abbrev pub opening_at : ℕ → ℕ → Panel
opening_at events scans = record {
  cage = record empty_cage { number = scans };
  sessions = nobody;
  status = first_status;
  settings = setup_at_reset;
  opc_waits = false;
  events = events;
}

abbrev pub opening : Panel
opening = opening_at 0 0

-- the same but for what the slots hold
abbrev pub with_cards : Panel → Accounts → Panel
with_cards p rack = record p { cage = record p.cage { cards = rack } }

-- the cage has each of the channels
abbrev pub has_all : Panel → List Channel → Bool
has_all p chans = all_present (layout_of p.cage.cards) chans

-- a scan runs
abbrev pub is_running : Panel → Bool
is_running p = is_some p.cage.scan

-- only relays of the cage are closed, and no two closed ones are of one group
abbrev pub IsSafe : Panel → Type 0
IsSafe p = IsExclusive (layout_of p.cage.cards) (is_closed p.cage.cards)
