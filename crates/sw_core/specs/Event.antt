-- The end of an event.
use Rattle.std.specs.Prelude.{ℕ, ◌+◌, ◌-◌, ◌^◌, min, Bool, not, ◌&&◌, Option, Some, None, if◌then◌else◌}
use Rattle.sw_base.specs.declared.error.ScpiError.{ScpiError}
use Rattle.sw_base.specs.declared.error.ScpiError.TheVariants.{HardwareError}
use Rattle.sw_base.specs.declared.terms.LayerName.{LayerName}
use Rattle.sw_base.specs.declared.terms.LayerName.TheVariants.{Arm, Trigger}
use Rattle.sw_base.specs.declared.terms.StatusGroup.TheVariants.{Operation}
use Rattle.sw_trigger.specs.declared.layer.Awaited.{Awaited}
use Rattle.sw_trigger.specs.declared.layer.Awaited.TheVariants.{Wait, Period, Pause, Read}
use Rattle.sw_status.specs.Registers.{group_conditioned}
use Rattle.sw_status.specs.StatusModel.{StatusSeen, pushed, with_bit, with_group, event_ended}
use Rattle.sw_cage.specs.Cage.{ScanSeen}
use Rattle.sw_cage.specs.Takes.{awaited_now, awaited_after}
use Rattle.sw_core.specs.declared.ask.SessionAnswer.{SessionAnswer}
use Rattle.sw_core.specs.declared.ask.SessionAnswer.TheVariants.{Joined, Full, Stranger, Broken, Done, Missed, Max}
use Rattle.sw_core.specs.declared.ask.SessionAnswer.TheVariants.{Lock, Info, Snapshot, Refused, Hold, Worn}
use Rattle.sw_core.specs.Panel.{Panel, is_running}
use Rattle.sw_core.specs.Seen.{AnswerSeen, SaysSession, SaysInstalled, SaysNotInstalled, SaysEjected, SaysNotEjected}
use Rattle.sw_core.specs.Seen.{SaysTaken, SaysMissed, SaysFailed, SaysBack, SaysWorn}

-- OPERation's condition at a layer's wait: bit 5 at TRIGger's, bit 6 at an ARM layer's (SCPI-1999, 20.2)
abbrev pub waiting_bits : LayerName → ℕ
waiting_bits Trigger = 32
waiting_bits (Arm arm) = 64

-- OPERation's condition at a pause: bit 1 where a reading comes right after it, which it settles for (SCPI-1999, 20.2)
abbrev pub pause_bits : Option Awaited → ℕ
pause_bits (Some Read) = 2
pause_bits after = 0

-- OPERation's condition by what a scan awaits, and right after that: bit 4 at a reading, a layer's bits at its wait,
-- that for its timer's end included
abbrev pub awaited_bits : Option Awaited → Option Awaited → ℕ
awaited_bits (Some Read) after = 16
awaited_bits (Some (Wait name)) after = waiting_bits name
awaited_bits (Some (Period name micros)) after = waiting_bits name
awaited_bits (Some (Pause micros)) after = pause_bits after
awaited_bits None after = 0

-- OPERation's condition of the scan that runs, if any
abbrev pub scan_bits : Option ScanSeen → ℕ
scan_bits scan = awaited_bits (awaited_now scan) (awaited_after scan)

abbrev pub with_operation : StatusSeen → ℕ → StatusSeen
with_operation s bits = with_group s Operation (group_conditioned s.operation bits)

-- an operation that was to be complete is, where no scan runs (IEEE 488.2, 12.5.1)
abbrev pub completed : StatusSeen → Bool → StatusSeen
completed s complete = record s { esr = if complete then with_bit s.esr 0 else s.esr }

-- there is no number above
abbrev pub last_number : ℕ
last_number = 2 ^ 64 - 1

-- the number after one more event
abbrev pub next_number : ℕ → ℕ
next_number n = min last_number (n + 1)

-- The event ends: *OPC completes where no scan runs, OPERation shows what the scan awaits, a service request arises or
-- not, and the mainframe counts the event.
abbrev pub ended : Panel → Panel
ended p = record p {
  status = event_ended (with_operation
      (completed p.status (p.opc_waits && not (is_running p))) (scan_bits p.cage.scan));
  opc_waits = p.opc_waits && is_running p;
  events = next_number p.events;
}

-- an error is queued
abbrev pub erred : Panel → ScpiError → Panel
erred p e = record p { status = pushed p.status e }

-- An ask of no joined session is no event, nor one that the mainframe holds, gives back or can't number. A refusal
-- queues its error before its event ends.
abbrev pub session_concluded : SessionAnswer → Panel → Panel
session_concluded Stranger p = p
session_concluded Broken p = p
session_concluded (Hold ask) p = p
session_concluded (Worn ask) p = p
session_concluded (Refused e) p = ended (erred p e)
session_concluded (Joined sid) p = ended p
session_concluded Full p = ended p
session_concluded (Done text) p = ended p
session_concluded Missed p = ended p
session_concluded (Max n) p = ended p
session_concluded (Lock code) p = ended p
session_concluded (Info exclusive n) p = ended p
session_concluded (Snapshot snapshot number) p = ended p

abbrev pub concluded : AnswerSeen → Panel → Panel
concluded (SaysSession answer work) p = session_concluded answer p
concluded SaysInstalled p = ended p
concluded (SaysNotInstalled refusal) p = ended p
concluded (SaysEjected card) p = ended p
concluded (SaysNotEjected refusal) p = ended p
concluded (SaysTaken work) p = ended p
concluded SaysMissed p = ended p
concluded SaysFailed p = ended (erred p HardwareError)
concluded SaysBack p = p
concluded SaysWorn p = p
