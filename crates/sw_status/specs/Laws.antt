-- What the record of StatusModel promises a reader of a status.
use Rattle.std.specs.Prelude.{◌≡◌, ℕ, ◌+◌, ◌-◌, ◌^◌, ◌<◌, ◌≤◌, ◌↔◌, Bool, true, false, nat_lt, nat_le, Some, List, []}
use Rattle.std.specs.Prelude.{◌∷◌, ◌++◌, length, take, slice_get, if◌then◌else◌}
use Rattle.sw_base.specs.Limits.{most_errors}
use Rattle.sw_base.specs.declared.error.ScpiError.{ScpiError}
use Rattle.sw_base.specs.declared.error.ScpiError.TheVariants.{QueueOverflow}
use Rattle.sw_base.specs.declared.terms.StatusGroup.{StatusGroup}
use Rattle.sw_status.specs.Registers.{GroupSeen, IsGroup, group_summary, has_bit, share_bit, low_15, latches}
use Rattle.sw_status.specs.Registers.{event_taken, with_enable, with_ptr, with_ntr, group_preset}
use Rattle.sw_status.specs.Registers.{group_conditioned}
use Rattle.sw_status.specs.StatusModel.{StatusSeen, IsStatus, queued, pushed, popped, cleared, preset, enabled}
use Rattle.sw_status.specs.StatusModel.{with_group, byte_of, asking_of, event_ended, IsSettled}

-- Each entry of the queue after an error is the one in its place once the error is behind the others; but in a queue
-- that was full the last entry that it has room for is -350. There are never more entries.
pub record LosesOnlyToOverflow (errors : List ScpiError) (e : ScpiError) : Type 0 where
  pub oldest : take (most_errors - 1) (queued errors e) ≡ take (most_errors - 1) (errors ++ e ∷ [])
  pub newest : length errors < most_errors → queued errors e ≡ errors ++ e ∷ []
  pub full : length errors ≡ most_errors → slice_get (queued errors e) (most_errors - 1) ≡ Some QueueOverflow
  pub most : length errors ≤ most_errors → length (queued errors e) ≤ most_errors

-- what a queue that no session reads has after these errors: all of them, or where they are too many the first of them
-- and -350 as the newest
abbrev pub held_of : List ScpiError → List ScpiError
held_of came = if nat_le (length came) most_errors then came else take (most_errors - 1) came ++ QueueOverflow ∷ []

-- each bit of the status byte; bits 0 and 1 aren't used
pub record TellsEachBit (s : StatusSeen) (mav : Bool) : Type 0 where
  pub unused_0 : has_bit (byte_of s mav) 0 ≡ false
  pub unused_1 : has_bit (byte_of s mav) 1 ≡ false
  pub queue : has_bit (byte_of s mav) 2 ≡ nat_lt 0 (length s.errors)
  pub questionable : has_bit (byte_of s mav) 3 ≡ group_summary s.questionable
  pub message_available : has_bit (byte_of s mav) 4 ≡ mav
  pub standard_event : has_bit (byte_of s mav) 5 ≡ share_bit s.esr s.ese
  pub operation : has_bit (byte_of s mav) 7 ≡ group_summary s.operation
  pub nothing_enabled : s.sre ≡ 0 → has_bit (byte_of s mav) 6 ≡ false

-- a bit asks for service now that didn't before
abbrev pub NewlyAsks : ℕ → ℕ → Type 0
NewlyAsks before now = (k : ℕ) × (k < 8) × (has_bit now k ≡ true) × (has_bit before k ≡ false)

-- An event counts one service request or none: one exactly where a bit asks for service that didn't at the end of the
-- event before, and none where it ended already.
pub record CountsOnce (s : StatusSeen) : Type 0 where
  pub most : (event_ended s).requests ≤ s.requests + 1
  pub never_falls : s.requests < 2 ^ 56 → s.requests ≤ (event_ended s).requests
  pub rises : s.requests < 2 ^ 56 - 1 → ((event_ended s).requests ≡ s.requests + 1) ↔ NewlyAsks s.asking (asking_of s)
  pub stays : s.requests ≡ 2 ^ 56 - 1 → (event_ended s).requests ≡ 2 ^ 56 - 1
  pub once : event_ended (event_ended s) ≡ event_ended s
  pub settled : IsSettled (event_ended s)

-- each bit of the event register after a condition changed
abbrev pub LatchesEachBit : GroupSeen → ℕ → Type 0
LatchesEachBit g bits =
    (k : ℕ) → k < 15
    → has_bit (group_conditioned g bits).event k ≡ latches g.event g.ptr g.ntr g.condition (low_15 bits) k

-- Under every change of a group bit 15 of its registers stays 0.
pub record KeepsBit15Clear (g : GroupSeen) : Type 0 where
  pub taken : IsGroup (event_taken g)
  pub enable : (bits : ℕ) → IsGroup (with_enable g bits)
  pub ptr : (bits : ℕ) → IsGroup (with_ptr g bits)
  pub ntr : (bits : ℕ) → IsGroup (with_ntr g bits)
  pub reset : IsGroup (group_preset g)
  pub conditioned : (bits : ℕ) → IsGroup (group_conditioned g bits)

-- Under every change a status stays within its limits, the queue's 32 errors among them.
pub record KeepsLimits (s : StatusSeen) : Type 0 where
  pub error : (e : ScpiError) → IsStatus (pushed s e)
  pub read : IsStatus (popped s)
  pub emptied : IsStatus (record s { errors = [] })
  pub event_status : (esr : ℕ) → IsStatus (record s { esr = esr })
  pub event_enable : (ese : ℕ) → IsStatus (record s { ese = ese })
  pub service_enable : (bits : ℕ) → IsStatus (enabled s bits)
  pub group : (which : StatusGroup) (g : GroupSeen) → IsGroup g → IsStatus (with_group s which g)
  pub reset : IsStatus (preset s)
  pub clear : IsStatus (cleared s)
  pub ended : IsStatus (event_ended s)
