-- The status of the instrument as one record, and what each call makes of it (IEEE 488.2, 11; SCPI-1999, 20 and 21.8).
use Rattle.std.specs.Prelude.{◌≡◌, ◌<◌, ◌≤◌, ℕ, ◌+◌, ◌-◌, ◌^◌, min, Bool, not, nat_lt, ◌==◌, ◌&&◌, bit_and, bit_or}
use Rattle.std.specs.Prelude.{List, [], ◌∷◌, ◌++◌, length, take, drop, if◌then◌else◌}
use Rattle.sw_base.specs.declared.error.ScpiError.{ScpiError}
use Rattle.sw_base.specs.declared.error.ScpiError.TheVariants.{QueueOverflow}
use Rattle.sw_base.specs.Errors.{event_bit_of}
use Rattle.sw_base.specs.Limits.{most_errors}
use Rattle.sw_status.specs.Registers.{GroupSeen, IsGroup, first_group, event_taken, group_preset, group_summary}
use Rattle.sw_status.specs.Registers.{register, has_bit, share_bit}
use Rattle.sw_base.specs.declared.terms.StatusGroup.{StatusGroup}
use Rattle.sw_base.specs.declared.terms.StatusGroup.TheVariants.{Operation, Questionable}

-- esr, ese and sre are the registers of *ESR?, *ESE and *SRE; asking has the bits of the status byte that asked for
-- service when the last event ended; requests counts the service requests.
pub record StatusSeen : Type 0 where
  pub errors : List ScpiError
  pub esr : ℕ
  pub ese : ℕ
  pub sre : ℕ
  pub operation : GroupSeen
  pub questionable : GroupSeen
  pub asking : ℕ
  pub requests : ℕ

-- at the start, where bit 7 of *ESR? says that the power came on
abbrev pub first_status : StatusSeen
first_status = record {
  errors = [];
  esr = 2 ^ 7;
  ese = 0;
  sre = 0;
  operation = first_group;
  questionable = first_group;
  asking = 0;
  requests = 0;
}

-- the queue has room
abbrev pub has_room : List ScpiError → Bool
has_room errors = nat_lt (length errors) most_errors

-- the queue after an error: where it doesn't fit, the newest entry becomes -350 and the older ones stay (the room is
-- own; SCPI-1999, 21.8.1, asks for two at least)
unfoldable pub queued : List ScpiError → ScpiError → List ScpiError
queued errors e = if has_room errors then errors ++ e ∷ [] else take (most_errors - 1) errors ++ QueueOverflow ∷ []

-- a register with bit k set too
abbrev pub with_bit : ℕ → ℕ → ℕ
with_bit bits k = bit_or bits (2 ^ k)

-- the event status register after an error: its bit is set, and that of -350 where it doesn't fit
unfoldable pub marked : List ScpiError → ℕ → ScpiError → ℕ
marked errors esr e =
    if has_room errors then with_bit esr (event_bit_of e)
    else with_bit (with_bit esr (event_bit_of e)) (event_bit_of QueueOverflow)

-- after an error
abbrev pub pushed : StatusSeen → ScpiError → StatusSeen
pushed s e = record s { errors = queued s.errors e; esr = marked s.errors s.esr e }

-- after the oldest error left
abbrev pub popped : StatusSeen → StatusSeen
popped s = record s { errors = drop 1 s.errors }

-- after *CLS
abbrev pub cleared : StatusSeen → StatusSeen
cleared s =
    record s { errors = []; esr = 0; operation = event_taken s.operation; questionable = event_taken s.questionable }

-- after STATus:PRESet
abbrev pub preset : StatusSeen → StatusSeen
preset s = record s { operation = group_preset s.operation; questionable = group_preset s.questionable }

-- after *SRE, which drops bit 6
abbrev pub enabled : StatusSeen → ℕ → StatusSeen
enabled s bits = record s { sre = bit_and bits 0xbf }

-- the registers of a group
abbrev pub registers_of : StatusSeen → StatusGroup → GroupSeen
registers_of s Operation = s.operation
registers_of s Questionable = s.questionable

-- the status with other registers of a group
abbrev pub with_group : StatusSeen → StatusGroup → GroupSeen → StatusSeen
with_group s Operation g = record s { operation = g }
with_group s Questionable g = record s { questionable = g }

-- 2 ^ k where it is on
abbrev pub flag_of : ℕ → Bool → ℕ
flag_of k on = if on then 2 ^ k else 0

-- The status byte without bits 4 and 6: bit 2 where the queue has an error, bit 3 for QUEStionable, bit 5 for the
-- event status register, bit 7 for OPERation.
unfoldable pub summary_of : StatusSeen → ℕ
summary_of s =
    flag_of 2 (nat_lt 0 (length s.errors)) + flag_of 3 (group_summary s.questionable)
    + flag_of 5 (share_bit s.esr s.ese) + flag_of 7 (group_summary s.operation)

-- The status byte: bit 4 where a message is available, and bit 6 where a bit of it is enabled by *SRE.
unfoldable pub byte_of : StatusSeen → Bool → ℕ
byte_of s mav =
    let shown = summary_of s + flag_of 4 mav in
    shown + flag_of 6 (share_bit shown s.sre)

-- the bits of the status byte that ask for service, bits 4 and 6 aside
abbrev pub asking_of : StatusSeen → ℕ
asking_of s = bit_and (summary_of s) s.sre

-- A service request arises: a bit asks for service that didn't when the last event ended.
unfoldable pub arises : ℕ → ℕ → Bool
arises before now = not (register 8 (λ k. has_bit now k && not (has_bit before k)) == 0)

-- the count rises by one and stays at its greatest
abbrev pub raised : ℕ → ℕ
raised n = min (2 ^ 56 - 1) (n + 1)

-- the count after an event before which these bits asked for service, and after it those
abbrev pub counted_of : ℕ → ℕ → ℕ → ℕ
counted_of n before now = if arises before now then raised n else n

-- after the event
abbrev pub event_ended : StatusSeen → StatusSeen
event_ended s = record s { asking = asking_of s; requests = counted_of s.requests s.asking (asking_of s) }

-- no event is under way: the bits that ask for service are those of the end of the last event
abbrev pub IsSettled : StatusSeen → Type 0
IsSettled s = s.asking ≡ asking_of s

-- what holds of every status
pub record IsStatus (s : StatusSeen) : Type 0 where
  pub errors : length s.errors ≤ most_errors
  pub operation : IsGroup s.operation
  pub questionable : IsGroup s.questionable
  pub requests : s.requests < 2 ^ 56
