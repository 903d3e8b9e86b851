-- Registers of bits, and the five registers of a status group (SCPI-1999, 20).
use Rattle.std.specs.Prelude.{ℕ, zero, suc, ◌+◌, ◌^◌, ◌<◌, Bool, not, ◌==◌, ◌&&◌, ◌||◌, bit_and, if◌then◌else◌}
use Rattle.std.specs.Int.{bit_at}

-- bit k of the register is 1
abbrev pub has_bit : ℕ → ℕ → Bool
has_bit bits k = bit_at bits k == 1

-- the register of w bits in which those bits are 1 that pass the test
unfoldable pub register : ℕ → (ℕ → Bool) → ℕ
register zero test = 0
register (suc w) test = register w test + (if test w then 2 ^ w else 0)

-- some bit is 1 in both
abbrev pub share_bit : ℕ → ℕ → Bool
share_bit a b = not (bit_and a b == 0)

-- without bit 15, which is always 0
abbrev pub low_15 : ℕ → ℕ
low_15 bits = bit_and bits 0x7fff

-- the registers of a group
pub record GroupSeen : Type 0 where
  pub condition : ℕ
  pub event : ℕ
  pub enable : ℕ
  pub ptr : ℕ
  pub ntr : ℕ

-- bit 15 of each register is 0
pub record IsGroup (g : GroupSeen) : Type 0 where
  pub condition : g.condition < 2 ^ 15
  pub event : g.event < 2 ^ 15
  pub enable : g.enable < 2 ^ 15
  pub ptr : g.ptr < 2 ^ 15
  pub ntr : g.ntr < 2 ^ 15

-- after STATus:PRESet: nothing is enabled, and each bit that rises is an event
abbrev pub group_preset : GroupSeen → GroupSeen
group_preset g = record g { enable = 0; ptr = 0x7fff; ntr = 0 }

-- at the start
abbrev pub first_group : GroupSeen
first_group = record { condition = 0; event = 0; enable = 0; ptr = 0x7fff; ntr = 0 }

-- after the event register was read, or *CLS
abbrev pub event_taken : GroupSeen → GroupSeen
event_taken g = record g { event = 0 }

abbrev pub with_enable : GroupSeen → ℕ → GroupSeen
with_enable g bits = record g { enable = low_15 bits }

abbrev pub with_ptr : GroupSeen → ℕ → GroupSeen
with_ptr g bits = record g { ptr = low_15 bits }

abbrev pub with_ntr : GroupSeen → ℕ → GroupSeen
with_ntr g bits = record g { ntr = low_15 bits }

-- the summary bit: some event is set and enabled
abbrev pub group_summary : GroupSeen → Bool
group_summary g = share_bit g.event g.enable

-- Bit k of the event register once the condition was old and is new: it was set, or the condition rose from 0 to 1
-- where PTRansition has the bit, or fell from 1 to 0 where NTRansition has it.
abbrev pub latches : ℕ → ℕ → ℕ → ℕ → ℕ → ℕ → Bool
latches event ptr ntr old new k =
    has_bit event k
    || ((not (has_bit old k) && has_bit new k && has_bit ptr k)
    || (has_bit old k && not (has_bit new k) && has_bit ntr k))

-- the event register once the condition was old and is new
unfoldable pub latched : ℕ → ℕ → ℕ → ℕ → ℕ → ℕ
latched event ptr ntr old new = register 15 (latches event ptr ntr old new)

-- the group once its condition is new
abbrev pub group_conditioned : GroupSeen → ℕ → GroupSeen
group_conditioned g bits =
    let new = low_15 bits in
    record g { condition = new; event = latched g.event g.ptr g.ntr g.condition new }
