-- The limits of the instrument: our own, but for the length of a mnemonic.
use Rattle.std.specs.Prelude.{ℕ, ◌+◌, ◌*◌}

-- slots of a cage, numbered from 1
abbrev pub most_slots : ℕ
most_slots = 16

-- channels of a card, numbered from 1
abbrev pub most_channels : ℕ
most_channels = 99

-- places for the channels of all slots, each at 100 times its slot and its number
abbrev pub channel_places : ℕ
channel_places = 100 * (most_slots + 1)

-- channels of a list, and positions of a list
abbrev pub most_entries : ℕ
most_entries = 512

-- bytes of a program message, of its expansion and of the payload of a HiSLIP message
abbrev pub most_bytes : ℕ
most_bytes = 65536

-- the most bytes that a session keeps of a program message that comes in parts: the longest one, its line feed, and one
-- byte, which shows a longer one
abbrev pub most_kept : ℕ
most_kept = most_bytes + 2

-- bytes of the answers to one program message, with their separators and the line feed
abbrev pub most_answer_bytes : ℕ
most_answer_bytes = 16777216

-- sessions at a time, numbered from 1
abbrev pub most_sessions : ℕ
most_sessions = 16

-- readings of a scan
abbrev pub most_points : ℕ
most_points = 100000

-- ARM layers, numbered from 1, the outermost
abbrev pub most_arm_layers : ℕ
most_arm_layers = 3

-- counters of scan code, numbered from 0: one for each ARM layer, and one for whole rounds of the list
abbrev pub most_counters : ℕ
most_counters = most_arm_layers + 1

-- how often an ARM layer is passed
abbrev pub most_arm_count : ℕ
most_arm_count = 1000

-- how often the TRIGger layer is passed
abbrev pub most_trigger_count : ℕ
most_trigger_count = 100000

-- the delay of a layer and the time of its timer, in microseconds: an hour
abbrev pub longest_delay : ℕ
longest_delay = 3600000000

-- macros of a session
abbrev pub most_macros : ℕ
most_macros = 64

-- bytes of a macro's body
abbrev pub longest_body : ℕ
longest_body = 4096

-- macros that call one another, the first counted
abbrev pub most_levels : ℕ
most_levels = 8

-- bytes of a mnemonic, a node of a header or a macro's label (IEEE 488.2, 7.6.1)
abbrev pub longest_mnemonic : ℕ
longest_mnemonic = 12

-- errors of the error queue
abbrev pub most_errors : ℕ
most_errors = 32
