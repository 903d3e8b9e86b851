-- The versions of the listing format, and what each has (own).
use Rattle.std.specs.Prelude.{ℕ, ◌≤◌, true, false, List, [], ◌∷◌, ◌++◌, codes, decimal, Result, Ok, Err}
use Rattle.std.specs.Prelude.{if◌then◌else◌}
use Rattle.std.specs.List.{join_with_byte}
use Rattle.std.specs.Str.{bytes_eq}
use Rattle.sw_base.specs.Limits.{most_slots, most_arm_layers, most_counters}
use Rattle.sw_channel.specs.Positions.{most_joined}
use Rattle.sw_code.specs.declared.fault.ListFault.{ListFault}
use Rattle.sw_code.specs.declared.fault.ListFault.TheVariants.{BadStep}
use Rattle.sw_code.specs.declared.version.Version.{Version}

-- those that are only read, the oldest first
abbrev pub older : List Version
older = record { number = 1; slots = 8; arm_layers = 2; counters = 3; joined = 4; has_timer = false } ∷ []

-- the one that is printed: it has all that the instrument has
abbrev pub newest : Version
newest = record {
  number = 2;
  slots = most_slots;
  arm_layers = most_arm_layers;
  counters = most_counters;
  joined = most_joined;
  has_timer = true;
}

abbrev pub versions : List Version
versions = older ++ newest ∷ []

-- the parts of the first line of a listing
abbrev pub first_parts : Version → List (List ℕ)
first_parts v = codes "scan" ∷ decimal v.number ∷ []

-- the version among these that a first line names
abbrev pub version_among : List Version → List ℕ → Result Version ListFault
version_among [] line = Err BadStep
version_among (v ∷ vs) line =
    if bytes_eq line (join_with_byte 32 (first_parts v)) then Ok v else version_among vs line

abbrev pub version_in : List ℕ → Result Version ListFault
version_in line = version_among versions line

-- what a version has is in the instrument's range, a counter at least
pub record IsVersion (v : Version) : Type 0 where
  pub slots : v.slots ≤ most_slots
  pub arm_layers : v.arm_layers ≤ most_arm_layers
  pub some_counter : 1 ≤ v.counters
  pub counters : v.counters ≤ most_counters
  pub joined : v.joined ≤ most_joined
