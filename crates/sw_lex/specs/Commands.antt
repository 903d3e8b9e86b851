-- The commands of one number, and the ranges of their numbers (SCPI-1999, volume 2; IEEE 488.2, 10).
use Rattle.std.specs.Prelude.{ℕ}
use Rattle.sw_base.specs.Layers.{arm_numbered}
use Rattle.sw_base.specs.Limits.{most_slots, most_points, most_arm_count, most_trigger_count}
use Rattle.sw_base.specs.declared.terms.LayerName.{LayerName}
use Rattle.sw_base.specs.declared.terms.LayerName.TheVariants as layers
use Rattle.sw_lex.specs.declared.command.Command.{Command}
use Rattle.sw_lex.specs.declared.command.Command.TheVariants as commands
use Rattle.sw_lex.specs.declared.command.Setting.TheVariants as settings
use Rattle.sw_lex.specs.declared.command.StatusSetting.TheVariants as status
use Rattle.sw_lex.specs.declared.command.Time.{Time}
use Rattle.sw_lex.specs.declared.command.Time.TheVariants as times
use Rattle.sw_lex.specs.declared.table.Numeric.{Numeric}
use Rattle.sw_lex.specs.declared.table.Numeric.TheVariants as whole_ones
use Rattle.sw_lex.specs.declared.table.Family.{Family}
use Rattle.sw_lex.specs.declared.table.Family.TheVariants as families

-- LAYer has the number of an ARM layer; none, which is 0 here, means 1
abbrev pub layer_numbered : Family → ℕ → LayerName
layer_numbered families.Arm number = layers.Arm (arm_numbered number)
layer_numbered families.Trigger number = layers.Trigger

-- the command with this number
abbrev pub of_whole : Numeric → ℕ → ℕ → Command
of_whole whole_ones.EventEnable number n = commands.SetStatus (status.EventEnable n)
of_whole whole_ones.ServiceEnable number n = commands.SetStatus (status.ServiceEnable n)
of_whole (whole_ones.Count family) number n = commands.Set (settings.Count (layer_numbered family number) n)
of_whole whole_ones.ScanMeter number n = commands.Set (settings.ScanMeter n)
of_whole (whole_ones.Enable group) number n = commands.SetStatus (status.Enable group n)
of_whole (whole_ones.PositiveTransition group) number n = commands.SetStatus (status.PositiveTransition group n)
of_whole (whole_ones.NegativeTransition group) number n = commands.SetStatus (status.NegativeTransition group n)
of_whole whole_ones.Points number n = commands.Set (settings.Points n)
of_whole (whole_ones.Slot query) number n = commands.SlotQuery query n

-- the least number that a command takes
abbrev pub least : Numeric → ℕ
least whole_ones.EventEnable = 0
least whole_ones.ServiceEnable = 0
least (whole_ones.Count family) = 1
least whole_ones.ScanMeter = 1
least (whole_ones.Enable group) = 0
least (whole_ones.PositiveTransition group) = 0
least (whole_ones.NegativeTransition group) = 0
least whole_ones.Points = 1
least (whole_ones.Slot query) = 1

-- the greatest
abbrev pub greatest : Numeric → ℕ
greatest whole_ones.EventEnable = 255
greatest whole_ones.ServiceEnable = 255
greatest (whole_ones.Count families.Arm) = most_arm_count
greatest (whole_ones.Count families.Trigger) = most_trigger_count
greatest whole_ones.ScanMeter = most_slots
greatest (whole_ones.Enable group) = 65535
greatest (whole_ones.PositiveTransition group) = 65535
greatest (whole_ones.NegativeTransition group) = 65535
greatest whole_ones.Points = most_points
greatest (whole_ones.Slot query) = most_slots

-- the least time that a layer takes, in microseconds
abbrev pub least_micros : Time → ℕ
least_micros times.Delay = 0
least_micros times.Timer = 1
least_micros times.Settling = 0
