-- Scan code: its steps and their ranges.
use Rattle.std.specs.Prelude.{ℕ, ◌<◌, ◌≤◌, List, length}
use Rattle.std.specs.List.{AllByRecursion}
use Rattle.sw_base.specs.Layout.{Channel}
use Rattle.sw_channel.specs.Positions.{Position, IsPosition}
use Rattle.sw_base.specs.Limits.{most_slots, most_channels, most_counters, most_trigger_count, longest_delay}
use Rattle.sw_code.specs.declared.code.Step.{Step}
use Rattle.sw_code.specs.declared.code.Step.TheVariants as step

-- a code as callers see it
pub record Program : Type 0 where
  pub meter : ℕ
  pub steps : List Step

-- steps of a code, numbered from 0
abbrev pub most_steps : ℕ
most_steps = 8192

-- the numbers of a step are in range; a position keeps its own
abbrev pub IsStep : Step → Type 0
IsStep (step.Set k n) = (k < most_counters) × (1 ≤ n) × (n ≤ most_trigger_count)
IsStep (step.Wait name) = Unit {0}
IsStep (step.Timer name micros) = (1 ≤ micros) × (micros ≤ longest_delay)
IsStep (step.Pause micros) = (1 ≤ micros) × (micros ≤ longest_delay)
IsStep (step.Close p) = Unit {0}
IsStep step.Read = Unit {0}
IsStep (step.Open p) = Unit {0}
IsStep (step.Loop k to) = (k < most_counters) × (to < most_steps)
IsStep step.Halt = Unit {0}

-- a channel's slot and its number are in range
abbrev pub IsInChannelRange : Channel → Type 0
IsInChannelRange c = (1 ≤ c.0) × (c.0 ≤ most_slots) × (1 ≤ c.1) × (c.1 ≤ most_channels)

-- a position with all its channels in range
pub record IsPositionInRange (p : Position) : Type 0 where
  pub position : IsPosition p
  pub channels : AllByRecursion IsInChannelRange p

-- the step's position, if it has one, is one, and its channels are in range
abbrev pub HasPosition : Step → Type 0
HasPosition (step.Close p) = IsPositionInRange p
HasPosition (step.Open p) = IsPositionInRange p
HasPosition _ = Unit {0}

pub record IsProgramInRange (p : Program) : Type 0 where
  pub meter : (1 ≤ p.meter) × (p.meter ≤ most_slots)
  pub length : length p.steps ≤ most_steps
  pub steps : AllByRecursion IsStep p.steps
