-- The settings as callers see them.
use Rattle.sw_trigger.specs.Settings.{SettingsSeen, IsInRange}
use Rattle.sw_trigger.specs.declared.settings.Settings.TheInside.{Inside}

abbrev pub setup_of : Inside → SettingsSeen
setup_of s = record {
  arms = s.arms;
  trigger = s.trigger;
  list = s.list.items;
  meter = s.meter;
  points = s.points;
  settle_us = s.settle_us;
}

abbrev pub HoldsRange : Inside → Type 0
HoldsRange s = IsInRange (setup_of s)
