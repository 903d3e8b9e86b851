use Rattle.std.proofs.Common.{length, ◌-◌, ◌≤◌, ◌≡◌, ◌<◌, ◌^◌, take}
use Rattle.sw_base.specs.Text.{is_digit, AllPass}
use Rattle.sw_channel.specs.Meaning.{number_from}
use Rattle.sw_channel.proofs.parse.read_digits.Given as goal

abbrev pub invariant-loop-n : goal.invariant-loop-n
invariant-loop-n l = record {
  in_range : l.n ≤ length l.text;
  pass : AllPass is_digit (take l.n l.text);
  number : l.n ≤ 9 → (l.value < 10 ^ l.n) × (l.value ≡ number_from 0 (take l.n l.text));
}

abbrev pub decreases-loop-n : goal.decreases-loop-n
decreases-loop-n l = length l.text - l.n
