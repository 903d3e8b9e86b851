use Rattle.std.proofs.Common.{◌≡◌, drop}
use Rattle.sw_rack.specs.Keys.{named}
use Rattle.sw_rack.proofs.key.named_among.Given as goal

abbrev pub invariant-loop-key : goal.invariant-loop-key
invariant-loop-key l = named (drop l.key-index l.keys) l.name ≡ named l.keys l.name
