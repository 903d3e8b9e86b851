use Rattle.std.proofs.Common.{◌≡◌, drop}
use Rattle.sw_rack.specs.Templates.{rendered}
use Rattle.sw_rack.proofs.Rendering.{goes_on}
use Rattle.sw_rack.proofs.template.rendered.Given as goal

abbrev pub invariant-loop-byte : goal.invariant-loop-byte
invariant-loop-byte l =
    goes_on l.channel l.is_within l.sent.items l.word.items (drop l.byte-index l.byte-items) ≡ rendered l.channel l.byte-items
