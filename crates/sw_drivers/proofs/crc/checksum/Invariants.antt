use Rattle.std.proofs.Common.{◌≡◌, drop}
use Rattle.sw_drivers.specs.Crc.{sum_after}
use Rattle.sw_drivers.proofs.crc.checksum.Given as goal

abbrev pub invariant-loop-byte : goal.invariant-loop-byte
invariant-loop-byte l = sum_after l.sum (drop l.byte-index l.bytes) ≡ sum_after 65535 l.bytes
