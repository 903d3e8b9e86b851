use Rattle.std.proofs.Common.{◌≡◌, ◌++◌, drop}
use Rattle.sw_lex.specs.Elements.{doubled}
use Rattle.sw_core.proofs.listing_check.push_doubled.Given as goal

-- what is appended and what is left are all
abbrev pub invariant-loop-byte : goal.invariant-loop-byte
invariant-loop-byte l = l.text.items ++ doubled 34 (drop l.byte-index l.bytes) ≡ l.fn.text.items ++ doubled 34 l.bytes
