use Rattle.std.proofs.Common.{length, List, ℕ}
use Rattle.sw_channel.specs.Grammar.{IsChannel}
use Rattle.sw_channel.specs.Seen.{LeadsPart, ends_channel, MeansChannel}
use Rattle.sw_channel.proofs.Joined.{Joins}
use Rattle.sw_channel.proofs.entry.read_joined.Given as goal

abbrev pub invariant-channels : goal.invariant-channels
invariant-channels l =
    (whole : List ℕ) → LeadsPart IsChannel ends_channel MeansChannel whole l.fn.first l.fn.text → Joins l.count whole l.position l.rest

abbrev pub decreases-channels : goal.decreases-channels
decreases-channels l = length l.rest
