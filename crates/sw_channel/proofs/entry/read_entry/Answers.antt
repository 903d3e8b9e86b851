use Rattle.std.proofs.Common.{refl}
use Rattle.sw_channel.proofs.Parts.{item_off}
use Rattle.sw_channel.proofs.Joined.{joins_first, joins_over, joined_leads}
use Rattle.sw_channel.proofs.entry.read_entry.Goals as goal

pub returns-in-Some-clause-found : goal.returns-in-Some-clause-found
returns-in-Some-clause-found c =
    let l = c.in-Some.ensures in
    let one = joins_first c.args.count _ _ _ _ l.0 c.begun.ensures in
    joined_leads c.args.count _ _ _ _ _ _ l.0 (item_off 58 _ refl l.1) (joins_over c.args.count _ _ _ one (item_off 38 _ refl l.1))
    (c.joined_entry.ensures c.args.count)
