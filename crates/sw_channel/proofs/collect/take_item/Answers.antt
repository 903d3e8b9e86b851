use Rattle.std.proofs.Common.{refl}
use Rattle.sw_channel.specs.Grammar.{IsItem}
use Rattle.sw_channel.specs.Seen.{LeadsPart, ends_item, MeansSingle}
use Rattle.sw_channel.proofs.Parts.{leads_known, leads_single, items, item_off}
use Rattle.sw_channel.proofs.Judging.{single_means}
use Rattle.sw_channel.proofs.collect.take_item.Goals as goal

pub returns-in-Some-clause-taken : goal.returns-in-Some-clause-taken
returns-in-Some-clause-taken c =
    let l = c.in-Some.ensures in
    let s : LeadsPart IsItem ends_item MeansSingle c.args.text.now c.in-Some.chan c.in-Some.rest.now =
    leads_single items _ _ _ _ l.0 (item_off 58 _ refl l.1) (single_means c.in-Some.chan) in
    leads_known _ _ _ _ s c.add_channel.ensures.taken

pub returns-clause-taken : goal.returns-clause-taken
returns-clause-taken c = leads_known _ _ _ _ c.in-Some-read_item.ensures.found c.add_item.ensures.taken
