use Rattle.sw_channel.proofs.Joined.{item_none, joined_none, joined_leads, range_none, range_leads}
use Rattle.sw_channel.proofs.entry.any_entry.Goals as goal

pub returns-in_default-clause-none : goal.returns-in_default-clause-none
returns-in_default-clause-none c = item_none _ c.in_default.ensures.none

pub returns-in_default-read_joined-clause-none : goal.returns-in_default-read_joined-clause-none
returns-in_default-read_joined-clause-none c =
    joined_none _ _ _ c.in-Some.ensures.found c.in_default-strip_prefix.ensures.none (c.in_default-read_joined.ensures.none _ c.in-Some.ensures.found)

pub returns-in_default-strip_prefix-clause-found : goal.returns-in_default-strip_prefix-clause-found
returns-in_default-strip_prefix-clause-found c =
    joined_leads c.args.count _ _ _ _ _ _ c.in-Some.ensures.found c.in_default-strip_prefix.ensures.none
    (c.in-Some-read_joined.ensures.found _ c.in-Some.ensures.found)
    (c.joined_entry.ensures c.args.count)

pub returns-in_default-read_channel-clause-none : goal.returns-in_default-read_channel-clause-none
returns-in_default-read_channel-clause-none c =
    range_none _ _ _ _ c.in-Some.ensures.found c.in-Some-strip_prefix.ensures.found c.in_default-read_channel.ensures.none

pub returns-clause-found : goal.returns-clause-found
returns-clause-found c =
    range_leads c.args.count _ _ _ _ _ _ _ c.in-Some.ensures.found c.in-Some-strip_prefix.ensures.found c.in-Some-read_channel.ensures.found
    c.range_entry.ensures
