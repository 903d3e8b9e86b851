use Rattle.sw_channel.proofs.Parts.{none_first, none_second, leads_single, leads_double, items}
use Rattle.sw_channel.proofs.parse.read_item.Goals as goal

pub returns-in_default-clause-none : goal.returns-in_default-clause-none
returns-in_default-clause-none c = none_first items _ c.in_default.ensures.none

pub returns-in_default-strip_prefix-clause-found : goal.returns-in_default-strip_prefix-clause-found
returns-in_default-strip_prefix-clause-found c =
    leads_single items _ _ _ _ c.in-Some.ensures.found c.in_default-strip_prefix.ensures.none c.single_run.ensures

pub returns-in_default-read_channel-clause-none : goal.returns-in_default-read_channel-clause-none
returns-in_default-read_channel-clause-none c =
    none_second items _ _ _ _ c.in-Some.ensures.found c.in-Some-strip_prefix.ensures.found c.in_default-read_channel.ensures.none

pub returns-clause-found : goal.returns-clause-found
returns-clause-found c =
    leads_double items _ _ _ _ _ _ _ c.in-Some.ensures.found c.in-Some-strip_prefix.ensures.found c.in-Some-read_channel.ensures.found c.range_run.ensures
