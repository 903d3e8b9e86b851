use Rattle.sw_channel.proofs.Parts.{none_first, none_second, leads_single, leads_double, channels}
use Rattle.sw_channel.proofs.parse.any_channel.Goals as goal

pub returns-in_default-clause-none : goal.returns-in_default-clause-none
returns-in_default-clause-none c = none_first channels _ c.in_default.ensures.none

pub returns-in_default-strip_prefix-clause-found : goal.returns-in_default-strip_prefix-clause-found
returns-in_default-strip_prefix-clause-found c =
    leads_single channels _ _ _ _ c.in-Some.ensures.found c.in_default-strip_prefix.ensures.none c.plain_channel.ensures

pub returns-in_default-read_number-clause-none : goal.returns-in_default-read_number-clause-none
returns-in_default-read_number-clause-none c =
    none_second channels _ _ _ _ c.in-Some.ensures.found c.in-Some-strip_prefix.ensures.found c.in_default-read_number.ensures.none

pub returns-clause-found : goal.returns-clause-found
returns-clause-found c =
    leads_double channels _ _ _ _ _ _ _ c.in-Some.ensures.found c.in-Some-strip_prefix.ensures.found c.in-Some-read_number.ensures.found
    c.paired_channel.ensures
