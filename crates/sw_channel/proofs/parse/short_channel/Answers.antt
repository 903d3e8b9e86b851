use Rattle.sw_channel.proofs.Parts.{leads_single, leads_double, channels}
use Rattle.sw_channel.proofs.parse.short_channel.Goals as goal

pub returns-in_default : goal.returns-in_default
returns-in_default c = leads_single channels _ _ _ _ c.in_ok-first.ensures c.in_default.ensures.none c.plain_channel.ensures

pub returns : goal.returns
returns c = leads_double channels _ _ _ _ _ _ _ c.in_ok-first.ensures c.in-Some.ensures.found c.in_ok-second.ensures c.paired_channel.ensures
