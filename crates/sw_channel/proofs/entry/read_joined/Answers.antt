use Rattle.sw_channel.proofs.Joined.{joins_first, joins_more, joins_over, joins_none}
use Rattle.sw_channel.proofs.entry.read_joined.Goals as goal

pub channels-init : goal.channels-init
channels-init c whole l = joins_first _ whole _ _ _ l c.begun-position.ensures

pub returns-in-None-clause-found : goal.returns-in-None-clause-found
returns-in-None-clause-found c whole l = joins_over _ whole _ _ (c.channels.invariant whole l) c.in-None.ensures.none

pub returns-in_default-clause-none : goal.returns-in_default-clause-none
returns-in_default-clause-none c whole l =
    joins_none _ whole _ _ _ (c.channels.invariant whole l) c.in-Some.ensures.found c.in_default.ensures.none

pub channels-preserved : goal.channels-preserved
channels-preserved c whole l =
    joins_more _ whole _ _ _ _ _ _ (c.channels.invariant whole l) c.in-Some.ensures.found c.in-Some-read_channel.ensures.found
    (c.with_channel-position.ensures c.args.count)
