use Rattle.std.proofs.Common.{subst, inl}
use Rattle.sw_channels.specs.EngineMessages.{IsSubAddress}
use Rattle.sw_channels.proofs.EngineAsksLemmas.{by-so}
use Rattle.sw_channels.proofs.synchronous.join_at.Goals as goal

pub returns-then-is_sub_address : goal.returns-then-is_sub_address
returns-then-is_sub_address g c =
    by-so g.D.Desk.passes _ _ _ _
    (c.join.ensures c.args.message.now.parameter) (λ asked joins.
    inl (subst IsSubAddress c.as_slice.ensures (c.is_sub_address.ensures.0 c.if-is_sub_address.true), joins))
