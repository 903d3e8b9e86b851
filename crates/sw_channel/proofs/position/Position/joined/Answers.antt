use Rattle.std.proofs.Common.{◌≡◌, ◌<◌, false, sym, ap, ◌∙◌, arith, List, length}
use Rattle.sw_base.specs.Layout.{Channel}
use Rattle.sw_channel.specs.Positions.{is_among, most_joined}
use Rattle.sw_channel.specs.PositionSeen.{position_of}
use Rattle.sw_channel.proofs.Joining.{joined_holds}
use Rattle.sw_channel.proofs.position.Position.joined.Goals as goal

pub invariant_of-result : goal.invariant_of-result
invariant_of-result c =
    let free : is_among (position_of c.self.inside) c.args.chan ≡ false = ap (λ (l : List Channel). is_among l c.args.chan) c.self.view_is
    ∙ sym c.contains.ensures ∙ c.if-contains.false in
    let few : c.self.inside.len < most_joined = omega (arith, c.if-len-ge-MOST.false, c.len.ensures.len, ap length c.self.view_is, c.self.invariant.len) in
    joined_holds c.self.inside c.args.chan c.self.invariant free few
