use Rattle.std.proofs.Common.{List, subst}
use Rattle.std.specs.List.{AllByRecursion}
use Rattle.sw_base.specs.Layout.{Channel}
use Rattle.sw_verify.specs.Channels.{is_among}
use Rattle.sw_verify.specs.Sound.{CanCloseEach}
use Rattle.sw_core.proofs.ScanCheckingLemmas.{free_none}
use Rattle.sw_core.proofs.scan_checking.blocked_channel.Goals as goal

pub returns-in-None : goal.returns-in-None
returns-in-None c =
    free_none c.args.layout.now c.args.closed.items c.args.positions.now
    (subst (λ (l : List Channel). AllByRecursion (CanCloseEach c.args.layout.now (is_among l)) c.args.positions.now) c.as_slice.ensures.value
    c.in-None.ensures.free)
