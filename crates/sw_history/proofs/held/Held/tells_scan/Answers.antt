use Rattle.std.proofs.Common.{sym, subst}
use Rattle.sw_history.specs.declared.waking.WakeScope.{WakeScope}
use Rattle.sw_history.specs.Waking.{TellsScan}
use Rattle.sw_history.proofs.held.Held.tells_scan.Goals as goal

pub returns-in-ScanBy : goal.returns-in-ScanBy
returns-in-ScanBy g c =
    subst (λ (k : WakeScope). TellsScan k c.args.self.now.panel c.awaits_end.result) (sym c.in-ScanBy.is) c.awaits_end.ensures
