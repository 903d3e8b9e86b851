use Rattle.std.proofs.Common.{sym, subst}
use Rattle.sw_core.specs.Opening.{IsFresh}
use Rattle.sw_workers_tests.proofs.shop.opened.Goals as goal

pub returns : goal.returns
returns g c = subst IsFresh (sym c.requires) (c.runs_go_on.ensures.made 0 0)
