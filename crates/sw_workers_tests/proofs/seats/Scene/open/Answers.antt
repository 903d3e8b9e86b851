use Rattle.std.proofs.Common.{sym, subst}
use Rattle.sw_core.specs.Cards.{CoreState}
use Rattle.sw_history.specs.Came.{AllCame}
use Rattle.sw_workers_tests.proofs.seats.Scene.open.Goals as goal

pub new-recorded-requires-clause-came : goal.new-recorded-requires-clause-came
new-recorded-requires-clause-came g c =
    subst (λ (x : CoreState _). AllCame g.H.Equipped.came x.cards) (sym c.core.view_is) c.requires.came
