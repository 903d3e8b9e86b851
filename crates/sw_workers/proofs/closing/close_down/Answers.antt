use Rattle.sw_workers.proofs.EjectedLemmas.{closed_open}
use Rattle.sw_workers.proofs.closing.close_down.Goals as goal

pub returns-in-Ok-close_down-clause-open : goal.returns-in-Ok-close_down-clause-open
returns-in-Ok-close_down-clause-open g c =
    closed_open g.H.Recording.first c.in-Ok-close_down.closed.events c.in-Ok-close_down.closed.cards.items c.in-Ok-close_down.ensures.cards
