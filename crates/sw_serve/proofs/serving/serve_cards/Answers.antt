use Rattle.std.proofs.Common.{ap}
use Rattle.sw_serve.proofs.ClosingLemmas.{fitted-down}
use Rattle.sw_serve.proofs.serving.serve_cards.Goals as goal

pub returns-clause-cards : goal.returns-clause-cards
returns-clause-cards g c = fitted-down _ _ _ _ _ c.in_ok-core.ensures.fitted (ap (λ x. x.seen) c.in_ok-opening.ensures) c.in_ok-closed.ensures.cards
