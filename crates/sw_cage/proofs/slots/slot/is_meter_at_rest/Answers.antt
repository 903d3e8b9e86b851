use Rattle.std.proofs.Common.{sym, ◌∙◌}
use Rattle.sw_cage.proofs.CardLemmas.{at_rest_is}
use Rattle.sw_cage.proofs.slots.slot.is_meter_at_rest.Goals as goal

pub returns-then-is_meter-clause-rest : goal.returns-then-is_meter-clause-rest
returns-then-is_meter-clause-rest g c t = at_rest_is c.args.card.now.1
    (c.any_closed.ensures.none (c.any_closed.ensures.meter (sym c.is_meter.ensures ∙ c.if-is_meter.true)))
