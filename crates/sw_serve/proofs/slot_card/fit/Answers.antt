use Rattle.std.proofs.Common.{sym, ap, subst}
use Rattle.sw_core.specs.Opening.{IsFresh}
use Rattle.sw_core.specs.Panel.{Panel}
use Rattle.sw_serve.specs.SlotCards.{cards_seen, relay_seen, meter_seen}
use Rattle.sw_serve.proofs.SlotCardsLemmas.{fresh-cards}
use Rattle.sw_serve.proofs.FittingLemmas.{fitted, never_refused, bare_like, bare_opening}
use Rattle.sw_serve.proofs.slot_card.fit.Goals as goal

pub returns-in-Err-clause-welcome : goal.returns-in-Err-clause-welcome
returns-in-Err-clause-welcome g c = λ welcome.
    absurd (never_refused c.in_ok-core.core.seen _ c.in-Err.slot c.in-Err.why
    (bare_like _ _ (ap (λ (x : Panel). x.cage) c.in_ok-core.ensures.seen) bare_opening) welcome c.in-Err.ensures.refused)

pub returns-clause-fitted : goal.returns-clause-fitted
returns-clause-fitted g c = fitted c.in_ok-core.core.seen c.install_all.new.core.seen _ c.in_ok-core.ensures.seen c.in_default.ensures.taken

pub returns-clause-fresh : goal.returns-clause-fresh
returns-clause-fresh g c =
    let law = c.runs_go_on.ensures in
    let made = subst IsFresh (sym c.in_ok-core.ensures.seen) (law.made 0 0) in
    let cards = cards_seen (relay_seen g.R.Board.the_serial g.R.Board.failed g.R.Relay.groups g.R.Relay.closed)
    (meter_seen g.M.Board.the_serial g.M.Board.failed g.M.Meter.last_reading) c.args.cards.items in
    fresh-cards law c.in_ok-core.core.seen c.install_all.new.core.seen cards c.in_default.ensures.taken made
