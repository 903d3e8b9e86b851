use Rattle.std.proofs.Common.{◌∙◌, sym, ap}
use Rattle.std.proofs.lemmas.Iterator.Adapters.{YieldsList-from_vec}
use Rattle.std.proofs.lemmas.Iterator.Consumers.{YieldsList-end}
use Rattle.std.proofs.lemmas.List.{map-id}
use Rattle.mainframe.specs.RackCards.{rack_cards}
use Rattle.mainframe.proofs.RackLemmas.{one-more}
use Rattle.mainframe.proofs.rack_cards.cards_of.Goals as goal

-- one card more
pub loop-card-preserved : goal.loop-card-preserved
loop-card-preserved g c = one-more _ _ _ _ _ _ _ c.loop-card.invariant c.in_ok-card_of.ensures c.in_ok-push.ensures.items

-- all of them
pub returns : goal.returns
returns g c =
    let b = c.into_iter-card-iterator.ensures.into_iter_gives in
    let all = YieldsList-end (YieldsList-from_vec c.args.rack.cards.items b.0 (b.1 ∙ c.args.rack.cards.ok.0)) c.loop-card.yielded c.loop-card.card-iterator
    c.loop-card.yielded_by c.next.result c.next.new.self c.in-None.is c.next.ensures.steps in
    c.loop-card.invariant ∙ ap rack_cards (sym (map-id c.loop-card.yielded) ∙ all.0)
