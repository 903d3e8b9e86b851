use Rattle.std.proofs.Common.{rules, ◌≡◌, ◌∙◌, true, None, slice_index_or, ap, subst, sym}
use Rattle.sw_cage.specs.Cards.{meters_of}
use Rattle.sw_history.specs.Closing.{EndsAtRest}
use Rattle.sw_history.specs.Held.{Locked}
use Rattle.sw_workers.specs.Halves.{StayJoined}
use Rattle.sw_workers.proofs.closing.close_held.Goals as goal

pub returns-clause-cards : goal.returns-clause-cards
returns-clause-cards g c =
    let seen : Locked _ = c.take_spare.new.self in
    let at_rest : c.is_at_rest.result ≡ true = search rules in
    let counted : c.number-events.result ≡ seen.panel.events = search rules in
    record {
      panel = seen.panel;
      history = seen.history;
      leads = c.has_history.ensures.leads;
      rests = subst (λ (l : Locked _). EndsAtRest g.H.Recording.first l.history l.panel) (sym c.take_spare.ensures.same) (c.is_at_rest.ensures at_rest);
      fresh = c.has_history.ensures.fresh;
      reached = c.has_history.ensures.reached;
      count = counted;
      by_slot = search rules;
    }

pub returns-clause-came : goal.returns-clause-came
returns-clause-came g c =
    let same : meters_of c.take_cards-cards.result.items ≡ meters_of c.take_spare.new.self.cards = search rules in
    λ place card there. c.has_history.ensures.came place card (ap (λ cards. slice_index_or cards place None) (sym same) ∙ there)

pub returns-clause-joined : goal.returns-clause-joined
returns-clause-joined g c =
    subst (λ (l : Locked _). StayJoined l.panel c.take_cards-cards.new.held.panel)
    (c.last_part-part.ensures.same ∙ c.number-events.ensures.same ∙ c.take_spare.ensures.same) c.take_cards-cards.ensures.joined
