use Rattle.mainframe.specs.RackCards.{rack_cards}
use Rattle.mainframe.proofs.RackLayoutLemmas.{layout_held}
use Rattle.mainframe.proofs.RackWelcomeLemmas.{rack_welcome}
use Rattle.mainframe.proofs.laws.rack_layout_is_the_mainframes.Goals as goal

pub returns : goal.returns
returns c slots size holds =
    let cards = c.args.rack.now.cards.items in
    layout_held slots (rack_cards cards) (rack_welcome cards c.args.rack.now.ascending).apart size holds
