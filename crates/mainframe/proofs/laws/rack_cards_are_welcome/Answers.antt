use Rattle.mainframe.proofs.RackWelcomeLemmas.{rack_welcome}
use Rattle.mainframe.proofs.laws.rack_cards_are_welcome.Goals as goal

pub returns : goal.returns
returns c = rack_welcome c.args.rack.now.cards.items c.args.rack.now.ascending
