use Rattle.mainframe.proofs.WelcomeLemmas.{program_welcome}
use Rattle.mainframe.proofs.laws.cards_are_welcome.Goals as goal

pub returns : goal.returns
returns c = program_welcome
