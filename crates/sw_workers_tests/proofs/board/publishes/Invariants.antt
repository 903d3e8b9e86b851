use Rattle.sw_core.specs.Seen.{AskExternal, SaysMissed}
use Rattle.sw_workers_tests.proofs.board.publishes.Given as goal

abbrev pub ghosts-publish : goal.ghosts-publish
ghosts-publish g a = record { said = record { number = 0; ask = AskExternal; answer = SaysMissed; pair = a.pair } }
