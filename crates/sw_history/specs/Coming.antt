-- Which session comes or goes by an ask.
use Rattle.sw_core.specs.declared.ask.SessionAsk.{SessionAsk}
use Rattle.sw_core.specs.declared.ask.SessionAsk.TheVariants as Ask
use Rattle.sw_core.specs.Seen.{AskSeen, AskSession}
use Rattle.sw_history.specs.declared.coming.Coming.{Coming}
use Rattle.sw_history.specs.declared.coming.Coming.TheVariants.{Joins, Attaches, Leaves, Nobody}

abbrev pub session_coming : SessionAsk → Coming
session_coming Ask.Join = Joins
session_coming (Ask.Attach number) = Attaches
session_coming (Ask.Leave sid) = Leaves sid
session_coming ask = Nobody

-- a session's own asks alone bring it or take it away
abbrev pub coming_of : AskSeen → Coming
coming_of (AskSession ask) = session_coming ask
coming_of ask = Nobody
