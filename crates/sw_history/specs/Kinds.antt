-- What an ask is called.
use Rattle.sw_core.specs.declared.ask.SessionAsk.{SessionAsk}
use Rattle.sw_core.specs.declared.ask.SessionAsk.TheVariants as Session
use Rattle.sw_core.specs.Seen.{AskSeen, AskSession, AskInstall, AskEject, AskExternal, AskElapsed, AskFinished}
use Rattle.sw_history.specs.declared.note.AskKind.{AskKind}
use Rattle.sw_history.specs.declared.note.AskKind.TheVariants as Kind

abbrev pub session_kind : SessionAsk → AskKind
session_kind Session.Join = Kind.Join
session_kind (Session.Attach number) = Kind.Attach
session_kind (Session.Attached sid) = Kind.Attached
session_kind (Session.Leave sid) = Kind.Leave
session_kind (Session.Size sid size) = Kind.Size
session_kind (Session.MaxSize sid) = Kind.MaxSize
session_kind (Session.Clear sid) = Kind.Clear
session_kind (Session.Cleared sid) = Kind.Cleared
session_kind (Session.Lock sid key) = Kind.Lock
session_kind (Session.Release sid) = Kind.Release
session_kind (Session.LockInfo sid) = Kind.LockInfo
session_kind (Session.Unit sid command available) = Kind.Unit
session_kind (Session.Fault sid error) = Kind.Fault
session_kind (Session.Bus sid) = Kind.Bus
session_kind (Session.Snapshot sid) = Kind.Snapshot
session_kind (Session.Start sid plan) = Kind.Start

abbrev pub ask_kind : AskSeen → AskKind
ask_kind (AskSession ask) = session_kind ask
ask_kind (AskInstall slot card) = Kind.Install
ask_kind (AskEject slot) = Kind.Eject
ask_kind AskExternal = Kind.External
ask_kind (AskElapsed ticket) = Kind.Elapsed
ask_kind (AskFinished done) = Kind.Finished
