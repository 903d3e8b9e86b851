-- Messages that a server hands to its writers, one after another, and what it notes of them.
use Rattle.std.specs.Prelude.{◌≡◌, Bool, true, false, List, [], ◌∷◌, ◌++◌, Option, Some, None, Result, Ok, Err}
use Rattle.std.specs.Prelude.{if◌then◌else◌}
use Rattle.std.specs.List.{flat_map}
use Rattle.std.specs.Io.KnownBytes.{Appends}
use Rattle.sw_hislip.specs.declared.kind.Kind.{Kind}
use Rattle.sw_core.specs.declared.ask.Sid.{Sid}
use Rattle.sw_channels.specs.declared.step.Sent.{Sent}
use Rattle.sw_session.specs.declared.fault.ServeFault.{ServeFault}
use Rattle.sw_session.specs.declared.fault.ServeFault.TheVariants as Fault
use Rattle.sw_talk.specs.Trace.{Entry, Noted, Leads}
use Rattle.sw_session.specs.ServeWrite.{wire_on, wire_off, Wrote}
use Rattle.sw_session.specs.ServePoint.{Voice, Point}

-- a part of an answer (IVI-6.1, Data and DataEnd)
abbrev pub is_answer_part : Kind → Bool
is_answer_part Kind.Data = true
is_answer_part Kind.DataEnd = true
is_answer_part kind = false

-- the server notes that a message is available for the session right before it hands each part of an answer over
abbrev pub notes_before : Option Sid → Sent → List Entry
notes_before None s = []
notes_before (Some sid) s = if is_answer_part s.message.kind then Noted sid true ∷ [] else []

-- the notes of these messages, as the server gives them to their writers
abbrev pub availability_notes : Option Sid → List Sent → List Entry
availability_notes sid said = flat_map (notes_before sid) said

-- The server gave these messages to their writers, and they are written whole. The engine stays as it is.
pub record HandsOver {E D : Type 0} (u : Voice E D) (a b : Point E D) (said : List Sent) : Type 0 where
  pub engine : b.engine ≡ a.engine
  pub notes : Leads u.passes a.desk (availability_notes (u.protocol.session a.engine) said) b.desk
  pub main : Appends a.main b.main (flat_map (wire_on u.own) said)
  pub side : Appends a.side b.side (flat_map (wire_off u.own) said)

-- the server gave this message to its writer, which took all, or a front part where it fails
pub record HandsOne {E D F : Type 0} (u : Voice E D) (a b : Point E D) (s : Sent) (result : Result (Unit {0}) F)
    : Type 0 where
  pub engine : b.engine ≡ a.engine
  pub notes : Leads u.passes a.desk (notes_before (u.protocol.session a.engine) s) b.desk
  pub main : Wrote result a.main b.main (wire_on u.own s)
  pub side : Wrote result a.side b.side (wire_off u.own s)

-- why a message is not written: its writer failed, or there was no memory for it, and then the server did not give it
-- to its writer
abbrev pub FailsAt : {E D : Type 0} → Voice E D → Point E D → Point E D → Sent → ServeFault → Type 0
FailsAt u a b s Fault.Write = HandsOne u a b s (Err Fault.Write)
FailsAt u a b s Fault.NoMemory = b ≡ a
FailsAt u a b s fault = ⊥

-- the server gave them to their writers up to one that is not written; those before it are written whole
pub record HandsUpTo {E D : Type 0} (u : Voice E D) (a b : Point E D) (said : List Sent) (fault : ServeFault)
    : Type 0 where
  pub whole : List Sent
  pub next : Sent
  pub rest : List Sent
  pub said_is : said ≡ whole ++ next ∷ rest
  pub mid : Point E D
  pub hands : HandsOver u a mid whole
  pub fails : FailsAt u mid b next fault

-- all of them, or up to one that is not written
abbrev pub Hands : {E D : Type 0} → Voice E D → Point E D → Point E D → List Sent → Result (Unit {0}) ServeFault
    → Type 0
Hands u a b said (Ok _) = HandsOver u a b said
Hands u a b said (Err fault) = HandsUpTo u a b said fault
