-- Which sessions are joined changes by their own asks alone.
use Rattle.std.specs.Prelude.{◌≡◌, ◌≢◌, ℕ, Bool, Option}
use Rattle.sw_core.specs.declared.ask.Sid.{Sid}
use Rattle.sw_core.specs.declared.ask.SessionAsk.TheVariants as Ask
use Rattle.sw_core.specs.declared.ask.SessionAnswer.TheVariants.{Joined}
use Rattle.sw_core.specs.Good.{IsGoodPanel}
use Rattle.sw_core.specs.Panel.{Panel}
use Rattle.sw_core.specs.Seen.{WorkSeen, AskSeen, AskSession, AnswerSeen, SaysSession}
use Rattle.sw_core.specs.Sessions.{IsJoined}
use Rattle.sw_core.specs.Step.{Step}

-- A session is joined from its Join on until its own Leave.
pub record SessionsStay : Type 0 where
  -- a session stays joined until it leaves
  pub stays : (p q : Panel) (ask : AskSeen) (failed : Bool) (answer : AnswerSeen) (sid : Sid)
      → Step p ask failed answer q → IsJoined p.sessions sid → ask ≢ AskSession (Ask.Leave sid)
      → IsJoined q.sessions sid
  -- who is answered Joined to a Join is joined then: a good panel has a seat for each session number
  pub joins : (p q : Panel) (failed : Bool) (sid : Sid) (work : Option WorkSeen) → IsGoodPanel p
      → Step p (AskSession Ask.Join) failed (SaysSession (Joined sid) work) q → IsJoined q.sessions sid
  -- who is answered Joined to an Attach was and is joined, under the number asked for
  pub attaches : (p q : Panel) (number : ℕ) (failed : Bool) (sid : Sid) (work : Option WorkSeen)
      → Step p (AskSession (Ask.Attach number)) failed (SaysSession (Joined sid) work) q
      → IsJoined p.sessions sid × IsJoined q.sessions sid × (sid.number ≡ number)
