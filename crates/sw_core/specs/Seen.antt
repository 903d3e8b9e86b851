-- Asks and answers as plain data: a card appears as its account.
use Rattle.std.specs.Prelude.{◌≡◌, ℕ, ◌-◌, Bool, false, ◌||◌, is_err, Option, None, Some, slice_set}
use Rattle.sw_card.specs.Account.{Account, of_meter}
use Rattle.sw_cage.specs.Accounts.{Accounts}
use Rattle.sw_cage.specs.Change.{any_failed}
use Rattle.sw_cage.specs.Work.{JobSeen, FinishedSeen, IsTold}
use Rattle.sw_cage.specs.declared.job.Ticket.{Ticket}
use Rattle.sw_cage.specs.declared.refusal.InstallRefusal.{InstallRefusal}
use Rattle.sw_cage.specs.declared.refusal.EjectRefusal.{EjectRefusal}
use Rattle.sw_core.specs.declared.ask.SessionAsk.{SessionAsk}
use Rattle.sw_core.specs.declared.ask.SessionAnswer.{SessionAnswer}
use Rattle.sw_core.specs.declared.ask.Work.{Work}
use Rattle.sw_core.specs.declared.ask.Ask.{Ask}
use Rattle.sw_core.specs.declared.ask.Answer.{Answer}

-- work to be carried out outside
pub data WorkSeen : Type 0 where
  Measures : (job : JobSeen) → WorkSeen
  Pauses : (ticket : Ticket) → (micros : ℕ) → WorkSeen

abbrev pub work_seen : {M : _} → Option (Work M) → Option WorkSeen
work_seen None = None
work_seen (Some (Work.Measure job)) = Some (Measures job.1)
work_seen (Some (Work.Pause ticket micros)) = Some (Pauses ticket micros)

pub data AskSeen : Type 0 where
  AskSession : (ask : SessionAsk) → AskSeen
  AskInstall : (slot : ℕ) → (card : Account) → AskSeen
  AskEject : (slot : ℕ) → AskSeen
  AskExternal : AskSeen
  AskElapsed : (ticket : Ticket) → AskSeen
  AskFinished : (done : FinishedSeen) → AskSeen

abbrev pub ask_seen : {R M : _} → Ask R M → AskSeen
ask_seen (Ask.Session ask) = AskSession ask
ask_seen (Ask.Install slot card) = AskInstall slot card.1
ask_seen (Ask.Eject slot) = AskEject slot
ask_seen Ask.External = AskExternal
ask_seen (Ask.Elapsed ticket) = AskElapsed ticket
ask_seen (Ask.Finished done) = AskFinished done.1

pub data AnswerSeen : Type 0 where
  SaysSession : (answer : SessionAnswer) → (work : Option WorkSeen) → AnswerSeen
  SaysInstalled : AnswerSeen
  SaysNotInstalled : (refusal : InstallRefusal) → AnswerSeen
  SaysEjected : (card : Account) → AnswerSeen
  SaysNotEjected : (refusal : EjectRefusal) → AnswerSeen
  SaysTaken : (work : Option WorkSeen) → AnswerSeen
  SaysMissed : AnswerSeen
  SaysFailed : AnswerSeen
  SaysBack : AnswerSeen
  SaysWorn : AnswerSeen

abbrev pub answer_seen : {R M : _} → Answer R M → AnswerSeen
answer_seen (Answer.Session answer work) = SaysSession answer (work_seen work)
answer_seen Answer.Installed = SaysInstalled
answer_seen (Answer.NotInstalled refusal card) = SaysNotInstalled refusal
answer_seen (Answer.Ejected card) = SaysEjected card.1
answer_seen (Answer.NotEjected refusal) = SaysNotEjected refusal
answer_seen (Answer.Taken work) = SaysTaken (work_seen work)
answer_seen Answer.Missed = SaysMissed
answer_seen Answer.Failed = SaysFailed
answer_seen (Answer.Back done) = SaysBack
answer_seen (Answer.Worn ask) = SaysWorn

-- a card or an ask that the mainframe gives back is the one that came
abbrev pub HandsBack : {R M : _} → Ask R M → Answer R M → Type 0
HandsBack (Ask.Install slot card) (Answer.NotInstalled refusal back) = back ≡ card
HandsBack (Ask.Finished done) (Answer.Back back) = back ≡ done
HandsBack ask (Answer.Worn back) = back ≡ ask
HandsBack ask answer = Unit {0}

-- the cards with the meter back in its slot
abbrev pub with_meter : Accounts → FinishedSeen → Accounts
with_meter cards done = slice_set cards (done.slot - 1) (Some (of_meter done.meter))

-- A card failed in the call: a card that stayed in its slot counts other failures than before; or the scan took the
-- return of a meter whose measurement had failed.
abbrev pub failed_in : AskSeen → AnswerSeen → Accounts → Accounts → Bool
failed_in (AskFinished done) SaysBack old new = false
failed_in (AskFinished done) SaysMissed old new = false
failed_in (AskFinished done) answer old new = is_err done.outcome || any_failed (with_meter old done) new
failed_in ask answer old new = any_failed old new

-- a meter that comes back reports what its own account says; no other ask brings a report of a meter
abbrev pub IsOwnAccount : AskSeen → Type 0
IsOwnAccount (AskFinished done) = IsTold done
IsOwnAccount ask = Unit {0}
