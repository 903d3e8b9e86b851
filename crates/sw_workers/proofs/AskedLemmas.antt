-- What a desk's ask comes to.
use Rattle.std.proofs.Common.{◌≡◌, Option, None, refl, sym, ap}
use Rattle.sw_core.specs.declared.ask.SessionAsk.{SessionAsk}
use Rattle.sw_core.specs.declared.ask.SessionAnswer.{SessionAnswer}
use Rattle.sw_core.specs.declared.ask.Answer.{Answer}
use Rattle.sw_core.specs.declared.ask.Work.{Work}
use Rattle.sw_core.specs.Panel.{Panel}
use Rattle.sw_core.specs.Seen.{WorkSeen, AskSeen, AskSession, SaysSession, answer_seen, work_seen}
use Rattle.sw_talk.specs.CoreDesk.{TellsOfPiece, brought}
use Rattle.sw_talk.specs.Trace.{HandsBackAsk}
use Rattle.sw_talk.proofs.HandedBackLemmas.{handed-back}
use Rattle.sw_history.specs.Held.{AtDesk}
use Rattle.sw_history.specs.Asks.{AsksOnce}
use Rattle.sw_workers.specs.Work.{Adds, AnswersDesk, Brings, EndsPiece}

pub answers : (start : Panel) (ask : SessionAsk) (answer : SessionAnswer) (work : Option WorkSeen) (old mid new : AtDesk)
    → AsksOnce start (AskSession ask) (SaysSession answer work) old mid → Adds start work mid new → AnswersDesk start ask answer old new
answers start ask answer work old mid new asks adds = record { work = work; mid = mid; asks = asks; adds = adds }

pub hands-back : (start : Panel) (ask : SessionAsk) (answer : SessionAnswer) (work : Option WorkSeen) (old new : AtDesk)
    → AsksOnce start (AskSession ask) (SaysSession answer work) old new → HandsBackAsk ask answer
hands-back start ask answer work old new asks = handed-back asks.before ask _ answer work asks.after asks.history.next.step

brings : {R M : _} (start : Panel) (ask : AskSeen) (answer : Answer R M) (old new : AtDesk) (work : Option WorkSeen)
    → AsksOnce start ask (answer_seen answer) old new → work ≡ brought (answer_seen answer) → Brings start ask old work new
brings start ask answer old new work asks is = record { answer = answer_seen answer; asks = asks; brings_is = is }

pub brings-taken : {R M : _} (start : Panel) (ask : AskSeen) (answer : Answer R M) (old new : AtDesk) (work : Option (Work M))
    → AsksOnce start ask (answer_seen answer) old new → answer ≡ Answer.Taken work → Brings start ask old (work_seen work) new
brings-taken {R} {M} start ask answer old new work asks is =
    brings start ask answer old new (work_seen work) asks (sym (ap (λ (a : Answer R M). brought (answer_seen a)) is))

-- nothing is brought
seen-none : {R M : _} (a : Answer R M) → ((work : Option (Work M)) → a ≡ Answer.Taken work → ⊥) → None ≡ brought (answer_seen a)
seen-none (Answer.Taken work) differs = absurd (differs work refl)
seen-none (Answer.Session answer work) differs = refl
seen-none Answer.Installed differs = refl
seen-none (Answer.NotInstalled refusal card) differs = refl
seen-none (Answer.Ejected card) differs = refl
seen-none (Answer.NotEjected refusal) differs = refl
seen-none Answer.Missed differs = refl
seen-none Answer.Failed differs = refl
seen-none (Answer.Back done) differs = refl
seen-none (Answer.Worn ask) differs = refl

pub brings-none : {R M : _} (start : Panel) (ask : AskSeen) (answer : Answer R M) (old new : AtDesk) → AsksOnce start ask (answer_seen answer) old new
    → ((work : Option (Work M)) → answer ≡ Answer.Taken work → ⊥) → Brings start ask old None new
brings-none start ask answer old new asks differs = brings start ask answer old new None asks (seen-none answer differs)

pub ends : (start : Panel) (piece : WorkSeen) (ask : AskSeen) (old new : AtDesk) (work : Option WorkSeen) → TellsOfPiece piece ask
    → Brings start ask old work new → EndsPiece start piece old work new
ends start piece ask old new work tells told = record { ask = ask; tells = tells; told = told }
