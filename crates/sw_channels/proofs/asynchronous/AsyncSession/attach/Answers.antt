use Rattle.std.proofs.Common.{refl}
use Rattle.sw_core.specs.declared.ask.SessionAsk.TheVariants.{Attach}
use Rattle.sw_core.specs.declared.ask.SessionAnswer.TheVariants.{Joined, Stranger}
use Rattle.sw_talk.specs.Trace.{Asked, Polled}
use Rattle.sw_channels.proofs.EngineAsksLemmas.{by-one, by-two}
use Rattle.sw_channels.proofs.AsyncRowsLemmas.{attaches-told}
use Rattle.sw_channels.proofs.asynchronous.AsyncSession.attach.Goals as goal

pub returns-in-Joined : goal.returns-in-Joined
returns-in-Joined g c =
    by-two g.D.Desk.passes _ _ _ _ (Asked (Attach c.args.number) (Joined c.in-Joined.sid))
    (Polled c.in-Joined.sid c.poll-requests.result) c.in-Joined.ensures.passes c.poll-requests.ensures (refl, (refl, refl, refl))

pub returns-in-Stranger : goal.returns-in-Stranger
returns-in-Stranger g c = by-one g.D.Desk.passes _ _ _ (Asked (Attach c.args.number) Stranger) c.in-Stranger.ensures.passes (refl, ((refl, refl), refl))

pub returns-in_default : goal.returns-in_default
returns-in_default g c =
    by-one g.D.Desk.passes _ _ _ (Asked (Attach c.args.number) c.ask.result) c.ask.ensures.passes
    (refl, attaches-told c.ask.result c.in_default.not-Joined c.in_default.not-Stranger)
