use Rattle.std.proofs.Common.{refl, sym, ◌∙◌}
use Rattle.sw_channels.specs.declared.step.Channel.TheVariants.{Synchronous, Asynchronous}
use Rattle.sw_workers.proofs.ServingLemmas.{connects, whole-or, of_first, of_second}
use Rattle.sw_workers.proofs.session.serve_parts.Goals as goal

pub returns-in-Synchronous-clause-serves : goal.returns-in-Synchronous-clause-serves
returns-in-Synchronous-clause-serves g c =
    connects g.D.Desk.passes _ _ _ _ (g.C.In.ByteSource.remaining c.hear_header.new.reader) _ _ c.hear_header.new.header.items _ _ Synchronous
    c.heard-beginning.ensures.channel (sym c.in-Synchronous.is ∙ c.channel-channel.ensures) c.heard-beginning.ensures.bytes c.hear_header.ensures.bytes
    (whole-or _ _ _ _ c.hear_header.result (λ f. record { reader = c.hear_header.new.reader; failed = f; rest_is = refl; pauses_is = refl })
    c.hear_header.ensures.whole c.hear_header.ensures.failed)
    c.hear_header.ensures.waits c.serve_from.ensures.serves c.serve_from.ensures.read (λ e. of_first (c.serve_from.ensures.write e))

pub returns-in-Asynchronous-clause-serves : goal.returns-in-Asynchronous-clause-serves
returns-in-Asynchronous-clause-serves g c =
    connects g.D.Desk.passes _ _ _ _ (g.C.In.ByteSource.remaining c.hear_header.new.reader) _ _ c.hear_header.new.header.items _ _ Asynchronous
    c.heard-beginning.ensures.channel (sym c.in-Asynchronous.is ∙ c.channel-channel.ensures) c.heard-beginning.ensures.bytes c.hear_header.ensures.bytes
    (whole-or _ _ _ _ c.hear_header.result (λ f. record { reader = c.hear_header.new.reader; failed = f; rest_is = refl; pauses_is = refl })
    c.hear_header.ensures.whole c.hear_header.ensures.failed)
    c.hear_header.ensures.waits c.serve_from-in-Asynchronous.ensures.serves c.serve_from-in-Asynchronous.ensures.read (λ e. of_second (c.serve_from-in-Asynchronous.ensures.write e))
