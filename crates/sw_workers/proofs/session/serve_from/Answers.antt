use Rattle.std.proofs.Common.{ap}
use Rattle.sw_connections.specs.Reads.{ReadingSeen}
use Rattle.sw_workers.proofs.session.serve_from.Goals as goal

pub returns-clause-serves : goal.returns-clause-serves
returns-clause-serves g c =
    rw (ap (λ (s : ReadingSeen _ _). s.reader) c.source.view_is)
    (g.S.Sink.contents c.args.writers.1, g.S.Sink.contents c.serve_channel-result.new.side, c.serve_channel-result.ensures.serves)
