use Rattle.std.proofs.Common.{rules, refl, ap}
use Rattle.sw_session.specs.Beginning.{BeginningSeen}
use Rattle.sw_session.specs.ServeConnection.{wiring, connected}
use Rattle.sw_session.proofs.ServeSpeaksLemmas.{served}
use Rattle.sw_session.proofs.ServerLemmas.{connected-so}
use Rattle.sw_session.proofs.channel.serve_channel.Goals as goal

pub returns : goal.returns
returns g c =
    let wires = wiring g.R.ByteSource g.W.Sink g.S.Sink in
    let own = c.beginning.inside.channel in
    let start : BeginningSeen = record { channel = own; bytes = c.beginning.inside.decoder.pending.bytes } in
    let left = c.leave.new.self in
    let ran = c.run-result.new in
    rw (← c.beginning.view_is)
    (connected-so start c.args.turns g.D.Desk.passes wires _ (connected left.desk.now ran.reader left.writer.now left.side.now) _ _ _ _
    (search rules) (search rules) (search rules)
    (connected-so start c.args.turns g.D.Desk.passes wires _ (connected left.desk.now ran.reader ran.self.writer.now ran.self.side.now) _ _ _ _
    refl (ap (λ r. r.now) c.leave.ensures.writer) (ap (λ r. r.now) c.leave.ensures.side) (record {
      serves = served g.D.Desk.passes own c.args.turns c.new-engine.result ran.self.engine.now _ _ _ ran.self.desk.now _ c.new-engine.ensures
          c.run-result.ensures.runs refl c.leave.ensures.leaves;
      read = c.run-result.ensures.read;
      write = c.run-result.ensures.write;
    })))
