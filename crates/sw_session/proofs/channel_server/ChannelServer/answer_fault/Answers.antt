use Rattle.std.proofs.Common.{refl}
use Rattle.sw_session.specs.Acts.{Skips, Refuses}
use Rattle.sw_session.proofs.ServePartsLemmas.{processes-said}
use Rattle.sw_session.proofs.ServeSpeaksLemmas.{skips-speaks, skips-falters, refuses-speaks, refuses-falters}
use Rattle.sw_session.proofs.ServeWaysLemmas.{each-one}
use Rattle.sw_session.proofs.channel_server.ChannelServer.answer_fault.Goals as goal

pub returns-in-TooLarge-clause-served : goal.returns-in-TooLarge-clause-served
returns-in-TooLarge-clause-served g c =
    let kind = c.in-TooLarge.kind in
    let told = c.skip-said.ensures in
    rw c.in-TooLarge.is (
      each-one _ (Skips kind) _ _ c.say.result (processes-said _ _ _ _ (Skips kind) c.skip-said.result c.say.result
          (skips-speaks g.D.Desk.passes _ c.args.self.now.engine.now _ kind c.skip-said.result told.says told.skips)
          (skips-falters g.D.Desk.passes _ c.args.self.now.engine.now _ kind c.skip-said.result told.same) refl refl c.say.ensures.says),
      c.say.ensures.judged,
    )

pub returns-in-BadPrologue-clause-served : goal.returns-in-BadPrologue-clause-served
returns-in-BadPrologue-clause-served g c =
    rw c.in-BadPrologue.is (
      each-one _ Refuses _ _ c.say-in-BadPrologue.result (processes-said _ _ _ _ Refuses c.refuse-said.result c.say-in-BadPrologue.result
          (refuses-speaks g.D.Desk.passes _ c.args.self.now.engine.now c.refuse-said.result c.refuse-said.ensures)
          (refuses-falters g.D.Desk.passes _ c.args.self.now.engine.now c.refuse-said.result) refl refl c.say-in-BadPrologue.ensures.says),
      c.say-in-BadPrologue.ensures.judged,
    )

pub returns-in-NoMemory-clause-served : goal.returns-in-NoMemory-clause-served
returns-in-NoMemory-clause-served g c = rw c.in-NoMemory.is (refl, refl)
