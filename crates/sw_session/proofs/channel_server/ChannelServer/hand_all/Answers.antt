use Rattle.std.proofs.Common.{refl, rules, ◌∙◌}
use Rattle.sw_session.specs.declared.fault.ServeFault.TheVariants.{Write, NoMemory}
use Rattle.sw_session.proofs.ServeHandsLemmas.{handing-start, handing-on, handing-cut, handing-lost, part-handed, all-handed, gives-one}
use Rattle.sw_session.proofs.ServerLemmas.{stays-so, stays-on, one-said-so}
use Rattle.sw_session.proofs.channel_server.ChannelServer.hand_all.Goals as goal

pub returns-in-Err-clause-hands : goal.returns-in-Err-clause-hands
returns-in-Err-clause-hands g c = handing-lost _ _ _ _ _ c.in-Err.ensures.gives.0 c.loop-sent.invariant.handing

pub returns-in_default-clause-hands : goal.returns-in_default-clause-hands
returns-in_default-clause-hands g c =
    handing-cut _ _ _ _ _ _ _ _ NoMemory (gives-one _ _ c.next.result c.in-Ok-Some.sent (search rules) c.next.ensures.gives) c.loop-sent.invariant.handing
    refl

pub returns-in-Err-hand_over-clause-hands : goal.returns-in-Err-hand_over-clause-hands
returns-in-Err-hand_over-clause-hands g c =
    handing-cut _ _ _ _ _ _ _ _ Write (gives-one _ _ c.next.result c.in-Ok-Some.sent (search rules) c.next.ensures.gives) c.loop-sent.invariant.handing
    (part-handed _ _ _ _ c.hand_over.result _ c.in-Err-hand_over.is
    (one-said-so g.D.Desk.passes _ _ _ _ _ c.hand_over.result c.loop-sent.invariant.stays c.hand_over.ensures.hands))

pub loop-sent-init : goal.loop-sent-init
loop-sent-init g c = record { handing = handing-start _ _ _; decoder = refl; stays = stays-so _ }

pub loop-sent-preserved : goal.loop-sent-preserved
loop-sent-preserved g c = record {
  handing = handing-on _ _ _ _ _ _ _ _ (gives-one _ _ c.next.result c.in-Ok-Some.sent (search rules) c.next.ensures.gives) c.loop-sent.invariant.handing
      (all-handed _ _ _ _ c.hand_over.result (search rules)
      (one-said-so g.D.Desk.passes _ _ _ _ _ c.hand_over.result c.loop-sent.invariant.stays c.hand_over.ensures.hands));
  decoder = c.hand_over.ensures.decoder ∙ c.loop-sent.invariant.decoder;
  stays = stays-on _ _ _ c.loop-sent.invariant.stays c.hand_over.ensures.stays;
}
