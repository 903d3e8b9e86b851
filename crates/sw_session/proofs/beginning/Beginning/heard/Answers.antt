use Rattle.std.proofs.Common.{ℕ, List, Option, refl, subst, ap}
use Rattle.sw_hislip.specs.declared.kind.Kind.{Kind}
use Rattle.sw_hislip.specs.Pending.{Pending, IsFrontKind}
use Rattle.sw_session.proofs.beginning.Beginning.heard.Goals as goal
use Rattle.sw_session.proofs.beginning.Beginning.heard.Goals.{in-Some, in-None}

pub returns-clause-channel : goal.returns-clause-channel
returns-clause-channel c =
    let front = subst (λ (bytes : List ℕ). IsFrontKind bytes c.front_kind.result) (ap (λ (p : Pending). p.bytes) c.of-decoder.ensures.heard)
    c.front_kind.ensures in
    elim c.match-front_kind.branch [
      | in-Some w ↦ rw (w.channel-is, w.channel_of-channel.ensures) (record {
        found = _;
        front = subst (λ (found : Option Kind). IsFrontKind c.args.bytes.items found) w.in-Some.is front;
        named = refl;
      })
      | in-None w ↦ rw w.channel-is (record {
        found = _;
        front = subst (λ (found : Option Kind). IsFrontKind c.args.bytes.items found) w.in-None.is front;
        named = refl;
      })
    ]
