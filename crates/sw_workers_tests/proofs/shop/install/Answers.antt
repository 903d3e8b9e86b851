use Rattle.std.proofs.Common.{refl}
use Rattle.sw_core.specs.Run.{Event}
use Rattle.sw_core.specs.Seen.{AskInstall, answer_seen}
use Rattle.sw_workers_tests.proofs.shop.install.Goals as goal

pub returns : goal.returns
returns g c =
    let e : Event = record {
      ask = AskInstall c.args.slot c.args.card.1;
      answer = answer_seen c.apply-answer.result;
      panel = c.apply-answer.new.self.seen;
    } in
    c.runs_go_on.ensures.installed c.args.core.now.seen e c.requires refl (record { own = c.apply-answer.ensures.own; step = c.apply-answer.ensures.step })
