use Rattle.std.proofs.Common.{length, sym, ap, ◌∙◌}
use Rattle.sw_trigger.proofs.Awaiting.{listed_from_test, reads-agenda}
use Rattle.sw_trigger.proofs.settings.Settings.readings.Goals as goal

pub returns-clause-readings : goal.returns-clause-readings
returns-clause-readings c =
    let s = c.args.self.now in
    let listed = listed_from_test c.is_empty.result _ (length s.list) c.is_empty.ensures c.if-is_empty.false (sym (ap length c.list.ensures.list)) in
    c.arms_times.ensures.times ∙ sym (reads-agenda s listed)
