use Rattle.std.proofs.Common.{length, sym, ap, ◌∙◌}
use Rattle.sw_trigger.proofs.Awaiting.{listed_from_test, awaiting-agenda}
use Rattle.sw_trigger.proofs.settings.Settings.bound.Goals as goal

pub returns-clause-bound : goal.returns-clause-bound
returns-clause-bound c =
    let s = c.args.self.now in
    let listed = listed_from_test c.is_empty.result _ (length s.list) c.is_empty.ensures c.if-is_empty.false (sym (ap length c.list.ensures.list)) in
    c.arms_len.ensures.len ∙ ap length (sym (awaiting-agenda s listed))
