use Rattle.std.proofs.Common.{arith}
use Rattle.sw_code.proofs.Compiled.{arms_step, first_and_rest}
use Rattle.sw_code.proofs.emit.+put_arms.Goals as goal

pub returns-in_ok-push-in-len1-up-clause-steps : goal.returns-in_ok-push-in-len1-up-clause-steps
returns-in_ok-push-in-len1-up-clause-steps t c =
    arms_step c.args.settings.now c.args.counter c.in_ok-start-in-len1-up.start c.args.arms.now _ _ c.args.steps.now.items c.begin_turns.new.steps.items
    c.put_arms.new.steps.items c.push.new.steps.items
    (first_and_rest c.args.arms.now _ (omega (arith, c.in-len1-up.len_at_least)))
    c.in_ok-start-in-len1-up.ensures.steps c.in_ok-start-in-len1-up.ensures.place c.in_ok-put_arms-in-len1-up.ensures.steps
    c.in_ok-push-in-len1-up.ensures.items
