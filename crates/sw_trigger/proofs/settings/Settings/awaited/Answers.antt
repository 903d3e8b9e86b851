use Rattle.std.proofs.Common.{length, sym, ap, ◌∙◌, arith}
use Rattle.std.specs.List.{slice_get}
use Rattle.sw_trigger.proofs.Awaiting.{listed_from_within, awaiting-agenda}
use Rattle.sw_trigger.proofs.settings.Settings.awaited.Goals as goal

pub find_in_arms-requires-clause-within : goal.find_in_arms-requires-clause-within
find_in_arms-requires-clause-within c =
    let s = c.args.self.now in
    let listed = listed_from_within s c.args.n (omega (arith, c.if-n-bound.false, c.bound.ensures.bound)) in
    omega (arith, c.if-n-bound.false, c.bound.ensures.bound, ap length (awaiting-agenda s listed))

pub returns-clause-item : goal.returns-clause-item
returns-clause-item c =
    let s = c.args.self.now in
    let listed = listed_from_within s c.args.n (omega (arith, c.if-n-bound.false, c.bound.ensures.bound)) in
    sym c.find_in_arms.ensures ∙ ap (λ l. slice_get l c.args.n) (sym (awaiting-agenda s listed))
