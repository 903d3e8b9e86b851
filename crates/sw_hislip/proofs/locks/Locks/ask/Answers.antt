use Rattle.std.proofs.Common.{◌∙◌, sym, length}
use Rattle.std.proofs.lemmas.Bool.{eqb-false}
use Rattle.std.proofs.lemmas.Result.{on_err_weaker}
use Rattle.sw_hislip.proofs.LockProofs.{lacks_shared, some_from}
use Rattle.sw_hislip.proofs.locks.Locks.ask.Goals as goal

pub returns-clause-due : goal.returns-clause-due
returns-clause-due c =
    let some = some_from (length c.args.key.now) (eqb-false _ _ (sym c.is_empty.ensures ∙ c.if-is_empty.false)) in
    on_err_weaker c.ask_shared.result (lacks_shared c.args.self.now c.args.sid c.args.key.now some) c.ask_shared.ensures.due
