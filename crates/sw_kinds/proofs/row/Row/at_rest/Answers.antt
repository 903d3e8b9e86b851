use Rattle.std.proofs.Common.{ap, replicate}
use Rattle.sw_card.specs.Account.{relay_account}
use Rattle.sw_card.proofs.Masks.{states_none}
use Rattle.sw_kinds.proofs.row.Row.at_rest.Goals as goal

pub returns-clause-account : goal.returns-clause-account
returns-clause-account g c =
    ap (λ l. relay_account c.args.serial 0 (replicate c.args.channels c.args.group) l) (states_none c.new.result c.args.channels c.new.ensures)
