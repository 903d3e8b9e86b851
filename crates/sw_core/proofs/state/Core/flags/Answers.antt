use Rattle.std.proofs.Common.{rules}
use Rattle.sw_core.proofs.HardwareLemmas.{told_hardware, one_flag}
use Rattle.sw_core.proofs.state.Core.flags.Goals as goal

pub returns-in-len1 : goal.returns-in-len1
returns-in-len1 g c =
    told_hardware _ _ _ _ _ (search rules)
    (one_flag c.args.closed c.chan-item.result c.chan-item.result c.args.chans.now c.args.self.now.seen _ (search rules) (search rules) (search rules))
    c.answered.ensures

pub returns-in-Ok : goal.returns-in-Ok
returns-in-Ok g c = told_hardware _ _ _ _ _ (search rules) (search rules) c.answered-in-Ok.ensures
