use Rattle.std.proofs.Common.{rules, true}
use Rattle.sw_kinds.proofs.Rows.{within_set, within_old}
use Rattle.sw_kinds.proofs.row.RowRelay.TheImpl.Goals as goal

pub close-tells : goal.close-tells
close-tells g x c = let w = within_set c.result c.args.self.now.1 c.new.self.now.1 c.args.ch true c.ensures.err in search rules

pub open-tells : goal.open-tells
open-tells g x c = let w = within_old c.result c.args.self.now.1 c.new.self.now.1 c.ensures.err in search rules
