use Rattle.std.proofs.Common.{sym, ◌∙◌}
use Rattle.sw_verify.proofs.Flags.{flag}
use Rattle.sw_verify.proofs.row.Row.has.Goals as goal

pub returns : goal.returns
returns c = c.has_bit.ensures ∙ rw (← c.self.view_is) (sym (flag c.self.inside.words c.args.at c.requires))
