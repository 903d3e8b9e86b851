use Rattle.std.proofs.Common.{sym, ◌∙◌}
use Rattle.std.proofs.lemmas.Bool.{false≢true}
use Rattle.sw_rack.proofs.BySlot.{filled_is}
use Rattle.sw_rack.proofs.read.filled.Goals as goal

pub returns : goal.returns
returns c = filled_is c.args.slots.now.entries (λ z. false≢true (sym c.if-is_empty.false ∙ c.is_empty.ensures.1 z))
