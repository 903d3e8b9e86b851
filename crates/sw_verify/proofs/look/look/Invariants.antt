use Rattle.sw_verify.proofs.Looking.{Progress}
use Rattle.sw_verify.proofs.look.look.Given as goal

abbrev pub invariant-loop-i : goal.invariant-loop-i
invariant-loop-i l = Progress l.layout l.closed l.steps l.i l.ledger l.saved
