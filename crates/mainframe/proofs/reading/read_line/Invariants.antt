use Rattle.mainframe.specs.Turns.{Spends}
use Rattle.mainframe.proofs.KeptLemmas.{Reading}
use Rattle.mainframe.proofs.reading.read_line.Given as goal

abbrev pub invariant-loop-turns : goal.invariant-loop-turns
invariant-loop-turns g l = record {
  so_far : Reading (g.S.LineSource.remaining l.fn.source) (g.S.LineSource.remaining l.source) l.line.items;
  spends : Spends g.S.LineSource.asked l.fn.source l.fn.written l.fn.turns l.turns l.source;
}

abbrev pub decreases-loop-turns : goal.decreases-loop-turns
decreases-loop-turns g l = l.turns
