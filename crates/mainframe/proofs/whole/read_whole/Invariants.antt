use Rattle.std.specs.Io.KnownBytes.{Consumes}
use Rattle.mainframe.proofs.whole.read_whole.Given as goal

abbrev pub invariant-loop-turn : goal.invariant-loop-turn
invariant-loop-turn g l = Consumes (g.Rd.Read.remaining l.fn.reader) (g.Rd.Read.remaining l.reader) l.text.items
