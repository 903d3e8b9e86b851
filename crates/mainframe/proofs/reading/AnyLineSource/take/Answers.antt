use Rattle.mainframe.proofs.KeptLemmas.{loses}
use Rattle.mainframe.proofs.reading.AnyLineSource.take.Goals as goal

pub returns-clause-taken : goal.returns-clause-taken
returns-clause-taken g c = loses _ _ _ _ c.consume.ensures.bytes
