use Rattle.sw_lex.specs.Table.{entries}
use Rattle.sw_lex.proofs.ApartLemmas.{one_found, entries_apart}
use Rattle.sw_lex.proofs.headers.one_command.Goals as goal

pub returns : goal.returns
returns c = one_found entries entries_apart
