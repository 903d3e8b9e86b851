use Rattle.std.proofs.Common.{sym}
use Rattle.sw_lex.specs.Table.{table}
use Rattle.sw_lex.proofs.HelpLemmas.{headed}
use Rattle.sw_lex.proofs.help.headers_text.Goals as goal

pub returns : goal.returns
unfolding table
returns c = sym headed
