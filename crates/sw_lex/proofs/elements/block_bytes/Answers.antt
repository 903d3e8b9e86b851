use Rattle.std.proofs.Common.{◌<◌, length, rules}
use Rattle.sw_lex.proofs.BlocksLemmas.{block_whole}
use Rattle.sw_lex.proofs.OnceLemmas.{bad_block_not}
use Rattle.sw_lex.proofs.elements.block_bytes.Goals as goal

pub returns-in-Err-clause-none : goal.returns-in-Err-clause-none
returns-in-Err-clause-none c bytes b = bad_block_not _ _ bytes _ c.in-Err.ensures.err (rw c.in-Some.ensures.found at b)

pub returns-else-is_empty-clause-none : goal.returns-else-is_empty-clause-none
returns-else-is_empty-clause-none c bytes b =
    let some : 0 < length c.in-Ok.rest.now = search rules in
    block_whole _ _ _ c.in-Ok.ensures.ok some bytes (rw c.in-Some.ensures.found at b)
