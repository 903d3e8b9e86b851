use Rattle.std.proofs.Common.{◌<◌, length, inr, refl, rules}
use Rattle.sw_lex.proofs.QuotesLemmas.{not_whole}
use Rattle.sw_lex.proofs.owned.content_after.Goals as goal

pub returns-else-is_empty : goal.returns-else-is_empty
returns-else-is_empty c =
    let s = c.in-Some.ensures.some in
    let some : 0 < length c.in-Some.rest.now = search rules in
    inr (not_whole _ _ s.0 _ s.1 s.2 some, refl)
