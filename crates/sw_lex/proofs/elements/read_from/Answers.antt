use Rattle.sw_lex.proofs.LeadingLemmas.{element_tail}
use Rattle.sw_lex.proofs.elements.read_from.Goals as goal

pub before-requires : goal.before-requires
before-requires c = element_tail _ _ _ c.in_ok-rest-in-Some.ensures.ok
