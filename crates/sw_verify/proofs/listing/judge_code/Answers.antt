use Rattle.sw_verify.proofs.ListingsLemmas.{said_refused, none_accepted}
use Rattle.sw_verify.proofs.listing.judge_code.Goals as goal

-- what is refused
pub returns-in_default : goal.returns-in_default
returns-in_default c = record {
  says = said_refused _ _ _ _ _ _ _ _ _ c.requires.listed c.in-Err.ensures.refused c.in_default.not-NoMemory c.refused.ensures.line
      c.refused.ensures.accepted;
  fine = none_accepted _ _ _ c.refused.ensures.accepted;
}
