use Rattle.sw_channel.proofs.Parts.{number_leads, number_none}
use Rattle.sw_channel.proofs.parse.read_number.Goals as goal

pub returns-in_err-value-clause-none : goal.returns-in_err-value-clause-none
returns-in_err-value-clause-none c = rw c.from_residual.ensures (number_none _ _ _ c.blanks.ensures c.in_err-value.ensures.none)

pub returns-clause-found : goal.returns-clause-found
returns-clause-found c =
    let d = c.in_ok-value.ensures.found in
    number_leads _ _ _ d.0 _ _ _ _ c.blanks.ensures d.1 c.blanks-2.ensures d.2 d.3
