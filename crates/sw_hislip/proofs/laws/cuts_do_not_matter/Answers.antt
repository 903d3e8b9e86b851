use Rattle.sw_hislip.proofs.Cuts.{alike, no_matter}
use Rattle.sw_hislip.proofs.laws.cuts_do_not_matter.Goals as goal

pub returns : goal.returns
returns c = record { calls = no_matter; streams = alike }
