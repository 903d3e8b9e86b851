use Rattle.sw_serve.proofs.FittingLemmas.{set_up_by, joined_bare, never_refused, bare_like, bare_opening}
use Rattle.sw_serve.proofs.single.set_up.Goals as goal

pub returns-in-Err-clause-welcome : goal.returns-in-Err-clause-welcome
returns-in-Err-clause-welcome g c = λ welcome.
    let joined = joined_bare c.join-sid.result c.join-sid.new.core.seen c.join-sid.ensures in
    absurd (never_refused c.join-sid.new.core.seen _ c.in-Err.slot c.in-Err.why (bare_like _ _ joined.0 bare_opening) welcome c.in-Err.ensures.refused)

pub returns-clause-set_up : goal.returns-clause-set_up
returns-clause-set_up g c = set_up_by c.join-sid.result c.join-sid.new.core.seen c.install_all.new.core.seen _ c.join-sid.ensures c.in_default.ensures.taken
