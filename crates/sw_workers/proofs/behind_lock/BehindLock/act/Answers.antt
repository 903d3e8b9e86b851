use Rattle.std.proofs.Common.{Option, subst}
use Rattle.sw_core.specs.declared.ask.Sid.{Sid}
use Rattle.sw_history.specs.declared.coming.Coming.{Coming}
use Rattle.sw_history.specs.Said.{session_told}
use Rattle.sw_workers.specs.Halves.{Follows, joined_by}
use Rattle.sw_workers.proofs.HalvesLemmas.{follows_on}
use Rattle.sw_workers.proofs.behind_lock.BehindLock.act.Goals as goal

pub invariant_of-self : goal.invariant_of-self
invariant_of-self g c =
    let old = c.self.inside.halves in
    let new = c.follow.new.self in
    let asked = g.E.EventKind.asked c.args.ask in
    let answered = g.E.EventKind.answered c.act.new.answer c.act.new.left in
    let by_answer = subst (λ (o : Option Sid). Follows old c.coming-coming.result o new) (c.joined_by-joined.ensures c.act.new.left) c.follow.ensures.follows in
    follows_on c.sessions_stay.ensures c.self.inside.held.panel c.act.new.self.panel asked _ answered old new
    (c.runs_go_on.ensures.good c.self.inside.held.panel c.has_history.ensures.reached) c.act.ensures.step c.self.invariant
    (subst (λ (x : Coming). Follows old x (joined_by (session_told answered)) new) c.coming-coming.ensures by_answer)
