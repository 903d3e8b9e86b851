use Rattle.std.proofs.Common.{◌≡◌, ◌==◌, false, arith}
use Rattle.sw_cage.specs.TakenSeen.{taken_seen}
use Rattle.sw_core.specs.Event.{last_number}
use Rattle.sw_core.specs.Seen.{work_seen}
use Rattle.sw_core.proofs.BroughtLemmas.{elapsed_brings}
use Rattle.sw_core.proofs.state.Core.elapse.Goals as goal

pub returns-clause-brings : goal.returns-clause-brings
returns-clause-brings g c =
    let left : (c.args.self.now.seen.events == last_number) ≡ false = grind arith in
    elapsed_brings c.args.self.now.seen c.conclude.new.self.seen c.happens-told.new.self.seen c.args.ticket
    (taken_seen c.happens-told.result) (work_seen c.conclude.new.work) left
    c.happens-told.ensures.step c.conclude.ensures.ended c.conclude.ensures.brings
