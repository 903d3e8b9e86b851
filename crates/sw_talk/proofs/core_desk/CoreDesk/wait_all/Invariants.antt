use Rattle.sw_talk.proofs.KeepingLemmas.{WaitedBy}
use Rattle.sw_talk.proofs.core_desk.CoreDesk.wait_all.Given as goal

abbrev pub invariant-loop-turn : goal.invariant-loop-turn
invariant-loop-turn g l = WaitedBy l.fn.self l._turn l.self
