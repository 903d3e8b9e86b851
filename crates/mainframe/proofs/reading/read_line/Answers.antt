use Rattle.std.proofs.Common.{◌≡◌, ◌∙◌, Ok, true, false, ap, arith}
use Rattle.mainframe.proofs.KeptLemmas.{reading-none, reading-room, reading-more, reading-cut, reading-whole, at-err}
use Rattle.mainframe.proofs.TurnLemmas.{spends-none, spends-more}
use Rattle.mainframe.proofs.reading.read_line.Goals as goal

pub loop-turns-init : goal.loop-turns-init
loop-turns-init g c = record { so_far = reading-none _ _ c.clear.ensures.items; spends = spends-none _ _ _ _ }

pub read_part-requires : goal.read_part-requires
read_part-requires g c = reading-room _ _ _ c.loop-turns.invariant.so_far

pub loop-turns-preserved : goal.loop-turns-preserved
loop-turns-preserved g c =
    let goes : c.read_part.result ≡ Ok false = c.in_ok-read_part.was ∙ ap Ok c.if-branch.false in
    record {
      so_far = reading-more _ _ _ _ _ _ c.loop-turns.invariant.so_far c.read_part.ensures.part (λ e. absurd (cc (e, goes)));
      spends = spends-more _ _ _ _ _ _ _ _ c.loop-turns.invariant.spends (omega arith) c.read_part.ensures.asked;
    }

pub returns-in_err-read_part-clause-cut : goal.returns-in_err-read_part-clause-cut
returns-in_err-read_part-clause-cut g c = at-err _ (reading-cut _ _ _ _ _ _ c.loop-turns.invariant.so_far c.read_part.ensures.part)

pub returns-in_err-read_part-clause-turns : goal.returns-in_err-read_part-clause-turns
returns-in_err-read_part-clause-turns g c = spends-more _ _ _ _ _ _ _ _ c.loop-turns.invariant.spends (omega arith) c.read_part.ensures.asked

pub returns-then-branch-clause-kept : goal.returns-then-branch-clause-kept
returns-then-branch-clause-kept g c =
    let done : c.read_part.result ≡ Ok true = c.in_ok-read_part.was ∙ ap Ok c.if-branch.true in
    (reading-whole _ _ _ _ _ _ c.loop-turns.invariant.so_far c.read_part.ensures.part done).0

pub returns-then-branch-clause-rest : goal.returns-then-branch-clause-rest
returns-then-branch-clause-rest g c =
    let done : c.read_part.result ≡ Ok true = c.in_ok-read_part.was ∙ ap Ok c.if-branch.true in
    (reading-whole _ _ _ _ _ _ c.loop-turns.invariant.so_far c.read_part.ensures.part done).1

pub returns-then-branch-clause-turns : goal.returns-then-branch-clause-turns
returns-then-branch-clause-turns g c = spends-more _ _ _ _ _ _ _ _ c.loop-turns.invariant.spends (omega arith) c.read_part.ensures.asked
