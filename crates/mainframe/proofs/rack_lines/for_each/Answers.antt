use Rattle.std.proofs.Common.{ℕ, ◌++◌, List, ap, ◌∙◌}
use Rattle.mainframe.proofs.RackLineLemmas.{line-more}
use Rattle.mainframe.proofs.rack_lines.for_each.Goals as goal

-- one line more
pub loop-before-preserved : goal.loop-before-preserved
loop-before-preserved c =
    line-more _ _ _ _ _ _ _ _ c.loop-before.invariant
    (c.in_ok-command.ensures ∙ ap (λ (l : List ℕ). (l, c.args.ending.now, c.args.word.now))
    (c.in_ok-extend_from_slice.ensures.items ∙ ap (λ (l : List ℕ). l ++ c.args.end.now) c.in_ok-sent.ensures))
    c.in_ok-push.ensures.items
