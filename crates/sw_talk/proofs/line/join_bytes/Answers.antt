use Rattle.sw_base.specs.Limits.{most_answer_bytes}
use Rattle.std.proofs.Common.{◌≡◌, ◌≤◌, length, ◌++◌, ◌∷◌, [], arith}
use Rattle.std.proofs.lemmas.Grind.{common_steps}
use Rattle.sw_talk.proofs.LinesLemmas.{joins-first, has-room}
use Rattle.sw_talk.proofs.line.join_bytes.Goals as goal

pub returns-clause-ok : goal.returns-clause-ok
returns-clause-ok c = λ answers written.
    let none : length c.args.out.now.items ≡ 0 = grind (arith, common_steps) in
    let j = joins-first c.args.out.now.items c.args.text none answers written in
    let fits : length (c.args.text ++ 10 ∷ []) ≤ most_answer_bytes = grind (arith, common_steps) in (
      grind (arith, common_steps),
      has-room (c.args.text ++ 10 ∷ []) _ j fits,
    )
