use Rattle.std.proofs.Common.{arith}
use Rattle.std.proofs.lemmas.Grind.{common_steps}
use Rattle.sw_talk.proofs.LinesLemmas.{joins-opened, has-room}
use Rattle.sw_talk.proofs.line.add.Goals as goal

pub returns-clause-ok : goal.returns-clause-ok
returns-clause-ok c = λ answers written.
    let j = joins-opened c.args.out.now.items c.args.text.now answers written in (
      grind (arith, common_steps),
      has-room _ _ j (grind (arith, common_steps)),
    )
