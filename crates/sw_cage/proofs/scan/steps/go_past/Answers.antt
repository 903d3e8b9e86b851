use Rattle.sw_code.specs.Pace.{most_counting}
use Rattle.sw_cage.proofs.StepLemmas.{near_past, does_past}
use Rattle.sw_cage.proofs.scan.steps.go_past.Goals as goal

pub settle-requires-clause-near : goal.settle-requires-clause-near
settle-requires-clause-near c =
    near_past c.args.steps.now c.args.at.now most_counting c.requires.paced c.requires.near c.requires.left.0 c.requires.left.1 c.requires.left.2

pub returns-clause-does : goal.returns-clause-does
returns-clause-does c = λ item items d. c.settle.ensures.does items (does_past c.args.steps.now c.args.at.now c.requires.near item items d)
