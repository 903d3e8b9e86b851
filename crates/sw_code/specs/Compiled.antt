-- What settings compile to.
use Rattle.std.specs.Prelude.{ℕ, ◌+◌, ◌/◌, ◌%◌, ◌==◌, List, [], ◌∷◌, ◌++◌, length, map, if◌then◌else◌}
use Rattle.sw_base.specs.Limits.{most_arm_layers}
use Rattle.sw_code.specs.declared.code.Step.{Step}
use Rattle.sw_code.specs.declared.code.Step.TheVariants as step
use Rattle.sw_code.specs.Range.{Program}
use Rattle.sw_trigger.specs.Settings.{SettingsSeen, NamedLayer, arms_of}
use Rattle.sw_trigger.specs.Agenda.{Item, Awaits, head_of, passes}
use Rattle.sw_code.specs.Tree.{Tree, Nil, Then, Times, step_of, flatten}

-- items in a row, and more
abbrev pub line : List Item → Tree → Tree
line [] rest = rest
line (x ∷ items) rest = Then x (line items rest)

abbrev pub steps_of : List Item → List Step
steps_of items = map step_of items

-- the passes of one turn of the inmost ARM layer: whole rounds of the list as a loop, on the counter after those of the
-- ARM layers, and the passes left over
abbrev pub passes_tree : SettingsSeen → Tree
passes_tree s =
    let count = s.trigger.count in
    let n = length s.list in
    if count / n == 0 then line (passes s 0 (count % n)) Nil
    else Times most_arm_layers (count / n) (line (passes s 0 n) Nil) (line (passes s 0 (count % n)) Nil)

-- the turns of the ARM layers, each as a loop, on counters from this one on
abbrev pub arms_tree : ℕ → List NamedLayer → Tree → Tree
arms_tree counter [] inside = inside
arms_tree counter (arm ∷ arms) inside =
    Times counter arm.1.count (line (map Awaits (head_of arm.0 arm.1)) (arms_tree (counter + 1) arms inside)) Nil

abbrev pub tree_of : SettingsSeen → Tree
tree_of s = arms_tree 0 (arms_of s) (passes_tree s)

-- the code of settings
abbrev pub compiled : SettingsSeen → Program
compiled s = record { meter = s.meter; steps = flatten (tree_of s) 0 ++ step.Halt ∷ [] }
