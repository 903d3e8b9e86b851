-- What a code does by its loops: the body of each as often as its count says.
use Rattle.std.specs.Prelude.{ℕ, List, [], ◌∷◌, ◌++◌}
use Rattle.sw_code.specs.declared.code.Step.{Step}
use Rattle.sw_code.specs.declared.code.Step.TheVariants as step
use Rattle.sw_trigger.specs.declared.layer.Awaited.TheVariants.{Wait, Period, Pause, Read}
use Rattle.sw_trigger.specs.Agenda.{Item, Awaits, Close, Open, repeated}

-- an open loop: its count, and the items before it
abbrev pub OpenLoop : Type 0
OpenLoop = ℕ × List Item

-- the innermost open loop ends, after its body did these items; the function continues with those of all its turns
abbrev pub at_end : List OpenLoop → List Item → (List Item → List OpenLoop → List Item) → List Item
at_end [] body go = []
at_end (loop ∷ loops) body go = go (loop.1 ++ repeated loop.0 body) loops

-- the items up to halt, where the innermost open loop did these so far
abbrev pub items_from : List Step → List Item → List OpenLoop → List Item
items_from [] items loops = []
items_from (step.Set k n ∷ steps) items loops = items_from steps [] ((n, items) ∷ loops)
items_from (step.Wait name ∷ steps) items loops = items_from steps (items ++ Awaits (Wait name) ∷ []) loops
items_from (step.Timer name micros ∷ steps) items loops =
    items_from steps (items ++ Awaits (Period name micros) ∷ []) loops
items_from (step.Pause micros ∷ steps) items loops = items_from steps (items ++ Awaits (Pause micros) ∷ []) loops
items_from (step.Close p ∷ steps) items loops = items_from steps (items ++ Close p ∷ []) loops
items_from (step.Read ∷ steps) items loops = items_from steps (items ++ Awaits Read ∷ []) loops
items_from (step.Open p ∷ steps) items loops = items_from steps (items ++ Open p ∷ []) loops
items_from (step.Loop k to ∷ steps) items loops = at_end loops items (items_from steps)
items_from (step.Halt ∷ steps) items loops = items

-- the items of a code
abbrev pub items_of : List Step → List Item
items_of steps = items_from steps [] []
