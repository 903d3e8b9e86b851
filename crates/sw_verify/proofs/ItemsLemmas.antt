-- The items of code that settings compile to are their agenda.
use Rattle.std.proofs.Common.{◌≡◌, ℕ, ◌+◌, ◌<◌, List, [], ◌∷◌, ◌++◌, length, refl, sym, ap, ◌∙◌, append_assoc, append-nil}
use Rattle.sw_trigger.specs.declared.layer.Awaited.TheVariants.{Wait, Period, Pause, Read}
use Rattle.sw_trigger.specs.Settings.{SettingsSeen}
use Rattle.sw_trigger.specs.Agenda.{Item, Awaits, Close, Open, repeated, agenda}
use Rattle.sw_code.specs.declared.code.Step.{Step}
use Rattle.sw_code.specs.declared.code.Step.TheVariants as step
use Rattle.sw_code.specs.Tree.{Tree, Nil, Then, Times, step_of, size, flatten, meaning}
use Rattle.sw_code.specs.Compiled.{tree_of, compiled}
use Rattle.sw_code.proofs.Compiled.{meaning-tree}
use Rattle.sw_verify.specs.Items.{OpenLoop, items_from, items_of}

items_step : (x : Item) (steps : List Step) (items : List Item) (loops : List OpenLoop)
    → items_from (step_of x ∷ steps) items loops ≡ items_from steps (items ++ x ∷ []) loops
items_step (Awaits (Wait name)) steps items loops = refl
items_step (Awaits (Period name micros)) steps items loops = refl
items_step (Awaits (Pause micros)) steps items loops = refl
items_step (Awaits Read) steps items loops = refl
items_step (Close p) steps items loops = refl
items_step (Open p) steps items loops = refl

-- the steps of a tree do what it means
pub items_tree : (t : Tree) (pc : ℕ) (rest : List Step) (items : List Item) (loops : List OpenLoop)
    → items_from (flatten t pc ++ rest) items loops ≡ items_from rest (items ++ meaning t) loops
items_tree Nil pc rest items loops = ap (λ (l : List Item). items_from rest l loops) (sym (append-nil items))
items_tree (Then x t) pc rest items loops =
    items_step x (flatten t (pc + 1) ++ rest) items loops ∙ items_tree t (pc + 1) rest (items ++ x ∷ []) loops
    ∙ ap (λ (l : List Item). items_from rest l loops) (append_assoc items (x ∷ []) (meaning t))
items_tree (Times k n body t) pc rest items loops =
    let next = pc + 2 + size body in
    let turns = repeated n (meaning body) in
    ap (λ (l : List Step). items_from l [] ((n, items) ∷ loops)) (append_assoc (flatten body (pc + 1)) (step.Loop k (pc + 1) ∷ flatten t next) rest)
    ∙ items_tree body (pc + 1) (step.Loop k (pc + 1) ∷ (flatten t next ++ rest)) [] ((n, items) ∷ loops)
    ∙ items_tree t next rest (items ++ turns) loops ∙ ap (λ (l : List Item). items_from rest l loops) (append_assoc items turns (meaning t))

pub compiled_items : (s : SettingsSeen) → 0 < length s.list → items_of (compiled s).steps ≡ agenda s
compiled_items s h = items_tree (tree_of s) 0 (step.Halt ∷ []) [] [] ∙ meaning-tree s h
