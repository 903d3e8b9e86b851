-- What a code does, step by step.
use Rattle.std.specs.Prelude.{◌≡◌, ℕ, zero, suc, ◌+◌, ◌-◌, ◌==◌, List, [], ◌∷◌, Option, Some, None, option_map}
use Rattle.std.specs.Prelude.{if◌then◌else◌}
use Rattle.std.specs.List.{slice_get}
use Rattle.sw_trigger.specs.declared.layer.Awaited.TheVariants.{Wait, Period, Pause, Read}
use Rattle.sw_code.specs.declared.code.Step.{Step}
use Rattle.sw_code.specs.declared.code.Step.TheVariants as step
use Rattle.sw_trigger.specs.Agenda.{Item, Awaits, Close, Open}

-- the counters by number
abbrev pub Counters : Type 0
Counters = ℕ → ℕ

abbrev pub put : ℕ → ℕ → Counters → Counters
put k v cs = λ j. if j == k then v else cs j

abbrev pub Next : Type 0
Next = ℕ → Counters → Option (List Item)

abbrev pub passing : Item → Option (List Item) → Option (List Item)
passing x rest = option_map (λ items. x ∷ items) rest

-- one step, and what comes then
abbrev pub act : Option Step → Next → ℕ → Counters → Option (List Item)
act None next pc cs = None
act (Some (step.Set k n)) next pc cs = next (pc + 1) (put k n cs)
act (Some (step.Wait name)) next pc cs = passing (Awaits (Wait name)) (next (pc + 1) cs)
act (Some (step.Timer name micros)) next pc cs = passing (Awaits (Period name micros)) (next (pc + 1) cs)
act (Some (step.Pause micros)) next pc cs = passing (Awaits (Pause micros)) (next (pc + 1) cs)
act (Some (step.Close c)) next pc cs = passing (Close c) (next (pc + 1) cs)
act (Some step.Read) next pc cs = passing (Awaits Read) (next (pc + 1) cs)
act (Some (step.Open c)) next pc cs = passing (Open c) (next (pc + 1) cs)
act (Some (step.Loop k to)) next pc cs =
    if cs k - 1 == 0 then next (pc + 1) (put k 0 cs) else next to (put k (cs k - 1) cs)
act (Some step.Halt) next pc cs = Some []

-- the items that a run passes, if it halts within this number of steps
abbrev pub exec : List Step → ℕ → Next
exec code zero pc cs = None
exec code (suc n) pc cs = act (slice_get code pc) (exec code n) pc cs

-- a run from step 0 to halt passes these items
pub record Unfolds (code : List Step) (items : List Item) : Type 0 where
  pub steps : ℕ
  pub run : exec code steps 0 (λ k. 0) ≡ Some items
