-- Which steps do an item.
use Rattle.std.specs.Prelude.{Bool, true, false}
use Rattle.sw_code.specs.declared.code.Step.{Step}
use Rattle.sw_code.specs.declared.code.Step.TheVariants as step

abbrev pub does_more : Step → Bool
does_more (step.Set k n) = false
does_more (step.Wait name) = true
does_more (step.Timer name micros) = true
does_more (step.Pause micros) = true
does_more (step.Close p) = true
does_more step.Read = true
does_more (step.Open p) = true
does_more (step.Loop k to) = false
does_more step.Halt = false
