-- Lack of memory as a second outcome of a function with else one outcome.
use Rattle.std.specs.Prelude.{◌≡◌, Result, Ok, Err, ◌⊎◌}
use Rattle.sw_base.specs.declared.error.ScpiError.{ScpiError}
use Rattle.sw_base.specs.declared.error.ScpiError.TheVariants.{OutOfMemory}

-- the error is the demanded one, or memory ran out
abbrev pub Fails : {Y : Type 0} → ScpiError → Result Y ScpiError → Type 0
Fails e demanded = (e ≡ OutOfMemory) ⊎ (demanded ≡ Err e)

-- What a function returned, seen by view, is what is demanded, unless memory ran out.
abbrev pub Gives : {X Y : Type 0} → (X → Y) → Result X ScpiError → Result Y ScpiError → Type 0
Gives view (Ok x) demanded = demanded ≡ Ok (view x)
Gives view (Err e) demanded = Fails e demanded
