-- What a plan keeps.
use Rattle.std.specs.Prelude.{◌≡◌}
use Rattle.sw_code.specs.Code.{Unfolds}
use Rattle.sw_verify.specs.Setup.{agenda, code_of}
use Rattle.sw_verify.specs.Ready.{IsReady}
use Rattle.sw_verify.specs.declared.plan.Plan.TheInside.{Inside}

-- the scan may begin, and the code is that of its settings or its program, which unfolds to their agenda
pub record IsPlan (p : Inside) : Type 0 where
  pub ready : IsReady p.snapshot
  pub code : p.verified.code ≡ code_of p.snapshot.settings
  pub unfolds : Unfolds p.verified.code.steps (agenda p.snapshot.settings)
