-- A code as callers see it.
use Rattle.sw_code.specs.Range.{Program, IsProgramInRange}
use Rattle.sw_code.specs.declared.code.Code.TheInside.{Inside}

abbrev pub program_of : Inside → Program
program_of c = record { meter = c.meter; steps = c.steps.items }

abbrev pub HoldsProgramRange : Inside → Type 0
HoldsProgramRange c = IsProgramInRange (program_of c)
