-- The code, or the error, that a block with the listing of a scan's program gives (own; -285 SCPI-1999, 21.8).
use Rattle.std.specs.Prelude.{◌≡◌, ℕ, List, [], Result, Ok, Err, ◌⊎◌}
use Rattle.sw_base.specs.declared.error.ScpiError.{ScpiError}
use Rattle.sw_base.specs.declared.error.ScpiError.TheVariants.{ProgramSyntaxError, TooMuchData, OutOfMemory}
use Rattle.sw_base.specs.declared.error.ScpiError.TheVariants.{InvalidBlockData}
use Rattle.sw_code.specs.declared.fault.ListFault.{ListFault}
use Rattle.sw_code.specs.declared.fault.ListFault.TheVariants.{BadStep, BadNumber, TooLong, NoMemory}
use Rattle.sw_code.specs.declared.fault.ListError.{ListError}
use Rattle.sw_code.specs.Range.{Program}
use Rattle.sw_code.specs.Reading.{code_in}
use Rattle.sw_verify.specs.Runnable.{IsRunnable}
use Rattle.sw_lex.specs.Elements.{IsBlock}

abbrev pub fault_error : ListFault → ScpiError
fault_error BadStep = ProgramSyntaxError
fault_error BadNumber = ProgramSyntaxError
fault_error TooLong = TooMuchData
fault_error NoMemory = OutOfMemory

-- The code that the bytes list, which can be run; or why there is none: the first fault of the listing, a code that
-- can't be run, or a lack of memory.
abbrev pub ReadsListing : List ℕ → Result Program ScpiError → Type 0
ReadsListing bytes (Ok code) = (code_in bytes ≡ Ok code) × IsRunnable code
ReadsListing bytes (Err e) =
    (e ≡ OutOfMemory)
    ⊎ (((fault : ListError) × (code_in bytes ≡ Err fault) × (e ≡ fault_error fault.kind))
    ⊎ ((code : Program) × (code_in bytes ≡ Ok code) × (IsRunnable code → ⊥) × (e ≡ ProgramSyntaxError)))

-- the same of the block that the text is
abbrev pub ReadsProgram : List ℕ → Result Program ScpiError → Type 0
ReadsProgram text r =
    ((bytes : List ℕ) × IsBlock text bytes [] × ReadsListing bytes r)
    ⊎ (((bytes : List ℕ) → IsBlock text bytes [] → ⊥) × (r ≡ Err InvalidBlockData))
