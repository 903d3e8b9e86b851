-- The exit status of the program.
use Rattle.std.specs.Prelude.{ℕ}
use Rattle.clap.specs.declared.error.kind.ErrorKind.{ErrorKind}
use Rattle.clap.specs.declared.error.kind.ErrorKind.TheVariants.{DisplayHelp, DisplayVersion, OutOfMemory}

-- where nothing is run: 0 for a help or a version that was asked for, 1 for want of memory, 2 for words that are
-- refused
abbrev pub unrun_status : ErrorKind → ℕ
unrun_status DisplayHelp = 0
unrun_status DisplayVersion = 0
unrun_status OutOfMemory = 1
unrun_status _ = 2
