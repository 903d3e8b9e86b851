-- How a connection has ended.
use Rattle.std.specs.Prelude.{ℕ, ◌==◌, if◌then◌else◌, Bool, true, false, Option, None, Some, Result, Ok, Err}
use Rattle.sw_connections.specs.declared.connections.Unserved.{Unserved}
use Rattle.sw_connections.specs.declared.connections.Unserved.TheVariants as unserved
use Rattle.sw_session.specs.declared.fault.ServeFault.{ServeFault}
use Rattle.sw_session.specs.declared.fault.ServeFault.TheVariants.{Read, Write, Wire, Fatal}
use Rattle.sw_session.specs.declared.fault.ServeFault.TheVariants.{NoMemory, ReadBound}
use Rattle.sw_serve.specs.declared.log.Parting.{Parting}
use Rattle.sw_serve.specs.declared.log.Remark.{Remark}
use Rattle.sw_serve.specs.declared.log.Remark.TheVariants.{NoInput, Aborted}
use Rattle.sw_serve.specs.declared.log.Parting.TheVariants as parting

-- by the FatalError that was sent: code 4 says that there are too many clients
abbrev pub after_fatal : ℕ → Parting
after_fatal code = if code == 4 then parting.Full else parting.FatalError code

-- by why it was not served, or by how it was
abbrev pub parting_of : Option Unserved → Result (Unit {0}) ServeFault → Parting
parting_of (Some unserved.Ending) result = parting.End
parting_of (Some unserved.Full) result = parting.Full
parting_of (Some unserved.NoMemory) result = parting.NoMemory
parting_of None (Ok done) = parting.End
parting_of None (Err Read) = parting.Fault
parting_of None (Err Write) = parting.Fault
parting_of None (Err Wire) = parting.BrokenHeader
parting_of None (Err (Fatal code)) = after_fatal code
parting_of None (Err NoMemory) = parting.NoMemory
parting_of None (Err ReadBound) = parting.ReadBound

-- what answers an operator, or says why the server ends: the server writes it also without a log
abbrev pub is_answer : Remark → Bool
is_answer NoInput = true
is_answer Aborted = true
is_answer remark = false
