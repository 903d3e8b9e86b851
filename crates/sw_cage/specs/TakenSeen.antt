-- The cage's outcome of a happening, as plain data.
use Rattle.std.specs.Prelude.{ℕ, Bool, true, false}
use Rattle.sw_cage.specs.Work.{JobSeen}
use Rattle.sw_cage.specs.declared.job.Ticket.{Ticket}
use Rattle.sw_cage.specs.declared.taken.Taken.{Taken}
use Rattle.sw_cage.specs.declared.taken.Taken.TheVariants.{Ignored, Waits, Pause, Job, Ended, Fault}

pub data TakenSeen : Type 0 where
  SaysIgnored : TakenSeen
  SaysWaits : TakenSeen
  SaysPause : (ticket : Ticket) (micros : ℕ) → TakenSeen
  SaysJob : (job : JobSeen) → TakenSeen
  SaysEnded : TakenSeen
  SaysFault : TakenSeen

abbrev pub taken_seen : {M : _} → Taken M → TakenSeen
taken_seen Ignored = SaysIgnored
taken_seen Waits = SaysWaits
taken_seen (Pause ticket micros) = SaysPause ticket micros
taken_seen (Job job) = SaysJob job.1
taken_seen Ended = SaysEnded
taken_seen Fault = SaysFault

-- whether the outcome is a card's failure
abbrev pub tells_fault : TakenSeen → Bool
tells_fault SaysIgnored = false
tells_fault SaysWaits = false
tells_fault (SaysPause ticket micros) = false
tells_fault (SaysJob job) = false
tells_fault SaysEnded = false
tells_fault SaysFault = true
