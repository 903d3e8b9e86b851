-- Measurements: what goes out to be made, and what comes back.
use Rattle.std.specs.Prelude.{◌≡◌, ◌≢◌, ℕ, Some, Result, IfOk, OnErr}
use Rattle.sw_base.specs.declared.reading.Reading.{Reading}
use Rattle.sw_card.specs.declared.board.CardFault.{CardFault}
use Rattle.sw_card.specs.Account.{MeterAccount, IsMeasured}
use Rattle.sw_cage.specs.declared.job.Ticket.{Ticket}

-- a meter that is out to measure
pub record JobSeen : Type 0 where
  pub slot : ℕ
  pub ticket : Ticket
  pub meter : MeterAccount

-- a meter that has measured, its count of failures before that, and the outcome
pub record FinishedSeen : Type 0 where
  pub slot : ℕ
  pub ticket : Ticket
  pub meter : MeterAccount
  pub before : ℕ
  pub outcome : Result Reading CardFault

-- the job was done once
pub record IsDone (job : JobSeen) (done : FinishedSeen) : Type 0 where
  pub slot : done.slot ≡ job.slot
  pub ticket : done.ticket ≡ job.ticket
  pub before : done.before ≡ job.meter.failures
  pub measured : IsMeasured job.meter done.outcome done.meter

-- a reading is the meter's own, and a failure was counted
pub record IsTold (done : FinishedSeen) : Type 0 where
  pub reading : IfOk done.outcome (λ r. done.meter.last ≡ Some r)
  pub counted : OnErr done.outcome (done.meter.failures ≢ done.before)
