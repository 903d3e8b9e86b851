-- Which happening a running scan takes: the ARM-TRIGger model's wait takes the trigger of its source, and its layer's
-- SIGNal always (SCPI-1999, chapter 24); that pauses and readings end by a ticket is our own.
use Rattle.std.specs.Prelude.{◌≡◌, ℕ, ◌+◌, drop, Option, Some, None}
use Rattle.sw_base.specs.declared.terms.Source.TheVariants as source
use Rattle.sw_base.specs.declared.terms.LayerName.{LayerName}
use Rattle.sw_trigger.specs.declared.layer.Awaited.{Awaited}
use Rattle.sw_trigger.specs.declared.layer.Awaited.TheVariants.{Wait, Period, Pause, Read}
use Rattle.sw_verify.specs.Course.{CourseSeen, source_at}
use Rattle.sw_trigger.specs.Counts.{is_reading}
use Rattle.sw_cage.specs.Cage.{ScanSeen, CageSeen, ticket_of}
use Rattle.sw_cage.specs.Advance.{awaits, first_awaited}
use Rattle.sw_cage.specs.declared.job.Ticket.{Ticket}
use Rattle.sw_cage.specs.declared.taken.Happening.{Happening}
use Rattle.sw_cage.specs.declared.taken.Happening.TheVariants.{Bus, External, Signal, Elapsed}

-- a wait of the layer takes the happening
abbrev pub TakesWait : CourseSeen → LayerName → Happening → Type 0
TakesWait course name Bus = source_at course.sources name ≡ source.Bus
TakesWait course name External = source_at course.sources name ≡ source.External
TakesWait course name (Signal signalled) = name ≡ signalled
TakesWait course name (Elapsed ticket) = ⊥

-- a pause under this ticket takes the happening
abbrev pub TakesPause : Ticket → Happening → Type 0
TakesPause present Bus = ⊥
TakesPause present External = ⊥
TakesPause present (Signal signalled) = ⊥
TakesPause present (Elapsed ticket) = present ≡ ticket

-- a layer's timer under this ticket takes its end, and its layer's SIGNal
abbrev pub TakesPeriod : Ticket → LayerName → Happening → Type 0
TakesPeriod present name Bus = ⊥
TakesPeriod present name External = ⊥
TakesPeriod present name (Signal signalled) = name ≡ signalled
TakesPeriod present name (Elapsed ticket) = present ≡ ticket

-- what awaits this takes the happening, under the ticket that is present
abbrev pub TakesAt : CourseSeen → Ticket → Awaited → Happening → Type 0
TakesAt course present (Wait name) happening = TakesWait course name happening
TakesAt course present (Period name micros) happening = TakesPeriod present name happening
TakesAt course present (Pause micros) happening = TakesPause present happening
TakesAt course present Read happening = ⊥

abbrev pub TakesIf : CourseSeen → Ticket → Option Awaited → Happening → Type 0
TakesIf course present None happening = ⊥
TakesIf course present (Some what) happening = TakesAt course present what happening

abbrev pub TakesThere : ℕ → Option ScanSeen → Happening → Type 0
TakesThere number None happening = ⊥
TakesThere number (Some at) happening = TakesIf at.course (ticket_of number at) (awaits at) happening

-- the scan that runs takes the happening
abbrev pub Takes : CageSeen → Happening → Type 0
Takes p happening = TakesThere p.number p.scan happening

-- the scan awaits the return of this slot's meter under this ticket
pub record AwaitsReturn (number : ℕ) (at : ScanSeen) (slot : ℕ) (ticket : Ticket) : Type 0 where
  pub reading : awaits at ≡ Some Read
  pub slot_is : at.course.meter ≡ slot
  pub ticket_is : ticket_of number at ≡ ticket

abbrev pub TakesReturnThere : ℕ → Option ScanSeen → ℕ → Ticket → Type 0
TakesReturnThere number None slot ticket = ⊥
TakesReturnThere number (Some at) slot ticket = AwaitsReturn number at slot ticket

-- the scan that runs takes the return of this slot's meter under this ticket
abbrev pub TakesReturn : CageSeen → ℕ → Ticket → Type 0
TakesReturn p slot ticket = TakesReturnThere p.number p.scan slot ticket

-- a scan runs and awaits a trigger or the end of a pause
abbrev pub AwaitsOther : Option ScanSeen → Type 0
AwaitsOther None = ⊥
AwaitsOther (Some at) = (what : Awaited) × ((awaits at ≡ Some what) × (is_reading what ≡ 0))

-- what the scan awaits, if one runs
abbrev pub awaited_now : Option ScanSeen → Option Awaited
awaited_now None = None
awaited_now (Some at) = awaits at

-- what is awaited after something
abbrev pub behind : Option Awaited → Option Awaited → Option Awaited
behind None next = None
behind (Some what) next = next

-- what it awaits right after that, where no relay is moved before
abbrev pub awaited_after : Option ScanSeen → Option Awaited
awaited_after None = None
awaited_after (Some at) = behind (awaits at) (first_awaited (drop (at.index + 1) at.course.items))
