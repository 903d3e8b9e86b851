-- How a scan goes on leaves no choice, where no card fails.
use Rattle.std.proofs.Common.{◌≡◌, ◌≢◌, ℕ, ◌+◌, Bool, List, Option, None, Some, Result, Ok, Err, refl, sym, ◌∙◌, ap, subst, inl, inr, ◌⊎◌}
use Rattle.std.specs.Prelude.{if◌then◌else◌}
use Rattle.sw_base.specs.declared.reading.Reading.{Reading}
use Rattle.sw_card.specs.declared.board.CardFault.{CardFault}
use Rattle.sw_card.specs.Account.{Account, MeterAccount, of_meter}
use Rattle.sw_verify.specs.Course.{CourseSeen}
use Rattle.sw_verify.specs.Setup.{course_of}
use Rattle.sw_trigger.specs.Agenda.{Item}
use Rattle.sw_verify.specs.declared.snapshot.Snapshot.{Snapshot}
use Rattle.sw_status.specs.StatusModel.{StatusSeen}
use Rattle.sw_cage.specs.Accounts.{Accounts}
use Rattle.sw_cage.specs.Cage.{ScanSeen, CageSeen, ticket_of}
use Rattle.sw_cage.specs.Advance.{moves_from, next_place}
use Rattle.sw_cage.specs.Takes.{Takes, TakesReturn}
use Rattle.sw_cage.specs.Work.{JobSeen, FinishedSeen}
use Rattle.sw_cage.specs.TakenSeen.{TakenSeen, SaysIgnored, SaysWaits, SaysPause, SaysJob, SaysEnded, SaysFault, tells_fault}
use Rattle.sw_cage.specs.declared.job.Ticket.{Ticket}
use Rattle.sw_cage.specs.declared.taken.Happening.{Happening}
use Rattle.sw_cage.specs.Outcome.{lasting, Moved, Occupancy, occupancy_of, IsSent, Arrives, Reaches, AdvancesOrFails, Advances, AdvancesPast, AdvancesPastFrom}
use Rattle.sw_cage.specs.Outcome.{Counts}
use Rattle.sw_cage.specs.Outcome.{begun, with_back, with_reading}
use Rattle.sw_cage.proofs.AdvanceLemmas.{same_cage}
use Rattle.sw_core.specs.Panel.{Panel}
use Rattle.sw_core.specs.Registers.{card_fault_reported, card_fault_cleared}
use Rattle.sw_core.specs.Step.{Happens, Returns, Starts}
use Rattle.sw_core.proofs.SameLemmas.{same_rack}

moved_once : (old new new' : Accounts) (moves : List Item) → Moved old moves new → Moved old moves new' → new ≡ new'
moved_once old new new' moves h k = same_rack new new' (h.rest ∙ sym k.rest) (λ c. h.closed c ∙ sym (k.closed c))

-- what is told where a scan has come to, and what is left
abbrev pub IsSameGoing : TakenSeen → TakenSeen → Occupancy → Occupancy → Option ScanSeen → Option ScanSeen → Type 0
IsSameGoing told told' new new' scan scan' = (told ≡ told') × (new ≡ new') × (scan ≡ scan')

some_eq : {A : Type 0} (a b : A) → ◌≡◌ {A = Option A} (Some a) (Some b) → a ≡ b
some_eq a b e = cc (e)

pause_once : (t t' : Ticket) (u u' : ℕ) → t ≡ t' → u ≡ u' → SaysPause t u ≡ SaysPause t' u'
pause_once t t' u u' e f = ap (λ (x : Ticket). SaysPause x u) e ∙ ap (λ (x : ℕ). SaysPause t' x) f

meter_once : (m m' : MeterAccount) → of_meter m ≡ of_meter m' → m ≡ m'
meter_once m m' e =
    let serial = ap (λ (a : Account). a.serial) e in
    let failures = ap (λ (a : Account). a.failures) e in
    let last = some_eq m.last m'.last (ap (λ (a : Account). a.last) e) in
    ap (λ (x : ℕ). let r : MeterAccount = record { serial = x; failures = m.failures; last = m.last } in r) serial
    ∙ ap (λ (x : ℕ). let r : MeterAccount = record { serial = m'.serial; failures = x; last = m.last } in r) failures
    ∙ ap (λ (x : Option Reading). let r : MeterAccount = record { serial = m'.serial; failures = m'.failures; last = x } in r) last

sent_once : (old : Occupancy) (slot : ℕ) (ticket : Ticket) (j j' : JobSeen) (new new' : Occupancy) → IsSent old slot ticket j new
    → IsSent old slot ticket j' new' → (j ≡ j') × (new ≡ new')
sent_once old slot ticket j j' new new' h k =
    let slots : j.slot ≡ j'.slot = h.slot_is ∙ sym k.slot_is in
    let tickets : j.ticket ≡ j'.ticket = h.ticket_is ∙ sym k.ticket_is in
    let meters : j.meter ≡ j'.meter = meter_once j.meter j'.meter (some_eq (of_meter j.meter) (of_meter j'.meter) (sym h.meter ∙ k.meter)) in (
      ap (λ (x : ℕ). let r : JobSeen = record { slot = x; ticket = j.ticket; meter = j.meter } in r) slots
          ∙ ap (λ (x : Ticket). let r : JobSeen = record { slot = j'.slot; ticket = x; meter = j.meter } in r) tickets
          ∙ ap (λ (x : MeterAccount). let r : JobSeen = record { slot = j'.slot; ticket = j'.ticket; meter = x } in r) meters,
      h.after ∙ sym k.after,
    )

arrives_once : (old : Occupancy) (number : ℕ) (at : ScanSeen) (told told' : TakenSeen) (new new' : Occupancy) (scan scan' : Option ScanSeen)
    → Arrives old number at told new scan → Arrives old number at told' new' scan' → IsSameGoing told told' new new' scan scan'
arrives_once old number at SaysWaits SaysWaits new new' scan scan' h k = (refl, h.1 ∙ sym k.1, h.2 ∙ sym k.2)
arrives_once old number at (SaysPause t u) (SaysPause t' u') new new' scan scan' h k =
    (pause_once t t' u u' (h.1 ∙ sym k.1) (some_eq u u' (sym h.0 ∙ k.0)), h.2 ∙ sym k.2, h.3 ∙ sym k.3)
arrives_once old number at (SaysJob j) (SaysJob j') new new' scan scan' h k = let s =
    sent_once old at.course.meter (ticket_of number at) j j' new new' h.1 k.1 in (ap SaysJob s.0, s.1, h.2 ∙ sym k.2)
arrives_once old number at SaysEnded SaysEnded new new' scan scan' h k = (refl, h.1 ∙ sym k.1, h.2 ∙ sym k.2)
arrives_once old number at SaysWaits (SaysPause t' u') new new' scan scan' h k = absurd (let e = sym (ap lasting h.0.1) ∙ k.0 in cc (e))
arrives_once old number at SaysWaits (SaysJob j') new new' scan scan' h k = absurd (let e = sym h.0.1 ∙ k.0 in cc (e))
arrives_once old number at SaysWaits SaysEnded new new' scan scan' h k = absurd (let e = sym h.0.1 ∙ k.0 in cc (e))
arrives_once old number at (SaysPause t u) SaysWaits new new' scan scan' h k = absurd (let e = sym h.0 ∙ ap lasting k.0.1 in cc (e))
arrives_once old number at (SaysPause t u) (SaysJob j') new new' scan scan' h k = absurd (let e = sym h.0 ∙ ap lasting k.0 in cc (e))
arrives_once old number at (SaysPause t u) SaysEnded new new' scan scan' h k = absurd (let e = sym h.0 ∙ ap lasting k.0 in cc (e))
arrives_once old number at (SaysJob j) SaysWaits new new' scan scan' h k = absurd (let e = sym h.0 ∙ k.0.1 in cc (e))
arrives_once old number at (SaysJob j) (SaysPause t' u') new new' scan scan' h k = absurd (let e = sym (ap lasting h.0) ∙ k.0 in cc (e))
arrives_once old number at (SaysJob j) SaysEnded new new' scan scan' h k = absurd (let e = sym h.0 ∙ k.0 in cc (e))
arrives_once old number at SaysEnded SaysWaits new new' scan scan' h k = absurd (let e = sym h.0 ∙ k.0.1 in cc (e))
arrives_once old number at SaysEnded (SaysPause t' u') new new' scan scan' h k = absurd (let e = sym (ap lasting h.0) ∙ k.0 in cc (e))
arrives_once old number at SaysEnded (SaysJob j') new new' scan scan' h k = absurd (let e = sym h.0 ∙ k.0 in cc (e))
arrives_once old number at told told' new new' scan scan' h k = absurd (assumption (h, k))

lands_once : (old : Occupancy) (number : ℕ) (moves : List Item) (at : ScanSeen) (told told' : TakenSeen) (new new' : Occupancy) (scan scan' : Option ScanSeen)
    → Reaches old number moves at told new scan → Reaches old number moves at told' new' scan' → IsSameGoing told told' new new' scan scan'
lands_once old number moves at told told' new new' scan scan' h k =
    let racks : h.cards ≡ k.cards = moved_once old.cards h.cards k.cards moves h.moved k.moved in
    arrives_once (record old { cards = k.cards }) number at told told' new new' scan scan' (subst (λ (r : Accounts).
    let b : Occupancy = record old { cards = r } in Arrives b number at told new scan) racks h.arrives) k.arrives

-- no card failed, so that the scan has come somewhere
lands : (old : Occupancy) (number : ℕ) (moves : List Item) (at : ScanSeen) (told : TakenSeen) (new : Occupancy) (scan : Option ScanSeen) → told ≢ SaysFault
    → AdvancesOrFails old number moves at told new scan → Reaches old number moves at told new scan
lands old number moves at SaysFault new scan n h = absurd (n refl)
lands old number moves at SaysIgnored new scan n h = h
lands old number moves at SaysWaits new scan n h = h
lands old number moves at (SaysPause ticket micros) new scan n h = h
lands old number moves at (SaysJob job) new scan n h = h
lands old number moves at SaysEnded new scan n h = h

pub goes_once : (p q q' : CageSeen) (s : CourseSeen) (i : ℕ) (told told' : TakenSeen) → Advances p s i told q → Advances p s i told' q' → told ≢ SaysFault
    → told' ≢ SaysFault → (told ≡ told') × (q ≡ q')
goes_once p q q' s i told told' h k n m =
    let r = lands_once (occupancy_of p) p.number (moves_from s i) (next_place s i) told told' (occupancy_of q) (occupancy_of q') q.scan q'.scan
    (lands _ _ _ _ told _ _ n h.runs) (lands _ _ _ _ told' _ _ m k.runs) in
    (r.0, same_cage q q' r.1 (h.number ∙ sym k.number) r.2 (h.readings ∙ sym k.readings))

past_once : (p q q' : CageSeen) (scan : Option ScanSeen) (told told' : TakenSeen) → AdvancesPastFrom p scan told q → AdvancesPastFrom p scan told' q'
    → told ≢ SaysFault → told' ≢ SaysFault → (told ≡ told') × (q ≡ q')
past_once p q q' None told told' h k n m = absurd h
past_once p q q' (Some at) told told' h k n m = goes_once p q q' at.course (at.index + 1) told told' h k n m

abbrev pub told_cage : Panel → CageSeen → StatusSeen → Panel
told_cage p c s = record p { cage = c; status = s }

-- two calls that told the same and left the same cage left the same panel
reported : (p q q' : Panel) (told told' : TakenSeen) (cleared : StatusSeen) → told ≡ told' → q.cage ≡ q'.cage
    → q ≡ record p { cage = q.cage; status = if tells_fault told then card_fault_reported p.status else cleared }
    → q' ≡ record p { cage = q'.cage; status = if tells_fault told' then card_fault_reported p.status else cleared } → q ≡ q'
reported p q q' told told' cleared t c e f =
    e ∙ ap (λ (x : CageSeen). told_cage p x (if tells_fault told then card_fault_reported p.status else cleared)) c
    ∙ ap (λ (x : TakenSeen). told_cage p q'.cage (if tells_fault x then card_fault_reported p.status else cleared)) t ∙ sym f

abbrev pub IsIgnored : Panel → Happening → TakenSeen → Panel → Type 0
IsIgnored p happening told q = (told ≡ SaysIgnored) × (Takes p.cage happening → ⊥) × (q ≡ p)

abbrev pub IsGoing : Panel → Happening → TakenSeen → Panel → Type 0
IsGoing p happening told q =
    Takes p.cage happening × AdvancesPast p.cage told q.cage
    × (q ≡ record p { cage = q.cage; status = if tells_fault told then card_fault_reported p.status else p.status })

happens_as : (p : Panel) (happening : Happening) (f : Bool) (told : TakenSeen) (q : Panel) → Happens p happening f told q → IsIgnored p happening told q
    ⊎ IsGoing p happening told q
happens_as p happening f SaysIgnored q h = inl (refl, h.1, h.2)
happens_as p happening f SaysWaits q h = inr (h.0, h.1, h.2.1)
happens_as p happening f (SaysPause ticket micros) q h = inr (h.0, h.1, h.2.1)
happens_as p happening f (SaysJob job) q h = inr (h.0, h.1, h.2.1)
happens_as p happening f SaysEnded q h = inr (h.0, h.1, h.2.1)
happens_as p happening f SaysFault q h = inr (h.0, h.1, h.2.1)

pub happens_once : (p q q' : Panel) (happening : Happening) (f f' : Bool) (told told' : TakenSeen) → Happens p happening f told q
    → Happens p happening f' told' q' → told ≢ SaysFault → told' ≢ SaysFault → (told ≡ told') × (q ≡ q')
happens_once p q q' happening f f' told told' h k n m = elim (happens_as p happening f told q h) [
  | inl a ↦ elim (happens_as p happening f' told' q' k) [ inl b ↦ (a.0 ∙ sym b.0, a.2 ∙ sym b.2) | inr b ↦ absurd (a.1 b.0) ]
  | inr a ↦ elim (happens_as p happening f' told' q' k) [
    | inl b ↦ absurd (b.1 a.0)
    | inr b ↦ (let r = past_once p.cage q.cage q'.cage p.cage.scan told told' a.1 b.1 n m in (r.0, reported p q q' told told' p.status r.0 r.1 a.2 b.2))
  ]
]

counts_once : (p q q' : CageSeen) (outcome : Result Reading CardFault) (told told' : TakenSeen) → Counts p outcome told q → Counts p outcome told' q'
    → told ≢ SaysFault → told' ≢ SaysFault → (told ≡ told') × (q ≡ q')
counts_once p q q' (Ok r) told told' h k n m = past_once (with_reading p r) q q' p.scan told told' h k n m
counts_once p q q' (Err e) told told' h k n m = absurd (n h.0)

abbrev pub IsLate : Panel → FinishedSeen → TakenSeen → Panel → Type 0
IsLate p done told q = (told ≡ SaysIgnored) × (TakesReturn p.cage done.slot done.ticket → ⊥) × (q ≡ record p { cage = with_back p.cage done })

abbrev pub IsCounted : Panel → FinishedSeen → TakenSeen → Panel → Type 0
IsCounted p done told q =
    TakesReturn p.cage done.slot done.ticket × Counts (with_back p.cage done) done.outcome told q.cage
    × (q ≡ record p { cage = q.cage; status = if tells_fault told then card_fault_reported p.status else p.status })

returns_as : (p : Panel) (done : FinishedSeen) (f : Bool) (told : TakenSeen) (q : Panel) → Returns p done f told q → IsLate p done told q
    ⊎ IsCounted p done told q
returns_as p done f SaysIgnored q h = inl (refl, h.1, h.2)
returns_as p done f SaysWaits q h = inr (h.0, h.1, h.2.1)
returns_as p done f (SaysPause ticket micros) q h = inr (h.0, h.1, h.2.1)
returns_as p done f (SaysJob job) q h = inr (h.0, h.1, h.2.1)
returns_as p done f SaysEnded q h = inr (h.0, h.1, h.2.1)
returns_as p done f SaysFault q h = inr (h.0, h.1, h.2.1)

pub returns_once : (p q q' : Panel) (done : FinishedSeen) (f f' : Bool) (told told' : TakenSeen) → Returns p done f told q → Returns p done f' told' q'
    → told ≢ SaysFault → told' ≢ SaysFault → (told ≡ told') × (q ≡ q')
returns_once p q q' done f f' told told' h k n m = elim (returns_as p done f told q h) [
  | inl a ↦ elim (returns_as p done f' told' q' k) [ inl b ↦ (a.0 ∙ sym b.0, a.2 ∙ sym b.2) | inr b ↦ absurd (a.1 b.0) ]
  | inr a ↦ elim (returns_as p done f' told' q' k) [
    | inl b ↦ absurd (b.1 a.0)
    | inr b ↦ (let r = counts_once (with_back p.cage done) q.cage q'.cage done.outcome told told' a.1 b.1 n m in
        (r.0, reported p q q' told told' p.status r.0 r.1 a.2 b.2))
  ]
]

pub starts_once : (p q q' : Panel) (plan : Snapshot) (f f' : Bool) (told told' : TakenSeen) → Starts p plan f told q → Starts p plan f' told' q'
    → told ≢ SaysFault → told' ≢ SaysFault → (told ≡ told') × (q ≡ q')
starts_once p q q' plan f f' told told' h k n m =
    let r = goes_once (begun p.cage) q.cage q'.cage (course_of p.settings) 0 told told' h.3 k.3 n m in
    (r.0, reported p q q' told told' (card_fault_cleared p.status) r.0 r.1 h.4 k.4)
