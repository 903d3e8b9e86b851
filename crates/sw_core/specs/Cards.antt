-- The cards themselves, and which of them are the very ones that were there.
use Rattle.std.specs.Prelude.{◌≡◌, ℕ, ◌-◌, true, Option, None, Some, slice_set, ◌⊎◌}
use Rattle.sw_base.specs.Layout.{slot_at}
use Rattle.sw_card.specs.Account.{Account, is_meter}
use Rattle.sw_cage.specs.Cards.{Cards, meters_of, job_card, with_card_back}
use Rattle.sw_cage.specs.Work.{FinishedSeen}
use Rattle.sw_cage.specs.declared.taken.Taken.{Taken}
use Rattle.sw_cage.specs.declared.taken.Taken.TheVariants.{Ignored, Pause, Job, Fault}
use Rattle.sw_core.specs.Panel.{Panel}
use Rattle.sw_core.specs.declared.ask.Work.{Work}
use Rattle.sw_core.specs.declared.ask.Ask.{Ask}
use Rattle.sw_core.specs.declared.ask.Answer.{Answer}

-- the mainframe as contracts see it: the cards themselves, and all of it as data, each card as its account
pub record CoreState (C : Type 0) : Type 0 where
  pub cards : Cards C
  pub seen : Panel

-- the very work that a scan awaits after this outcome
abbrev pub work_from : {M : Type 0} → Taken M → Option (Work M)
work_from (Pause ticket micros) = Some (Work.Pause ticket micros)
work_from (Job job) = Some (Work.Measure job)
work_from told = None

-- the answer to no session by it
abbrev pub answer_from : {R M : Type 0} → Taken M → Answer R M
answer_from Ignored = Answer.Missed
answer_from Fault = Answer.Failed
answer_from told = Answer.Taken (work_from told)

-- Where the meters are while this work is awaited: a measurement's meter is the very card that was in its slot, which
-- is empty now; every other is where it was, the very card.
abbrev pub KeepsFor : {R M : Type 0} → Cards (R ⊎ M) → Option (Work M) → Cards (R ⊎ M) → Type 0
KeepsFor old None new = meters_of new ≡ meters_of old
KeepsFor old (Some (Work.Pause ticket micros)) new = meters_of new ≡ meters_of old
KeepsFor old (Some (Work.Measure job)) new = (slot_at old job.1.slot ≡ Some (job_card job))
    × (meters_of new ≡ slice_set (meters_of old) (job.1.slot - 1) None)

-- where they are after this answer
abbrev pub KeepsAfter : {R M : Type 0} → Cards (R ⊎ M) → Answer R M → Cards (R ⊎ M) → Type 0
KeepsAfter old (Answer.Session answer work) new = KeepsFor old work new
KeepsAfter old (Answer.Taken work) new = KeepsFor old work new
KeepsAfter old answer new = meters_of new ≡ meters_of old

-- A meter that comes out is the very card that was in its slot, which is empty now; every other is where it was.
pub record IsTakenOut {R M : Type 0} (old : Cards (R ⊎ M)) (slot : ℕ) (card : (R ⊎ M) × Account)
    (new : Cards (R ⊎ M)) : Type 0 where
  pub very : is_meter card.1 ≡ true → slot_at old slot ≡ Some card
  pub others : meters_of new ≡ slice_set (meters_of old) (slot - 1) None

-- where they are after a card was offered to a slot: one that went in is the card that came
abbrev pub KeepsInstalled : {R M : Type 0} → Cards (R ⊎ M) → ℕ → (R ⊎ M) × Account → Answer R M → Cards (R ⊎ M) → Type 0
KeepsInstalled old slot card Answer.Installed new = new ≡ slice_set old (slot - 1) (Some card)
KeepsInstalled old slot card answer new = meters_of new ≡ meters_of old

-- after a card was asked to come out
abbrev pub KeepsEjected : {R M : Type 0} → Cards (R ⊎ M) → ℕ → Answer R M → Cards (R ⊎ M) → Type 0
KeepsEjected old slot (Answer.Ejected card) new = IsTakenOut old slot card new
KeepsEjected old slot answer new = meters_of new ≡ meters_of old

-- After a meter returned: it is the one that came, in its slot. Where no scan awaits it, each other card is the very
-- one that it was. One that is not out here leaves all as it was.
abbrev pub KeepsReturned : {R M : Type 0} → Cards (R ⊎ M) → M × FinishedSeen → Answer R M → Cards (R ⊎ M) → Type 0
KeepsReturned old done Answer.Missed new = new ≡ with_card_back old done
KeepsReturned old done (Answer.Back back) new = new ≡ old
KeepsReturned old done answer new = KeepsAfter (with_card_back old done) answer new

-- which cards are the very ones after what was asked and answered
abbrev pub Keeps : {R M : Type 0} → Cards (R ⊎ M) → Ask R M → Answer R M → Cards (R ⊎ M) → Type 0
Keeps old (Ask.Install slot card) answer new = KeepsInstalled old slot card answer new
Keeps old (Ask.Eject slot) answer new = KeepsEjected old slot answer new
Keeps old (Ask.Finished done) answer new = KeepsReturned old done answer new
Keeps old ask answer new = KeepsAfter old answer new
