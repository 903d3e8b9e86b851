-- The cards themselves, by slot, and which of them are the very ones that were there.
use Rattle.std.specs.Prelude.{◌≡◌, ◌≢◌, ℕ, ◌-◌, Bool, true, List, Option, None, Some, map, slice_set, ◌⊎◌}
use Rattle.std.specs.Prelude.{if◌then◌else◌}
use Rattle.std.specs.List.{list_all}
use Rattle.std.proofs.Common.{inr}
use Rattle.sw_base.specs.Layout.{Channel, slot_at}
use Rattle.sw_card.specs.Account.{Account, is_meter, of_meter}
use Rattle.sw_card.specs.Kind.{surety}
use Rattle.sw_verify.specs.Channels.{is_among}
use Rattle.sw_cage.specs.Cage.{CageSeen}
use Rattle.sw_cage.specs.Work.{JobSeen, FinishedSeen}
use Rattle.sw_cage.specs.declared.taken.Taken.{Taken}
use Rattle.sw_cage.specs.declared.taken.Taken.TheVariants.{Ignored, Waits, Pause, Job, Ended, Fault}

-- from slot 1 on each slot's card, itself and its account
abbrev pub Cards : Type 0 → Type 0
Cards C = List (Option (C × Account))

-- a cage as contracts see it: the cards themselves, and the cage as data, each card as its account
pub record CageState (C : Type 0) : Type 0 where
  pub cards : Cards C
  pub seen : CageSeen

-- a slot's card, if it is a meter
abbrev pub meter_only : {C : Type 0} → Option (C × Account) → Option (C × Account)
meter_only None = None
meter_only (Some card) = if is_meter card.1 then Some card else None

-- by slot the meters themselves
abbrev pub meters_of : {C : Type 0} → Cards C → Cards C
meters_of cards = map meter_only cards

-- each slot that no channel of the list is in holds the very card that it held
abbrev pub KeepsOthers : {C : Type 0} → Cards C → List Channel → Cards C → Type 0
KeepsOthers old chans new = (slot : ℕ) → ((c : Channel) → is_among chans c ≡ true → c.0 ≢ slot)
    → slot_at new slot ≡ slot_at old slot

-- the meter of a job as one of the cards
abbrev pub job_card : {R M : Type 0} → M × JobSeen → (R ⊎ M) × Account
job_card job = (inr job.0, of_meter job.1.meter)

-- the cards with the very meter that came back in its slot
abbrev pub with_card_back : {R M : Type 0} → Cards (R ⊎ M) → M × FinishedSeen → Cards (R ⊎ M)
with_card_back cards done = slice_set cards (done.1.slot - 1) (Some (inr done.0, of_meter done.1.meter))

-- Where the meters are after this outcome: a job's meter is the very card that was in its slot, which is empty now;
-- every other is where it was, the very card.
abbrev pub KeepsMeters : {R M : Type 0} → Cards (R ⊎ M) → Taken M → Cards (R ⊎ M) → Type 0
KeepsMeters old Ignored new = meters_of new ≡ meters_of old
KeepsMeters old Waits new = meters_of new ≡ meters_of old
KeepsMeters old (Pause ticket micros) new = meters_of new ≡ meters_of old
KeepsMeters old (Job job) new = (slot_at old job.1.slot ≡ Some (job_card job))
    × (meters_of new ≡ slice_set (meters_of old) (job.1.slot - 1) None)
KeepsMeters old Ended new = meters_of new ≡ meters_of old
KeepsMeters old Fault new = meters_of new ≡ meters_of old

-- whether what a slot holds is sure of its relays, a relay card by its own answer; an empty slot has none
abbrev pub option_sure : {R M : Type 0} → (R → Bool) → Option ((R ⊎ M) × Account) → Bool
option_sure sure None = true
option_sure sure (Some card) = surety sure card.0

-- whether all cards are
abbrev pub all_sure : {R M : Type 0} → (R → Bool) → Cards (R ⊎ M) → Bool
all_sure sure cards = list_all (option_sure sure) cards
