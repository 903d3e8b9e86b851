-- The cards themselves.
use Rattle.std.proofs.Common.{◌≡◌, ap, refl, ◌⊎◌, Result}
use Rattle.sw_base.specs.declared.reading.Reading.{Reading}
use Rattle.sw_card.specs.declared.board.CardFault.{CardFault}
use Rattle.sw_cage.specs.Cage.{CageSeen}
use Rattle.sw_cage.specs.Cards.{Cards, KeepsMeters, with_card_back}
use Rattle.sw_cage.specs.Outcome.{Counts, with_back}
use Rattle.sw_cage.specs.TakenSeen.{taken_seen}
use Rattle.sw_cage.specs.Takes.{TakesReturn}
use Rattle.sw_cage.specs.Work.{FinishedSeen}
use Rattle.sw_cage.specs.declared.taken.Taken.{Taken}
use Rattle.sw_cage.specs.declared.taken.Taken.TheVariants.{Ignored, Waits, Pause, Job, Ended, Fault}
use Rattle.sw_core.specs.Cards.{CoreState, KeepsFor, KeepsAfter, KeepsReturned, work_from, answer_from}
use Rattle.sw_core.proofs.HappenedLemmas.{counts_ignored}

-- a mainframe's data
pub seen_is : {C : Type 0} {s t : CoreState C} → s ≡ t → s.seen ≡ t.seen
seen_is e = ap (λ x. x.seen) e

-- where the meters are after a scan's outcome, by the work that it awaits
pub kept_for : {R M : Type 0} (old new : Cards (R ⊎ M)) (told : Taken M) → KeepsMeters old told new → KeepsFor old (work_from told) new
kept_for old new Ignored k = k
kept_for old new Waits k = k
kept_for old new (Pause ticket micros) k = k
kept_for old new (Job job) k = k
kept_for old new Ended k = k
kept_for old new Fault k = k

-- by the answer to no session
pub kept_after : {R M : Type 0} (old new : Cards (R ⊎ M)) (told : Taken M) → KeepsMeters old told new → KeepsAfter old (answer_from told) new
kept_after old new Ignored k = k
kept_after old new Waits k = k
kept_after old new (Pause ticket micros) k = k
kept_after old new (Job job) k = k
kept_after old new Ended k = k
kept_after old new Fault k = k

-- after a return, which the cage told this of
pub kept_back : {R M : Type 0} (p q : CageSeen) (old new : Cards (R ⊎ M)) (done : M × FinishedSeen) (told : Taken M)
    → ((TakesReturn p done.1.slot done.1.ticket → ⊥) → new ≡ with_card_back old done)
    → (TakesReturn p done.1.slot done.1.ticket → Counts (with_back p done.1) done.1.outcome (taken_seen told) q)
    → KeepsMeters (with_card_back old done) told new → KeepsReturned old done (answer_from told) new
kept_back p q old new done Ignored late counts k = late (λ t. counts_ignored (with_back p done.1) q done.1.outcome (counts t))
kept_back p q old new done Waits late counts k = k
kept_back p q old new done (Pause ticket micros) late counts k = k
kept_back p q old new done (Job job) late counts k = k
kept_back p q old new done Ended late counts k = k
kept_back p q old new done Fault late counts k = k
