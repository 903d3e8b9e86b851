-- Steps of a pause that is over and of a meter that returns, by the work that they leave.
use Rattle.std.proofs.Common.{◌≡◌, ◌==◌, ◌&&◌, Bool, true, false, Option, None, refl, sym, ap, subst, ◌∙◌}
use Rattle.std.specs.Prelude.{if◌then◌else◌}
use Rattle.sw_status.specs.StatusModel.{StatusSeen}
use Rattle.sw_cage.specs.Cage.{CageSeen}
use Rattle.sw_cage.specs.Outcome.{Counts, with_back}
use Rattle.sw_cage.specs.Takes.{TakesReturn}
use Rattle.sw_base.specs.declared.error.ScpiError.TheVariants.{HardwareError}
use Rattle.sw_cage.specs.TakenSeen.{TakenSeen, SaysIgnored, SaysWaits, SaysPause, SaysJob, SaysEnded, SaysFault, tells_fault}
use Rattle.sw_cage.specs.Change.{any_failed}
use Rattle.sw_cage.specs.Work.{FinishedSeen, IsTold}
use Rattle.sw_cage.specs.declared.job.Ticket.{Ticket}
use Rattle.sw_cage.specs.declared.taken.Happening.TheVariants.{Elapsed}
use Rattle.sw_core.specs.Panel.{Panel}
use Rattle.sw_core.specs.Registers.{card_fault_reported}
use Rattle.sw_core.specs.Event.{last_number, ended, erred, concluded}
use Rattle.sw_core.specs.Seen.{WorkSeen, AskElapsed, AskFinished, SaysBack, SaysWorn, failed_in}
use Rattle.sw_core.specs.Run.{StepBrings}
use Rattle.sw_core.specs.Step.{Step, Happens, IsOut, outside_told, work_of, Brings}
use Rattle.sw_core.proofs.HappenedLemmas.{returned, return_answered}
use Rattle.sw_core.proofs.NumberedLemmas.{worn_step, numbered_step}

and_false : (b : Bool) → (b && false) ≡ false
and_false true = refl
and_false false = refl

-- the end of an event by what the cage told
pub concluded_fault : (told : TakenSeen) (p : Panel) → tells_fault told ≡ true → concluded (outside_told told) p ≡ ended (erred p HardwareError)
concluded_fault SaysFault p is = refl
concluded_fault SaysIgnored p is = absurd (cc is)
concluded_fault SaysWaits p is = absurd (cc is)
concluded_fault (SaysPause ticket micros) p is = absurd (cc is)
concluded_fault (SaysJob job) p is = absurd (cc is)
concluded_fault SaysEnded p is = absurd (cc is)

pub concluded_else : (told : TakenSeen) (p : Panel) → tells_fault told ≡ false → concluded (outside_told told) p ≡ ended p
concluded_else SaysFault p is = absurd (cc is)
concluded_else SaysIgnored p is = refl
concluded_else SaysWaits p is = refl
concluded_else (SaysPause ticket micros) p is = refl
concluded_else (SaysJob job) p is = refl
concluded_else SaysEnded p is = refl

-- the end of an event leaves the cage
concluded_cage : (told : TakenSeen) (p : Panel) → (concluded (outside_told told) p).cage ≡ p.cage
concluded_cage SaysFault p = refl
concluded_cage SaysIgnored p = refl
concluded_cage SaysWaits p = refl
concluded_cage (SaysPause ticket micros) p = refl
concluded_cage (SaysJob job) p = refl
concluded_cage SaysEnded p = refl

pub told_brings : (told : TakenSeen) (work : Option WorkSeen) → work ≡ work_of told → Brings (outside_told told) work
told_brings SaysFault work is = is
told_brings SaysIgnored work is = is
told_brings SaysWaits work is = is
told_brings (SaysPause ticket micros) work is = is
told_brings (SaysJob job) work is = is
told_brings SaysEnded work is = is

-- no more events can be numbered
pub elapsed_worn : (p : Panel) (ticket : Ticket) → (p.events == last_number) ≡ true → StepBrings p (AskElapsed ticket) None p
elapsed_worn p ticket last = record {
  answer = SaysWorn;
  next = record { own = tt; step = worn_step p (AskElapsed ticket) SaysWorn last refl tt };
  brings = refl;
}

pub elapsed_brings : (p q done : Panel) (ticket : Ticket) (told : TakenSeen) (work : Option WorkSeen) → (p.events == last_number) ≡ false
    → Happens p (Elapsed ticket) (any_failed p.cage.cards done.cage.cards) told done → q ≡ concluded (outside_told told) done
    → Brings (outside_told told) work → StepBrings p (AskElapsed ticket) work q
elapsed_brings p q done ticket told work left happens is brings =
    let step = numbered_step p q done (AskElapsed ticket) (any_failed p.cage.cards done.cage.cards) (outside_told told)
    (ap (λ (b : Bool). b && true) left) (record { told = told; happens = happens; answer_is = refl }) is in record {
      answer = outside_told told;
      next = record {
        own = tt;
        step = subst (λ (c : CageSeen). Step p (AskElapsed ticket) (any_failed p.cage.cards c.cards) (outside_told told) q)
            (sym (ap (λ (x : Panel). x.cage) is ∙ concluded_cage told done)) step;
      };
      brings = brings;
    }

-- a meter that is not out here
pub returned_back : (p : Panel) (done : FinishedSeen) → IsTold done → (IsOut p done → ⊥) → StepBrings p (AskFinished done) None p
returned_back p done own elsewhere = record {
  answer = SaysBack;
  next = record {
    own = own;
    step = numbered_step p p p (AskFinished done) false SaysBack (and_false (p.events == last_number)) (refl, elsewhere, refl) refl;
  };
  brings = refl;
}

pub returned_brings : (p q : Panel) (done : FinishedSeen) (told : TakenSeen) (cage : CageSeen) (s : StatusSeen) (work : Option WorkSeen) → IsTold done → IsOut p done
    → ((TakesReturn p.cage done.slot done.ticket → ⊥) → (told ≡ SaysIgnored) × (cage ≡ with_back p.cage done))
    → (TakesReturn p.cage done.slot done.ticket → Counts (with_back p.cage done) done.outcome told cage)
    → ((told ≡ SaysIgnored → ⊥) → TakesReturn p.cage done.slot done.ticket) → s ≡ (if tells_fault told then card_fault_reported p.status else p.status)
    → q ≡ concluded (outside_told told) (record p { cage = cage; status = s }) → Brings (outside_told told) work
    → StepBrings p (AskFinished done) work q
returned_brings p q done told cage s work own out late taken takes status is brings =
    let f = failed_in (AskFinished done) (outside_told told) p.cage.cards cage.cards in
    let acts = return_answered p done told cage s (outside_told told) out (returned p done told cage s late taken takes status) refl in
    let step = numbered_step p q (record p { cage = cage; status = s }) (AskFinished done) f (outside_told told)
    (and_false (p.events == last_number)) acts is in record {
      answer = outside_told told;
      next = record {
        own = own;
        step = subst (λ (c : CageSeen). Step p (AskFinished done) (failed_in (AskFinished done) (outside_told told) p.cage.cards c.cards)
            (outside_told told) q) (sym (ap (λ (x : Panel). x.cage) is ∙ concluded_cage told (record p { cage = cage; status = s }))) step;
      };
      brings = brings;
    }
