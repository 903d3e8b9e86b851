-- What settings that pass the check compile to is refused for want of memory alone.
use Rattle.std.proofs.Common.{◌≡◌, ℕ, ◌<◌, ◌≤◌, true, false, List, [], Some, None, Result, Ok, Err, IfErr, IsErr, IsErrAnd, sym, ap, ◌∙◌, subst, arith, ⊎_elim}
use Rattle.std.proofs.lemmas.Bool.{both_ways}
use Rattle.sw_base.specs.Layout.{Layout, has_meter}
use Rattle.sw_trigger.specs.Agenda.{Item, agenda}
use Rattle.sw_trigger.specs.Counts.{reads}
use Rattle.sw_code.specs.Range.{Program, IsProgramInRange}
use Rattle.sw_code.specs.Code.{Unfolds}
use Rattle.sw_code.proofs.Compiled.{compiled_unfolds}
use Rattle.sw_code.proofs.Unfolding.{unfolds_once}
use Rattle.sw_verify.specs.declared.refusal.Refusal.{Refusal}
use Rattle.sw_verify.specs.declared.refusal.Refusal.TheVariants.{NoMeter, TooManyReadings, NoMemory}
use Rattle.sw_verify.specs.Channels.{Channels, none}
use Rattle.sw_verify.specs.Nest.{fault_in, StepsRight, tally, is_read}
use Rattle.sw_verify.specs.Stops.{StopsBy}
use Rattle.sw_verify.specs.Denied.{IsInOrder, Overflows, IsDenied, IsPlanned}
use Rattle.sw_verify.proofs.Complete.{compiled_nested, compiled_right}
use Rattle.sw_verify.proofs.Looking.{right_not_stopped}
use Rattle.sw_verify.proofs.Whole.{verified, counted}

pub planned_in_order : (layout : Layout) (b : Channels) (room : ℕ) (code : Program) → IsPlanned layout b room code → IsInOrder layout b code
planned_in_order layout b room code p = record {
  nested = ap (λ (c : Program). fault_in c.steps 0 []) p.is_compiled ∙ compiled_nested p.settings p.range;
  right = subst (λ (c : Program). StepsRight layout c.steps b none []) (sym p.is_compiled) (compiled_right layout b p.settings room p.listed p.range p.sound);
}

pub only_memory : (layout : Layout) (b : Channels) (room : ℕ) (code : Program) (r : Refusal) → IsDenied layout b room code r → IsPlanned layout b room code
    → r ≡ NoMemory
only_memory layout b room code r denied p =
    let o = planned_in_order layout b room code p in
    ⊎_elim (λ (h : fault_in code.steps 0 [] ≡ Some r). let e : Some r ≡ None = sym h ∙ o.nested in absurd (cc e))
    (λ rest. ⊎_elim (λ (h : (fault_in code.steps 0 [] ≡ None) × StopsBy layout r code.steps b none []).
    absurd (right_not_stopped layout r code.steps b none [] o.right h.1))
    (λ rest. ⊎_elim (λ (h : IsInOrder layout b code × (has_meter layout code.meter ≡ false) × (r ≡ NoMeter)).
    absurd (both_ways (has_meter layout code.meter) h.1 (ap (λ (c : Program). has_meter layout c.meter) p.is_compiled ∙ p.measured)))
    (λ rest. ⊎_elim (λ (h : IsInOrder layout b code × (has_meter layout code.meter ≡ true) × Overflows room code × (r ≡ TooManyReadings)).
    let w = h.2 in
    let u : Unfolds code.steps (agenda p.settings) =
    subst (λ (c : Program). Unfolds c.steps (agenda p.settings)) (sym p.is_compiled) (compiled_unfolds p.settings p.listed p.range) in
    let same : w.0 ≡ agenda p.settings = unfolds_once code.steps w.0 (agenda p.settings) w.1 u in
    let fits = p.sound.fits in
    let most : reads w.0 ≤ room = subst (λ (l : List Item). reads l ≤ room) (sym same) fits in
    absurd (omega (arith, most, w.2)))
    (λ (h : r ≡ NoMemory). h) rest) rest) rest) denied

-- a tally above the room is that of the readings
pub overflows : (layout : Layout) (b : Channels) (room : ℕ) (code : Program) → IsProgramInRange code → IsInOrder layout b code
    → room < tally is_read code.steps 1 []
    → Overflows room code
overflows layout b room code i o h =
    let all = verified layout b code.steps (tally is_read code.steps 1 []) (counted code.steps i.steps) o.nested o.right (omega arith) in
    (all.0, all.1, subst (λ (n : ℕ). room < n) all.3 h)

-- what holds of the error that a result holds
pub when_err : {A : Type 0} (r : Result A Refusal) (x : Refusal) (P : Refusal → Type 0) → IsErr r × IsErrAnd r (λ e. e ≡ x) → P x → IfErr r P
when_err (Ok a) x P h p = tt
when_err (Err e) x P h p = subst P (sym h.1) p
