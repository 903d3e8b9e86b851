-- What a scan that may begin comes to, by settings and by a program.
use Rattle.std.proofs.Common.{◌≡◌, ℕ, ◌<◌, ◌≤◌, List, length, Option, Some, None, refl, sym, ap, ◌∙◌, subst, arith, [], true, false, ⊎_elim, inl, inr}
use Rattle.std.proofs.lemmas.Bool.{both_ways}
use Rattle.sw_base.specs.Layout.{Channel}
use Rattle.sw_base.specs.Layout.{has_meter}
use Rattle.sw_base.specs.declared.terms.Source.{Source}
use Rattle.sw_trigger.specs.Settings.{SettingsSeen, IsInRange}
use Rattle.sw_trigger.specs.Agenda.{Item}
use Rattle.sw_trigger.specs.Counts.{awaiting, reads}
use Rattle.sw_trigger.proofs.Ranges.{some_bound}
use Rattle.sw_code.specs.Range.{Program, IsProgramInRange}
use Rattle.sw_code.specs.Code.{Unfolds}
use Rattle.sw_code.proofs.Unfolding.{unfolds_once}
use Rattle.sw_verify.specs.declared.snapshot.Snapshot.{Snapshot}
use Rattle.sw_verify.specs.declared.refusal.Refusal.{Refusal}
use Rattle.sw_verify.specs.declared.refusal.Refusal.TheVariants.{NoMeter, TooManyReadings, NoMemory, NoSource}
use Rattle.sw_verify.specs.Channels.{none, is_among}
use Rattle.sw_verify.specs.Items.{items_of}
use Rattle.sw_code.specs.declared.code.Step.{Step}
use Rattle.sw_code.specs.Pace.{most_counting, IsPaced}
use Rattle.sw_verify.specs.Nest.{fault_in, tally, every, is_read}
use Rattle.sw_verify.specs.Stops.{StopsBy}
use Rattle.sw_verify.specs.Judged.{Judged, IsVerified}
use Rattle.sw_verify.specs.Denied.{IsInOrder, Overflows, IsDenied}
use Rattle.sw_verify.specs.Runnable.{IsRunnable}
use Rattle.sw_verify.specs.Sound.{IsSound}
use Rattle.sw_verify.specs.Course.{CanRun, CourseSeen, sources_of}
use Rattle.sw_verify.specs.Setup.{running, agenda, agenda_by, meter_of, meter_by, code_of, code_by, points_of, bound_of, course_of}
use Rattle.sw_verify.specs.Ready.{IsReady, IsReadyBy, IsReadyByProgram, RefusesProgram, AreSourced}
use Rattle.sw_verify.proofs.ItemsLemmas.{compiled_items}
use Rattle.sw_verify.proofs.CourseLemmas.{compiled_runs}
use Rattle.sw_verify.proofs.Looking.{right_not_stopped}
use Rattle.sw_verify.specs.Sized.{Closes}
use Rattle.sw_verify.proofs.SizedLemmas.{nested_closes}
use Rattle.sw_verify.proofs.Whole.{counted, verified, does_nested, awaits_some_items, reads_some_items}

-- the items of a program that may be run here are sound here
program_sound : (p : Snapshot) (code : Program) → IsReadyByProgram p code → IsSound p.layout (is_among p.closed) p.settings.scan.points (items_of code.steps)
program_sound p code r =
    let w = counted code.steps r.range.steps in
    let does = does_nested code.steps w r.runnable.nested in
    let all = verified p.layout (is_among p.closed) code.steps p.settings.scan.points w r.runnable.nested r.right (omega (arith, does.2, r.fits)) in
    let same : all.0 ≡ items_of code.steps = unfolds_once code.steps all.0 (items_of code.steps) all.1 does.0 in
    subst (λ (l : List Item). IsSound p.layout (is_among p.closed) p.settings.scan.points l) same all.2

sound_by : (p : Snapshot) (o : Option Program) → IsReadyBy p o
    → IsSound p.layout (is_among p.closed) p.settings.scan.points (agenda_by p.settings.scan o)
sound_by p None r = r.sound
sound_by p (Some code) r = program_sound p code r

pub ready_sound : (p : Snapshot) → IsReady p → IsSound p.layout (is_among p.closed) (points_of p.settings) (agenda p.settings)
ready_sound p r = sound_by p (running p.settings.program) r

measured_by : (p : Snapshot) (o : Option Program) → IsReadyBy p o → has_meter p.layout (meter_by p.settings.scan o) ≡ true
measured_by p None r = r.measured
measured_by p (Some code) r = r.measured

pub ready_measured : (p : Snapshot) → IsReady p → has_meter p.layout (meter_of p.settings) ≡ true
ready_measured p r = measured_by p (running p.settings.program) r

some_by : (p : Snapshot) (o : Option Program) → IsInRange p.settings.scan → IsReadyBy p o → 0 < length (awaiting (agenda_by p.settings.scan o))
some_by p None i r = some_bound p.settings.scan r.listed i
some_by p (Some code) i r = r.runnable.some

pub ready_some : (p : Snapshot) → IsInRange p.settings.scan → IsReady p → 0 < bound_of p.settings
ready_some p i r = some_by p (running p.settings.program) i r

-- ---- the code

items_by : (p : Snapshot) (o : Option Program) → IsReadyBy p o → items_of (code_by p.settings.scan o).steps ≡ agenda_by p.settings.scan o
items_by p None r = compiled_items p.settings.scan r.listed
items_by p (Some code) r = refl

pub ready_items : (p : Snapshot) (code : Program) → code ≡ code_of p.settings → IsReady p → items_of code.steps ≡ agenda p.settings
ready_items p code e r = ap (λ (c : Program). items_of c.steps) e ∙ items_by p (running p.settings.program) r

runs_by : (p : Snapshot) (o : Option Program) → IsInRange p.settings.scan → IsReadyBy p o → CanRun (code_by p.settings.scan o)
runs_by p None i r = compiled_runs p.settings.scan r.listed i
runs_by p (Some code) i r = record {
  range = r.range;
  unfolds = (does_nested code.steps (counted code.steps r.range.steps) r.runnable.nested).0;
  paced = r.runnable.paced;
  few = r.runnable.few;
}

pub ready_runs : (p : Snapshot) (code : Program) → code ≡ code_of p.settings → IsInRange p.settings.scan → IsReady p → CanRun code
ready_runs p code e i r = subst CanRun (sym e) (runs_by p (running p.settings.program) i r)

code_meter : (s : SettingsSeen) (o : Option Program) → (code_by s o).meter ≡ meter_by s o
code_meter s None = refl
code_meter s (Some code) = refl

pub ready_course : (p : Snapshot) (code : Program) (sources : List Source) (points : ℕ) → code ≡ code_of p.settings → IsReady p
    → sources ≡ sources_of p.settings.scan → points ≡ p.settings.scan.points
    → (let c : CourseSeen = record { items = items_of code.steps; meter = code.meter; sources = sources; points = points } in c) ≡ course_of p.settings
ready_course p code sources points e r f g =
    let s = p.settings in
    let meter : code.meter ≡ meter_of s = ap (λ (c : Program). c.meter) e ∙ code_meter s.scan (running s.program) in
    ap (λ (l : List Item). let c : CourseSeen = record { items = l; meter = code.meter; sources = sources; points = points } in c) (ready_items p code e r)
    ∙ ap (λ (m : ℕ). let c : CourseSeen = record { items = agenda s; meter = m; sources = sources; points = points } in c) meter
    ∙ ap (λ (l : List Source). let c : CourseSeen = record { items = agenda s; meter = meter_of s; sources = l; points = points } in c) f
    ∙ ap (λ (n : ℕ). let c : CourseSeen = record { items = agenda s; meter = meter_of s; sources = sources_of s.scan; points = n } in c) g

-- ---- what is judged of a code

some_number : (m n : ℕ) → m ≡ n → (m ≡ 0 → ⊥) → 0 < n
some_number m n e h = grind arith

-- what the looks at a code say, its tally and the number of its items
pub runnable_by : (code : Program) (steps paced counted_steps sized : List Step) (bound n : ℕ) → IsProgramInRange code → steps ≡ code.steps
    → fault_in steps 0 [] ≡ None → paced ≡ code.steps → IsPaced paced most_counting → counted_steps ≡ code.steps → bound ≡ tally every counted_steps 1 []
    → (bound ≡ 0 → ⊥) → sized ≡ code.steps → n ≡ length (items_of sized) → n < 18446744073709551616
    → IsRunnable code × (bound ≡ length (awaiting (items_of code.steps))) × (bound < 18446744073709551616)
runnable_by code steps paced tallied sized bound n range is nested is2 pace is3 count some is4 size few =
    let none : fault_in code.steps 0 [] ≡ None = ap (λ (l : List Step). fault_in l 0 []) (sym is) ∙ nested in
    let does = does_nested code.steps (counted code.steps range.steps) none in
    let all : bound ≡ length (awaiting (items_of code.steps)) = count ∙ ap (λ (l : List Step). tally every l 1 []) is3 ∙ does.1 in
    let items : n ≡ length (items_of code.steps) = size ∙ ap (λ (l : List Step). length (items_of l)) is4 in (
      record {
        nested = none;
        paced = subst (λ (l : List Step). IsPaced l most_counting) is2 pace;
        some = some_number bound (length (awaiting (items_of code.steps))) all some;
        few = omega (arith, items, few);
      },
      all,
      omega (arith, all, items, few, awaits_some_items (items_of code.steps)),
    )

-- the same of its readings
pub readings_by : (code : Program) (steps tallied sized : List Step) (readings n : ℕ) → IsProgramInRange code → steps ≡ code.steps
    → fault_in steps 0 [] ≡ None → tallied ≡ code.steps → readings ≡ tally is_read tallied 1 [] → sized ≡ code.steps
    → n ≡ length (items_of sized) → n < 18446744073709551616 → (readings ≡ reads (items_of code.steps)) × (readings < 18446744073709551616)
readings_by code steps tallied sized readings n range is nested is2 count is3 size few =
    let none : fault_in code.steps 0 [] ≡ None = ap (λ (l : List Step). fault_in l 0 []) (sym is) ∙ nested in
    let does = does_nested code.steps (counted code.steps range.steps) none in
    let all : readings ≡ reads (items_of code.steps) = count ∙ ap (λ (l : List Step). tally is_read l 1 []) is2 ∙ does.2 in
    let items : n ≡ length (items_of code.steps) = size ∙ ap (λ (l : List Step). length (items_of l)) is3 in
    (all, omega (arith, all, items, few, reads_some_items (items_of code.steps)))

-- nested loops are closed
pub nested_here : (code : Program) (nested sized : List Step) → IsProgramInRange code → nested ≡ code.steps → fault_in nested 0 [] ≡ None
    → sized ≡ code.steps → Closes sized 0
nested_here code nested sized range is none is2 =
    let all : fault_in code.steps 0 [] ≡ None = ap (λ (l : List Step). fault_in l 0 []) (sym is) ∙ none in
    subst (λ (l : List Step). Closes l 0) (sym is2) (nested_closes code.steps 0 [] (counted code.steps range.steps) all)

-- its loops are not nested
pub not_nested : (code : Program) (steps : List Step) (fault : Refusal) → steps ≡ code.steps → fault_in steps 0 [] ≡ Some fault → IsRunnable code → ⊥
not_nested code steps fault is nested r =
    let e : Some fault ≡ None = sym nested ∙ ap (λ (l : List Step). fault_in l 0 []) is ∙ r.nested in absurd (cc e)

-- too many steps in a row only count
pub not_paced : (code : Program) (steps : List Step) → steps ≡ code.steps → (IsPaced steps most_counting → ⊥) → IsRunnable code → ⊥
not_paced code steps is far r = far (subst (λ (l : List Step). IsPaced l most_counting) (sym is) r.paced)

-- its items can't be numbered
pub not_numbered : (code : Program) (sized : List Step) → sized ≡ code.steps → 18446744073709551616 ≤ length (items_of sized) → IsRunnable code → ⊥
not_numbered code sized is many r =
    let few = r.few in
    let same : length (items_of sized) ≡ length (items_of code.steps) = ap (λ (l : List Step). length (items_of l)) is in
    absurd (omega (arith, many, few, same))

-- it awaits nothing
pub not_awaiting : (code : Program) (tallied : List Step) (bound : ℕ) → IsProgramInRange code → tallied ≡ code.steps
    → bound ≡ tally every tallied 1 [] → bound ≡ 0 → IsRunnable code → ⊥
not_awaiting code tallied bound range is count none r =
    let does = does_nested code.steps (counted code.steps range.steps) r.nested in
    let all : bound ≡ length (awaiting (items_of code.steps)) = count ∙ ap (λ (l : List Step). tally every l 1 []) is ∙ does.1 in
    let some = r.some in
    absurd (omega (arith, all, none, some))

-- ---- why a program may not be run

module _ (p : Snapshot) (code : Program) (range : IsProgramInRange code) (runnable : IsRunnable code) where
  does : Unfolds code.steps (items_of code.steps)
  does = (does_nested code.steps (counted code.steps range.steps) runnable.nested).0

  pub program_ready : (v : Judged) → IsInOrder p.layout (is_among p.closed) code
      → IsVerified p.layout (is_among p.closed) p.settings.scan.points code v → AreSourced p.settings.scan code.steps → IsReadyByProgram p code
  program_ready v o w sourced =
      let same : w.items ≡ items_of code.steps = unfolds_once code.steps w.items (items_of code.steps) w.unfolds does in
      let fits = w.sound.fits in
      record {
        range = range;
        runnable = runnable;
        right = o.right;
        measured = w.measured;
        fits = subst (λ (l : List Item). reads l ≤ p.settings.scan.points) same fits;
        sourced = sourced;
      }

  pub program_unsourced : (v : Judged) → IsInOrder p.layout (is_among p.closed) code
      → IsVerified p.layout (is_among p.closed) p.settings.scan.points code v → (AreSourced p.settings.scan code.steps → ⊥)
      → RefusesProgram NoSource p code
  program_unsourced v o w unsourced =
      let same : w.items ≡ items_of code.steps = unfolds_once code.steps w.items (items_of code.steps) w.unfolds does in
      let fits = w.sound.fits in
      inl (
        λ (r : IsReadyByProgram p code). unsourced r.sourced,
        inr (inr (inr (o.right, w.measured, subst (λ (l : List Item). reads l ≤ p.settings.scan.points) same fits, unsourced, refl))),
      )

  pub program_refused : (r : Refusal) → IsDenied p.layout (is_among p.closed) p.settings.scan.points code r → RefusesProgram r p code
  program_refused r denied =
      ⊎_elim (λ (h : fault_in code.steps 0 [] ≡ Some r). let e : Some r ≡ None = sym h ∙ runnable.nested in absurd (cc e))
      (λ rest. ⊎_elim (λ (h : (fault_in code.steps 0 [] ≡ None) × StopsBy p.layout r code.steps (is_among p.closed) none []).
      inl (λ (w : IsReadyByProgram p code). right_not_stopped p.layout r code.steps (is_among p.closed) none [] w.right h.1, inl h.1))
      (λ rest. ⊎_elim (λ (h : IsInOrder p.layout (is_among p.closed) code × (has_meter p.layout code.meter ≡ false) × (r ≡ NoMeter)).
      inl (λ (w : IsReadyByProgram p code). both_ways (has_meter p.layout code.meter) h.1 w.measured, inr (inl (h.0.right, h.1, h.2))))
      (λ rest. ⊎_elim (λ (h : IsInOrder p.layout (is_among p.closed) code × (has_meter p.layout code.meter ≡ true)
      × Overflows p.settings.scan.points code × (r ≡ TooManyReadings)).
      let over = h.2 in
      let same : over.0 ≡ items_of code.steps = unfolds_once code.steps over.0 (items_of code.steps) over.1 does in
      let few : p.settings.scan.points < reads (items_of code.steps) = subst (λ (l : List Item). p.settings.scan.points < reads l) same over.2 in
      inl (λ (w : IsReadyByProgram p code). let most = w.fits in absurd (omega (arith, few, most)), inr (inr (inl (h.0.right, h.1, few, h.3)))))
      (λ (h : r ≡ NoMemory). inr h) rest) rest) rest) denied

-- the same of a copy of its code, by what it was judged by
module _ (p : Snapshot) (code copy : Program) (range : IsProgramInRange code) (runnable : IsRunnable code) (closed : List Channel) (points : ℕ)
    (is : copy ≡ code) (same : closed ≡ p.closed) (room : points ≡ p.settings.scan.points) where
  moved : (Q : Program → List Channel → ℕ → Type 0) → Q copy closed points → Q code p.closed p.settings.scan.points
  moved Q q =
      subst (λ (n : ℕ). Q code p.closed n) room (subst (λ (l : List Channel). Q code l points) same (subst (λ (c : Program). Q c closed points) is q))

  pub ready_here : (v : Judged) → IsVerified p.layout (is_among closed) points copy v → IsInOrder p.layout (is_among closed) copy
      → AreSourced p.settings.scan code.steps → IsReadyByProgram p code
  ready_here v w o sourced =
      program_ready p code range runnable v (moved (λ c l n. IsInOrder p.layout (is_among l) c) o) (moved (λ c l n.
      IsVerified p.layout (is_among l) n c v) w) sourced

  pub unsourced_here : (v : Judged) → IsVerified p.layout (is_among closed) points copy v → IsInOrder p.layout (is_among closed) copy
      → (AreSourced p.settings.scan code.steps → ⊥) → RefusesProgram NoSource p code
  unsourced_here v w o unsourced =
      program_unsourced p code range runnable v (moved (λ c l n. IsInOrder p.layout (is_among l) c) o) (moved (λ c l n.
      IsVerified p.layout (is_among l) n c v) w) unsourced

  pub refused_here : (r : Refusal) → IsDenied p.layout (is_among closed) points copy r → RefusesProgram r p code
  refused_here r d = program_refused p code range runnable r (moved (λ c l n. IsDenied p.layout (is_among l) n c r) d)

  pub unfolds_here : (v : Judged) → IsVerified p.layout (is_among closed) points copy v → Unfolds v.code.steps (items_of code.steps)
  unfolds_here v w = subst (λ (c : Program). Unfolds c.steps (items_of code.steps)) (sym (w.same ∙ is)) (does p code range runnable)
