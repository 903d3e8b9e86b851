-- Which call of a run a fuse turns into a fault.
use Rattle.std.proofs.Common.{◌≡◌, ℕ, ◌+◌, Bool, true, false, List, [], ◌∷◌, ◌++◌, Option, Some, None, Result, ◌⊎◌, inl, inr, sym, ◌∙◌}
use Rattle.std.proofs.Common.{arith}
use Rattle.std.proofs.lemmas.Bool.{cases_Bool}
use Rattle.std.proofs.lemmas.Grind.{common_steps}
use Rattle.std.specs.Prelude.{IsErr, if◌then◌else◌, ◌==◌}
use Rattle.sw_base.specs.declared.reading.Reading.{Reading}
use Rattle.sw_card.specs.declared.board.CardFault.{CardFault}
use Rattle.sw_kinds.specs.Fuse.{left_after, is_failing, DrivesByFuse, DrivesByOpenFuse, SamplesByFuse}
use Rattle.sw_kinds.specs.FuseRuns.{switch, cut, Made, Switches, Cuts, is_closing, is_opening, HasFailed, MakesCall, Calls, RunsCalls, count_of}
use Rattle.sw_kinds.specs.FuseRuns.{IsCallNumber, FailsByNumber, NeverFails}

-- each call through a fuse: it is counted, it fails where it is the failing one, and else passes
pub record ByCountdown {S M : Type 0} (counts : M → Bool) (Failed : M → Type 0) (through : Calls (S × Option ℕ) M) (does : Calls S M) : Type 0 where
  pub count : (f g : S × Option ℕ) (m : M) → through f m g → g.1 ≡ left_after (counts m) f.1
  pub reports : (f g : S × Option ℕ) (m : M) → through f m g → is_failing (counts m) f.1 ≡ true → Failed m
  pub passes : (f g : S × Option ℕ) (m : M) → through f m g → is_failing (counts m) f.1 ≡ false → does f.0 m g.0

-- the counter after a call is at a number just where it was, before the call, at that number with this call counted
earlier : (on : Bool) (left : Option ℕ) (n : ℕ) → left_after on left ≡ Some (n + 1) → left ≡ Some ((if on then 1 else 0) + n + 1)
earlier false left n h = grind (arith, common_steps, h)
earlier true None n h = grind (arith, common_steps, h)
earlier true (Some left) n h = grind (arith, common_steps, h)

later : (on : Bool) (left : Option ℕ) (n : ℕ) → left ≡ Some ((if on then 1 else 0) + n + 1) → left_after on left ≡ Some (n + 1)
later false left n h = grind (arith, common_steps, h)
later true None n h = grind (arith, common_steps, h)
later true (Some left) n h = grind (arith, common_steps, h)

failing : (on : Bool) (left : Option ℕ) → is_failing on left ≡ true → (on ≡ true) × (left ≡ Some (0 + 1))
failing false left h = grind (arith, common_steps, h)
failing true None h = grind (arith, common_steps, h)
failing true (Some left) h = grind (arith, common_steps, h)

is_at : (on : Bool) (left : Option ℕ) → on ≡ true → left ≡ Some (0 + 1) → is_failing on left ≡ true
is_at false left h k = grind (arith, common_steps, h)
is_at true None h k = grind (arith, common_steps, k)
is_at true (Some left) h k = grind (arith, common_steps, k)

pub numbered : {S M : Type 0} (counts : M → Bool) (Failed : M → Type 0) (through : Calls (S × Option ℕ) M) (does : Calls S M)
    → ByCountdown counts Failed through does → (f end : S × Option ℕ) (before after : List M) (m : M) → RunsCalls through f (before ++ m ∷ after) end
    → FailsByNumber counts Failed does f.1 before m
numbered counts Failed through does by f end [] after m runs = record {
  fails = λ n. by.reports f runs.0 m runs.1 (is_at (counts m) f.1 n.counts_it n.same);
  passes = λ none. elim (cases_Bool (is_failing (counts m) f.1)) [
    | inl h ↦ let k = failing (counts m) f.1 h in absurd (none (record { counts_it = k.0; same = k.1 }))
    | inr h ↦ (f.0, runs.0.0, by.passes f runs.0 m runs.1 h)
  ];
}
numbered counts Failed through does by f end (x ∷ before) after m runs =
    let next : runs.0.1 ≡ left_after (counts x) f.1 = by.count f runs.0 x runs.1 in
    let tail = numbered counts Failed through does by runs.0 end before after m runs.2 in
    record {
      fails = λ n. tail.fails (record { counts_it = n.counts_it; same = next ∙ later (counts x) f.1 (count_of counts before) n.same });
      passes = λ none. tail.passes
          (λ n. none (record { counts_it = n.counts_it; same = earlier (counts x) f.1 (count_of counts before) (sym next ∙ n.same) }));
    }

decided : {M : Type 0} (counts : M → Bool) (number : Option ℕ) (before : List M) (m : M)
    → IsCallNumber counts number before m ⊎ (IsCallNumber counts number before m → ⊥)
decided counts None before m = inr (λ n. let h : None ≡ Some (count_of counts before + 1) = n.same in cc)
decided counts (Some k) before m =
    elim (cases_Bool (counts m)) [
      | inl on ↦ elim (cases_Bool (k == (count_of counts before + 1))) [
        | inl same ↦ inl (record { counts_it = on; same = grind (arith, common_steps, same) })
        | inr other ↦ inr (λ n. let h = n.same in grind (arith, common_steps, other, h))
      ]
      | inr off ↦ inr (λ n. let h = sym n.counts_it ∙ off in cc)
    ]

pub only_numbered : {S M : Type 0} (counts : M → Bool) (Failed : M → Type 0) (does : Calls S M) → NeverFails Failed does
    → (number : Option ℕ) (before : List M) (m : M) → FailsByNumber counts Failed does number before m → Failed m → IsCallNumber counts number before m
only_numbered counts Failed does never number before m h failed =
    elim (decided counts number before m) [
      | inl n ↦ n
      | inr none ↦ let p = h.passes none in absurd (never p.0 m p.1 p.2 failed)
    ]

-- what the fuses say of their calls, by what is behind them
abbrev pub fuse_switches : {D : Type 0} → Switches D → (D → ℕ → Bool) → Switches (D × Option ℕ)
fuse_switches drives driven = λ f ch on result g. DrivesByFuse drives driven f ch on result g

abbrev pub open_fuse_switches : {D : Type 0} → Switches D → Switches (D × Option ℕ)
open_fuse_switches drives = λ f ch on result g. DrivesByOpenFuse drives f ch on result g

abbrev pub fuse_cuts : {D : Type 0} → Cuts D → Cuts (D × Option ℕ)
fuse_cuts cuts = λ f g. cuts f.0 g.0 × (g.1 ≡ f.1)

abbrev pub fuse_samples : {S : Type 0} → Calls S (Result Reading CardFault) → Calls (S × Option ℕ) (Result Reading CardFault)
fuse_samples samples = λ f result g. SamplesByFuse samples f result g

pub closings_by : {D : Type 0} (drives : Switches D) (cuts : Cuts D) (driven : D → ℕ → Bool)
    → ByCountdown is_closing HasFailed (MakesCall (fuse_switches drives driven) (fuse_cuts cuts)) (MakesCall drives cuts)
closings_by {D} drives cuts driven = record { count = count; reports = reports; passes = passes } where
  through : Calls (D × Option ℕ) Made
  through = MakesCall (fuse_switches drives driven) (fuse_cuts cuts)

  count : (f g : D × Option ℕ) (m : Made) → through f m g → g.1 ≡ left_after (is_closing m) f.1
  count f g (switch ch on, answer) d = d.counted
  count f g (cut, answer) d = d.0.1

  reports : (f g : D × Option ℕ) (m : Made) → through f m g → is_failing (is_closing m) f.1 ≡ true → HasFailed m
  reports f g (switch ch on, answer) d h = d.reports h
  reports f g (cut, answer) d h = absurd (let no : false ≡ true = h in cc)

  passes : (f g : D × Option ℕ) (m : Made) → through f m g → is_failing (is_closing m) f.1 ≡ false → MakesCall drives cuts f.0 m g.0
  passes f g (switch ch on, answer) d h = d.passes h
  passes f g (cut, answer) d h = (d.0.0, d.1)

pub openings_by : {D : Type 0} (drives : Switches D) (cuts : Cuts D)
    → ByCountdown is_opening HasFailed (MakesCall (open_fuse_switches drives) (fuse_cuts cuts)) (MakesCall drives cuts)
openings_by {D} drives cuts = record { count = count; reports = reports; passes = passes } where
  through : Calls (D × Option ℕ) Made
  through = MakesCall (open_fuse_switches drives) (fuse_cuts cuts)

  count : (f g : D × Option ℕ) (m : Made) → through f m g → g.1 ≡ left_after (is_opening m) f.1
  count f g (switch ch on, answer) d = d.counted
  count f g (cut, answer) d = d.0.1

  reports : (f g : D × Option ℕ) (m : Made) → through f m g → is_failing (is_opening m) f.1 ≡ true → HasFailed m
  reports f g (switch ch on, answer) d h = d.reports h
  reports f g (cut, answer) d h = absurd (let no : false ≡ true = h in cc)

  passes : (f g : D × Option ℕ) (m : Made) → through f m g → is_failing (is_opening m) f.1 ≡ false → MakesCall drives cuts f.0 m g.0
  passes f g (switch ch on, answer) d h = d.passes h
  passes f g (cut, answer) d h = (d.0.0, d.1)

pub readings_by : {S : Type 0} (samples : Calls S (Result Reading CardFault)) → ByCountdown (λ _. true) IsErr (fuse_samples samples) samples
readings_by samples = record { count = λ f g m d. d.counted; reports = λ f g m d h. d.reports h; passes = λ f g m d h. d.passes h }
