-- A scan that may not begin has one first refusal.
use Rattle.std.proofs.Common.{◌≡◌, ◌<◌, ◌≤◌, ◌⊎◌, ℕ, Option, Some, None, refl, ap, inl, inr, arith, true, false, List, [], ◌∷◌, sym, ◌∙◌, ⊎_elim}
use Rattle.std.specs.Prelude.{slice_index_or, ◌-◌}
use Rattle.std.proofs.lemmas.Bool.{both_ways, cases_order}
use Rattle.sw_base.specs.Layout.{Channel, Layout, is_present, has_meter}
use Rattle.sw_channel.specs.Positions.{Position}
use Rattle.sw_trigger.specs.Counts.{reads}
use Rattle.sw_code.specs.declared.code.Step.{Step}
use Rattle.sw_code.specs.declared.code.Step.TheVariants as step
use Rattle.sw_code.specs.Range.{Program}
use Rattle.sw_verify.specs.declared.refusal.Refusal.{Refusal}
use Rattle.sw_verify.specs.declared.refusal.Refusal.TheVariants.{NoChannel, GroupClash, LeftClosed, NotClosed, NoMeter, TooManyReadings, NoSource}
use Rattle.sw_verify.specs.declared.refusal.Refusal.TheVariants.{EmptyList, BadNesting, BadJump, NoMemory}
use Rattle.sw_verify.specs.declared.snapshot.Snapshot.{Snapshot}
use Rattle.sw_verify.specs.Channels.{Channels, none, is_among, with_channel, with_each, without_each}
use Rattle.sw_verify.specs.Items.{items_of}
use Rattle.sw_verify.specs.Nest.{StepsRight}
use Rattle.sw_verify.specs.Sound.{CanCloseOne, CanCloseEach, CanOpenEach}
use Rattle.sw_verify.specs.Stops.{IsBarred, IsBarredAt, IsNotMineAt, StopsBy}
use Rattle.sw_verify.specs.Check.{IsBlocked, IsFirst, refusal_number}
use Rattle.sw_verify.specs.Ready.{IsReady, IsReadyBy, AreSourced, IsFirstOfProgram, IsFirstBy, IsFirstCause, RefusesBy, IsRefusedScan}
use Rattle.sw_verify.specs.Setup.{running}
use Rattle.sw_verify.proofs.Looking.{barred_not, barred_at_not, not_mine_not, right_not_stopped}

both : {A : Type 0} {x y z : A} → x ≡ z → y ≡ z → x ≡ y
both e f = e ∙ sym f

barred_one : (layout : Layout) (b : Channels) (c : Channel) (r r' : Refusal) → IsBarred layout b c r → IsBarred layout b c r' → r ≡ r'
barred_one layout b c r r' h k =
    ⊎_elim
    (λ (x : (is_present layout c ≡ false) × (r ≡ NoChannel)).
    ⊎_elim (λ (y : (is_present layout c ≡ false) × (r' ≡ NoChannel)). both x.1 y.1)
    (λ (y : (is_present layout c ≡ true) × IsBlocked layout b c × (r' ≡ GroupClash)). absurd (both_ways (is_present layout c) x.0 y.0)) k)
    (λ (x : (is_present layout c ≡ true) × IsBlocked layout b c × (r ≡ GroupClash)).
    ⊎_elim (λ (y : (is_present layout c ≡ false) × (r' ≡ NoChannel)). absurd (both_ways (is_present layout c) y.0 x.0))
    (λ (y : (is_present layout c ≡ true) × IsBlocked layout b c × (r' ≡ GroupClash)). both x.2 y.2) k)
    h

barred_once : (layout : Layout) (b : Channels) (p : Position) (r r' : Refusal) → IsBarredAt layout b p r → IsBarredAt layout b p r' → r ≡ r'
barred_once layout b [] r r' h k = absurd h
barred_once layout b (c ∷ p) r r' h k =
    ⊎_elim
    (λ (x : IsBarred layout b c r).
    ⊎_elim (λ (y : IsBarred layout b c r'). barred_one layout b c r r' x y)
    (λ (y : CanCloseOne layout b c × IsBarredAt layout (with_channel c b) p r'). absurd (barred_not layout b c r y.0 x)) k)
    (λ (x : CanCloseOne layout b c × IsBarredAt layout (with_channel c b) p r).
    ⊎_elim (λ (y : IsBarred layout b c r'). absurd (barred_not layout b c r' x.0 y))
    (λ (y : CanCloseOne layout b c × IsBarredAt layout (with_channel c b) p r'). barred_once layout (with_channel c b) p r r' x.1 y.1) k)
    h

stops_once : (layout : Layout) (r r' : Refusal) (steps : List Step) (b m : Channels) (ss : List (Channels × Channels)) → StopsBy layout r steps b m ss
    → StopsBy layout r' steps b m ss → r ≡ r'
stops_once layout r r' [] b m ss h k = absurd h
stops_once layout r r' (step.Set c n ∷ steps) b m ss h k = stops_once layout r r' steps b m ((b, m) ∷ ss) h k
stops_once layout r r' (step.Wait name ∷ steps) b m ss h k = stops_once layout r r' steps b m ss h k
stops_once layout r r' (step.Timer name micros ∷ steps) b m ss h k = stops_once layout r r' steps b m ss h k
stops_once layout r r' (step.Pause micros ∷ steps) b m ss h k = stops_once layout r r' steps b m ss h k
stops_once layout r r' (step.Close p ∷ steps) b m ss h k =
    ⊎_elim
    (λ (x : IsBarredAt layout b p r).
    ⊎_elim (λ (y : IsBarredAt layout b p r'). barred_once layout b p r r' x y)
    (λ (y : CanCloseEach layout b p × StopsBy layout r' steps (with_each p b) (with_each p m) ss). absurd (barred_at_not layout b p r y.0 x)) k)
    (λ (x : CanCloseEach layout b p × StopsBy layout r steps (with_each p b) (with_each p m) ss).
    ⊎_elim (λ (y : IsBarredAt layout b p r'). absurd (barred_at_not layout b p r' x.0 y))
    (λ (y : CanCloseEach layout b p × StopsBy layout r' steps (with_each p b) (with_each p m) ss).
    stops_once layout r r' steps (with_each p b) (with_each p m) ss x.1 y.1) k)
    h
stops_once layout r r' (step.Read ∷ steps) b m ss h k = stops_once layout r r' steps b m ss h k
stops_once layout r r' (step.Open p ∷ steps) b m ss h k =
    ⊎_elim
    (λ (x : IsNotMineAt m p × (r ≡ NotClosed)).
    ⊎_elim (λ (y : IsNotMineAt m p × (r' ≡ NotClosed)). both x.1 y.1)
    (λ (y : CanOpenEach m p × StopsBy layout r' steps (without_each p b) (without_each p m) ss). absurd (not_mine_not m p y.0 x.0)) k)
    (λ (x : CanOpenEach m p × StopsBy layout r steps (without_each p b) (without_each p m) ss).
    ⊎_elim (λ (y : IsNotMineAt m p × (r' ≡ NotClosed)). absurd (not_mine_not m p x.0 y.0))
    (λ (y : CanOpenEach m p × StopsBy layout r' steps (without_each p b) (without_each p m) ss).
    stops_once layout r r' steps (without_each p b) (without_each p m) ss x.1 y.1) k)
    h
stops_once layout r r' (step.Loop c to ∷ steps) b m [] h k = both h k
stops_once layout r r' (step.Loop c to ∷ steps) b m (t ∷ ss) h k =
    ⊎_elim
    (λ (x : ((b ≡ t.0) × (m ≡ t.1) → ⊥) × (r ≡ LeftClosed)).
    ⊎_elim (λ (y : ((b ≡ t.0) × (m ≡ t.1) → ⊥) × (r' ≡ LeftClosed)). both x.1 y.1)
    (λ (y : (b ≡ t.0) × (m ≡ t.1) × StopsBy layout r' steps b m ss). absurd (x.0 (y.0, y.1))) k)
    (λ (x : (b ≡ t.0) × (m ≡ t.1) × StopsBy layout r steps b m ss).
    ⊎_elim (λ (y : ((b ≡ t.0) × (m ≡ t.1) → ⊥) × (r' ≡ LeftClosed)). absurd (y.0 (x.0, x.1)))
    (λ (y : (b ≡ t.0) × (m ≡ t.1) × StopsBy layout r' steps b m ss). stops_once layout r r' steps b m ss x.2 y.2) k)
    h
stops_once layout r r' (step.Halt ∷ steps) b m ss h k = both h.1 k.1

-- a program has one first cause
module _ (p : Snapshot) (code : Program) where
  abbrev Right : Type 0
  Right = StepsRight p.layout code.steps (is_among p.closed) none []

  abbrev Stops : Refusal → Type 0
  Stops r = StopsBy p.layout r code.steps (is_among p.closed) none []

  abbrev Unmeasured : Refusal → Type 0
  Unmeasured r = Right × (has_meter p.layout code.meter ≡ false) × (r ≡ NoMeter)

  abbrev TooMany : Refusal → Type 0
  TooMany r = Right × (has_meter p.layout code.meter ≡ true) × (p.settings.scan.points < reads (items_of code.steps)) × (r ≡ TooManyReadings)

  abbrev Unsourced : Refusal → Type 0
  Unsourced r = Right × (has_meter p.layout code.meter ≡ true) × (reads (items_of code.steps) ≤ p.settings.scan.points)
      × (AreSourced p.settings.scan code.steps → ⊥) × (r ≡ NoSource)

  never : (r : Refusal) → Right → Stops r → ⊥
  never r h s = right_not_stopped p.layout r code.steps (is_among p.closed) none [] h s

  never_full : (r r' : Refusal) → TooMany r → Unsourced r' → ⊥
  never_full r r' x y = let few = y.2 in let many = x.2 in absurd (omega (arith, few, many))

  abbrev Later : Refusal → Type 0
  Later r = TooMany r ⊎ Unsourced r

  later_one : (r r' : Refusal) → Later r → Later r' → r ≡ r'
  later_one r r' h k =
      ⊎_elim
      (λ (x : TooMany r). ⊎_elim (λ (y : TooMany r'). both x.3 y.3) (λ (y : Unsourced r'). absurd (never_full r r' x y)) k)
      (λ (x : Unsourced r). ⊎_elim (λ (y : TooMany r'). absurd (never_full r' r y x)) (λ (y : Unsourced r'). both x.4 y.4) k)
      h

  later_right : (r : Refusal) → Later r → Right × (has_meter p.layout code.meter ≡ true)
  later_right r h = ⊎_elim (λ (x : TooMany r). (x.0, x.1)) (λ (x : Unsourced r). (x.0, x.1)) h

  pub one_cause : (r r' : Refusal) → IsFirstOfProgram r p code → IsFirstOfProgram r' p code → r ≡ r'
  one_cause r r' h k =
      ⊎_elim
      (λ (x : Stops r).
      ⊎_elim (λ (y : Stops r'). stops_once p.layout r r' code.steps (is_among p.closed) none [] x y)
      (λ rest. ⊎_elim (λ (y : Unmeasured r'). absurd (never r y.0 x)) (λ (y : Later r'). absurd (never r (later_right r' y).0 x)) rest) k)
      (λ more. ⊎_elim
      (λ (x : Unmeasured r).
      ⊎_elim (λ (y : Stops r'). absurd (never r' x.0 y))
      (λ rest. ⊎_elim (λ (y : Unmeasured r'). both x.2 y.2)
      (λ (y : Later r'). absurd (both_ways (has_meter p.layout code.meter) x.1 (later_right r' y).1)) rest) k)
      (λ (x : Later r).
      ⊎_elim (λ (y : Stops r'). absurd (never r' (later_right r x).0 y))
      (λ rest. ⊎_elim (λ (y : Unmeasured r'). absurd (both_ways (has_meter p.layout code.meter) y.1 (later_right r x).1))
      (λ (y : Later r'). later_one r r' x y) rest) k)
      more)
      h

-- ---- settings

-- a refusal by its number
abbrev refusal_at : ℕ → Refusal
refusal_at n = slice_index_or (EmptyList ∷ NoChannel ∷ NoMeter ∷ GroupClash ∷ TooManyReadings ∷ BadNesting ∷ BadJump ∷ LeftClosed ∷ NotClosed
    ∷ NoMemory ∷ NoSource ∷ []) (n - 1) NoMemory

at_number : (r : Refusal) → refusal_at (refusal_number r) ≡ r
at_number EmptyList = refl
at_number NoChannel = refl
at_number NoMeter = refl
at_number GroupClash = refl
at_number TooManyReadings = refl
at_number BadNesting = refl
at_number BadJump = refl
at_number LeftClosed = refl
at_number NotClosed = refl
at_number NoMemory = refl
at_number NoSource = refl

-- one refusal of settings is the first
one_of_settings : (p : Snapshot) (r r' : Refusal) → IsFirst r p → IsFirst r' p → r ≡ r'
one_of_settings p r r' f f' =
    ⊎_elim (λ (e : refusal_number r ≡ refusal_number r'). sym (at_number r) ∙ ap refusal_at e ∙ at_number r')
    (λ (o : (refusal_number r < refusal_number r') ⊎ (refusal_number r' < refusal_number r)).
    ⊎_elim (λ (l : refusal_number r < refusal_number r'). absurd (f'.none_before r l f.applies)) (λ (l : refusal_number r' < refusal_number r).
    absurd (f.none_before r' l f'.applies)) o)
    (cases_order (refusal_number r) (refusal_number r'))

first_by : (p : Snapshot) (o : Option Program) (r r' : Refusal) → IsFirstBy r p o → IsFirstBy r' p o → r ≡ r'
first_by p None r r' h k = one_of_settings p r r' h k
first_by p (Some code) r r' h k = one_cause p code r r' h k

-- a scan that may not begin has one first cause
pub one_first : (p : Snapshot) (r r' : Refusal) → IsFirstCause r p → IsFirstCause r' p → r ≡ r'
one_first p r r' h k = first_by p (running p.settings.program) r r' h k

cause_by : (p : Snapshot) (o : Option Program) (r : Refusal) → RefusesBy r p o → ((IsReadyBy p o → ⊥) × IsFirstBy r p o) ⊎ (r ≡ NoMemory)
cause_by p None r h = elim h [ inl a ↦ inl a | inr a ↦ inr a.1 ]
cause_by p (Some code) r h = h

-- but for want of memory it is the first cause that is told
pub first_told : (p : Snapshot) (r : Refusal) → IsRefusedScan r p → ((IsReady p → ⊥) × IsFirstCause r p) ⊎ (r ≡ NoMemory)
first_told p r h = cause_by p (running p.settings.program) r h
