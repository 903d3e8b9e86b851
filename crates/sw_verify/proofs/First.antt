-- The first refusal that applies.
use Rattle.std.proofs.Common.{◌≡◌, ◌<◌, Bool, true, false, List, [], length, ap, arith}
use Rattle.std.specs.List.{list_all, Any, AllByRecursion}
use Rattle.std.proofs.lemmas.Bool.{both_ways}
use Rattle.sw_base.specs.Layout.{is_present, has_meter}
use Rattle.sw_trigger.specs.Agenda.{used_of}
use Rattle.sw_trigger.specs.Counts.{readings_of}
use Rattle.sw_verify.specs.declared.refusal.Refusal.{Refusal}
use Rattle.sw_verify.specs.declared.refusal.Refusal.TheVariants.{EmptyList, NoChannel, NoMeter, GroupClash, TooManyReadings, BadNesting, BadJump, LeftClosed}
use Rattle.sw_verify.specs.declared.refusal.Refusal.TheVariants.{NotClosed, NoMemory, NoSource}
use Rattle.sw_verify.specs.declared.snapshot.Snapshot.{Snapshot}
use Rattle.sw_verify.specs.Channels.{is_among}
use Rattle.sw_verify.specs.Sound.{CanCloseEach}
use Rattle.sw_verify.specs.Stops.{IsBarredAt}
use Rattle.sw_channel.specs.Positions.{Position}
use Rattle.sw_verify.specs.Check.{Faulty, refusal_number, IsFirst, IsBlockedAt}
use Rattle.sw_verify.proofs.Checked.{any_fails, none_fails, each_but_any, any_with, each_not_blocked, barred_blocked}

-- none before r, one by one
none_before : (p : Snapshot) (r : Refusal) → (1 < refusal_number r → Faulty EmptyList p → ⊥) → (2 < refusal_number r → Faulty NoChannel p → ⊥)
    → (3 < refusal_number r → Faulty NoMeter p → ⊥) → (4 < refusal_number r → Faulty GroupClash p → ⊥) → (5 < refusal_number r → Faulty TooManyReadings p → ⊥)
    → (q : Refusal)
    → refusal_number q < refusal_number r → Faulty q p → ⊥
none_before p r a b c d e EmptyList l f = a l f
none_before p r a b c d e NoChannel l f = b l f
none_before p r a b c d e NoMeter l f = c l f
none_before p r a b c d e GroupClash l f = d l f
none_before p r a b c d e TooManyReadings l f = e l f
none_before p r a b c d e BadNesting l f = f
none_before p r a b c d e BadJump l f = f
none_before p r a b c d e LeftClosed l f = f
none_before p r a b c d e NotClosed l f = f
none_before p r a b c d e NoMemory l f = f
none_before p r a b c d e NoSource l f = f

not_empty : (list : List Position) → 0 < length list → list ≡ [] → ⊥
not_empty list h e = let n : length list ≡ 0 = ap length e in omega arith

module _ (p : Snapshot) where
  abbrev present : Bool
  present = list_all (list_all (is_present p.layout)) (used_of p.settings.scan)

  abbrev Free : Type 0
  Free = AllByRecursion (CanCloseEach p.layout (is_among p.closed)) (used_of p.settings.scan)

  abbrev Barred : Type 0
  Barred = Any (λ (q : Position). (r : Refusal) × IsBarredAt p.layout (is_among p.closed) q r) (used_of p.settings.scan)

  not_there : (q : Position) → list_all (is_present p.layout) q ≡ false → Any (λ c. is_present p.layout c ≡ false) q
  not_there q h = any_fails (is_present p.layout) (λ c. is_present p.layout c ≡ false) (λ x a. a) q h

  all_there : (q : Position) → list_all (is_present p.layout) q ≡ true → Any (λ c. is_present p.layout c ≡ false) q → ⊥
  all_there q h = none_fails (is_present p.layout) (λ c. is_present p.layout c ≡ false) (λ x a b. both_ways (is_present p.layout x) b a) q h

  none_absent : present ≡ true → Any (Any (λ c. is_present p.layout c ≡ false)) (used_of p.settings.scan) → ⊥
  none_absent t = none_fails (list_all (is_present p.layout)) (Any (λ c. is_present p.layout c ≡ false)) all_there (used_of p.settings.scan) t

  none_blocked : Free → Any (IsBlockedAt p.layout (is_among p.closed)) (used_of p.settings.scan) → ⊥
  none_blocked t = each_but_any (CanCloseEach p.layout (is_among p.closed)) (IsBlockedAt p.layout (is_among p.closed))
      (each_not_blocked p.layout (is_among p.closed)) (used_of p.settings.scan) t

  pub first_empty : p.settings.scan.list ≡ [] → IsFirst EmptyList p
  first_empty e = record {
    applies = e;
    none_before = none_before p EmptyList (λ l f. omega arith) (λ l f. omega arith) (λ l f. omega arith) (λ l f. omega arith) (λ l f. omega arith);
  }

  pub first_absent : 0 < length p.settings.scan.list → present ≡ false → IsFirst NoChannel p
  first_absent h t = record {
    applies = any_fails (list_all (is_present p.layout)) (Any (λ c. is_present p.layout c ≡ false)) not_there (used_of p.settings.scan) t;
    none_before = none_before p NoChannel (λ l f. not_empty p.settings.scan.list h f) (λ l f. omega arith) (λ l f. omega arith) (λ l f. omega arith) (λ l f.
        omega arith);
  }

  pub first_unmeasured : 0 < length p.settings.scan.list → present ≡ true → has_meter p.layout p.settings.scan.meter ≡ false → IsFirst NoMeter p
  first_unmeasured h t m = record {
    applies = m;
    none_before = none_before p NoMeter (λ l f. not_empty p.settings.scan.list h f) (λ l f. none_absent t f) (λ l f. omega arith) (λ l f. omega arith) (λ l f.
        omega arith);
  }

  pub first_blocked : 0 < length p.settings.scan.list → present ≡ true → has_meter p.layout p.settings.scan.meter ≡ true → Barred → IsFirst GroupClash p
  first_blocked h t m f = record {
    applies = any_with (list_all (is_present p.layout)) (λ (q : Position). (r : Refusal) × IsBarredAt p.layout (is_among p.closed) q r)
        (IsBlockedAt p.layout (is_among p.closed)) (λ q h w. barred_blocked p.layout (is_among p.closed) q w.0 h w.1) (used_of p.settings.scan) t f;
    none_before = none_before p GroupClash (λ l f. not_empty p.settings.scan.list h f) (λ l f. none_absent t f) (λ l f.
        both_ways (has_meter p.layout p.settings.scan.meter) f m) (λ l f. omega arith) (λ l f. omega arith);
  }

  pub first_too_many : 0 < length p.settings.scan.list → present ≡ true → has_meter p.layout p.settings.scan.meter ≡ true → Free
      → p.settings.scan.points < readings_of p.settings.scan → IsFirst TooManyReadings p
  first_too_many h t m f r = record {
    applies = r;
    none_before = none_before p TooManyReadings (λ l f. not_empty p.settings.scan.list h f) (λ l f. none_absent t f) (λ l f.
        both_ways (has_meter p.layout p.settings.scan.meter) f m) (λ l b. none_blocked f b) (λ l f. omega arith);
  }
