-- What is told of a scan is the first refusal that applies, or that it may begin.
use Rattle.std.proofs.Common.{◌≡◌, ℕ, ◌-◌, ◌<◌, ◌≤◌, ◌==◌, Bool, true, false, List, [], ◌∷◌, ◌++◌, length, Option, None, Some, if◌then◌else◌}
use Rattle.std.proofs.Common.{refl, ap, sym, subst, ◌∙◌, arith, is_some}
use Rattle.std.specs.Prelude.{codes, decimal, slice_index_or, nat_lt}
use Rattle.std.specs.Fmt.{digits}
use Rattle.std.specs.List.{list_all, Any, AllByRecursion}
use Rattle.std.proofs.lemmas.Bool.{both_ways}
use Rattle.std.proofs.lemmas.Bool.Decides.{nat_tests}
use Rattle.sw_base.specs.Layout.{Channel, Layout, is_present, has_meter, slot_at}
use Rattle.sw_channel.specs.Positions.{Position, is_among}
use Rattle.sw_trigger.specs.Settings.{SettingsSeen, IsInRange}
use Rattle.sw_trigger.specs.Agenda.{used_of}
use Rattle.sw_trigger.specs.Counts.{readings_of}
use Rattle.sw_verify.specs.declared.refusal.Refusal.{Refusal}
use Rattle.sw_verify.specs.declared.refusal.Refusal.TheVariants.{EmptyList, NoChannel, NoMeter, GroupClash, TooManyReadings, BadNesting, BadJump, LeftClosed}
use Rattle.sw_verify.specs.declared.refusal.Refusal.TheVariants.{NotClosed, NoMemory, NoSource}
use Rattle.sw_verify.specs.declared.snapshot.Snapshot.{Snapshot}
use Rattle.sw_verify.specs.Sound.{CanCloseEach}
use Rattle.sw_verify.specs.Stops.{IsBarredAt}
use Rattle.sw_verify.specs.Check.{Faulty, refusal_number, IsReadyBySettings, IsFirst, IsBlockedAt}
use Rattle.sw_verify.proofs.Checked.{none_fails, each_but_any, each_not_blocked, sound_from_free, free_from_sound, present_from_sound}
use Rattle.sw_verify.proofs.First.{first_empty, first_absent, first_unmeasured, first_blocked, first_too_many}
use Rattle.sw_code.specs.Range.{Program}
use Rattle.sw_verify.specs.Setup.{running, meter_of, meter_by}
use Rattle.sw_cage.specs.Cage.{cage_layout}
use Rattle.sw_cage.specs.Channels.{closed_list}
use Rattle.sw_core.specs.Event.{last_number}
use Rattle.sw_core.specs.Panel.{Panel, is_running}
use Rattle.sw_core.specs.Good.{IsGoodPanel}
use Rattle.sw_core.specs.Step.{MayScan, snapshot_of}
use Rattle.sw_core.specs.Checking.{quoted}
use Rattle.sw_core.specs.ScanChecking.{Blocked, first_missing, refused_text, accepted_text, missing_words, unmeasured_words, blocked_words, crowded_words}
use Rattle.sw_core.specs.ScanChecking.{blocked_text, missing_text, ready_text, scan_check_text}
use Rattle.sw_core.specs.ScanChecking as told
use Rattle.sw_core.specs.ScanTold.{ScanIsTold}
use Rattle.sw_core.proofs.ScanCheckingLemmas.{missing_present, missing_absent, none_free, some_any}

-- ---- refusals by their numbers

abbrev of_number : ℕ → Refusal
of_number n =
    if n == 1 then EmptyList
    else if n == 2 then NoChannel
    else if n == 3 then NoMeter
    else if n == 4 then GroupClash
    else if n == 5 then TooManyReadings
    else if n == 6 then BadNesting
    else if n == 7 then BadJump
    else if n == 8 then LeftClosed
    else if n == 9 then NotClosed
    else if n == 10 then NoMemory
    else NoSource

numbered : (r : Refusal) → of_number (refusal_number r) ≡ r
numbered EmptyList = refl
numbered NoChannel = refl
numbered NoMeter = refl
numbered GroupClash = refl
numbered TooManyReadings = refl
numbered BadNesting = refl
numbered BadJump = refl
numbered LeftClosed = refl
numbered NotClosed = refl
numbered NoMemory = refl
numbered NoSource = refl

same_number : (r q : Refusal) → refusal_number r ≡ refusal_number q → r ≡ q
same_number r q e = sym (numbered r) ∙ ap of_number e ∙ numbered q

-- only one refusal is the first
first_once : (s : Snapshot) (r q : Refusal) → IsFirst r s → IsFirst q s → r ≡ q
first_once s r q f g = by_less (nat_lt (refusal_number r) (refusal_number q)) refl (nat_lt (refusal_number q) (refusal_number r)) refl
  where
    by_less : (a : Bool) → nat_lt (refusal_number r) (refusal_number q) ≡ a → (b : Bool) → nat_lt (refusal_number q) (refusal_number r) ≡ b → r ≡ q
    by_less true e b d = absurd (g.none_before r (grind (arith, nat_tests, e)) f.applies)
    by_less false e true d = absurd (f.none_before q (grind (arith, nat_tests, d)) g.applies)
    by_less false e false d = same_number r q (grind (arith, nat_tests, e, d))

-- nothing is wrong with a scan that may begin
none_faulty : (s : Snapshot) (r : Refusal) → IsInRange s.settings.scan → IsReadyBySettings s → Faulty r s → ⊥
none_faulty s EmptyList range ready f = let n : length s.settings.scan.list ≡ 0 = ap length f in let l = ready.listed in omega (arith, n, l)
none_faulty s NoChannel range ready f =
    none_fails (list_all (is_present s.layout)) (Any (λ (c : Channel). is_present s.layout c ≡ false))
    (λ q h w. none_fails (is_present s.layout) (λ (c : Channel). is_present s.layout c ≡ false) (λ x a b. both_ways (is_present s.layout x) b a) q h w)
    (used_of s.settings.scan) (present_from_sound s.layout s.closed s.settings.scan ready.listed range ready.sound) f
none_faulty s NoMeter range ready f = both_ways (has_meter s.layout s.settings.scan.meter) f ready.measured
none_faulty s GroupClash range ready f =
    each_but_any (CanCloseEach s.layout (is_among s.closed)) (IsBlockedAt s.layout (is_among s.closed)) (each_not_blocked s.layout (is_among s.closed))
    (used_of s.settings.scan) (free_from_sound s.layout s.closed s.settings.scan ready.listed range ready.sound) f
none_faulty s TooManyReadings range ready f = let k = ready.sound.fits in omega (arith, f, k)
none_faulty s BadNesting range ready f = f
none_faulty s BadJump range ready f = f
none_faulty s LeftClosed range ready f = f
none_faulty s NotClosed range ready f = f
none_faulty s NoMemory range ready f = f
none_faulty s NoSource range ready f = f

-- ---- what is told

-- what stands in a text
abbrev at : List ℕ → ℕ → ℕ
at text i = slice_index_or text i 0

-- of what a scan would begin from
data Judged (s : Snapshot) (text : List ℕ) : Type 0 where
  refuses : (r : Refusal) (words : List ℕ) → IsFirst r s → text ≡ refused_text r words → Judged s text
  accepts : IsReadyBySettings s → text ≡ accepted_text s.settings.scan → Judged s text

module _ (s : Snapshot) (range : IsInRange s.settings.scan) where
  by_counts : 0 < length s.settings.scan.list → list_all (list_all (is_present s.layout)) (used_of s.settings.scan) ≡ true
      → has_meter s.layout s.settings.scan.meter ≡ true → AllByRecursion (CanCloseEach s.layout (is_among s.closed)) (used_of s.settings.scan)
      → (b : Bool) → nat_lt s.settings.scan.points (readings_of s.settings.scan) ≡ b
      → Judged s (if b
      then refused_text TooManyReadings (crowded_words (readings_of s.settings.scan) s.settings.scan.points)
      else accepted_text s.settings.scan)
  by_counts listed present measured free true e =
      refuses TooManyReadings (crowded_words (readings_of s.settings.scan) s.settings.scan.points)
      (first_too_many s listed present measured free (grind (arith, nat_tests, e))) refl
  by_counts listed present measured free false e =
      accepts
      (record {
        listed = listed;
        measured = measured;
        sound = sound_from_free s.layout s.closed s.settings.scan listed range free (grind (arith, nat_tests, e));
      })
      refl

  by_blocked : 0 < length s.settings.scan.list → list_all (list_all (is_present s.layout)) (used_of s.settings.scan) ≡ true
      → has_meter s.layout s.settings.scan.meter ≡ true → (o : Option Blocked)
      → told.first_blocked s.layout s.closed (used_of s.settings.scan) ≡ o → Judged s (blocked_text o s.settings.scan s.layout)
  by_blocked listed present measured (Some b) e =
      refuses GroupClash (blocked_words s.layout b)
      (first_blocked s listed present measured (some_any s.layout s.closed (used_of s.settings.scan) b present e)) refl
  by_blocked listed present measured None e =
      by_counts listed present measured (none_free s.layout s.closed (used_of s.settings.scan) present e)
      (nat_lt s.settings.scan.points (readings_of s.settings.scan)) refl

  by_meter : 0 < length s.settings.scan.list → list_all (list_all (is_present s.layout)) (used_of s.settings.scan) ≡ true → (b : Bool)
      → has_meter s.layout s.settings.scan.meter ≡ b
      → Judged s (if b
      then blocked_text (told.first_blocked s.layout s.closed (used_of s.settings.scan)) s.settings.scan s.layout
      else refused_text NoMeter (unmeasured_words s.settings.scan.meter))
  by_meter listed present true e = by_blocked listed present e (told.first_blocked s.layout s.closed (used_of s.settings.scan)) refl
  by_meter listed present false e = refuses NoMeter (unmeasured_words s.settings.scan.meter) (first_unmeasured s listed present e) refl

  by_missing : 0 < length s.settings.scan.list → (o : Option Channel) → first_missing s.layout (used_of s.settings.scan) ≡ o
      → Judged s (missing_text o s.settings.scan s.layout s.closed)
  by_missing listed (Some c) e =
      refuses NoChannel (missing_words c) (first_absent s listed (missing_absent s.layout (used_of s.settings.scan) c e)) refl
  by_missing listed None e = by_meter listed (missing_present s.layout (used_of s.settings.scan) e) (has_meter s.layout s.settings.scan.meter) refl

  empty_list : (l : List Position) → (length l == 0) ≡ true → l ≡ []
  empty_list [] e = refl
  empty_list (x ∷ l) e = absurd (let n : length (x ∷ l) ≡ 0 = grind (arith, nat_tests, e) in omega (arith, n))

  by_list : (b : Bool) → (length s.settings.scan.list == 0) ≡ b
      → Judged s (if b
      then refused_text EmptyList (codes "nothing is listed (ROUTe:SCAN)")
      else missing_text (first_missing s.layout (used_of s.settings.scan)) s.settings.scan s.layout s.closed)
  by_list true e = refuses EmptyList (codes "nothing is listed (ROUTe:SCAN)") (first_empty s (empty_list s.settings.scan.list e)) refl
  by_list false e = by_missing (grind (arith, nat_tests, e)) (first_missing s.layout (used_of s.settings.scan)) refl

  judged : Judged s (ready_text s.settings.scan s.layout s.closed)
  judged = by_list (length s.settings.scan.list == 0) refl

-- of a mainframe
data Told (p : Panel) (text : List ℕ) : Type 0 where
  runs : at text 1 ≡ 97 → Told p text
  is_out : at text 1 ≡ 116 → Told p text
  numberless : at text 1 ≡ 110 → Told p text
  judges : MayScan p → Judged (snapshot_of p) text → Told p text

-- the text where these are so
abbrev by_tests : Panel → Bool → Bool → Bool → Bool → List ℕ
by_tests p busy programmed away number =
    if busy then quoted (codes "a scan runs") []
    else if programmed then quoted (codes "a program is on") []
    else if away then quoted (codes "the meter of slot " ++ (decimal p.settings.scan.meter ++ codes " is out")) []
    else if number then ready_text p.settings.scan (cage_layout p.cage) (closed_list p.cage.cards)
    else quoted (codes "no number is left for a scan") []

no_program : (o : Option Program) → is_some o ≡ false → o ≡ None
no_program None e = refl
no_program (Some code) e = absurd (cc (e))

-- with no program on the meter is that of the settings
meter_home : (p : Panel) → running p.settings.program ≡ None → meter_of p.settings ≡ p.settings.scan.meter
meter_home p none = ap (λ (o : Option Program). meter_by p.settings.scan o) none

told_of : (p : Panel) → IsGoodPanel p → Told p (scan_check_text p)
told_of p g =
    by_all (is_running p) refl (is_some (running p.settings.program)) refl (is_some (slot_at p.cage.out p.settings.scan.meter)) refl
    (nat_lt p.cage.number last_number) refl
  where
    by_all : (a : Bool) → is_running p ≡ a → (o : Bool) → is_some (running p.settings.program) ≡ o → (b : Bool)
        → is_some (slot_at p.cage.out p.settings.scan.meter) ≡ b → (c : Bool)
        → nat_lt p.cage.number last_number ≡ c → Told p (by_tests p a o b c)
    by_all true e o d b f c h = runs refl
    by_all false e true d b f c h = runs refl
    by_all false e false d true f c h = is_out refl
    by_all false e false d false f true h =
        let home : is_some (slot_at p.cage.out (meter_of p.settings)) ≡ false =
        ap (λ (n : ℕ). is_some (slot_at p.cage.out n)) (meter_home p (no_program (running p.settings.program) d)) ∙ f in
        judges (record { idle = e; home = home; numbered = grind (arith, nat_tests, h) }) (judged (snapshot_of p) g.range)
    by_all false e false d false f false h = numberless refl

-- where a scan may begin and no program is on, it is judged
may_judged : (p : Panel) → running p.settings.program ≡ None → MayScan p
    → scan_check_text p ≡ ready_text p.settings.scan (cage_layout p.cage) (closed_list p.cage.cards)
may_judged p none may =
    by_all (is_running p) may.idle (is_some (running p.settings.program)) (ap (λ (o : Option Program). is_some o) none)
    (is_some (slot_at p.cage.out p.settings.scan.meter))
    (ap (λ (n : ℕ). is_some (slot_at p.cage.out n)) (sym (meter_home p none)) ∙ may.home) (nat_lt p.cage.number last_number)
    (let n = may.numbered in grind (arith, nat_tests, n))
  where
    by_all : (a : Bool) → a ≡ false → (o : Bool) → o ≡ false → (b : Bool) → b ≡ false → (c : Bool) → c ≡ true
        → by_tests p a o b c ≡ ready_text p.settings.scan (cage_layout p.cage) (closed_list p.cage.cards)
    by_all true e o d b f c h = absurd (cc (e))
    by_all false e true d b f c h = absurd (cc (d))
    by_all false e false d true f c h = absurd (cc (f))
    by_all false e false d false f true h = refl
    by_all false e false d false f false h = absurd (cc (h))

-- ---- what a text names

-- a refusal's number by its two places in a text
abbrev of_places : ℕ → ℕ → Refusal
of_places a b =
    if a == 49 then if b == 48 then NoMemory else if b == 49 then NoSource else EmptyList
    else of_number (a - 48)

placed : (r : Refusal) (words : List ℕ) → of_places (at (refused_text r words) 9) (at (refused_text r words) 10) ≡ r
unfolding digits
placed EmptyList words = refl
placed NoChannel words = refl
placed NoMeter words = refl
placed GroupClash words = refl
placed TooManyReadings words = refl
placed BadNesting words = refl
placed BadJump words = refl
placed LeftClosed words = refl
placed NotClosed words = refl
placed NoMemory words = refl
placed NoSource words = refl

same_named : (r q : Refusal) (v w : List ℕ) → refused_text r v ≡ refused_text q w → r ≡ q
same_named r q v w e =
    sym (placed r v) ∙ ap (λ (t : List ℕ). of_places (at t 9) (at t 10)) e ∙ placed q w

begins : (t u : List ℕ) → t ≡ u → at t 1 ≡ at u 1
begins t u e = ap (λ (l : List ℕ). at l 1) e

allowed : (p : Panel) (words text : List ℕ) → Told p text → text ≡ quoted (codes "ok" ++ words) [] → MayScan p × IsReadyBySettings (snapshot_of p)
allowed p words text (runs h) e = absurd (let t : at text 1 ≡ 111 = begins text _ e in omega (arith, t, h))
allowed p words text (is_out h) e = absurd (let t : at text 1 ≡ 111 = begins text _ e in omega (arith, t, h))
allowed p words text (numberless h) e = absurd (let t : at text 1 ≡ 111 = begins text _ e in omega (arith, t, h))
allowed p words text (judges may (refuses r v f is)) e =
    absurd (let t : 114 ≡ 111 = begins (refused_text r v) (quoted (codes "ok" ++ words) []) (sym is ∙ e) in omega (arith, t))
allowed p words text (judges may (accepts ready is)) e = (may, ready)

named : (p : Panel) (r : Refusal) (words text : List ℕ) → Told p text → text ≡ refused_text r words → MayScan p × IsFirst r (snapshot_of p)
named p r words text (runs h) e = absurd (let t : at text 1 ≡ 114 = begins text _ e in omega (arith, t, h))
named p r words text (is_out h) e = absurd (let t : at text 1 ≡ 114 = begins text _ e in omega (arith, t, h))
named p r words text (numberless h) e = absurd (let t : at text 1 ≡ 114 = begins text _ e in omega (arith, t, h))
named p r words text (judges may (refuses q v f is)) e =
    (may, subst (λ (x : Refusal). IsFirst x (snapshot_of p)) (same_named q r v words (sym is ∙ e)) f)
named p r words text (judges may (accepts ready is)) e =
    absurd (let t : 111 ≡ 114 = begins (accepted_text p.settings.scan) (refused_text r words) (sym is ∙ e) in omega (arith, t))

all : (p : Panel) (text : List ℕ) → IsGoodPanel p → IsReadyBySettings (snapshot_of p) → Judged (snapshot_of p) text → text ≡ accepted_text p.settings.scan
all p text g ready (refuses r v f is) = absurd (none_faulty (snapshot_of p) r g.range ready f.applies)
all p text g ready (accepts k is) = is

refused : (p : Panel) (r : Refusal) (text : List ℕ) → IsGoodPanel p → IsFirst r (snapshot_of p) → Judged (snapshot_of p) text
    → (words : List ℕ) × (text ≡ refused_text r words)
refused p r text g first (refuses q v f is) =
    (v, is ∙ ap (λ (x : Refusal). refused_text x v) (first_once (snapshot_of p) q r f first))
refused p r text g first (accepts ready is) = absurd (none_faulty (snapshot_of p) r g.range ready first.applies)

pub scan_told : ScanIsTold
scan_told = record {
  allowed = λ p words g e. allowed p words (scan_check_text p) (told_of p g) e;
  all = λ p g none may ready. may_judged p none may ∙ all p (ready_text p.settings.scan (cage_layout p.cage) (closed_list p.cage.cards)) g ready (judged (snapshot_of p) g.range);
  named = λ p r words g e. named p r words (scan_check_text p) (told_of p g) e;
  refused = λ p r g none may first.
      let w = refused p r (ready_text p.settings.scan (cage_layout p.cage) (closed_list p.cage.cards)) g first (judged (snapshot_of p) g.range) in
      (w.0, may_judged p none may ∙ w.1);
}
