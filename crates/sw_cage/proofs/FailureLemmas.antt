-- Whether a card's count of failures changed where a scan went on: exactly where that is told.
use Rattle.std.proofs.Common.{◌≡◌, ℕ, zero, suc, ◌-◌, ◌||◌, nat_lt, Bool, true, false, [], ◌∷◌, Option, None, Some, slice_index_or, slice_set, refl, sym}
use Rattle.std.proofs.Common.{ap, ◌∙◌}
use Rattle.std.proofs.Common.{if◌then◌else◌, Result, Ok, Err, is_err, List}
use Rattle.std.proofs.lemmas.Bool.{or_left, or_right}
use Rattle.sw_base.specs.Layout.{slot_at}
use Rattle.sw_card.specs.Account.{Account}
use Rattle.sw_cage.specs.Accounts.{Accounts, all_open}
use Rattle.sw_cage.specs.Change.{option_failed, any_failed, OneFailed}
use Rattle.sw_cage.specs.TakenSeen.{TakenSeen, SaysIgnored, SaysWaits, SaysPause, SaysJob, SaysEnded, SaysFault, tells_fault}
use Rattle.sw_cage.specs.Outcome.{Occupancy, occupancy_of, AdvancesOrFails, Advances, AdvancesPast, AdvancesPastFrom, Counts, with_reading, readings_with}
use Rattle.sw_cage.specs.Cage.{ScanSeen, CageSeen}
use Rattle.sw_base.specs.declared.reading.Reading.{Reading}
use Rattle.sw_card.specs.declared.board.CardFault.{CardFault}
use Rattle.sw_verify.specs.Course.{CourseSeen}
use Rattle.sw_trigger.specs.Agenda.{Item}
use Rattle.sw_cage.specs.Advance.{moves_from, next_place}
use Rattle.sw_cage.proofs.ChannelCallLemmas.{sets_unfailed}

never_out : (o : Option Account) → option_failed o None ≡ false
never_out None = refl
never_out (Some a) = refl

at_index : (old new : Accounts) (i : ℕ) → option_failed (slice_index_or old i None) (slice_index_or new i None) ≡ true → any_failed old new ≡ true
at_index [] new i h = absurd (cc)
at_index (a ∷ old) [] i h = absurd (let e = never_out (slice_index_or (a ∷ old) i None) in cc)
at_index (a ∷ old) (b ∷ new) zero h = or_left (option_failed a b) (any_failed old new) h
at_index (a ∷ old) (b ∷ new) (suc i) h = or_right (option_failed a b) (any_failed old new) (at_index old new i h)

at_if : (t : Bool) (x y : Option Account) → option_failed (if t then x else None) (if t then y else None) ≡ true → option_failed x y ≡ true
at_if true x y h = h
at_if false x y h = absurd (cc)

-- one slot's card decides
pub failed_at : (old new : Accounts) (s : ℕ) → option_failed (slot_at old s) (slot_at new s) ≡ true → any_failed old new ≡ true
failed_at old new s h = at_index old new (s - 1) (at_if (nat_lt 0 s) (slice_index_or old (s - 1) None) (slice_index_or new (s - 1) None) h)

pub one_failed : (old new : Accounts) → OneFailed old new → any_failed old new ≡ true
one_failed old new f = failed_at old new f.slot f.counted

or_none : (a b : Bool) → (a || b) ≡ false → (a ≡ false) × (b ≡ false)
or_none true b h = absurd (cc)
or_none false b h = (refl, h)

-- a card that went out is not looked at
pub unfailed_out : (old mid : Accounts) (i : ℕ) → any_failed old mid ≡ false → any_failed old (slice_set mid i None) ≡ false
unfailed_out [] mid i h = refl
unfailed_out (a ∷ old) [] i h = refl
unfailed_out (a ∷ old) (b ∷ mid) zero h = ap (λ t. t || any_failed old mid) (never_out a) ∙ (or_none (option_failed a b) (any_failed old mid) h).1
unfailed_out (a ∷ old) (b ∷ mid) (suc i) h =
    let w = or_none (option_failed a b) (any_failed old mid) h in
    ap (λ t. t || any_failed old (slice_set mid i None)) w.0 ∙ unfailed_out old mid i w.1

like : (old mid : Accounts) (new : Occupancy) → all_open mid ≡ all_open old → new.cards ≡ mid → any_failed old new.cards ≡ false
like old mid new e f = ap (any_failed old) f ∙ sets_unfailed old mid e

-- a scan that goes on tells of a fault exactly where a card's count changed
pub failed_runs : (old new : Occupancy) (number : ℕ) (moves : List Item) (at : ScanSeen) (told : TakenSeen) (scan : Option ScanSeen)
    → AdvancesOrFails old number moves at told new scan → any_failed old.cards new.cards ≡ tells_fault told
failed_runs old new number moves at SaysIgnored scan h = absurd h.arrives
failed_runs old new number moves at SaysWaits scan h = like old.cards h.cards new h.moved.rest (ap (λ (b : Occupancy). b.cards) h.arrives.1)
failed_runs old new number moves at (SaysPause t micros) scan h = like old.cards h.cards new h.moved.rest (ap (λ (b : Occupancy). b.cards) h.arrives.2)
failed_runs old new number moves at (SaysJob job) scan h =
    ap (any_failed old.cards) (ap (λ (b : Occupancy). b.cards) h.arrives.1.after) ∙ unfailed_out old.cards h.cards (at.course.meter - 1)
    (sets_unfailed old.cards h.cards h.moved.rest)
failed_runs old new number moves at SaysEnded scan h = like old.cards h.cards new h.moved.rest (ap (λ (b : Occupancy). b.cards) h.arrives.1)
failed_runs old new number moves at SaysFault scan h = one_failed old.cards new.cards h.fallen.failed.one

pub failed_goes : (p q : CageSeen) (s : CourseSeen) (i : ℕ) (told : TakenSeen) → Advances p s i told q → any_failed p.cards q.cards ≡ tells_fault told
failed_goes p q s i told h = failed_runs (occupancy_of p) (occupancy_of q) p.number (moves_from s i) (next_place s i) told q.scan h.runs

past_from : (p q : CageSeen) (scan : Option ScanSeen) (told : TakenSeen) → AdvancesPastFrom p scan told q
    → any_failed p.cards q.cards ≡ tells_fault told
past_from p q None told h = absurd h
past_from p q (Some at) told h = failed_goes p q at.course _ told h

pub failed_past : (p q : CageSeen) (told : TakenSeen) → AdvancesPast p told q → any_failed p.cards q.cards ≡ tells_fault told
failed_past p q told h = past_from p q p.scan told h

-- a return that is taken tells of a fault exactly where its measurement failed, or a relay card's count changed
pub failed_counts : (p q : CageSeen) (outcome : Result Reading CardFault) (told : TakenSeen) → Counts p outcome told q
    → tells_fault told ≡ (is_err outcome || any_failed p.cards q.cards)
failed_counts p q (Ok r) told h = sym (failed_past (with_reading p r) q told h)
failed_counts p q (Err e) told h = ap tells_fault h.0

readings_from : (p q : CageSeen) (scan : Option ScanSeen) (told : TakenSeen) → AdvancesPastFrom p scan told q → q.readings ≡ p.readings
readings_from p q None told h = absurd h
readings_from p q (Some at) told h = h.readings

pub readings_past : (p q : CageSeen) (told : TakenSeen) → AdvancesPast p told q → q.readings ≡ p.readings
readings_past p q told h = readings_from p q p.scan told h

pub readings_counts : (p q : CageSeen) (outcome : Result Reading CardFault) (told : TakenSeen) → Counts p outcome told q
    → q.readings ≡ readings_with p.readings outcome
readings_counts p q (Ok r) told h = readings_past (with_reading p r) q told h
readings_counts p q (Err e) told h = ap (λ (x : CageSeen). x.readings) h.1
