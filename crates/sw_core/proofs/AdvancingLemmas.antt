-- Every happening that a scan takes leaves it one less to await, and the same closed at its end.
use Rattle.std.proofs.Common.{◌≡◌, ℕ, suc, ◌+◌, ◌≤◌, ◌<◌, Bool, true, false, List, [], ◌∷◌, length, take, drop, Option, None, Some}
use Rattle.std.proofs.Common.{is_some, Result, Ok, Err, ◌⊎◌, inl, inr, refl, ap, sym, subst, ◌∙◌, arith}
use Rattle.std.proofs.lemmas.List.{take-append-drop}
use mathlib.Core.Path.{fun_ext}
use Rattle.sw_base.specs.Layout.{Channel, slot_at}
use Rattle.sw_base.specs.declared.reading.Reading.{Reading}
use Rattle.sw_card.specs.declared.board.CardFault.{CardFault}
use Rattle.sw_trigger.specs.declared.layer.Awaited.{Awaited}
use Rattle.sw_trigger.specs.declared.layer.Awaited.TheVariants.{Read}
use Rattle.sw_verify.specs.Course.{CourseSeen}
use Rattle.sw_trigger.specs.Agenda.{Item, Awaits, Close, Open}
use Rattle.sw_trigger.specs.Counts.{awaiting, reads}
use Rattle.sw_verify.specs.Sound.{effect}
use Rattle.sw_cage.specs.Accounts.{is_closed}
use Rattle.sw_cage.specs.Cage.{ScanSeen, CageSeen, ticket_of}
use Rattle.sw_cage.specs.Good.{IsHeld}
use Rattle.sw_cage.specs.Advance.{leading_moves, first_awaited, moves_from, next_place, awaits}
use Rattle.sw_cage.specs.Takes.{TakesIf, TakesThere, TakesReturnThere}
use Rattle.sw_cage.specs.Work.{FinishedSeen}
use Rattle.sw_cage.specs.TakenSeen.{TakenSeen, SaysIgnored, SaysWaits, SaysPause, SaysJob, SaysEnded, SaysFault}
use Rattle.sw_cage.specs.declared.job.Ticket.{Ticket}
use Rattle.sw_cage.specs.declared.taken.Happening.{Happening}
use Rattle.sw_cage.specs.Outcome.{Occupancy, occupancy_of, Arrives, AdvancesOrFails, Advances, AdvancesPastFrom, Counts, with_back, with_reading}
use Rattle.sw_core.specs.Panel.{Panel}
use Rattle.sw_core.specs.Step.{Happens}
use Rattle.sw_core.specs.Step.{Returns}
use Rattle.sw_cage.proofs.SlotChangeLemmas.{some_slot}
use Rattle.sw_cage.proofs.AdvanceLemmas.{closed_back}
use Rattle.sw_core.proofs.CourseLemmas.{drop_past, leaves, Holds, SameClosed, holds_same, holds_none, holds_goes}
use Rattle.sw_core.specs.Seen.{AskSeen, AskFinished, AnswerSeen}
use Rattle.std.proofs.lemmas.List.{length-append}
use Rattle.std.specs.Prelude.{IfOk}
use Rattle.sw_core.specs.Ends.{left_at, left_of, left_in}
use Rattle.sw_trigger.specs.declared.layer.Awaited.TheVariants.{Wait, Period, Pause}
use Rattle.sw_trigger.specs.Counts.{is_reading}
use Rattle.sw_trigger.proofs.Awaiting.{reads-append}
use Rattle.sw_cage.specs.Good.{IsUnderway}
use Rattle.sw_cage.proofs.SlotChangeLemmas.{all_open_closed}
use Rattle.sw_cage.proofs.UnderwayLemmas.{reads_way, reads_past}
use Rattle.sw_core.specs.Seen.{IsOwnAccount}
use Rattle.sw_core.specs.Run.{AddsOwn}
use Rattle.sw_core.specs.Ends.{breaks_off}
use Rattle.sw_core.proofs.CourseLemmas.{effect_next, past_closed}

-- ---- agendas

-- what the first item awaits is the first of what is awaited
awaited_first : (l : List Item) (x : Awaited) → first_awaited l ≡ Some x → length (awaiting l) ≡ suc (length (awaiting (drop 1 l)))
awaited_first [] x e = absurd (cc (e))
awaited_first (Awaits w ∷ l) x e = refl
awaited_first (Close c ∷ l) x e = absurd (cc (e))
awaited_first (Open c ∷ l) x e = absurd (cc (e))

-- closings and openings await nothing
lead_awaits : (l : List Item) → awaiting (drop (length (leading_moves l)) l) ≡ awaiting l
lead_awaits [] = refl
lead_awaits (Awaits w ∷ l) = refl
lead_awaits (Close c ∷ l) = lead_awaits l
lead_awaits (Open c ∷ l) = lead_awaits l

-- what they lead to awaits, or is the end
lead_ends : (l : List Item) → first_awaited (drop (length (leading_moves l)) l) ≡ None → awaiting l ≡ []
lead_ends [] e = refl
lead_ends (Awaits w ∷ l) e = absurd (cc (e))
lead_ends (Close c ∷ l) e = lead_ends l e
lead_ends (Open c ∷ l) e = lead_ends l e

-- one awaited item is passed
pub left_past : (at : ScanSeen) (x : Awaited) → awaits at ≡ Some x → left_at at ≡ suc (length (awaiting (drop (at.index + 1) at.course.items)))
left_past at x e =
    awaited_first (drop at.index at.course.items) x e ∙ ap (λ (l : List Item). suc (length (awaiting l))) (sym (drop_past at.index 1 at.course.items))

-- and the next is come to
pub left_next : (s : CourseSeen) (i : ℕ) → left_at (next_place s i) ≡ length (awaiting (drop i s.items))
left_next s i =
    ap (λ (l : List Item). length (awaiting l)) (drop_past i (length (moves_from s i)) s.items)
    ∙ ap (λ (l : List Awaited). length l) (lead_awaits (drop i s.items))

left_none : (s : CourseSeen) (i : ℕ) → awaits (next_place s i) ≡ None → length (awaiting (drop i s.items)) ≡ 0
left_none s i e =
    ap (λ (l : List Awaited). length l) (lead_ends (drop i s.items) (ap first_awaited (sym (drop_past i (length (moves_from s i)) s.items)) ∙ e))

-- ---- scans

-- where a scan is that came to the next awaited item from item i on
pub left_arrives : (old new : Occupancy) (number : ℕ) (s : CourseSeen) (i : ℕ) (told : TakenSeen) (scan : Option ScanSeen)
    → Arrives old number (next_place s i) told new scan → left_of scan ≡ length (awaiting (drop i s.items))
left_arrives old new number s i SaysWaits scan h = ap left_of h.2 ∙ left_next s i
left_arrives old new number s i (SaysPause ticket micros) scan h = ap left_of h.3 ∙ left_next s i
left_arrives old new number s i (SaysJob job) scan h = ap left_of h.2 ∙ left_next s i
left_arrives old new number s i SaysEnded scan h = ap left_of h.2 ∙ sym (left_none s i h.0)
left_arrives old new number s i told scan h = absurd h

-- unless a card failed, which ends it
abbrev IsLeft : Option ScanSeen → ℕ → Type 0
IsLeft scan n = (left_of scan ≡ n) ⊎ (scan ≡ None)

left_runs : (old new : Occupancy) (number : ℕ) (s : CourseSeen) (i : ℕ) (told : TakenSeen) (scan : Option ScanSeen)
    → AdvancesOrFails old number (moves_from s i) (next_place s i) told new scan → IsLeft scan (length (awaiting (drop i s.items)))
left_runs old new number s i SaysFault scan h = inr h.over
left_runs old new number s i SaysIgnored scan h = inl (left_arrives (record old { cards = h.cards }) new number s i SaysIgnored scan h.arrives)
left_runs old new number s i SaysWaits scan h = inl (left_arrives (record old { cards = h.cards }) new number s i SaysWaits scan h.arrives)
left_runs old new number s i (SaysPause ticket micros) scan h =
    inl (left_arrives (record old { cards = h.cards }) new number s i (SaysPause ticket micros) scan h.arrives)
left_runs old new number s i (SaysJob job) scan h = inl (left_arrives (record old { cards = h.cards }) new number s i (SaysJob job) scan h.arrives)
left_runs old new number s i SaysEnded scan h = inl (left_arrives (record old { cards = h.cards }) new number s i SaysEnded scan h.arrives)

-- From p to q so many happenings are taken, and as many less are awaited, unless the scan is over. No scan begins.
pub record Nears (p : Panel) (taken : ℕ) (q : Panel) : Type 0 where
  pub most : taken ≤ left_in p
  pub left : (taken + left_in q ≡ left_in p) ⊎ (q.cage.scan ≡ None)
  pub idle : p.cage.scan ≡ None → q.cage.scan ≡ None
  pub holds : Holds p.cage q.cage

near_same : (p q : Panel) → q.cage.scan ≡ p.cage.scan → SameClosed p.cage q.cage → Nears p 0 q
near_same p q e r =
    record {
      most = omega arith;
      left = inl (omega (arith, (let n : left_in q ≡ left_in p = ap left_of e in n)));
      idle = λ i. e ∙ i;
      holds = holds_same p.cage q.cage e r;
    }

pub near_is : (p q : Panel) → q ≡ p → Nears p 0 q
near_is p q e = near_same p q (ap (λ (x : Panel). x.cage.scan) e) (λ c. ap (λ (x : Panel). is_closed x.cage.cards c) e)

pub near_none : (p q : Panel) → q.cage.scan ≡ None → Nears p 0 q
near_none p q e = record { most = omega arith; left = inr e; idle = λ i. e; holds = holds_none p.cage q.cage e }

near_goes : (p q : Panel) (from : CageSeen) (at : ScanSeen) (x : Awaited) (told : TakenSeen) → p.cage.scan ≡ Some at → awaits at ≡ Some x
    → SameClosed p.cage from → Advances from at.course (at.index + 1) told q.cage → Nears p 1 q
near_goes p q from at x told is e same g =
    by_left (length (awaiting (drop (at.index + 1) at.course.items))) (ap left_of is
    ∙ left_past at x e) (left_runs (occupancy_of from) (occupancy_of q.cage) from.number at.course (at.index + 1) told q.cage.scan g.runs)
  where
    by_left : (n : ℕ) → left_in p ≡ suc n → IsLeft q.cage.scan n → Nears p 1 q
    by_left n l (inl m) = record {
      most = omega (arith, l);
      left = inl (omega (arith, l, m));
      idle = λ i. absurd (let r = sym is ∙ i in cc (r));
      holds = holds_goes p.cage q.cage from at x told is e same g;
    }
    by_left n l (inr m) = record { most = omega (arith, l); left = inr m; idle = λ i. m; holds = holds_none p.cage q.cage m }

-- nothing stands behind the closings and openings that lead to no awaited item
lead_nil : (l : List Item) → first_awaited (drop (length (leading_moves l)) l) ≡ None → drop (length (leading_moves l)) l ≡ []
lead_nil [] e = refl
lead_nil (Awaits w ∷ l) e = absurd (cc (e))
lead_nil (Close c ∷ l) e = lead_nil l e
lead_nil (Open c ∷ l) e = lead_nil l e

place_nil : (s : CourseSeen) (i : ℕ) → awaits (next_place s i) ≡ None → drop (i + length (moves_from s i)) s.items ≡ []
place_nil s i e =
    let there = drop_past i (length (moves_from s i)) s.items in
    there ∙ lead_nil (drop i s.items) (ap first_awaited (sym there) ∙ e)

-- where nothing is left, what was done is all
reads_all : (s : CourseSeen) (n : ℕ) → drop n s.items ≡ [] → reads (take n s.items) ≡ reads s.items
reads_all s n e =
    let whole = ap reads (sym (take-append-drop n s.items)) ∙ reads-append (take n s.items) (drop n s.items) in
    let rest : reads (drop n s.items) ≡ 0 = ap reads e in
    omega (arith, whole, rest)

-- ---- one step

-- The scan that stood at an item has come to its end.
pub record Completed (p : CageSeen) (at : ScanSeen) (taken : ℕ) (q : CageSeen) : Type 0 where
  pub one : taken ≡ 1
  pub last : left_at at ≡ 1
  pub closed : is_closed q.cards ≡ leaves p.cards at
  pub readings : length q.readings ≡ reads at.course.items

-- The scan that stood at an item was ended before.
pub record Stopped (at : ScanSeen) (q : CageSeen) : Type 0 where
  pub none : (c : Channel) → is_closed q.cards c ≡ false
  pub items : ℕ
  pub readings : length q.readings ≡ reads (take items at.course.items)

abbrev pub Ends : Bool → CageSeen → ℕ → CageSeen → Type 0
Ends off p taken q = (at : ScanSeen) → p.scan ≡ Some at → IsUnderway p at → q.scan ≡ None
    → Completed p at taken q ⊎ ((off ≡ true) × Stopped at q)

-- what an ask does that begins no scan
pub record Moves (ask : AskSeen) (answer : AnswerSeen) (p : Panel) (taken : ℕ) (q : Panel) : Type 0 where
  pub near : Nears p taken q
  pub ends : Ends (breaks_off ask answer) p.cage taken q.cage
  pub adds : IsOwnAccount ask → AddsOwn ask p.cage.readings q.cage.readings

still_runs : (p q : CageSeen) (at : ScanSeen) → p.scan ≡ Some at → q.scan ≡ p.scan → q.scan ≡ None → ⊥
still_runs p q at is e over = let n = sym is ∙ sym e ∙ over in cc (n)

pub move_same : (ask : AskSeen) (a : AnswerSeen) (p q : Panel) → q.cage.scan ≡ p.cage.scan → SameClosed p.cage q.cage → q.cage.readings ≡ p.cage.readings
    → Moves ask a p 0 q
move_same ask a p q e c r = record {
  near = near_same p q e c;
  ends = λ at is u over. absurd (still_runs p.cage q.cage at is e over);
  adds = λ own. inl r;
}

pub move_is : (ask : AskSeen) (a : AnswerSeen) (p q : Panel) → q ≡ p → Moves ask a p 0 q
move_is ask a p q e =
    move_same ask a p q (ap (λ (x : Panel). x.cage.scan) e) (λ c. ap (λ (x : Panel). is_closed x.cage.cards c) e) (ap (λ (x : Panel). x.cage.readings) e)

-- no scan ran, and none does
abbrev pub IsIdle : CageSeen → CageSeen → Type 0
IsIdle p q = (p.scan ≡ None) × (q.scan ≡ None) × (q.readings ≡ p.readings)

-- what runs is stopped
abbrev pub IsCut : Bool → CageSeen → CageSeen → Type 0
IsCut off p q = (off ≡ true) × (q.scan ≡ None) × ((c : Channel) → is_closed q.cards c ≡ false) × ((q.readings ≡ p.readings) ⊎ (q.readings ≡ []))

pub move_idle : (ask : AskSeen) (a : AnswerSeen) (p q : Panel) → IsIdle p.cage q.cage → Moves ask a p 0 q
move_idle ask a p q i = record {
  near = near_none p q i.1;
  ends = λ at is u over. absurd (let n = sym is ∙ i.0 in cc (n));
  adds = λ own. inl i.2;
}

stopped_by : (at : ScanSeen) (p q : CageSeen) → IsUnderway p at → ((c : Channel) → is_closed q.cards c ≡ false) → (q.readings ≡ p.readings) ⊎ (q.readings ≡ [])
    → Stopped at q
stopped_by at p q u none (inl e) = record { none = none; items = at.index; readings = ap (λ (l : List Reading). length l) e ∙ u.readings }
stopped_by at p q u none (inr e) = record { none = none; items = 0; readings = ap (λ (l : List Reading). length l) e }

pub move_cut : (ask : AskSeen) (a : AnswerSeen) (p q : Panel) → IsCut (breaks_off ask a) p.cage q.cage → Moves ask a p 0 q
move_cut ask a p q h = record {
  near = near_none p q h.1;
  ends = λ at is u over. inr (h.0, stopped_by at p.cage q.cage u h.2 h.3);
  adds = λ own. elim h.3 [ inl e ↦ inl e | inr e ↦ inr (inl e) ];
}

-- ---- a scan goes on

some_is : (q : CageSeen) (at : ScanSeen) → q.scan ≡ Some at → q.scan ≡ None → ⊥
some_is q at e over = let n = sym e ∙ over in cc (n)

completes : (p from q : CageSeen) (at : ScanSeen) (x : Awaited) → awaits at ≡ Some x → SameClosed p from
    → length from.readings ≡ length p.readings + is_reading x → IsUnderway p at
    → Advances from at.course (at.index + 1) SaysEnded q → Completed p at 1 q
completes p from q at x e same count u g =
    let s = at.course in
    let i = at.index + 1 in
    let nil = place_nil s i g.runs.arrives.0 in
    let moved : is_closed q.cards ≡ effect (is_closed from.cards) (moves_from s i) = ap (λ (b : Occupancy). is_closed b.cards) g.runs.arrives.1
    ∙ fun_ext g.runs.moved.closed in
    let rest : effect (is_closed from.cards) (moves_from s i) ≡ effect (is_closed from.cards) (drop i s.items) =
    ap (λ (l : List Item). effect (effect (is_closed from.cards) (moves_from s i)) l) (sym nil) ∙ effect_next (is_closed from.cards) s i in
    let passed : length from.readings ≡ reads (take i s.items) = omega (arith, count, u.readings, reads_past s at.index x e) in
    let all : reads (take i s.items) ≡ reads s.items = sym (reads_way s i) ∙ reads_all s (i + length (moves_from s i)) nil in
    record {
      one = refl;
      last = omega (arith, left_past at x e, left_none s i g.runs.arrives.0);
      closed = moved ∙ rest ∙ past_closed p from at x e same;
      readings = ap (λ (l : List Reading). length l) g.readings ∙ passed ∙ all;
    }

faults : (p from q : CageSeen) (at : ScanSeen) (x : Awaited) → awaits at ≡ Some x → length from.readings ≡ length p.readings + is_reading x → IsUnderway p at
    → Advances from at.course (at.index + 1) SaysFault q → Stopped at q
faults p from q at x e count u g = record {
  none = g.runs.fallen.none;
  items = at.index + 1;
  readings = ap (λ (l : List Reading). length l) g.readings ∙ omega (arith, count, u.readings, reads_past at.course at.index x e);
}

ends_goes : (off : Bool) (p from q : CageSeen) (at : ScanSeen) (x : Awaited) (told : TakenSeen) → awaits at ≡ Some x → SameClosed p from
    → length from.readings ≡ length p.readings + is_reading x
    → (told ≡ SaysFault → off ≡ true) → IsUnderway p at → Advances from at.course (at.index + 1) told q → q.scan ≡ None → Completed p at 1 q
    ⊎ ((off ≡ true) × Stopped at q)
ends_goes off p from q at x SaysIgnored e same count fault u g over = absurd g.runs.arrives
ends_goes off p from q at x SaysWaits e same count fault u g over = absurd (some_is q _ g.runs.arrives.2 over)
ends_goes off p from q at x (SaysPause t m) e same count fault u g over = absurd (some_is q _ g.runs.arrives.3 over)
ends_goes off p from q at x (SaysJob job) e same count fault u g over = absurd (some_is q _ g.runs.arrives.2 over)
ends_goes off p from q at x SaysEnded e same count fault u g over = inl (completes p from q at x e same count u g)
ends_goes off p from q at x SaysFault e same count fault u g over = inr (fault refl, faults p from q at x e count u g)

-- what a taken happening comes with: a card's failure breaks the scan off, and what is added is the meter's own
pub record Takes1 (ask : AskSeen) (answer : AnswerSeen) (p : CageSeen) (from : CageSeen) (x : Awaited) (told : TakenSeen) : Type 0 where
  pub fault : told ≡ SaysFault → breaks_off ask answer ≡ true
  pub same : SameClosed p from
  pub count : length from.readings ≡ length p.readings + is_reading x
  pub own : IsOwnAccount ask → AddsOwn ask p.readings from.readings

same_scan : (p : CageSeen) (at at' : ScanSeen) → p.scan ≡ Some at → p.scan ≡ Some at' → at ≡ at'
same_scan p at at' e f = let h = sym e ∙ f in cc (h)

pub move_goes : (ask : AskSeen) (a : AnswerSeen) (p q : Panel) (from : CageSeen) (at : ScanSeen) (x : Awaited) (told : TakenSeen) → p.cage.scan ≡ Some at
    → awaits at ≡ Some x
    → Takes1 ask a p.cage from x told → Advances from at.course (at.index + 1) told q.cage → Moves ask a p 1 q
move_goes ask a p q from at x told is e t g = record {
  near = near_goes p q from at x told is e t.same g;
  ends = λ at' is' u over. subst (λ (y : ScanSeen). Completed p.cage y 1 q.cage
      ⊎ ((breaks_off ask a ≡ true) × Stopped y q.cage)) (same_scan p.cage at at' is is')
      (ends_goes (breaks_off ask a) p.cage from q.cage at x told e t.same t.count t.fault (subst (λ (y : ScanSeen).
      IsUnderway p.cage y) (sym (same_scan p.cage at at' is is')) u) g over);
  adds = λ own. subst (λ (l : List Reading). AddsOwn ask p.cage.readings l) (sym g.readings) (t.own own);
}

takes_some : (s : CourseSeen) (present : Ticket) (o : Option Awaited) (happening : Happening) → TakesIf s present o happening → (x : Awaited) × (o ≡ Some x)
    × (is_reading x ≡ 0)
takes_some s present None happening h = absurd h
takes_some s present (Some (Wait name)) happening h = (Wait name, refl, refl)
takes_some s present (Some (Period name micros)) happening h = (Period name micros, refl, refl)
takes_some s present (Some (Pause micros)) happening h = (Pause micros, refl, refl)
takes_some s present (Some Read) happening h = absurd h

move_past : (ask : AskSeen) (a : AnswerSeen) (p q : Panel) (happening : Happening) (told : TakenSeen) (scan : Option ScanSeen)
    → (told ≡ SaysFault → breaks_off ask a ≡ true)
    → p.cage.scan ≡ scan → TakesThere p.cage.number scan happening → AdvancesPastFrom p.cage scan told q.cage → Moves ask a p 1 q
move_past ask a p q happening told None fault is h g = absurd h
move_past ask a p q happening told (Some at) fault is h g =
    let x = takes_some at.course (ticket_of p.cage.number at) (awaits at) happening h in
    move_goes ask a p q p.cage at x.0 told is x.1 (record { fault = fault; same = λ c. refl; count = omega (arith, x.2); own = λ own. inl refl }) g

abbrev pub of_taken : TakenSeen → ℕ
of_taken SaysIgnored = 0
of_taken told = 1

pub move_happens : (ask : AskSeen) (a : AnswerSeen) (p : Panel) (happening : Happening) (f : Bool) (told : TakenSeen) (q : Panel)
    → (told ≡ SaysFault → breaks_off ask a ≡ true)
    → Happens p happening f told q → Moves ask a p (of_taken told) q
move_happens ask a p happening f SaysIgnored q fault h = move_is ask a p q h.2
move_happens ask a p happening f SaysWaits q fault h = move_past ask a p q happening SaysWaits p.cage.scan fault refl h.0 h.1
move_happens ask a p happening f (SaysPause t u) q fault h = move_past ask a p q happening (SaysPause t u) p.cage.scan fault refl h.0 h.1
move_happens ask a p happening f (SaysJob job) q fault h = move_past ask a p q happening (SaysJob job) p.cage.scan fault refl h.0 h.1
move_happens ask a p happening f SaysEnded q fault h = move_past ask a p q happening SaysEnded p.cage.scan fault refl h.0 h.1
move_happens ask a p happening f SaysFault q fault h = move_past ask a p q happening SaysFault p.cage.scan fault refl h.0 h.1

-- a reading is the meter's own
own_reading : (done : FinishedSeen) (r : Reading) → done.outcome ≡ Ok r → IsOwnAccount (AskFinished done) → done.meter.last ≡ Some r
own_reading done r e own = subst (λ (o : Result Reading CardFault). IfOk o (λ r. done.meter.last ≡ Some r)) e own.reading

-- a meter's return that the scan takes
move_counted : (a : AnswerSeen) (p q : Panel) (done : FinishedSeen) (told : TakenSeen) (scan : Option ScanSeen) (outcome : Result Reading CardFault)
    → (told ≡ SaysFault → breaks_off (AskFinished done) a ≡ true) → done.outcome ≡ outcome → p.cage.scan ≡ scan
    → TakesReturnThere p.cage.number scan done.slot done.ticket
    → SameClosed p.cage (with_back p.cage done) → Counts (with_back p.cage done) outcome told q.cage → Moves (AskFinished done) a p 1 q
move_counted a p q done told None outcome fault oc is h same g = absurd h
move_counted a p q done told (Some at) (Ok r) fault oc is h same g =
    let from : CageSeen = with_reading (with_back p.cage done) r in
    let count : length from.readings ≡ length p.cage.readings + 1 = length-append p.cage.readings (r ∷ []) in
    let t : Takes1 (AskFinished done) a p.cage from Read told =
    record { fault = fault; same = same; count = count; own = λ own. inr (inr (r, own_reading done r oc own, refl)) } in
    move_goes (AskFinished done) a p q from at Read told is h.reading t (subst (λ (o : Option ScanSeen). AdvancesPastFrom from o told q.cage) is g)
move_counted a p q done told (Some at) (Err e) fault oc is h same g =
    let n : left_in p ≡ suc (length (awaiting (drop (at.index + 1) at.course.items))) = ap left_of is ∙ left_past at Read h.reading in
    let over : q.cage.scan ≡ None = ap (λ (x : CageSeen). x.scan) g.1 in
    let none : (c : Channel) → is_closed q.cage.cards c ≡ false =
    λ (c : Channel). ap (λ (x : CageSeen). is_closed x.cards c) g.1 ∙ all_open_closed (with_back p.cage done).cards c in
    let readings : q.cage.readings ≡ p.cage.readings = ap (λ (x : CageSeen). x.readings) g.1 in
    record {
      near = record { most = omega (arith, n); left = inr over; idle = λ i. over; holds = holds_none p.cage q.cage over };
      ends = λ at' is' u over'. inr (fault g.0, stopped_by at' p.cage q.cage u none (inl readings));
      adds = λ own. inl readings;
    }

-- a meter that comes back closes and opens nothing
pub same_back : (c : CageSeen) (done : FinishedSeen) → IsHeld c → slot_at c.out done.slot ≡ Some done.ticket → SameClosed c (with_back c done)
same_back c done k e =
    let out : is_some (slot_at c.out done.slot) ≡ true = ap (λ o. is_some o) e in
    let b : (0 < done.slot) × (done.slot ≤ length c.out) = some_slot c.out done.slot out in
    closed_back c.cards done.slot done.meter (omega (arith, b.0)) (omega (arith, b.1, k.outs, k.slots)) (k.empty done.slot out)

pub move_returns : (a : AnswerSeen) (p : Panel) (done : FinishedSeen) (f : Bool) (told : TakenSeen) (q : Panel)
    → (told ≡ SaysFault → breaks_off (AskFinished done) a ≡ true)
    → SameClosed p.cage (with_back p.cage done) → Returns p done f told q → Moves (AskFinished done) a p (of_taken told) q
move_returns a p done f SaysIgnored q fault same h =
    move_same (AskFinished done) a p q (ap (λ (x : Panel). x.cage.scan) h.2) (λ c. ap (λ (x : Panel). is_closed x.cage.cards c) h.2
    ∙ same c) (ap (λ (x : Panel). x.cage.readings) h.2)
move_returns a p done f SaysWaits q fault same h = move_counted a p q done SaysWaits p.cage.scan done.outcome fault refl refl h.0 same h.1
move_returns a p done f (SaysPause t u) q fault same h = move_counted a p q done (SaysPause t u) p.cage.scan done.outcome fault refl refl h.0 same h.1
move_returns a p done f (SaysJob job) q fault same h = move_counted a p q done (SaysJob job) p.cage.scan done.outcome fault refl refl h.0 same h.1
move_returns a p done f SaysEnded q fault same h = move_counted a p q done SaysEnded p.cage.scan done.outcome fault refl refl h.0 same h.1
move_returns a p done f SaysFault q fault same h = move_counted a p q done SaysFault p.cage.scan done.outcome fault refl refl h.0 same h.1
