-- What stays so of the cage, whatever its scan does.
use Rattle.std.proofs.Common.{◌≡◌, ℕ, ◌+◌, ◌-◌, ◌<◌, ◌≤◌, true, false, List, [], ◌∷◌, ◌++◌, length, take, drop, map, Option, None, Some, Result, Ok, Err}
use Rattle.std.proofs.Common.{slice_set, refl, sym, ◌∙◌, ap, subst, arith, is_some, inl, inr, ◌⊎◌}
use Rattle.sw_base.specs.Layout.{Channel, Layout, slot_at, contents_have, IsClash, IsExclusive}
use Rattle.sw_base.specs.Limits.{most_slots, most_channels}
use Rattle.sw_base.specs.declared.reading.Reading.{Reading}
use Rattle.sw_card.specs.declared.board.CardFault.{CardFault}
use Rattle.sw_card.specs.Account.{Account, of_meter, is_meter}
use Rattle.sw_trigger.specs.declared.layer.Awaited.{Awaited}
use Rattle.sw_trigger.specs.declared.layer.Awaited.TheVariants.{Wait, Period, Pause, Read}
use Rattle.sw_trigger.specs.Settings.{IsInRange}
use Rattle.sw_verify.specs.declared.setup.Setup.{Setup}
use Rattle.sw_trigger.specs.Agenda.{Item}
use Rattle.sw_trigger.specs.Counts.{reads}
use Rattle.sw_verify.specs.Ready.{IsReady}
use Rattle.sw_verify.specs.Channels.{Channels, none}
use Rattle.sw_verify.specs.Sound.{AllRight, effect}
use Rattle.sw_verify.specs.Course.{CourseSeen}
use Rattle.sw_verify.specs.Setup.{meter_of, course_of}
use Rattle.sw_verify.proofs.ReadyLemmas.{ready_measured, ready_sound}
use Rattle.sw_core.proofs.SetupLemmas.{ready_meter}
use Rattle.sw_verify.specs.declared.snapshot.Snapshot.{Snapshot}
use Rattle.sw_verify.proofs.Throughout.{exclusive_throughout}
use Rattle.sw_cage.specs.Accounts.{Accounts, layout_of, slot_contents, is_closed, all_open}
use Rattle.sw_cage.specs.Change.{identity}
use Rattle.sw_cage.specs.Channels.{closed_list}
use Rattle.sw_cage.specs.Cage.{ScanSeen, CageSeen, cage_layout, layout_with, ticket_of}
use Rattle.sw_cage.specs.Advance.{moves_from, next_place, awaits}
use Rattle.sw_cage.specs.Good.{IsHeld, IsGood, IsRunning, HasRoom}
use Rattle.sw_cage.specs.Good.{IsGoodWithRoom as HasKept}
use Rattle.sw_core.specs.Good.{OptionFew, IsFew}
use Rattle.sw_cage.specs.Takes.{Takes, TakesIf, TakesReturn, TakesReturnThere, AwaitsOther}
use Rattle.sw_cage.specs.Work.{FinishedSeen}
use Rattle.sw_cage.specs.TakenSeen.{TakenSeen, SaysIgnored, SaysWaits, SaysPause, SaysJob, SaysEnded, SaysFault}
use Rattle.sw_cage.specs.declared.job.Ticket.{Ticket}
use Rattle.sw_cage.specs.declared.taken.Happening.{Happening}
use Rattle.sw_cage.specs.Outcome.{Moved, Occupancy, occupancy_of, Reaches, Advances, AdvancesPast, AdvancesPastFrom, Counts, begun, with_back}
use Rattle.sw_cage.proofs.SlotChangeLemmas.{slot_map, slot_cases, present_slot, present_at, all_open_closed, exclusive_none, exclusive_quiet}
use Rattle.sw_cage.proofs.ClosedListLemmas.{has_bounds}
use Rattle.sw_cage.proofs.ChannelCallLemmas.{identities_rest, identities_all_open}
use Rattle.sw_cage.proofs.LayoutLemmas.{present_with, clash_with, group_with}
use Rattle.sw_cage.proofs.KeptLemmas.{stays_identities, held_stays}
use Rattle.sw_cage.proofs.MoveLemmas.{moved_layout}
use Rattle.sw_cage.proofs.UnderwayLemmas.{right_here, leading_front}
use Rattle.sw_cage.proofs.AdvanceLemmas.{CanGo, lengths, meter_open, good_goes}
use Rattle.sw_cage.proofs.HappeningLemmas.{go_other, kept_back, kept_failed, counted, begins, out_slot}

-- the cage is good, no two closed channels clash, and cards are as they may be
pub record IsKept (c : CageSeen) : Type 0 where
  pub good : IsGood c
  pub safe : IsExclusive (layout_of c.cards) (is_closed c.cards)
  pub few : IsFew c.cards

abbrev groups_in : Option Account → List ℕ
groups_in None = []
groups_in (Some a) = a.groups

abbrev last_in : Option Account → Option (Option Reading)
last_in None = None
last_in (Some a) = a.last

option_few : (o n : Option Account) → identity n ≡ identity o → OptionFew o → OptionFew n
option_few o None e h = tt
option_few None (Some b) e h = absurd (cc (e))
option_few (Some a) (Some b) e h =
    let groups : b.groups ≡ a.groups = ap (λ (x : Option Account). groups_in x) e in
    let last : b.last ≡ a.last = ap (λ (x : Option Account). last_in x) e in
    λ (m : is_meter b ≡ false). subst (λ (g : List ℕ). length g ≤ most_channels) (sym groups) (h (ap (λ l. is_some l) (sym last) ∙ m))

few_plates : (old new : Accounts) → map identity new ≡ map identity old → IsFew old → IsFew new
few_plates old new e h s =
    option_few (slot_at old s) (slot_at new s) (sym (slot_map identity new s refl) ∙ ap (λ (r : List (Option Account)). slot_at r s) e
    ∙ slot_map identity old s refl) (h s)

pub few_set : (rack : Accounts) (s : ℕ) (v : Option Account) → 0 < s → s ≤ length rack → OptionFew v → IsFew rack → IsFew (slice_set rack (s - 1) v)
few_set rack s v p b h few t = elim (slot_cases rack s t v p b) [
  | inl e ↦ subst (λ (o : Option Account). OptionFew o) (sym e.1) h
  | inr e ↦ subst (λ (o : Option Account). OptionFew o) (sym e.1) (few t)
]

-- the cards change while no scan runs, or it ends with that
pub kept_rack : (c : CageSeen) (rack : Accounts) → IsKept c → c.scan ≡ None → map identity rack ≡ map identity c.cards
    → IsExclusive (layout_of rack) (is_closed rack) → IsKept (record c { cards = rack })
kept_rack c rack k idle plates safe = record {
  good = record {
    held = held_stays c rack c.scan k.good.held (stays_identities c.cards rack plates);
    running = subst (λ (o : Option ScanSeen). IsRunning (record c { cards = rack }) o) (sym idle) tt;
  };
  safe = safe;
  few = few_plates c.cards rack plates k.few;
}

pub kept_over : (c : CageSeen) (rack : Accounts) → IsKept c → map identity rack ≡ map identity c.cards → ((x : Channel) → is_closed rack x ≡ false)
    → IsKept (record c { cards = rack; scan = None })
kept_over c rack k plates bare = record {
  good = record { held = held_stays c rack None k.good.held (stays_identities c.cards rack plates); running = tt };
  safe = exclusive_none (layout_of rack) (is_closed rack) bare;
  few = few_plates c.cards rack plates k.few;
}

-- ---- exclusion along an agenda

module _ (bays : Layout) (out : List (Option Ticket)) (h : length out ≡ length bays) (b : Channels) where
  clash_in : (x y : Channel) → IsClash (layout_with bays out) x y → IsClash bays x y
  clash_in x y k = record {
    other = k.other;
    grouped = λ e. k.grouped (group_with bays out h x ∙ e);
    same = sym (group_with bays out h x) ∙ k.same
        ∙ group_with bays out h y;
  }

  exclusive_out : IsExclusive bays b → IsExclusive (layout_with bays out) b
  exclusive_out e = record { present = λ x c. present_with bays out h x ∙ e.present x c; apart = λ x y c d k. e.apart x y c d (clash_in x y k) }

exclusive_in : (bays : Layout) (out : List (Option Ticket)) (h : length out ≡ length bays) (b : Channels) → IsExclusive (layout_with bays out) b
    → IsExclusive bays b
exclusive_in bays out h b e =
    record { present = λ x c. sym (present_with bays out h x) ∙ e.present x c; apart = λ x y c d k. e.apart x y c d (clash_with bays out h x y k) }

exclusive_same : (layout : Layout) (b b' : Channels) → ((x : Channel) → b' x ≡ b x) → IsExclusive layout b → IsExclusive layout b'
exclusive_same layout b b' s e = record { present = λ x c. e.present x (sym (s x) ∙ c); apart = λ x y c d k. e.apart x y (sym (s x) ∙ c) (sym (s y) ∙ d) k }

exclusive_moved : (c : CageSeen) (s : CourseSeen) (i : ℕ) (rack : Accounts) → IsHeld c → CanGo c s i → IsExclusive (layout_of c.cards) (is_closed c.cards)
    → Moved c.cards (moves_from s i) rack → IsExclusive (layout_of rack) (is_closed rack)
exclusive_moved c s i rack held go e m =
    let right : AllRight (cage_layout c) (is_closed c.cards) (effect none (take i s.items)) (drop i s.items) =
    right_here (cage_layout c) (is_closed c.cards) s i go.way in
    let start : IsExclusive (cage_layout c) (is_closed c.cards) = exclusive_out (layout_of c.cards) c.out (lengths c held) (is_closed c.cards) e in
    let along = exclusive_throughout (cage_layout c) (is_closed c.cards) (effect none (take i s.items)) (drop i s.items) right start
    (length (moves_from s i)) in
    let there : IsExclusive (cage_layout c) (effect (is_closed c.cards) (moves_from s i)) =
    subst (λ (l : List Item). IsExclusive (cage_layout c) (effect (is_closed c.cards) l)) (leading_front (drop i s.items)) along in
    let here : IsExclusive (layout_of c.cards) (is_closed rack) =
    exclusive_same (layout_of c.cards) (effect (is_closed c.cards) (moves_from s i)) (is_closed rack) m.closed
    (exclusive_in (layout_of c.cards) c.out (lengths c held) (effect (is_closed c.cards) (moves_from s i)) there) in
    subst (λ (l : Layout). IsExclusive l (is_closed rack)) (sym (moved_layout c.cards rack (moves_from s i) m)) here

-- what a scan begins or goes on from
pub record CanSet (c : CageSeen) (s : CourseSeen) (i : ℕ) : Type 0 where
  pub held : IsHeld c
  pub go : CanGo c s i
  pub safe : IsExclusive (layout_of c.cards) (is_closed c.cards)
  pub few : IsFew c.cards

safe_lands : (c q : CageSeen) (s : CourseSeen) (i : ℕ) (told : TakenSeen) → CanSet c s i
    → (l : Reaches (occupancy_of c) c.number (moves_from s i) (next_place s i) told (occupancy_of q) q.scan) → (q.cards ≡ l.cards)
    ⊎ (q.cards ≡ slice_set l.cards (s.meter - 1) None) → IsExclusive (layout_of q.cards) (is_closed q.cards) × IsFew q.cards
safe_lands c q s i told k l spot =
    let safe : IsExclusive (layout_of l.cards) (is_closed l.cards) = exclusive_moved c s i l.cards k.held k.go k.safe l.moved in
    let plates = identities_rest c.cards l.cards l.moved.rest in
    let few : IsFew l.cards = few_plates c.cards l.cards plates k.few in
    let size : length l.cards ≡ most_slots = (stays_identities c.cards l.cards plates).size ∙ k.held.slots in
    elim spot [
      | inl e ↦ (subst (λ (r : Accounts). IsExclusive (layout_of r) (is_closed r)) (sym e) safe, subst (λ (r : Accounts). IsFew r) (sym e) few)
      | inr e ↦ (
        subst (λ (r : Accounts). IsExclusive (layout_of r) (is_closed r)) (sym e) (exclusive_quiet l.cards s.meter None (omega (
          arith,
          k.go.slot_in.0,
        )) (omega (arith, k.go.slot_in.1, size)) (λ n. refl) safe),
        subst (λ (r : Accounts). IsFew r) (sym e) (few_set l.cards s.meter None (omega (arith, k.go.slot_in.0)) (omega (
          arith,
          k.go.slot_in.1,
          size,
        )) tt few),
      )
    ]

bay_rack : (b d : Occupancy) → b ≡ d → b.cards ≡ d.cards
bay_rack b d e = ap (λ (x : Occupancy). x.cards) e

safe_goes : (c q : CageSeen) (s : CourseSeen) (i : ℕ) (told : TakenSeen) → CanSet c s i → Advances c s i told q
    → IsExclusive (layout_of q.cards) (is_closed q.cards)
    × IsFew q.cards
safe_goes c q s i SaysIgnored k h = absurd h.runs.arrives
safe_goes c q s i SaysWaits k h = safe_lands c q s i SaysWaits k h.runs (inl (bay_rack (occupancy_of q) _ h.runs.arrives.1))
safe_goes c q s i (SaysPause t u) k h = safe_lands c q s i (SaysPause t u) k h.runs (inl (bay_rack (occupancy_of q) _ h.runs.arrives.2))
safe_goes c q s i (SaysJob job) k h = safe_lands c q s i (SaysJob job) k h.runs (inr (bay_rack (occupancy_of q) _ h.runs.arrives.1.after))
safe_goes c q s i SaysEnded k h = safe_lands c q s i SaysEnded k h.runs (inl (bay_rack (occupancy_of q) _ h.runs.arrives.1))
safe_goes c q s i SaysFault k h =
    (exclusive_none (layout_of q.cards) (is_closed q.cards) h.runs.fallen.none, few_plates c.cards q.cards h.runs.fallen.cards k.few)

pub kept_goes : (c q : CageSeen) (s : CourseSeen) (i : ℕ) (told : TakenSeen) → CanSet c s i → Advances c s i told q → IsKept q
kept_goes c q s i told k h = let r = safe_goes c q s i told k h in record { good = good_goes c q s i told k.held k.go h; safe = r.0; few = r.1 }

-- ---- happenings

other_if : (at : ScanSeen) (o : Option Awaited) (t : Ticket) (h : Happening) → awaits at ≡ o → TakesIf at.course t o h → AwaitsOther (Some at)
other_if at None t h e k = absurd k
other_if at (Some (Wait name)) t h e k = (Wait name, (e, refl))
other_if at (Some (Period name u)) t h e k = (Period name u, (e, refl))
other_if at (Some (Pause u)) t h e k = (Pause u, (e, refl))
other_if at (Some Read) t h e k = absurd k

-- with room for its readings
has_room : (c : CageSeen) (at : ScanSeen) → IsGood c → c.scan ≡ Some at → HasKept c (reads at.course.items)
has_room c at g e = record { good = g; room = subst (λ (o : Option ScanSeen). HasRoom o (reads at.course.items)) (sym e) (omega arith) }

kept_past_at : (c q : CageSeen) (scan : Option ScanSeen) (h : Happening) (told : TakenSeen) → IsKept c → c.scan ≡ scan → Takes (record c { scan = scan }) h
    → AdvancesPastFrom c scan told q → IsKept q
kept_past_at c q None h told k e t g = absurd g
kept_past_at c q (Some at) h told k e t g =
    let go = go_other c at (reads at.course.items) (has_room c at k.good e) e (other_if at (awaits at) (ticket_of c.number at) h refl t) in
    kept_goes c q at.course (at.index + 1) told (record { held = k.good.held; go = go; safe = k.safe; few = k.few }) g

pub kept_past : (c q : CageSeen) (h : Happening) (told : TakenSeen) → IsKept c → Takes c h → AdvancesPast c told q → IsKept q
kept_past c q h told k t g = kept_past_at c q c.scan h told k refl t g

-- ---- meters that return

back_few : (c : CageSeen) (done : FinishedSeen) → IsKept c → (1 ≤ done.slot) × (done.slot ≤ most_slots) → IsFew (with_back c done).cards
back_few c done k b =
    few_set c.cards done.slot (Some (of_meter done.meter)) (omega (arith, b.0)) (omega (arith, b.1, k.good.held.slots)) (λ m. absurd (cc (m))) k.few

back_safe : (c : CageSeen) (done : FinishedSeen) → IsKept c → (1 ≤ done.slot) × (done.slot ≤ most_slots)
    → IsExclusive (layout_of (with_back c done).cards) (is_closed (with_back c done).cards)
back_safe c done k b =
    exclusive_quiet c.cards done.slot (Some (of_meter done.meter)) (omega (arith, b.0)) (omega (arith, b.1, k.good.held.slots)) (λ n.
    meter_open done.meter n) k.safe

slot_of : (c : CageSeen) (done : FinishedSeen) → IsKept c → slot_at c.out done.slot ≡ Some done.ticket → (1 ≤ done.slot) × (done.slot ≤ most_slots)
slot_of c done k e = out_slot c c done.slot done.slot done.ticket k.good.held refl refl e

room_any : (c : CageSeen) → IsGood c → (room : ℕ) × HasKept c room
room_any c g = room_some c c.scan g refl
  where
    room_some : (c : CageSeen) (scan : Option ScanSeen) → IsGood c → c.scan ≡ scan → (room : ℕ) × HasKept c room
    room_some c None g e = (0, record { good = g; room = subst (λ (o : Option ScanSeen). HasRoom o 0) (sym e) tt })
    room_some c (Some at) g e = (reads at.course.items, has_room c at g e)

pub kept_late : (c : CageSeen) (done : FinishedSeen) → IsKept c → slot_at c.out done.slot ≡ Some done.ticket → (TakesReturn c done.slot done.ticket → ⊥)
    → IsKept (with_back c done)
kept_late c done k e late =
    let room = room_any c k.good in
    let b = slot_of c done k e in
    let back = kept_back c done.slot done.ticket done.meter _ _ room.0 room.1 e late refl refl in
    record { good = back.good; safe = back_safe c done k b; few = back_few c done k b }

kept_counted_at : (c q : CageSeen) (scan : Option ScanSeen) (done : FinishedSeen) (outcome : Result Reading CardFault) (told : TakenSeen) → IsKept c
    → c.scan ≡ scan → slot_at c.out done.slot ≡ Some done.ticket → TakesReturnThere c.number scan done.slot done.ticket
    → Counts (record (with_back c done) { scan = scan }) outcome told q → IsKept q
kept_counted_at c q None done outcome told k e out t h = absurd t
kept_counted_at c q (Some at) done (Ok r) told k e out t h =
    let b = slot_of c done k out in
    let x = counted c at done.slot done.ticket done.meter r _ _ _ (reads at.course.items) (has_room c at k.good e) e t out refl refl refl in
    kept_goes (record (with_back c done) { readings = c.readings ++ r ∷ []; scan = c.scan }) q at.course (at.index + 1) told (record {
      held = x.held;
      go = x.go;
      safe = back_safe c done k b;
      few = back_few c done k b;
    }) (record { runs = h.runs; number = h.number; readings = h.readings })
kept_counted_at c q (Some at) done (Err f) told k e out t h =
    let b = slot_of c done k out in
    let room = room_any c k.good in
    let x = kept_failed c done.slot done.ticket done.meter _ _ _ room.0 room.1 out refl refl refl in
    subst (λ (y : CageSeen). IsKept y) (sym h.1) (record {
      good = x.good;
      safe = exclusive_none (layout_of (all_open (with_back c done).cards)) (is_closed (all_open (with_back c done).cards))
          (all_open_closed (with_back c done).cards);
      few = few_plates (with_back c done).cards (all_open (with_back c done).cards) (identities_all_open (with_back c done).cards) (back_few c done k b);
    })

pub kept_counted : (c q : CageSeen) (done : FinishedSeen) (told : TakenSeen) → IsKept c → slot_at c.out done.slot ≡ Some done.ticket
    → TakesReturn c done.slot done.ticket → Counts (with_back c done) done.outcome told q → IsKept q
kept_counted c q done told k out t h = kept_counted_at c q c.scan done done.outcome told k refl out t h

-- ---- a scan begins

few_bounds : (o : Option Account) (ch : ℕ) → OptionFew o → contents_have (slot_contents o) ch ≡ true → (1 ≤ ch) × (ch ≤ most_channels)
few_bounds None ch r h = absurd (cc)
few_bounds (Some a) ch r h = let b : (0 < ch)
    × ((is_meter a ≡ false) × (ch ≤ length a.groups)) = has_bounds a ch h in let f : length a.groups ≤ most_channels = r b.1.0 in
    (omega (arith, b.0), omega (arith, b.1.1, f))

pub inside : (c : CageSeen) → IsKept c → (x : Channel) → is_closed c.cards x ≡ true → (1 ≤ x.0) × (x.0 ≤ most_slots) × (1 ≤ x.1) × (x.1 ≤ most_channels)
inside c k x h =
    let present = k.safe.present x h in
    let slot : (0 < x.0) × (x.0 ≤ length c.cards) = present_slot c.cards x present in
    let ch : (1 ≤ x.1) × (x.1 ≤ most_channels) = few_bounds (slot_at c.cards x.0) x.1 (k.few x.0) (sym (present_at c.cards x) ∙ present) in
    (omega (arith, slot.0), omega (arith, slot.1, k.good.held.slots), ch.0, ch.1)

pub kept_begun : (c q : CageSeen) (s : Setup) (plan : Snapshot) (told : TakenSeen) → IsKept c → slot_at c.out (meter_of s) ≡ None → IsInRange s.scan → IsReady plan
    → plan ≡ record { settings = s; layout = cage_layout c; closed = closed_list c.cards } → Advances (begun c) (course_of s) 0 told q → IsKept q
kept_begun c q s plan told k home range ready is h =
    let here : Snapshot = record { settings = s; layout = cage_layout c; closed = closed_list c.cards } in
    let sure : IsReady here = subst (λ (x : Snapshot). IsReady x) is ready in
    let x = begins c (course_of s) (c.number + 1) [] k.good.held (ready_meter here range sure) home (ready_measured here sure) (ready_sound here sure) (inside c k) refl refl in
    kept_goes (begun c) q (course_of s) 0 told (record { held = x.held; go = x.go; safe = k.safe; few = k.few }) h
