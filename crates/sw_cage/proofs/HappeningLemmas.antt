-- What happens to a running scan, and the cage stays good.
use Rattle.std.proofs.Common.{◌≡◌, ◌≢◌, ℕ, ◌+◌, ◌-◌, ◌<◌, ◌≤◌, true, List, [], ◌∷◌, ◌++◌, length, drop, Option, Some, None, slice_set, refl, sym, ap, ◌∙◌}
use Rattle.std.proofs.Common.{subst}
use Rattle.std.proofs.Common.{arith, is_some, length-append}
use Rattle.sw_base.specs.Limits.{most_slots, most_channels}
use mathlib.Core.Path.{fun_ext}
use Rattle.sw_base.specs.Layout.{Channel, Layout, slot_at, has_meter}
use Rattle.sw_base.specs.declared.reading.Reading.{Reading}
use Rattle.sw_card.specs.Account.{MeterAccount, of_meter}
use Rattle.sw_trigger.specs.declared.layer.Awaited.{Awaited}
use Rattle.sw_trigger.specs.declared.layer.Awaited.TheVariants.{Wait, Period, Pause, Read}
use Rattle.sw_verify.specs.Course.{CourseSeen}
use Rattle.sw_trigger.specs.Counts.{reads, is_reading}
use Rattle.sw_verify.specs.Channels.{Channels, is_among}
use Rattle.sw_verify.specs.Sound.{IsSound}
use Rattle.sw_cage.specs.Accounts.{Accounts, layout_of, is_closed, all_open}
use Rattle.sw_cage.specs.Channels.{closed_list}
use Rattle.sw_cage.specs.Cage.{ScanSeen, CageSeen, layout_with, cage_layout, ticket_of}
use Rattle.sw_cage.specs.Advance.{moves_from, next_place, awaits}
use Rattle.sw_cage.specs.Moves.{MayGoOn}
use Rattle.sw_cage.specs.Good.{HasDone, MeterStands, IsUnderway, IsRunning, IsHeld, HasRoom, IsGoodWithRoom}
use Rattle.sw_cage.specs.TakenSeen.{TakenSeen, SaysIgnored, SaysWaits, SaysPause, SaysJob, SaysEnded, SaysFault}
use Rattle.sw_cage.specs.Takes.{AwaitsReturn, TakesReturnThere, AwaitsOther}
use Rattle.sw_cage.specs.Outcome.{Occupancy, occupancy_of, AdvancesOrFails, Advances}
use Rattle.sw_cage.specs.declared.job.Ticket.{Ticket}
use Rattle.sw_cage.proofs.SlotChangeLemmas.{some_slot, slot_set_same, slot_set_other}
use Rattle.sw_cage.proofs.LayoutLemmas.{meter_in, layout_back}
use Rattle.sw_cage.proofs.KeptLemmas.{stays_open, held_stays}
use Rattle.sw_cage.proofs.UnderwayLemmas.{reads_past, reads_left, may_move, may_move_in, on_way_past, on_way_like}
use Rattle.sw_cage.proofs.ClosedMemberLemmas.{among_closed}
use Rattle.sw_cage.proofs.AdvanceLemmas.{CanGo, lengths, closed_back, held_both, good_goes}

-- a scan that can go on

pub may_go : (p : CageSeen) (s : CourseSeen) (i : ℕ) → IsHeld p → CanGo p s i → MayGoOn (layout_of p.cards) (is_closed p.cards) s i
may_go p s i held g = record {
  slot_in = g.slot_in;
  meter = g.measured;
  moves =
      may_move_in (layout_of p.cards) p.out (lengths p held) (is_closed p.cards) (drop i s.items) (may_move (cage_layout p) (is_closed p.cards) s i g.way);
}

room_some : (room : ℕ) (s : CourseSeen) (i : ℕ) (scan : Option ScanSeen) → reads s.items ≤ room → scan ≡ Some (next_place s i) → HasRoom scan room
room_some room s i scan r e = subst (λ (o : Option ScanSeen). HasRoom o room) (sym e) r

room_none : (room : ℕ) (scan : Option ScanSeen) → scan ≡ None → HasRoom scan room
room_none room scan e = subst (λ (o : Option ScanSeen). HasRoom o room) (sym e) tt

room_goes : (p q : CageSeen) (s : CourseSeen) (i : ℕ) (told : TakenSeen) (room : ℕ) → reads s.items ≤ room
    → AdvancesOrFails (occupancy_of p) p.number (moves_from s i) (next_place s i) told (occupancy_of q) q.scan → HasRoom q.scan room
room_goes p q s i SaysIgnored room r h = absurd h.arrives
room_goes p q s i SaysWaits room r h = room_some room s i q.scan r h.arrives.2
room_goes p q s i (SaysPause t micros) room r h = room_some room s i q.scan r h.arrives.3
room_goes p q s i (SaysJob job) room r h = room_some room s i q.scan r h.arrives.2
room_goes p q s i SaysEnded room r h = room_none room q.scan h.arrives.2
room_goes p q s i SaysFault room r h = room_none room q.scan h.over

pub goes_from : (old new : Occupancy) (number : ℕ) (at from : ScanSeen) (told : TakenSeen) (scan : Option ScanSeen) → at ≡ from
    → AdvancesOrFails old number (moves_from at.course at.index) (next_place at.course at.index) told new scan
    → AdvancesOrFails old number (moves_from from.course from.index) (next_place from.course from.index) told new scan
goes_from old new number at from told scan e h = subst (λ (x : ScanSeen). AdvancesOrFails old number (moves_from x.course x.index)
    (next_place x.course x.index) told new scan) e h

pub go_kept : (p q : CageSeen) (s : CourseSeen) (i : ℕ) (told : TakenSeen) (room : ℕ) → IsHeld p → CanGo p s i → reads s.items ≤ room
    → AdvancesOrFails (occupancy_of p) p.number (moves_from s i) (next_place s i) told (occupancy_of q) q.scan → q.number ≡ p.number
    → q.readings ≡ p.readings → IsGoodWithRoom q room
go_kept p q s i told room held g r h n rs =
    let goes : Advances p s i told q = record { runs = h; number = n; readings = rs } in
    record { good = good_goes p q s i told held g goes; room = room_goes p q s i told room r h }

-- past a wait or a pause

running_at : (p : CageSeen) (at : ScanSeen) → IsRunning p p.scan → p.scan ≡ Some at → IsUnderway p at
running_at p at r e = subst (IsRunning p) e r

pub room_at : (p : CageSeen) (at : ScanSeen) (room : ℕ) → IsGoodWithRoom p room → p.scan ≡ Some at → reads at.course.items ≤ room
room_at p at room k e = subst (λ (o : Option ScanSeen). HasRoom o room) e k.room

pub awaits_some : (at : ScanSeen) → AwaitsOther (Some at) → awaits at ≡ None → ⊥
awaits_some at o e = cc

other_home : (out : Option Ticket) (t : Ticket) (x : Awaited) → is_reading x ≡ 0 → MeterStands out t (Some x) → out ≡ None
other_home out t (Wait name) n m = m
other_home out t (Period name micros) n m = m
other_home out t (Pause micros) n m = m
other_home out t Read n m = absurd (omega arith)

pub go_other : (p : CageSeen) (at : ScanSeen) (room : ℕ) → IsGoodWithRoom p room → p.scan ≡ Some at → AwaitsOther (Some at) → CanGo p at.course (at.index + 1)
go_other p at room k e o =
    let u : IsUnderway p at = running_at p at k.good.running e in
    let x : Awaited = o.0 in
    let home : slot_at p.out at.course.meter ≡ None = other_home (slot_at p.out at.course.meter) (ticket_of p.number at) x o.1.1
    (subst (MeterStands (slot_at p.out at.course.meter) (ticket_of p.number at)) o.1.0 u.meter) in
    record {
      slot_in = u.slot_in;
      home = home;
      measured = meter_in (layout_of p.cards) p.out (lengths p k.good.held) at.course.meter u.measured home;
      way = on_way_past (cage_layout p) (is_closed p.cards) at.course at.index u.way x o.1.0;
      readings = u.readings ∙ omega (arith, reads_past at.course at.index x o.1.0, o.1.1);
    }

pub other_scan : (scan : Option ScanSeen) → AwaitsOther scan → (at : ScanSeen) × ((scan ≡ Some at) × AwaitsOther (Some at))
other_scan None h = absurd h
other_scan (Some at) h = (at, (refl, h))

-- a meter comes back

slot_some : (p : CageSeen) (s : ℕ) (t : Ticket) → IsHeld p → slot_at p.out s ≡ Some t → (1 ≤ s) × (s ≤ most_slots)
slot_some p s t k e =
    let b : (0 < s) × (s ≤ length p.out) = some_slot p.out s (ap is_some e) in
    (omega (arith, b.0), omega (arith, b.1, k.outs))

pub out_slot : (p q : CageSeen) (s s' : ℕ) (t : Ticket) → IsHeld p → p ≡ q → s' ≡ s → slot_at q.out s' ≡ Some t → (1 ≤ s) × (s ≤ most_slots)
out_slot p q s s' t k e f h = slot_some p s t k (ap (λ (x : CageSeen). slot_at x.out s) e ∙ ap (λ (n : ℕ). slot_at q.out n) (sym f) ∙ h)

module _ (p : CageSeen) (s : ℕ) (t : Ticket) (m : MeterAccount) (k : IsHeld p) (out : slot_at p.out s ≡ Some t) where
  abbrev rack_back : Accounts
  rack_back = slice_set p.cards (s - 1) (Some (of_meter m))

  abbrev out_back : List (Option Ticket)
  out_back = slice_set p.out (s - 1) None

  pub held_back : (scan : Option ScanSeen) → IsHeld (record p { cards = rack_back; out = out_back; scan = scan })
  held_back scan = let b = slot_some p s t k out in held_both p s (Some (of_meter m)) None scan k b.0 b.1 (λ h. absurd (cc)) (λ u h. absurd (cc))

  empty_slot : slot_at p.cards s ≡ None
  empty_slot = k.empty s (ap is_some out)

  layout_same : layout_with (layout_of rack_back) out_back ≡ cage_layout p
  layout_same = let b = slot_some p s t k out in layout_back p.cards p.out s t m (k.outs ∙ sym k.slots) (omega (arith, b.0)) empty_slot out

  closed_same : is_closed rack_back ≡ is_closed p.cards
  closed_same = let b = slot_some p s t k out in fun_ext (closed_back p.cards s m b.0 (omega (arith, b.1, k.slots)) empty_slot)

  way_back : (course : CourseSeen) (i : ℕ) → HasDone (cage_layout p) (is_closed p.cards) course i
      → HasDone (layout_with (layout_of rack_back) out_back) (is_closed rack_back) course i
  way_back course i w = on_way_like (cage_layout p) (layout_with (layout_of rack_back) out_back) (is_closed p.cards) (is_closed rack_back) course i layout_same
      closed_same w

  -- the scan that awaits it goes on
  pub go_counted : (at : ScanSeen) (r : Reading) → IsUnderway p at → AwaitsReturn p.number at s t
      → CanGo (record p { cards = rack_back; out = out_back; readings = p.readings ++ r ∷ [] }) at.course (at.index + 1)
  go_counted at r u w =
      let b = slot_some p s t k out in
      let home : slot_at out_back at.course.meter ≡ None = ap (slot_at out_back) w.slot_is ∙ slot_set_same p.out s None (omega (arith, b.0))
      (omega (arith, b.1, k.outs)) in
      record {
        slot_in = u.slot_in;
        home = home;
        measured = meter_in (layout_of rack_back) out_back (lengths (record p { cards = rack_back; out = out_back }) (held_back p.scan)) at.course.meter
            (ap (λ (l : Layout). has_meter l at.course.meter) layout_same ∙ u.measured) home;
        way = on_way_past (layout_with (layout_of rack_back) out_back) (is_closed rack_back) at.course at.index (way_back at.course at.index u.way) Read
            w.reading;
        readings = omega (arith, length-append p.readings (r ∷ []), u.readings, reads_past at.course at.index Read w.reading);
      }

  -- another scan's meter is out in the slot
  stands_out : (at : ScanSeen) (x : Option Awaited) → awaits at ≡ x → at.course.meter ≡ s → MeterStands (Some t) (ticket_of p.number at) x
      → AwaitsReturn p.number at s t
  stands_out at None e f w = absurd w
  stands_out at (Some (Wait name)) e f w = absurd (cc)
  stands_out at (Some (Period name micros)) e f w = absurd (cc)
  stands_out at (Some (Pause micros)) e f w = absurd (cc)
  stands_out at (Some Read) e f w = record { reading = e; slot_is = f; ticket_is = let y : ticket_of p.number at ≡ t = cc in y }

  underway_back : (at : ScanSeen) → IsUnderway p at → (AwaitsReturn p.number at s t → ⊥) → IsUnderway (record p { cards = rack_back; out = out_back }) at
  underway_back at u late =
      let b = slot_some p s t k out in
      let other : at.course.meter ≢ s = λ e. late (stands_out at (awaits at) refl e
      (subst (λ (o : Option Ticket). MeterStands o (ticket_of p.number at) (awaits at)) (ap (slot_at p.out) e ∙ out) u.meter)) in
      record {
        slot_in = u.slot_in;
        measured = ap (λ (l : Layout). has_meter l at.course.meter) layout_same ∙ u.measured;
        way = way_back at.course at.index u.way;
        readings = u.readings;
        meter = subst (λ (o : Option Ticket). MeterStands o (ticket_of p.number at) (awaits at))
            (sym (slot_set_other p.out s at.course.meter None (omega (arith, b.0)) other)) u.meter;
      }

  running_back : (scan : Option ScanSeen) → IsRunning p scan → (TakesReturnThere p.number scan s t → ⊥)
      → IsRunning (record p { cards = rack_back; out = out_back }) scan
  running_back None r late = tt
  running_back (Some at) r late = underway_back at r late

-- what the code has, by its parts

pub kept_back : (p : CageSeen) (s : ℕ) (t : Ticket) (m : MeterAccount) (rack : Accounts) (out : List (Option Ticket)) (room : ℕ) → IsGoodWithRoom p room
    → slot_at p.out s ≡ Some t → (TakesReturnThere p.number p.scan s t → ⊥)
    → rack ≡ slice_set p.cards (s - 1) (Some (of_meter m)) → out ≡ slice_set p.out (s - 1) None → IsGoodWithRoom (record p { cards = rack; out = out }) room
kept_back p s t m rack out room k at late e f =
    subst (λ (x : Accounts). IsGoodWithRoom (record p { cards = x; out = out }) room) (sym e)
    (subst (λ (x : List (Option Ticket)). IsGoodWithRoom (record p { cards = slice_set p.cards (s - 1) (Some (of_meter m)); out = x }) room) (sym f) (record {
      good = record { held = held_back p s t m k.good.held at p.scan; running = running_back p s t m k.good.held at p.scan k.good.running late };
      room = k.room;
    }))

pub kept_failed : (p : CageSeen) (s : ℕ) (t : Ticket) (m : MeterAccount) (rack rested : Accounts) (out : List (Option Ticket)) (room : ℕ)
    → IsGoodWithRoom p room
    → slot_at p.out s ≡ Some t
    → rack ≡ slice_set p.cards (s - 1) (Some (of_meter m)) → out ≡ slice_set p.out (s - 1) None → rested ≡ all_open rack
    → IsGoodWithRoom (record p { cards = rested; out = out; scan = None }) room
kept_failed p s t m rack rested out room k at e f h =
    let back : CageSeen = record p { cards = slice_set p.cards (s - 1) (Some (of_meter m)); out = slice_set p.out (s - 1) None; scan = None } in
    subst (λ (x : Accounts). IsGoodWithRoom (record p { cards = x; out = out; scan = None }) room) (sym (h ∙ ap all_open e))
    (subst (λ (x : List (Option Ticket)). IsGoodWithRoom (record p { cards = all_open (slice_set p.cards (s - 1) (Some (of_meter m))); out = x; scan = None })
    room)
    (sym f) (record {
      good = record {
        held = held_stays back (all_open (slice_set p.cards (s - 1) (Some (of_meter m)))) None (held_back p s t m k.good.held at None)
            (stays_open (slice_set p.cards (s - 1) (Some (of_meter m))));
        running = tt;
      };
      room = tt;
    }))

-- there is room for one more reading
pub room_left : (p : CageSeen) (at : ScanSeen) (s : ℕ) (t : Ticket) (room : ℕ) → IsGoodWithRoom p room → p.scan ≡ Some at → AwaitsReturn p.number at s t
    → length p.readings < room
room_left p at s t room k e w =
    let u : IsUnderway p at = running_at p at k.good.running e in
    omega (arith, u.readings, reads_left at.course at.index w.reading, room_at p at room k e)

-- the reading is added
pub record Counted (p : CageSeen) (s : CourseSeen) (i : ℕ) : Type 0 where
  pub held : IsHeld p
  pub go : CanGo p s i

pub counted : (p : CageSeen) (at : ScanSeen) (s : ℕ) (t : Ticket) (m : MeterAccount) (r : Reading) (rack : Accounts) (out : List (Option Ticket))
    (readings : List Reading) (room : ℕ) → IsGoodWithRoom p room → p.scan ≡ Some at → AwaitsReturn p.number at s t → slot_at p.out s ≡ Some t
    → rack ≡ slice_set p.cards (s - 1) (Some (of_meter m)) → out ≡ slice_set p.out (s - 1) None → readings ≡ p.readings ++ r ∷ []
    → Counted (record p { cards = rack; out = out; readings = readings }) at.course (at.index + 1)
counted p at s t m r rack out readings room k e w h a b c =
    subst (λ (x : Accounts). Counted (record p { cards = x; out = out; readings = readings }) at.course (at.index + 1)) (sym a)
    (subst (λ (x : List (Option Ticket)). Counted (record p { cards = slice_set p.cards (s - 1) (Some (of_meter m)); out = x; readings = readings }) at.course
    (at.index + 1)) (sym b)
    (subst (λ (x : List Reading). Counted (record p { cards = slice_set p.cards (s - 1) (Some (of_meter m)); out = slice_set p.out (s - 1) None; readings = x })
    at.course (at.index + 1)) (sym c)
    (let k' = held_back p s t m k.good.held h p.scan in record {
      held = record { slots = k'.slots; outs = k'.outs; empty = k'.empty; past = k'.past };
      go = go_counted p s t m k.good.held h at r (running_at p at k.good.running e) w;
    })))

-- a scan begins
pub begins : (p : CageSeen) (s : CourseSeen) (number : ℕ) (readings : List Reading) → IsHeld p → (1 ≤ s.meter) × (s.meter ≤ most_slots)
    → slot_at p.out s.meter ≡ None → has_meter (cage_layout p) s.meter ≡ true
    → IsSound (cage_layout p) (is_among (closed_list p.cards)) s.points s.items
    → ((c : Channel) → is_closed p.cards c ≡ true → (1 ≤ c.0) × (c.0 ≤ most_slots) × (1 ≤ c.1) × (c.1 ≤ most_channels))
    → number ≡ p.number + 1 → readings ≡ [] → Counted (record p { number = number; readings = readings }) s 0
begins p s number readings k slot_in home measured sound inside n r = record {
  held = record { slots = k.slots; outs = k.outs; empty = k.empty; past = λ x t h. omega (arith, k.past x t h, n) };
  go = record {
    slot_in = slot_in;
    home = home;
    measured = meter_in (layout_of p.cards) p.out (lengths p k) s.meter measured home;
    way = record {
      found = is_closed p.cards;
      sound =
          subst (λ (b : Channels). IsSound (cage_layout p) b s.points s.items) (fun_ext (among_closed p.cards inside)) sound;
      so_far = refl;
    };
    readings = ap length r;
  };
}

-- the same said of the cage and the return as the caller sees them
pub here_out : (p q : CageSeen) (s s' : ℕ) (t t' : Ticket) → p ≡ q → s ≡ s' → t ≡ t' → slot_at q.out s' ≡ Some t' → slot_at p.out s ≡ Some t
here_out p q s s' t t' e f g h = ap (λ (x : CageSeen). slot_at x.out s) e ∙ ap (λ (n : ℕ). slot_at q.out n) f ∙ h ∙ ap (λ (u : Ticket). Some u) (sym g)

pub here_taken : (p q : CageSeen) (s s' : ℕ) (t t' : Ticket) → p ≡ q → s ≡ s' → t ≡ t' → TakesReturnThere q.number q.scan s' t'
    → TakesReturnThere p.number p.scan s t
here_taken p q s s' t t' e f g h =
    subst (λ (x : CageSeen). TakesReturnThere x.number x.scan s t) (sym e)
    (subst (λ (n : ℕ). TakesReturnThere q.number q.scan n t) (sym f) (subst (λ (u : Ticket). TakesReturnThere q.number q.scan s' u) (sym g) h))

pub here_late : (p q : CageSeen) (s s' : ℕ) (t t' : Ticket) → p ≡ q → s ≡ s' → t ≡ t' → (TakesReturnThere q.number q.scan s' t' → ⊥)
    → TakesReturnThere p.number p.scan s t → ⊥
here_late p q s s' t t' e f g late h = late (here_taken q p s' s t' t (sym e) (sym f) (sym g) h)

pub taken_scan : (number : ℕ) (scan : Option ScanSeen) (s : ℕ) (t : Ticket) → TakesReturnThere number scan s t
    → (at : ScanSeen) × ((scan ≡ Some at) × AwaitsReturn number at s t)
taken_scan number None s t h = absurd h
taken_scan number (Some at) s t h = (at, (refl, h))

pub room_for : (p : CageSeen) (s : ℕ) (t : Ticket) (room : ℕ) → IsGoodWithRoom p room → TakesReturnThere p.number p.scan s t → length p.readings < room
room_for p s t room k h = let w = taken_scan p.number p.scan s t h in room_left p w.0 s t room k w.1.0 w.1.1
