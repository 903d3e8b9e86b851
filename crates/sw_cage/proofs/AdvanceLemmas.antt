-- What is so of a cage stays so where its scan goes on.
use Rattle.std.proofs.Common.{◌≡◌, ℕ, ◌+◌, ◌-◌, ◌≤◌, nat_lt, true, false, List, length, take, Option, Some, None, slice_set, refl, sym, ap}
use Rattle.std.proofs.Common.{◌∙◌, subst, arith, is_some, inl, inr}
use Rattle.sw_base.specs.Limits.{most_slots}
use mathlib.Core.Path.{fun_ext}
use Rattle.std.proofs.lemmas.Bool.{and_right}
use Rattle.std.proofs.lemmas.List.{length-set}
use Rattle.sw_base.specs.Layout.{Channel, Layout, slot_at, has_meter, contents_are_meter}
use Rattle.sw_base.specs.declared.reading.Reading.{Reading}
use Rattle.sw_card.specs.Account.{Account, MeterAccount, of_meter}
use Rattle.sw_trigger.specs.declared.layer.Awaited.{Awaited}
use Rattle.sw_trigger.specs.declared.layer.Awaited.TheVariants.{Wait, Period, Pause, Read}
use Rattle.sw_verify.specs.Course.{CourseSeen}
use Rattle.sw_trigger.specs.Counts.{reads}
use Rattle.sw_verify.specs.Sound.{effect}
use Rattle.sw_cage.specs.Accounts.{Accounts, layout_of, option_closed, is_closed}
use Rattle.sw_cage.specs.Cage.{ScanSeen, CageSeen, or_meter, layout_with, cage_layout, ticket_of}
use Rattle.sw_cage.specs.Advance.{moves_from, next_place, awaits}
use Rattle.sw_cage.specs.Good.{HasDone, MeterStands, IsHeld, IsGood}
use Rattle.sw_cage.specs.Work.{JobSeen}
use Rattle.sw_cage.specs.TakenSeen.{TakenSeen, SaysIgnored, SaysWaits, SaysPause, SaysJob, SaysEnded, SaysFault}
use Rattle.sw_cage.specs.Outcome.{lasting, Moved, Occupancy, occupancy_of, Reaches, EntersSafeState, Advances}
use Rattle.sw_cage.specs.declared.job.Ticket.{Ticket}
use Rattle.sw_cage.proofs.SlotChangeLemmas.{slot_cases, slot_set_same, slot_set_other}
use Rattle.sw_cage.proofs.LayoutLemmas.{slot_with, or_in, layout_length, layout_sent}
use Rattle.sw_cage.proofs.KeptLemmas.{stays_rest, stays_identities, held_stays}
use Rattle.sw_cage.proofs.MoveLemmas.{moved_layout}
use Rattle.sw_cage.proofs.UnderwayLemmas.{reads_way, on_way_moved, on_way_like}

abbrev cage : Accounts → List (Option Ticket) → ℕ → Option ScanSeen → List Reading → CageSeen
cage rack out number scan readings = record { cards = rack; out = out; number = number; scan = scan; readings = readings }

-- two cages of the same parts
pub same_cage : (p q : CageSeen) → occupancy_of p ≡ occupancy_of q → p.number ≡ q.number → p.scan ≡ q.scan → p.readings ≡ q.readings → p ≡ q
same_cage p q bays number scan readings =
    ap (λ (b : Occupancy). cage b.cards b.out p.number p.scan p.readings) bays
    ∙ ap (λ (n : ℕ). cage q.cards q.out n p.scan p.readings) number
    ∙ ap (λ (s : Option ScanSeen). cage q.cards q.out q.number s p.readings) scan
    ∙ ap (λ (r : List Reading). cage q.cards q.out q.number q.scan r) readings

-- A scan that is sound for the cage stands between two items; its meter is in its slot.
pub record CanGo (p : CageSeen) (s : CourseSeen) (i : ℕ) : Type 0 where
  pub slot_in : (1 ≤ s.meter) × (s.meter ≤ most_slots)
  pub home : slot_at p.out s.meter ≡ None
  pub measured : has_meter (layout_of p.cards) s.meter ≡ true
  pub way : HasDone (cage_layout p) (is_closed p.cards) s i
  pub readings : length p.readings ≡ reads (take i s.items)

pub lengths : (p : CageSeen) → IsHeld p → length p.out ≡ length (layout_of p.cards)
lengths p k = k.outs ∙ sym k.slots ∙ sym (layout_length p.cards)

-- a meter in its slot is one of the cage's
meter_with : (bays : Layout) (out : List (Option Ticket)) (s : ℕ) → length out ≡ length bays → slot_at out s ≡ None → has_meter bays s ≡ true
    → has_meter (layout_with bays out) s ≡ true
meter_with bays out s h e m = ap contents_are_meter (slot_with bays out s h ∙ ap (or_meter (slot_at bays s)) e ∙ or_in (slot_at bays s)) ∙ m

pub meter_open : (m : MeterAccount) (ch : ℕ) → option_closed (Some (of_meter m)) ch ≡ false
meter_open m ch = and_right (nat_lt 0 ch) false refl

-- a meter leaves its slot, or comes into it: nothing opens or closes
pub closed_sent : (rack : Accounts) (s : ℕ) (m : MeterAccount) → 1 ≤ s → s ≤ length rack → slot_at rack s ≡ Some (of_meter m) → (c : Channel)
    → is_closed (slice_set rack (s - 1) None) c ≡ is_closed rack c
closed_sent rack s m a b e c = elim (slot_cases rack s c.0 None (omega arith) b) [
  | inl f ↦ ap (λ o. option_closed o c.1) f.1 ∙ sym (ap (λ (x : ℕ). option_closed (slot_at rack x) c.1) f.0 ∙ ap (λ o. option_closed o c.1) e ∙ meter_open m
      c.1)
  | inr f ↦ ap (λ o. option_closed o c.1) f.1
]

pub closed_back : (rack : Accounts) (s : ℕ) (m : MeterAccount) → 1 ≤ s → s ≤ length rack → slot_at rack s ≡ None → (c : Channel)
    → is_closed (slice_set rack (s - 1) (Some (of_meter m))) c ≡ is_closed rack c
closed_back rack s m a b e c = elim (slot_cases rack s c.0 (Some (of_meter m)) (omega arith) b) [
  | inl f ↦ ap (λ o. option_closed o c.1) f.1 ∙ meter_open m c.1 ∙ sym
      (ap (λ (x : ℕ). option_closed (slot_at rack x) c.1) f.0 ∙ ap (λ o. option_closed o c.1) e)
  | inr f ↦ ap (λ o. option_closed o c.1) f.1
]

-- a slot's card and ticket change together
pub held_both : (p : CageSeen) (s : ℕ) (v : Option Account) (t : Option Ticket) (scan : Option ScanSeen) → IsHeld p → 1 ≤ s → s ≤ most_slots
    → (is_some t ≡ true → v ≡ None) → ((u : Ticket) → t ≡ Some u → u.scan ≤ p.number)
    → IsHeld (record p { cards = slice_set p.cards (s - 1) v; out = slice_set p.out (s - 1) t; scan = scan })
held_both p s v t scan k a b empty past = record {
  slots = length-set p.cards (s - 1) v ∙ k.slots;
  outs = length-set p.out (s - 1) t ∙ k.outs;
  empty = λ x h. elim (slot_cases p.cards s x v (omega arith) (omega (arith, k.slots))) [
    | inl e ↦ e.1 ∙ empty (ap is_some (sym (slot_set_same p.out s t (omega arith) (omega (arith, k.outs)))) ∙ ap
        (λ (y : ℕ). is_some (slot_at (slice_set p.out (s - 1) t) y)) (sym e.0) ∙ h)
    | inr n ↦ n.1 ∙ k.empty x (ap is_some (sym (slot_set_other p.out s x t (omega arith) n.0)) ∙ h)
  ];
  past = λ x u h. elim (slot_cases p.out s x t (omega arith) (omega (arith, k.outs))) [
    | inl e ↦ past u (sym e.1 ∙ h)
    | inr n ↦ k.past x u (sym n.1 ∙ h)
  ];
}

-- the scan has made its moves, and stands at the next item
module _ (p : CageSeen) (s : CourseSeen) (i : ℕ) (mid : Accounts) (k : IsHeld p) (g : CanGo p s i) (m : Moved p.cards (moves_from s i) mid) where
  abbrev at : ScanSeen
  at = next_place s i

  abbrev there : CageSeen
  there = record p { cards = mid; scan = Some at }

  same_layout : layout_of mid ≡ layout_of p.cards
  same_layout = moved_layout p.cards mid (moves_from s i) m

  held_there : (scan : Option ScanSeen) → IsHeld (record p { cards = mid; scan = scan })
  held_there scan = held_stays p mid scan k (stays_rest p.cards mid m.rest)

  way_there : HasDone (cage_layout there) (is_closed mid) s (i + length (moves_from s i))
  way_there =
      on_way_like (cage_layout p) (cage_layout there) (effect (is_closed p.cards) (moves_from s i)) (is_closed mid) s (i + length (moves_from s i))
      (ap (λ (l : Layout). layout_with l p.out) same_layout) (fun_ext m.closed)
      (on_way_moved (cage_layout p) (is_closed p.cards) s i g.way (effect (is_closed p.cards) (moves_from s i)) refl)

  readings_there : length p.readings ≡ reads (take (i + length (moves_from s i)) s.items)
  readings_there = g.readings ∙ sym (reads_way s i)

  meter_there : has_meter (layout_of mid) s.meter ≡ true
  meter_there = ap (λ (l : Layout). has_meter l s.meter) same_layout ∙ g.measured

  -- at a wait or a pause
  pub good_waiting : MeterStands None (ticket_of p.number at) (awaits at) → IsGood there
  good_waiting stands = record {
    held = held_there (Some at);
    running = record {
      slot_in = g.slot_in;
      measured = meter_with (layout_of mid) p.out s.meter (lengths there (held_there (Some at))) g.home meter_there;
      way = way_there;
      readings = readings_there;
      meter = subst (λ (o : Option Ticket). MeterStands o (ticket_of p.number at) (awaits at)) (sym g.home) stands;
    };
  }

  -- at a reading
  pub good_reading : (job : JobSeen) → awaits at ≡ Some Read → slot_at mid s.meter ≡ Some (of_meter job.meter)
      → IsGood (record p { cards = slice_set mid (s.meter - 1) None; out = slice_set p.out (s.meter - 1) (Some (ticket_of p.number at)); scan = Some at })
  good_reading job e f =
      let t = ticket_of p.number at in
      let h = held_there (Some at) in
      let home : slot_at (slice_set p.out (s.meter - 1) (Some t)) s.meter ≡ Some t =
      slot_set_same p.out s.meter (Some t) (omega (arith, g.slot_in.0)) (omega (arith, g.slot_in.1, k.outs)) in
      let same : layout_with (layout_of (slice_set mid (s.meter - 1) None)) (slice_set p.out (s.meter - 1) (Some t)) ≡ cage_layout there
      = layout_sent mid p.out s.meter t job.meter (k.outs ∙ sym h.slots) (omega (arith, g.slot_in.0)) f in
      record {
        held = held_both there s.meter None (Some t) (Some at) h g.slot_in.0 g.slot_in.1 (λ x. refl)
            (λ u x. let y : t ≡ u = cc in omega (arith, ap (λ (z : Ticket). z.scan) y));
        running = record {
          slot_in = g.slot_in;
          measured = ap (λ (l : Layout). has_meter l s.meter) same ∙ meter_with (layout_of mid) p.out s.meter (lengths there h) g.home meter_there;
          way = on_way_like (cage_layout there) (layout_with (layout_of (slice_set mid (s.meter - 1) None)) (slice_set p.out (s.meter - 1) (Some t)))
              (is_closed mid) (is_closed (slice_set mid (s.meter - 1) None)) s (i + length (moves_from s i)) same
              (fun_ext (closed_sent mid s.meter job.meter g.slot_in.0 (omega (arith, g.slot_in.1, h.slots)) f)) way_there;
          readings = readings_there;
          meter = subst (λ (o : Option Ticket). MeterStands o t (awaits at)) (sym home) (subst (λ (w : Option Awaited). MeterStands (Some t) t w) (sym e) refl);
        };
      }

-- what lasts and ends by itself finds the meter at home
stays_home : (t : Ticket) (o : Option Awaited) (micros : ℕ) → lasting o ≡ Some micros → MeterStands None t o
stays_home t None micros e = absurd (cc e)
stays_home t (Some (Wait name)) micros e = refl
stays_home t (Some (Period name u)) micros e = refl
stays_home t (Some (Pause u)) micros e = refl
stays_home t (Some Read) micros e = absurd (cc e)

-- wherever the scan comes to, the cage is good
pub good_lands : (p q : CageSeen) (s : CourseSeen) (i : ℕ) (told : TakenSeen) → IsHeld p → CanGo p s i
    → Reaches (occupancy_of p) p.number (moves_from s i) (next_place s i) told (occupancy_of q) q.scan → q.number ≡ p.number → q.readings ≡ p.readings
    → IsGood q
good_lands p q s i SaysIgnored k g l n r = absurd l.arrives
good_lands p q s i SaysFault k g l n r = absurd l.arrives
good_lands p q s i SaysWaits k g l n r =
    subst IsGood (sym (same_cage q (record p { cards = l.cards; scan = Some (next_place s i) }) l.arrives.1 n l.arrives.2 r))
    (good_waiting p s i l.cards k g l.moved (subst (MeterStands None (ticket_of p.number (next_place s i))) (sym l.arrives.0.1) refl))
good_lands p q s i (SaysPause t micros) k g l n r =
    subst IsGood (sym (same_cage q (record p { cards = l.cards; scan = Some (next_place s i) }) l.arrives.2 n l.arrives.3 r))
    (good_waiting p s i l.cards k g l.moved (stays_home (ticket_of p.number (next_place s i)) (awaits (next_place s i)) micros l.arrives.0))
good_lands p q s i (SaysJob job) k g l n r =
    let at = next_place s i in
    let sent = l.arrives.1 in
    subst IsGood (sym (same_cage q (record p {
      cards = slice_set l.cards (s.meter - 1) None;
      out =
          slice_set p.out (s.meter - 1) (Some (ticket_of p.number at));
      scan = Some at;
    }) sent.after n l.arrives.2 r))
    (good_reading p s i l.cards k g l.moved job l.arrives.0 sent.meter)
good_lands p q s i SaysEnded k g l n r =
    subst IsGood (sym (same_cage q (record p { cards = l.cards; scan = None }) l.arrives.1 n l.arrives.2 r))
    (record { held = held_stays p l.cards None k (stays_rest p.cards l.cards l.moved.rest); running = tt })

good_falls : (p q : CageSeen) → IsHeld p → EntersSafeState (occupancy_of p) (occupancy_of q) q.scan → q.number ≡ p.number → q.readings ≡ p.readings → IsGood q
good_falls p q k f n r =
    subst IsGood (sym (same_cage q (record p { cards = q.cards; scan = None })
    (ap (λ (o : List (Option Ticket)). let b : Occupancy = record { cards = q.cards; out = o } in b) f.out) n f.over r))
    (record { held = held_stays p q.cards None k (stays_identities p.cards q.cards f.fallen.cards); running = tt })

pub good_goes : (p q : CageSeen) (s : CourseSeen) (i : ℕ) (told : TakenSeen) → IsHeld p → CanGo p s i → Advances p s i told q → IsGood q
good_goes p q s i SaysFault k g h = good_falls p q k h.runs h.number h.readings
good_goes p q s i SaysIgnored k g h = good_lands p q s i SaysIgnored k g h.runs h.number h.readings
good_goes p q s i SaysWaits k g h = good_lands p q s i SaysWaits k g h.runs h.number h.readings
good_goes p q s i (SaysPause t micros) k g h = good_lands p q s i (SaysPause t micros) k g h.runs h.number h.readings
good_goes p q s i (SaysJob job) k g h = good_lands p q s i (SaysJob job) k g h.runs h.number h.readings
good_goes p q s i SaysEnded k g h = good_lands p q s i SaysEnded k g h.runs h.number h.readings
