-- Where a scan goes on, only present channels are closed, and no two of them clash.
use Rattle.std.proofs.Common.{◌≡◌, ℕ, List, length, take, drop, Option, sym, ap, ◌∙◌, subst, arith}
use mathlib.Core.Path.{fun_ext}
use Rattle.sw_base.specs.Layout.{Layout, IsExclusive}
use Rattle.sw_verify.specs.Course.{CourseSeen}
use Rattle.sw_trigger.specs.Agenda.{Item}
use Rattle.sw_verify.specs.Channels.{Channels, none}
use Rattle.sw_verify.specs.Sound.{effect}
use Rattle.sw_verify.proofs.Throughout.{exclusive_throughout}
use Rattle.sw_cage.specs.Accounts.{Accounts, layout_of, is_closed}
use Rattle.sw_cage.specs.Cage.{CageSeen, layout_with, cage_layout, ticket_of}
use Rattle.sw_cage.specs.Advance.{moves_from, next_place}
use Rattle.sw_cage.specs.Good.{IsHeld}
use Rattle.sw_cage.specs.TakenSeen.{TakenSeen, SaysIgnored, SaysWaits, SaysPause, SaysJob, SaysEnded, SaysFault}
use Rattle.sw_cage.specs.Outcome.{Moved, Occupancy, occupancy_of, Reaches, Advances}
use Rattle.sw_cage.specs.declared.job.Ticket.{Ticket}
use Rattle.sw_cage.proofs.SlotChangeLemmas.{exclusive_none}
use Rattle.sw_cage.proofs.LayoutLemmas.{present_with, group_with, clash_with, layout_sent}
use Rattle.sw_cage.proofs.KeptLemmas.{held_stays, stays_rest}
use Rattle.sw_cage.proofs.MoveLemmas.{moved_layout}
use Rattle.sw_cage.proofs.UnderwayLemmas.{right_here, leading_front}
use Rattle.sw_cage.proofs.AdvanceLemmas.{CanGo, lengths, closed_sent, good_goes}

-- a meter that is out has no channel
pub exclusive_with : (bays : Layout) (out : List (Option Ticket)) → length out ≡ length bays → (b : Channels) → IsExclusive bays b
    → IsExclusive (layout_with bays out) b
exclusive_with bays out h b e = record {
  present = λ c k. present_with bays out h c ∙ e.present c k;
  apart = λ x y j k w. e.apart x y j k (record {
    other = w.other;
    grouped = λ f. w.grouped (group_with bays out h x ∙ f);
    same =
        sym (group_with bays out h x) ∙ w.same ∙ group_with bays out h y;
  });
}

pub exclusive_in : (bays : Layout) (out : List (Option Ticket)) → length out ≡ length bays → (b : Channels) → IsExclusive (layout_with bays out) b
    → IsExclusive bays b
exclusive_in bays out h b e = record {
  present = λ c k. sym (present_with bays out h c) ∙ e.present c k;
  apart =
      λ x y j k w. e.apart x y j k (clash_with bays out h x y w);
}

-- the moves of a scan keep the cage exclusive
exclusive_way : (p : CageSeen) (s : CourseSeen) (i : ℕ) → IsHeld p → CanGo p s i → IsExclusive (layout_of p.cards) (is_closed p.cards)
    → IsExclusive (cage_layout p) (effect (is_closed p.cards) (moves_from s i))
exclusive_way p s i k g e =
    subst (λ (l : List Item). IsExclusive (cage_layout p) (effect (is_closed p.cards) l)) (leading_front (drop i s.items))
    (exclusive_throughout (cage_layout p) (is_closed p.cards) (effect none (take i s.items)) (drop i s.items)
    (right_here (cage_layout p) (is_closed p.cards) s i g.way)
    (exclusive_with (layout_of p.cards) p.out (lengths p k) (is_closed p.cards) e) (length (moves_from s i)))

-- a cage of the same cards in and out, where this is closed
like_way : (p q : CageSeen) (b : Channels) → IsHeld q → cage_layout q ≡ cage_layout p → is_closed q.cards ≡ b → IsExclusive (cage_layout p) b
    → IsExclusive (layout_of q.cards) (is_closed q.cards)
like_way p q b k e f x = exclusive_in (layout_of q.cards) q.out (lengths q k) (is_closed q.cards)
    (subst (λ (l : Layout). IsExclusive l (is_closed q.cards)) (sym e) (subst (IsExclusive (cage_layout p)) (sym f) x))

exclusive_stays : (p q : CageSeen) (s : CourseSeen) (i : ℕ) (mid : Accounts) → IsHeld p → IsHeld q → CanGo p s i
    → IsExclusive (layout_of p.cards) (is_closed p.cards)
    → Moved p.cards (moves_from s i) mid → (let b : Occupancy = record { cards = mid; out = p.out } in occupancy_of q ≡ b)
    → IsExclusive (layout_of q.cards) (is_closed q.cards)
exclusive_stays p q s i mid k l g e m same =
    like_way p q (effect (is_closed p.cards) (moves_from s i)) l
    (ap (λ (b : Occupancy). layout_with (layout_of b.cards) b.out) same ∙ ap (λ (x : Layout). layout_with x p.out)
    (moved_layout p.cards mid (moves_from s i) m))
    (ap (λ (b : Occupancy). is_closed b.cards) same ∙ fun_ext m.closed) (exclusive_way p s i k g e)

exclusive_lands : (p q : CageSeen) (s : CourseSeen) (i : ℕ) (told : TakenSeen) → IsHeld p → IsHeld q → CanGo p s i
    → IsExclusive (layout_of p.cards) (is_closed p.cards) → Reaches (occupancy_of p) p.number (moves_from s i) (next_place s i) told (occupancy_of q) q.scan
    → IsExclusive (layout_of q.cards) (is_closed q.cards)
exclusive_lands p q s i SaysIgnored k l g e h = absurd h.arrives
exclusive_lands p q s i SaysWaits k l g e h = exclusive_stays p q s i h.cards k l g e h.moved h.arrives.1
exclusive_lands p q s i (SaysPause t micros) k l g e h = exclusive_stays p q s i h.cards k l g e h.moved h.arrives.2
exclusive_lands p q s i (SaysJob job) k l g e h =
    let mid = h.cards in
    let there : IsHeld (record p { cards = mid }) = held_stays p mid p.scan k (stays_rest p.cards mid h.moved.rest) in
    let sent = h.arrives.1 in
    let t = ticket_of p.number (next_place s i) in
    like_way p q (effect (is_closed p.cards) (moves_from s i)) l
    (ap (λ (b : Occupancy). layout_with (layout_of b.cards) b.out) sent.after
    ∙ layout_sent mid p.out s.meter t job.meter (k.outs ∙ sym there.slots) (omega (arith, g.slot_in.0)) sent.meter
    ∙ ap (λ (x : Layout). layout_with x p.out) (moved_layout p.cards mid (moves_from s i) h.moved))
    (ap (λ (b : Occupancy). is_closed b.cards) sent.after ∙ fun_ext
    (closed_sent mid s.meter job.meter g.slot_in.0 (omega (arith, g.slot_in.1, there.slots))
    sent.meter) ∙ fun_ext h.moved.closed)
    (exclusive_way p s i k g e)
exclusive_lands p q s i SaysEnded k l g e h = exclusive_stays p q s i h.cards k l g e h.moved h.arrives.1
exclusive_lands p q s i SaysFault k l g e h = absurd h.arrives

-- Wherever a scan goes on to, the cage is exclusive.
pub exclusive_goes : (p q : CageSeen) (s : CourseSeen) (i : ℕ) (told : TakenSeen) → IsHeld p → CanGo p s i
    → IsExclusive (layout_of p.cards) (is_closed p.cards)
    → Advances p s i told q → IsExclusive (layout_of q.cards) (is_closed q.cards)
exclusive_goes p q s i SaysFault k g e h = exclusive_none (layout_of q.cards) (is_closed q.cards) h.runs.fallen.none
exclusive_goes p q s i SaysIgnored k g e h = exclusive_lands p q s i SaysIgnored k (good_goes p q s i SaysIgnored k g h).held g e h.runs
exclusive_goes p q s i SaysWaits k g e h = exclusive_lands p q s i SaysWaits k (good_goes p q s i SaysWaits k g h).held g e h.runs
exclusive_goes p q s i (SaysPause t micros) k g e h = exclusive_lands p q s i (SaysPause t micros) k (good_goes p q s i (SaysPause t micros) k g h).held g e
    h.runs
exclusive_goes p q s i (SaysJob job) k g e h = exclusive_lands p q s i (SaysJob job) k (good_goes p q s i (SaysJob job) k g h).held g e h.runs
exclusive_goes p q s i SaysEnded k g e h = exclusive_lands p q s i SaysEnded k (good_goes p q s i SaysEnded k g h).held g e h.runs
