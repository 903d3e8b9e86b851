-- A scan's moves, by the calls on the cards that make them.
use Rattle.std.proofs.Common.{◌≡◌, ℕ, ◌==◌, ◌||◌, ◌&&◌, not, Bool, true, false, List, [], ◌∷◌, ◌++◌, Option, None, Some, refl, sym, ◌∙◌, ap, subst, arith, ◌+◌}
use Rattle.std.proofs.Common.{◌<◌, ◌≤◌, ◌-◌, length, drop, slice_set}
use Rattle.std.specs.Prelude.{slice_index_or}
use Rattle.std.proofs.Common.{if◌then◌else◌, Result, Ok, Err, OnErr}
use mathlib.Core.Path.{fun_ext}
use Rattle.std.proofs.lemmas.Grind.{common_steps}
use Rattle.sw_channel.specs.Positions.{Position}
use Rattle.sw_base.specs.Layout.{Channel, SlotContents, relays, meter, Layout, slot_at, contents_have, contents_are_meter, is_present, has_meter}
use Rattle.sw_trigger.specs.Agenda.{Item, Close, Open}
use Rattle.sw_verify.specs.Channels.{Channels, same_channel, is_among, with_channel, without, with_each, without_each}
use Rattle.sw_verify.specs.Sound.{CanCloseEach, CanOpenEach, effect}
use Rattle.std.proofs.lemmas.List.{drop_more}
use Rattle.sw_verify.proofs.Round.{effect-append}
use Rattle.sw_cage.specs.Accounts.{Accounts, layout_of, is_closed, all_open, IsChannelFault}
use Rattle.sw_cage.specs.Change.{Sets, OneFailed, RelayFailed, IsDisturbed}
use Rattle.sw_cage.specs.Moves.{RelayCallFailed}
use Rattle.sw_cage.specs.Cage.{ScanSeen}
use Rattle.sw_cage.specs.TakenSeen.{TakenSeen, SaysIgnored, SaysWaits, SaysPause, SaysJob, SaysEnded, SaysFault}
use Rattle.sw_cage.specs.Outcome.{Moved, IsSafeAfterFault, Occupancy, Reaches, AdvancesOrFails}
use Rattle.sw_cage.proofs.SlotChangeLemmas.{present_slot, all_open_closed}
use Rattle.sw_cage.proofs.ChannelCallLemmas.{or_false, layout_rest, identities_rest, identities_all_open, fault_failed, failed_alone, one_from, one_rested}

swap_eq : (m n : ℕ) → (m == n) ≡ (n == m)
swap_eq m n = grind (arith, common_steps)

same_swap : (a b : Channel) → same_channel a b ≡ same_channel b a
same_swap a b = let p = swap_eq a.0 b.0 in let q = swap_eq a.1 b.1 in cc

in_one_is : (c x : Channel) → is_among (c ∷ []) x ≡ same_channel c x
in_one_is c x = or_false (same_channel x c) ∙ same_swap x c

if_without : (t b : Bool) → (if t then false else b) ≡ (not t && b)
if_without true b = refl
if_without false b = refl

if_with : (t b : Bool) → (if t then true else b) ≡ (t || b)
if_with true b = refl
if_with false b = refl

pub moved_none : (old : Accounts) → Moved old [] old
moved_none old = record { rest = refl; closed = λ x. refl }

-- one channel set

set_open : (old new : Accounts) (c : Channel) → Sets old (c ∷ []) false new → is_closed new ≡ without c (is_closed old)
set_open old new c s = fun_ext (λ x. s.closed x ∙ ap (λ (t : Bool). if t then false else is_closed old x) (in_one_is c x) ∙ if_without
    (same_channel c x) (is_closed old x))

set_close : (old new : Accounts) (c : Channel) → Sets old (c ∷ []) true new → is_closed new ≡ with_channel c (is_closed old)
set_close old new c s = fun_ext (λ x. s.closed x ∙ ap (λ (t : Bool). if t then true else is_closed old x) (in_one_is c x) ∙ if_with
    (same_channel c x) (is_closed old x))

-- a position whose channels are set one by one: what is left of it
pub record ClosesOn (old : Accounts) (p rest : Position) (now : Accounts) : Type 0 where
  pub same : all_open now ≡ all_open old
  pub can : CanCloseEach (layout_of now) (is_closed now) rest
  pub ends : with_each rest (is_closed now) ≡ with_each p (is_closed old)

pub record OpensOn (old : Accounts) (p rest : Position) (now : Accounts) : Type 0 where
  pub same : all_open now ≡ all_open old
  pub can : CanOpenEach (is_closed now) rest
  pub ends : without_each rest (is_closed now) ≡ without_each p (is_closed old)

pub closes_first : (old : Accounts) (p : Position) → CanCloseEach (layout_of old) (is_closed old) p → ClosesOn old p p old
closes_first old p k = record { same = refl; can = k; ends = refl }

pub opens_first : (old : Accounts) (p : Position) → CanOpenEach (is_closed old) p → OpensOn old p p old
opens_first old p k = record { same = refl; can = k; ends = refl }

pub closes_next : (old now new : Accounts) (p rest : Position) (c : Channel) → ClosesOn old p (c ∷ rest) now → Sets now (c ∷ []) true new → ClosesOn old p rest
    new
closes_next old now new p rest c g s =
    let closed = set_close now new c s in
    record {
      same = s.rest ∙ g.same;
      can = subst (λ (l : Layout). CanCloseEach l (is_closed new) rest) (sym (layout_rest now new s.rest))
          (subst (λ (b : Channels). CanCloseEach (layout_of now) b rest) (sym closed) g.can.1);
      ends = ap (with_each rest) closed ∙ g.ends;
    }

pub opens_next : (old now new : Accounts) (p rest : Position) (c : Channel) → OpensOn old p (c ∷ rest) now → Sets now (c ∷ []) false new → OpensOn old p rest
    new
opens_next old now new p rest c g s =
    let closed = set_open now new c s in
    record { same = s.rest ∙ g.same; can = subst (λ (b : Channels). CanOpenEach b rest) (sym closed) g.can.1; ends = ap (without_each rest) closed ∙ g.ends }

pub closes_over : (old now : Accounts) (p : Position) → ClosesOn old p [] now → Moved old (Close p ∷ []) now
closes_over old now p g = record { rest = g.same; closed = λ x. ap (λ (b : Channels). b x) g.ends }

pub opens_over : (old now : Accounts) (p : Position) → OpensOn old p [] now → Moved old (Open p ∷ []) now
opens_over old now p g = record { rest = g.same; closed = λ x. ap (λ (b : Channels). b x) g.ends }

pub next_left : (p : Position) (i : ℕ) (c : Channel) → i < length p → c ≡ slice_index_or p i c → drop i p ≡ c ∷ drop (i + 1) p
next_left p i c h e = drop_more p i c h ∙ ap (λ (x : Channel). x ∷ drop (i + 1) p) (sym e)

pub moved_both : (old mid new : Accounts) (xs ys : List Item) → Moved old xs mid → Moved mid ys new → Moved old (xs ++ ys) new
moved_both old mid new xs ys a b = record {
  rest = b.rest ∙ a.rest;
  closed = λ x. b.closed x ∙ ap (λ (m : Channels). effect m ys x) (fun_ext a.closed) ∙ ap (λ (m : Channels). m x) (sym (effect-append (is_closed old) xs ys));
}

pub moved_layout : (old mid : Accounts) (xs : List Item) → Moved old xs mid → layout_of mid ≡ layout_of old
moved_layout old mid xs m = layout_rest old mid m.rest

pub not_meter : (b : Option SlotContents) (ch : ℕ) → contents_have b ch ≡ true → contents_are_meter b ≡ false
not_meter None ch h = refl
not_meter (Some meter) ch h = absurd (cc)
not_meter (Some (relays groups)) ch h = refl

-- a call on a channel that is there failed
pub broken_call : (old most new : Accounts) (c : Channel) → is_present (layout_of old) c ≡ true → IsChannelFault old c most new → IsDisturbed old (c ∷ []) new
    → RelayCallFailed old new
unfolding failed_alone
broken_call old most new c p f d =
    let b : (0 < c.0) × (c.0 ≤ length old) = present_slot old c p in
    let one : OneFailed old (slice_set old (c.0 - 1) (slot_at new c.0)) =
    failed_alone old c.0 (slot_at new c.0) b.0 b.1 (fault_failed (slot_at old c.0) (slot_at most c.0) (slot_at new c.0) f.fault) in record {
      cards = d.cards;
      failed = subst (RelayFailed old) (sym f.others) (record { one = one; relays = not_meter (slot_at (layout_of old) c.0) c.1 p });
    }

relay_after : (old mid new : Accounts) → all_open mid ≡ all_open old → RelayFailed mid new → RelayFailed old new
unfolding one_from
relay_after old mid new m f = record {
  one = one_from old mid new m f.one;
  relays = ap (λ (l : Layout). has_meter l f.one.slot) (sym (layout_rest old mid m)) ∙ f.relays;
}

relay_rested : (old new : Accounts) → RelayFailed old new → RelayFailed old (all_open new)
unfolding one_rested
relay_rested old new f = record { one = one_rested old new f.one; relays = f.relays }

pub broken_since : (old mid new : Accounts) → all_open mid ≡ all_open old → RelayCallFailed mid new → RelayCallFailed old new
broken_since old mid new m b = record { cards = b.cards ∙ identities_rest old mid m; failed = relay_after old mid new m b.failed }

pub when_err : {T E : Type 0} (r : Result T E) (X : Type 0) → X → OnErr r X
when_err (Ok t) X x = tt
when_err (Err e) X x = x

pub fallen : (old new : Accounts) → RelayCallFailed old new → IsSafeAfterFault old (all_open new)
fallen old new b = record { cards = identities_all_open new ∙ b.cards; failed = relay_rested old new b.failed; none = all_open_closed new }

pub meter_there : (old mid : Accounts) (xs : List Item) (s : ℕ) → Moved old xs mid → has_meter (layout_of old) s ≡ true → has_meter (layout_of mid) s ≡ true
meter_there old mid xs s m h = ap (λ (l : Layout). has_meter l s) (moved_layout old mid xs m) ∙ h

pub landed : (old : Occupancy) (number : ℕ) (moves : List Item) (at : ScanSeen) (told : TakenSeen) (new : Occupancy) (scan : Option ScanSeen)
    → Reaches old number moves at told new scan → AdvancesOrFails old number moves at told new scan
landed old number moves at SaysIgnored new scan h = h
landed old number moves at SaysWaits new scan h = h
landed old number moves at (SaysPause ticket micros) new scan h = h
landed old number moves at (SaysJob job) new scan h = h
landed old number moves at SaysEnded new scan h = h
landed old number moves at SaysFault new scan h = absurd h.arrives
