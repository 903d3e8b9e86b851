-- What stays of a cage where its cards change.
use Rattle.std.proofs.Common.{◌≡◌, ℕ, ◌+◌, ◌-◌, ◌≤◌, ◌<◌, Bool, true, false, List, [], ◌∷◌, ◌++◌, length, take, Option, None, Some, slice_index_or, slice_set}
use Rattle.std.proofs.Common.{inl, inr, refl, sym, ◌∙◌, ap, subst, arith, map, is_some, zero, suc, replicate, nat_lt, if◌then◌else◌, Result, Ok, Err, OnOk}
use Rattle.std.proofs.Common.{OnErr}
use Rattle.std.proofs.lemmas.List.{length-map, length-set, take_more}
use Rattle.sw_base.specs.Limits.{most_slots}
use Rattle.sw_base.specs.Layout.{Channel, SlotContents, meter, Layout, slot_at}
use Rattle.sw_base.specs.declared.reading.Reading.{Reading}
use Rattle.sw_card.specs.Account.{Account, none_closed}
use Rattle.sw_cage.specs.Accounts.{Accounts, slot_contents, layout_of, option_rest, all_open}
use Rattle.sw_cage.specs.Change.{Sets, identity, IsDisturbed}
use Rattle.sw_cage.specs.Install.{CanInstall}
use Rattle.sw_cage.specs.Cage.{CageSeen, ScanSeen, or_meter, cage_layout}
use Rattle.sw_cage.specs.Good.{IsHeld, IsRunning, IsGoodWithRoom}
use Rattle.sw_cage.specs.declared.job.Ticket.{Ticket}
use Rattle.sw_cage.proofs.SlotChangeLemmas.{slot_map, slot_rest, slot_cases, slot_get, slot_layout, some_slot, is_none}
use Rattle.sw_cage.proofs.LayoutLemmas.{slot_with, or_in, with_length, layout_length}

none_twice : (l : List Bool) → none_closed (none_closed l) ≡ none_closed l
none_twice [] = refl
none_twice (x ∷ l) = ap (λ t. false ∷ t) (none_twice l)

rested_twice : (o : Option Account) → option_rest (option_rest o) ≡ option_rest o
rested_twice None = refl
rested_twice (Some a) = ap (λ (l : List Bool). let b : Account = record a { closed = l } in Some b) (none_twice a.closed)

-- as many slots, and those that were empty are
pub record Stays (old new : Accounts) : Type 0 where
  pub size : length new ≡ length old
  pub empty : (s : ℕ) → slot_at old s ≡ None → slot_at new s ≡ None

rest_empty : (o : Option Account) → option_rest o ≡ None → o ≡ None
rest_empty None e = refl
rest_empty (Some a) e = absurd (cc)

plate_empty : (o : Option Account) → identity o ≡ None → o ≡ None
plate_empty None e = refl
plate_empty (Some a) e = absurd (cc)

pub stays_rest : (old new : Accounts) → all_open new ≡ all_open old → Stays old new
stays_rest old new e = record {
  size = sym (length-map new option_rest) ∙ ap length e ∙ length-map old option_rest;
  empty = λ s h. rest_empty (slot_at new s) (sym (slot_rest new s) ∙ ap (λ (r : Accounts). slot_at r s) e ∙ slot_rest old s ∙ ap option_rest h);
}

pub stays_identities : (old new : Accounts) → map identity new ≡ map identity old → Stays old new
stays_identities old new e = record {
  size = sym (length-map new identity) ∙ ap length e ∙ length-map old identity;
  empty = λ s h. plate_empty (slot_at new s) (sym (slot_map identity new s refl) ∙ ap (λ (r : Accounts). slot_at r s) e ∙ slot_map identity old s refl ∙ ap
      identity h);
}

pub stays_open : (old : Accounts) → Stays old (all_open old)
stays_open old = record { size = length-map old option_rest; empty = λ s h. slot_rest old s ∙ ap option_rest h }

pub stays_call : {T E : Type 0} (r : Result T E) (old new : Accounts) (chans : List Channel) (on : Bool) → OnOk r (Sets old chans on new)
    → OnErr r (IsDisturbed old chans new) → Stays old new
stays_call (Ok t) old new chans on ok err = stays_rest old new ok.rest
stays_call (Err e) old new chans on ok err = stays_identities old new err.cards

pub held_stays : (p : CageSeen) (rack : Accounts) (scan : Option ScanSeen) → IsHeld p → Stays p.cards rack → IsHeld (record p { cards = rack; scan = scan })
held_stays p rack scan k e = record { slots = e.size ∙ k.slots; outs = k.outs; empty = λ s h. e.empty s (k.empty s h); past = k.past }

-- no scan runs, and the cards change
pub kept_idle : (p : CageSeen) (rack : Accounts) (room : ℕ) → IsGoodWithRoom p room → p.scan ≡ None → Stays p.cards rack
    → IsGoodWithRoom (record p { cards = rack }) room
kept_idle p rack room k idle e = record {
  good = record { held = held_stays p rack p.scan k.good.held e; running = subst (IsRunning (record p { cards = rack })) (sym idle) tt };
  room = k.room;
}

-- whatever ran is over
pub kept_over : (p : CageSeen) (rack : Accounts) (room : ℕ) → IsGoodWithRoom p room → Stays p.cards rack
    → IsGoodWithRoom (record p { cards = rack; scan = None }) room
kept_over p rack room k e = record { good = record { held = held_stays p rack None k.good.held e; running = tt }; room = tt }

out_none : (o : Option Ticket) → is_some o ≡ true → o ≡ None → ⊥
out_none None h e = absurd (cc)
out_none (Some t) h e = cc

-- a slot that no meter of it is out changes
pub held_set : (p : CageSeen) (s : ℕ) (v : Option Account) (scan : Option ScanSeen) → IsHeld p → slot_at p.out s ≡ None → 1 ≤ s → s ≤ most_slots
    → IsHeld (record p { cards = slice_set p.cards (s - 1) v; scan = scan })
held_set p s v scan k home a b = record {
  slots = length-set p.cards (s - 1) v ∙ k.slots;
  outs = k.outs;
  empty = λ t h. elim (slot_cases p.cards s t v (omega arith) (omega (arith, k.slots))) [
    | inl e ↦ absurd (out_none (slot_at p.out s) (ap (λ (x : ℕ). is_some (slot_at p.out x)) (sym e.0) ∙ h) home)
    | inr n ↦ n.1 ∙ k.empty t h
  ];
  past = k.past;
}

pub kept_install : {T E : Type 0} (r : Result T E) (p : CageSeen) (s : ℕ) (card : Account) (rack : Accounts) (room : ℕ) → IsGoodWithRoom p room → p.scan ≡ None
    → slot_at p.out s ≡ None
    → OnOk r (rack ≡ slice_set p.cards (s - 1) (Some card)) → OnOk r (CanInstall p.cards s card) → OnErr r (rack ≡ p.cards)
    → IsGoodWithRoom (record p { cards = rack }) room
kept_install (Ok t) p s card rack room k idle home ok can err = subst (λ (x : Accounts). IsGoodWithRoom (record p { cards = x }) room) (sym ok) (record {
  good = record {
    held = held_set p s (Some card) p.scan k.good.held home can.first can.last;
    running =
        subst (IsRunning (record p { cards = slice_set p.cards (s - 1) (Some card) })) (sym idle) tt;
  };
  room = k.room;
})
kept_install (Err e) p s card rack room k idle home ok can err = subst (λ (x : Accounts). IsGoodWithRoom (record p { cards = x }) room) (sym err) k

-- a card is taken out
pub kept_taken : {T E : Type 0} (r : Result T E) (p : CageSeen) (s : ℕ) (rack : Accounts) (room : ℕ) → IsGoodWithRoom p room → p.scan ≡ None
    → slot_at p.out s ≡ None
    → is_some (slot_at p.cards s) ≡ true
    → OnOk r (rack ≡ slice_set p.cards (s - 1) None) → OnErr r (rack ≡ p.cards) → IsGoodWithRoom (record p { cards = rack }) room
kept_taken (Ok t) p s rack room k idle home some ok err =
    let b : (0 < s) × (s ≤ length p.cards) = some_slot p.cards s some in
    subst (λ (x : Accounts). IsGoodWithRoom (record p { cards = x }) room) (sym ok) (record {
      good = record {
        held = held_set p s None p.scan k.good.held home (omega (arith, b.0)) (omega (arith, b.1, k.good.held.slots));
        running =
            subst (IsRunning (record p { cards = slice_set p.cards (s - 1) None })) (sym idle) tt;
      };
      room = k.room;
    })
kept_taken (Err e) p s rack room k idle home some ok err = subst (λ (x : Accounts). IsGoodWithRoom (record p { cards = x }) room) (sym err) k

none_index : (n i : ℕ) → slice_index_or (let l : List (Option Ticket) = replicate n None in l) i None ≡ None
none_index zero i = refl
none_index (suc n) zero = refl
none_index (suc n) (suc i) = none_index n i

none_if : (b : Bool) (o : Option Ticket) → o ≡ None → (if b then o else None) ≡ None
none_if true o e = e
none_if false o e = refl

none_out : (n s : ℕ) → slot_at (let l : List (Option Ticket) = replicate n None in l) s ≡ None
none_out n s = none_if (nat_lt 0 s) (slice_index_or (let l : List (Option Ticket) = replicate n None in l) (s - 1) None) (none_index n (s - 1))

pub kept_new : (rack : Accounts) (out : List (Option Ticket)) (number : ℕ) (readings : List Reading) (room : ℕ) → rack ≡ replicate most_slots None
    → out ≡ replicate most_slots None
    → IsGoodWithRoom (record { cards = rack; out = out; number = number; scan = None; readings = readings }) room
kept_new rack out number readings room e f = record {
  good = record {
    held = record {
      slots = ap length e;
      outs = ap length f;
      empty = λ s h. absurd (out_none (slot_at out s) h (ap (λ (l : List (Option Ticket)). slot_at l s) f ∙ none_out most_slots s));
      past = λ s t e. absurd (let g : ◌≡◌ {A = Option Ticket} None (Some t) =
          sym (none_out most_slots s) ∙ ap (λ (l : List (Option Ticket)). slot_at l s) (sym f) ∙ e in
          cc);
    };
    running = tt;
  };
  room = tt;
}

-- the cards by slot

out_some : (o : Option Ticket) → is_some o ≡ true → or_meter None o ≡ Some meter
out_some None h = absurd (cc)
out_some (Some t) h = refl

pub bay_out : (p q : CageSeen) (s : ℕ) → IsHeld p → p ≡ q → is_some (slot_at p.out s) ≡ true → slot_at (cage_layout q) s ≡ Some meter
bay_out p q s k e h =
    ap (λ (x : CageSeen). slot_at (cage_layout x) s) (sym e)
    ∙ slot_with (layout_of p.cards) p.out s (k.outs ∙ sym k.slots ∙ sym (layout_length p.cards))
    ∙ ap (λ (b : Option SlotContents). or_meter b (slot_at p.out s)) (slot_layout p.cards s ∙ ap slot_contents (k.empty s h))
    ∙ out_some (slot_at p.out s) h

pub bay_in : (p q : CageSeen) (s : ℕ) → IsHeld p → p ≡ q → is_some (slot_at p.out s) ≡ false → slot_at (layout_of p.cards) s ≡ slot_at (cage_layout q) s
bay_in p q s k e h =
    sym
    (ap (λ (x : CageSeen). slot_at (cage_layout x) s) (sym e)
    ∙ slot_with (layout_of p.cards) p.out s (k.outs ∙ sym k.slots ∙ sym (layout_length p.cards))
    ∙ ap (λ (t : Option Ticket). or_meter (slot_at (layout_of p.cards) s) t) (is_none (slot_at p.out s) h)
    ∙ or_in (slot_at (layout_of p.cards) s))

pub all_contents : (p q : CageSeen) → IsHeld p → p ≡ q → length (cage_layout q) ≡ most_slots
all_contents p q k e = ap (λ (x : CageSeen). length (cage_layout x)) (sym e) ∙ with_length (layout_of p.cards) p.out ∙ layout_length p.cards ∙ k.slots

pub next_bay : (l : Layout) (i : ℕ) (now new : Layout) (b : Option SlotContents) → length l ≡ most_slots → i < most_slots → now ≡ take i l
    → b ≡ slot_at l (i + 1)
    → new ≡ now ++ b ∷ []
    → new ≡ take (i + 1) l
next_bay l i now new b n h e f g =
    g ∙ ap (λ (x : Layout). x ++ b ∷ []) e ∙ ap (λ (y : Option SlotContents). take i l ++ y ∷ [])
    (f ∙ slot_get l (i + 1) (omega arith) ∙ ap (λ (k : ℕ). slice_index_or l k None) (let k : i + 1 - 1 ≡ i = omega arith in k))
    ∙ sym (take_more l i None (omega arith))

pub rest_twice : (rack : Accounts) (s : ℕ) → option_rest (slot_at (all_open rack) s) ≡ option_rest (slot_at rack s)
rest_twice rack s = ap option_rest (slot_rest rack s) ∙ rested_twice (slot_at rack s)
