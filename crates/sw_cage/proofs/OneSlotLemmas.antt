-- Lemmas on a call on one slot's card, from the cards to their accounts.
use Rattle.std.proofs.Common.{◌≡◌, ℕ, ◌+◌, ◌-◌, ◌≤◌, ◌<◌, Bool, true, false, List, [], ◌∷◌, ◌++◌, length, take, drop, Option, None, Some, slice_index_or}
use Rattle.std.proofs.Common.{slice_set, inl, inr, refl, sym, ◌∙◌, ap, subst, arith, map, replicate, is_some, Result, Ok, Err, OnOk, OnErr, zero, suc, ◌&&◌}
use Rattle.std.proofs.lemmas.List.{get_or_default, length-map, map-set}
use Rattle.std.proofs.lemmas.List.Edits.{map_over_more}
use Rattle.std.proofs.Math.ListN.{get_or-map}
use Rattle.std.proofs.Math.Seq.{take-append_seam}
use Rattle.std.proofs.lemmas.Grind.{common_steps}
use Rattle.std.proofs.lemmas.Bool.{and_parts, or_left, or_right}
use Rattle.std.specs.List.{list_all}
use Rattle.sw_base.specs.Limits.{most_slots, most_channels}
use Rattle.sw_base.specs.Layout.{Channel, Layout, slot_at, is_present, IsClash}
use Rattle.sw_card.specs.Account.{Account, MeterAccount, of_meter, closed_at, at_rest}
use Rattle.sw_card.specs.Mask.{in_mask}
use Rattle.sw_card.proofs.Rows.{none_is_closed}
use Rattle.sw_verify.specs.Channels.{is_among}
use Rattle.sw_cage.specs.Accounts.{Accounts, option_account, accounts_of, layout_of, option_closed, is_closed, OptionWellFormed, AreSafe, option_set, with_chan}
use Rattle.sw_cage.specs.Accounts.{option_rest, all_open, IsSlotFault, IsChannelFault}
use Rattle.sw_cage.specs.Masks.{IsSlotMask}
use Rattle.sw_cage.specs.Change.{Sets, IsDisturbed}
use Rattle.sw_cage.specs.Close.{all_present, CanClose}
use Rattle.sw_cage.proofs.SlotChangeLemmas.{slot_map, slot_set_same, present_slot, present_at, some_slot, IsSlotGrown, closed_grows, opened_grows, safe_grown}
use Rattle.sw_cage.proofs.SlotChangeLemmas.{safe_opened}
use Rattle.sw_cage.proofs.ChannelCallLemmas.{sets_one, disturbed_one, option_set_rest, in_at, in_take, sets_layout, sets_closed}

-- cards read and written

item_get : {A : Type 0} (l : List (Option A)) (s : ℕ) → 0 < s → slot_at l s ≡ slice_index_or l (s - 1) None
item_get l s p = grind (arith, common_steps)

item_read : {A : Type 0} (l : List (Option A)) (s : ℕ) (x : Option A) → 0 < s → s ≤ length l → x ≡ slice_index_or l (s - 1) x → slot_at l s ≡ x
item_read l s x p h e = item_get l s p ∙ get_or_default l (s - 1) None x (omega arith) ∙ sym e

pub read : {C : Type 0} (items : List (Option (C × Account))) (value : Accounts) (s : ℕ) (x : Option (C × Account)) → accounts_of items ≡ value
    → length (accounts_of items) ≡ most_slots → 0 < s → s ≤ most_slots → x ≡ slice_index_or items (s - 1) x → slot_at value s ≡ option_account x
read items value s x same size p h e =
    let n : length (accounts_of items) ≡ length items = length-map items option_account in
    ap (λ (r : Accounts). slot_at r s) (sym same) ∙ slot_map option_account items s refl ∙ ap option_account (item_read items s x p (omega arith) e)

pub written : {C : Type 0} (items : List (Option (C × Account))) (value : Accounts) (i : ℕ) (v : Option (C × Account)) → accounts_of items ≡ value
    → accounts_of (slice_set items i v) ≡ slice_set value i (option_account v)
written items value i v same = map-set option_account items i v ∙ ap (λ (r : Accounts). slice_set r i (option_account v)) same

-- what the slot's mask tells is so of the cage
pub slot_mask : {C : Type 0} (items : List (Option (C × Account))) (value : Accounts) (s mask : ℕ) (x : Option (C × Account)) → accounts_of items ≡ value
    → length (accounts_of items) ≡ most_slots → 0 < s → s ≤ most_slots → x ≡ slice_index_or items (s - 1) x → IsSlotMask mask (option_account x)
    → (k : ℕ) → k ≤ most_channels → in_mask mask k ≡ is_closed value (s, k)
slot_mask items value s mask x same size p h e m k few = m.closed k few ∙ ap (λ o. option_closed o k) (sym (read items value s x same size p h e))

-- what a call of close or open on one channel did, with the cage still safe
pub record AfterCall {T E : Type 0} (value : Accounts) (c : Channel) (most : Accounts) (on : Bool) (r : Result T E) (new : Accounts) : Type 0 where
  pub safe : AreSafe new
  pub ok : OnOk r (Sets value (c ∷ []) on new)
  pub err : OnErr r (IsChannelFault value c most new)
  pub disturbed : OnErr r (IsDisturbed value (c ∷ []) new)

fault_at : (value : Accounts) (c : Channel) (most : Accounts) (n : Option Account) → 0 < c.0 → c.0 ≤ length value
    → IsSlotFault (slot_at value c.0) (slot_at most c.0) n
    → IsChannelFault value c most (slice_set value (c.0 - 1) n)
fault_at value c most n p h f = let e : slot_at (slice_set value (c.0 - 1) n) c.0 ≡ n = slot_set_same value c.0 n p h in record {
  others = ap (slice_set value (c.0 - 1)) (sym e);
  fault = subst (IsSlotFault (slot_at value c.0) (slot_at most c.0)) (sym e) f;
}

after_call : {T E : Type 0} (value : Accounts) (c : Channel) (most : Accounts) (on : Bool) (n : Option Account) (r : Result T E)
    → OptionWellFormed (slot_at value c.0)
    → is_present (layout_of value) c ≡ true → IsSlotGrown (slot_at value c.0) c.1 n → option_rest (slot_at most c.0) ≡ option_rest (slot_at value c.0)
    → AreSafe (slice_set value (c.0 - 1) n)
    → OnOk r (n ≡ option_set (slot_at value c.0) c.1 on) → OnErr r (IsSlotFault (slot_at value c.0) (slot_at most c.0) n)
    → AfterCall value c most on r (slice_set value (c.0 - 1) n)
after_call value c most on n (Ok t) row present grown rest safe ok err = record {
  safe = safe;
  ok = subst (Sets value (c ∷ []) on) (ap (slice_set value (c.0 - 1)) (sym ok)) (sets_one value c on row present);
  err = tt;
  disturbed = tt;
}
after_call value c most on n (Err t) row present grown rest safe ok err = let b : (0 < c.0) × (c.0 ≤ length value) = present_slot value c present in record {
  safe = safe;
  ok = tt;
  err = fault_at value c most n b.0 b.1 err;
  disturbed = disturbed_one value c (slot_at most c.0) n b.0 b.1 rest err grown;
}

after_close : {T E : Type 0} (value : Accounts) (c : Channel) (n : Option Account) (r : Result T E) → AreSafe value → is_present (layout_of value) c ≡ true
    → ((d : Channel) → is_closed value d ≡ true → IsClash (layout_of value) c d → ⊥)
    → OnOk r (n ≡ option_set (slot_at value c.0) c.1 true) → OnErr r (IsSlotFault (slot_at value c.0) (option_set (slot_at value c.0) c.1 true) n)
    → AfterCall value c (with_chan value c true) true r (slice_set value (c.0 - 1) n)
after_close value c n r safe present apart ok err =
    let b : (0 < c.0) × (c.0 ≤ length value) = present_slot value c present in
    let most : slot_at (with_chan value c true) c.0 ≡ option_set (slot_at value c.0) c.1 true =
    slot_set_same value c.0 (option_set (slot_at value c.0) c.1 true) b.0 b.1 in
    let grown : IsSlotGrown (slot_at value c.0) c.1 n = closed_grows (slot_at value c.0) n r c.1 (sym (present_at value c) ∙ present) ok err in
    after_call value c (with_chan value c true) true n r (safe.rows c.0) present grown (ap option_rest most ∙ option_set_rest (slot_at value c.0) c.1 true)
    (safe_grown value c n grown safe present apart) ok
    (subst (λ o. OnErr r (IsSlotFault (slot_at value c.0) o n)) (sym most) err)

after_open : {T E : Type 0} (value : Accounts) (c : Channel) (n : Option Account) (r : Result T E) → AreSafe value → is_closed value c ≡ true
    → OnOk r (n ≡ option_set (slot_at value c.0) c.1 false) → OnErr r (IsSlotFault (slot_at value c.0) (slot_at value c.0) n)
    → AfterCall value c value false r (slice_set value (c.0 - 1) n)
after_open value c n r safe closed ok err =
    let grown : IsSlotGrown (slot_at value c.0) c.1 n = opened_grows (slot_at value c.0) n r c.1 closed ok err in
    after_call value c value false n r (safe.rows c.0) (safe.exclusive.present c closed) grown refl (safe_opened value c n grown safe closed) ok err

-- the same of the cards

pub close_item : {C T E : Type 0} (items : List (Option (C × Account))) (value : Accounts) (c : Channel) (s ch : ℕ) (x v : Option (C × Account))
    (r : Result T E)
    → s ≡ c.0 → ch ≡ c.1 → 1 ≤ s → s ≤ most_slots → accounts_of items ≡ value → AreSafe (accounts_of items) → x ≡ slice_index_or items (s - 1) x
    → is_present (layout_of value) c ≡ true → ((d : Channel) → is_closed value d ≡ true → IsClash (layout_of value) c d → ⊥)
    → OnOk r (option_account v ≡ option_set (option_account x) ch true)
    → OnErr r (IsSlotFault (option_account x) (option_set (option_account x) ch true) (option_account v))
    → AfterCall value c (with_chan value c true) true r (accounts_of (slice_set items (s - 1) v))
close_item items value c s ch x v r se che p h same safe is present apart ok err =
    let e : ◌≡◌ {A = ℕ × ℕ} (s, ch) c = let k : ◌≡◌ {A = ℕ × ℕ} (s, ch) (c.0, c.1) = cc in k in
    let at : slot_at value s ≡ option_account x = read items value s x same safe.size p h is in
    subst (AfterCall value c (with_chan value c true) true r) (sym (written items value (s - 1) v same))
    (subst (λ (d : Channel). AfterCall value d (with_chan value d true) true r (slice_set value (s - 1) (option_account v))) e
    (after_close value (s, ch) (option_account v) r (subst AreSafe same safe) (ap (is_present (layout_of value)) e ∙ present)
    (subst (λ (y : Channel). (d : Channel) → is_closed value d ≡ true → IsClash (layout_of value) y d → ⊥) (sym e) apart)
    (subst (λ o. OnOk r (option_account v ≡ option_set o ch true)) (sym at) ok)
    (subst (λ o. OnErr r (IsSlotFault o (option_set o ch true) (option_account v))) (sym at) err)))

pub open_item : {C T E : Type 0} (items : List (Option (C × Account))) (value : Accounts) (c : Channel) (s ch : ℕ) (x v : Option (C × Account)) (r : Result T E)
    → s ≡ c.0 → ch ≡ c.1 → 1 ≤ s → s ≤ most_slots → accounts_of items ≡ value → AreSafe (accounts_of items) → x ≡ slice_index_or items (s - 1) x
    → is_closed value c ≡ true
    → OnOk r (option_account v ≡ option_set (option_account x) ch false) → OnErr r (IsSlotFault (option_account x) (option_account x) (option_account v))
    → AfterCall value c value false r (accounts_of (slice_set items (s - 1) v))
open_item items value c s ch x v r se che p h same safe is closed ok err =
    let e : ◌≡◌ {A = ℕ × ℕ} (s, ch) c = let k : ◌≡◌ {A = ℕ × ℕ} (s, ch) (c.0, c.1) = cc in k in
    let at : slot_at value s ≡ option_account x = read items value s x same safe.size p h is in
    subst (AfterCall value c value false r) (sym (written items value (s - 1) v same))
    (subst (λ (d : Channel). AfterCall value d value false r (slice_set value (s - 1) (option_account v))) e
    (after_open value (s, ch) (option_account v) r (subst AreSafe same safe) (ap (is_closed value) e ∙ closed)
    (subst (λ o. OnOk r (option_account v ≡ option_set o ch false)) (sym at) ok)
    (subst (λ o. OnErr r (IsSlotFault o o (option_account v))) (sym at) err)))

-- installing and ejecting

pub none_closed_in : (b : Bool) → (b && false) ≡ false
none_closed_in true = refl
none_closed_in false = refl

pub put_is : {C : Type 0} (items : List (Option (C × Account))) (value : Accounts) (i : ℕ) (card : C × Account) (m : MeterAccount) → accounts_of items ≡ value
    → card.1 ≡ of_meter m → accounts_of (slice_set items i (Some card)) ≡ slice_set value i (Some (of_meter m))
put_is items value i card m same e = written items value i (Some card) same ∙ ap (λ (a : Account). slice_set value i (Some a)) e

pub ejected_card : {C : Type 0} (items : List (Option (C × Account))) (value : Accounts) (s : ℕ) (x : Option (C × Account)) (card : Account)
    → accounts_of items ≡ value
    → AreSafe (accounts_of items) → is_some (slot_at value s) ≡ true → x ≡ slice_index_or items (s - 1) x → Some card ≡ option_rest (option_account x)
    → option_rest (slot_at value s) ≡ Some card
ejected_card items value s x card same safe some is e =
    let b : (0 < s) × (s ≤ length (accounts_of items)) = some_slot (accounts_of items) s (ap (λ (r : Accounts). is_some (slot_at r s)) same ∙ some) in
    ap option_rest (read items value s x same safe.size b.0 (omega (arith, b.1, safe.size)) is) ∙ sym e

some_rested : (o : Option Account) → is_some o ≡ true → option_rest o ≡ None → ⊥
some_rested None some e = cc
some_rested (Some a) some e = cc

-- from a slot with a card a card comes out
pub ejected_some : {C : Type 0} (items : List (Option (C × Account))) (value : Accounts) (s : ℕ) (x result : Option (C × Account)) → accounts_of items ≡ value
    → AreSafe (accounts_of items) → is_some (slot_at value s) ≡ true → x ≡ slice_index_or items (s - 1) x
    → option_account result ≡ option_rest (option_account x) → result ≡ None → ⊥
ejected_some items value s x result same safe some is e none =
    let b : (0 < s) × (s ≤ length (accounts_of items)) = some_slot (accounts_of items) s (ap (λ (r : Accounts). is_some (slot_at r s)) same ∙ some) in
    some_rested (slot_at value s) some
    (ap option_rest (read items value s x same safe.size b.0 (omega (arith, b.1, safe.size)) is) ∙ sym e ∙ ap option_account none)

rested_open : (o : Option Account) (card : Account) → Some card ≡ option_rest o → (ch : ℕ) → closed_at card.closed ch ≡ false
rested_open None card e ch = cc
rested_open (Some a) card e ch = let k : card ≡ at_rest a = cc in ap (λ (x : Account). closed_at x.closed ch) k ∙ none_is_closed a.closed ch

-- a card that was opened has nothing closed
pub ejected_open : {C : Type 0} (x : Option (C × Account)) (card : Account) → Some card ≡ option_rest (option_account x) → (ch : ℕ)
    → closed_at card.closed ch ≡ false
ejected_open x card e ch = rested_open (option_account x) card e ch

pub emptied : {C : Type 0} (items : List (Option (C × Account))) (value : Accounts) (i : ℕ) (v : Option (C × Account)) → accounts_of items ≡ value → v ≡ None
    → accounts_of (slice_set items i v) ≡ slice_set value i None
emptied items value i v same none = written items value i v same ∙ ap (λ (o : Option Account). slice_set value i o) (ap option_account none)

-- loops over the slots

pub rest_more : {C : Type 0} (items first : List (Option (C × Account))) (i : ℕ) (x v : Option (C × Account)) → i < length first
    → accounts_of items ≡ map option_rest (take i (accounts_of first)) ++ drop i (accounts_of first) → x ≡ slice_index_or items i x
    → option_account v ≡ option_rest (option_account x) → accounts_of (slice_set items i v) ≡ map option_rest (take (i + 1) (accounts_of first)) ++ drop (i + 1)
    (accounts_of first)
rest_more items first i x v h kept is e =
    let n : length (accounts_of first) ≡ length first = length-map first option_account in
    map-set option_account items i v ∙ ap (slice_set (accounts_of items) i) e
    ∙ map_over_more option_rest (accounts_of first) (accounts_of items) i (option_account x) (omega arith) kept
    (ap option_account is ∙ sym (get_or-map option_account items i x))

pub all_rested : {C : Type 0} (items lent new : List (Option (C × Account))) (len : ℕ) → lent ≡ items → accounts_of new ≡ all_open (accounts_of lent)
    → length lent ≡ len → accounts_of (take len (new ++ drop (length new) items)) ≡ all_open (accounts_of items)
all_rested items lent new len same e n =
    let k : length (accounts_of new) ≡ length (accounts_of lent) = ap length e ∙ length-map (accounts_of lent) option_rest in
    let m : len ≡ length new = sym n ∙ sym (length-map lent option_account) ∙ sym k ∙ length-map new option_account in
    ap (λ (j : ℕ). accounts_of (take j (new ++ drop (length new) items))) m ∙ ap accounts_of (take-append_seam new (drop (length new) items)) ∙ e ∙ ap
    (λ l. all_open (accounts_of l)) same

pub new_rack : {C : Type 0} (items : List (Option (C × Account))) (n : ℕ) → items ≡ replicate n None → most_slots ≤ n → n ≤ most_slots
    → accounts_of items ≡ replicate most_slots None
new_rack items n e p h = let k : n ≡ most_slots = omega arith in ap accounts_of (e ∙ ap (λ (j : ℕ). replicate j None) k)

-- loops over a list of channels

pub on_err : {T E : Type 0} {X : Type 0} (r : Result T E) → X → OnErr r X
on_err (Ok t) x = tt
on_err (Err e) x = x

all_at : (p : Channel → Bool) (chans : List Channel) (i : ℕ) (d : Channel) → i < length chans → list_all p chans ≡ true → p (slice_index_or chans i d) ≡ true
all_at p [] i d h e = absurd (omega arith)
all_at p (x ∷ chans) zero d h e = (and_parts (p x) (list_all p chans) e).0
all_at p (x ∷ chans) (suc i) d h e = all_at p chans i d (omega arith) (and_parts (p x) (list_all p chans) e).1

pub present_item : (layout : Layout) (chans : List Channel) (i : ℕ) (c d : Channel) → i < length chans → c ≡ slice_index_or chans i d
    → all_present layout chans ≡ true → is_present layout c ≡ true
present_item layout chans i c d h e all = ap (is_present layout) e ∙ all_at (is_present layout) chans i d h all

pub next_present : (rack now : Accounts) (chans : List Channel) (i : ℕ) (c : Channel) → i < length chans → c ≡ slice_index_or chans i c
    → CanClose (layout_of rack) (is_closed rack) chans → Sets rack (take i chans) true now → is_present (layout_of now) c ≡ true
next_present rack now chans i c h e can sets = ap (λ l. is_present l c) (sets_layout rack now (take i chans) true sets) ∙ present_item (layout_of rack) chans i
    c c h e can.present

pub next_apart : (rack now : Accounts) (chans : List Channel) (i : ℕ) (c : Channel) → i < length chans → c ≡ slice_index_or chans i c
    → CanClose (layout_of rack) (is_closed rack) chans → Sets rack (take i chans) true now → (d : Channel) → is_closed now d ≡ true
    → IsClash (layout_of now) c d → ⊥
next_apart rack now chans i c h e can sets d k clash = can.apart (record {
  one = c;
  other = d;
  one_closed = or_left (is_among chans c) (is_closed rack c) (in_at chans i c c h e);
  other_closed = elim (sets_closed rack now (take i chans) true sets d k)
      [ inl o ↦ or_right (is_among chans d) (is_closed rack d) o | inr t ↦ or_left (is_among chans d) (is_closed rack d) (in_take chans i d t) ];
  clash = subst (λ l. IsClash l c d) (sets_layout rack now (take i chans) true sets) clash;
})
