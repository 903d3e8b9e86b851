-- The cards themselves, where calls are made on some of them.
use Rattle.std.proofs.Common.{◌≡◌, ℕ, ◌+◌, ◌-◌, ◌<◌, ◌++◌, Bool, true, false, [], ◌∷◌, length, take, drop, Option, None, Some, slice_index_or, slice_set}
use Rattle.std.proofs.Common.{refl, sym, ◌∙◌, ap, subst, ◌⊎◌, if◌then◌else◌, ◌≢◌, List, suc, arith, replicate, is_some, ◌≤◌, Result, Ok, Err, OnOk, IfOk}
use Rattle.std.proofs.lemmas.List.{get_or_default, length-map, map-set}
use Rattle.std.proofs.Math.Seq.{map-set_same, take-append_seam}
use Rattle.std.proofs.lemmas.Grind.{common_steps}
use Rattle.sw_base.specs.Limits.{most_slots}
use Rattle.sw_base.specs.Layout.{Channel, meter, relays, slot_at, contents_are_meter, contents_have}
use Rattle.sw_card.specs.Account.{Account, is_meter, closed_at, none_closed, at_rest}
use Rattle.sw_cage.specs.Accounts.{accounts_of, AreSafe, option_account, slot_contents, card_contents, option_set, IsSlotFault}
use Rattle.sw_cage.specs.Cards.{Cards, CageState, KeepsOthers, meter_only, meters_of, job_card, KeepsMeters}
use Rattle.sw_cage.specs.declared.taken.Taken.{Taken}
use Rattle.sw_cage.specs.declared.taken.Taken.TheVariants.{Ignored, Waits, Pause, Job, Ended, Fault}
use Rattle.sw_cage.proofs.SlotChangeLemmas.{slot_map, slot_get, slot_set_same, slot_set_other, some_slot}
use Rattle.sw_cage.proofs.ChannelCallLemmas.{in_at}
use Rattle.sw_cage.proofs.MoveLemmas.{not_meter}

pub seen_is : {C : Type 0} {p q : CageState C} → p ≡ q → p.seen ≡ q.seen
seen_is {C} {p} {q} e = ap (λ (s : CageState C). s.seen) e

pub meters_are : {C : Type 0} {p q : CageState C} → p ≡ q → meters_of p.cards ≡ meters_of q.cards
meters_are {C} {p} {q} e = ap (λ (s : CageState C). meters_of s.cards) e

-- one slot's card

none_if : {C : Type 0} (b : Bool) (groups : List ℕ) (o : Option C) → contents_are_meter (Some (if b then meter else relays groups)) ≡ false
    → (if b then o else None) ≡ None
none_if true groups o h = absurd (cc)
none_if false groups o h = refl

no_meter : {C : Type 0} (o : Option (C × Account)) → contents_are_meter (slot_contents (option_account o)) ≡ false → meter_only o ≡ None
no_meter None h = refl
no_meter (Some card) h = none_if (is_meter card.1) card.1.groups (Some card) h

-- neither is a meter
no_meters : {C : Type 0} (old new : Option (C × Account)) → contents_are_meter (slot_contents (option_account old)) ≡ false
    → contents_are_meter (slot_contents (option_account new)) ≡ contents_are_meter (slot_contents (option_account old)) → meter_only new ≡ meter_only old
no_meters old new h e = no_meter new (e ∙ h) ∙ sym (no_meter old h)

set_kind : (o : Option Account) (ch : ℕ) (on : Bool) → contents_are_meter (slot_contents (option_set o ch on)) ≡ contents_are_meter (slot_contents o)
set_kind None ch on = refl
set_kind (Some a) ch on = refl

kind_if : (b : Bool) (gs hs : List ℕ) → contents_are_meter (Some (if b then meter else relays gs)) ≡ contents_are_meter (Some (if b then meter else relays hs))
kind_if true gs hs = refl
kind_if false gs hs = refl

account_kind : (a b : Account) → is_meter b ≡ is_meter a → contents_are_meter (Some (card_contents b)) ≡ contents_are_meter (Some (card_contents a))
account_kind a b e = ap (λ (t : Bool). contents_are_meter (Some (if t then meter else relays b.groups))) e ∙ kind_if (is_meter a) b.groups a.groups

fault_kind : (o most n : Option Account) → IsSlotFault o most n → contents_are_meter (slot_contents n) ≡ contents_are_meter (slot_contents o)
fault_kind None most n f = absurd (f)
fault_kind (Some a) None n f = absurd (f)
fault_kind (Some a) (Some m) None f = absurd (f)
fault_kind (Some a) (Some m) (Some b) f = account_kind a b (let e = f.last in cc)

-- the channel's relay was driven, and the card is no meter
pub driven : {C : Type 0} (old new : Option (C × Account)) (ch : ℕ) (on : Bool) → contents_have (slot_contents (option_account old)) ch ≡ true
    → option_account new ≡ option_set (option_account old) ch on → meter_only new ≡ meter_only old
driven old new ch on h e = no_meters old new (not_meter (slot_contents (option_account old)) ch h)
    (ap (λ (o : Option Account). contents_are_meter (slot_contents o)) e ∙ set_kind (option_account old) ch on)

-- nor is it where its driver failed
pub driven_badly : {C : Type 0} (old new : Option (C × Account)) (most : Option Account) (ch : ℕ)
    → contents_have (slot_contents (option_account old)) ch ≡ true → IsSlotFault (option_account old) most (option_account new)
    → meter_only new ≡ meter_only old
driven_badly old new most ch h f = no_meters old new (not_meter (slot_contents (option_account old)) ch h)
    (fault_kind (option_account old) most (option_account new) f)

relay_if : {C : Type 0} (b : Bool) (o : Option C) → b ≡ false → (if b then o else None) ≡ None
relay_if true o h = absurd (cc)
relay_if false o h = refl

-- every relay of a card that is no meter was opened
pub rested : {C : Type 0} (old new : C × Account) → is_meter old.1 ≡ false → new.1 ≡ at_rest old.1 → meter_only (Some new) ≡ meter_only (Some old)
rested old new h e = relay_if (is_meter new.1) (Some new) (ap (λ (a : Account). is_meter a) e ∙ h) ∙ sym (relay_if (is_meter old.1) (Some old) h)

closed_get : (l : List Bool) (k : ℕ) → 0 < k → closed_at l k ≡ slice_index_or l (k - 1) false
closed_get l k p = grind (arith, common_steps)

index_none : (l : List Bool) → ((k : ℕ) → closed_at l k ≡ false) → (i : ℕ) → slice_index_or l i false ≡ false
index_none l h i =
    let e : i + 1 - 1 ≡ i = omega arith in
    sym (ap (λ (j : ℕ). slice_index_or l j false) e) ∙ sym (closed_get l (i + 1) (omega arith)) ∙ h (i + 1)

none_index : (l : List Bool) → ((i : ℕ) → slice_index_or l i false ≡ false) → none_closed l ≡ l
none_index [] h = refl
none_index (true ∷ l) h = absurd (let e = h 0 in cc)
none_index (false ∷ l) h = ap (λ t. false ∷ t) (none_index l (λ i. h (suc i)))

-- a card of which nothing is closed is at rest
pub at_rest_is : (a : Account) → ((k : ℕ) → closed_at a.closed k ≡ false) → at_rest a ≡ a
at_rest_is a h = ap (λ (l : List Bool). let b : Account = record a { closed = l } in b) (none_index a.closed (index_none a.closed h))

meter_yes : {C : Type 0} (b : Bool) (o : Option C) → b ≡ true → (if b then o else None) ≡ o
meter_yes true o h = refl
meter_yes false o h = absurd (cc)

some_if : {C : Type 0} (b : Bool) (card found : C) → (if b then Some card else None) ≡ Some found → ◌≡◌ {A = Option C} (Some card) (Some found)
some_if true card found e = e
some_if false card found e = absurd (cc)

-- the slot has the meter that is seen in it
meter_is : {C : Type 0} (o : Option (C × Account)) (card : C × Account) → meter_only o ≡ Some card → o ≡ Some card
meter_is None card e = absurd (cc)
meter_is (Some there) card e = some_if (is_meter there.1) there card e

-- a card that is a meter was there before
pub was_there : {C : Type 0} (old new : Option (C × Account)) (card : C × Account) → meter_only new ≡ meter_only old → is_meter card.1 ≡ true
    → new ≡ Some card → old ≡ Some card
was_there old new card same h e = meter_is old card (sym same ∙ ap meter_only e ∙ meter_yes (is_meter card.1) (Some card) h)

-- all slots

pub new_cards : {C : Type 0} (items : Cards C) (n : ℕ) → items ≡ replicate n None → most_slots ≤ n → n ≤ most_slots → items ≡ replicate most_slots None
new_cards items n e p h = let k : n ≡ most_slots = omega arith in e ∙ ap (λ (j : ℕ). replicate j None) k

cards_size : {C : Type 0} (items : Cards C) → length (accounts_of items) ≡ most_slots → length items ≡ most_slots
cards_size items size = sym (length-map items option_account) ∙ size

pub card_read : {C : Type 0} (items value : Cards C) (s : ℕ) (x : Option (C × Account)) → items ≡ value → length (accounts_of items) ≡ most_slots → 1 ≤ s
    → s ≤ most_slots → x ≡ slice_index_or items (s - 1) x → slot_at value s ≡ x
card_read items value s x same size p h e =
    let n : length items ≡ most_slots = cards_size items size in
    ap (λ l. slot_at l s) (sym same) ∙ slot_get items s (omega (arith, p)) ∙ get_or_default items (s - 1) None x (omega (arith, p, h, n)) ∙ sym e

-- one slot alone was written
pub others_are : {C : Type 0} (items value : Cards C) (s slot : ℕ) (v : Option (C × Account)) → items ≡ value → length (accounts_of items) ≡ most_slots
    → s ≡ slot → 1 ≤ s → s ≤ most_slots → slice_set items (s - 1) v ≡ slice_set value (slot - 1) (slot_at (slice_set items (s - 1) v) slot)
others_are items value s slot v same size e p h =
    let n : length items ≡ most_slots = cards_size items size in
    subst (λ (k : ℕ). slice_set items (s - 1) v ≡ slice_set value (k - 1) (slot_at (slice_set items (s - 1) v) k)) e
    (ap (λ l. slice_set l (s - 1) v) same ∙ ap (slice_set value (s - 1)) (sym (slot_set_same items s v (omega (arith, p)) (omega (arith, h, n)))))

pub meters_set : {C : Type 0} (items : Cards C) (i : ℕ) (x v : Option (C × Account)) → i < length items → x ≡ slice_index_or items i x
    → meter_only v ≡ meter_only x → meters_of (slice_set items i v) ≡ meters_of items
meters_set items i x v h is e = map-set_same meter_only items i v None (e ∙ ap meter_only (is ∙ sym (get_or_default items i None x h)))

-- no other slot was written
pub elsewhere_is : {C : Type 0} (items value : Cards C) (s slot : ℕ) (v : Option (C × Account)) → items ≡ value → s ≡ slot → 1 ≤ s → (t : ℕ) → slot ≢ t
    → slot_at (slice_set items (s - 1) v) t ≡ slot_at value t
elsewhere_is items value s slot v same e p t n = slot_set_other items s t v (omega (arith, p)) (λ k. n (sym e ∙ sym k)) ∙ ap (λ l. slot_at l t) same

-- one channel of the list more
pub keeps_next : {C : Type 0} (old now new : Cards C) (chans : List Channel) (i : ℕ) (c : Channel) → i < length chans → c ≡ slice_index_or chans i c
    → KeepsOthers old chans now → ((slot : ℕ) → c.0 ≢ slot → slot_at new slot ≡ slot_at now slot) → KeepsOthers old chans new
keeps_next old now new chans i c h e k w slot far = w slot (far c (in_at chans i c c h e)) ∙ k slot far

-- a slot's card went on to another state, or a meter stayed
pub meters_written : {C : Type 0} (items value : Cards C) (s : ℕ) (x v : Option (C × Account)) → items ≡ value → length (accounts_of items) ≡ most_slots
    → 1 ≤ s → s ≤ most_slots → x ≡ slice_index_or items (s - 1) x → meter_only v ≡ meter_only x
    → meters_of (slice_set items (s - 1) v) ≡ meters_of value
meters_written items value s x v same size p h is e =
    let n : length items ≡ most_slots = cards_size items size in
    meters_set items (s - 1) x v (omega (arith, p, h, n)) is e ∙ ap meters_of same

pub meters_lent : {C : Type 0} (items lent new : Cards C) (len : ℕ) → lent ≡ items → meters_of new ≡ meters_of lent → length lent ≡ len
    → meters_of (take len (new ++ drop (length new) items)) ≡ meters_of items
meters_lent items lent new len same e n =
    let k : length new ≡ length lent = sym (length-map new meter_only) ∙ ap length e ∙ length-map lent meter_only in
    let m : len ≡ length new = sym n ∙ sym k in
    ap (λ (j : ℕ). meters_of (take j (new ++ drop (length new) items))) m ∙ ap meters_of (take-append_seam new (drop (length new) items)) ∙ e ∙ ap meters_of
    same

-- a slot is emptied
pub meters_emptied : {C : Type 0} (old new : Cards C) (i : ℕ) → new ≡ slice_set old i None → meters_of new ≡ slice_set (meters_of old) i None
meters_emptied old new i e = ap meters_of e ∙ map-set meter_only old i None

pub slot_was : {C : Type 0} (old new : Cards C) (s : ℕ) (card : C × Account) → meters_of new ≡ meters_of old → is_meter card.1 ≡ true
    → slot_at new s ≡ Some card → slot_at old s ≡ Some card
slot_was old new s card same h e = was_there (slot_at old s) (slot_at new s) card
    (sym (slot_map meter_only new s refl) ∙ ap (λ l. slot_at l s) same ∙ slot_map meter_only old s refl) h e

-- the card that comes out, where it is a meter
pub ejected_meter : {C : Type 0} (items value : Cards C) (s : ℕ) (x : Option (C × Account)) (card : C × Account) → items ≡ value → AreSafe (accounts_of items)
    → is_some (slot_at (accounts_of value) s) ≡ true → x ≡ slice_index_or items (s - 1) x → meter_only (Some card) ≡ meter_only x
    → is_meter card.1 ≡ true → slot_at value s ≡ Some card
ejected_meter items value s x card same safe some is e h =
    let b : (0 < s) × (s ≤ length (accounts_of items)) = some_slot (accounts_of items) s (ap (λ l. is_some (slot_at (accounts_of l) s)) same ∙ some) in
    card_read items value s x same safe.size (omega (arith, b.0)) (omega (arith, b.1, safe.size)) is ∙ was_there x (Some card) card e h refl

-- a card comes out after calls that moved no meter

pub comes_out : {C E : Type 0} (r : Result (C × Account) E) (old mid : Cards C) (s : ℕ) → meters_of mid ≡ meters_of old
    → IfOk r (λ card. is_meter card.1 ≡ true → slot_at mid s ≡ Some card) → IfOk r (λ card. is_meter card.1 ≡ true → slot_at old s ≡ Some card)
comes_out (Ok card) old mid s same k = λ h. slot_was old mid s card same h (k h)
comes_out (Err e) old mid s same k = tt

pub goes_out : {C T E : Type 0} (r : Result T E) (old mid new : Cards C) (i : ℕ) → meters_of mid ≡ meters_of old → new ≡ slice_set mid i None
    → OnOk r (meters_of new ≡ slice_set (meters_of old) i None)
goes_out (Ok t) old mid new i same e = meters_emptied mid new i e ∙ ap (λ l. slice_set l i None) same
goes_out (Err t) old mid new i same e = tt

-- what is told of the meters, after calls that moved none
pub keeps_since : {R M : Type 0} (old mid : Cards (R ⊎ M)) (told : Taken M) (new : Cards (R ⊎ M)) → meters_of mid ≡ meters_of old → KeepsMeters mid told new
    → KeepsMeters old told new
keeps_since old mid Ignored new e k = k ∙ e
keeps_since old mid Waits new e k = k ∙ e
keeps_since old mid (Pause ticket micros) new e k = k ∙ e
keeps_since old mid (Job job) new e k = (
  slot_was old mid job.1.slot (job_card job) e refl k.0,
  k.1 ∙ ap (λ l. slice_set l (job.1.slot - 1) None) e,
)
keeps_since old mid Ended new e k = k ∙ e
keeps_since old mid Fault new e k = k ∙ e
