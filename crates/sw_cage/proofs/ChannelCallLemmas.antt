-- Lemmas on what a call on channels does to the cage.
use Rattle.std.proofs.Common.{◌≡◌, ◌≢◌, ℕ, ◌+◌, ◌-◌, ◌%◌, ◌^◌, ◌≤◌, ◌<◌, ◌==◌, ◌||◌, not, Bool, true, false, List, [], ◌∷◌, ◌++◌, length, take, drop}
use Rattle.std.proofs.Common.{Option, None, Some, slice_index_or, slice_set, ◌⊎◌, inl, inr, refl, sym, ◌∙◌, ap, arith, map, suc, zero, if◌then◌else◌}
use Rattle.std.specs.List.{list_any}
use Rattle.std.proofs.lemmas.List.{get_or-set_same, get_or-set_other, take_more, take-append-drop}
use Rattle.std.proofs.lemmas.List.Folds.{list_any-append, list_any_at}
use Rattle.std.proofs.lemmas.Grind.{common_steps}
use Rattle.std.proofs.lemmas.Bool.{cases_eq, or_left, false_from_ne_true}
use Rattle.sw_base.specs.Layout.{Channel, slot_at, contents_have, is_present}
use Rattle.sw_card.specs.Account.{Account, closed_at, set_closed, none_closed, IsWithin, at_rest, IsFault}
use Rattle.sw_verify.specs.Channels.{same_channel, is_among}
use Rattle.sw_verify.proofs.Round.{same_channel_is, same_channel_self}
use Rattle.sw_cage.specs.Accounts.{Accounts, card_contents, slot_contents, layout_of, option_closed, is_closed, OptionWellFormed, option_set, with_chan}
use Rattle.sw_cage.specs.Accounts.{option_rest, all_open, IsSlotFault}
use Rattle.sw_cage.specs.Change.{Sets, option_failed, any_failed, identity, OneFailed, IsDisturbed}
use Rattle.sw_cage.proofs.SlotChangeLemmas.{slot_set_same, slot_set_other, slot_rest, slot_cases, map_slot, present_slot, present_at, same_chan, IsSlotGrown, layout_all_open}

-- channels

pub or_false : (a : Bool) → (a || false) ≡ a
or_false true = refl
or_false false = refl

pub chan_cases : (c d : Channel) → (d ≡ c) ⊎ (d ≢ c)
chan_cases c d = elim (cases_eq d.0 c.0) [
  | inl e ↦ elim (cases_eq d.1 c.1) [ inl f ↦ inl (same_chan c d e f) | inr n ↦ inr (λ k. n (ap (λ (x : Channel). x.1) k)) ]
  | inr n ↦ inr (λ k. n (ap (λ (x : Channel). x.0) k))
]

same_yes : (c d : Channel) → d ≡ c → same_channel d c ≡ true
same_yes c d e = ap (λ (x : Channel). same_channel x c) e ∙ same_channel_self c

same_no : (c d : Channel) → d ≢ c → same_channel d c ≡ false
same_no c d n = false_from_ne_true (same_channel d c) (λ h. n (same_channel_is d c h))

pub in_one : (c d : Channel) → is_among (c ∷ []) d ≡ true → d ≡ c
in_one c d h = same_channel_is d c (sym (or_false (same_channel d c)) ∙ h)

pub in_take : (chans : List Channel) (i : ℕ) (c : Channel) → is_among (take i chans) c ≡ true → is_among chans c ≡ true
in_take chans i c h = ap (list_any (same_channel c)) (sym (take-append-drop i chans)) ∙ list_any-append (same_channel c) (take i chans) (drop i chans) ∙ or_left
    (is_among (take i chans) c) (is_among (drop i chans) c) h

pub in_at : (chans : List Channel) (i : ℕ) (c d : Channel) → i < length chans → c ≡ slice_index_or chans i d → is_among chans c ≡ true
in_at chans i c d h e = list_any_at (same_channel c) chans i d h (same_yes (slice_index_or chans i d) c e)

pub in_more : (chans : List Channel) (i : ℕ) (c d : Channel) → i < length chans → c ≡ slice_index_or chans i d → (x : Channel)
    → is_among (take (i + 1) chans) x ≡ (is_among (take i chans) x || is_among (c ∷ []) x)
in_more chans i c d h e x = ap (list_any (same_channel x)) (take_more chans i d h ∙ ap (λ y. take i chans ++ y ∷ []) (sym e)) ∙ list_any-append (same_channel x)
    (take i chans) (c ∷ [])

-- one channel is set

none_set : (l : List Bool) (i : ℕ) (b : Bool) → none_closed (slice_set l i b) ≡ none_closed l
none_set [] i b = refl
none_set (x ∷ l) zero b = refl
none_set (x ∷ l) (suc i) b = ap (λ t. false ∷ t) (none_set l i b)

pub option_set_rest : (o : Option Account) (ch : ℕ) (on : Bool) → option_rest (option_set o ch on) ≡ option_rest o
option_set_rest None ch on = refl
option_set_rest (Some a) ch on = ap (λ (l : List Bool). let b : Account = record a { closed = l } in Some b) (none_set a.closed (ch - 1) on)

closed_same : (l : List Bool) (ch : ℕ) (on : Bool) → 0 < ch → ch ≤ length l → closed_at (set_closed l ch on) ch ≡ on
closed_same l ch on p h = grind (arith, common_steps, get_or-set_same)

pub closed_other : (l : List Bool) (ch k : ℕ) (on : Bool) → 0 < ch → k ≢ ch → closed_at (set_closed l ch on) k ≡ closed_at l k
closed_other l ch k on p h = grind (arith, common_steps, get_or-set_other)

has_bounds : (a : Account) (ch : ℕ) → contents_have (Some (card_contents a)) ch ≡ true → (0 < ch) × (ch ≤ length a.groups)
has_bounds a ch h = (grind (arith, common_steps), grind (arith, common_steps))

option_same : (o : Option Account) (ch : ℕ) (on : Bool) → OptionWellFormed o → contents_have (slot_contents o) ch ≡ true
    → option_closed (option_set o ch on) ch ≡ on
option_same None ch on r h = absurd (cc)
option_same (Some a) ch on r h = let b : (0 < ch) × (ch ≤ length a.groups) = has_bounds a ch h in closed_same a.closed ch on b.0 (omega (arith, r.states, b.1))

option_other : (o : Option Account) (ch k : ℕ) (on : Bool) → contents_have (slot_contents o) ch ≡ true → k ≢ ch
    → option_closed (option_set o ch on) k ≡ option_closed o k
option_other None ch k on h n = refl
option_other (Some a) ch k on h n = let b : (0 < ch) × (ch ≤ length a.groups) = has_bounds a ch h in closed_other a.closed ch k on b.0 n

closed_there : (rack : Accounts) (c d : Channel) (on : Bool) → OptionWellFormed (slot_at rack c.0) → is_present (layout_of rack) c ≡ true → d ≡ c
    → is_closed (with_chan rack c on) d ≡ on
closed_there rack c d on r h e =
    let b : (0 < c.0) × (c.0 ≤ length rack) = present_slot rack c h in
    ap (is_closed (with_chan rack c on)) e ∙ ap (λ o. option_closed o c.1) (slot_set_same rack c.0 (option_set (slot_at rack c.0) c.1 on) b.0 b.1)
    ∙ option_same (slot_at rack c.0) c.1 on r (sym (present_at rack c) ∙ h)

closed_elsewhere : (rack : Accounts) (c d : Channel) (on : Bool) → is_present (layout_of rack) c ≡ true → d ≢ c
    → is_closed (with_chan rack c on) d ≡ is_closed rack d
closed_elsewhere rack c d on h n =
    let b : (0 < c.0) × (c.0 ≤ length rack) = present_slot rack c h in
    elim (slot_cases rack c.0 d.0 (option_set (slot_at rack c.0) c.1 on) b.0 b.1) [
      | inl e ↦ ap (λ o. option_closed o d.1) e.1 ∙ option_other (slot_at rack c.0) c.1 d.1 on (sym (present_at rack c) ∙ h) (λ k. n (same_chan c d e.0 k)) ∙ ap
          (λ s. option_closed (slot_at rack s) d.1) (sym e.0)
      | inr m ↦ ap (λ o. option_closed o d.1) m.1
    ]

pub if_yes : (b on old : Bool) → b ≡ true → (if b then on else old) ≡ on
if_yes b on old e = rw e refl

pub if_no : (b on old : Bool) → b ≡ false → (if b then on else old) ≡ old
if_no b on old e = rw e refl

pub in_yes : (c d : Channel) → d ≡ c → is_among (c ∷ []) d ≡ true
in_yes c d e = or_left (same_channel d c) false (same_yes c d e)

pub in_no : (c d : Channel) → d ≢ c → is_among (c ∷ []) d ≡ false
in_no c d n = or_false (same_channel d c) ∙ same_no c d n

pub sets_one : (rack : Accounts) (c : Channel) (on : Bool) → OptionWellFormed (slot_at rack c.0) → is_present (layout_of rack) c ≡ true
    → Sets rack (c ∷ []) on (with_chan rack c on)
sets_one rack c on r h = let b : (0 < c.0) × (c.0 ≤ length rack) = present_slot rack c h in record {
  rest = map_slot option_rest rack c.0 (option_set (slot_at rack c.0) c.1 on) b.0 (option_set_rest (slot_at rack c.0) c.1 on);
  closed = λ d. elim (chan_cases c d) [
    | inl e ↦ closed_there rack c d on r h e ∙ sym (if_yes (is_among (c ∷ []) d) on (is_closed rack d) (in_yes c d e))
    | inr n ↦ closed_elsewhere rack c d on h n ∙ sym (if_no (is_among (c ∷ []) d) on (is_closed rack d) (in_no c d n))
  ];
}

-- several channels are set

pub sets_none : (rack : Accounts) (on : Bool) → Sets rack [] on rack
sets_none rack on = record { rest = refl; closed = λ c. refl }

if_more : (a b on r m n : Bool) → n ≡ (if b then on else m) → m ≡ (if a then on else r) → n ≡ (if (a || b) then on else r)
if_more true true on r m n e f = e
if_more true false on r m n e f = e ∙ f
if_more false true on r m n e f = e
if_more false false on r m n e f = e ∙ f

pub sets_more : (rack now new : Accounts) (chans : List Channel) (i : ℕ) (c d : Channel) (on : Bool) → i < length chans → c ≡ slice_index_or chans i d
    → Sets rack (take i chans) on now → Sets now (c ∷ []) on new → Sets rack (take (i + 1) chans) on new
sets_more rack now new chans i c d on h e before step = record {
  rest = step.rest ∙ before.rest;
  closed = λ x. if_more (is_among (take i chans) x) (is_among (c ∷ []) x) on (is_closed rack x) (is_closed now x) (is_closed new x) (step.closed x)
      (before.closed x)
      ∙ ap (λ b. if b then on else is_closed rack x) (sym (in_more chans i c d h e x));
}

-- a channel that is so already
pub sets_same : (rack : Accounts) (c : Channel) (on : Bool) → is_closed rack c ≡ on → Sets rack (c ∷ []) on rack
sets_same rack c on h = record {
  rest = refl;
  closed = λ d. elim (chan_cases c d) [
    | inl e ↦ ap (is_closed rack) e ∙ h ∙ sym (if_yes (is_among (c ∷ []) d) on (is_closed rack d) (in_yes c d e))
    | inr n ↦ sym (if_no (is_among (c ∷ []) d) on (is_closed rack d) (in_no c d n))
  ];
}

pub layout_rest : (old new : Accounts) → all_open new ≡ all_open old → layout_of new ≡ layout_of old
layout_rest old new e = sym (layout_all_open new) ∙ ap layout_of e ∙ layout_all_open old

pub sets_layout : (old new : Accounts) (chans : List Channel) (on : Bool) → Sets old chans on new → layout_of new ≡ layout_of old
sets_layout old new chans on s = layout_rest old new s.rest

if_cases : (a on r m : Bool) → m ≡ (if a then on else r) → m ≡ true → (r ≡ true) ⊎ (a ≡ true)
if_cases true on r m e h = inr refl
if_cases false on r m e h = inl (sym e ∙ h)

pub sets_closed : (old new : Accounts) (chans : List Channel) (on : Bool) → Sets old chans on new → (c : Channel) → is_closed new c ≡ true
    → (is_closed old c ≡ true) ⊎ (is_among chans c ≡ true)
sets_closed old new chans on s c h = if_cases (is_among chans c) on (is_closed old c) (is_closed new c) (s.closed c) h

-- failures

next_ne : (m n : ℕ) → m ≡ (n + 1) % 2 ^ 64 → not (n == m) ≡ true
next_ne m n h = let ne : n ≡ m → ⊥ = λ e. omega arith in grind (arith, common_steps)

same_count : (n : ℕ) → not (n == n) ≡ false
same_count n = grind (arith, common_steps)

pub option_unfailed : (o : Option Account) → option_failed o o ≡ false
option_unfailed None = refl
option_unfailed (Some a) = same_count a.failures

pub failed_same : (rack : Accounts) → any_failed rack rack ≡ false
failed_same [] = refl
failed_same (o ∷ rack) = ap (λ b. b || any_failed rack rack) (option_unfailed o) ∙ failed_same rack

pub rest_old : (o n : Option Account) → option_failed (option_rest o) n ≡ option_failed o n
rest_old None n = refl
rest_old (Some a) None = refl
rest_old (Some a) (Some b) = refl

pub rest_new : (o n : Option Account) → option_failed o (option_rest n) ≡ option_failed o n
rest_new None n = refl
rest_new (Some a) None = refl
rest_new (Some a) (Some b) = refl

pub failed_rest_old : (rack n : Accounts) → any_failed (all_open rack) n ≡ any_failed rack n
failed_rest_old [] n = refl
failed_rest_old (o ∷ rack) [] = refl
failed_rest_old (o ∷ rack) (v ∷ n) = let e = rest_old o v in let f = failed_rest_old rack n in cc

-- opening every relay fails nowhere
pub failed_rest : (rack n : Accounts) → any_failed rack (all_open n) ≡ any_failed rack n
failed_rest [] n = refl
failed_rest (o ∷ rack) [] = refl
failed_rest (o ∷ rack) (v ∷ n) = let e = rest_new o v in let f = failed_rest rack n in cc

-- where all but the states is as it was, no card failed
pub sets_unfailed : (old new : Accounts) → all_open new ≡ all_open old → any_failed old new ≡ false
sets_unfailed old new e = sym (failed_rest old new) ∙ ap (any_failed old) e ∙ failed_rest old old ∙ failed_same old

-- faults

none_none : (l : List Bool) → none_closed (none_closed l) ≡ none_closed l
none_none [] = refl
none_none (x ∷ l) = ap (λ t. false ∷ t) (none_none l)

rest_plate : (o : Option Account) → identity (option_rest o) ≡ identity o
rest_plate None = refl
rest_plate (Some a) = ap (λ (l : List Bool). let b : Account = record a { failures = 0; closed = l } in Some b) (none_none a.closed)

pub identities_all_open : (rack : Accounts) → map identity (all_open rack) ≡ map identity rack
identities_all_open [] = refl
identities_all_open (o ∷ rack) = let e = rest_plate o in let f = identities_all_open rack in cc

pub identities_rest : (old new : Accounts) → all_open new ≡ all_open old → map identity new ≡ map identity old
identities_rest old new e = sym (identities_all_open new) ∙ ap (map identity) e ∙ identities_all_open old

plate_bay : (o : Option Account) → slot_contents (identity o) ≡ slot_contents o
plate_bay None = refl
plate_bay (Some a) = refl

layout_plates : (rack : Accounts) → layout_of (map identity rack) ≡ layout_of rack
layout_plates [] = refl
layout_plates (o ∷ rack) = let e = plate_bay o in let f = layout_plates rack in cc

-- the same cards are the same layout
pub plates_layout : (old new : Accounts) → map identity new ≡ map identity old → layout_of new ≡ layout_of old
plates_layout old new e = sym (layout_plates new) ∙ ap layout_of e ∙ layout_plates old

none_within : (xs ys : List Bool) → IsWithin xs ys → none_closed xs ≡ none_closed ys
none_within [] [] w = refl
none_within (x ∷ xs) (y ∷ ys) w = ap (λ t. false ∷ t) (none_within xs ys w.1)
none_within [] (y ∷ ys) w = absurd w
none_within (x ∷ xs) [] w = absurd w

fault_plate : (a b : Account) (most : List Bool) → none_closed most ≡ none_closed a.closed → IsFault a most b → identity (Some b) ≡ identity (Some a)
fault_plate a b most e f = let s = f.serial in let g = f.groups in let l = f.last in let n : none_closed b.closed ≡ none_closed a.closed =
    none_within b.closed most f.within ∙ e in cc

slot_fault_plate : (o most n : Option Account) → option_rest most ≡ option_rest o → IsSlotFault o most n → identity n ≡ identity o
slot_fault_plate None most n e f = absurd f
slot_fault_plate (Some a) None n e f = absurd f
slot_fault_plate (Some a) (Some m) None e f = absurd f
slot_fault_plate (Some a) (Some m) (Some b) e f = let k : at_rest m ≡ at_rest a = cc in fault_plate a b m.closed (ap (λ (x : Account). x.closed) k) f

pub fault_failed : (o most n : Option Account) → IsSlotFault o most n → option_failed o n ≡ true
fault_failed None most n f = absurd f
fault_failed (Some a) None n f = absurd f
fault_failed (Some a) (Some m) None f = absurd f
fault_failed (Some a) (Some m) (Some b) f = next_ne b.failures a.failures f.count

-- one slot's change alone is counted
unfoldable pub failed_alone : (rack : Accounts) (s : ℕ) (v : Option Account) → 0 < s → s ≤ length rack → option_failed (slot_at rack s) v ≡ true
    → OneFailed rack (slice_set rack (s - 1) v)
failed_alone rack s v p h f = record {
  slot = s;
  counted = ap (option_failed (slot_at rack s)) (slot_set_same rack s v p h) ∙ f;
  others = λ t n. ap (option_failed (slot_at rack t)) (slot_set_other rack s t v p n) ∙ option_unfailed (slot_at rack t);
}

-- where the states of channels alone were others before
pub counted_from : (old mid new : Accounts) (s : ℕ) → all_open mid ≡ all_open old
    → option_failed (slot_at old s) (slot_at new s) ≡ option_failed (slot_at mid s) (slot_at new s)
counted_from old mid new s m =
    let same : option_rest (slot_at old s) ≡ option_rest (slot_at mid s) =
    sym (slot_rest old s) ∙ ap (λ (r : Accounts). slot_at r s) (sym m) ∙ slot_rest mid s in
    sym (rest_old (slot_at old s) (slot_at new s)) ∙ ap (λ o. option_failed o (slot_at new s)) same ∙ rest_old (slot_at mid s) (slot_at new s)

unfoldable pub one_from : (old mid new : Accounts) → all_open mid ≡ all_open old → OneFailed mid new → OneFailed old new
one_from old mid new m f = record {
  slot = f.slot;
  counted = counted_from old mid new f.slot m ∙ f.counted;
  others = λ t n. counted_from old mid new t m ∙ f.others t n;
}

pub counted_rested : (old new : Accounts) (s : ℕ) → option_failed (slot_at old s) (slot_at (all_open new) s) ≡ option_failed (slot_at old s) (slot_at new s)
counted_rested old new s = ap (option_failed (slot_at old s)) (slot_rest new s) ∙ rest_new (slot_at old s) (slot_at new s)

-- opening every relay then counts nothing
unfoldable pub one_rested : (old new : Accounts) → OneFailed old new → OneFailed old (all_open new)
one_rested old new f = record {
  slot = f.slot;
  counted = counted_rested old new f.slot ∙ f.counted;
  others = λ t n. counted_rested old new t ∙ f.others t n;
}

-- one slot's fault
pub disturbed_one : (rack : Accounts) (c : Channel) (most v : Option Account) → 0 < c.0 → c.0 ≤ length rack → option_rest most ≡ option_rest (slot_at rack c.0)
    → IsSlotFault (slot_at rack c.0) most v → IsSlotGrown (slot_at rack c.0) c.1 v → IsDisturbed rack (c ∷ []) (slice_set rack (c.0 - 1) v)
disturbed_one rack c most v p h e fault grown = record {
  cards = map_slot identity rack c.0 v p (slot_fault_plate (slot_at rack c.0) most v e fault);
  failed = failed_alone rack c.0 v p h (fault_failed (slot_at rack c.0) most v fault);
  within = λ d k. elim (slot_cases rack c.0 d.0 v p h) [
    | inl s ↦ elim (grown.closed d.1 (ap (λ o. option_closed o d.1) (sym s.1) ∙ k))
        [ inl o ↦ inl (ap (λ t. option_closed (slot_at rack t) d.1) s.0 ∙ o) | inr f ↦ inr (in_yes c d (same_chan c d s.0 f)) ]
    | inr n ↦ inl (ap (λ o. option_closed o d.1) (sym n.1) ∙ k)
  ];
}

-- a fault after some channels of the list were set
pub disturbed_more : (rack now new : Accounts) (chans : List Channel) (i : ℕ) (c d : Channel) (on : Bool) → i < length chans → c ≡ slice_index_or chans i d
    → Sets rack (take i chans) on now → IsDisturbed now (c ∷ []) new → IsDisturbed rack chans new
disturbed_more rack now new chans i c d on h e before fault = record {
  cards = fault.cards ∙ identities_rest rack now before.rest;
  failed = one_from rack now new before.rest fault.failed;
  within = λ x k. elim (fault.within x k) [
    | inl o ↦ elim (sets_closed rack now (take i chans) on before x o) [ inl r ↦ inl r | inr t ↦ inr (in_take chans i x t) ]
    | inr s ↦ inr (ap (is_among chans) (in_one c x s) ∙ in_at chans i c d h e)
  ];
}
