-- Lemmas on the slots of a cage: one slot's change, and what stays of layout and closed channels.
use Rattle.std.proofs.Common.{◌≡◌, ◌≢◌, ℕ, ◌-◌, ◌≤◌, ◌<◌, Bool, true, false, List, [], ◌∷◌, length, Option, None, Some, slice_index_or, slice_set, ◌⊎◌, inl}
use Rattle.std.proofs.Common.{inr, refl, sym, ◌∙◌, ap, subst, arith, map, suc, zero, is_some, replicate, nat_lt, if◌then◌else◌, Result, Ok, Err, OnOk, OnErr}
use Rattle.std.proofs.lemmas.List.{get_or-set_same, get_or-set_other, length-set, get_or_past, length-map}
use Rattle.std.proofs.Math.ListN.{get_or-map}
use Rattle.std.proofs.Math.Seq.{map-set_same}
use Rattle.std.proofs.lemmas.Grind.{common_steps}
use Rattle.std.proofs.lemmas.Bool.{cases_eq, cases_lt}
use Rattle.sw_base.specs.Limits.{most_slots, most_channels}
use Rattle.sw_base.specs.Layout.{Channel, SlotContents, Layout, slot_at, contents_have, contents_group, contents_are_meter, has_meter, is_present, group_of}
use Rattle.sw_base.specs.Layout.{IsClash, IsExclusive}
use Rattle.sw_card.specs.Account.{Account, set_closed, with_set, IsFault}
use Rattle.sw_card.proofs.Rows.{closed_set, open_set, within_closed, length-within, none_is_closed, length-none}
use Rattle.sw_cage.specs.Accounts.{Accounts, card_contents, slot_contents, layout_of, option_closed, is_closed, IsWellFormed, OptionWellFormed, AreSafe}
use Rattle.sw_cage.specs.Accounts.{option_set, option_rest, all_open}
use Rattle.sw_cage.specs.Accounts.{IsSlotFault}

-- slots

pub slot_set_same : {A : Type 0} (rack : List (Option A)) (s : ℕ) (v : Option A) → 0 < s → s ≤ length rack → slot_at (slice_set rack (s - 1) v) s ≡ v
slot_set_same rack s v p h = grind (arith, common_steps, get_or-set_same)

pub slot_set_other : {A : Type 0} (rack : List (Option A)) (s t : ℕ) (v : Option A) → 0 < s → t ≢ s → slot_at (slice_set rack (s - 1) v) t ≡ slot_at rack t
slot_set_other rack s t v p h = grind (arith, common_steps, get_or-set_other)

pub slot_cases : {A : Type 0} (rack : List (Option A)) (s t : ℕ) (v : Option A) → 0 < s → s ≤ length rack
    → ((t ≡ s) × (slot_at (slice_set rack (s - 1) v) t ≡ v)) ⊎ ((t ≢ s) × (slot_at (slice_set rack (s - 1) v) t ≡ slot_at rack t))
slot_cases rack s t v p h = elim (cases_eq t s) [ inl e ↦ inl (e, rw e (slot_set_same rack s v p h)) | inr n ↦ inr (n, slot_set_other rack s t v p n) ]

slot_map_if : {A B : Type 0} (f : Option A → Option B) (l : List (Option A)) (i : ℕ) (b : Bool) → f None ≡ None
    → slice_index_or (map f l) i None ≡ f (slice_index_or l i None)
    → (if b then slice_index_or (map f l) i None else None) ≡ f (if b then slice_index_or l i None else None)
slot_map_if f l i true n e = e
slot_map_if f l i false n e = sym n

pub slot_map : {A B : Type 0} (f : Option A → Option B) (l : List (Option A)) (s : ℕ) → f None ≡ None → slot_at (map f l) s ≡ f (slot_at l s)
slot_map f l s n =
    let e : slice_index_or (map f l) (s - 1) None ≡ f (slice_index_or l (s - 1) None) =
    subst (λ d. slice_index_or (map f l) (s - 1) d ≡ f (slice_index_or l (s - 1) None)) n (get_or-map f l (s - 1) None) in
    slot_map_if f l (s - 1) (nat_lt 0 s) n e

pub slot_layout : (rack : Accounts) (s : ℕ) → slot_at (layout_of rack) s ≡ slot_contents (slot_at rack s)
slot_layout rack s = slot_map slot_contents rack s refl

pub slot_rest : (rack : Accounts) (s : ℕ) → slot_at (all_open rack) s ≡ option_rest (slot_at rack s)
slot_rest rack s = slot_map option_rest rack s refl

pub slot_zero : {A : Type 0} (rack : List (Option A)) (s : ℕ) → s ≤ 0 → slot_at rack s ≡ None
slot_zero rack s h = grind (arith, common_steps)

pub slot_past : {A : Type 0} (rack : List (Option A)) (s : ℕ) → length rack < s → slot_at rack s ≡ None
slot_past rack s h = grind (arith, common_steps, get_or_past rack (s - 1) None)

pub some_slot : {A : Type 0} (rack : List (Option A)) (s : ℕ) → is_some (slot_at rack s) ≡ true → (0 < s) × (s ≤ length rack)
some_slot rack s h = (
  elim (cases_lt 0 s) [ inl k ↦ k | inr k ↦ absurd (let e : false ≡ true = ap is_some (sym (slot_zero rack s k)) ∙ h in cc) ],
  elim (cases_lt (length rack) s) [ inl k ↦ absurd (let e : false ≡ true = ap is_some (sym (slot_past rack s k)) ∙ h in cc) | inr k ↦ k ],
)

pub is_none : {A : Type 0} (o : Option A) → is_some o ≡ false → o ≡ None
is_none None h = refl
is_none (Some a) h = cc

pub slot_get : {A : Type 0} (rack : List (Option A)) (s : ℕ) → 0 < s → slot_at rack s ≡ slice_index_or rack (s - 1) None
slot_get rack s p = grind (arith, common_steps)

-- what no change of the slot touches stays
pub map_slot : {B : Type 0} (f : Option Account → B) (rack : Accounts) (s : ℕ) (v : Option Account) → 0 < s → f v ≡ f (slot_at rack s)
    → map f (slice_set rack (s - 1) v) ≡ map f rack
map_slot f rack s v p e = map-set_same f rack (s - 1) v None (e ∙ ap f (slot_get rack s p))

-- channels

pub present_at : (rack : Accounts) (c : Channel) → is_present (layout_of rack) c ≡ contents_have (slot_contents (slot_at rack c.0)) c.1
present_at rack c = ap (λ b. contents_have b c.1) (slot_layout rack c.0)

pub group_in_slot : (rack : Accounts) (c : Channel) → group_of (layout_of rack) c ≡ contents_group (slot_contents (slot_at rack c.0)) c.1
group_in_slot rack c = ap (λ b. contents_group b c.1) (slot_layout rack c.0)

present_some : (o : Option Account) (ch : ℕ) → contents_have (slot_contents o) ch ≡ true → is_some o ≡ true
present_some None ch h = h
present_some (Some a) ch h = refl

-- a channel that is there is in one of the slots
pub present_slot : (rack : Accounts) (c : Channel) → is_present (layout_of rack) c ≡ true → (0 < c.0) × (c.0 ≤ length rack)
present_slot rack c h = some_slot rack c.0 (present_some (slot_at rack c.0) c.1 (sym (present_at rack c) ∙ h))

closed_some : (o : Option Account) (ch : ℕ) → option_closed o ch ≡ true → is_some o ≡ true
closed_some None ch h = h
closed_some (Some a) ch h = refl

pub closed_slot : (rack : Accounts) (c : Channel) → is_closed rack c ≡ true → (0 < c.0) × (c.0 ≤ length rack)
closed_slot rack c h = some_slot rack c.0 (closed_some (slot_at rack c.0) c.1 h)

pub same_chan : (c d : Channel) → d.0 ≡ c.0 → d.1 ≡ c.1 → d ≡ c
same_chan c d e f = let k : ◌≡◌ {A = ℕ × ℕ} (d.0, d.1) (c.0, c.1) = cc in k

option_meter_some : (o : Option Account) → contents_are_meter (slot_contents o) ≡ true → is_some o ≡ true
option_meter_some None h = h
option_meter_some (Some a) h = refl

pub meter_some : (rack : Accounts) (s : ℕ) → has_meter (layout_of rack) s ≡ true → is_some (slot_at rack s) ≡ true
meter_some rack s h = option_meter_some (slot_at rack s) (ap contents_are_meter (sym (slot_layout rack s)) ∙ h)

-- one slot's change that closes one channel at most
pub record IsSlotGrown (old : Option Account) (ch : ℕ) (new : Option Account) : Type 0 where
  pub bay : slot_contents new ≡ slot_contents old
  pub row : OptionWellFormed old → OptionWellFormed new
  pub closed : (k : ℕ) → option_closed new k ≡ true → (option_closed old k ≡ true) ⊎ (k ≡ ch)

has_positive : (a : Account) (ch : ℕ) → contents_have (Some (card_contents a)) ch ≡ true → 0 < ch
has_positive a ch h = grind (arith, common_steps)

set_row : (a : Account) (ch : ℕ) (on : Bool) → IsWellFormed a → IsWellFormed (with_set a ch on)
set_row a ch on r = record { states = length-set a.closed (ch - 1) on ∙ r.states; few = r.few }

pub closing_grows : (a : Account) (ch : ℕ) → contents_have (Some (card_contents a)) ch ≡ true → IsSlotGrown (Some a) ch (Some (with_set a ch true))
closing_grows a ch h = record { bay = refl; row = set_row a ch true; closed = λ k e. closed_set a.closed ch k (has_positive a ch h) e }

pub opening_grows : (a : Account) (ch : ℕ) → IsSlotGrown (Some a) ch (Some (with_set a ch false))
opening_grows a ch = record { bay = refl; row = set_row a ch false; closed = λ k e. inl (open_set a.closed ch k e) }

pub fault_bay : (a b : Account) (most : List Bool) → IsFault a most b → card_contents b ≡ card_contents a
fault_bay a b most f = let g = f.groups in let l = f.last in cc

fault_row : (a b : Account) (most : List Bool) → length most ≡ length a.closed → IsFault a most b → IsWellFormed a → IsWellFormed b
fault_row a b most e f r = record {
  states = length-within b.closed most f.within ∙ e ∙ r.states ∙ sym (ap length f.groups);
  few = λ m. subst (λ (g : List ℕ). length g ≤ most_channels) (sym f.groups) (r.few (ap is_some (sym f.last) ∙ m));
}

pub closing_fault_grows : (a b : Account) (ch : ℕ) → contents_have (Some (card_contents a)) ch ≡ true → IsFault a (set_closed a.closed ch true) b
    → IsSlotGrown (Some a) ch (Some b)
closing_fault_grows a b ch h f = record {
  bay = ap (λ (x : SlotContents). Some x) (fault_bay a b (set_closed a.closed ch true) f);
  row = fault_row a b (set_closed a.closed ch true) (length-set a.closed (ch - 1) true) f;
  closed = λ k e. closed_set a.closed ch k (has_positive a ch h) (within_closed b.closed (set_closed a.closed ch true) k f.within e);
}

pub opening_fault_grows : (a b : Account) (ch : ℕ) → IsFault a a.closed b → IsSlotGrown (Some a) ch (Some b)
opening_fault_grows a b ch f = record {
  bay = ap (λ (x : SlotContents). Some x) (fault_bay a b a.closed f);
  row = fault_row a b a.closed refl f;
  closed = λ k e. inl (within_closed b.closed a.closed k f.within e);
}

-- what a call of close or open on a card does to the slot that holds it
pub closed_grows : {T E : Type 0} (o n : Option Account) (r : Result T E) (ch : ℕ) → contents_have (slot_contents o) ch ≡ true
    → OnOk r (n ≡ option_set o ch true)
    → OnErr r (IsSlotFault o (option_set o ch true) n) → IsSlotGrown o ch n
closed_grows None n r ch h ok err = absurd (cc)
closed_grows (Some a) n (Ok t) ch h ok err = rw ok (closing_grows a ch h)
closed_grows (Some a) (Some b) (Err t) ch h ok err = closing_fault_grows a b ch h err
closed_grows (Some a) None (Err t) ch h ok err = absurd err

pub opened_grows : {T E : Type 0} (o n : Option Account) (r : Result T E) (ch : ℕ) → option_closed o ch ≡ true → OnOk r (n ≡ option_set o ch false)
    → OnErr r (IsSlotFault o o n) → IsSlotGrown o ch n
opened_grows None n r ch h ok err = absurd (cc)
opened_grows (Some a) n (Ok t) ch h ok err = rw ok (opening_grows a ch)
opened_grows (Some a) (Some b) (Err t) ch h ok err = opening_fault_grows a b ch err
opened_grows (Some a) None (Err t) ch h ok err = absurd err

-- safety

pub clash_sym : (layout : Layout) (a b : Channel) → IsClash layout a b → IsClash layout b a
clash_sym layout a b k = record { other = λ e. k.other (sym e); grouped = λ e. k.grouped (k.same ∙ e); same = sym k.same }

-- one more closed channel that clashes with none
pub exclusive_grown : (layout : Layout) (old new : Channel → Bool) (c : Channel) → ((d : Channel) → new d ≡ true → (old d ≡ true) ⊎ (d ≡ c))
    → IsExclusive layout old → is_present layout c ≡ true → ((d : Channel) → old d ≡ true → IsClash layout c d → ⊥) → IsExclusive layout new
exclusive_grown layout old new c grown safe present apart = record {
  present = λ d k. elim (grown d k) [ inl o ↦ safe.present d o | inr e ↦ ap (is_present layout) e ∙ present ];
  apart = λ a b ka kb clash.
      elim (grown a ka) [
        | inl oa ↦ elim (grown b kb) [
          | inl ob ↦ safe.apart a b oa ob clash
          | inr eb ↦ apart a oa
              (subst (λ x. IsClash layout x a) eb (clash_sym layout a b clash))
        ]
        | inr ea ↦ elim (grown b kb) [ inl ob ↦ apart b ob (subst (λ x. IsClash layout x b) ea clash) | inr eb ↦ clash.other (ea ∙ sym eb) ]
      ];
}

rows_set : (rack : Accounts) (s : ℕ) (v : Option Account) → 0 < s → s ≤ length rack → OptionWellFormed v → ((t : ℕ) → OptionWellFormed (slot_at rack t))
    → (t : ℕ)
    → OptionWellFormed (slot_at (slice_set rack (s - 1) v) t)
rows_set rack s v p h row rows t = elim (slot_cases rack s t v p h)
    [ inl e ↦ subst OptionWellFormed (sym e.1) row | inr n ↦ subst OptionWellFormed (sym n.1) (rows t) ]

grown_closed : (rack : Accounts) (c : Channel) (v : Option Account) → 0 < c.0 → c.0 ≤ length rack → IsSlotGrown (slot_at rack c.0) c.1 v → (d : Channel)
    → is_closed (slice_set rack (c.0 - 1) v) d ≡ true → (is_closed rack d ≡ true) ⊎ (d ≡ c)
grown_closed rack c v p h grown d k =
    elim (slot_cases rack c.0 d.0 v p h) [
      | inl e ↦ elim (grown.closed d.1 (ap (λ o. option_closed o d.1) (sym e.1) ∙ k))
          [ inl o ↦ inl (ap (λ s. option_closed (slot_at rack s) d.1) e.0 ∙ o) | inr f ↦ inr (same_chan c d e.0 f) ]
      | inr n ↦ inl (ap (λ o. option_closed o d.1) (sym n.1) ∙ k)
    ]

-- closing one channel that clashes with none, whatever comes of it, keeps the cage safe
pub safe_grown : (rack : Accounts) (c : Channel) (v : Option Account) → IsSlotGrown (slot_at rack c.0) c.1 v → AreSafe rack
    → is_present (layout_of rack) c ≡ true
    → ((d : Channel) → is_closed rack d ≡ true → IsClash (layout_of rack) c d → ⊥) → AreSafe (slice_set rack (c.0 - 1) v)
safe_grown rack c v grown safe present apart =
    let r : (0 < c.0) × (c.0 ≤ length rack) = present_slot rack c present in
    record {
      size = length-set rack (c.0 - 1) v ∙ safe.size;
      rows = rows_set rack c.0 v r.0 r.1 (grown.row (safe.rows c.0)) safe.rows;
      exclusive = subst (λ l. IsExclusive l (is_closed (slice_set rack (c.0 - 1) v))) (sym (map_slot slot_contents rack c.0 v r.0 grown.bay))
          (exclusive_grown (layout_of rack) (is_closed rack) (is_closed (slice_set rack (c.0 - 1) v)) c (grown_closed rack c v r.0 r.1 grown) safe.exclusive
          present apart);
    }

-- opening a closed channel, whatever comes of it, keeps the cage safe
pub safe_opened : (rack : Accounts) (c : Channel) (v : Option Account) → IsSlotGrown (slot_at rack c.0) c.1 v → AreSafe rack → is_closed rack c ≡ true
    → AreSafe (slice_set rack (c.0 - 1) v)
safe_opened rack c v grown safe closed = safe_grown rack c v grown safe (safe.exclusive.present c closed) (λ d k. safe.exclusive.apart c d closed k)

-- nothing closed

rest_closed : (o : Option Account) (k : ℕ) → option_closed (option_rest o) k ≡ false
rest_closed None k = refl
rest_closed (Some a) k = none_is_closed a.closed k

rest_bay : (o : Option Account) → slot_contents (option_rest o) ≡ slot_contents o
rest_bay None = refl
rest_bay (Some a) = refl

rest_row : (o : Option Account) → OptionWellFormed o → OptionWellFormed (option_rest o)
rest_row None r = r
rest_row (Some a) r = record { states = length-none a.closed ∙ r.states; few = r.few }

pub all_open_closed : (rack : Accounts) (c : Channel) → is_closed (all_open rack) c ≡ false
all_open_closed rack c = ap (λ o. option_closed o c.1) (slot_rest rack c.0) ∙ rest_closed (slot_at rack c.0) c.1

pub layout_all_open : (rack : Accounts) → layout_of (all_open rack) ≡ layout_of rack
layout_all_open [] = refl
layout_all_open (o ∷ rack) = let e = rest_bay o in let f = layout_all_open rack in cc

pub exclusive_none : (layout : Layout) (closed : Channel → Bool) → ((c : Channel) → closed c ≡ false) → IsExclusive layout closed
exclusive_none layout closed none = record { present = λ c k. absurd (let e = none c in cc); apart = λ a b ka kb clash. absurd (let e = none a in cc) }

pub safe_all_open : (rack : Accounts) → length rack ≡ most_slots → ((s : ℕ) → OptionWellFormed (slot_at rack s)) → AreSafe (all_open rack)
safe_all_open rack size rows = record {
  size = length-map rack option_rest ∙ size;
  rows = λ s. subst OptionWellFormed (sym (slot_rest rack s)) (rest_row (slot_at rack s) (rows s));
  exclusive = exclusive_none (layout_of (all_open rack)) (is_closed (all_open rack)) (all_open_closed rack);
}

-- a slot that is closed nowhere now
quiet_other : (rack : Accounts) (s : ℕ) (v : Option Account) → 0 < s → s ≤ length rack → ((k : ℕ) → option_closed v k ≡ false) → (d : Channel)
    → is_closed (slice_set rack (s - 1) v) d ≡ true → slot_at (slice_set rack (s - 1) v) d.0 ≡ slot_at rack d.0
quiet_other rack s v p h quiet d k = elim (slot_cases rack s d.0 v p h) [
  | inl e ↦ absurd (let f : option_closed v d.1 ≡ true = ap (λ o. option_closed o d.1) (sym e.1) ∙ k in let n = quiet d.1 in cc)
  | inr n ↦ n.1
]

pub quiet_was : (rack : Accounts) (s : ℕ) (v : Option Account) → 0 < s → s ≤ length rack → ((k : ℕ) → option_closed v k ≡ false) → (d : Channel)
    → is_closed (slice_set rack (s - 1) v) d ≡ true → is_closed rack d ≡ true
quiet_was rack s v p h quiet d k = ap (λ o. option_closed o d.1) (sym (quiet_other rack s v p h quiet d k)) ∙ k

pub quiet_group : (rack : Accounts) (s : ℕ) (v : Option Account) → 0 < s → s ≤ length rack → ((k : ℕ) → option_closed v k ≡ false) → (d : Channel)
    → is_closed (slice_set rack (s - 1) v) d ≡ true → group_of (layout_of (slice_set rack (s - 1) v)) d ≡ group_of (layout_of rack) d
quiet_group rack s v p h quiet d k = group_in_slot (slice_set rack (s - 1) v) d
    ∙ ap (λ o. contents_group (slot_contents o) d.1) (quiet_other rack s v p h quiet d k) ∙ sym (group_in_slot rack d)

-- where nothing was closed in the slot either
pub quiet_still : (rack : Accounts) (s : ℕ) (v : Option Account) → 0 < s → s ≤ length rack → ((k : ℕ) → option_closed (slot_at rack s) k ≡ false)
    → (d : Channel) → is_closed rack d ≡ true → is_closed (slice_set rack (s - 1) v) d ≡ true
quiet_still rack s v p h quiet d k = elim (slot_cases rack s d.0 v p h) [
  | inl e ↦ absurd (let f : option_closed (slot_at rack s) d.1 ≡ true = ap (λ t. option_closed (slot_at rack t) d.1) (sym e.0) ∙ k in let n = quiet d.1 in cc)
  | inr n ↦ ap (λ o. option_closed o d.1) n.1 ∙ k
]

-- whatever comes into a slot or leaves it with nothing closed keeps the cage exclusive
pub exclusive_quiet : (rack : Accounts) (s : ℕ) (v : Option Account) → 0 < s → s ≤ length rack → ((k : ℕ) → option_closed v k ≡ false)
    → IsExclusive (layout_of rack) (is_closed rack) → IsExclusive (layout_of (slice_set rack (s - 1) v)) (is_closed (slice_set rack (s - 1) v))
exclusive_quiet rack s v p h quiet safe =
    let was = quiet_was rack s v p h quiet in
    let group = quiet_group rack s v p h quiet in
    let has : (d : Channel) → is_closed (slice_set rack (s - 1) v) d ≡ true
    → is_present (layout_of (slice_set rack (s - 1) v)) d ≡ is_present (layout_of rack) d =
    λ d k. present_at (slice_set rack (s - 1) v) d ∙ ap (λ o. contents_have (slot_contents o) d.1) (quiet_other rack s v p h quiet d k)
    ∙ sym (present_at rack d) in
    record {
      present = λ d k. has d k ∙ safe.present d (was d k);
      apart = λ a b ka kb clash. safe.apart a b (was a ka) (was b kb)
          (record { other = clash.other; grouped = λ e. clash.grouped (group a ka ∙ e); same = sym (group a ka) ∙ clash.same ∙ group b kb });
    }

pub safe_quiet : (rack : Accounts) (s : ℕ) (v : Option Account) → 0 < s → s ≤ length rack → ((k : ℕ) → option_closed v k ≡ false) → OptionWellFormed v
    → AreSafe rack
    → AreSafe (slice_set rack (s - 1) v)
safe_quiet rack s v p h quiet row safe = record {
  size = length-set rack (s - 1) v ∙ safe.size;
  rows = rows_set rack s v p h row safe.rows;
  exclusive = exclusive_quiet rack s v p h quiet safe.exclusive;
}

none_at : (n i : ℕ) → slice_index_or (let r : Accounts = replicate n None in r) i None ≡ None
none_at zero i = refl
none_at (suc n) zero = refl
none_at (suc n) (suc i) = none_at n i

none_if : (b : Bool) (o : Option Account) → o ≡ None → (if b then o else None) ≡ None
none_if true o e = e
none_if false o e = refl

pub none_slot : (n s : ℕ) → slot_at (let r : Accounts = replicate n None in r) s ≡ None
none_slot n s = none_if (nat_lt 0 s) (slice_index_or (let r : Accounts = replicate n None in r) (s - 1) None) (none_at n (s - 1))

pub safe_empty : AreSafe (replicate most_slots None)
safe_empty = record {
  size = refl;
  rows = λ s. subst OptionWellFormed (sym (none_slot most_slots s)) tt;
  exclusive = exclusive_none (layout_of (replicate most_slots None)) (is_closed (replicate most_slots None))
      (λ c. ap (λ o. option_closed o c.1) (none_slot most_slots c.0));
}
