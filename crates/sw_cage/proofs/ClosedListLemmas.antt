-- Lemmas on the list of closed channels, by slot and channel.
use Rattle.std.proofs.Common.{◌≡◌, ◌≢◌, ℕ, ◌+◌, ◌-◌, ◌≤◌, ◌<◌, Bool, true, false, List, [], ◌∷◌, ◌++◌, length, Option, None, Some, inl, inr, refl}
use Rattle.std.proofs.Common.{sym, ◌∙◌, ap, subst, arith, zero, suc, add-one, append_assoc}
use Rattle.std.specs.List.{filter}
use Rattle.std.proofs.lemmas.List.{append-nil}
use Rattle.std.proofs.lemmas.List.Elements.{filter-append}
use Rattle.std.proofs.lemmas.Grind.{common_steps}
use Rattle.std.proofs.lemmas.Bool.{cases_lt}
use Rattle.sw_base.specs.Limits.{most_channels}
use Rattle.sw_base.specs.Layout.{Channel, slot_at, contents_have}
use Rattle.sw_card.specs.Account.{Account, is_meter}
use Rattle.sw_card.specs.Mask.{in_mask}
use Rattle.sw_cage.specs.Accounts.{Accounts, card_contents, slot_contents, is_closed, OptionWellFormed, AreSafe}
use Rattle.sw_cage.specs.Channels.{row, rows}
use Rattle.sw_cage.proofs.SlotChangeLemmas.{present_at}

-- closed channels

pub has_bounds : (a : Account) (ch : ℕ) → contents_have (Some (card_contents a)) ch ≡ true → (0 < ch) × ((is_meter a ≡ false) × (ch ≤ length a.groups))
has_bounds a ch h = (grind (arith, common_steps), (grind (arith, common_steps), grind (arith, common_steps)))

row_bounds : (o : Option Account) (ch : ℕ) → OptionWellFormed o → contents_have (slot_contents o) ch ≡ true → (1 ≤ ch) × (ch ≤ most_channels)
row_bounds None ch r h = absurd (cc)
row_bounds (Some a) ch r h = let b : (0 < ch) × ((is_meter a ≡ false) × (ch ≤ length a.groups)) = has_bounds a ch h in let f : length a.groups ≤ most_channels =
    r.few b.1.0 in (omega (arith, b.0), omega (arith, b.1.1, f))

-- a closed channel's number
pub closed_number : (rack : Accounts) (c : Channel) → AreSafe rack → is_closed rack c ≡ true → (1 ≤ c.1) × (c.1 ≤ most_channels)
closed_number rack c safe h = row_bounds (slot_at rack c.0) c.1 (safe.rows c.0) (sym (present_at rack c) ∙ safe.exclusive.present c h)

-- rows

pub row_more : (slot ch : ℕ) → row slot (ch + 1) ≡ row slot ch ++ (slot, ch + 1) ∷ []
unfolding row
row_more slot ch = rw add-one refl

pub rows_more : (slot : ℕ) → rows (slot + 1) ≡ rows slot ++ row (slot + 1) most_channels
unfolding rows
rows_more slot = rw add-one refl

filter_one : (closed : Channel → Bool) (c : Channel) → closed c ≡ true → filter closed (c ∷ []) ≡ c ∷ []
filter_one closed c h = rw h refl

filter_none : (closed : Channel → Bool) (c : Channel) → closed c ≡ false → filter closed (c ∷ []) ≡ []
filter_none closed c h = rw h refl

pub row_closed : (closed : Channel → Bool) (slot ch : ℕ) → closed (slot, ch + 1) ≡ true
    → filter closed (row slot (ch + 1)) ≡ filter closed (row slot ch) ++ (slot, ch + 1) ∷ []
row_closed closed slot ch h = ap (filter closed) (row_more slot ch) ∙ filter-append closed (row slot ch) ((slot, ch + 1) ∷ []) ∙ ap
    (λ l. filter closed (row slot ch) ++ l) (filter_one closed (slot, ch + 1) h)

pub row_open : (closed : Channel → Bool) (slot ch : ℕ) → closed (slot, ch + 1) ≡ false → filter closed (row slot (ch + 1)) ≡ filter closed (row slot ch)
row_open closed slot ch h = ap (filter closed) (row_more slot ch) ∙ filter-append closed (row slot ch) ((slot, ch + 1) ∷ []) ∙ ap
    (λ l. filter closed (row slot ch) ++ l) (filter_none closed (slot, ch + 1) h) ∙ append-nil (filter closed (row slot ch))

-- between the two nothing is closed
row_past : (closed : Channel → Bool) (slot m n : ℕ) → m ≤ n → ((k : ℕ) → m < k → k ≤ n → closed (slot, k) ≡ false)
    → filter closed (row slot n) ≡ filter closed (row slot m)
row_past closed slot m zero h past = let e : m ≡ 0 = omega arith in ap (λ j. filter closed (row slot j)) (sym e)
row_past closed slot m (suc n) h past = elim (cases_lt n m) [
  | inl l ↦ let e : m ≡ suc n = omega arith in ap (λ j. filter closed (row slot j)) (sym e)
  | inr g ↦ subst (λ j. filter closed (row slot j) ≡ filter closed (row slot n)) (add-one n) (row_open closed slot n (past (n + 1) (omega arith) (omega arith)))
      ∙ row_past closed slot m n g (λ k a b. past k a (omega (arith, b)))
]

pub row_start : (closed : Channel → Bool) (slot : ℕ) → filter closed (row slot 0) ≡ []
unfolding row
row_start closed slot = refl

pub rows_start : (closed : Channel → Bool) → filter closed (rows 0) ≡ []
unfolding rows
rows_start closed = refl

-- The closed channels of a slot up to one of them are in the list, and those past it are left in the mask.
pub record Walked (closed : Channel → Bool) (slot left count : ℕ) (first now : List Channel) : Type 0 where
  pub past : ℕ
  pub far : count ≤ past
  pub few : past ≤ most_channels
  pub later : (k : ℕ) → in_mask left k ≡ true → past < k
  pub within : (k : ℕ) → in_mask left k ≡ true → k ≤ most_channels
  pub kept : (k : ℕ) → past < k → k ≤ most_channels → in_mask left k ≡ closed (slot, k)
  pub told : now ≡ first ++ filter closed (row slot past)

not_zero : (mask k : ℕ) → in_mask mask k ≡ true → 0 < k
not_zero mask zero h = absurd (cc)
not_zero mask (suc k) h = omega arith

pub walk_first : (closed : Channel → Bool) (slot mask : ℕ) (first now : List Channel) → ((k : ℕ) → k ≤ most_channels → in_mask mask k ≡ closed (slot, k))
    → ((k : ℕ) → in_mask mask k ≡ true → k ≤ most_channels) → now ≡ first → Walked closed slot mask 0 first now
walk_first closed slot mask first now same within e = record {
  past = 0;
  far = omega arith;
  few = omega arith;
  later = not_zero mask;
  within = within;
  kept = λ k a b. same k b;
  told = e ∙ sym (ap (λ l. first ++ l) (row_start closed slot) ∙ append-nil first);
}

-- the lowest one that is left is a channel
pub walk_number : (closed : Channel → Bool) (slot left count : ℕ) (first now : List Channel) (ch : ℕ) → Walked closed slot left count first now
    → in_mask left ch ≡ true → (1 ≤ ch) × (ch ≤ most_channels)
walk_number closed slot left count first now ch w here = (omega (arith, not_zero left ch here), w.within ch here)

-- and closed
pub walk_closed : (closed : Channel → Bool) (slot left count : ℕ) (first now : List Channel) (ch : ℕ) → Walked closed slot left count first now
    → in_mask left ch ≡ true → closed (slot, ch) ≡ true
walk_closed closed slot left count first now ch w here = sym (w.kept ch (w.later ch here) (w.within ch here)) ∙ here

-- between it and the one before nothing is closed
pub walk_before : (closed : Channel → Bool) (slot left count : ℕ) (first now : List Channel) (ch : ℕ) → Walked closed slot left count first now
    → in_mask left ch ≡ true → ((k : ℕ) → k < ch → in_mask left k ≡ false) → now ≡ first ++ filter closed (row slot (ch - 1))
walk_before closed slot left count first now ch w here lowest =
    let l : w.past < ch = w.later ch here in
    let n : ch ≤ most_channels = w.within ch here in
    w.told ∙ ap (λ r. first ++ r) (sym (row_past closed slot w.past (ch - 1) (omega (arith, l))
    (λ k a b. sym (w.kept k a (omega (arith, b, n))) ∙ lowest k (omega (arith, l, b)))))

pub walk_next : (closed : Channel → Bool) (slot left next count : ℕ) (first now new : List Channel) (ch : ℕ) (c : Channel)
    → Walked closed slot left count first now → in_mask left ch ≡ true → ((k : ℕ) → k < ch → in_mask left k ≡ false)
    → in_mask next ch ≡ false → ((k : ℕ) → k ≢ ch → in_mask next k ≡ in_mask left k) → c ≡ (slot, ch) → new ≡ now ++ c ∷ []
    → Walked closed slot next (count + 1) first new
walk_next closed slot left next count first now new ch c w here lowest gone others is e =
    let l : w.past < ch = w.later ch here in
    let s : ch - 1 + 1 ≡ ch = omega (arith, l) in
    let other : (k : ℕ) → in_mask next k ≡ true → k ≢ ch = λ k h f. (let z : true ≡ false = sym h ∙ ap (in_mask next) f ∙ gone in cc) in
    let was : (k : ℕ) → in_mask next k ≡ true → in_mask left k ≡ true = λ k h. sym (others k (other k h)) ∙ h in
    record {
      past = ch;
      far = omega (arith, w.far, l);
      few = w.within ch here;
      later = λ k h. elim (cases_lt k ch) [
        | inl m ↦ absurd (let z : true ≡ false = sym (was k h) ∙ lowest k m in cc)
        | inr m ↦ (let n : k ≢ ch = other k h in omega (arith, m, n))
      ];
      within = λ k h. w.within k (was k h);
      kept = λ k a b. others k (λ f. omega (arith, a, f)) ∙ w.kept k (omega (arith, a, l)) b;
      told = e ∙ ap (λ (x : Channel). now ++ x ∷ []) is ∙ ap (λ r. r ++ (slot, ch) ∷ []) (walk_before closed slot left count first now ch w here lowest)
          ∙ append_assoc first (filter closed (row slot (ch - 1))) ((slot, ch) ∷ [])
          ∙ ap (λ r. first ++ r) (sym (subst (λ j. filter closed (row slot j) ≡ filter closed (row slot (ch - 1)) ++ (slot, j) ∷ []) s
          (row_closed closed slot (ch - 1) (ap (λ j. closed (slot, j)) s ∙ walk_closed closed slot left count first now ch w here))));
    }

-- nothing is left
pub walk_end : (closed : Channel → Bool) (slot left count : ℕ) (first now : List Channel) → Walked closed slot left count first now
    → ((k : ℕ) → in_mask left k ≡ false) → now ≡ first ++ filter closed (row slot most_channels)
walk_end closed slot left count first now w none =
    w.told ∙ ap (λ r. first ++ r) (sym (row_past closed slot w.past most_channels w.few (λ k a b. sym (w.kept k a b) ∙ none k)))

pub walk_full : (closed : Channel → Bool) (slot left count : ℕ) (first now : List Channel) → Walked closed slot left count first now
    → most_channels ≤ count → now ≡ first ++ filter closed (row slot most_channels)
walk_full closed slot left count first now w full =
    let e : w.past ≡ most_channels = omega (arith, w.far, w.few, full) in
    w.told ∙ ap (λ j. first ++ filter closed (row slot j)) e

pub push_rows : (now new : List Channel) (closed : Channel → Bool) (slot : ℕ) → now ≡ filter closed (rows slot)
    → new ≡ now ++ filter closed (row (slot + 1) most_channels)
    → new ≡ filter closed (rows (slot + 1))
push_rows now new closed slot kept e = e ∙ ap (λ l. l ++ filter closed (row (slot + 1) most_channels)) kept ∙ sym
    (filter-append closed (rows slot) (row (slot + 1) most_channels)) ∙
    ap (filter closed) (sym (rows_more slot))
