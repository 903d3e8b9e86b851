-- Lemmas on a list that is compared with the closed channels, by slot and channel.
use Rattle.std.proofs.Common.{◌≡◌, ℕ, ◌+◌, ◌-◌, ◌≤◌, ◌<◌, Bool, true, false, List, [], ◌∷◌, ◌++◌, length, take, not, ◌&&◌, eqb, slice_index_or, inl, inr}
use Rattle.std.proofs.Common.{refl, sym, ◌∙◌, ap, subst, arith, zero, suc, add-one, append_assoc}
use Rattle.std.specs.List.{filter}
use Rattle.std.proofs.lemmas.List.{append-nil, length-append, length-take-le}
use Rattle.std.proofs.lemmas.List.Elements.{filter-append}
use Rattle.std.proofs.lemmas.Bool.{cases_lt}
use Rattle.std.proofs.Math.Seq.{get_or-append_seam}
use Rattle.sw_base.specs.Limits.{most_slots, most_channels}
use Rattle.sw_base.specs.Layout.{Channel}
use Rattle.sw_card.specs.Mask.{in_mask}
use Rattle.sw_trigger.proofs.Same.{channel_decides}
use Rattle.sw_cage.specs.Channels.{row, rows}
use Rattle.sw_cage.proofs.ClosedListLemmas.{row_more, rows_more, Walked, walk_number, walk_before, walk_closed}

-- a list that grows begins with what it was
grown : (f g : ℕ → List Channel) → ((n : ℕ) → f (n + 1) ≡ f n ++ g n) → (m n : ℕ) → m ≤ n → (X : List Channel) × (f n ≡ f m ++ X)
grown f g more m zero h = let e : m ≡ 0 = omega arith in ([], ap f (sym e) ∙ sym (append-nil (f m)))
grown f g more m (suc n) h = elim (cases_lt n m) [
  | inl l ↦ (let e : m ≡ suc n = omega arith in ([], ap f (sym e) ∙ sym (append-nil (f m))))
  | inr k ↦ (let r = grown f g more m n k in (
    r.0 ++ g n,
    subst (λ j. f j ≡ f n ++ g n) (add-one n) (more n) ∙ ap (λ l. l ++ g n) r.1 ∙ append_assoc (f m) r.0
        (g n),
  ))
]

-- all channels: those before this one, it, and the rest
around : (slot ch : ℕ) → slot < most_slots → ch < most_channels → (X : List Channel)
    × (rows most_slots ≡ (rows slot ++ row (slot + 1) ch) ++ (slot + 1, ch + 1) ∷ X)
around slot ch h k =
    let a = grown rows (λ n. row (n + 1) most_channels) rows_more (slot + 1) most_slots (omega arith) in
    let b = grown (row (slot + 1)) (λ n. (slot + 1, n + 1) ∷ []) (row_more (slot + 1)) (ch + 1) most_channels (omega arith) in (
      b.0 ++ a.0,
      a.1 ∙ ap (λ l. l ++ a.0)
          (rows_more slot
          ∙ ap (λ l. rows slot ++ l) (b.1 ∙ ap (λ l. l ++ b.0) (row_more (slot + 1) ch) ∙ append_assoc (row (slot + 1) ch) ((slot + 1, ch + 1) ∷ []) b.0)
          ∙ sym (append_assoc (rows slot) (row (slot + 1) ch) ((slot + 1, ch + 1) ∷ b.0)))
          ∙ append_assoc (rows slot ++ row (slot + 1) ch) ((slot + 1, ch + 1) ∷ b.0) a.0,
    )

filter_first : (closed : Channel → Bool) (c : Channel) (l : List Channel) → closed c ≡ true → filter closed (c ∷ l) ≡ c ∷ filter closed l
filter_first closed c l h = rw h refl

-- the list of the closed channels has this one where those before it end
next_is : (closed : Channel → Bool) (slot ch past : ℕ) (chans : List Channel) (d : Channel) → slot < most_slots → ch < most_channels → past ≤ length chans
    → take past chans ≡ filter closed (rows slot) ++ filter closed (row (slot + 1) ch) → closed (slot + 1, ch + 1) ≡ true
    → chans ≡ filter closed (rows most_slots)
    → (past < length chans) × (slice_index_or chans past d ≡ (slot + 1, ch + 1))
next_is closed slot ch past chans d h k within kept on is =
    let w = around slot ch h k in
    let front : filter closed (rows slot ++ row (slot + 1) ch) ≡ take past chans = filter-append closed (rows slot) (row (slot + 1) ch) ∙ sym kept in
    let e : chans ≡ take past chans ++ (slot + 1, ch + 1) ∷ filter closed w.0 =
    is ∙ ap (filter closed) w.1 ∙ filter-append closed (rows slot ++ row (slot + 1) ch) ((slot + 1, ch + 1) ∷ w.0)
    ∙ ap (λ l. l ++ filter closed ((slot + 1, ch + 1) ∷ w.0)) front ∙ ap (λ l. take past chans ++ l) (filter_first closed (slot + 1, ch + 1) w.0 on) in
    let n : length (take past chans) ≡ past = length-take-le past chans within in
    let all : length chans ≡ length (take past chans) + length ((slot + 1, ch + 1) ∷ filter closed w.0) =
    ap length e ∙ length-append (take past chans) ((slot + 1, ch + 1) ∷ filter closed w.0) in (
      omega (arith, n, all),
      ap (λ l. slice_index_or l past d) e ∙ ap (λ (j : ℕ). slice_index_or (take past chans ++ (slot + 1, ch + 1) ∷ filter closed w.0) j d)
          (sym n) ∙ get_or-append_seam (take past chans) (slot + 1, ch + 1) (filter closed w.0) d,
    )

-- the lowest one that is left is next in the list
pub next_walked : (closed : Channel → Bool) (slot left count past : ℕ) (chans : List Channel) (ch : ℕ) (d : Channel) → slot < most_slots → past ≤ length chans
    → Walked closed (slot + 1) left count (filter closed (rows slot)) (take past chans) → in_mask left ch ≡ true
    → ((k : ℕ) → k < ch → in_mask left k ≡ false) → chans ≡ filter closed (rows most_slots)
    → (past < length chans) × (slice_index_or chans past d ≡ (slot + 1, ch))
next_walked closed slot left count past chans ch d h within w here lowest is =
    let n = walk_number closed (slot + 1) left count (filter closed (rows slot)) (take past chans) ch w here in
    let s : ch - 1 + 1 ≡ ch = omega (arith, n.0) in
    subst (λ (j : ℕ). (past < length chans) × (slice_index_or chans past d ≡ (slot + 1, j))) s
    (next_is closed slot (ch - 1) past chans d h (omega (arith, n.0, n.1)) within
    (walk_before closed (slot + 1) left count (filter closed (rows slot)) (take past chans) ch w here lowest)
    (ap (λ (j : ℕ). closed (slot + 1, j)) s ∙ walk_closed closed (slot + 1) left count (filter closed (rows slot)) (take past chans) ch w here) is)

-- what `a != b` tells of channels
pub unequal : (r : Bool) (a b : Channel) → r ≡ not (eqb a.0 b.0 && eqb a.1 b.1) → r ≡ true → a ≡ b → ⊥
unequal r a b e t s = let y : (eqb a.0 b.0 && eqb a.1 b.1) ≡ true = (channel_decides a b).1 s in absurd (cc)

not_other : (b : Bool) → not b ≡ false → b ≡ true
not_other true h = refl
not_other false h = sym h

pub equal : (r : Bool) (a b : Channel) → r ≡ not (eqb a.0 b.0 && eqb a.1 b.1) → r ≡ false → a ≡ b
equal r a b e f = (channel_decides a b).0 (not_other (eqb a.0 b.0 && eqb a.1 b.1) (sym e ∙ f))
