-- Channels joined by `&` at the front of a text, and the item that they are, or that a range is.
use Rattle.std.proofs.Common.{◌≡◌, ℕ, true, false, List, [], ◌∷◌, ◌++◌, refl, sym, ap, subst, ◌∙◌, append_assoc, ◌⊎◌, inl, inr}
use Rattle.std.specs.Prelude.{◌==◌, Option, Result, Ok}
use Rattle.sw_base.specs.Layout.{Channel}
use Rattle.sw_base.specs.Text.{StartsOff}
use Rattle.sw_base.specs.declared.error.ScpiError.{ScpiError}
use Rattle.sw_channel.specs.declared.entry.Entry.{Entry}
use Rattle.sw_channel.specs.Grammar.{WrittenChannel, PositionItem, joined, single_each, IsMarkedPair, IsChannel, AreJoined, IsPositionItem}
use Rattle.sw_channel.specs.Meaning.{channel_of}
use Rattle.sw_channel.specs.Positions.{Position}
use Rattle.sw_channel.specs.PositionMeaning.{and_next}
use Rattle.sw_channel.specs.Seen.{ends_channel, ends_item, EndsBy, LeadsPart, LeadsNone, MeansChannel, MeansJoined, MeansEntry}
use Rattle.sw_channel.proofs.Parts.{ends_wider, no_end, item_wider}
use Rattle.sw_channel.proofs.PositionJudging.{after_more}

abbrev Channel-leads : List ℕ → Option Channel → List ℕ → Type 0
Channel-leads = LeadsPart IsChannel ends_channel MeansChannel

-- ---- what joined channels begin with

-- the first of joined channels, and what stands behind it
record Begins (other tail : List ℕ) (vs : List WrittenChannel) : Type 0 where
  first : WrittenChannel
  others : List WrittenChannel
  front : List ℕ
  behind : List ℕ
  part : IsChannel front first
  ends : EndsBy ends_channel behind
  whole : other ++ tail ≡ front ++ behind
  onward : (behind ≡ tail) ⊎ ((right : List ℕ) × AreJoined 38 IsChannel right others × (behind ≡ 38 ∷ (right ++ tail)))

begins : (other tail : List ℕ) (vs : List WrittenChannel) → AreJoined 38 IsChannel other vs → EndsBy ends_item tail → Begins other tail vs
begins other tail [] p e = absurd p
begins other tail (v ∷ []) p e = record {
  first = v;
  others = [];
  front = other;
  behind = tail;
  part = p;
  ends = ends_wider ends_channel ends_item item_wider tail e;
  whole = refl;
  onward = inl refl;
}
begins other tail (v ∷ w ∷ vs) p e = record {
  first = v;
  others = w ∷ vs;
  front = p.left;
  behind = 38 ∷ (p.right ++ tail);
  part = p.first;
  ends = refl;
  whole = ap (λ (t : List ℕ). t ++ tail) p.whole ∙ append_assoc p.left (38 ∷ p.right) tail;
  onward = inr (p.right, p.second, refl);
}

-- ---- channels read one after another

-- The channels read so far, their position or refusal, and what is left; whatever joined channels stand there go on so.
pub record Joins (count : ℕ) (text : List ℕ) (position : Result Position ScpiError) (rest : List ℕ) : Type 0 where
  pub front : List ℕ
  pub written : List WrittenChannel
  pub part : AreJoined 38 IsChannel front written
  pub means : MeansJoined count written position
  pub whole : text ≡ front ++ rest
  pub only : (other tail : List ℕ) (vs : List WrittenChannel) → AreJoined 38 IsChannel other vs → EndsBy ends_item tail → text ≡ other ++ tail
      → (tail ≡ rest) ⊎ ((right : List ℕ) × (ws : List WrittenChannel) × AreJoined 38 IsChannel right ws × (rest ≡ 38 ∷ (right ++ tail)))

-- what joined channels that begin here leave behind their first
behind_is : (text rest : List ℕ) (chan : Option Channel) → Channel-leads text chan rest → (other tail : List ℕ) (vs : List WrittenChannel)
    → text ≡ other ++ tail → (b : Begins other tail vs) → b.behind ≡ rest
behind_is text rest chan l other tail vs e b = l.only b.front b.behind b.first b.part b.ends (e ∙ b.whole)

goes_on : (text rest : List ℕ) (chan : Option Channel) → Channel-leads text chan rest → (other tail : List ℕ) (vs : List WrittenChannel)
    → AreJoined 38 IsChannel other vs → EndsBy ends_item tail → text ≡ other ++ tail
    → (tail ≡ rest) ⊎ ((right : List ℕ) × (ws : List WrittenChannel) × AreJoined 38 IsChannel right ws × (rest ≡ 38 ∷ (right ++ tail)))
goes_on text rest chan l other tail vs p e w =
    let b = begins other tail vs p e in
    let k = behind_is text rest chan l other tail vs w b in
    elim b.onward [
      | inl x ↦ inl (sym x ∙ k)
      | inr x ↦ inr (x.0, b.others, x.1, sym k ∙ x.2)
    ]

pub joins_first : (count : ℕ) (text rest : List ℕ) (chan : Option Channel) (position : Result Position ScpiError) → Channel-leads text chan rest
    → position ≡ and_next count (Ok []) chan → Joins count text position rest
joins_first count text rest chan position l e = record {
  front = l.front;
  written = l.written ∷ [];
  part = l.part;
  means = ap (λ (c : Option Channel). and_next count (Ok []) c) (sym l.means) ∙ sym e;
  whole = l.whole;
  only = λ other tail vs p f w. goes_on text rest chan l other tail vs p f w;
}

joined_more : (left right : List ℕ) (ws : List WrittenChannel) (w : WrittenChannel) → AreJoined 38 IsChannel left ws → IsChannel right w
    → AreJoined 38 IsChannel (left ++ 38 ∷ right) (ws ++ w ∷ [])
joined_more left right [] w p q = absurd p
joined_more left right (v ∷ []) w p q = record { left = left; right = right; first = p; second = q; whole = refl }
joined_more left right (v ∷ u ∷ ws) w p q = record {
  left = p.left;
  right = p.right ++ 38 ∷ right;
  first = p.first;
  second = joined_more p.right right (u ∷ ws) w p.second q;
  whole = ap (λ (t : List ℕ). t ++ 38 ∷ right) p.whole ∙ append_assoc p.left (38 ∷ p.right) (38 ∷ right);
}

pub joins_more : (count : ℕ) (text rest more after : List ℕ) (position next : Result Position ScpiError) (chan : Option Channel)
    → Joins count text position rest → rest ≡ 38 ∷ more → Channel-leads more chan after → next ≡ and_next count position chan → Joins count text next after
joins_more count text rest more after position next chan j r l n = record {
  front = j.front ++ 38 ∷ l.front;
  written = j.written ++ l.written ∷ [];
  part = joined_more j.front l.front j.written l.written j.part l.part;
  means = after_more count (Ok []) j.written l.written ∙ ap (λ (p : Result Position ScpiError). and_next count p (channel_of l.written)) j.means
      ∙ ap (λ (c : Option Channel). and_next count position c) (sym l.means) ∙ sym n;
  whole = j.whole ∙ ap (λ (t : List ℕ). j.front ++ t) (r ∙ ap (λ (t : List ℕ). 38 ∷ t) l.whole) ∙ sym (append_assoc j.front (38 ∷ l.front) after);
  only = λ other tail vs p e w.
      elim (j.only other tail vs p e w) [
        | inl x ↦ absurd (no_end ends_item 38 tail more refl e (x ∙ r))
        | inr x ↦
            let k : 38 ∷ more ≡ 38 ∷ (x.0 ++ tail) = sym r ∙ x.3 in
            let m : more ≡ x.0 ++ tail = cc in
            goes_on more after chan l x.0 tail x.1 x.2 e m
      ];
}

-- no `&` follows
pub joins_over : (count : ℕ) (text rest : List ℕ) (position : Result Position ScpiError) → Joins count text position rest → StartsOff (λ b. b == 38) rest
    → LeadsPart (AreJoined 38 IsChannel) ends_item (MeansJoined count) text position rest
joins_over count text rest position j o = record {
  front = j.front;
  written = j.written;
  part = j.part;
  means = j.means;
  whole = j.whole;
  only = λ other tail vs p e w.
      elim (j.only other tail vs p e w) [
        | inl x ↦ x
        | inr x ↦
            let b : (38 == 38) ≡ false = subst (λ (y : List ℕ). StartsOff (λ b. b == 38) y) x.3 o in
            absurd (let z : true ≡ false = b in cc)
      ];
}

-- an `&` follows, and no channel after it
pub joins_none : (count : ℕ) (text rest more : List ℕ) (position : Result Position ScpiError) → Joins count text position rest → rest ≡ 38 ∷ more
    → LeadsNone IsChannel ends_channel more → LeadsNone (AreJoined 38 IsChannel) ends_item text
joins_none count text rest more position j r n = λ other tail vs p e w.
    elim (j.only other tail vs p e w) [
      | inl x ↦ no_end ends_item 38 tail more refl e (x ∙ r)
      | inr x ↦
          let k : 38 ∷ more ≡ 38 ∷ (x.0 ++ tail) = sym r ∙ x.3 in
          let m : more ≡ x.0 ++ tail = cc in
          let b = begins x.0 tail x.1 x.2 e in
          n b.front b.behind b.first b.part b.ends (m ∙ b.whole)
    ]

-- ---- items

-- where a range stands, its first end is a channel that `:` follows
range_behind : (text rest : List ℕ) (chan : Option Channel) → Channel-leads text chan rest → (other tail : List ℕ) (v w : WrittenChannel)
    → text ≡ other ++ tail → (p : IsMarkedPair 58 (λ t. IsChannel t v) (λ t. IsChannel t w) other) → 58 ∷ (p.right ++ tail) ≡ rest
range_behind text rest chan l other tail v w e p =
    l.only p.left (58 ∷ (p.right ++ tail)) v p.first refl (e ∙ ap (λ (t : List ℕ). t ++ tail) p.whole ∙ append_assoc p.left (58 ∷ p.right) tail)

pub item_none : (text : List ℕ) → LeadsNone IsChannel ends_channel text → LeadsNone IsPositionItem ends_item text
item_none text n other tail (joined w ws) p e h =
    let b = begins other tail (w ∷ ws) p e in
    n b.front b.behind b.first b.part b.ends (h ∙ b.whole)
item_none text n other tail (single_each v w) p e h =
    n p.left (58 ∷ (p.right ++ tail)) v p.first refl (h ∙ ap (λ (t : List ℕ). t ++ tail) p.whole ∙ append_assoc p.left (58 ∷ p.right) tail)

no_range : (text rest : List ℕ) (chan : Option Channel) → Channel-leads text chan rest → StartsOff (λ b. b == 58) rest → (other tail : List ℕ)
    → (v w : WrittenChannel) → IsMarkedPair 58 (λ t. IsChannel t v) (λ t. IsChannel t w) other → text ≡ other ++ tail → ⊥
no_range text rest chan l o other tail v w p h =
    let k = range_behind text rest chan l other tail v w h p in
    let b : (58 == 58) ≡ false = subst (λ (y : List ℕ). StartsOff (λ b. b == 58) y) (sym k) o in
    let z : true ≡ false = b in cc

-- no `:` follows the first channel, and the channels that are joined to it are broken off
pub joined_none : (text rest : List ℕ) (chan : Option Channel) → Channel-leads text chan rest → StartsOff (λ b. b == 58) rest
    → LeadsNone (AreJoined 38 IsChannel) ends_item text → LeadsNone IsPositionItem ends_item text
joined_none text rest chan l o n other tail (joined w ws) p e h = n other tail (w ∷ ws) p e h
joined_none text rest chan l o n other tail (single_each v w) p e h = no_range text rest chan l o other tail v w p h

some_joined : {A : Type 0} (front : List ℕ) (ws : List WrittenChannel) → AreJoined 38 IsChannel front ws
    → ((w : WrittenChannel) (vs : List WrittenChannel) → ws ≡ w ∷ vs → A) → A
some_joined front [] p f = absurd p
some_joined front (w ∷ ws) p f = f w ws refl

pub joined_leads : (count : ℕ) (text rest after : List ℕ) (chan : Option Channel) (position : Result Position ScpiError) (entry : Result Entry ScpiError)
    → Channel-leads text chan rest → StartsOff (λ b. b == 58) rest
    → LeadsPart (AreJoined 38 IsChannel) ends_item (MeansJoined count) text position after
    → ((w : WrittenChannel) (ws : List WrittenChannel) → MeansJoined count (w ∷ ws) position → MeansEntry count (joined w ws) entry)
    → LeadsPart IsPositionItem ends_item (MeansEntry count) text entry after
joined_leads count text rest after chan position entry l o j g = some_joined j.front j.written j.part (λ w ws is. record {
  front = j.front;
  written = joined w ws;
  part = subst (λ (x : List WrittenChannel). AreJoined 38 IsChannel j.front x) is j.part;
  means = g w ws (subst (λ (x : List WrittenChannel). MeansJoined count x position) is j.means);
  whole = j.whole;
  only = only;
}) where
  only : (other tail : List ℕ) (i : PositionItem) → IsPositionItem other i → EndsBy ends_item tail → text ≡ other ++ tail → tail ≡ after
  only other tail (joined w ws) p e h = j.only other tail (w ∷ ws) p e h
  only other tail (single_each v w) p e h = absurd (no_range text rest chan l o other tail v w p h)

-- a `:` follows the first channel
not_joined : (text rest more : List ℕ) (chan : Option Channel) → Channel-leads text chan rest → rest ≡ 58 ∷ more → (other tail : List ℕ)
    → (vs : List WrittenChannel) → AreJoined 38 IsChannel other vs → EndsBy ends_item tail → text ≡ other ++ tail → ⊥
not_joined text rest more chan l r other tail vs p e h =
    elim (goes_on text rest chan l other tail vs p e h) [
      | inl x ↦ no_end ends_item 58 tail more refl e (x ∙ r)
      | inr x ↦ let k : 38 ∷ (x.0 ++ tail) ≡ 58 ∷ more = sym x.3 ∙ r in cc
    ]

second_of : (text rest more : List ℕ) (chan : Option Channel) → Channel-leads text chan rest → rest ≡ 58 ∷ more → (other tail : List ℕ)
    → (v w : WrittenChannel) → (p : IsMarkedPair 58 (λ t. IsChannel t v) (λ t. IsChannel t w) other) → text ≡ other ++ tail → more ≡ p.right ++ tail
second_of text rest more chan l r other tail v w p h =
    let k : 58 ∷ (p.right ++ tail) ≡ 58 ∷ more = range_behind text rest chan l other tail v w h p ∙ r in
    let m : more ≡ p.right ++ tail = cc in m

pub range_none : (text rest more : List ℕ) (chan : Option Channel) → Channel-leads text chan rest → rest ≡ 58 ∷ more → LeadsNone IsChannel ends_channel more
    → LeadsNone IsPositionItem ends_item text
range_none text rest more chan l r n other tail (joined w ws) p e h = not_joined text rest more chan l r other tail (w ∷ ws) p e h
range_none text rest more chan l r n other tail (single_each v w) p e h =
    n p.right tail w p.second (ends_wider ends_channel ends_item item_wider tail e) (second_of text rest more chan l r other tail v w p h)

pub range_leads : (count : ℕ) (text rest more after : List ℕ) (chan last : Option Channel) (entry : Result Entry ScpiError) → Channel-leads text chan rest
    → rest ≡ 58 ∷ more → Channel-leads more last after
    → ((v w : WrittenChannel) → MeansChannel v chan → MeansChannel w last → MeansEntry count (single_each v w) entry)
    → LeadsPart IsPositionItem ends_item (MeansEntry count) text entry after
range_leads count text rest more after chan last entry l r m g = record {
  front = l.front ++ 58 ∷ m.front;
  written = single_each l.written m.written;
  part = record { left = l.front; right = m.front; first = l.part; second = m.part; whole = refl };
  means = g l.written m.written l.means m.means;
  whole = l.whole ∙ ap (λ (t : List ℕ). l.front ++ t) (r ∙ ap (λ (t : List ℕ). 58 ∷ t) m.whole) ∙ sym (append_assoc l.front (58 ∷ m.front) after);
  only = only;
} where
  only : (other tail : List ℕ) (i : PositionItem) → IsPositionItem other i → EndsBy ends_item tail → text ≡ other ++ tail → tail ≡ after
  only other tail (joined w ws) p e h = absurd (not_joined text rest more chan l r other tail (w ∷ ws) p e h)
  only other tail (single_each v w) p e h =
      m.only p.right tail w p.second (ends_wider ends_channel ends_item item_wider tail e) (second_of text rest more chan l r other tail v w p h)
