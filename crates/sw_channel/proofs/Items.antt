-- Channels, items and lists: where their first mark stands, and that a text is written in one way.
use Rattle.std.proofs.Common.{◌≡◌, ℕ, not, List, [], ◌∷◌, ◌++◌, refl, sym, ap, subst, ◌∙◌, true}
use Rattle.std.specs.Prelude.{◌==◌}
use Rattle.std.proofs.lemmas.List.{append_cancel_right}
use Rattle.sw_base.specs.Text.{Lacks}
use Rattle.sw_base.proofs.Runs.{Lacks-none}
use Rattle.sw_channel.specs.Grammar.{WrittenChannel, plain, pair, ListItem, one, range, IsPadded, IsChannel, IsItem, AreJoined, IsBracketed}
use Rattle.sw_channel.specs.Grammar.{PositionItem, joined, single_each, IsPositionItem, IsItems, IsPositionItems, IsList, IsPositionList}
use Rattle.sw_channel.proofs.Marks.{IsMark, number_lacks, one_number, joined_none, joined_cut, joined_lacks}

bang : IsMark 33
bang = record { blank = refl; digit = refl }

ampersand : IsMark 38
ampersand = record { blank = refl; digit = refl }

colon : IsMark 58
colon = record { blank = refl; digit = refl }

comma : IsMark 44
comma = record { blank = refl; digit = refl }

-- ---- channels

channel_whole : (text : List ℕ) → Lacks 33 text → (w : WrittenChannel) → IsChannel text w → (n : List ℕ) × (w ≡ plain n) × IsPadded text n
channel_whole text h (plain n) p = (n, refl, p)
channel_whole text h (pair s c) p = absurd (joined_none h p)

channel_cut : (text left right : List ℕ) → Lacks 33 left → text ≡ left ++ 33 ∷ right → (w : WrittenChannel) → IsChannel text w → (s c : List ℕ)
    × (w ≡ pair s c)
    × IsPadded left s × IsPadded right c
channel_cut text left right h e (plain n) p = absurd (Lacks-none 33 left right (subst (Lacks 33) e (number_lacks 33 bang text n p)))
channel_cut text left right h e (pair s c) p = let r = joined_cut (λ t. number_lacks 33 bang t s) h e p in (s, c, refl, r.0, r.1)

-- a mark other than `!`
channel_lacks : (mark : ℕ) → IsMark mark → Lacks mark (33 ∷ []) → (text : List ℕ) (w : WrittenChannel) → IsChannel text w → Lacks mark text
channel_lacks mark m o text (plain n) p = number_lacks mark m text n p
channel_lacks mark m o text (pair s c) p = joined_lacks mark o.0 (λ t. number_lacks mark m t s) (λ t. number_lacks mark m t c) p

one_channel : (text : List ℕ) (w v : WrittenChannel) → IsChannel text w → IsChannel text v → w ≡ v
one_channel text (plain n) v p q =
    let r = channel_whole text (number_lacks 33 bang text n p) v q in
    ap plain (one_number text n r.0 p r.2) ∙ sym r.1
one_channel text (pair s c) v p q =
    let r = channel_cut text p.left p.right (number_lacks 33 bang p.left s p.first) p.whole v q in
    let x : s ≡ r.0 = one_number p.left s r.0 p.first r.3 in
    let y : c ≡ r.1 = one_number p.right c r.1 p.second r.4 in
    let z : v ≡ pair r.0 r.1 = r.2 in cc

no_colon : (text : List ℕ) (w : WrittenChannel) → IsChannel text w → Lacks 58 text
no_colon text w p = channel_lacks 58 colon (refl, tt) text w p

no_comma : (text : List ℕ) (w : WrittenChannel) → IsChannel text w → Lacks 44 text
no_comma text w p = channel_lacks 44 comma (refl, tt) text w p

no_ampersand : (text : List ℕ) (w : WrittenChannel) → IsChannel text w → Lacks 38 text
no_ampersand text w p = channel_lacks 38 ampersand (refl, tt) text w p

-- ---- parts that a mark joins

-- a part that has no such mark, and is written in one way
pub record IsJoinable {W : Type 0} (mark : ℕ) (Part : List ℕ → W → Type 0) : Type 0 where
  pub lacks : (text : List ℕ) (w : W) → Part text w → Lacks mark text
  pub one : (text : List ℕ) (w v : W) → Part text w → Part text v → w ≡ v

parts_last : {W : Type 0} (mark : ℕ) (Part : List ℕ → W → Type 0) (text : List ℕ) → Lacks mark text → (ws : List W) → AreJoined mark Part text ws
    → (w : W) × (ws ≡ w ∷ []) × Part text w
parts_last mark Part text h [] p = absurd p
parts_last mark Part text h (w ∷ []) p = (w, refl, p)
parts_last mark Part text h (w ∷ v ∷ ws) p = absurd (joined_none h p)

parts_cut : {W : Type 0} {mark : ℕ} {Part : List ℕ → W → Type 0} → IsJoinable mark Part → (text left right : List ℕ) → Lacks mark left
    → text ≡ left ++ mark ∷ right → (ws : List W) → AreJoined mark Part text ws
    → (w : W) × (vs : List W) × (ws ≡ w ∷ vs) × Part left w × AreJoined mark Part right vs
parts_cut j text left right h e [] p = absurd p
parts_cut {mark = mark} j text left right h e (w ∷ []) p = absurd (Lacks-none mark left right (subst (Lacks mark) e (j.lacks text w p)))
parts_cut j text left right h e (w ∷ v ∷ ws) p = let r = joined_cut (λ t. j.lacks t w) h e p in (w, v ∷ ws, refl, r.0, r.1)

pub parts_join : {W : Type 0} (mark : ℕ) (Part : List ℕ → W → Type 0) (text left right : List ℕ) (w : W) (ws : List W) → text ≡ left ++ mark ∷ right
    → Part left w → AreJoined mark Part right ws → AreJoined mark Part text (w ∷ ws)
parts_join mark Part text left right w [] e p q = absurd q
parts_join mark Part text left right w (v ∷ ws) e p q = record { left = left; right = right; first = p; second = q; whole = e }

pub one_joined : {W : Type 0} {mark : ℕ} {Part : List ℕ → W → Type 0} → IsJoinable mark Part → (text : List ℕ) (ws vs : List W) → AreJoined mark Part text ws
    → AreJoined mark Part text vs → ws ≡ vs
one_joined j text [] vs p q = absurd p
one_joined {W = W} {mark = mark} {Part = Part} j text (w ∷ []) vs p q =
    let r = parts_last mark Part text (j.lacks text w p) vs q in
    ap (λ (k : W). k ∷ []) (j.one text w r.0 p r.2) ∙ sym r.1
one_joined j text (w ∷ v ∷ ws) vs p q =
    let r = parts_cut j text p.left p.right (j.lacks p.left w p.first) p.whole vs q in
    let x : w ≡ r.0 = j.one p.left w r.0 p.first r.3 in
    let y : v ∷ ws ≡ r.1 = one_joined j p.right (v ∷ ws) r.1 p.second r.4 in
    let z : vs ≡ r.0 ∷ r.1 = r.2 in cc

-- another mark that no part has
parts_lack : {W : Type 0} (mark : ℕ) (Part : List ℕ → W → Type 0) (other : ℕ) → not (mark == other) ≡ true
    → ((text : List ℕ) (w : W) → Part text w → Lacks other text) → (text : List ℕ) (ws : List W) → AreJoined mark Part text ws → Lacks other text
parts_lack mark Part other n f text [] p = absurd p
parts_lack mark Part other n f text (w ∷ []) p = f text w p
parts_lack mark Part other n f text (w ∷ v ∷ ws) p =
    joined_lacks other n (λ t. f t w) (λ t. parts_lack mark Part other n f t (v ∷ ws)) p

-- ---- items

item_whole : (text : List ℕ) → Lacks 58 text → (i : ListItem) → IsItem text i → (w : WrittenChannel) × (i ≡ one w) × IsChannel text w
item_whole text h (one w) p = (w, refl, p)
item_whole text h (range v w) p = absurd (joined_none h p)

item_cut : (text left right : List ℕ) → Lacks 58 left → text ≡ left ++ 58 ∷ right → (i : ListItem) → IsItem text i
    → (v w : WrittenChannel) × (i ≡ range v w)
    × IsChannel left v × IsChannel right w
item_cut text left right h e (one w) p = absurd (Lacks-none 58 left right (subst (Lacks 58) e (no_colon text w p)))
item_cut text left right h e (range v w) p = let r = joined_cut (λ t. no_colon t v) h e p in (v, w, refl, r.0, r.1)

item_lacks : (text : List ℕ) (i : ListItem) → IsItem text i → Lacks 44 text
item_lacks text (one w) p = no_comma text w p
item_lacks text (range v w) p = joined_lacks 44 refl (λ t. no_comma t v) (λ t. no_comma t w) p

one_item : (text : List ℕ) (i j : ListItem) → IsItem text i → IsItem text j → i ≡ j
one_item text (one w) j p q =
    let r = item_whole text (no_colon text w p) j q in
    ap one (one_channel text w r.0 p r.2) ∙ sym r.1
one_item text (range v w) j p q =
    let r = item_cut text p.left p.right (no_colon p.left v p.first) p.whole j q in
    let x : v ≡ r.0 = one_channel p.left v r.0 p.first r.3 in
    let y : w ≡ r.1 = one_channel p.right w r.1 p.second r.4 in
    let z : j ≡ range r.0 r.1 = r.2 in cc

pub items : IsJoinable 44 IsItem
items = record { lacks = item_lacks; one = one_item }

-- ---- items of positions

pub channels_joined : IsJoinable 38 IsChannel
channels_joined = record { lacks = no_ampersand; one = one_channel }

joined_colon : (text : List ℕ) (ws : List WrittenChannel) → AreJoined 38 IsChannel text ws → Lacks 58 text
joined_colon text ws p = parts_lack 38 IsChannel 58 refl no_colon text ws p

position_item_lacks : (text : List ℕ) (i : PositionItem) → IsPositionItem text i → Lacks 44 text
position_item_lacks text (joined w ws) p = parts_lack 38 IsChannel 44 refl no_comma text (w ∷ ws) p
position_item_lacks text (single_each v w) p = item_lacks text (range v w) p

one_position_item : (text : List ℕ) (i j : PositionItem) → IsPositionItem text i → IsPositionItem text j → i ≡ j
one_position_item text (joined w ws) (joined v vs) p q =
    let e : w ∷ ws ≡ v ∷ vs = one_joined channels_joined text (w ∷ ws) (v ∷ vs) p q in cc
one_position_item text (joined w ws) (single_each x y) p q = absurd (joined_none (joined_colon text (w ∷ ws) p) q)
one_position_item text (single_each x y) (joined w ws) p q = absurd (joined_none (joined_colon text (w ∷ ws) q) p)
one_position_item text (single_each x y) (single_each v w) p q = let e : range x y ≡ range v w = one_item text (range x y) (range v w) p q in cc

pub position_items : IsJoinable 44 IsPositionItem
position_items = record { lacks = position_item_lacks; one = one_position_item }

-- ---- lists

-- a list's body is what stands between its brackets
pub list_body : {I : Type 0} (Body : List ℕ → I → Type 0) (body text : List ℕ) (is : I) → text ≡ 40 ∷ 64 ∷ (body ++ 41 ∷ []) → IsBracketed Body text is
    → Body body is
list_body Body body text is e p =
    let k : 40 ∷ 64 ∷ (p.0 ++ 41 ∷ []) ≡ 40 ∷ 64 ∷ (body ++ 41 ∷ []) = sym p.2 ∙ e in
    let m : p.0 ++ 41 ∷ [] ≡ body ++ 41 ∷ [] = cc in
    subst (λ (t : List ℕ). Body t is) (append_cancel_right p.0 body (41 ∷ []) m) p.1

one_bracketed : {I : Type 0} (Body : List ℕ → I → Type 0) → ((text : List ℕ) (i j : I) → Body text i → Body text j → i ≡ j) → (text : List ℕ) (i j : I)
    → IsBracketed Body text i → IsBracketed Body text j → i ≡ j
one_bracketed Body unique text i j p q = unique p.0 i j p.1 (list_body Body p.0 text j p.2 q)

pub one_list : (text : List ℕ) (is js : List ListItem) → IsList text is → IsList text js → is ≡ js
one_list text is js p q = one_bracketed IsItems (one_joined items) text is js p q

pub one_position_list : (text : List ℕ) (is js : List PositionItem) → IsPositionList text is → IsPositionList text js → is ≡ js
one_position_list text is js p q = one_bracketed IsPositionItems (one_joined position_items) text is js p q
