-- Lemmas on the index of claimed groups.
use Rattle.std.proofs.Common.{◌≡◌, ◌≢◌, ℕ, ◌+◌, ◌≤◌, ◌<◌, Bool, true, false, List, [], ◌∷◌, length, Option, None, Some, slice_index_or, slice_set, ◌⊎◌, inl}
use Rattle.std.proofs.Common.{inr, refl, sym, ◌∙◌, ap, subst, zero, suc, replicate, take, map, if◌then◌else◌, arith}
use Rattle.std.proofs.lemmas.List.{get_or-set_same, get_or-set_other, take_all}
use Rattle.std.proofs.lemmas.Bool.{cases_eq, or_cases, or_left, or_right}
use Rattle.std.proofs.Math.ListN.{get_or-map}
use Rattle.sw_base.specs.Layout.{Channel, Layout, group_of, IsClash}
use Rattle.sw_verify.specs.Channels.{is_among}
use Rattle.sw_cage.specs.Close.{closed_with, HasClash}
use Rattle.sw_cage.specs.Claims.{Index, claim_at, IndexesClaims, closed_claim}
use Rattle.sw_cage.proofs.ChannelCallLemmas.{chan_cases, in_more, in_take, in_at, in_one, in_yes}

pub holds_same : (layout : Layout) (P Q : Channel → Type 0) (index : Index) → ((c : Channel) → P c → Q c) → ((c : Channel) → Q c → P c)
    → IndexesClaims layout P index
    → IndexesClaims layout Q index
holds_same layout P Q index to back h = record {
  told = λ c q n. h.told c (back c q) n;
  held = λ group c e. (to c (h.held group c e).0, (h.held group c e).1);
}

none_claimed : (n group : ℕ) → claim_at (replicate n None) group ≡ None
none_claimed zero group = refl
none_claimed (suc n) zero = refl
none_claimed (suc n) (suc group) = none_claimed n group

pub holds_none : (layout : Layout) (P : Channel → Type 0) (index : Index) (n : ℕ) → index ≡ replicate n None → ((c : Channel) → P c → ⊥)
    → IndexesClaims layout P index
holds_none layout P index n e none = record {
  told = λ c p m. absurd (none c p);
  held = λ group c h. absurd (let k : None ≡ Some c = sym (none_claimed n group) ∙ ap (λ (i : Index). claim_at i group) (sym e) ∙ h in cc);
}

more_told : (layout : Layout) (P : Channel → Type 0) (index : Index) (group : ℕ) (c : Channel) → IndexesClaims layout P index → group ≡ group_of layout c
    → (group ≢ 0 → (other : Channel) → claim_at index group ≡ Some other → other ≡ c) → group < length index → (d : Channel) → (P d) ⊎ (d ≡ c)
    → group_of layout d ≢ 0
    → claim_at (slice_set index group (Some c)) (group_of layout d) ≡ Some d
more_told layout P index group c h g free room d (inr e) n = ap (λ (x : Channel). claim_at (slice_set index group (Some c)) (group_of layout x)) e ∙ ap
    (claim_at (slice_set index group (Some c))) (sym g) ∙ get_or-set_same index group (Some c) None room ∙ ap (λ (x : Channel). Some x) (sym e)
more_told layout P index group c h g free room d (inl p) n = elim (cases_eq (group_of layout d) group) [
  | inl same ↦ let e : d ≡ c = free (λ z. n (same ∙ z)) d (ap (claim_at index) (sym same) ∙ h.told d p n) in
      ap (claim_at (slice_set index group (Some c))) same ∙ get_or-set_same index group (Some c) None room ∙ ap (λ (x : Channel). Some x) (sym e)
  | inr other ↦ get_or-set_other index group (group_of layout d) (Some c) None other ∙ h.told d p n
]

more_held : (layout : Layout) (P : Channel → Type 0) (index : Index) (group : ℕ) (c : Channel) → IndexesClaims layout P index → group ≡ group_of layout c
    → group < length index → (at : ℕ) (d : Channel) → claim_at (slice_set index group (Some c)) at ≡ Some d → ((P d) ⊎ (d ≡ c)) × (group_of layout d ≡ at)
more_held layout P index group c h g room at d e = elim (cases_eq at group) [
  | inl same ↦ let k : d ≡ c = (let l : Some c ≡ Some d = sym (get_or-set_same index group (Some c) None room) ∙ ap (claim_at (slice_set index group (Some c)))
      (sym same) ∙ e in cc) in (inr k, ap (group_of layout) k ∙ sym g ∙ sym same)
  | inr other ↦ let k : (P d) × (group_of layout d ≡ at) = h.held at d (sym (get_or-set_other index group at (Some c) None other) ∙ e) in (inl k.0, k.1)
]

-- one more channel claims its group
pub holds_more : (layout : Layout) (P : Channel → Type 0) (index new : Index) (group : ℕ) (c : Channel) → IndexesClaims layout P index
    → group ≡ group_of layout c
    → (group ≢ 0 → (other : Channel) → claim_at index group ≡ Some other → other ≡ c) → (group ≢ 0 → new ≡ slice_set index group (Some c))
    → (group ≢ 0 → group < length index) → (group ≡ 0 → new ≡ index) → IndexesClaims layout (λ d. (P d) ⊎ (d ≡ c)) new
holds_more layout P index new group c h g free claimed room groupless = elim (cases_eq group 0) [
  | inl z ↦ subst (IndexesClaims layout (λ d. (P d) ⊎ (d ≡ c))) (sym (groupless z)) (record {
    told = λ d p n. elim p [ inl q ↦ h.told d q n | inr e ↦ absurd (n (ap (group_of layout) e ∙ sym g ∙ z)) ];
    held = λ at d e. (inl (h.held at d e).0, (h.held at d e).1);
  })
  | inr n ↦ subst (IndexesClaims layout (λ d. (P d) ⊎ (d ≡ c))) (sym (claimed n)) (record {
    told = more_told layout P index group c h g free (room n);
    held = more_held layout P index group c h g (room n);
  })
]

-- another channel of the set has the group
pub claim_clash : (layout : Layout) (P : Channel → Type 0) (index : Index) (group : ℕ) (c : Channel) → IndexesClaims layout P index → group ≡ group_of layout c
    → group ≢ 0 → (other : Channel) → claim_at index group ≡ Some other → other ≢ c → (P other) × IsClash layout other c
claim_clash layout P index group c h g n other e ne =
    let k : (P other) × (group_of layout other ≡ group) = h.held group other e in
    (k.0, record { other = ne; grouped = λ z. n (sym k.1 ∙ z); same = k.1 ∙ g })

-- no two of the set clash
pub holds_apart : (layout : Layout) (P : Channel → Type 0) (index : Index) → IndexesClaims layout P index → (one other : Channel) → P one → P other
    → IsClash layout one other → ⊥
holds_apart layout P index h one other p q clash =
    let a : claim_at index (group_of layout one) ≡ Some one = h.told one p clash.grouped in
    let b : claim_at index (group_of layout one) ≡ Some other = ap (claim_at index) clash.same ∙ h.told other q (λ z. clash.grouped (clash.same ∙ z)) in
    let e : Some one ≡ Some other = sym a ∙ b in
    clash.other (cc)

-- the claims of closed channels alone

kept_at : (closed : Channel → Bool) (index : Index) (group : ℕ)
    → claim_at (map (closed_claim closed) index) group ≡ closed_claim closed (claim_at index group)
kept_at closed index group = get_or-map (closed_claim closed) index group None

kept_some : (closed : Channel → Bool) (c : Channel) → closed c ≡ true → closed_claim closed (Some c) ≡ Some c
kept_some closed c h = rw h refl

if_some : (b : Bool) (d c : Channel) → (if b then Some d else None) ≡ Some c → (b ≡ true) × (d ≡ c)
if_some true d c h = (refl, let k : d ≡ c = cc in k)
if_some false d c h = absurd (cc)

kept_held : (closed : Channel → Bool) (o : Option Channel) (c : Channel) → closed_claim closed o ≡ Some c → (o ≡ Some c) × (closed c ≡ true)
kept_held closed None c h = absurd (cc)
kept_held closed (Some d) c h = let k = if_some (closed d) d c h in (ap (λ (x : Channel). Some x) k.1, ap closed (sym k.1) ∙ k.0)

-- what is closed now is of the set, and in its group
pub index_kept : (old new : Layout) (P : Channel → Type 0) (closed : Channel → Bool) (index : Index) → ((c : Channel) → closed c ≡ true → P c)
    → ((c : Channel) → closed c ≡ true → group_of new c ≡ group_of old c) → IndexesClaims old P index
    → IndexesClaims new (λ c. closed c ≡ true) (map (closed_claim closed) index)
index_kept old new P closed index within same h = record {
  told = λ c k n. kept_at closed index (group_of new c) ∙ ap (λ g. closed_claim closed (claim_at index g)) (same c k)
      ∙ ap (closed_claim closed) (h.told c (within c k) (λ z. n (same c k ∙ z))) ∙ kept_some closed c k;
  held = λ group c e.
      let k = kept_held closed (claim_at index group) c (sym (kept_at closed index group) ∙ e) in
      (k.1, same c k.1 ∙ (h.held group c k.0).1);
}

-- the same channels are closed, and in their groups
pub index_same : (old new : Layout) (P Q : Channel → Type 0) (index : Index) → ((c : Channel) → P c → Q c) → ((c : Channel) → Q c → P c)
    → ((c : Channel) → P c → group_of new c ≡ group_of old c) → IndexesClaims old P index → IndexesClaims new Q index
index_same old new P Q index to back same h = record {
  told = λ c q n. let e = same c (back c q) in ap (claim_at index) e ∙ h.told c (back c q) (λ z. n (e ∙ z));
  held = λ group c e. let k = h.held group c e in (to c k.0, same c k.0 ∙ k.1);
}

apart_free : (layout : Layout) (closed : Channel → Bool) (index : Index) (group : ℕ) (c : Channel)
    → IndexesClaims layout (λ d. closed d ≡ true) index → group ≡ group_of layout c
    → ((d : Channel) → closed d ≡ true → IsClash layout c d → ⊥) → group ≢ 0 → (other : Channel)
    → claim_at index group ≡ Some other → other ≡ c
apart_free layout closed index group c h g apart n other e = elim (chan_cases c other) [
  | inl s ↦ s
  | inr d ↦ absurd (let k = h.held group other e in
      apart other k.0 (record { other = λ f. d (sym f); grouped = λ z. n (g ∙ z); same = sym g ∙ sym k.1 }))
]

-- a channel that clashes with none is closed too
pub index_held : (layout : Layout) (closed : Channel → Bool) (index : Index) (group : ℕ) (c : Channel)
    → IndexesClaims layout (λ d. closed d ≡ true) index → group ≡ group_of layout c → group < length index
    → ((d : Channel) → closed d ≡ true → IsClash layout c d → ⊥)
    → IndexesClaims layout (λ d. (closed d ≡ true) ⊎ (d ≡ c)) (slice_set index group (Some c))
index_held layout closed index group c h g room apart = record {
  told = more_told layout (λ d. closed d ≡ true) index group c h g (apart_free layout closed index group c h g apart) room;
  held = more_held layout (λ d. closed d ≡ true) index group c h g room;
}

-- a closed channel is opened
pub index_released : (layout : Layout) (closed now : Channel → Bool) (index : Index) (group : ℕ) (c : Channel)
    → IndexesClaims layout (λ d. closed d ≡ true) index → group ≡ group_of layout c → group < length index → closed c ≡ true
    → ((d : Channel) → now d ≡ true → (closed d ≡ true) × (d ≢ c)) → ((d : Channel) → closed d ≡ true → d ≢ c → now d ≡ true)
    → IndexesClaims layout (λ d. now d ≡ true) (slice_set index group None)
index_released layout closed now index group c h g room k was back = record {
  told = λ d l n. elim (cases_eq (group_of layout d) group) [
    | inl same ↦ absurd (
        let one : claim_at index group ≡ Some c = ap (claim_at index) g ∙ h.told c k (λ z. n (same ∙ g ∙ z)) in
        let other : claim_at index group ≡ Some d = ap (claim_at index) (sym same) ∙ h.told d (was d l).0 n in
        let e : Some d ≡ Some c = sym other ∙ one in
        (was d l).1 (cc))
    | inr other ↦ get_or-set_other index group (group_of layout d) None None other ∙ h.told d (was d l).0 n
  ];
  held = λ at d e. elim (cases_eq at group) [
    | inl same ↦ absurd (let f : None ≡ Some d = sym (get_or-set_same index group None None room) ∙ ap (claim_at (slice_set index group None)) (sym same) ∙ e
        in cc)
    | inr other ↦ let l = h.held at d (sym (get_or-set_other index group at None None other) ∙ e) in
        (back d l.0 (λ f. other (sym l.1 ∙ ap (group_of layout) f ∙ sym g)), l.1)
  ];
}

-- closed channels and listed ones

with_step : (closed : Channel → Bool) (chans : List Channel) (i : ℕ) (c d : Channel) → i < length chans → c ≡ slice_index_or chans i d → (x : Channel)
    → closed_with closed (take (i + 1) chans) x ≡ true → (closed_with closed (take i chans) x ≡ true) ⊎ (x ≡ c)
with_step closed chans i c d h e x p = elim (or_cases (is_among (take (i + 1) chans) x) (closed x) p) [
  | inl a ↦ elim (or_cases (is_among (take i chans) x) (is_among (c ∷ []) x) (sym (in_more chans i c d h e x) ∙ a))
      [ inl b ↦ inl (or_left (is_among (take i chans) x) (closed x) b) | inr b ↦ inr (in_one c x b) ]
  | inr a ↦ inl (or_right (is_among (take i chans) x) (closed x) a)
]

with_back : (closed : Channel → Bool) (chans : List Channel) (i : ℕ) (c d : Channel) → i < length chans → c ≡ slice_index_or chans i d → (x : Channel)
    → (closed_with closed (take i chans) x ≡ true) ⊎ (x ≡ c) → closed_with closed (take (i + 1) chans) x ≡ true
with_back closed chans i c d h e x (inl p) = elim (or_cases (is_among (take i chans) x) (closed x) p) [
  | inl a ↦ or_left (is_among (take (i + 1) chans) x) (closed x) (in_more chans i c d h e x ∙ or_left (is_among (take i chans) x) (is_among (c ∷ []) x) a)
  | inr a ↦ or_right (is_among (take (i + 1) chans) x) (closed x) a
]
with_back closed chans i c d h e x (inr p) = or_left (is_among (take (i + 1) chans) x) (closed x)
    (in_more chans i c d h e x ∙ or_right (is_among (take i chans) x) (is_among (c ∷ []) x) (in_yes c x p))

pub with_more : (layout : Layout) (closed : Channel → Bool) (chans : List Channel) (i : ℕ) (c d : Channel) (index new : Index) (group : ℕ) → i < length chans
    → c ≡ slice_index_or chans i d → IndexesClaims layout (λ x. closed_with closed (take i chans) x ≡ true) index → group ≡ group_of layout c
    → (group ≢ 0 → (other : Channel) → claim_at index group ≡ Some other → other ≡ c) → (group ≢ 0 → new ≡ slice_set index group (Some c))
    → (group ≢ 0 → group < length index) → (group ≡ 0 → new ≡ index) → IndexesClaims layout (λ x. closed_with closed (take (i + 1) chans) x ≡ true) new
with_more layout closed chans i c d index new group h e kept g free claimed room groupless =
    holds_same layout (λ x. (closed_with closed (take i chans) x ≡ true) ⊎ (x ≡ c)) (λ x. closed_with closed (take (i + 1) chans) x ≡ true) new
    (with_back closed chans i c d h e) (with_step closed chans i c d h e)
    (holds_more layout (λ x. closed_with closed (take i chans) x ≡ true) index new group c kept g free claimed room groupless)

-- a channel of the list whose group another has
pub with_clash : (layout : Layout) (closed : Channel → Bool) (chans : List Channel) (i : ℕ) (c d : Channel) (index : Index) (group : ℕ) → i < length chans
    → c ≡ slice_index_or chans i d → IndexesClaims layout (λ x. closed_with closed (take i chans) x ≡ true) index → group ≡ group_of layout c → group ≢ 0
    → (other : Channel) × ((claim_at index group ≡ Some other) × (other ≢ c)) → HasClash layout (closed_with closed chans)
with_clash layout closed chans i c d index group h e kept g n found =
    let k : (closed_with closed (take i chans) found.0 ≡ true) × IsClash layout found.0 c =
    claim_clash layout (λ x. closed_with closed (take i chans) x ≡ true) index group c kept g n found.0 found.1.0 found.1.1 in
    record {
      one = found.0;
      other = c;
      one_closed = elim (or_cases (is_among (take i chans) found.0) (closed found.0) k.0) [
        | inl a ↦ or_left (is_among chans found.0) (closed found.0) (in_take chans i found.0 a)
        | inr a ↦ or_right (is_among chans found.0) (closed found.0) a
      ];
      other_closed = or_left (is_among chans c) (closed c) (in_at chans i c d h e);
      clash = k.1;
    }

pub with_apart : (layout : Layout) (closed : Channel → Bool) (chans : List Channel) (i : ℕ) (index : Index) → length chans ≤ i
    → IndexesClaims layout (λ x. closed_with closed (take i chans) x ≡ true) index → HasClash layout (closed_with closed chans) → ⊥
with_apart layout closed chans i index h kept clash =
    let e : take i chans ≡ chans = take_all i chans h in
    let holds : IndexesClaims layout (λ x. closed_with closed chans x ≡ true) index =
    subst (λ (l : List Channel). IndexesClaims layout (λ x. closed_with closed l x ≡ true) index) e kept in
    holds_apart layout (λ x. closed_with closed chans x ≡ true) index holds clash.one clash.other clash.one_closed clash.other_closed clash.clash

-- one channel alone

one_more : (closed : Channel → Bool) (c x : Channel) → closed_with closed (c ∷ []) x ≡ true → (closed x ≡ true) ⊎ (x ≡ c)
one_more closed c x p = elim (or_cases (is_among (c ∷ []) x) (closed x) p) [ inl a ↦ inr (in_one c x a) | inr b ↦ inl b ]

-- no other channel has its group
one_is_apart : (layout : Layout) (closed : Channel → Bool) (c : Channel) (index : Index) (group : ℕ)
    → IndexesClaims layout (λ x. closed x ≡ true) index → group ≡ group_of layout c → (group ≢ 0 → group < length index)
    → (group ≢ 0 → (other : Channel) → claim_at index group ≡ Some other → other ≡ c)
    → HasClash layout (closed_with closed (c ∷ [])) → ⊥
one_is_apart layout closed c index group h g room free clash = elim (cases_eq group 0) [
  | inl z ↦ holds_apart layout (λ d. (closed d ≡ true) ⊎ (d ≡ c)) index
      (holds_more layout (λ d. closed d ≡ true) index index group c h g free (λ n. absurd (n z)) room (λ e. refl))
      clash.one clash.other (one_more closed c clash.one clash.one_closed) (one_more closed c clash.other clash.other_closed) clash.clash
  | inr n ↦ holds_apart layout (λ d. (closed d ≡ true) ⊎ (d ≡ c)) (slice_set index group (Some c))
      (holds_more layout (λ d. closed d ≡ true) index (slice_set index group (Some c)) group c h g free (λ m. refl) room (λ z. absurd (n z)))
      clash.one clash.other (one_more closed c clash.one clash.one_closed) (one_more closed c clash.other clash.other_closed) clash.clash
]

-- another channel has its group
one_has_clash : (layout : Layout) (closed : Channel → Bool) (c : Channel) (index : Index) (group : ℕ)
    → IndexesClaims layout (λ x. closed x ≡ true) index → group ≡ group_of layout c → group ≢ 0
    → (other : Channel) × ((claim_at index group ≡ Some other) × (other ≢ c)) → HasClash layout (closed_with closed (c ∷ []))
one_has_clash layout closed c index group h g n found =
    let k : (closed found.0 ≡ true) × IsClash layout found.0 c =
    claim_clash layout (λ x. closed x ≡ true) index group c h g n found.0 found.1.0 found.1.1 in
    record {
      one = found.0;
      other = c;
      one_closed = or_right (is_among (c ∷ []) found.0) (closed found.0) k.0;
      other_closed = or_left (is_among (c ∷ []) c) (closed c) (in_yes c c refl);
      clash = k.1;
    }

-- the list has one channel
one_item : (chans : List Channel) (c : Channel) → 1 ≤ length chans → length chans < 2 → c ≡ slice_index_or chans 0 c → c ∷ [] ≡ chans
one_item [] c some few e = absurd (omega (arith, some))
one_item (x ∷ []) c some few e = ap (λ (d : Channel). d ∷ []) e
one_item (x ∷ y ∷ chans) c some few e = absurd (omega (arith, few))

pub one_apart : (layout : Layout) (closed : Channel → Bool) (chans : List Channel) (c : Channel) (index : Index) (group : ℕ)
    → 1 ≤ length chans → length chans < 2 → c ≡ slice_index_or chans 0 c
    → IndexesClaims layout (λ x. closed x ≡ true) index → group ≡ group_of layout c → (group ≢ 0 → group < length index)
    → (group ≢ 0 → (other : Channel) → claim_at index group ≡ Some other → other ≡ c)
    → HasClash layout (closed_with closed chans) → ⊥
one_apart layout closed chans c index group some few e h g room free clash = one_is_apart layout closed c index group h g room free
    (subst (λ (l : List Channel). HasClash layout (closed_with closed l)) (sym (one_item chans c some few e)) clash)

pub one_clash : (layout : Layout) (closed : Channel → Bool) (chans : List Channel) (c : Channel) (index : Index) (group : ℕ)
    → 1 ≤ length chans → length chans < 2 → c ≡ slice_index_or chans 0 c
    → IndexesClaims layout (λ x. closed x ≡ true) index → group ≡ group_of layout c → group ≢ 0
    → (other : Channel) × ((claim_at index group ≡ Some other) × (other ≢ c)) → HasClash layout (closed_with closed chans)
one_clash layout closed chans c index group some few e h g n found =
    subst (λ (l : List Channel). HasClash layout (closed_with closed l)) (one_item chans c some few e)
    (one_has_clash layout closed c index group h g n found)
