-- `ok` is told of a closing exactly where it is refused by nothing.
use Rattle.std.proofs.Common.{◌≡◌, ℕ, ◌==◌, ◌&&◌, not, Bool, true, false, List, [], ◌∷◌, ◌++◌, Option, None, Some, if◌then◌else◌}
use Rattle.std.proofs.Common.{refl, ap, sym, subst, ◌∙◌, arith, ◌⊎◌, inl, inr, append_assoc}
use Rattle.std.specs.Prelude.{codes, slice_index_or}
use Rattle.std.specs.List.{list_all}
use Rattle.std.proofs.lemmas.Bool.{and_parts, and_from, or_cases, or_left, or_right}
use Rattle.std.proofs.lemmas.Bool.Decides.{nat_tests}
use Rattle.std.proofs.lemmas.List.{append-nil}
use Rattle.std.proofs.lemmas.List.Folds.{list_any-append}
use mathlib.Core.Path.{fun_ext}
use Rattle.sw_base.specs.Layout.{Channel, Layout, is_present, group_of, IsClash}
use Rattle.sw_channel.specs.Positions.{same_channel, is_among}
use Rattle.sw_verify.proofs.Round.{same_channel_is, same_channel_self}
use Rattle.sw_cage.specs.Accounts.{layout_of, is_closed}
use Rattle.sw_cage.specs.Cage.{cage_layout}
use Rattle.sw_cage.specs.Channels.{closed_list}
use Rattle.sw_cage.specs.Close.{all_present, closed_with}
use Rattle.sw_cage.proofs.LayoutLemmas.{present_with, group_with, clash_with}
use Rattle.sw_cage.proofs.AdvanceLemmas.{lengths}
use Rattle.sw_cage.proofs.ClosedMemberLemmas.{among_closed}
use Rattle.sw_core.specs.Panel.{Panel, is_running}
use Rattle.sw_core.specs.Good.{IsGoodPanel}
use Rattle.sw_core.specs.Step.{MayClose}
use Rattle.sw_core.specs.Checking.{first_absent, are_joined, joined_with, pair_or, first_joined, quoted, absent_text, check_text}
use Rattle.sw_core.specs.ClosingTold.{ClosingIsTold}
use Rattle.sw_core.proofs.KeptLemmas.{IsKept, inside}

-- ---- absent channels

pub absent_none : (layout : Layout) (chans : List Channel) → first_absent layout chans ≡ None → all_present layout chans ≡ true
absent_none layout [] e = refl
absent_none layout (c ∷ chans) e = by_one (λ k. absent_none layout chans k) (is_present layout c) e
  where
    by_one : (first_absent layout chans ≡ None → all_present layout chans ≡ true) → (b : Bool) → (if b then first_absent layout chans else Some c) ≡ None
        → (b && all_present layout chans) ≡ true
    by_one rest true e = rest e
    by_one rest false e = absurd (cc (e))

pub none_absent : (layout : Layout) (chans : List Channel) → all_present layout chans ≡ true → first_absent layout chans ≡ None
none_absent layout [] e = refl
none_absent layout (c ∷ chans) e = by_one (λ k. none_absent layout chans k) (is_present layout c) e
  where
    by_one : (all_present layout chans ≡ true → first_absent layout chans ≡ None) → (b : Bool) → (b && all_present layout chans) ≡ true
        → (if b then first_absent layout chans else Some c) ≡ None
    by_one rest true e = rest e
    by_one rest false e = absurd (cc (e))

-- ---- two channels of one group

pub joined_clash : (layout : Layout) (c d : Channel) → are_joined layout c d ≡ true → IsClash layout c d
joined_clash layout c d h =
    let a = and_parts (not (same_channel c d)) (not (group_of layout c == 0) && (group_of layout c == group_of layout d)) h in
    let b = and_parts (not (group_of layout c == 0)) (group_of layout c == group_of layout d) a.1 in
    let grouped = b.0 in
    let same = b.1 in
    record {
      other = λ e.
          let s : same_channel c d ≡ true = subst (λ (x : Channel). same_channel c x ≡ true) e (same_channel_self c) in
          absurd (let t = ap not (sym s) ∙ a.0 in cc (t));
      grouped = λ e. absurd (grind (arith, nat_tests, grouped, e));
      same = grind (arith, nat_tests, same);
    }

clash_joined : (layout : Layout) (c d : Channel) → IsClash layout c d → are_joined layout c d ≡ true
clash_joined layout c d k =
    let same = k.same in
    and_from (not (same_channel c d)) (not (group_of layout c == 0) && (group_of layout c == group_of layout d)) (by_same (same_channel c d) refl)
    (and_from (not (group_of layout c == 0)) (group_of layout c == group_of layout d) (by_group (group_of layout c == 0) refl) (grind (arith, nat_tests, same)))
  where
    by_same : (b : Bool) → same_channel c d ≡ b → not b ≡ true
    by_same true is = absurd (k.other (same_channel_is c d is))
    by_same false is = refl

    by_group : (b : Bool) → (group_of layout c == 0) ≡ b → not b ≡ true
    by_group true is = absurd (k.grouped (grind (arith, nat_tests, is)))
    by_group false is = refl

clash_back : (layout : Layout) (c d : Channel) → IsClash layout c d → IsClash layout d c
clash_back layout c d k = record { other = λ e. k.other (sym e); grouped = λ e. k.grouped (k.same ∙ e); same = sym k.same }

-- ---- one channel beside others

pub joined_some : (layout : Layout) (c : Channel) (others : List Channel) (d : Channel) → joined_with layout c others ≡ Some d
    → (is_among others d ≡ true) × (are_joined layout c d ≡ true)
joined_some layout c [] d e = absurd (cc (e))
joined_some layout c (x ∷ others) d e = by_one (λ k. joined_some layout c others d k) (are_joined layout c x) refl e
  where
    by_one : (joined_with layout c others ≡ Some d → (is_among others d ≡ true) × (are_joined layout c d ≡ true)) → (b : Bool) → are_joined layout c x ≡ b
        → (if b then Some x else joined_with layout c others) ≡ Some d → (is_among (x ∷ others) d ≡ true) × (are_joined layout c d ≡ true)
    by_one rest true is e =
        let same : x ≡ d = cc (e) in (
          or_left (same_channel d x) (is_among others d) (subst (λ (y : Channel). same_channel y x ≡ true) same (same_channel_self x)),
          subst (λ (y : Channel). are_joined layout c y ≡ true) same is,
        )
    by_one rest false is e = let r = rest e in (or_right (same_channel d x) (is_among others d) r.0, r.1)

pub joined_none : (layout : Layout) (c : Channel) (others : List Channel) → joined_with layout c others ≡ None → (d : Channel) → is_among others d ≡ true
    → IsClash layout c d → ⊥
joined_none layout c [] e d m k = absurd (cc (m))
joined_none layout c (x ∷ others) e d m k =
    by_one (λ n i. joined_none layout c others n d i k) (are_joined layout c x) refl e (or_cases (same_channel d x) (is_among others d) m)
  where
    by_one : (joined_with layout c others ≡ None → is_among others d ≡ true → ⊥) → (b : Bool) → are_joined layout c x ≡ b
        → (if b then Some x else joined_with layout c others) ≡ None → (same_channel d x ≡ true) ⊎ (is_among others d ≡ true) → ⊥
    by_one rest true is e m = absurd (cc (e))
    by_one rest false is e (inl s) =
        let yes = subst (λ (y : Channel). are_joined layout c y ≡ true) (same_channel_is d x s) (clash_joined layout c d k) in
        absurd (let t = sym is ∙ yes in cc (t))
    by_one rest false is e (inr m) = rest e m

-- ---- channels that are closed one after another

-- no two of the channels clash
abbrev Apart : Layout → List Channel → Type 0
Apart layout l = (a b : Channel) → is_among l a ≡ true → is_among l b ≡ true → IsClash layout a b → ⊥

among_more : (l : List Channel) (c x : Channel) → is_among (l ++ c ∷ []) x ≡ true → (is_among l x ≡ true) ⊎ (x ≡ c)
among_more l c x m =
    elim (or_cases (is_among l x) (is_among (c ∷ []) x) (sym (list_any-append (same_channel x) l (c ∷ [])) ∙ m)) [
      | inl k ↦ inl k
      | inr k ↦ elim (or_cases (same_channel x c) false k) [ inl s ↦ inr (same_channel_is x c s) | inr n ↦ absurd (cc (n)) ]
    ]

apart_more : (layout : Layout) (l : List Channel) (c : Channel) → Apart layout l → joined_with layout c l ≡ None → Apart layout (l ++ c ∷ [])
apart_more layout l c apart e a b ma mb k = by_places (among_more l c a ma) (among_more l c b mb)
  where
    by_places : (is_among l a ≡ true) ⊎ (a ≡ c) → (is_among l b ≡ true) ⊎ (b ≡ c) → ⊥
    by_places (inl i) (inl j) = apart a b i j k
    by_places (inl i) (inr j) = joined_none layout c l e a i (clash_back layout a c (subst (λ (x : Channel). IsClash layout a x) j k))
    by_places (inr i) (inl j) = joined_none layout c l e b j (subst (λ (x : Channel). IsClash layout x b) i k)
    by_places (inr i) (inr j) = k.other (i ∙ sym j)

none_joined : (layout : Layout) (before chans : List Channel) → Apart layout before → first_joined layout before chans ≡ None → Apart layout (before ++ chans)
none_joined layout before [] apart e = subst (λ (l : List Channel). Apart layout l) (sym (append-nil before)) apart
none_joined layout before (c ∷ chans) apart e =
    by_other (λ more n. none_joined layout (before ++ c ∷ []) chans more n) (joined_with layout c before) refl e
  where
    by_other : (Apart layout (before ++ c ∷ []) → first_joined layout (before ++ c ∷ []) chans ≡ None → Apart layout ((before ++ c ∷ []) ++ chans))
        → (o : Option Channel) → joined_with layout c before ≡ o → pair_or c o (first_joined layout (before ++ c ∷ []) chans) ≡ None
        → Apart layout (before ++ c ∷ chans)
    by_other rest None is e =
        subst (λ (l : List Channel). Apart layout l) (append_assoc before (c ∷ []) chans) (rest (apart_more layout before c apart is) e)
    by_other rest (Some d) is e = absurd (cc (e))

among_front : (l m : List Channel) (x : Channel) → is_among l x ≡ true → is_among (l ++ m) x ≡ true
among_front l m x h = list_any-append (same_channel x) l m ∙ or_left (is_among l x) (is_among m x) h

among_back : (l m : List Channel) (x : Channel) → is_among m x ≡ true → is_among (l ++ m) x ≡ true
among_back l m x h = list_any-append (same_channel x) l m ∙ or_right (is_among l x) (is_among m x) h

some_joined : (layout : Layout) (before chans : List Channel) (pair : Channel × Channel) → first_joined layout before chans ≡ Some pair
    → Apart layout (before ++ chans) → ⊥
some_joined layout before [] pair e apart = absurd (cc (e))
some_joined layout before (c ∷ chans) pair e apart =
    by_other (λ n more. some_joined layout (before ++ c ∷ []) chans pair n more) (joined_with layout c before) refl e
  where
    by_other : (first_joined layout (before ++ c ∷ []) chans ≡ Some pair → Apart layout ((before ++ c ∷ []) ++ chans) → ⊥) → (o : Option Channel)
        → joined_with layout c before ≡ o → pair_or c o (first_joined layout (before ++ c ∷ []) chans) ≡ Some pair → ⊥
    by_other rest None is e = rest e (subst (λ (l : List Channel). Apart layout l) (sym (append_assoc before (c ∷ []) chans)) apart)
    by_other rest (Some d) is e =
        let r = joined_some layout c before d is in
        apart c d (among_back before (c ∷ chans) c (or_left (same_channel c c) (is_among chans c) (same_channel_self c)))
        (among_front before (c ∷ chans) d r.0) (joined_clash layout c d r.1)

-- ---- the texts

ok_only : (b : Bool) (absent : Option Channel) (joined : Option (Channel × Channel))
    → (if b then quoted (codes "a scan runs") [] else absent_text absent joined) ≡ quoted (codes "ok") []
    → (b ≡ false) × (absent ≡ None) × (joined ≡ None)
ok_only true absent joined e = absurd (let t : 97 ≡ 111 = ap (λ (l : List ℕ). slice_index_or l 1 0) e in omega (arith, t))
ok_only false (Some c) joined e = absurd (let t : 110 ≡ 111 = ap (λ (l : List ℕ). slice_index_or l 1 0) e in omega (arith, t))
ok_only false None (Some pair) e = absurd (let t : 102 ≡ 107 = ap (λ (l : List ℕ). slice_index_or l 2 0) e in omega (arith, t))
ok_only false None None e = (refl, refl, refl)

-- ---- the cage

module _ (p : Panel) (g : IsGoodPanel p) (chans : List Channel) where
  there : Layout
  there = layout_of p.cage.cards

  kept : IsKept p.cage
  kept = record { good = g.good; safe = g.safe; few = g.few }

  -- a meter that is out has no channels
  same_present : is_present (cage_layout p.cage) ≡ is_present (layout_of p.cage.cards)
  same_present = fun_ext (present_with (layout_of p.cage.cards) p.cage.out (lengths p.cage g.good.held))

  clash_out : (a b : Channel) → IsClash (cage_layout p.cage) a b → IsClash (layout_of p.cage.cards) a b
  clash_out a b k =
      let same = group_with (layout_of p.cage.cards) p.cage.out (lengths p.cage g.good.held) in
      record { other = k.other; grouped = λ e. k.grouped (same a ∙ e); same = sym (same a) ∙ k.same ∙ same b }

  closed_among : (x : Channel) → is_among (closed_list p.cage.cards) x ≡ is_closed p.cage.cards x
  closed_among x = among_closed p.cage.cards (inside p.cage kept) x

  at_first : Apart (cage_layout p.cage) (closed_list p.cage.cards)
  at_first a b ma mb k = g.safe.apart a b (sym (closed_among a) ∙ ma) (sym (closed_among b) ∙ mb) (clash_out a b k)

  -- the channels that would be closed are these and those
  among_with : (x : Channel) → closed_with (is_closed p.cage.cards) chans x ≡ true → is_among (closed_list p.cage.cards ++ chans) x ≡ true
  among_with x h =
      elim (or_cases (is_among chans x) (is_closed p.cage.cards x) h) [
        | inl k ↦ among_back (closed_list p.cage.cards) chans x k
        | inr k ↦ among_front (closed_list p.cage.cards) chans x (closed_among x ∙ k)
      ]

  with_among : (x : Channel) → is_among (closed_list p.cage.cards ++ chans) x ≡ true → closed_with (is_closed p.cage.cards) chans x ≡ true
  with_among x h =
      elim (or_cases (is_among (closed_list p.cage.cards) x) (is_among chans x) (sym (list_any-append (same_channel x) (closed_list p.cage.cards) chans) ∙ h)) [
        | inl k ↦ or_right (is_among chans x) (is_closed p.cage.cards x) (sym (closed_among x) ∙ k)
        | inr k ↦ or_left (is_among chans x) (is_closed p.cage.cards x) k
      ]

  allowed : check_text chans p ≡ quoted (codes "ok") [] → (is_running p ≡ false) × MayClose p chans
  allowed e =
      let t = ok_only (is_running p) (first_absent (cage_layout p.cage) chans) (first_joined (cage_layout p.cage) (closed_list p.cage.cards) chans) e in
      let apart = none_joined (cage_layout p.cage) (closed_list p.cage.cards) chans at_first t.2 in (
        t.0,
        record {
          present = ap (λ (test : Channel → Bool). list_all test chans) (sym same_present) ∙ absent_none (cage_layout p.cage) chans t.1;
          apart = λ h. apart h.one h.other (among_with h.one h.one_closed) (among_with h.other h.other_closed)
              (clash_with (layout_of p.cage.cards) p.cage.out (lengths p.cage g.good.held) h.one h.other h.clash);
        },
      )

  all : is_running p ≡ false → MayClose p chans → check_text chans p ≡ quoted (codes "ok") []
  all idle may = by_parts (is_running p) idle (first_absent (cage_layout p.cage) chans) absent (first_joined (cage_layout p.cage) (closed_list p.cage.cards) chans) refl
    where
      absent : first_absent (cage_layout p.cage) chans ≡ None
      absent = none_absent (cage_layout p.cage) chans (ap (λ (test : Channel → Bool). list_all test chans) same_present ∙ may.present)

      by_parts : (b : Bool) → b ≡ false → (o : Option Channel) → o ≡ None → (j : Option (Channel × Channel))
          → first_joined (cage_layout p.cage) (closed_list p.cage.cards) chans ≡ j
          → (if b then quoted (codes "a scan runs") [] else absent_text o j) ≡ quoted (codes "ok") []
      by_parts true i o n j is = absurd (cc (i))
      by_parts false i (Some c) n j is = absurd (cc (n))
      by_parts false i None n None is = refl
      by_parts false i None n (Some pair) is =
          absurd (some_joined (cage_layout p.cage) (closed_list p.cage.cards) chans pair is (λ a b ma mb k. may.apart (record {
            one = a;
            other = b;
            one_closed = with_among a ma;
            other_closed = with_among b mb;
            clash = clash_out a b k;
          })))

pub closing_told : ClosingIsTold
closing_told = record { allowed = λ p chans g e. allowed p g chans e; all = λ p chans g idle may. all p g chans idle may }
