-- The first channel of the positions that may not be closed, and whether each position may be.
use Rattle.std.proofs.Common.{◌≡◌, ℕ, ◌<◌, ◌||◌, Bool, true, false, List, [], ◌∷◌, ◌++◌, length, take, Option, None, Some, if◌then◌else◌}
use Rattle.std.proofs.Common.{refl, ap, sym, subst, ◌∙◌, arith, inl, inr, zero, suc}
use Rattle.std.specs.Prelude.{slice_index_or, nat_lt}
use Rattle.std.specs.List.{list_all, Any, AllByRecursion}
use Rattle.std.proofs.lemmas.Bool.{and_parts, and_from, both_ways}
use Rattle.std.proofs.lemmas.Bool.Decides.{nat_tests}
use Rattle.std.proofs.lemmas.List.Folds.{list_any-append}
use mathlib.Core.Path.{fun_ext}
use Rattle.sw_base.specs.Layout.{Channel, Layout, is_present}
use Rattle.sw_channel.specs.Positions.{Position, same_channel, is_among}
use Rattle.sw_trigger.specs.Settings.{SettingsSeen}
use Rattle.sw_trigger.specs.Counts.{readings_of}
use Rattle.sw_verify.specs.declared.refusal.Refusal.{Refusal}
use Rattle.sw_verify.specs.declared.refusal.Refusal.TheVariants.{GroupClash, TooManyReadings}
use Rattle.sw_verify.specs.Channels.{Channels, with_channel}
use Rattle.sw_verify.specs.Sound.{CanCloseOne, CanCloseEach}
use Rattle.sw_verify.specs.Check.{IsBlocked}
use Rattle.sw_verify.specs.Stops.{IsBarredAt, IsFirstBarred}
use Rattle.sw_verify.proofs.Round.{same_channel_is, same_channel_self}
use Rattle.sw_verify.proofs.Checked.{each_not_barred}
use Rattle.sw_core.specs.Checking.{first_absent, joined_with}
use Rattle.sw_core.specs.ScanChecking.{or_next, Blocked, with_other, blocked_by, first_in, first_missing, first_blocked}
use Rattle.sw_core.specs.ScanChecking.{refused_text, accepted_text, crowded_words, counted_text}
use Rattle.sw_core.proofs.ClosingToldLemmas.{absent_none, none_absent, joined_some, joined_none, joined_clash}

-- ---- one of the options

next_none : {A : Type 0} (o next : Option A) → or_next o next ≡ None → (o ≡ None) × (next ≡ None)
next_none None next e = (refl, e)
next_none (Some a) next e = absurd (cc (e))

-- ---- one more channel closed

same_turned : (c x : Channel) → same_channel c x ≡ same_channel x c
same_turned c x = by_both (same_channel c x) refl (same_channel x c) refl
  where
    by_both : (a : Bool) → same_channel c x ≡ a → (b : Bool) → same_channel x c ≡ b → same_channel c x ≡ same_channel x c
    by_both true e b f = e ∙ sym (subst (λ (y : Channel). same_channel y c ≡ true) (same_channel_is c x e) (same_channel_self c))
    by_both false e true f =
        absurd (both_ways (same_channel c x) e (subst (λ (y : Channel). same_channel c y ≡ true) (sym (same_channel_is x c f)) (same_channel_self c)))
    by_both false e false f = e ∙ sym f

or_turned : (a b : Bool) → (a || b) ≡ (b || (a || false))
or_turned true true = refl
or_turned true false = refl
or_turned false true = refl
or_turned false false = refl

-- what is closed with one channel more
pub among_pushed : (before : List Channel) (c : Channel) → with_channel c (is_among before) ≡ is_among (before ++ c ∷ [])
among_pushed before c =
    fun_ext (λ x. ap (λ (t : Bool). t || is_among before x) (same_turned c x) ∙ or_turned (same_channel x c) (is_among before x)
    ∙ sym (list_any-append (same_channel x) before (c ∷ [])))

-- ---- one channel

other_none : (c : Channel) (o : Option Channel) → with_other c o ≡ None → o ≡ None
other_none c None e = refl
other_none c (Some d) e = absurd (cc (e))

free_by : (layout : Layout) (closed : List Channel) (c : Channel) → is_present layout c ≡ true → blocked_by layout closed c ≡ None
    → CanCloseOne layout (is_among closed) c
free_by layout closed c present e = by_closed (is_among closed c) refl e
  where
    by_closed : (b : Bool) → is_among closed c ≡ b → (if b then Some (c, None) else with_other c (joined_with layout c closed)) ≡ None
        → CanCloseOne layout (is_among closed) c
    by_closed true is e = absurd (cc (e))
    by_closed false is e =
        record { present = present; was_open = is; apart = λ x m k. joined_none layout c closed (other_none c (joined_with layout c closed) e) x m k }

by_free : (layout : Layout) (closed : List Channel) (c : Channel) → CanCloseOne layout (is_among closed) c → blocked_by layout closed c ≡ None
by_free layout closed c can = by_closed (is_among closed c) can.was_open (joined_with layout c closed) refl
  where
    by_closed : (b : Bool) → b ≡ false → (o : Option Channel) → joined_with layout c closed ≡ o → (if b then Some (c, None) else with_other c o) ≡ None
    by_closed true is o e = absurd (cc (is))
    by_closed false is None e = refl
    by_closed false is (Some d) e = let j = joined_some layout c closed d e in absurd (can.apart d j.0 (joined_clash layout c d j.1))

blocked_is : (layout : Layout) (closed : List Channel) (c : Channel) (b : Blocked) → blocked_by layout closed c ≡ Some b
    → IsBlocked layout (is_among closed) c
blocked_is layout closed c b e = by_closed (is_among closed c) refl (joined_with layout c closed) refl e
  where
    by_closed : (a : Bool) → is_among closed c ≡ a → (o : Option Channel) → joined_with layout c closed ≡ o
        → (if a then Some (c, None) else with_other c o) ≡ Some b → IsBlocked layout (is_among closed) c
    by_closed true is o j e = inl is
    by_closed false is None j e = absurd (cc (e))
    by_closed false is (Some d) j e = let k = joined_some layout c closed d j in inr (d, k.0, joined_clash layout c d k.1)

-- ---- one position

pub none_can : (layout : Layout) (before : List Channel) (p : Position) → list_all (is_present layout) p ≡ true → first_in layout before p ≡ None
    → CanCloseEach layout (is_among before) p
none_can layout before [] present e = tt
none_can layout before (c ∷ p) present e =
    let there = and_parts (is_present layout c) (list_all (is_present layout) p) present in
    let n = next_none (blocked_by layout before c) (first_in layout (before ++ c ∷ []) p) e in (
      free_by layout before c there.0 n.0,
      subst (λ (b : Channels). CanCloseEach layout b p) (sym (among_pushed before c)) (none_can layout (before ++ c ∷ []) p there.1 n.1),
    )

pub can_none : (layout : Layout) (before : List Channel) (p : Position) → CanCloseEach layout (is_among before) p → first_in layout before p ≡ None
can_none layout before [] can = refl
can_none layout before (c ∷ p) can =
    ap (λ (o : Option Blocked). or_next o (first_in layout (before ++ c ∷ []) p)) (by_free layout before c can.0)
    ∙ can_none layout (before ++ c ∷ []) p (subst (λ (b : Channels). CanCloseEach layout b p) (among_pushed before c) can.1)

pub some_barred : (layout : Layout) (before : List Channel) (p : Position) (b : Blocked) → list_all (is_present layout) p ≡ true
    → first_in layout before p ≡ Some b → IsBarredAt layout (is_among before) p GroupClash
some_barred layout before [] b present e = absurd (cc (e))
some_barred layout before (c ∷ p) b present e =
    by_first (λ rest k. some_barred layout (before ++ c ∷ []) p b rest k) (blocked_by layout before c) refl e
  where
    there : (is_present layout c ≡ true) × (list_all (is_present layout) p ≡ true)
    there = and_parts (is_present layout c) (list_all (is_present layout) p) present

    by_first : (list_all (is_present layout) p ≡ true → first_in layout (before ++ c ∷ []) p ≡ Some b
        → IsBarredAt layout (is_among (before ++ c ∷ [])) p GroupClash) → (o : Option Blocked) → blocked_by layout before c ≡ o
        → or_next o (first_in layout (before ++ c ∷ []) p) ≡ Some b → IsBarredAt layout (is_among before) (c ∷ p) GroupClash
    by_first more (Some a) is e = inl (inr (there.0, blocked_is layout before c a is, refl))
    by_first more None is e = inr (
      free_by layout before c there.0 is,
      subst (λ (s : Channels). IsBarredAt layout s p GroupClash) (sym (among_pushed before c)) (more there.1 e),
    )

-- ---- positions

pub missing_present : (layout : Layout) (ps : List Position) → first_missing layout ps ≡ None → list_all (list_all (is_present layout)) ps ≡ true
missing_present layout [] e = refl
missing_present layout (p ∷ ps) e =
    let n = next_none (first_absent layout p) (first_missing layout ps) e in
    and_from (list_all (is_present layout) p) (list_all (list_all (is_present layout)) ps) (absent_none layout p n.0) (missing_present layout ps n.1)

present_missing : (layout : Layout) (ps : List Position) → list_all (list_all (is_present layout)) ps ≡ true → first_missing layout ps ≡ None
present_missing layout [] h = refl
present_missing layout (p ∷ ps) h =
    let k = and_parts (list_all (is_present layout) p) (list_all (list_all (is_present layout)) ps) h in
    ap (λ (o : Option Channel). or_next o (first_missing layout ps)) (none_absent layout p k.0) ∙ present_missing layout ps k.1

pub missing_absent : (layout : Layout) (ps : List Position) (c : Channel) → first_missing layout ps ≡ Some c
    → list_all (list_all (is_present layout)) ps ≡ false
missing_absent layout ps c e = by_all (list_all (list_all (is_present layout)) ps) refl
  where
    by_all : (b : Bool) → list_all (list_all (is_present layout)) ps ≡ b → list_all (list_all (is_present layout)) ps ≡ false
    by_all true h = absurd (let t = sym e ∙ present_missing layout ps h in cc (t))
    by_all false h = h

pub none_free : (layout : Layout) (closed : List Channel) (ps : List Position) → list_all (list_all (is_present layout)) ps ≡ true
    → first_blocked layout closed ps ≡ None → AllByRecursion (CanCloseEach layout (is_among closed)) ps
none_free layout closed [] present e = tt
none_free layout closed (p ∷ ps) present e =
    let there = and_parts (list_all (is_present layout) p) (list_all (list_all (is_present layout)) ps) present in
    let n = next_none (first_in layout closed p) (first_blocked layout closed ps) e in
    (none_can layout closed p there.0 n.0, none_free layout closed ps there.1 n.1)

pub free_none : (layout : Layout) (closed : List Channel) (ps : List Position) → AllByRecursion (CanCloseEach layout (is_among closed)) ps
    → None ≡ first_blocked layout closed ps
free_none layout closed [] free = refl
free_none layout closed (p ∷ ps) free =
    free_none layout closed ps free.1
    ∙ sym (ap (λ (o : Option Blocked). or_next o (first_blocked layout closed ps)) (can_none layout closed p free.0))

any_here : {X : Type 0} (P : X → Type 0) (x : X) (xs : List X) → P x → Any P (x ∷ xs)
any_here P x xs w = (0, x, omega arith, refl, w)

any_later : {X : Type 0} (P : X → Type 0) (x : X) (xs : List X) → Any P xs → Any P (x ∷ xs)
any_later P x xs (k, y, l, e, w) = (suc k, y, omega arith, e, w)

pub some_any : (layout : Layout) (closed : List Channel) (ps : List Position) (b : Blocked) → list_all (list_all (is_present layout)) ps ≡ true
    → first_blocked layout closed ps ≡ Some b → Any (λ (p : Position). (r : Refusal) × IsBarredAt layout (is_among closed) p r) ps
some_any layout closed [] b present e = absurd (cc (e))
some_any layout closed (p ∷ ps) b present e =
    by_first (λ rest k. some_any layout closed ps b rest k) (first_in layout closed p) refl e
  where
    there : (list_all (is_present layout) p ≡ true) × (list_all (list_all (is_present layout)) ps ≡ true)
    there = and_parts (list_all (is_present layout) p) (list_all (list_all (is_present layout)) ps) present

    by_first : (list_all (list_all (is_present layout)) ps ≡ true → first_blocked layout closed ps ≡ Some b
        → Any (λ (q : Position). (r : Refusal) × IsBarredAt layout (is_among closed) q r) ps) → (o : Option Blocked) → first_in layout closed p ≡ o
        → or_next o (first_blocked layout closed ps) ≡ Some b → Any (λ (q : Position). (r : Refusal) × IsBarredAt layout (is_among closed) q r) (p ∷ ps)
    by_first more (Some a) is e =
        any_here (λ (q : Position). (r : Refusal) × IsBarredAt layout (is_among closed) q r) p ps (GroupClash, some_barred layout closed p a there.0 is)
    by_first more None is e = any_later (λ (q : Position). (r : Refusal) × IsBarredAt layout (is_among closed) q r) p ps (more there.1 e)

-- the first of the positions that can't be closed is the one whose channel is told
own_first : (o rest : Option Blocked) → (o ≡ None → ⊥) → o ≡ or_next o rest
own_first None rest n = absurd (n refl)
own_first (Some a) rest n = refl

blocked_at : (layout : Layout) (closed : List Channel) (p : Position) (ps : List Position) (k : ℕ)
    → (list_all (is_present layout) p ≡ true → first_in layout closed p ≡ None → ⊥) → list_all (list_all (is_present layout)) ps ≡ true → k < length ps
    → slice_index_or ps k p ≡ p → AllByRecursion (CanCloseEach layout (is_among closed)) (take k ps)
    → first_in layout closed p ≡ first_blocked layout closed ps
blocked_at layout closed p [] k n present w t b = absurd (omega arith)
blocked_at layout closed p (q ∷ ps) zero n present w t b =
    let there = and_parts (list_all (is_present layout) q) (list_all (list_all (is_present layout)) ps) present in
    let same : q ≡ p = t in
    own_first (first_in layout closed p) (first_blocked layout closed ps)
    (n (subst (λ (x : Position). list_all (is_present layout) x ≡ true) same there.0))
    ∙ ap (λ (x : Position). or_next (first_in layout closed x) (first_blocked layout closed ps)) (sym same)
blocked_at layout closed p (q ∷ ps) (suc k) n present w t b =
    let there = and_parts (list_all (is_present layout) q) (list_all (list_all (is_present layout)) ps) present in
    blocked_at layout closed p ps k n there.1 (omega arith) t b.1
    ∙ sym (ap (λ (o : Option Blocked). or_next o (first_blocked layout closed ps)) (can_none layout closed q b.0))

pub blocked_in : (layout : Layout) (closed : List Channel) (ps : List Position) (p : Position) → first_missing layout ps ≡ None
    → IsFirstBarred layout (is_among closed) ps p → first_in layout closed p ≡ first_blocked layout closed ps
blocked_in layout closed ps p missing f =
    blocked_at layout closed p ps f.at
    (λ present e. each_not_barred layout (is_among closed) p f.cause (none_can layout closed p present e) f.barred)
    (missing_present layout ps missing) f.within f.there f.before

-- ---- what is told

-- of more readings than there is room for
pub crowded : (s : SettingsSeen) → s.points < readings_of s
    → refused_text TooManyReadings (crowded_words (readings_of s) s.points) ≡ counted_text s
crowded s less = by_less (nat_lt s.points (readings_of s)) (grind (arith, nat_tests, less))
  where
    by_less : (b : Bool) → b ≡ true
        → refused_text TooManyReadings (crowded_words (readings_of s) s.points)
        ≡ (if b then refused_text TooManyReadings (crowded_words (readings_of s) s.points) else accepted_text s)
    by_less true e = refl
    by_less false e = absurd (cc (e))
