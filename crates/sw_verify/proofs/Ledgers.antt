-- What a row of flags tells when a channel is closed or opened.
use Rattle.std.proofs.Common.{◌≡◌, ◌≢◌, ℕ, ◌/◌, ◌%◌, ◌<◌, Bool, true, false, ◌||◌, ◌&&◌, not, eqb, List, length, replicate, refl, sym, ap, ◌∙◌, subst, arith}
use Rattle.std.proofs.Common.{◌⊎◌, inl, inr, ⊎_elim}
use mathlib.Core.Path.{fun_ext}
use Rattle.std.specs.Prelude.{slice_index_or, slice_set}
use Rattle.std.proofs.lemmas.Bool.{or_cases, or_left, or_right, and_parts, both_ways, eqb-true, eqb-false, eq-eqb, not-true, false_from_ne_true}
use Rattle.std.proofs.lemmas.Bool.Decides.{nat_tests}
use Rattle.std.proofs.lemmas.Bool.{cases_eq}
use Rattle.std.proofs.lemmas.List.{get_or-set_same, get_or-set_other, length-set, ext_get_or, get_or-replicate, length-replicate}
use Rattle.sw_base.specs.Limits.{channel_places}
use Rattle.sw_base.specs.Layout.{Channel, Layout, is_present, group_of, IsClash}
use Rattle.sw_code.specs.Range.{IsInChannelRange}
use Rattle.sw_verify.specs.declared.ledger.Ledger.{Ledger}
use Rattle.sw_verify.specs.Channels.{Channels, none, is_among, same_channel, with_channel, without}
use Rattle.sw_verify.specs.Check.{IsBlocked}
use Rattle.sw_verify.specs.Marks.{place, ChannelMarks, GroupMarks, in_group}
use Rattle.sw_verify.specs.Sound.{CanCloseOne}
use Rattle.sw_verify.specs.Ledger.{TellsRow, GroupsTell, Shows, is_taken}
use Rattle.sw_verify.proofs.Round.{same_channel_is, same_channel_self}
use Rattle.sw_verify.proofs.Throughout.{clash_back}
use Rattle.sw_verify.proofs.Checked.{any_among, among_any}

-- a channel's place tells it
placed : (c : Channel) → IsInChannelRange c → (place c < channel_places) × (place c / 100 ≡ c.0) × (place c % 100 ≡ c.1)
placed c i =
    (omega (arith, i.1, i.3), omega (arith, i.1, i.3), omega (arith, i.1, i.3))

pub tells_at : (start b m : Channels) (row : List Bool) → TellsRow start b m row → (c : Channel) → IsInChannelRange c → slice_index_or row (place c) false ≡ m c
tells_at start b m row t c i =
    let p = placed c i in
    t.flags (place c) p.0 ∙ ap (λ (x : ℕ). m (x, place c % 100)) p.1 ∙ ap (λ (y : ℕ). m (c.0, y)) p.2

-- another place is another channel's
other_place : (c : Channel) (j : ℕ) → j ≢ place c → same_channel c (j / 100, j % 100) ≡ false
other_place c j n = false_from_ne_true (same_channel c (j / 100, j % 100)) (λ h.
    let e = same_channel_is c (j / 100, j % 100) h in
    let s : c.0 ≡ j / 100 = ap (λ (x : Channel). x.0) e in
    let k : c.1 ≡ j % 100 = ap (λ (x : Channel). x.1) e in
    n (omega (arith, s, k)))

or_false : (a b : Bool) → a ≡ false → (a || b) ≡ b
or_false true b h = absurd (cc h)
or_false false b h = refl

or_true : (a b : Bool) → a ≡ true → (a || b) ≡ true
or_true true b h = refl
or_true false b h = absurd (cc h)

and_not_true : (a b : Bool) → a ≡ true → (not a && b) ≡ false
and_not_true true b h = refl
and_not_true false b h = absurd (cc h)

and_not_false : (a b : Bool) → a ≡ false → (not a && b) ≡ b
and_not_false true b h = absurd (cc h)
and_not_false false b h = refl

or_turned : (t a c : Bool) → (t || (a || c)) ≡ (a || (t || c))
or_turned true true c = refl
or_turned true false c = refl
or_turned false a c = refl

and_turned : (t a c : Bool) → (t ≡ true → a ≡ false) → (not t && (a || c)) ≡ (a || (not t && c))
and_turned true a c h = ap (λ v. v || false) (sym (h refl))
and_turned false a c h = refl

first_false : (a c : Bool) → (a || c) ≡ false → a ≡ false
first_false true c h = absurd (cc h)
first_false false c h = refl

second_false : (a c : Bool) → (a || c) ≡ false → c ≡ false
second_false true c h = absurd (cc h)
second_false false c h = h

module _ (start b m : Channels) (row : List Bool) (t : TellsRow start b m row) (c : Channel) (i : IsInChannelRange c) where
  here : slice_index_or row (place c) false ≡ m c
  here = tells_at start b m row t c i

  self_place : same_channel c (place c / 100, place c % 100) ≡ true
  self_place =
      let p = placed c i in
      ap (λ (x : ℕ). same_channel c (x, place c % 100)) p.1 ∙ ap (λ (y : ℕ). same_channel c (c.0, y)) p.2 ∙ same_channel_self c

  pub tells_with : b c ≡ false → TellsRow start (with_channel c b) (with_channel c m) (slice_set row (place c) true)
  tells_with free = record {
    split = λ x. (
      ap (λ v. same_channel c x || v) (t.split x).0 ∙ or_turned (same_channel c x) (start x) (m x),
      λ h. ⊎_elim (λ (e : same_channel c x ≡ true). ap start (sym (same_channel_is c x e)) ∙ first_false (start c) (m c) (sym (t.split c).0 ∙ free))
          (λ (e : m x ≡ true). (t.split x).1 e) (or_cases (same_channel c x) (m x) h),
    );
    range = λ x h. ⊎_elim (λ (e : same_channel c x ≡ true). subst IsInChannelRange (same_channel_is c x e) i) (λ (e : m x ≡ true).
        t.range x e) (or_cases (same_channel c x) (m x) h);
    size = length-set row (place c) true ∙ t.size;
    flags = λ j h.
        ⊎_elim (λ (e : j ≡ place c).
        subst (λ (k : ℕ). slice_index_or (slice_set row (place c) true) k false ≡ (same_channel c (k / 100, k % 100) || m (k / 100, k % 100))) (sym e)
        (get_or-set_same row (place c) true false (let s : length row ≡ channel_places = t.size in omega (arith, s, (placed c i).0))
        ∙ sym (or_true (same_channel c (place c / 100, place c % 100)) (m (place c / 100, place c % 100)) self_place)))
        (λ (n : j ≡ place c → ⊥). get_or-set_other row (place c) j true false n ∙ t.flags j h
        ∙ sym (or_false (same_channel c (j / 100, j % 100)) (m (j / 100, j % 100)) (other_place c j n)))
        (cases_eq j (place c));
  }

  pub tells_without : m c ≡ true → TellsRow start (without c b) (without c m) (slice_set row (place c) false)
  tells_without own = record {
    split = λ x. (
      ap (λ v. not (same_channel c x) && v) (t.split x).0 ∙ and_turned (same_channel c x) (start x) (m x) (λ e. ap start (sym (same_channel_is c x e))
          ∙ (t.split c).1 own),
      λ h. (t.split x).1 (and_parts (not (same_channel c x)) (m x) h).1,
    );
    range = λ x h. t.range x (and_parts (not (same_channel c x)) (m x) h).1;
    size = length-set row (place c) false ∙ t.size;
    flags = λ j h.
        ⊎_elim (λ (e : j ≡ place c).
        subst (λ (k : ℕ). slice_index_or (slice_set row (place c) false) k false ≡ (not (same_channel c (k / 100, k % 100)) && m (k / 100, k % 100))) (sym e)
        (get_or-set_same row (place c) false false (let s : length row ≡ channel_places = t.size in omega (arith, s, (placed c i).0))
        ∙ sym (and_not_true (same_channel c (place c / 100, place c % 100)) (m (place c / 100, place c % 100)) self_place)))
        (λ (n : j ≡ place c → ⊥). get_or-set_other row (place c) j false false n ∙ t.flags j h
        ∙ sym (and_not_false (same_channel c (j / 100, j % 100)) (m (j / 100, j % 100)) (other_place c j n)))
        (cases_eq j (place c));
  }

module _ (layout : Layout) (b : Channels) (row : List Bool) (t : GroupsTell layout b row) (c : Channel) (small : group_of layout c < 256) where
  group : ℕ
  group = group_of layout c

  pub groups_with : GroupsTell layout (with_channel c b) (slice_set row (group_of layout c) true)
  groups_with = record {
    size = length-set row (group_of layout c) true ∙ t.size;
    set = λ x h some below.
        ⊎_elim (λ (e : group_of layout x ≡ group_of layout c).
        subst (λ (g : ℕ). slice_index_or (slice_set row (group_of layout c) true) g false
        ≡ true) (sym e) (get_or-set_same row (group_of layout c) true false (let s : length row ≡ 256 = t.size in omega (arith, s, small))))
        (λ (n : group_of layout x ≡ group_of layout c → ⊥). get_or-set_other row (group_of layout c) (group_of layout x) true false n
        ∙ ⊎_elim (λ (e : same_channel c x ≡ true). absurd (n (ap (group_of layout) (sym (same_channel_is c x e))))) (λ (e : b x ≡ true).
        t.set x e some below) (or_cases (same_channel c x) (b x) h))
        (cases_eq (group_of layout x) (group_of layout c));
    found = λ g some below h.
        ⊎_elim (λ (e : g ≡ group_of layout c). (c, or_left (same_channel c c) (b c) (same_channel_self c), sym e))
        (λ (n : g ≡ group_of layout c → ⊥).
        let r = t.found g some below (sym (get_or-set_other row (group_of layout c) g true false n) ∙ h) in
        (r.0, or_right (same_channel c r.0) (b r.0) r.1, r.2))
        (cases_eq g (group_of layout c));
  }

  pub groups_without : b c ≡ true → ((y : Channel) → b y ≡ true → IsClash layout c y → ⊥)
      → GroupsTell layout (without c b) (slice_set row (group_of layout c) false)
  groups_without own apart = record {
    size = length-set row (group_of layout c) false ∙ t.size;
    set = λ x h some below.
        let p = and_parts (not (same_channel c x)) (b x) h in
        ⊎_elim (λ (e : group_of layout x ≡ group_of layout c).
        let differ : c ≡ x → ⊥ = λ d. both_ways (same_channel c x) (not-true (same_channel c x) p.0) (ap (same_channel c) (sym d) ∙ same_channel_self c) in
        absurd (apart x p.1 (record { other = differ; grouped = λ z. (omega (arith, some, e, z)); same = sym e })))
        (λ (n : group_of layout x ≡ group_of layout c → ⊥). get_or-set_other row (group_of layout c) (group_of layout x) false false n ∙ t.set x p.1 some below)
        (cases_eq (group_of layout x) (group_of layout c));
    found = λ g some below h.
        ⊎_elim (λ (e : g ≡ group_of layout c).
        let off : slice_index_or (slice_set row (group_of layout c) false) (group_of layout c) false ≡ false =
        get_or-set_same row (group_of layout c) false false (let s : length row ≡ 256 = t.size in omega (arith, s, small)) in
        let on : slice_index_or (slice_set row (group_of layout c) false) (group_of layout c) false ≡ true =
        subst (λ (k : ℕ). slice_index_or (slice_set row (group_of layout c) false) k false ≡ true) e h in
        absurd (both_ways (slice_index_or (slice_set row (group_of layout c) false) (group_of layout c) false) off on))
        (λ (n : g ≡ group_of layout c → ⊥).
        let r = t.found g some below (sym (get_or-set_other row (group_of layout c) g false false n) ∙ h) in
        let apart' : same_channel c r.0 ≡ false =
        false_from_ne_true (same_channel c r.0) (λ d. n (sym r.2 ∙ ap (group_of layout) (sym (same_channel_is c r.0 d)))) in
        (r.0, and_not_false (same_channel c r.0) (b r.0) apart' ∙ r.1, r.2))
        (cases_eq g (group_of layout c));
  }

or_none : (a : Bool) → (a || false) ≡ a
or_none true = refl
or_none false = refl

pub tells_none : (start : Channels) → TellsRow start start none (replicate channel_places false)
tells_none start = record {
  split = λ x. (sym (or_none (start x)), λ h. absurd (cc h));
  range = λ x h. absurd (cc h);
  size = length-replicate channel_places false;
  flags = λ j h. get_or-replicate channel_places j false false h;
}

same_bools : (a b : Bool) → (a ≡ true → b ≡ true) → (b ≡ true → a ≡ true) → a ≡ b
same_bools true b f g = sym (f refl)
same_bools false true f g = g refl
same_bools false false f g = refl

-- one row tells one set, and one set has one row
pub row_tells_one : (start b b' m m' : Channels) (row row' : List Bool) → TellsRow start b m row → TellsRow start b' m' row' → row ≡ row' → (b ≡ b') × (m ≡ m')
row_tells_one start b b' m m' row row' t t' e =
    let n : m ≡ m' = fun_ext (λ x. same_bools (m x) (m' x)
    (λ h. let i = t.range x h in sym (tells_at start b' m' row' t' x i) ∙ ap (λ (r : List Bool). slice_index_or r (place x) false) (sym e)
    ∙ tells_at start b m row t x i ∙ h)
    (λ h. let i = t'.range x h in sym (tells_at start b m row t x i) ∙ ap (λ (r : List Bool). slice_index_or r (place x) false) e
    ∙ tells_at start b' m' row' t' x i ∙ h)) in
    (fun_ext (λ x. (t.split x).0 ∙ ap (λ (k : Channels). start x || k x) n ∙ sym (t'.split x).0), n)

pub one_row : (start b b' m m' : Channels) (row row' : List Bool) → TellsRow start b m row → TellsRow start b' m' row' → m ≡ m' → row ≡ row'
one_row start b b' m m' row row' t t' e =
    ext_get_or false row row' (t.size ∙ sym t'.size)
    (λ j h. let below : j < channel_places = let s : length row ≡ channel_places = t.size in omega arith in t.flags j below
    ∙ ap (λ (k : Channels). k (j / 100, j % 100)) e
    ∙ sym (t'.flags j below))

module _ (layout : Layout) (start b m : Channels) (l : Ledger) (s : Shows layout start b m l) (c : Channel) (i : IsInChannelRange c)
    (below : group_of layout c < 256) where
  closed_is : b c ≡ (slice_index_or l.found (place c) false || slice_index_or l.mine (place c) false)
  closed_is = (s.mine.split c).0 ∙ ap (λ v. v || m c) (sym (s.found c i))
      ∙ ap (λ v. slice_index_or l.found (place c) false || v) (sym (tells_at start b m l.mine s.mine c i))

  or_both : (a d e : Bool) → (a || (d || e)) ≡ false → ((a || d) ≡ false) × (e ≡ false)
  or_both true d e h = absurd (cc h)
  or_both false true e h = absurd (cc h)
  or_both false false e h = (refl, h)

  or_either : (a d e : Bool) → (a || (d || e)) ≡ true → ((a || d) ≡ true) ⊎ (e ≡ true)
  or_either true d e h = inl refl
  or_either false true e h = inl refl
  or_either false false e h = inr h

  and_both : (a d : Bool) → a ≡ true → d ≡ true → (a && d) ≡ true
  and_both true d h g = g
  and_both false d h g = absurd (cc h)

  pub free_can : is_present layout c ≡ true → is_taken l (place c) (group_of layout c) ≡ false → CanCloseOne layout b c
  free_can there free =
      let p = or_both (slice_index_or l.found (place c) false) (slice_index_or l.mine (place c) false) (not (eqb (group_of layout c) 0)
      && slice_index_or l.groups (group_of layout c) false) free in
      record {
        present = there;
        was_open = closed_is ∙ p.0;
        apart = λ x h k.
            let some : 0 < group_of layout c = let g = k.grouped in grind arith in
            let on : slice_index_or l.groups (group_of layout c) false ≡ true =
            subst (λ (g : ℕ). slice_index_or l.groups g false
            ≡ true) (sym k.same) (s.groups.set x h (subst (λ (g : ℕ). 0 < g) k.same some) (subst (λ (g : ℕ). g < 256) k.same below)) in
            let named : not (eqb (group_of layout c) 0) ≡ true = grind (arith, nat_tests) in
            both_ways (not (eqb (group_of layout c) 0)
            && slice_index_or l.groups (group_of layout c) false) p.1
            (and_both (not (eqb (group_of layout c) 0)) (slice_index_or l.groups (group_of layout c) false) named on);
      }

  pub taken_blocked : is_taken l (place c) (group_of layout c) ≡ true → IsBlocked layout b c
  taken_blocked taken =
      ⊎_elim (λ (h : (slice_index_or l.found (place c) false || slice_index_or l.mine (place c) false) ≡ true). inl (closed_is ∙ h))
      (λ (h : (not (eqb (group_of layout c) 0) && slice_index_or l.groups (group_of layout c) false) ≡ true).
      let p = and_parts (not (eqb (group_of layout c) 0)) (slice_index_or l.groups (group_of layout c) false) h in
      let grouped : group_of layout c ≢ 0 = eqb-false (group_of layout c) 0 (not-true (eqb (group_of layout c) 0) p.0) in
      let some : 0 < group_of layout c = grind arith in
      let r = s.groups.found (group_of layout c) some below p.1 in
      ⊎_elim (λ (e : same_channel c r.0 ≡ true). inl (ap b (same_channel_is c r.0 e) ∙ r.1))
      (λ (e : same_channel c r.0 ≡ false).
      inr (
        r.0,
        r.1,
        record {
          other = λ d. both_ways (same_channel c r.0) e (ap (same_channel c) (sym d) ∙ same_channel_self c);
          grouped = grouped;
          same = sym r.2;
        },
      ))
      (cases_Bool' (same_channel c r.0)))
      (or_either (slice_index_or l.found (place c) false) (slice_index_or l.mine (place c) false) (not (eqb (group_of layout c) 0)
      && slice_index_or l.groups (group_of layout c) false) taken)
    where
      cases_Bool' : (v : Bool) → (v ≡ true) ⊎ (v ≡ false)
      cases_Bool' true = inl refl
      cases_Bool' false = inr refl

  pub shows_with : CanCloseOne layout b c → (row : List Bool) (g : ℕ) → row ≡ slice_set l.mine (place c) true → g ≡ group_of layout c
      → Shows layout start (with_channel c b) (with_channel c m) (record {
        found = l.found;
        mine = row;
        groups = slice_set l.groups g true;
      })
  shows_with can row g e f =
      subst (λ (r : List Bool). Shows layout start (with_channel c b) (with_channel c m) (record {
        found = l.found;
        mine = r;
        groups = slice_set l.groups g true;
      })) (sym e)
      (subst (λ (a : ℕ). Shows layout start (with_channel c b) (with_channel c m) (record {
        found = l.found;
        mine = slice_set l.mine (place c) true;
        groups = slice_set l.groups a true;
      })) (sym f)
      (record {
        mine = tells_with start b m l.mine s.mine c i can.was_open;
        found_size = s.found_size;
        found = s.found;
        groups = groups_with layout b l.groups s.groups c below;
        apart = λ x y h k w.
            ⊎_elim (λ (d : same_channel c x ≡ true).
            let cx = same_channel_is c x d in
            let u = subst (λ (z : Channel). IsClash layout z y) (sym cx) w in
            ⊎_elim (λ (d' : same_channel c y ≡ true). u.other (same_channel_is c y d')) (λ (o : b y ≡ true).
            can.apart y o u) (or_cases (same_channel c y) (b y) k))
            (λ (o : m x ≡ true).
            ⊎_elim (λ (d' : same_channel c y ≡ true).
            let u = clash_back layout x c (subst (λ (z : Channel). IsClash layout x z) (sym (same_channel_is c y d')) w) in
            can.apart x ((s.mine.split x).0 ∙ or_second (start x) (m x) o) u)
            (λ (o' : b y ≡ true). s.apart x y o o' w) (or_cases (same_channel c y) (b y) k))
            (or_cases (same_channel c x) (m x) h);
      }))
    where
      or_second : (a d : Bool) → d ≡ true → (a || d) ≡ true
      or_second true d h = refl
      or_second false d h = h

  pub shows_without : m c ≡ true → (row : List Bool) (g : ℕ) → row ≡ slice_set l.mine (place c) false → g ≡ group_of layout c
      → Shows layout start (without c b) (without c m) (record { found = l.found; mine = row; groups = slice_set l.groups g false })
  shows_without own row g e f =
      subst (λ (r : List Bool). Shows layout start (without c b) (without c m) (record {
        found = l.found;
        mine = r;
        groups = slice_set l.groups g false;
      })) (sym e)
      (subst (λ (a : ℕ). Shows layout start (without c b) (without c m) (record {
        found = l.found;
        mine = slice_set l.mine (place c) false;
        groups = slice_set l.groups a false;
      })) (sym f)
      (record {
        mine = tells_without start b m l.mine s.mine c i own;
        found_size = s.found_size;
        found = s.found;
        groups = groups_without layout b l.groups s.groups c below ((s.mine.split c).0 ∙ or_second (start c) (m c) own) (λ y o w. s.apart c y own o w);
        apart = λ x y h k w. s.apart x y (and_parts (not (same_channel c x)) (m x) h).1 (and_parts (not (same_channel c y)) (b y) k).1 w;
      }))
    where
      or_second : (a d : Bool) → d ≡ true → (a || d) ≡ true
      or_second true d h = refl
      or_second false d h = h

pub shows_start : (layout : Layout) (closed : List Channel) (found groups : List Bool) → length found ≡ channel_places → length groups ≡ 256
    → ChannelMarks closed found
    → GroupMarks layout closed groups
    → Shows layout (is_among closed) (is_among closed) none (record { found = found; mine = replicate channel_places false; groups = groups })
shows_start layout closed found groups s k f g = record {
  mine = tells_none (is_among closed);
  found_size = s;
  found = λ c i. f c i;
  groups = record {
    size = k;
    set = λ x h some below. g (group_of layout x) below
        ∙ any_among (in_group layout (group_of layout x)) closed x h (eq-eqb (group_of layout x) (group_of layout x) refl);
    found = λ n some below h.
        let r = among_any (in_group layout n) closed (sym (g n below) ∙ h) in
        (r.0, r.1, eqb-true (group_of layout r.0) n r.2);
  };
  apart = λ x y h. absurd (cc h);
}
