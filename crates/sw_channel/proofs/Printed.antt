-- What is printed is spelled so.
use Rattle.std.proofs.Common.{◌≡◌, ℕ, ◌+◌, ◌/◌, ◌%◌, ◌<◌, ◌≤◌, ◌≢◌, true, List, [], ◌∷◌, ◌++◌, length, refl, sym, ap, ◌∙◌, append_assoc, arith, drop, take}
use Rattle.std.proofs.Common.{Some, inl, inr, map, lit<}
use Rattle.std.specs.Prelude.{nat_le}
use Rattle.std.specs.List.{AllByRecursion, All}
use Rattle.std.proofs.lemmas.List.{append-nil}
use Rattle.std.proofs.lemmas.Bool.{cases_Bool, leb-false, le-leb}
use Rattle.std.proofs.Common.{suc, get_or, drop-cons, add-one, subst}
use Rattle.std.proofs.lemmas.List.Elements.{All-more, recursion_from_All}
use Rattle.std.proofs.Math.ListN.{drop_of_length-le}
use Rattle.std.proofs.lemmas.List.{take_all}
use Rattle.std.proofs.lemmas.Grind.{common_steps}
use Rattle.sw_base.specs.Text.{is_digit, AllPass}
use Rattle.sw_base.specs.Layout.{Channel}
use Rattle.sw_base.specs.Limits.{most_slots}
use Rattle.sw_channel.specs.Grammar.{WrittenChannel, plain, pair, ListItem, one, IsPadded, IsChannel, IsItem, AreJoined, PositionItem, joined, IsPositionItem}
use Rattle.sw_channel.specs.Meaning.{short_number, channel_of, channels_of, Names, Mean, Spells}
use Rattle.sw_channel.specs.Printing.{printed_number, printed_channel, printed_after, printed_joined, printed, printed_position, printed_positions, InRange}
use Rattle.sw_channel.specs.Printing.{IsPrintable}
use Rattle.sw_channel.specs.Positions.{Position}
use Rattle.sw_channel.specs.PositionMeaning.{NamePositions, SpellsPositions}

digit : (n : ℕ) → n ≤ 9 → is_digit (48 + n) ≡ true
digit n h = grind (arith, common_steps)

is_number : (ds : List ℕ) → AllPass is_digit ds → 0 < length ds → IsPadded ds ds
is_number ds a h = record { before = []; after = []; whole = sym (append-nil ds); before_blank = tt; after_blank = tt; digits_only = a; some = h }

number_printed : (c : ℕ) → c ≤ 99 → AllPass is_digit (printed_number c) × (0 < length (printed_number c)) × (short_number (printed_number c) ≡ Some c)
number_printed c h =
    elim (cases_Bool (nat_le 10 c)) [
      | inl t ↦ rw t ((digit (c / 10) (omega arith), (digit (c % 10) (omega arith), tt)), lit< tt, ap Some (omega arith))
      | inr t ↦ let k : c < 10 = leb-false 10 c t in rw t ((digit (c % 10) (omega arith), tt), lit< tt, ap Some (omega arith))
    ]

abbrev written : Channel → WrittenChannel
written c = pair (printed_number c.0) (printed_number c.1)

is_channel : (c : Channel) → InRange c → IsChannel (printed_channel c) (written c)
is_channel c r =
    let m = number_printed c.0 (omega (arith, r.1)) in
    let n = number_printed c.1 r.3 in
    record {
      left = printed_number c.0;
      right = printed_number c.1;
      first = is_number _ m.0 m.1;
      second =
          is_number _ n.0 n.1;
      whole = refl;
    }

means : (c : Channel) → InRange c → channel_of (written c) ≡ Some c
means c r =
    let n : short_number (printed_number c.1) ≡ Some c.1 = (number_printed c.1 r.3).2 in
    let e : short_number (printed_number c.0) ≡ Some c.0 = (number_printed c.0 (omega (arith, r.1))).2 in
    let a : nat_le 1 c.0 ≡ true = le-leb 1 c.0 r.0 in
    let b : nat_le c.0 most_slots ≡ true = le-leb c.0 most_slots r.1 in
    let g : nat_le 1 c.1 ≡ true = le-leb 1 c.1 r.2 in
    let k : nat_le c.1 99 ≡ true = le-leb c.1 99 r.3 in
    rw (n, e, a, b, g, k) refl

abbrev item_of : Channel → ListItem
item_of c = one (written c)

-- what is printed of each is written so, and so they are joined
are_joined : {V W : Type 0} (mark : ℕ) (Part : List ℕ → W → Type 0) (each : V → List ℕ) (spelled : V → W) (v : V) (vs : List V) → Part (each v) (spelled v)
    → AllByRecursion (λ u. Part (each u) (spelled u)) vs → AreJoined mark Part (each v ++ printed_after mark each vs) (map spelled (v ∷ vs))
are_joined mark Part each spelled v [] p a = rw append-nil p
are_joined mark Part each spelled v (u ∷ us) p a =
    record { left = each v; right = each u ++ printed_after mark each us; first = p; second = are_joined mark Part each spelled u us a.0 a.1; whole = refl }

weaker : {V : Type 0} {P Q : V → Type 0} → ((v : V) → P v → Q v) → (vs : List V) → AllByRecursion P vs → AllByRecursion Q vs
weaker f [] a = tt
weaker f (v ∷ vs) a = (f v a.0, weaker f vs a.1)

names : (c : Channel) → InRange c → channels_of (item_of c) ≡ Some (c ∷ [])
names c r = rw (means c r) refl

all_mean : (cs : List Channel) → AllByRecursion InRange cs → Mean Names (map item_of cs) cs
all_mean [] a = refl
all_mean (c ∷ cs) a = (c ∷ [], cs, names c a.0, all_mean cs a.1, refl)

pub printed_spells : (cs : List Channel) → cs ≢ [] → AllByRecursion InRange cs → Spells (printed cs) cs
printed_spells [] no_nil a = absurd (no_nil refl)
printed_spells (c ∷ cs) no_nil a =
    let parts = are_joined 44 IsItem printed_channel item_of c cs (is_channel c a.0) (weaker is_channel cs a.1) in
    (map item_of (c ∷ cs), (printed_joined 44 printed_channel (c ∷ cs), parts, refl), all_mean (c ∷ cs) a)

-- ---- positions

abbrev position_item_of : Position → PositionItem
position_item_of [] = joined (plain []) []
position_item_of (c ∷ p) = joined (written c) (map written p)

is_position_item : (p : Position) → IsPrintable p → IsPositionItem (printed_position p) (position_item_of p)
is_position_item [] g = let s = g.0.some in absurd (omega (arith, s))
is_position_item (c ∷ p) g = are_joined 38 IsChannel printed_channel written c p (is_channel c g.1.0) (weaker is_channel p g.1.1)

all_named : (p : Position) → AllByRecursion InRange p → map channel_of (map written p) ≡ map Some p
all_named [] a = refl
all_named (c ∷ p) a = let x = means c a.0 in let y = all_named p a.1 in cc

names_position : (p : Position) → IsPrintable p → NamePositions (position_item_of p) (p ∷ [])
names_position [] g = let s = g.0.some in absurd (omega (arith, s))
names_position (c ∷ p) g = (c ∷ p, all_named (c ∷ p) g.1, g.0, refl)

positions_mean : (ps : List Position) → AllByRecursion IsPrintable ps → Mean NamePositions (map position_item_of ps) ps
positions_mean [] a = refl
positions_mean (p ∷ ps) a = (p ∷ [], ps, names_position p a.0, positions_mean ps a.1, refl)

pub printed_spells_positions : (ps : List Position) → ps ≢ [] → AllByRecursion IsPrintable ps → SpellsPositions (printed_positions ps) ps
printed_spells_positions [] no_nil a = absurd (no_nil refl)
printed_spells_positions (p ∷ ps) no_nil a =
    let parts = are_joined 44 IsPositionItem printed_position position_item_of p ps (is_position_item p a.0) (weaker is_position_item ps a.1) in
    (map position_item_of (p ∷ ps), (printed_joined 44 printed_position (p ∷ ps), parts, refl), positions_mean (p ∷ ps) a)

-- ---- what is printed one after another

pub one_more : {V : Type 0} (mark : ℕ) (each : V → List ℕ) (out out1 out2 whole : List ℕ) (vs : List V) (i : ℕ) (v : V) → i < length vs → v ≡ get_or vs i v
    → out1 ≡ out ++ mark ∷ [] → out2 ≡ out1 ++ each v → out ++ printed_after mark each (drop i vs) ≡ whole
    → out2 ++ printed_after mark each (drop (i + 1) vs) ≡ whole
one_more {V = V} mark each out out1 out2 whole vs i v lt is e f h =
    let d : drop i vs ≡ v ∷ drop (suc i) vs = drop-cons vs i v lt ∙ ap (λ (x : V). x ∷ drop (suc i) vs) (sym is) in
    let g = rw d at h in
    rw (f, e, add-one) (let k : ((out ++ mark ∷ []) ++ each v) ++ printed_after mark each (drop (suc i) vs)
    ≡ out ++ mark ∷ (each v ++ printed_after mark each (drop (suc i) vs)) = simp append_assoc in k ∙ g)

pub all_more : {V : Type 0} (P : V → Type 0) (vs : List V) (i : ℕ) (v : V) → i < length vs → v ≡ get_or vs i v → All P (take i vs) → P v
    → All P (take (i + 1) vs)
all_more P vs i v lt is a r = All-more P vs i v lt a (subst P is r)

pub others_done : {V : Type 0} (mark : ℕ) (each : V → List ℕ) (out whole : List ℕ) (vs : List V) (i : ℕ) → length vs ≤ i
    → out ++ printed_after mark each (drop i vs) ≡ whole → out ≡ whole
others_done mark each out whole vs i le e = sym (append-nil out) ∙ (rw (drop_of_length-le vs le) at e)

pub all_over : {V : Type 0} (P : V → Type 0) (vs : List V) (i : ℕ) → length vs ≤ i → All P (take i vs) → AllByRecursion P vs
all_over P vs i le a = recursion_from_All P vs (rw (take_all i vs le) at a)
