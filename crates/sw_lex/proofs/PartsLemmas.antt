-- A header stands in the part of the table in which it is looked up.
use Rattle.std.proofs.Common.{◌≡◌, ℕ, Bool, true, false, not, List, [], ◌∷◌, refl, sym, ap, subst, ◌∙◌, inl, inr, Option, Some, None, ◌<◌, length, arith}
use Rattle.std.specs.Prelude.{codes, ◌==◌, ◌||◌, IfSome, IfNone}
use Rattle.std.specs.List.{filter, list_all, list_any}
use Rattle.std.proofs.lemmas.Bool.{and_parts, cases_Bool, eqb-true, eq-eqb}
use Rattle.sw_lex.specs.declared.table.HeaderMeaning.{HeaderMeaning}
use Rattle.sw_lex.specs.declared.rows.Subsystem.{Subsystem}
use Rattle.sw_lex.specs.Table.{HeaderEntry, table, entries}
use Rattle.sw_lex.specs.Found.{IsIn, Spelling, spellings, IsFound}
use Rattle.sw_lex.specs.Apart.{same_bool}
use Rattle.sw_lex.specs.Rows.{entries_of, Matches}
use Rattle.sw_lex.specs.Parts.{part_of, same_part, begins_words, belongs}
use Rattle.sw_lex.proofs.ApartLemmas.{same_bool-refl}
use Rattle.sw_lex.proofs.SpelledLemmas.{in_passes}
use Rattle.sw_lex.proofs.ListedLemmas.{matches_found, found_matches}

-- ---- what passes a test of the list

kept_in : {X : Type 0} (test : X → Bool) (x : X) (xs : List X) → IsIn x xs → test x ≡ true → IsIn x (filter test xs)
kept_in test x [] h t = absurd h
kept_in test x (y ∷ ys) h t =
    elim h [
      | inl e ↦ let p : test y ≡ true = subst (λ z. test z ≡ true) e t in rw p (inl e)
      | inr r ↦ elim (cases_Bool (test y)) [ inl p ↦ rw p (inr (kept_in test x ys r t)) | inr p ↦ rw p (kept_in test x ys r t) ]
    ]

in_kept : {X : Type 0} (test : X → Bool) (x : X) (xs : List X) → IsIn x (filter test xs) → IsIn x xs × (test x ≡ true)
in_kept test x [] h = absurd h
in_kept test x (y ∷ ys) h =
    elim (cases_Bool (test y)) [
      | inl p ↦ elim (rw p at h) [
        | inl e ↦ (inl e, ap test e ∙ p)
        | inr r ↦ let q = in_kept test x ys r in (inr q.0, q.1)
      ]
      | inr p ↦ let q = in_kept test x ys (rw p at h) in (inr q.0, q.1)
    ]

none_kept : {X : Type 0} (test : X → Bool) (xs : List X) → list_all (λ x. not (test x)) xs ≡ true → filter test xs ≡ []
none_kept test [] h = refl
none_kept test (y ∷ ys) h =
    let p = and_parts (not (test y)) (list_all (λ x. not (test x)) ys) h in
    elim (cases_Bool (test y)) [
      | inl q ↦ absurd (let z : not true ≡ true = rw q at p.0 in let w : false ≡ true = z in cc)
      | inr q ↦ rw q (none_kept test ys p.1)
    ]

any_in : {X : Type 0} (test : X → Bool) (x : X) (xs : List X) → IsIn x xs → test x ≡ true → list_any test xs ≡ true
any_in test x [] h t = absurd h
any_in test x (y ∷ ys) h t =
    elim h [
      | inl e ↦ let p : test y ≡ true = subst (λ z. test z ≡ true) e t in rw p refl
      | inr r ↦ elim (cases_Bool (test y)) [ inl p ↦ rw p refl | inr p ↦ rw p (any_in test x ys r t) ]
    ]

-- ---- what begins with the letter of a word

bools_same : (a b : Bool) → same_bool a b ≡ true → a ≡ b
bools_same true b h = sym h
bools_same false true h = absurd (let z : false ≡ true = h in cc)
bools_same false false h = refl

same_part-refl : (p : Bool × ℕ) → same_part p p ≡ true
same_part-refl p = rw (same_bool-refl p.0) (eq-eqb p.1 p.1 refl)

found_belongs : (w : List ℕ) (ws : List (List ℕ)) (query : Bool) (key : HeaderMeaning) (k : ℕ) (f : IsFound entries (w ∷ ws) query key k)
    → belongs (part_of w) query f.entry ≡ true
found_belongs w ws query key k f =
    let q : same_bool query f.entry.query ≡ true = subst (λ (b : Bool). same_bool query b ≡ true) (sym f.query_is) (same_bool-refl query) in
    let s : list_any (λ (s : Spelling). begins_words (part_of w) s.0) (spellings f.entry.nodes) ≡ true =
    any_in (λ (s : Spelling). begins_words (part_of w) s.0) (w ∷ ws, k) (spellings f.entry.nodes) f.spelled (same_part-refl (part_of w)) in
    rw (q, s) refl

-- what the groups of a part match is found
pub some_there : (part : Bool × ℕ) (groups : List Subsystem) (w : List ℕ) (ws : List (List ℕ)) (query : Bool) (o : Option (HeaderMeaning × ℕ))
    → entries_of groups ≡ filter (belongs part query) entries → IfSome o (λ x. (q : Bool) × Matches groups w ws q x.0 x.1)
    → IfSome o (λ x. IsFound entries (w ∷ ws) query x.0 x.1)
some_there part groups w ws query None e h = h
some_there part groups w ws query (Some x) e h =
    let f = matches_found groups w ws h.0 x.0 x.1 h.1 in
    let i = in_kept (belongs part query) f.entry entries (subst (λ (es : List HeaderEntry). IsIn f.entry es) e f.listed) in
    let b = and_parts (same_bool query f.entry.query) (list_any (λ (s : Spelling). begins_words part s.0) (spellings f.entry.nodes)) i.1 in
    record { entry = f.entry; listed = i.0; query_is = sym (bools_same query f.entry.query b.0); key_is = f.key_is; spelled = f.spelled }

pub none_there : (groups : List Subsystem) (w : List ℕ) (ws : List (List ℕ)) (query : Bool) (o : Option (HeaderMeaning × ℕ))
    → entries_of groups ≡ filter (belongs (part_of w) query) entries → IfNone o ((q : Bool) (key : HeaderMeaning) (k : ℕ) → Matches groups w ws q key k → ⊥)
    → IfNone o ((key : HeaderMeaning) (k : ℕ) → IsFound entries (w ∷ ws) query key k → ⊥)
none_there groups w ws query None e h =
    λ key k f. h query key k (found_matches groups w ws query key k (record {
      entry = f.entry;
      listed = subst (λ (es : List HeaderEntry). IsIn f.entry es) (sym e)
          (kept_in (belongs (part_of w) query) f.entry entries f.listed (found_belongs w ws query key k f));
      query_is = f.query_is;
      key_is = f.key_is;
      spelled = f.spelled;
    }))
none_there groups w ws query (Some x) e h = h

pub at_letter : (starred : Bool) (x y : ℕ) (query : Bool) (es : List HeaderEntry) → x ≡ y → es ≡ filter (belongs (starred, y) query) entries
    → es ≡ filter (belongs (starred, x) query) entries
at_letter starred x y query es e h = h ∙ ap (λ (z : ℕ). filter (belongs (starred, z) query) entries) (sym e)

-- ---- no header without a node

abbrev is_nil : List (List ℕ) → Bool
is_nil [] = true
is_nil (w ∷ ws) = false

abbrev has_node : Spelling → Bool
has_node s = not (is_nil s.0)

have_nodes : list_all (λ e. list_all has_node (spellings e.nodes)) entries ≡ true
unfolding table entries
have_nodes = refl

pub nothing_there : (query : Bool) (key : HeaderMeaning) (k : ℕ) → IsFound entries [] query key k → ⊥
nothing_there query key k f =
    let p = in_passes has_node ([], k) (spellings f.entry.nodes)
    (in_passes (λ (e : HeaderEntry). list_all has_node (spellings e.nodes)) f.entry entries have_nodes f.listed) f.spelled in
    let z : false ≡ true = p in cc

-- ---- letters with which no header begins

-- whether the words begin otherwise, or with one of these letters
abbrev begins_known : Bool → List ℕ → List (List ℕ) → Bool
begins_known starred letters [] = true
begins_known starred letters (w ∷ ws) = not (same_bool starred (part_of w).0) || list_any (λ y. y == (part_of w).1) letters

abbrev all_known : Bool → List ℕ → Bool
all_known starred letters = list_all (λ e. list_all (λ s. begins_known starred letters s.0) (spellings e.nodes)) entries

unknown : (starred : Bool) (x : ℕ) (letters : List ℕ) (ws : List (List ℕ)) → list_any (λ y. y == x) letters ≡ false → begins_known starred letters ws ≡ true
    → begins_words (starred, x) ws ≡ false
unknown starred x letters [] n h = refl
unknown starred x letters (w ∷ ws) n h =
    elim (cases_Bool (same_bool starred (part_of w).0)) [
      | inl s ↦ elim (cases_Bool (x == (part_of w).1)) [
        | inl e ↦ absurd (let a : list_any (λ y. y == (part_of w).1) letters ≡ true = rw s at h in
            let b : list_any (λ y. y == x) letters ≡ true = subst (λ (z : ℕ). list_any (λ y. y == z) letters ≡ true) (sym (eqb-true x (part_of w).1 e)) a in
            let z : true ≡ false = sym b ∙ n in cc)
        | inr e ↦ rw (s, e) refl
      ]
      | inr s ↦ rw s refl
    ]

none_begins : (starred : Bool) (x : ℕ) (letters : List ℕ) (ss : List Spelling) → list_any (λ y. y == x) letters ≡ false
    → list_all (λ s. begins_known starred letters s.0) ss ≡ true → list_any (λ s. begins_words (starred, x) s.0) ss ≡ false
none_begins starred x letters [] n h = refl
none_begins starred x letters (s ∷ ss) n h =
    let p = and_parts (begins_known starred letters s.0) (list_all (λ (s : Spelling). begins_known starred letters s.0) ss) h in
    rw (unknown starred x letters s.0 n p.0, none_begins starred x letters ss n p.1) refl

none_of : (starred : Bool) (x : ℕ) (letters : List ℕ) (query : Bool) (es : List HeaderEntry) → list_any (λ y. y == x) letters ≡ false
    → list_all (λ e. list_all (λ s. begins_known starred letters s.0) (spellings e.nodes)) es ≡ true
    → filter (belongs (starred, x) query) es ≡ []
none_of starred x letters query [] n h = refl
none_of starred x letters query (e ∷ es) n h =
    let p = and_parts (list_all (λ (s : Spelling). begins_known starred letters s.0) (spellings e.nodes))
    (list_all (λ (e : HeaderEntry). list_all (λ (s : Spelling). begins_known starred letters s.0) (spellings e.nodes)) es) h in
    elim (cases_Bool (same_bool query e.query)) [
      | inl s ↦ rw (s, none_begins starred x letters (spellings e.nodes) n p.0) (none_of starred x letters query es n p.1)
      | inr s ↦ rw s (none_of starred x letters query es n p.1)
    ]

abbrev pub path_letters : List ℕ
path_letters = codes "AITRSDF"

abbrev pub common_letters : List ℕ
common_letters = codes "IROWTCESDGLP"

paths_known : all_known false path_letters ≡ true
unfolding table entries
paths_known = refl

common_known : all_known true common_letters ≡ true
unfolding table entries
common_known = refl

pub no_paths : (x : ℕ) → list_any (λ y. y == x) path_letters ≡ false → (query : Bool) → [] ≡ filter (belongs (false, x) query) entries
no_paths x n query = sym (none_of false x path_letters query entries n paths_known)

pub no_common : (x : ℕ) → list_any (λ y. y == x) common_letters ≡ false → (query : Bool) → [] ≡ filter (belongs (true, x) query) entries
no_common x n query = sym (none_of true x common_letters query entries n common_known)

pub no_word : (w : List ℕ) → length w < 1 → w ≡ []
no_word [] l = refl
no_word (b ∷ w) l = absurd (omega (arith, l))
