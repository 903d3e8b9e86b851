-- From the test over the table to its rule.
use Rattle.std.proofs.Common.{◌≡◌, ℕ, Bool, true, false, not, List, [], ◌∷◌, refl, sym, ap, subst, ◌∙◌, inl, inr, IsTrue}
use Rattle.std.specs.Prelude.{◌==◌, ◌&&◌, ◌||◌}
use Rattle.std.proofs.lemmas.Bool.{and_parts, eq-eqb, eqb-true, cases_Bool}
use Rattle.sw_lex.specs.Table.{HeaderEntry, table, entries}
use Rattle.sw_lex.specs.declared.table.HeaderMeaning.{HeaderMeaning}
use Rattle.sw_lex.specs.Found.{IsIn, Spelling, spellings, IsFound}
use Rattle.sw_lex.proofs.SpelledLemmas.{all_short, all_fit}
use Rattle.sw_lex.specs.Apart.{same_word, same_words, lacks_words, disjoint, one_number, numbers_agree, same_bool, apart_from, all_apart}

pub entries_apart : all_apart entries ≡ true
unfolding table entries
entries_apart = refl

pub same_word-refl : (x : List ℕ) → same_word x x ≡ true
same_word-refl [] = refl
same_word-refl (b ∷ x) = rw (eq-eqb b b refl) (same_word-refl x)

pub same_eq : (x y : List ℕ) → same_word x y ≡ true → x ≡ y
same_eq [] [] h = refl
same_eq [] (y ∷ ys) h = absurd (let z : false ≡ true = h in cc)
same_eq (x ∷ xs) [] h = absurd (let z : false ≡ true = h in cc)
same_eq (x ∷ xs) (y ∷ ys) h =
    let p = and_parts (x == y) (same_word xs ys) h in
    let a : x ≡ y = eqb-true x y p.0 in
    let b : xs ≡ ys = same_eq xs ys p.1 in
    cc

pub bool_same : (b : Bool) (x y : List ℕ) → (IsTrue b → x ≡ y) × (x ≡ y → IsTrue b) → b ≡ same_word x y
bool_same b x y h =
    elim (cases_Bool (same_word x y)) [
      | inl s ↦ h.1 (same_eq x y s) ∙ sym s
      | inr s ↦ elim (cases_Bool b) [
        | inl t ↦ absurd (let z : true ≡ false = sym (subst (λ (w : List ℕ). same_word x w ≡ true) (h.0 t) (same_word-refl x)) ∙ s in cc)
        | inr t ↦ t ∙ sym s
      ]
    ]

same_words-refl : (ws : List (List ℕ)) → same_words ws ws ≡ true
same_words-refl [] = refl
same_words-refl (x ∷ ws) = rw (same_word-refl x) (same_words-refl ws)

pub same_bool-refl : (b : Bool) → same_bool b b ≡ true
same_bool-refl true = refl
same_bool-refl false = refl

lacks_not : (ws : List (List ℕ)) (k : ℕ) (ss : List Spelling) → lacks_words ws ss ≡ true → IsIn (ws, k) ss → ⊥
lacks_not ws k [] t h = h
lacks_not ws k (s ∷ ss) t h =
    let p = and_parts (not (same_words ws s.0)) (lacks_words ws ss) t in
    elim h [
      | inl e ↦
          let a : ws ≡ s.0 = ap (λ (x : Spelling). x.0) e in
          let b : same_words ws s.0 ≡ true = subst (λ (x : List (List ℕ)). same_words ws x ≡ true) a (same_words-refl ws) in
          let z : not true ≡ true = rw b at p.0 in cc
      | inr r ↦ lacks_not ws k ss p.1 r
    ]

disjoint_not : (ws : List (List ℕ)) (k m : ℕ) (ss ts : List Spelling) → disjoint ss ts ≡ true → IsIn (ws, k) ss → IsIn (ws, m) ts → ⊥
disjoint_not ws k m [] ts t h g = h
disjoint_not ws k m (s ∷ ss) ts t h g =
    let p = and_parts (lacks_words s.0 ts) (disjoint ss ts) t in
    elim h [
      | inl e ↦ let a : ws ≡ s.0 = ap (λ (x : Spelling). x.0) e in lacks_not ws m ts (subst (λ (x : List (List ℕ)). lacks_words x ts ≡ true) (sym a) p.0) g
      | inr r ↦ disjoint_not ws k m ss ts p.1 r g
    ]

one_at : (ws : List (List ℕ)) (k m : ℕ) (ss : List Spelling) → one_number (ws, k) ss ≡ true → IsIn (ws, m) ss → k ≡ m
one_at ws k m [] t h = absurd h
one_at ws k m (s ∷ ss) t h =
    let p = and_parts (not (same_words ws s.0) || k == s.1) (one_number (ws, k) ss) t in
    elim h [
      | inl e ↦
          let a : ws ≡ s.0 = ap (λ (x : Spelling). x.0) e in
          let c : m ≡ s.1 = ap (λ (x : Spelling). x.1) e in
          let b : same_words ws s.0 ≡ true = subst (λ (x : List (List ℕ)). same_words ws x ≡ true) a (same_words-refl ws) in
          let z : (k == s.1) ≡ true = rw b at p.0 in
          eqb-true k s.1 z ∙ sym c
      | inr r ↦ one_at ws k m ss p.1 r
    ]

agree : (ws : List (List ℕ)) (k m : ℕ) (ss : List Spelling) → numbers_agree ss ≡ true → IsIn (ws, k) ss → IsIn (ws, m) ss → k ≡ m
agree ws k m [] t h g = absurd h
agree ws k m (s ∷ ss) t h g =
    let p = and_parts (one_number s ss) (numbers_agree ss) t in
    elim h [
      | inl e ↦ elim g [
        | inl f ↦ ap (λ (x : Spelling). x.1) (e ∙ sym f)
        | inr r ↦ one_at ws k m ss (subst (λ (x : Spelling). one_number x ss ≡ true) (sym e) p.0) r
      ]
      | inr q ↦ elim g [
        | inl f ↦ sym (one_at ws m k ss (subst (λ (x : Spelling). one_number x ss ≡ true) (sym f) p.0) q)
        | inr r ↦ agree ws k m ss p.1 q r
      ]
    ]

apart_at : (r q : HeaderEntry) (es : List HeaderEntry) → apart_from r es ≡ true → IsIn q es → r.query ≡ q.query
    → disjoint (spellings r.nodes) (spellings q.nodes) ≡ true
apart_at r q [] t h e = absurd h
apart_at r q (x ∷ es) t h e =
    let p = and_parts (not (same_bool r.query x.query) || disjoint (spellings r.nodes) (spellings x.nodes)) (apart_from r es) t in
    elim h [
      | inl i ↦
          let b : same_bool r.query x.query ≡ true =
          subst (λ (y : Bool). same_bool r.query y ≡ true) (e ∙ ap (λ (y : HeaderEntry). y.query) i) (same_bool-refl r.query) in
          let z : disjoint (spellings r.nodes) (spellings x.nodes) ≡ true = rw b at p.0 in
          subst (λ (y : HeaderEntry). disjoint (spellings r.nodes) (spellings y.nodes) ≡ true) (sym i) z
      | inr i ↦ apart_at r q es p.1 i e
    ]

one_entry : (es : List HeaderEntry) → all_apart es ≡ true → (r q : HeaderEntry) (ws : List (List ℕ)) (k m : ℕ) → IsIn r es → IsIn q es → r.query ≡ q.query
    → IsIn (ws, k) (spellings r.nodes) → IsIn (ws, m) (spellings q.nodes) → (r.key ≡ q.key) × (k ≡ m)
one_entry [] t r q ws k m h g e a b = absurd h
one_entry (x ∷ es) t r q ws k m h g e a b =
    let p = and_parts (apart_from x es) (numbers_agree (spellings x.nodes) && all_apart es) t in
    let s = and_parts (numbers_agree (spellings x.nodes)) (all_apart es) p.1 in
    elim h [
      | inl i ↦ elim g [
        | inl j ↦ (
          ap (λ (y : HeaderEntry). y.key) (i ∙ sym j),
          agree ws k m (spellings x.nodes) s.0 (subst (λ (y : HeaderEntry). IsIn (ws, k) (spellings y.nodes)) i a)
              (subst (λ (y : HeaderEntry). IsIn (ws, m) (spellings y.nodes)) j b),
        )
        | inr j ↦ absurd (disjoint_not ws k m (spellings x.nodes) (spellings q.nodes) (apart_at x q es p.0 j (ap (λ (y : HeaderEntry). y.query) (sym i) ∙ e))
            (subst (λ (y : HeaderEntry). IsIn (ws, k) (spellings y.nodes)) i a) b)
      ]
      | inr i ↦ elim g [
        | inl j ↦ absurd (disjoint_not ws m k (spellings x.nodes) (spellings r.nodes)
            (apart_at x r es p.0 i (ap (λ (y : HeaderEntry). y.query) (sym j) ∙ sym e))
            (subst (λ (y : HeaderEntry). IsIn (ws, m) (spellings y.nodes)) j b) a)
        | inr j ↦ one_entry es s.1 r q ws k m i j e a b
      ]
    ]

pub one_found : (es : List HeaderEntry) → all_apart es ≡ true → (ws : List (List ℕ)) (query : Bool) (key other : HeaderMeaning) (k m : ℕ) → IsFound es ws query key k
    → IsFound es ws query other m → (key ≡ other) × (k ≡ m)
one_found es t ws query key other k m f g =
    let r = one_entry es t f.entry g.entry ws k m f.listed g.listed (f.query_is ∙ sym g.query_is) f.spelled g.spelled in
    (sym f.key_is ∙ r.0 ∙ g.key_is, r.1)

pub entries_short : all_short entries ≡ true
unfolding table entries
entries_short = refl

pub entries_fit : all_fit entries ≡ true
unfolding table entries
entries_fit = refl
