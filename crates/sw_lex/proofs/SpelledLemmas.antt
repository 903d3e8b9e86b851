-- The spellings that are listed are those that fit.
use Rattle.std.proofs.Common.{◌≡◌, ℕ, zero, suc, List, [], ◌∷◌, ◌++◌, refl, sym, ap, subst, ◌∙◌, ◌⊎◌, inl, inr, Bool, true, length, ◌<◌, ◌≤◌}
use Rattle.std.proofs.Common.{nat_le, arith}
use Rattle.std.specs.Prelude.{◌==◌}
use Rattle.std.proofs.lemmas.Bool.{and_parts, cases_Bool, eqb-true, eqb-false}
use Rattle.std.proofs.lemmas.Grind.{common_steps}
use Rattle.std.specs.List.{list_all}
use Rattle.sw_lex.specs.declared.table.HeaderMeaning.{HeaderMeaning}
use Rattle.sw_lex.specs.Words.{short_of, long_of}
use Rattle.sw_lex.specs.Table.{Node, must, may, numbered, HeaderEntry}
use Rattle.sw_base.specs.Limits.{most_arm_layers}
use Rattle.sw_lex.specs.Found.{IsIn, Spelling, after_word, after_numbered, after_either, with_digit, after_number, after_numbers, spellings, IsForm}
use Rattle.sw_lex.specs.Found.{HasNumber, Fits, IsFound}

pub in_left : {X : Type 0} (x : X) (xs ys : List X) → IsIn x xs → IsIn x (xs ++ ys)
in_left x [] ys h = absurd h
in_left x (z ∷ xs) ys h = elim h [ inl e ↦ inl e | inr r ↦ inr (in_left x xs ys r) ]

pub in_right : {X : Type 0} (x : X) (xs ys : List X) → IsIn x ys → IsIn x (xs ++ ys)
in_right x [] ys h = h
in_right x (z ∷ xs) ys h = inr (in_right x xs ys h)

pub in_cases : {X : Type 0} (x : X) (xs ys : List X) → IsIn x (xs ++ ys) → IsIn x xs ⊎ IsIn x ys
in_cases x [] ys h = inr h
in_cases x (z ∷ xs) ys h = elim h [ inl e ↦ inl (inl e) | inr r ↦ elim (in_cases x xs ys r) [ inl l ↦ inl (inr l) | inr q ↦ inr q ] ]

-- each of these passes the test
pub in_passes : {X : Type 0} (test : X → Bool) (x : X) (xs : List X) → list_all test xs ≡ true → IsIn x xs → test x ≡ true
in_passes test x [] t h = absurd h
in_passes test x (y ∷ ys) t h =
    let p = and_parts (test y) (list_all test ys) t in
    elim h [ inl e ↦ ap test e ∙ p.0 | inr i ↦ in_passes test x ys p.1 i ]

abbrev spelling : List (List ℕ) → ℕ → Spelling
spelling ws k = (ws, k)

pair_is : (ws vs : List (List ℕ)) (k m : ℕ) → ws ≡ vs → k ≡ m → spelling ws k ≡ spelling vs m
pair_is ws vs k m a b = ap (λ (v : List (List ℕ)). spelling v k) a ∙ ap (λ (j : ℕ). spelling vs j) b

-- a word put in front
word_in : (w : List ℕ) (ws : List (List ℕ)) (k : ℕ) (rest : List Spelling) → IsIn (ws, k) rest → IsIn (w ∷ ws, k) (after_word w rest)
word_in w ws k [] h = absurd h
word_in w ws k (s ∷ rest) h = elim h [ inl e ↦ inl (ap (λ (t : Spelling). (w ∷ t.0, t.1)) e) | inr r ↦ inr (word_in w ws k rest r) ]

in_word : (w x : List ℕ) (ws : List (List ℕ)) (k : ℕ) (rest : List Spelling) → IsIn (x ∷ ws, k) (after_word w rest) → (x ≡ w) × IsIn (ws, k) rest
in_word w x ws k [] h = absurd h
in_word w x ws k (s ∷ rest) h =
    elim h [
      | inl e ↦
          let a : x ∷ ws ≡ w ∷ s.0 = ap (λ (t : Spelling). t.0) e in
          let b : k ≡ s.1 = ap (λ (t : Spelling). t.1) e in
          let c : ws ≡ s.0 = cc in
          (let d : x ≡ w = cc in d, inl (pair_is ws s.0 k s.1 c b))
      | inr r ↦ let q = in_word w x ws k rest r in (q.0, inr q.1)
    ]

no_word : (w : List ℕ) (k : ℕ) (rest : List Spelling) → IsIn ([], k) (after_word w rest) → ⊥
no_word w k [] h = h
no_word w k (s ∷ rest) h = elim h [ inl e ↦ let a : [] ≡ w ∷ s.0 = ap (λ (t : Spelling). t.0) e in cc | inr r ↦ no_word w k rest r ]

-- a word with a number put in front
numbered_in : (w : List ℕ) (n : ℕ) (ws : List (List ℕ)) (m : ℕ) (rest : List Spelling) → IsIn (ws, m) rest → IsIn (w ∷ ws, n) (after_numbered w n rest)
numbered_in w n ws m [] h = absurd h
numbered_in w n ws m (s ∷ rest) h = elim h [ inl e ↦ inl (ap (λ (t : Spelling). (w ∷ t.0, n)) e) | inr r ↦ inr (numbered_in w n ws m rest r) ]

in_numbered : (w : List ℕ) (n : ℕ) (x : List ℕ) (ws : List (List ℕ)) (k : ℕ) (rest : List Spelling) → IsIn (x ∷ ws, k) (after_numbered w n rest)
    → (x ≡ w) × (k ≡ n) × ((m : ℕ) × IsIn (ws, m) rest)
in_numbered w n x ws k [] h = absurd h
in_numbered w n x ws k (s ∷ rest) h =
    elim h [
      | inl e ↦
          let a : x ∷ ws ≡ w ∷ s.0 = ap (λ (t : Spelling). t.0) e in
          let b : k ≡ n = ap (λ (t : Spelling). t.1) e in
          let c : ws ≡ s.0 = cc in
          (let d : x ≡ w = cc in d, b, (s.1, inl (ap (λ (v : List (List ℕ)). (v, s.1)) c)))
      | inr r ↦ let q = in_numbered w n x ws k rest r in (q.0, q.1, (q.2.0, inr q.2.1))
    ]

no_numbered : (w : List ℕ) (n k : ℕ) (rest : List Spelling) → IsIn ([], k) (after_numbered w n rest) → ⊥
no_numbered w n k [] h = h
no_numbered w n k (s ∷ rest) h = elim h [ inl e ↦ let a : [] ≡ w ∷ s.0 = ap (λ (t : Spelling). t.0) e in cc | inr r ↦ no_numbered w n k rest r ]

-- either form put in front
either_in : (w : List ℕ) (x : List ℕ) (ws : List (List ℕ)) (k : ℕ) (rest : List Spelling) → IsForm w x → IsIn (ws, k) rest
    → IsIn (x ∷ ws, k) (after_either w rest)
either_in w x ws k rest f h =
    elim f [
      | inl e ↦ rw e (in_left _ (after_word (short_of w) rest) (after_word (long_of w) rest) (word_in (short_of w) ws k rest h))
      | inr e ↦ rw e (in_right _ (after_word (short_of w) rest) (after_word (long_of w) rest) (word_in (long_of w) ws k rest h))
    ]

in_either : (w : List ℕ) (x : List ℕ) (ws : List (List ℕ)) (k : ℕ) (rest : List Spelling) → IsIn (x ∷ ws, k) (after_either w rest)
    → IsForm w x × IsIn (ws, k) rest
in_either w x ws k rest h =
    elim (in_cases (x ∷ ws, k) (after_word (short_of w) rest) (after_word (long_of w) rest) h) [
      | inl a ↦ let q = in_word (short_of w) x ws k rest a in (inl q.0, q.1)
      | inr a ↦ let q = in_word (long_of w) x ws k rest a in (inr q.0, q.1)
    ]

no_either : (w : List ℕ) (k : ℕ) (rest : List Spelling) → IsIn ([], k) (after_either w rest) → ⊥
no_either w k rest h = elim (in_cases ([], k) (after_word (short_of w) rest) (after_word (long_of w) rest) h) [
  | inl a ↦ no_word (short_of w) k rest a
  | inr a ↦
      no_word (long_of w) k rest a
]

number_in : (w : List ℕ) (n : ℕ) (x : List ℕ) (ws : List (List ℕ)) (m : ℕ) (rest : List Spelling) → HasNumber w n x → IsIn (ws, m) rest
    → IsIn (x ∷ ws, n) (after_number w n rest)
number_in w n x ws m rest f h =
    let short = after_numbered (with_digit (short_of w) n) n rest in
    let long = after_numbered (with_digit (long_of w) n) n rest in
    elim f [
      | inl e ↦ rw e (in_left _ short long (numbered_in (with_digit (short_of w) n) n ws m rest h))
      | inr e ↦ rw e (in_right _ short long (numbered_in (with_digit (long_of w) n) n ws m rest h))
    ]

in_number : (w : List ℕ) (n : ℕ) (x : List ℕ) (ws : List (List ℕ)) (k : ℕ) (rest : List Spelling) → IsIn (x ∷ ws, k) (after_number w n rest)
    → HasNumber w n x × (k ≡ n) × ((m : ℕ) × IsIn (ws, m) rest)
in_number w n x ws k rest h =
    elim (in_cases (x ∷ ws, k) (after_numbered (with_digit (short_of w) n) n rest) (after_numbered (with_digit (long_of w) n) n rest) h) [
      | inl a ↦ let q = in_numbered (with_digit (short_of w) n) n x ws k rest a in (inl q.0, q.1, q.2)
      | inr a ↦ let q = in_numbered (with_digit (long_of w) n) n x ws k rest a in (inr q.0, q.1, q.2)
    ]

no_number : (w : List ℕ) (n k : ℕ) (rest : List Spelling) → IsIn ([], k) (after_number w n rest) → ⊥
no_number w n k rest h =
    elim (in_cases ([], k) (after_numbered (with_digit (short_of w) n) n rest) (after_numbered (with_digit (long_of w) n) n rest) h) [
      | inl a ↦ no_numbered _ n k rest a
      | inr a ↦ no_numbered _ n k rest a
    ]

-- each number up to n put in front
numbers_in : (w : List ℕ) (n k : ℕ) (x : List ℕ) (ws : List (List ℕ)) (m : ℕ) (rest : List Spelling) → 1 ≤ k → k ≤ n → HasNumber w k x → IsIn (ws, m) rest
    → IsIn (x ∷ ws, k) (after_numbers w n rest)
numbers_in w zero k x ws m rest low high f h = absurd (omega (arith, low, high))
numbers_in w (suc n) k x ws m rest low high f h =
    elim (cases_Bool (k == suc n)) [
      | inl e ↦
          let last : HasNumber w (suc n) x = subst (λ (j : ℕ). HasNumber w j x) (eqb-true k (suc n) e) f in
          in_right _ (after_numbers w n rest) (after_number w (suc n) rest)
          (subst (λ (j : ℕ). IsIn (x ∷ ws, j) (after_number w (suc n) rest)) (sym (eqb-true k (suc n) e)) (number_in w (suc n) x ws m rest last h))
      | inr e ↦
          in_left _ (after_numbers w n rest) (after_number w (suc n) rest)
          (numbers_in w n k x ws m rest low (omega (arith, high, eqb-false k (suc n) e)) f h)
    ]

in_numbers : (w : List ℕ) (n : ℕ) (x : List ℕ) (ws : List (List ℕ)) (k : ℕ) (rest : List Spelling) → IsIn (x ∷ ws, k) (after_numbers w n rest)
    → (1 ≤ k) × (k ≤ n) × HasNumber w k x × ((m : ℕ) × IsIn (ws, m) rest)
in_numbers w zero x ws k rest h = absurd h
in_numbers w (suc n) x ws k rest h =
    elim (in_cases (x ∷ ws, k) (after_numbers w n rest) (after_number w (suc n) rest) h) [
      | inl a ↦ let q = in_numbers w n x ws k rest a in (q.0, omega (arith, q.1), q.2, q.3)
      | inr a ↦
          let q = in_number w (suc n) x ws k rest a in
          (omega (arith, q.1), omega (arith, q.1), subst (λ (j : ℕ). HasNumber w j x) (sym q.1) q.0, q.2)
    ]

no_numbers : (w : List ℕ) (n k : ℕ) (rest : List Spelling) → IsIn ([], k) (after_numbers w n rest) → ⊥
no_numbers w zero k rest h = h
no_numbers w (suc n) k rest h =
    elim (in_cases ([], k) (after_numbers w n rest) (after_number w (suc n) rest) h) [
      | inl a ↦ no_numbers w n k rest a
      | inr a ↦ no_number w (suc n) k rest a
    ]

-- ---- what fits is listed

numbered_last : (w : List ℕ) (ss : List Node) (ws : List (List ℕ)) (k : ℕ) → IsIn (ws, k) (spellings ss) → IsIn (ws, k) (spellings (numbered w ∷ ss))
numbered_last w ss ws k h =
    in_right _ (after_either w (spellings ss)) _ (in_right _ (after_numbers w most_arm_layers (spellings ss)) (spellings ss) h)

numbered_cases : (w : List ℕ) (ss : List Node) (ws : List (List ℕ)) (k : ℕ) → IsIn (ws, k) (spellings (numbered w ∷ ss))
    → IsIn (ws, k) (after_either w (spellings ss)) ⊎ (IsIn (ws, k) (after_numbers w most_arm_layers (spellings ss)) ⊎ IsIn (ws, k) (spellings ss))
numbered_cases w ss ws k h =
    elim (in_cases _ (after_either w (spellings ss)) _ h) [
      | inl a ↦ inl a
      | inr a ↦ inr (in_cases _ (after_numbers w most_arm_layers (spellings ss)) (spellings ss) a)
    ]

pub fits_listed : (ss : List Node) (ws : List (List ℕ)) (k : ℕ) → Fits ss ws k → IsIn (ws, k) (spellings ss)
fits_listed [] ws k f = inl (rw (f.0, f.1) refl)
fits_listed (must w ∷ ss) [] k f = absurd f
fits_listed (must w ∷ ss) (x ∷ ws) k f = either_in w x ws k (spellings ss) f.0 (fits_listed ss ws k f.1)
fits_listed (may w ∷ ss) [] k f = in_right _ (after_either w (spellings ss)) (spellings ss) (fits_listed ss [] k f)
fits_listed (may w ∷ ss) (x ∷ ws) k f =
    elim f [
      | inl a ↦ in_left _ (after_either w (spellings ss)) (spellings ss) (either_in w x ws k (spellings ss) a.0 (fits_listed ss ws k a.1))
      | inr a ↦ in_right _ (after_either w (spellings ss)) (spellings ss) (fits_listed ss (x ∷ ws) k a)
    ]
fits_listed (numbered w ∷ ss) [] k f = numbered_last w ss [] k (fits_listed ss [] k f)
fits_listed (numbered w ∷ ss) (x ∷ ws) k f =
    elim f [
      | inl a ↦ in_left _ (after_either w (spellings ss)) _ (either_in w x ws k (spellings ss) a.0 (fits_listed ss ws k a.1))
      | inr a ↦ elim a [
        | inl b ↦ in_right _ (after_either w (spellings ss)) _ (in_left _ (after_numbers w most_arm_layers (spellings ss)) _
            (numbers_in w most_arm_layers k x ws b.0 (spellings ss) b.2.0 b.2.1 b.2.2 (fits_listed ss ws b.0 b.1)))
        | inr b ↦ numbered_last w ss (x ∷ ws) k (fits_listed ss (x ∷ ws) k b)
      ]
    ]

pub listed_fits : (ss : List Node) (ws : List (List ℕ)) (k : ℕ) → IsIn (ws, k) (spellings ss) → Fits ss ws k
listed_fits [] ws k h = elim h [ inl e ↦ (ap (λ (t : Spelling). t.0) e, ap (λ (t : Spelling). t.1) e) | inr r ↦ absurd r ]
listed_fits (must w ∷ ss) [] k h = no_either w k (spellings ss) h
listed_fits (must w ∷ ss) (x ∷ ws) k h = let q = in_either w x ws k (spellings ss) h in (q.0, listed_fits ss ws k q.1)
listed_fits (may w ∷ ss) [] k h =
    elim (in_cases ([], k) (after_either w (spellings ss)) (spellings ss) h) [ inl a ↦ absurd (no_either w k (spellings ss) a) | inr a ↦ listed_fits ss [] k a ]
listed_fits (may w ∷ ss) (x ∷ ws) k h =
    elim (in_cases (x ∷ ws, k) (after_either w (spellings ss)) (spellings ss) h) [
      | inl a ↦ let q = in_either w x ws k (spellings ss) a in inl (q.0, listed_fits ss ws k q.1)
      | inr a ↦ inr (listed_fits ss (x ∷ ws) k a)
    ]
listed_fits (numbered w ∷ ss) [] k h =
    elim (numbered_cases w ss [] k h) [
      | inl a ↦ absurd (no_either w k (spellings ss) a)
      | inr a ↦ elim a [ inl b ↦ absurd (no_numbers w most_arm_layers k (spellings ss) b) | inr b ↦ listed_fits ss [] k b ]
    ]
listed_fits (numbered w ∷ ss) (x ∷ ws) k h =
    elim (numbered_cases w ss (x ∷ ws) k h) [
      | inl a ↦ let q = in_either w x ws k (spellings ss) a in inl (q.0, listed_fits ss ws k q.1)
      | inr a ↦ elim a [
        | inl b ↦
            let q = in_numbers w most_arm_layers x ws k (spellings ss) b in
            inr (inl (q.3.0, listed_fits ss ws q.3.0 q.3.1, (q.0, q.1, q.2)))
        | inr b ↦ inr (inr (listed_fits ss (x ∷ ws) k b))
      ]
    ]

-- ---- no header has more than four nodes

abbrev pub all_short : List HeaderEntry → Bool
all_short entries = list_all (λ e. nat_le (length e.nodes) 4) entries

fits_length : (ss : List Node) (ws : List (List ℕ)) (k : ℕ) → Fits ss ws k → length ws ≤ length ss
fits_length [] ws k f = rw f.0 (omega arith)
fits_length (must w ∷ ss) [] k f = absurd f
fits_length (must w ∷ ss) (x ∷ ws) k f = omega (arith, fits_length ss ws k f.1)
fits_length (may w ∷ ss) [] k f = omega arith
fits_length (may w ∷ ss) (x ∷ ws) k f = elim f [ inl a ↦ omega (arith, fits_length ss ws k a.1) | inr a ↦ omega (arith, fits_length ss (x ∷ ws) k a) ]
fits_length (numbered w ∷ ss) [] k f = omega arith
fits_length (numbered w ∷ ss) (x ∷ ws) k f =
    elim f [
      | inl a ↦ omega (arith, fits_length ss ws k a.1)
      | inr a ↦ elim a [ inl b ↦ omega (arith, fits_length ss ws b.0 b.1) | inr b ↦ omega (arith, fits_length ss (x ∷ ws) k b) ]
    ]

pub too_long : (entries : List HeaderEntry) (ws : List (List ℕ)) → all_short entries ≡ true → 4 < length ws → (query : Bool) (key : HeaderMeaning) (k : ℕ)
    → IsFound entries ws query key k → ⊥
too_long entries ws t l query key k f =
    let a = fits_length f.entry.nodes ws k (listed_fits f.entry.nodes ws k f.spelled) in
    let p = in_passes (λ (r : HeaderEntry). nat_le (length r.nodes) 4) f.entry entries t f.listed in
    let b : length f.entry.nodes ≤ 4 = grind (arith, common_steps) in
    omega (arith, a, b, l)

-- ---- no node of a header has more than twelve bytes

abbrev pub node_fits : List ℕ → Bool
node_fits word = nat_le (length word) 12

abbrev spelling_fits : Spelling → Bool
spelling_fits s = list_all node_fits s.0

abbrev entry_fits : HeaderEntry → Bool
entry_fits e = list_all spelling_fits (spellings e.nodes)

abbrev pub all_fit : List HeaderEntry → Bool
all_fit entries = list_all entry_fits entries

pub found_fits : (entries : List HeaderEntry) (ws : List (List ℕ)) → all_fit entries ≡ true → (query : Bool) (key : HeaderMeaning) (k : ℕ)
    → IsFound entries ws query key k
    → list_all node_fits ws ≡ true
found_fits entries ws t query key k f =
    in_passes spelling_fits (ws, k) (spellings f.entry.nodes) (in_passes entry_fits f.entry entries t f.listed) f.spelled
