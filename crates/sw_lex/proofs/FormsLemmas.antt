-- The two forms of a mnemonic.
use Rattle.std.proofs.Common.{◌≡◌, ℕ, Bool, true, false, not, List, [], ◌∷◌, refl, sym, ap, subst, ◌∙◌, ◌⊎◌, inl, inr, IsTrue}
use Rattle.std.specs.Prelude.{◌==◌, ◌&&◌}
use Rattle.std.specs.Char.{is_ascii_lowercase, to_ascii_uppercase}
use Rattle.std.proofs.lemmas.Bool.{and_parts, eq-eqb, eqb-true, cases_Bool}
use Rattle.sw_lex.specs.Words.{short_of, long_of}
use Rattle.sw_lex.specs.Found.{IsForm}
use Rattle.sw_lex.specs.Rows.{is_form_from}
use Rattle.sw_lex.specs.Apart.{same_word}
use Rattle.sw_lex.specs.Values.{is_named}
use Rattle.sw_lex.proofs.ApartLemmas.{same_word-refl, same_eq}

-- what is left of a form
abbrev IsRest : List ℕ → List ℕ → Bool → Type 0
IsRest word form capitals = ((capitals ≡ true) × (word ≡ short_of form)) ⊎ (word ≡ long_of form)

no_byte : (x : ℕ) (word : List ℕ) → [] ≡ x ∷ word → ⊥
no_byte x word e = cc

and_both : (a b : Bool) → a ≡ true → b ≡ true → (a && b) ≡ true
and_both a b p q = rw (p, q) refl

not_false : (b : Bool) → not b ≡ true → b ≡ false
not_false true h = absurd (let z : false ≡ true = h in cc)
not_false false h = refl

rest_form : (word form : List ℕ) (capitals : Bool) → is_form_from word form capitals ≡ true → IsRest word form capitals
rest_form [] [] capitals h = inr refl
rest_form [] (b ∷ form) capitals h = let p = and_parts capitals (is_ascii_lowercase b) h in inl (p.0, rw p.1 refl)
rest_form (x ∷ word) [] capitals h = absurd (let z : false ≡ true = h in cc)
rest_form (x ∷ word) (b ∷ form) capitals h =
    let p = and_parts (x == to_ascii_uppercase b) (is_form_from word form (capitals && not (is_ascii_lowercase b))) h in
    let e : x ≡ to_ascii_uppercase b = eqb-true x (to_ascii_uppercase b) p.0 in
    elim (rest_form word form (capitals && not (is_ascii_lowercase b)) p.1) [
      | inl s ↦
          let q = and_parts capitals (not (is_ascii_lowercase b)) s.0 in
          let w : x ∷ word ≡ to_ascii_uppercase b ∷ short_of form = ap (λ (y : ℕ). y ∷ word) e ∙ ap (λ (t : List ℕ). to_ascii_uppercase b ∷ t) s.1 in
          inl (q.0, rw (not_false (is_ascii_lowercase b) q.1) w)
      | inr l ↦ inr (ap (λ (y : ℕ). y ∷ word) e ∙ ap (λ (t : List ℕ). to_ascii_uppercase b ∷ t) l)
    ]

heads : (x y : ℕ) (xs ys : List ℕ) → x ∷ xs ≡ y ∷ ys → (x ≡ y) × (xs ≡ ys)
heads x y xs ys e = (let a : x ≡ y = cc in a, let b : xs ≡ ys = cc in b)

form_rest : (word form : List ℕ) (capitals : Bool) → IsRest word form capitals → is_form_from word form capitals ≡ true
form_rest [] [] capitals h = refl
form_rest [] (b ∷ form) capitals h =
    elim h [
      | inl s ↦ elim (cases_Bool (is_ascii_lowercase b)) [
        | inl t ↦ and_both capitals (is_ascii_lowercase b) s.0 t
        | inr f ↦ absurd (no_byte _ _ (rw f at s.1))
      ]
      | inr l ↦ absurd (no_byte _ _ l)
    ]
form_rest (x ∷ word) [] capitals h = elim h [ inl s ↦ absurd (no_byte x word (sym s.1)) | inr l ↦ absurd (no_byte x word (sym l)) ]
form_rest (x ∷ word) (b ∷ form) capitals h =
    elim h [
      | inl s ↦ elim (cases_Bool (is_ascii_lowercase b)) [
        | inl t ↦ absurd (no_byte x word (sym (rw t at s.1)))
        | inr f ↦
            let p = heads x (to_ascii_uppercase b) word (short_of form) (rw f at s.1) in
            let n : not (is_ascii_lowercase b) ≡ true = rw f refl in
            and_both (x == to_ascii_uppercase b) (is_form_from word form (capitals && not (is_ascii_lowercase b))) (eq-eqb x (to_ascii_uppercase b) p.0)
            (form_rest word form (capitals && not (is_ascii_lowercase b)) (inl (and_both capitals (not (is_ascii_lowercase b)) s.0 n, p.1)))
      ]
      | inr l ↦
          let p = heads x (to_ascii_uppercase b) word (long_of form) l in
          and_both (x == to_ascii_uppercase b) (is_form_from word form (capitals && not (is_ascii_lowercase b))) (eq-eqb x (to_ascii_uppercase b) p.0)
          (form_rest word form (capitals && not (is_ascii_lowercase b)) (inr p.1))
    ]

pub is_form_yes : (word form : List ℕ) → is_form_from word form true ≡ true → IsForm form word
is_form_yes word form h = elim (rest_form word form true h) [ inl s ↦ inl s.1 | inr l ↦ inr l ]

pub is_form_so : (word form : List ℕ) → IsForm form word → is_form_from word form true ≡ true
is_form_so word form h = elim h [ inl s ↦ form_rest word form true (inl (refl, s)) | inr l ↦ form_rest word form true (inr l) ]

-- ---- a form as a test

named_so : (form word : List ℕ) → IsForm form word → is_named form word ≡ true
named_so form word h =
    elim h [
      | inl s ↦
          let t : same_word word (short_of form) ≡ true = subst (λ (y : List ℕ). same_word word y ≡ true) s (same_word-refl word) in
          rw t refl
      | inr l ↦
          let t : same_word word (long_of form) ≡ true = subst (λ (y : List ℕ). same_word word y ≡ true) l (same_word-refl word) in
          elim (cases_Bool (same_word word (short_of form))) [ inl s ↦ rw s refl | inr s ↦ rw (s, t) refl ]
    ]

named_form : (form word : List ℕ) → is_named form word ≡ true → IsForm form word
named_form form word h =
    elim (cases_Bool (same_word word (short_of form))) [
      | inl s ↦ inl (same_eq word (short_of form) s)
      | inr s ↦ inr (same_eq word (long_of form) (rw s at h))
    ]

pub named_is : (b : Bool) (form word : List ℕ) → (IsTrue b → IsForm form word) × (IsForm form word → IsTrue b) → b ≡ is_named form word
named_is b form word h =
    elim (cases_Bool (is_named form word)) [
      | inl s ↦ h.1 (named_form form word s) ∙ sym s
      | inr s ↦ elim (cases_Bool b) [
        | inl t ↦ absurd (let z : true ≡ false = sym (named_so form word (h.0 t)) ∙ s in cc)
        | inr t ↦ t ∙ sym s
      ]
    ]
