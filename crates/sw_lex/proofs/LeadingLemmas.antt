-- The kinds of elements: one element at the front of a text, and no refusal where one is.
use Rattle.std.proofs.Common.{◌≡◌, ℕ, true, List, [], ◌∷◌, ◌++◌, refl, sym, ap, subst, ◌∙◌, append_assoc, inl, inr, Some, None, ◌+◌, ◌≤◌, arith}
use Rattle.std.proofs.lemmas.Grind.{common_steps}
use Rattle.std.specs.Prelude.{◌==◌}
use Rattle.std.proofs.lemmas.Bool.{cases_Bool, eqb-true}
use Rattle.std.proofs.lemmas.List.{append_cancel_right}
use Rattle.sw_base.specs.Text.{is_digit, is_letter, is_word}
use Rattle.sw_base.proofs.Runs.{same_span, one_span}
use Rattle.sw_lex.specs.declared.elements.ElementKind.{ElementKind}
use Rattle.sw_lex.specs.declared.elements.ElementKind.TheVariants as kinds
use Rattle.sw_lex.specs.Elements.{is_numeric, is_quote, is_inner, kind_of_byte, kind_at, IsExpression, IsElement}
use Rattle.sw_lex.specs.Unit.{Datum, number, character, string, block, expression, datum_with, datum_text, kind_of, LeadsElement}
use Rattle.sw_lex.proofs.NumbersLemmas.{Tail, span_tail, one_numeral, numeral_tail}
use Rattle.sw_lex.proofs.QuotesLemmas.{one_string, string_tail}
use Rattle.sw_lex.proofs.BlocksLemmas.{one_block, block_tail}

-- ---- the first byte

abbrev pub Begins : ElementKind → ℕ → Type 0
Begins kinds.Number b = is_numeric b ≡ true
Begins kinds.Character b = is_letter b ≡ true
Begins kinds.String b = is_quote b ≡ true
Begins kinds.Block b = b ≡ 35
Begins kinds.Expression b = b ≡ 40

pub begins : (b : ℕ) (k : ElementKind) → kind_of_byte b ≡ Some k → Begins k b
begins b k e =
    elim (cases_Bool (is_numeric b)) [
      | inl n ↦ (let f : Some kinds.Number ≡ Some k = rw n at e in let g : kinds.Number ≡ k = cc in subst (λ (x : ElementKind). Begins x b) g n)
      | inr n ↦ elim (cases_Bool (is_letter b)) [
        | inl l ↦ (let f : Some kinds.Character ≡ Some k = rw (n, l) at e in let g : kinds.Character ≡ k = cc in subst (λ (x : ElementKind). Begins x b) g l)
        | inr l ↦ elim (cases_Bool (is_quote b)) [
          | inl q ↦ (let f : Some kinds.String ≡ Some k = rw (n, l, q) at e in let g : kinds.String ≡ k = cc in subst (λ (x : ElementKind). Begins x b) g q)
          | inr q ↦ elim (cases_Bool (b == 35)) [
            | inl h ↦ (let f : Some kinds.Block ≡ Some k = rw (n, l, q, h) at e in let g : kinds.Block ≡ k = cc in
                subst (λ (x : ElementKind). Begins x b) g (eqb-true b 35 h))
            | inr h ↦ elim (cases_Bool (b == 40)) [
              | inl p ↦ (let f : Some kinds.Expression ≡ Some k = rw (n, l, q, h, p) at e in let g : kinds.Expression ≡ k = cc in
                  subst (λ (x : ElementKind). Begins x b) g (eqb-true b 40 p))
              | inr p ↦ absurd (let f : None ≡ Some k = rw (n, l, q, h, p) at e in cc)
            ]
          ]
        ]
      ]
    ]

-- ---- the element of a kind with a text

pub kind_with : (k : ElementKind) (t : List ℕ) → kind_of (datum_with k t) ≡ k
kind_with kinds.Number t = refl
kind_with kinds.Character t = refl
kind_with kinds.String t = refl
kind_with kinds.Block t = refl
kind_with kinds.Expression t = refl

pub text_with : (k : ElementKind) (t : List ℕ) → datum_text (datum_with k t) ≡ t
text_with kinds.Number t = refl
text_with kinds.Character t = refl
text_with kinds.String t = refl
text_with kinds.Block t = refl
text_with kinds.Expression t = refl

with_text : (d : Datum) → datum_with (kind_of d) (datum_text d) ≡ d
with_text (number t) = refl
with_text (character t) = refl
with_text (string t) = refl
with_text (block t) = refl
with_text (expression t) = refl

-- ---- what follows an element

one_expression : (text a b : List ℕ) → IsExpression text a → IsExpression text b → a ≡ b
one_expression text a b p q =
    let e : 40 ∷ (p.inner ++ 41 ∷ a) ≡ 40 ∷ (q.inner ++ 41 ∷ b) = sym p.whole ∙ q.whole in
    let f : p.inner ++ 41 ∷ a ≡ q.inner ++ 41 ∷ b = cc in
    let s : 41 ∷ a ≡ 41 ∷ b = (same_span is_inner p.inner (41 ∷ a) q.inner (41 ∷ b) p.pass refl q.pass refl f).1 in
    cc

one_rest : (k : ElementKind) (text a b : List ℕ) → IsElement k text a → IsElement k text b → a ≡ b
one_rest kinds.Number text a b p q = one_numeral text a b p q
one_rest kinds.Character text a b p q = (one_span is_word text p.0 a q.0 b p.1 q.1).1
one_rest kinds.String text a b p q = (one_string text p.0 q.0 a b p.1 q.1).1
one_rest kinds.Block text a b p q = (one_block text p.0 q.0 a b p.1 q.1).1
one_rest kinds.Expression text a b p q = one_expression text a b p q

pub element_tail : (k : ElementKind) (text rest : List ℕ) → IsElement k text rest → Tail text rest
element_tail kinds.Number text rest p = numeral_tail text rest p
element_tail kinds.Character text rest p = span_tail is_word text p.0 rest p.1
element_tail kinds.String text rest p = string_tail text p.0 rest p.1
element_tail kinds.Block text rest p = block_tail text p.0 rest p.1
element_tail kinds.Expression text rest p =
    (40 ∷ (p.inner ++ 41 ∷ []), p.whole ∙ ap (λ (t : List ℕ). 40 ∷ t) (sym (append_assoc p.inner (41 ∷ []) rest)))

-- ---- one element

pub one_kind : (text : List ℕ) (k j : ElementKind) → kind_at text ≡ Some k → kind_at text ≡ Some j → k ≡ j
one_kind text k j e f = let g : Some k ≡ Some j = sym e ∙ f in cc

pub one_leads : (text : List ℕ) (d c : Datum) (a b : List ℕ) → LeadsElement text d a → LeadsElement text c b → (d ≡ c) × (a ≡ b)
one_leads text d c a b p q =
    let k = one_kind text (kind_of d) (kind_of c) p.starts q.starts in
    let r = one_rest (kind_of d) text a b p.form (subst (λ (x : ElementKind). IsElement x text b) (sym k) q.form) in
    let t : datum_text d ≡ datum_text c =
    append_cancel_right (datum_text d) (datum_text c) a (sym p.whole ∙ q.whole ∙ ap (λ (x : List ℕ). datum_text c ++ x) (sym r)) in
    (sym (with_text d) ∙ ap (λ (x : ElementKind). datum_with x (datum_text d)) k ∙ ap (λ (x : List ℕ). datum_with (kind_of c) x) t ∙ with_text c, r)

pub leads_is : (text : List ℕ) (k : ElementKind) (t rest : List ℕ) → kind_at text ≡ Some k → IsElement k text rest → text ≡ t ++ rest
    → LeadsElement text (datum_with k t) rest
leads_is text k t rest e f w = record {
  starts = e ∙ ap (λ (x : ElementKind). Some x) (sym (kind_with k t));
  form = subst (λ (x : ElementKind). IsElement x text rest) (sym (kind_with k t)) f;
  whole = w ∙ ap (λ (x : List ℕ). x ++ rest) (sym (text_with k t));
}

pub width_digit : (n : ℕ) → n ≤ 9 → is_digit (48 + n) ≡ true
width_digit n l = grind (arith, common_steps)
