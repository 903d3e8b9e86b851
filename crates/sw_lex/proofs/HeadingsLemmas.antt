-- A text has at most one header at its front, and none where it breaks off.
use Rattle.std.proofs.Common.{◌≡◌, ℕ, Bool, true, false, List, [], ◌∷◌, ◌++◌, refl, sym, ap, subst, ◌∙◌, append_assoc, arith, inl, inr}
use Rattle.std.specs.Prelude.{◌==◌, ◌||◌}
use Rattle.std.specs.List.{AllByRecursion}
use Rattle.std.proofs.lemmas.Bool.{eq-eqb}
use Rattle.sw_base.specs.Text.{is_letter, is_word, AllPass, StartsOff}
use Rattle.sw_base.proofs.Runs.{AllPass-append, AllPass-weaker, same_span}
use Rattle.sw_base.specs.declared.error.ScpiError.{ScpiError}
use Rattle.sw_base.specs.declared.error.ScpiError.TheVariants.{SyntaxError}
use Rattle.sw_lex.specs.Unit.{Heading, common, path, heading_text, IsHeading, IsName, IsMnemonic, IsPath, colons, Asks, Heads, BreaksOff, HasNoHeading}
use Rattle.sw_lex.specs.Unit.{fault_at}
use Rattle.sw_lex.proofs.ShorterLemmas.{longer, heading_some}

-- one byte can't pass a test and fail it
pub not_both : (p : ℕ → Bool) (a b : ℕ) → a ≡ b → p a ≡ true → p b ≡ false → ⊥
not_both p a b e h k = let z : true ≡ false = sym h ∙ ap p e ∙ k in cc

pub equal_not : (a b : ℕ) → a ≡ b → (a == b) ≡ false → ⊥
equal_not a b e h = let z : true ≡ false = sym (eq-eqb a b e) ∙ h in cc

-- ---- the bytes of a header

abbrev pub is_node : ℕ → Bool
is_node b = is_word b || b == 58

letter-word : (b : ℕ) → is_letter b ≡ true → is_word b ≡ true
letter-word b h = rw h refl

word-node : (b : ℕ) → is_word b ≡ true → is_node b ≡ true
word-node b h = rw h refl

words_of : (m : List ℕ) → IsMnemonic m → AllPass is_word m
words_of [] h = absurd h
words_of (b ∷ bs) h = (letter-word b h.0, h.1)

colons_node : (ms : List (List ℕ)) → AllByRecursion IsMnemonic ms → AllPass is_node (colons ms)
colons_node [] a = tt
colons_node (m ∷ ms) a =
    AllPass-append is_node (m ++ 58 ∷ []) (colons ms) (AllPass-append is_node m (58 ∷ []) (AllPass-weaker is_word is_node word-node m (words_of m a.0)) (
      refl,
      tt,
    )) (colons_node ms a.1)

path_node : (t : List ℕ) → IsPath t → AllPass is_node t
path_node t p =
    subst (λ (x : List ℕ). AllPass is_node x) (sym p.whole)
    (AllPass-append is_node (colons p.nodes) p.last (colons_node p.nodes p.each)
    (AllPass-weaker is_word is_node word-node p.last (words_of p.last p.last_one)))

off_node : (a : List ℕ) → StartsOff is_word a → StartsOff (λ b. b == 58) a → StartsOff is_node a
off_node [] h k = tt
off_node (b ∷ bs) h k = rw h k

name_letters : (name : List ℕ) → IsName name → AllPass is_letter name
name_letters [] h = absurd h
name_letters (b ∷ bs) h = h

-- ---- its first byte

abbrev First : Heading → ℕ → Type 0
First (common t) b = b ≡ 42
First (path true t) b = b ≡ 58
First (path false t) b = is_letter b ≡ true

path_first : (ms : List (List ℕ)) (last x : List ℕ) (b : ℕ) (more : List ℕ) → AllByRecursion IsMnemonic ms → IsMnemonic last
    → b ∷ more ≡ (colons ms ++ last) ++ x → is_letter b ≡ true
path_first [] [] x b more a h e = absurd h
path_first [] (c ∷ cs) x b more a h e = let k : b ≡ c = cc in subst (λ (y : ℕ). is_letter y ≡ true) (sym k) h.0
path_first ([] ∷ ms) last x b more a h e = absurd a.0
path_first ((c ∷ cs) ∷ ms) last x b more a h e = let k : b ≡ c = cc in subst (λ (y : ℕ). is_letter y ≡ true) (sym k) a.0.0

first_of : (h : Heading) (after : List ℕ) (b : ℕ) (more : List ℕ) → IsHeading h → b ∷ more ≡ heading_text h ++ after → First h b
first_of (common t) after b more i e = let k : b ∷ more ≡ 42 ∷ (i.0 ++ after) = e ∙ ap (λ (x : List ℕ). x ++ after) i.2 in cc
first_of (path true t) after b more i e = cc
first_of (path false t) after b more i e = path_first i.nodes i.last after b more i.each i.last_one (e ∙ ap (λ (x : List ℕ). x ++ after) i.whole)

-- ---- one header

star_first : (t name x : List ℕ) → t ≡ 42 ∷ name → t ++ x ≡ 42 ∷ (name ++ x)
star_first t name x e = ap (λ (y : List ℕ). y ++ x) e

one_common : (t u a b : List ℕ) → IsHeading (common t) → IsHeading (common u) → StartsOff is_letter a → StartsOff is_letter b → t ++ a ≡ u ++ b
    → (common t ≡ common u) × (a ≡ b)
one_common t u a b p q o n e =
    let f : 42 ∷ (p.0 ++ a) ≡ 42 ∷ (q.0 ++ b) = sym (star_first t p.0 a p.2) ∙ e ∙ star_first u q.0 b q.2 in
    let g : p.0 ++ a ≡ q.0 ++ b = cc in
    let r = same_span is_letter p.0 a q.0 b (name_letters p.0 p.1) o (name_letters q.0 q.1) n g in
    let k : t ≡ u = p.2 ∙ ap (λ (x : List ℕ). 42 ∷ x) r.0 ∙ sym q.2 in
    (ap (λ (x : List ℕ). common x) k, r.1)

one_path : (l : Bool) (t u a b : List ℕ) → IsPath t → IsPath u → StartsOff is_node a → StartsOff is_node b → t ++ a ≡ u ++ b → (path l t ≡ path l u) × (a ≡ b)
one_path l t u a b p q o n e =
    let r = same_span is_node t a u b (path_node t p) o (path_node u q) n e in
    (ap (λ (x : List ℕ). path l x) r.0, r.1)

one_form : (h k : Heading) (a b : List ℕ) (c : ℕ) (more : List ℕ) → Heads (c ∷ more) h a → Heads (c ∷ more) k b → (h ≡ k) × (a ≡ b)
one_form (common t) (common u) a b c more p q = one_common t u a b p.form q.form p.far q.far (sym p.whole ∙ q.whole)
one_form (common t) (path true u) a b c more p q =
    absurd (let x : c ≡ 42 = first_of (common t) a c more p.form p.whole in let y : c ≡ 58 = first_of (path true u) b c more q.form q.whole in
    equal_not 42 58 (sym x ∙ y) refl)
one_form (common t) (path false u) a b c more p q =
    absurd (let x : c ≡ 42 = first_of (common t) a c more p.form p.whole in not_both is_letter c 42 x (first_of (path false u) b c more q.form q.whole) refl)
one_form (path true t) (common u) a b c more p q =
    absurd (let x : c ≡ 58 = first_of (path true t) a c more p.form p.whole in let y : c ≡ 42 = first_of (common u) b c more q.form q.whole in
    equal_not 42 58 (sym y ∙ x) refl)
one_form (path false t) (common u) a b c more p q =
    absurd (let x : c ≡ 42 = first_of (common u) b c more q.form q.whole in not_both is_letter c 42 x (first_of (path false t) a c more p.form p.whole) refl)
one_form (path true t) (path false u) a b c more p q =
    absurd (let x : c ≡ 58 = first_of (path true t) a c more p.form p.whole in not_both is_letter c 58 x (first_of (path false u) b c more q.form q.whole) refl)
one_form (path false t) (path true u) a b c more p q =
    absurd (let x : c ≡ 58 = first_of (path true u) b c more q.form q.whole in not_both is_letter c 58 x (first_of (path false t) a c more p.form p.whole) refl)
one_form (path true t) (path true u) a b c more p q =
    let e : 58 ∷ (t ++ a) ≡ 58 ∷ (u ++ b) = sym p.whole ∙ q.whole in
    let f : t ++ a ≡ u ++ b = cc in
    one_path true t u a b p.form q.form (off_node a p.far.0 p.far.1) (off_node b q.far.0 q.far.1) f
one_form (path false t) (path false u) a b c more p q =
    one_path false t u a b p.form q.form (off_node a p.far.0 p.far.1) (off_node b q.far.0 q.far.1) (sym p.whole ∙ q.whole)

-- there is something where a header stands
no_heads : (h : Heading) (a : List ℕ) → Heads [] h a → ⊥
no_heads h a p = omega (arith, longer [] (heading_text h) a p.whole, heading_some h p.form)

pub one_heading : (start : List ℕ) (h k : Heading) (a b : List ℕ) → Heads start h a → Heads start k b → (h ≡ k) × (a ≡ b)
one_heading [] h k a b p q = absurd (no_heads h a p)
one_heading (c ∷ more) h k a b p q = one_form h k a b c more p q

-- ---- no header

letter_clash : (more m x : List ℕ) → StartsOff is_letter more → IsMnemonic m → more ≡ m ++ x → ⊥
letter_clash more [] x o h e = h
letter_clash more (c ∷ cs) x o h e =
    let k : is_letter c ≡ false = subst (λ (y : List ℕ). StartsOff is_letter y) e o in
    not_both is_letter c c refl h.0 k

name_clash : (more name x : List ℕ) → StartsOff is_letter more → IsName name → more ≡ name ++ x → ⊥
name_clash more [] x o h e = h
name_clash more (c ∷ cs) x o h e =
    let k : is_letter c ≡ false = subst (λ (y : List ℕ). StartsOff is_letter y) e o in
    not_both is_letter c c refl h.0 k

colon_on : (m : List ℕ) (ms : List (List ℕ)) (x : List ℕ) → colons (m ∷ ms) ++ x ≡ m ++ 58 ∷ (colons ms ++ x)
colon_on m ms x = append_assoc (m ++ 58 ∷ []) (colons ms) x ∙ append_assoc m (58 ∷ []) (colons ms ++ x)

break_path : (ms ns : List (List ℕ)) (more last a : List ℕ) → AllByRecursion IsMnemonic ms → StartsOff is_letter more → AllByRecursion IsMnemonic ns
    → IsMnemonic last → StartsOff is_word a → StartsOff (λ b. b == 58) a → colons ms ++ more ≡ colons ns ++ (last ++ a) → ⊥
break_path [] [] more last a p o q h w c e = letter_clash more last a o h e
break_path [] (n ∷ ns) more last a p o q h w c e = letter_clash more n (58 ∷ (colons ns ++ (last ++ a))) o q.0 (e ∙ colon_on n ns (last ++ a))
break_path (m ∷ ms) [] more last a p o q h w c e =
    let r = same_span is_word m (58 ∷ (colons ms ++ more)) last a (words_of m p.0) refl (words_of last h) w (sym (colon_on m ms more) ∙ e) in
    let z : true ≡ false = subst (λ (y : List ℕ). StartsOff (λ b. b == 58) y) (sym r.1) c in
    cc
break_path (m ∷ ms) (n ∷ ns) more last a p o q h w c e =
    let r = same_span is_word m (58 ∷ (colons ms ++ more)) n (58 ∷ (colons ns ++ (last ++ a))) (words_of m p.0) refl (words_of n q.0) refl
    (sym (colon_on m ms more) ∙ e ∙ colon_on n ns (last ++ a)) in
    let s : 58 ∷ (colons ms ++ more) ≡ 58 ∷ (colons ns ++ (last ++ a)) = r.1 in
    let f : colons ms ++ more ≡ colons ns ++ (last ++ a) = cc in
    break_path ms ns more last a p.1 o q.1 h w c f

break_break : (ms ns : List (List ℕ)) (more rest : List ℕ) → AllByRecursion IsMnemonic ms → StartsOff is_letter more → AllByRecursion IsMnemonic ns
    → StartsOff is_letter rest → colons ms ++ more ≡ colons ns ++ rest → more ≡ rest
break_break [] [] more rest p o q n e = e
break_break [] (k ∷ ns) more rest p o q n e = absurd (letter_clash more k (58 ∷ (colons ns ++ rest)) o q.0 (e ∙ colon_on k ns rest))
break_break (m ∷ ms) [] more rest p o q n e = absurd (letter_clash rest m (58 ∷ (colons ms ++ more)) n p.0 (sym e ∙ colon_on m ms more))
break_break (m ∷ ms) (k ∷ ns) more rest p o q n e =
    let r = same_span is_word m (58 ∷ (colons ms ++ more)) k (58 ∷ (colons ns ++ rest)) (words_of m p.0) refl (words_of k q.0) refl (sym (colon_on m ms more)
    ∙ e ∙ colon_on k ns rest) in
    let s : 58 ∷ (colons ms ++ more) ≡ 58 ∷ (colons ns ++ rest) = r.1 in
    let f : colons ms ++ more ≡ colons ns ++ rest = cc in
    break_break ms ns more rest p.1 o q.1 n f

one_break : (text : List ℕ) (e f : ScpiError) → BreaksOff text e → BreaksOff text f → e ≡ f
one_break text e f a b =
    a.error ∙ ap (λ (x : List ℕ). fault_at SyntaxError x) (break_break a.nodes b.nodes a.more b.more a.each a.off b.each b.off (sym a.whole ∙ b.whole))
    ∙ sym b.error

break_not : (text t a : List ℕ) (e : ScpiError) → BreaksOff text e → IsPath t → StartsOff is_word a → StartsOff (λ b. b == 58) a → text ≡ t ++ a → ⊥
break_not text t a e x p w c f =
    break_path x.nodes p.nodes x.more p.last a x.each x.off p.each p.last_one w c (sym x.whole ∙ f ∙ ap (λ (y : List ℕ). y ++ a) p.whole
    ∙ append_assoc (colons p.nodes) p.last a)

none_form : (h : Heading) (a : List ℕ) (b : ℕ) (more : List ℕ) (e : ScpiError) → HasNoHeading (b ∷ more) e → Heads (b ∷ more) h a → ⊥
none_form (common t) a b more e n p =
    let x : b ≡ 42 = first_of (common t) a b more p.form p.whole in
    let f : b ∷ more ≡ 42 ∷ (p.form.0 ++ a) = p.whole ∙ star_first t p.form.0 a p.form.2 in
    let g : more ≡ p.form.0 ++ a = cc in
    elim n [
      | inl s ↦ name_clash more p.form.0 a s.1 p.form.1 g
      | inr r ↦ elim r [ inl c ↦ equal_not 42 58 (sym x ∙ c.0) refl | inr o ↦ equal_not b 42 x o.0 ]
    ]
none_form (path true t) a b more e n p =
    let x : b ≡ 58 = first_of (path true t) a b more p.form p.whole in
    let f : b ∷ more ≡ 58 ∷ (t ++ a) = p.whole in
    let g : more ≡ t ++ a = cc in
    elim n [
      | inl s ↦ equal_not 42 58 (sym s.0 ∙ x) refl
      | inr r ↦ elim r [ inl c ↦ break_not more t a e c.1 p.form p.far.0 p.far.1 g | inr o ↦ equal_not b 58 x o.1 ]
    ]
none_form (path false t) a b more e n p =
    let x : is_letter b ≡ true = first_of (path false t) a b more p.form p.whole in
    elim n [
      | inl s ↦ not_both is_letter b 42 s.0 x refl
      | inr r ↦ elim r [ inl c ↦ not_both is_letter b 58 c.0 x refl | inr o ↦ break_not (b ∷ more) t a e o.2 p.form p.far.0 p.far.1 p.whole ]
    ]

pub none_heading : (start : List ℕ) (h : Heading) (a : List ℕ) (e : ScpiError) → HasNoHeading start e → Heads start h a → ⊥
none_heading [] h a e n p = no_heads h a p
none_heading (b ∷ more) h a e n p = none_form h a b more e n p

pub one_none : (start : List ℕ) (e f : ScpiError) → HasNoHeading start e → HasNoHeading start f → e ≡ f
one_none [] e f n m = n ∙ sym m
one_none (b ∷ more) e f n m =
    elim n [
      | inl s ↦ elim m [
        | inl t ↦ s.2 ∙ sym t.2
        | inr r ↦ elim r [ inl c ↦ absurd (equal_not 42 58 (sym s.0 ∙ c.0) refl) | inr o ↦ absurd (equal_not b 42 s.0 o.0) ]
      ]
      | inr q ↦ elim q [
        | inl d ↦ elim m [
          | inl t ↦ absurd (equal_not 42 58 (sym t.0 ∙ d.0) refl)
          | inr r ↦ elim r [ inl c ↦ one_break more e f d.1 c.1 | inr o ↦ absurd (equal_not b 58 d.0 o.1) ]
        ]
        | inr d ↦ elim m [
          | inl t ↦ absurd (equal_not b 42 t.0 d.0)
          | inr r ↦ elim r [ inl c ↦ absurd (equal_not b 58 c.0 d.1) | inr o ↦ one_break (b ∷ more) e f d.2 o.2 ]
        ]
      ]
    ]

-- ---- the question mark

pub one_ask : (after : List ℕ) (q p : Bool) (t s : List ℕ) → Asks after q t → Asks after p s → (q ≡ p) × (t ≡ s)
one_ask after true true t s a b = (refl, let e : 63 ∷ t ≡ 63 ∷ s = sym a ∙ b in cc)
one_ask after true false t s a b = absurd (let z : true ≡ false = subst (λ (y : List ℕ). StartsOff (λ c. c == 63) y) (sym b.0 ∙ a) b.1 in cc)
one_ask after false true t s a b = absurd (let z : true ≡ false = subst (λ (y : List ℕ). StartsOff (λ c. c == 63) y) (sym a.0 ∙ b) a.1 in cc)
one_ask after false false t s a b = (refl, sym a.0 ∙ b.0)
