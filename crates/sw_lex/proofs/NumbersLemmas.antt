-- Where a number at the front of a text ends.
use Rattle.std.proofs.Common.{◌≡◌, ℕ, ◌+◌, ◌<◌, Bool, List, [], ◌∷◌, ◌++◌, length, refl, sym, ap, subst, ◌∙◌, arith, inl, inr, ◌⊎◌, append_assoc}
use Rattle.std.specs.Prelude.{◌==◌, ◌||◌, ◌&&◌, not, true, false}
use Rattle.std.proofs.lemmas.Bool.{cases_Bool, eqb-true}
use Rattle.std.proofs.lemmas.Grind.{common_steps}
use Rattle.sw_base.specs.Text.{is_blank, is_digit, is_letter, AllPass, StartsOff, Spans}
use Rattle.sw_base.specs.Number.{Written, unsigned, IsFraction, IsMantissa, IsExponent}
use Rattle.sw_base.proofs.Runs.{one_span, AllPass-weaker}
use Rattle.sw_base.proofs.Numerals.{one_mantissa, one_exponent, no_mark}
use Rattle.sw_lex.proofs.HeadingsLemmas.{equal_not}
use Rattle.sw_lex.specs.Elements.{is_run, IsApart, IsBody, IsSuffixed, IsNumeral}
use Rattle.sw_lex.specs.Values.{digits_written}

-- ---- white space round the `E`

abbrev first : List ℕ → ℕ
first [] = 0
first (b ∷ bytes) = b

two_marks : (a b : List ℕ) → 69 ∷ a ≡ 101 ∷ b → ⊥
two_marks a b e = equal_not 69 101 (ap (λ (t : List ℕ). first t) e) refl

one_blanks : (text : List ℕ) (negative : Bool) (digits rest : List ℕ) (h : IsExponent text negative digits rest) (before marked after gap signed : List ℕ)
    → Spans is_blank text before marked → (marked ≡ 69 ∷ after) ⊎ (marked ≡ 101 ∷ after) → Spans is_blank after gap signed → (h.before ≡ before) × (h.gap ≡ gap)
one_blanks text negative digits rest h before marked after gap signed s m t =
    let a = one_span is_blank text h.before h.marked before marked h.blank s in
    let b : h.after ≡ after = elim h.mark [
      | inl e ↦ elim m [
        | inl f ↦ (let z : 69 ∷ h.after ≡ 69 ∷ after = sym e ∙ a.1 ∙ f in cc)
        | inr f ↦ (let z : 69 ∷ h.after ≡ 101 ∷ after = sym e ∙ a.1 ∙ f in absurd (two_marks h.after after z))
      ]
      | inr e ↦ elim m [
        | inl f ↦ (let z : 101 ∷ h.after ≡ 69 ∷ after = sym e ∙ a.1 ∙ f in absurd (two_marks after h.after (sym z)))
        | inr f ↦ (let z : 101 ∷ h.after ≡ 101 ∷ after = sym e ∙ a.1 ∙ f in cc)
      ]
    ] in
    let c = one_span is_blank after h.gap h.signed gap signed (subst (λ (x : List ℕ). Spans is_blank x h.gap h.signed) b h.space) t in
    (a.0, c.0)

same_blanks : (text : List ℕ) (negative : Bool) (digits rest : List ℕ) (negative' : Bool) (digits' rest' : List ℕ) (h : IsExponent text negative digits rest)
    (k : IsExponent text negative' digits' rest') → (h.before ≡ k.before) × (h.gap ≡ k.gap)
same_blanks text negative digits rest negative' digits' rest' h k =
    one_blanks text negative digits rest h k.before k.marked k.after k.gap k.signed k.blank k.mark k.space

-- ---- one end

after_of : (text after : List ℕ) (n : Written) (other : List ℕ) (p : IsApart text other) → IsMantissa text n after → p.after ≡ after
after_of text after n other p m = (one_mantissa text p.number p.after n after p.mantissa m).3

pub no_mantissa_apart : (text : List ℕ) → ((n : Written) (rest : List ℕ) → IsMantissa text n rest → ⊥) → (other : List ℕ) → IsApart text other → ⊥
no_mantissa_apart text h other p = h p.number p.after p.mantissa

pub no_exponent_apart : (text after : List ℕ) (n : Written) → IsMantissa text n after
    → ((negative : Bool) (digits rest : List ℕ) → IsExponent after negative digits rest → ⊥) → (other : List ℕ) → IsApart text other → ⊥
no_exponent_apart text after n m h other p =
    h p.negative p.digits other (subst (λ (x : List ℕ). IsExponent x p.negative p.digits other) (after_of text after n other p m) p.exponent)

not_apart_here : (text other : List ℕ) (p : IsApart text other) (negative : Bool) (digits rest : List ℕ) (e : IsExponent p.after negative digits rest)
    → (0 < length e.before + length e.gap → ⊥) → ⊥
not_apart_here text other p negative digits rest e h =
    let r = same_blanks p.after p.negative p.digits other negative digits rest p.exponent e in
    h (omega (arith, p.apart, ap (λ (x : List ℕ). length x) r.0, ap (λ (x : List ℕ). length x) r.1))

pub not_apart : (text after : List ℕ) (n : Written) (negative : Bool) (digits rest : List ℕ) → IsMantissa text n after
    → (e : IsExponent after negative digits rest) → (0 < length e.before + length e.gap → ⊥) → (other : List ℕ) → IsApart text other → ⊥
not_apart text after n negative digits rest m e h other p =
    subst (λ (x : List ℕ). (e : IsExponent x negative digits rest) → (0 < length e.before + length e.gap → ⊥)
    → ⊥) (after_of text after n other p m) (not_apart_here text other p negative digits rest) e h

pub one_apart : (text a b : List ℕ) → IsApart text a → IsApart text b → a ≡ b
one_apart text a b p q =
    let e = after_of text q.after q.number a p q.mantissa in
    (one_exponent q.after p.negative p.digits a q.negative q.digits b (subst (λ (x : List ℕ). IsExponent x p.negative p.digits a) e p.exponent) q.exponent).2

one_body : (text a b : List ℕ) → IsBody text a → IsBody text b → a ≡ b
one_body text a b p q =
    elim p [
      | inl x ↦ elim q [ inl y ↦ one_apart text a b x y | inr y ↦ absurd (y.0 a x) ]
      | inr x ↦ elim q [ inl y ↦ absurd (x.0 b y) | inr y ↦ (one_span is_run text x.1 a y.1 b x.2 y.2).1 ]
    ]

one_suffix : (text a b : List ℕ) → IsSuffixed text a → IsSuffixed text b → a ≡ b
one_suffix text a b p q =
    let m = (one_span is_blank text p.gap p.more q.gap q.more p.blank q.blank).1 in
    let l = one_span is_letter p.more p.letters p.after q.letters q.after p.all (subst (λ (x : List ℕ). Spans is_letter x q.letters q.after) (sym m) q.all) in
    elim p.ends [
      | inl x ↦ elim q.ends [
        | inl y ↦ x.1 ∙ sym y.1
        | inr y ↦ absurd (omega (arith, y.0, ap (λ (z : List ℕ). length z) (sym l.0 ∙ x.0)))
      ]
      | inr x ↦ elim q.ends [
        | inl y ↦ absurd (omega (arith, x.0, ap (λ (z : List ℕ). length z) (l.0 ∙ y.0)))
        | inr y ↦ x.1 ∙ l.1 ∙ sym y.1
      ]
    ]

pub one_numeral : (text a b : List ℕ) → IsNumeral text a → IsNumeral text b → a ≡ b
one_numeral text a b p q =
    let e = one_body text p.0 q.0 p.1 q.1 in
    one_suffix p.0 a b p.2 (subst (λ (x : List ℕ). IsSuffixed x b) (sym e) q.2)

-- ---- what follows is the end of the text

-- a text ends so
abbrev pub Tail : List ℕ → List ℕ → Type 0
Tail text rest = (front : List ℕ) × (text ≡ front ++ rest)

tail_on : (a b c : List ℕ) → Tail a b → Tail b c → Tail a c
tail_on a b c p q = (p.0 ++ q.0, p.1 ∙ ap (λ (t : List ℕ). p.0 ++ t) q.1 ∙ sym (append_assoc p.0 q.0 c))

pub span_tail : (test : ℕ → Bool) (text front rest : List ℕ) → Spans test text front rest → Tail text rest
span_tail test text front rest s = (front, s.whole)

unsigned_tail : (text : List ℕ) → Tail text (unsigned text)
unsigned_tail [] = ([], refl)
unsigned_tail (b ∷ text) = elim (cases_Bool (b == 43 || b == 45)) [ inl h ↦ rw h (b ∷ [], refl) | inr h ↦ rw h ([], refl) ]

fraction_tail : (text digits rest : List ℕ) → IsFraction text digits rest → Tail text rest
fraction_tail text digits rest f =
    elim f [
      | inl p ↦ (46 ∷ digits, p.1 ∙ ap (λ (t : List ℕ). 46 ∷ t) p.2.whole)
      | inr p ↦ ([], sym p.2)
    ]

mantissa_tail : (text : List ℕ) (n : Written) (rest : List ℕ) → IsMantissa text n rest → Tail text rest
mantissa_tail text n rest m =
    tail_on text (unsigned text) rest (unsigned_tail text)
    (tail_on (unsigned text) m.pointed rest (span_tail is_digit (unsigned text) n.whole m.pointed m.before)
    (fraction_tail m.pointed n.fraction rest m.after))

mark_tail : (marked after : List ℕ) → (marked ≡ 69 ∷ after) ⊎ (marked ≡ 101 ∷ after) → Tail marked after
mark_tail marked after m = elim m [ inl e ↦ (69 ∷ [], e) | inr e ↦ (101 ∷ [], e) ]

exponent_tail : (text : List ℕ) (negative : Bool) (digits rest : List ℕ) → IsExponent text negative digits rest → Tail text rest
exponent_tail text negative digits rest e =
    tail_on text e.marked rest (span_tail is_blank text e.before e.marked e.blank)
    (tail_on e.marked e.after rest (mark_tail e.marked e.after e.mark)
    (tail_on e.after e.signed rest (span_tail is_blank e.after e.gap e.signed e.space)
    (tail_on e.signed (unsigned e.signed) rest (unsigned_tail e.signed) (span_tail is_digit (unsigned e.signed) digits rest e.all))))

body_tail : (text rest : List ℕ) → IsBody text rest → Tail text rest
body_tail text rest b =
    elim b [
      | inl a ↦ tail_on text a.after rest (mantissa_tail text a.number a.after a.mantissa) (exponent_tail a.after a.negative a.digits rest a.exponent)
      | inr r ↦ span_tail is_run text r.1 rest r.2
    ]

suffix_tail : (text rest : List ℕ) → IsSuffixed text rest → Tail text rest
suffix_tail text rest s =
    elim s.ends [
      | inl e ↦ ([], sym e.1)
      | inr e ↦ subst (λ (x : List ℕ). Tail text x) (sym e.1)
          (tail_on text s.more s.after (span_tail is_blank text s.gap s.more s.blank) (span_tail is_letter s.more s.letters s.after s.all))
    ]

pub numeral_tail : (text rest : List ℕ) → IsNumeral text rest → Tail text rest
numeral_tail text rest n = tail_on text n.0 rest (body_tail text n.0 n.1) (suffix_tail n.0 rest n.2)

-- ---- digits alone

-- a comma or a semicolon stands first, or nothing
abbrev pub IsOver : List ℕ → Type 0
IsOver text = StartsOff (λ b. not (b == 44) && not (b == 59)) text

off_both : (p : ℕ → Bool) → p 44 ≡ false → p 59 ≡ false → (rest : List ℕ) → IsOver rest → StartsOff p rest
off_both p h k [] o = tt
off_both p h k (b ∷ rest) o =
    elim (cases_Bool (b == 44)) [
      | inl e ↦ subst (λ (x : ℕ). p x ≡ false) (sym (eqb-true b 44 e)) h
      | inr e ↦ elim (cases_Bool (b == 59)) [
        | inl f ↦ subst (λ (x : ℕ). p x ≡ false) (sym (eqb-true b 59 f)) k
        | inr f ↦ absurd (let z : true ≡ false = (rw (e, f) at o) in cc)
      ]
    ]

digit_run : (b : ℕ) → is_digit b ≡ true → is_run b ≡ true
digit_run b h = grind (arith, common_steps)

digit_plus : (b : ℕ) → is_digit b ≡ true → (b == 43) ≡ false
digit_plus b h = grind (arith, common_steps)

digit_minus : (b : ℕ) → is_digit b ≡ true → (b == 45) ≡ false
digit_minus b h = grind (arith, common_steps)

pub digits_mantissa : (d : ℕ) (ds rest : List ℕ) → AllPass is_digit (d ∷ ds) → IsOver rest → IsMantissa (d ∷ (ds ++ rest)) (digits_written (d ∷ ds)) rest
digits_mantissa d ds rest a o = record {
  sign = sym (digit_minus d a.0);
  pointed = rest;
  before = rw (digit_plus d a.0, digit_minus d a.0) (record { whole = refl; pass = a; off = off_both is_digit refl refl rest o });
  after = inr (off_both (λ b. b == 46) refl refl rest o, refl, refl);
  digit = omega arith;
}

over_mark : (rest after : List ℕ) → IsOver rest → (rest ≡ 69 ∷ after) ⊎ (rest ≡ 101 ∷ after) → ⊥
over_mark rest after o m =
    elim m [
      | inl e ↦ let z : true ≡ false = subst (λ (t : List ℕ). IsOver t) e o in cc
      | inr e ↦ let z : true ≡ false = subst (λ (t : List ℕ). IsOver t) e o in cc
    ]

pub over_exponent : (rest : List ℕ) → IsOver rest → (negative : Bool) (digits other : List ℕ) → IsExponent rest negative digits other → ⊥
over_exponent rest o negative digits other e =
    let s : Spans is_blank rest [] rest = record { whole = refl; pass = tt; off = off_both is_blank refl refl rest o } in
    no_mark rest negative digits other [] rest e s (λ after m. over_mark rest after o m)

plain_at : (d : ℕ) (ds rest : List ℕ) → AllPass is_digit (d ∷ ds) → IsOver rest → IsNumeral (d ∷ (ds ++ rest)) rest
plain_at d ds rest a o =
    let r : Spans is_run (d ∷ (ds ++ rest)) (d ∷ ds) rest =
    record { whole = refl; pass = AllPass-weaker is_digit is_run digit_run (d ∷ ds) a; off = off_both is_run refl refl rest o } in
    let s : IsSuffixed rest rest = record {
      gap = [];
      more = rest;
      letters = [];
      after = rest;
      blank = record { whole = refl; pass = tt; off = off_both is_blank refl refl rest o };
      all = record { whole = refl; pass = tt; off = off_both is_letter refl refl rest o };
      ends = inl (refl, refl);
    } in
    (rest, inr (no_exponent_apart _ _ _ (digits_mantissa d ds rest a o) (over_exponent rest o), d ∷ ds, r), s)

pub plain_numeral : (text front rest : List ℕ) → Spans is_digit text front rest → 0 < length front → IsOver rest → IsNumeral text rest
plain_numeral text [] rest s l o = absurd (omega (arith, l))
plain_numeral text (d ∷ ds) rest s l o = subst (λ (t : List ℕ). IsNumeral t rest) (sym s.whole) (plain_at d ds rest s.pass o)
