-- Parts at the front of a text: a number, and what is one part or two parts with a mark between them.
use Rattle.std.proofs.Common.{◌≡◌, ℕ, ◌<◌, Bool, true, false, List, [], ◌∷◌, ◌++◌, length, refl, sym, ap, subst, ◌∙◌, append_assoc, ◌⊎◌, inl, inr, arith}
use Rattle.std.specs.Prelude.{◌==◌, Option}
use Rattle.std.proofs.lemmas.Grind.{common_steps}
use Rattle.std.proofs.lemmas.Bool.{eq-eqb, eqb-true}
use Rattle.std.proofs.lemmas.List.{append-nil}
use Rattle.sw_base.specs.Text.{is_blank, is_digit, AllPass, StartsOff, Spans}
use Rattle.sw_base.proofs.Runs.{one_span, digit-blank, blank-digit}
use Rattle.sw_channel.specs.Grammar.{WrittenChannel, plain, pair, ListItem, one, range, IsPadded, IsMarkedPair, AreJoined, IsChannel, IsItem}
use Rattle.sw_channel.specs.Seen.{ends_number, ends_channel, ends_item, EndsBy, LeadsPart, LeadsNone, MeansNumber}
use Rattle.sw_channel.proofs.Items.{IsJoinable, parts_join, one_joined}

-- ---- numbers

end-blank : (b : ℕ) → ends_number b ≡ true → is_blank b ≡ false
end-blank b h = grind (arith, common_steps)

end-digit : (b : ℕ) → ends_number b ≡ true → is_digit b ≡ false
end-digit b h = grind (arith, common_steps)

ends_off : (p : ℕ → Bool) → ((b : ℕ) → ends_number b ≡ true → p b ≡ false) → (tail : List ℕ) → EndsBy ends_number tail → StartsOff p tail
ends_off p f [] h = tt
ends_off p f (b ∷ bs) h = f b h

digits-off : (d after : List ℕ) → AllPass is_digit d → 0 < length d → StartsOff is_blank (d ++ after)
digits-off [] after a h = absurd (omega (arith, h))
digits-off (x ∷ d) after a h = digit-blank x a.0

blanks-off : (after tail : List ℕ) → AllPass is_blank after → EndsBy ends_number tail → StartsOff is_digit (after ++ tail)
blanks-off [] tail a h = ends_off is_digit end-digit tail h
blanks-off (x ∷ after) tail a h = blank-digit x a.0

no_digits : (d after r : List ℕ) → AllPass is_digit d → 0 < length d → StartsOff is_digit r → d ++ after ≡ r → ⊥
no_digits [] after r a h o e = omega (arith, h)
no_digits (x ∷ d) after r a h o e =
    let f : is_digit x ≡ false = subst (λ (t : List ℕ). StartsOff is_digit t) (sym e) o in
    let z : true ≡ false = sym a.0 ∙ f in cc

-- where the digits of a number that ends there begin, and what they are
digits_at : (text a r other tail e : List ℕ) → Spans is_blank text a r → (p : IsPadded other e) → EndsBy ends_number tail → text ≡ other ++ tail
    → e ++ (p.after ++ tail) ≡ r
digits_at text a r other tail e s p h w =
    let k : text ≡ p.before ++ (e ++ (p.after ++ tail)) =
    w ∙ ap (λ (t : List ℕ). t ++ tail) p.whole ∙ append_assoc p.before (e ++ p.after) tail ∙ ap (λ (t : List ℕ). p.before ++ t) (append_assoc e p.after tail) in
    let f : Spans is_blank text p.before (e ++ (p.after ++ tail)) =
    record { whole = k; pass = p.before_blank; off = digits-off e (p.after ++ tail) p.digits_only p.some } in
    (one_span is_blank text p.before (e ++ (p.after ++ tail)) a r f s).1

pub number_leads : (text a r d m b rest : List ℕ) (number : Option ℕ) → Spans is_blank text a r → Spans is_digit r d m → Spans is_blank m b rest
    → 0 < length d → MeansNumber d number → LeadsPart IsPadded ends_number MeansNumber text number rest
number_leads text a r d m b rest number s t u h n = record {
  front = a ++ (d ++ b);
  written = d;
  part = record { before = a; after = b; whole = refl; before_blank = s.pass; after_blank = u.pass; digits_only = t.pass; some = h };
  means = n;
  whole = s.whole ∙ ap (λ (x : List ℕ). a ++ x) (t.whole ∙ ap (λ (x : List ℕ). d ++ x) u.whole ∙ sym (append_assoc d b rest))
      ∙ sym (append_assoc a (d ++ b) rest);
  only = λ other tail e p q w.
      let f : Spans is_digit r e (p.after ++ tail) =
      record { whole = sym (digits_at text a r other tail e s p q w); pass = p.digits_only; off = blanks-off p.after tail p.after_blank q } in
      let y = one_span is_digit r e (p.after ++ tail) d m f t in
      let g : Spans is_blank m p.after tail = record { whole = sym y.1; pass = p.after_blank; off = ends_off is_blank end-blank tail q } in
      (one_span is_blank m p.after tail b rest g u).1;
}

-- a number with no white space round it
pub bare_leads : (text d rest : List ℕ) (number : Option ℕ) → text ≡ d ++ rest → AllPass is_digit d → 0 < length d
    → StartsOff is_blank rest → StartsOff is_digit rest → MeansNumber d number → LeadsPart IsPadded ends_number MeansNumber text number rest
bare_leads text d rest number e a h b o n =
    let s : StartsOff is_blank text = subst (λ (t : List ℕ). StartsOff is_blank t) (sym e) (digits-off d rest a h) in
    number_leads text [] text d rest [] rest number (record { whole = refl; pass = tt; off = s }) (record { whole = e; pass = a; off = o })
    (record { whole = refl; pass = tt; off = b }) h n

pub number_none : (text a r : List ℕ) → Spans is_blank text a r → StartsOff is_digit r → LeadsNone IsPadded ends_number text
number_none text a r s o = λ other tail e p q w.
    no_digits e (p.after ++ tail) r p.digits_only p.some o (digits_at text a r other tail e s p q w)

-- ---- one part, or two with a mark between them

pub record IsForm {W V : Type 0} (P : List ℕ → W → Type 0) (Q : List ℕ → V → Type 0) (mark : ℕ) (inner outer : ℕ → Bool) : Type 0 where
  pub single : W → V
  pub double : W → W → V
  pub of_single : (text : List ℕ) (w : W) → P text w → Q text (single w)
  pub of_double : (text : List ℕ) (x y : W) → IsMarkedPair mark (λ t. P t x) (λ t. P t y) text → Q text (double x y)
  pub cases : (text : List ℕ) (v : V) → Q text v → ((w : W) × P text w) ⊎ ((x : W) × (y : W) × IsMarkedPair mark (λ t. P t x) (λ t. P t y) text)
  pub on : inner mark ≡ true
  pub off : outer mark ≡ false
  pub wider : (b : ℕ) → outer b ≡ true → inner b ≡ true

pub ends_wider : (inner outer : ℕ → Bool) → ((b : ℕ) → outer b ≡ true → inner b ≡ true) → (tail : List ℕ) → EndsBy outer tail → EndsBy inner tail
ends_wider inner outer f [] h = tt
ends_wider inner outer f (b ∷ bs) h = f b h

pub no_end : (outer : ℕ → Bool) (mark : ℕ) (tail more : List ℕ) → outer mark ≡ false → EndsBy outer tail → tail ≡ mark ∷ more → ⊥
no_end outer mark tail more o h e =
    let k : outer mark ≡ true = subst (λ (t : List ℕ). EndsBy outer t) e h in
    let z : true ≡ false = sym k ∙ o in cc

joined_on : (mark : ℕ) (text other tail left right : List ℕ) → text ≡ other ++ tail → other ≡ left ++ mark ∷ right → text ≡ left ++ mark ∷ (right ++ tail)
joined_on mark text other tail left right e w = e ∙ ap (λ (t : List ℕ). t ++ tail) w ∙ append_assoc left (mark ∷ right) tail

pub none_first : {W V : Type 0} {P : List ℕ → W → Type 0} {Q : List ℕ → V → Type 0} {mark : ℕ} {inner outer : ℕ → Bool} → IsForm P Q mark inner outer
    → (text : List ℕ) → LeadsNone P inner text → LeadsNone Q outer text
none_first {W} {V} {P} {Q} {mark} {inner} {outer} f text n = λ other tail v q e t.
    elim (f.cases other v q) [
      | inl s ↦ n other tail s.0 s.1 (ends_wider inner outer f.wider tail e) t
      | inr j ↦ n j.2.left (mark ∷ (j.2.right ++ tail)) j.0 j.2.first f.on (joined_on mark text other tail j.2.left j.2.right t j.2.whole)
    ]

pub none_second : {W V M : Type 0} {P : List ℕ → W → Type 0} {Q : List ℕ → V → Type 0} {mark : ℕ} {inner outer : ℕ → Bool} {Means : W → M → Type 0}
    → IsForm P Q mark inner outer → (text rest more : List ℕ) (m : M) → LeadsPart P inner Means text m rest → rest ≡ mark ∷ more → LeadsNone P inner more
    → LeadsNone Q outer text
none_second {W} {V} {M} {P} {Q} {mark} {inner} {outer} {Means} f text rest more m l r n = λ other tail v q e t.
    elim (f.cases other v q) [
      | inl s ↦ no_end outer mark tail more f.off e (l.only other tail s.0 s.1 (ends_wider inner outer f.wider tail e) t ∙ r)
      | inr j ↦
          let k : mark ∷ (j.2.right ++ tail) ≡ mark ∷ more =
          l.only j.2.left (mark ∷ (j.2.right ++ tail)) j.0 j.2.first f.on (joined_on mark text other tail j.2.left j.2.right t j.2.whole) ∙ r in
          let g : more ≡ j.2.right ++ tail = cc in
          n j.2.right tail j.1 j.2.second (ends_wider inner outer f.wider tail e) g
    ]

pub leads_single : {W V M N : Type 0} {P : List ℕ → W → Type 0} {Q : List ℕ → V → Type 0} {mark : ℕ} {inner outer : ℕ → Bool} {Means : W → M → Type 0}
    {Meaning : V → N → Type 0} → (f : IsForm P Q mark inner outer) (text rest : List ℕ) (m : M) (n : N) → LeadsPart P inner Means text m rest
    → StartsOff (λ b. b == mark) rest → ((w : W) → Means w m → Meaning (f.single w) n) → LeadsPart Q outer Meaning text n rest
leads_single {W} {V} {M} {N} {P} {Q} {mark} {inner} {outer} {Means} {Meaning} f text rest m n l o g = record {
  front = l.front;
  written = f.single l.written;
  part = f.of_single l.front l.written l.part;
  means = g l.written l.means;
  whole = l.whole;
  only = λ other tail v q e t.
      elim (f.cases other v q) [
        | inl s ↦ l.only other tail s.0 s.1 (ends_wider inner outer f.wider tail e) t
        | inr j ↦
            let k : mark ∷ (j.2.right ++ tail) ≡ rest =
            l.only j.2.left (mark ∷ (j.2.right ++ tail)) j.0 j.2.first f.on (joined_on mark text other tail j.2.left j.2.right t j.2.whole) in
            let b : (mark == mark) ≡ false = subst (λ (x : List ℕ). StartsOff (λ b. b == mark) x) (sym k) o in
            absurd (let z : true ≡ false = sym (eq-eqb mark mark refl) ∙ b in cc)
      ];
}

pub leads_double : {W V M N : Type 0} {P : List ℕ → W → Type 0} {Q : List ℕ → V → Type 0} {mark : ℕ} {inner outer : ℕ → Bool} {Means : W → M → Type 0}
    {Meaning : V → N → Type 0} → (f : IsForm P Q mark inner outer) (text rest more last : List ℕ) (m k : M) (n : N) → LeadsPart P inner Means text m rest
    → rest ≡ mark ∷ more → LeadsPart P inner Means more k last → ((x y : W) → Means x m → Means y k → Meaning (f.double x y) n)
    → LeadsPart Q outer Meaning text n last
leads_double {W} {V} {M} {N} {P} {Q} {mark} {inner} {outer} {Means} {Meaning} f text rest more last m k n l r s g = record {
  front = l.front ++ mark ∷ s.front;
  written = f.double l.written s.written;
  part = f.of_double (l.front ++ mark ∷ s.front) l.written s.written
      (record { left = l.front; right = s.front; first = l.part; second = s.part; whole = refl });
  means = g l.written s.written l.means s.means;
  whole = l.whole ∙ ap (λ (t : List ℕ). l.front ++ t) (r ∙ ap (λ (t : List ℕ). mark ∷ t) s.whole) ∙ sym (append_assoc l.front (mark ∷ s.front) last);
  only = λ other tail v q e t.
      elim (f.cases other v q) [
        | inl p ↦ absurd (no_end outer mark tail more f.off e (l.only other tail p.0 p.1 (ends_wider inner outer f.wider tail e) t ∙ r))
        | inr j ↦
            let a : mark ∷ (j.2.right ++ tail) ≡ mark ∷ more =
            l.only j.2.left (mark ∷ (j.2.right ++ tail)) j.0 j.2.first f.on (joined_on mark text other tail j.2.left j.2.right t j.2.whole) ∙ r in
            let b : more ≡ j.2.right ++ tail = cc in
            s.only j.2.right tail j.1 j.2.second (ends_wider inner outer f.wider tail e) b
      ];
}

-- the same part, of which something else is known
pub leads_known : {W M N : Type 0} {P : List ℕ → W → Type 0} {ends : ℕ → Bool} {Means : W → M → Type 0} {Known : W → N → Type 0} (text rest : List ℕ) (m : M)
    (n : N) → LeadsPart P ends Means text m rest → ((w : W) → Means w m → Known w n) → LeadsPart P ends Known text n rest
leads_known text rest m n l f =
    record { front = l.front; written = l.written; part = l.part; means = f l.written l.means; whole = l.whole; only = l.only }

-- ---- channels and items

pub channel_cases : (text : List ℕ) (w : WrittenChannel) → IsChannel text w
    → ((n : List ℕ) × IsPadded text n) ⊎ ((s : List ℕ) × (c : List ℕ) × IsMarkedPair 33 (λ t. IsPadded t s) (λ t. IsPadded t c) text)
channel_cases text (plain n) p = inl (n, p)
channel_cases text (pair s c) p = inr (s, c, p)

pub channel_wider : (b : ℕ) → ends_channel b ≡ true → ends_number b ≡ true
channel_wider b h = grind (arith, common_steps)

abbrev pub channels : IsForm IsPadded IsChannel 33 ends_number ends_channel
channels = record {
  single = plain;
  double = pair;
  of_single = λ text w p. p;
  of_double = λ text x y p. p;
  cases = channel_cases;
  on = refl;
  off = refl;
  wider = channel_wider;
}

pub item_cases : (text : List ℕ) (i : ListItem) → IsItem text i
    → ((w : WrittenChannel) × IsChannel text w) ⊎ ((v : WrittenChannel) × (w : WrittenChannel) × IsMarkedPair 58 (λ t. IsChannel t v) (λ t. IsChannel t w) text)
item_cases text (one w) p = inl (w, p)
item_cases text (range v w) p = inr (v, w, p)

pub item_wider : (b : ℕ) → ends_item b ≡ true → ends_channel b ≡ true
item_wider b h = grind (arith, common_steps)

abbrev pub items : IsForm IsChannel IsItem 58 ends_channel ends_item
items = record {
  single = one;
  double = range;
  of_single = λ text w p. p;
  of_double = λ text x y p. p;
  cases = item_cases;
  on = refl;
  off = refl;
  wider = item_wider;
}

-- a mark that ends no item isn't where one ends
pub item_off : (mark : ℕ) (rest : List ℕ) → (mark == 44) ≡ false → EndsBy ends_item rest → StartsOff (λ b. b == mark) rest
item_off mark [] m e = tt
item_off mark (b ∷ bs) m e = grind (arith, common_steps)

-- ---- items and commas

pub none_left : (xs : List ℕ) → (length xs == 0) ≡ true → xs ≡ []
none_left [] h = refl
none_left (x ∷ xs) h = absurd (omega (arith, eqb-true (length (x ∷ xs)) 0 h))

pub some_left : (xs : List ℕ) → (length xs == 0) ≡ false → xs ≡ [] → ⊥
some_left xs h e =
    let k : (length xs == 0) ≡ true = ap (λ (t : List ℕ). length t == 0) e in
    let z : true ≡ false = sym k ∙ h in cc

-- the first item of a list, and what stands behind it
pub record IsFirst {W : Type 0} (Part : List ℕ → W → Type 0) (text : List ℕ) (is : List W) : Type 0 where
  pub item : W
  pub others : List W
  pub front : List ℕ
  pub tail : List ℕ
  pub all : is ≡ item ∷ others
  pub part : Part front item
  pub ends : EndsBy ends_item tail
  pub whole : text ≡ front ++ tail
  pub onward : ((tail ≡ []) × (others ≡ [])) ⊎ ((right : List ℕ) × (tail ≡ 44 ∷ right) × AreJoined 44 Part right others)

pub first_of : {W : Type 0} {Part : List ℕ → W → Type 0} (text : List ℕ) (is : List W) → AreJoined 44 Part text is → IsFirst Part text is
first_of text [] p = absurd p
first_of text (i ∷ []) p =
    record { item = i; others = []; front = text; tail = []; all = refl; part = p; ends = tt; whole = sym (append-nil text); onward = inl (refl, refl) }
first_of text (i ∷ j ∷ is) p = record {
  item = i;
  others = j ∷ is;
  front = p.left;
  tail = 44 ∷ p.right;
  all = refl;
  part = p.first;
  ends = refl;
  whole = p.whole;
  onward = inr (p.right, refl, p.second);
}

module _ {W M : Type 0} (Part : List ℕ → W → Type 0) (Means : W → M → Type 0) (text rest : List ℕ) (meant : M)
    (l : LeadsPart Part ends_item Means text meant rest) where
  pub last_item : rest ≡ [] → AreJoined 44 Part text (l.written ∷ [])
  last_item e = subst (λ (t : List ℕ). Part t l.written) (sym (l.whole ∙ ap (λ (t : List ℕ). l.front ++ t) e ∙ append-nil l.front)) l.part

  -- what follows the item that was read is what follows the first item of the list
  tail_is : (is : List W) → (f : IsFirst Part text is) → f.tail ≡ rest
  tail_is is f = l.only f.front f.tail f.item f.part f.ends f.whole

  pub no_next : (rest ≡ [] → ⊥) → StartsOff (λ b. b == 44) rest → (is : List W) → AreJoined 44 Part text is → ⊥
  no_next n o is h =
      let f = first_of {Part = Part} text is h in
      let t = tail_is is f in
      elim f.onward [
        | inl x ↦ n (sym t ∙ x.0)
        | inr x ↦
            let b : (44 == 44) ≡ false = subst (λ (y : List ℕ). StartsOff (λ b. b == 44) y) (sym t ∙ x.1) o in
            let z : true ≡ false = b in cc
      ]

  pub next_items : (more : List ℕ) → IsJoinable 44 Part → rest ≡ 44 ∷ more → (is : List W) → AreJoined 44 Part text is
      → (js : List W) × (is ≡ l.written ∷ js) × AreJoined 44 Part more js
  next_items more j e is h =
      let f = first_of {Part = Part} text is h in
      let t = tail_is is f in
      elim f.onward [
        | inl x ↦ absurd (let z : [] ≡ 44 ∷ more = sym x.0 ∙ t ∙ e in cc)
        | inr x ↦
            let k : 44 ∷ x.0 ≡ 44 ∷ more = sym x.1 ∙ t ∙ e in
            let r : x.0 ≡ more = cc in
            let q = subst (λ (y : List ℕ). AreJoined 44 Part y f.others) r x.2 in
            let g = parts_join 44 Part text l.front more l.written f.others (l.whole ∙ ap (λ (y : List ℕ). l.front ++ y) e) l.part q in
            (f.others, one_joined j text is (l.written ∷ f.others) h g, q)
      ]
