-- A text has at most one unit at its front, or one refusal.
use Rattle.std.proofs.Common.{◌≡◌, ℕ, ◌+◌, ◌<◌, ◌≤◌, Bool, true, false, not, Some, None, List, [], ◌∷◌, ◌++◌, length, refl, sym, ap, subst, ◌∙◌, arith, inl}
use Rattle.std.proofs.Common.{inr}
use Rattle.std.specs.Prelude.{◌==◌}
use Rattle.std.proofs.lemmas.List.{append-nil}
use Rattle.sw_base.specs.Text.{is_blank, is_digit, StartsOff, Spans}
use Rattle.sw_base.proofs.Runs.{same_span, one_span}
use Rattle.sw_base.specs.declared.error.ScpiError.{ScpiError}
use Rattle.sw_base.specs.declared.error.ScpiError.TheVariants.{DataTypeError, InvalidSeparator, InvalidExpression}
use Rattle.sw_lex.specs.Unit.{Heading, Heads, Asks, Datum, kind_of, LeadsElement, Ends, IsNext, IsLast, IsData, IsTail, UnitSeen, IsUnit, ReachesElement}
use Rattle.sw_lex.specs.Unit.{IsStuck}
use Rattle.sw_lex.specs.Unit.{BeginsNone, IsSeventeenth, IsUnclosed, IsBadBlock, IsBroken, BreaksIn, IsUnseparated, IsDataRefused, IsTailRefused}
use Rattle.sw_lex.specs.Unit.{IsPartRefused, IsRefusedUnit, IsBlank, HasNoHeading, is_gap, fault_at, heading_text}
use Rattle.sw_lex.specs.declared.elements.ElementKind.{ElementKind}
use Rattle.sw_lex.specs.declared.elements.ElementKind.TheVariants as kinds
use Rattle.sw_lex.specs.Elements.{is_inner, IsBlock, IsExpression, IsElement}
use Rattle.sw_lex.proofs.LeadingLemmas.{one_kind, one_leads, width_digit}
use Rattle.sw_lex.proofs.HeadingsLemmas.{not_both, one_heading, none_heading, one_none, one_ask}
use Rattle.sw_lex.proofs.ShorterLemmas.{longer, heading_some}

-- ---- one element

begins_not : (text : List ℕ) (e : ScpiError) (d : Datum) (a : List ℕ) → BeginsNone text e → LeadsElement text d a → ⊥
begins_not text e d a n p = let z : None ≡ Some (kind_of d) = sym n.0 ∙ p.starts in cc

unclosed_not : (text : List ℕ) (e : ScpiError) (a : List ℕ) → IsUnclosed text e → IsExpression text a → ⊥
unclosed_not text e a u p =
    let f : 40 ∷ u.more ≡ 40 ∷ (p.inner ++ 41 ∷ a) = sym u.opened ∙ p.whole in
    let g : u.more ≡ p.inner ++ 41 ∷ a = cc in
    let r = same_span is_inner u.inner u.after p.inner (41 ∷ a) u.span.pass u.span.off p.pass refl (sym u.span.whole ∙ g) in
    let z : true ≡ false = subst (λ (y : List ℕ). StartsOff (λ b. b == 41) y) r.1 u.open_still in
    cc

one_unclosed : (text : List ℕ) (e f : ScpiError) → IsUnclosed text e → IsUnclosed text f → e ≡ f
one_unclosed text e f u v =
    let a : 40 ∷ u.more ≡ 40 ∷ v.more = sym u.opened ∙ v.opened in
    let b : u.more ≡ v.more = cc in
    let r = same_span is_inner u.inner u.after v.inner v.after u.span.pass u.span.off v.span.pass v.span.off (sym u.span.whole ∙ b ∙ v.span.whole) in
    u.error ∙ ap (λ (x : List ℕ). fault_at InvalidExpression x) r.1 ∙ sym v.error

same_more : (text a b : List ℕ) → text ≡ 35 ∷ a → text ≡ 35 ∷ b → a ≡ b
same_more text a b e f = let g : 35 ∷ a ≡ 35 ∷ b = sym e ∙ f in cc

-- a byte that is no digit doesn't begin what is a digit or nothing
no_digit_clash : (more others : List ℕ) (b : ℕ) → StartsOff (λ c. not (is_digit c)) more → more ≡ b ∷ others → is_digit b ≡ false → ⊥
no_digit_clash more others b o e h =
    let z : not (is_digit b) ≡ false = subst (λ (y : List ℕ). StartsOff (λ c. not (is_digit c)) y) e o in
    let y : not false ≡ false = rw h at z in
    cc

pub bad_block_not : (text : List ℕ) (e : ScpiError) (bytes a : List ℕ) → IsBadBlock text e → IsBlock text bytes a → ⊥
bad_block_not text e bytes a u p =
    elim u.why [
      | inl x ↦ x.1 bytes a p
      | inr x ↦
          let m : u.more ≡ (48 + length p.digits) ∷ (p.digits ++ (bytes ++ a)) =
          same_more text u.more ((48 + length p.digits) ∷ (p.digits ++ (bytes ++ a))) u.opened p.whole in
          let f : x.0 ∷ x.1 ≡ (48 + length p.digits) ∷ (p.digits ++ (bytes ++ a)) = sym x.2 ∙ m in
          let k : x.0 ≡ 48 + length p.digits = cc in
          let l : is_digit (48 + length p.digits) ≡ true = width_digit (length p.digits) p.few in
          not_both is_digit (48 + length p.digits) x.0 (sym k) l x.3
    ]

one_bad_block : (text : List ℕ) (e f : ScpiError) → IsBadBlock text e → IsBadBlock text f → e ≡ f
one_bad_block text e f u v =
    let m = same_more text u.more v.more u.opened v.opened in
    elim u.why [
      | inl x ↦ elim v.why [
        | inl y ↦ x.2 ∙ sym y.2
        | inr y ↦ absurd (no_digit_clash u.more y.1 y.0 x.0 (m ∙ y.2) y.3)
      ]
      | inr x ↦ elim v.why [
        | inl y ↦ absurd (no_digit_clash v.more x.1 x.0 y.0 (sym m ∙ x.2) x.3)
        | inr y ↦ x.4 ∙ ap (λ (t : List ℕ). fault_at DataTypeError t) m ∙ sym y.4
      ]
    ]

broken_not : (k : ElementKind) (text : List ℕ) (e : ScpiError) (a : List ℕ) → IsBroken k text e → IsElement k text a → ⊥
broken_not kinds.Number text e a u p = u
broken_not kinds.Character text e a u p = u
broken_not kinds.String text e a u p = u.open_still p.0 a p.1
broken_not kinds.Block text e a u p = bad_block_not text e p.0 a u p.1
broken_not kinds.Expression text e a u p = unclosed_not text e a u p

one_broken : (k : ElementKind) (text : List ℕ) (e f : ScpiError) → IsBroken k text e → IsBroken k text f → e ≡ f
one_broken kinds.Number text e f u v = absurd u
one_broken kinds.Character text e f u v = absurd u
one_broken kinds.String text e f u v = u.error ∙ sym v.error
one_broken kinds.Block text e f u v = one_bad_block text e f u v
one_broken kinds.Expression text e f u v = one_unclosed text e f u v

breaks_not : (text : List ℕ) (e : ScpiError) (d : Datum) (a : List ℕ) → BreaksIn text e → LeadsElement text d a → ⊥
breaks_not text e d a u p =
    broken_not u.0 text e a u.2 (subst (λ (x : ElementKind). IsElement x text a) (one_kind text (kind_of d) u.0 p.starts u.1) p.form)

one_break_in : (text : List ℕ) (e f : ScpiError) → BreaksIn text e → BreaksIn text f → e ≡ f
one_break_in text e f u v =
    one_broken u.0 text e f u.2 (subst (λ (x : ElementKind). IsBroken x text f) (one_kind text v.0 u.0 v.1 u.1) v.2)

-- ---- what follows an element

ends_once : (more r s : List ℕ) → Ends more r → Ends more s → r ≡ s
ends_once [] r s a b = a ∙ sym b
ends_once (c ∷ more) r s a b = a.1 ∙ sym b.1

-- the white space after one element, and what follows it
one_gap : (text : List ℕ) (d c : Datum) (a b g h x y : List ℕ) → LeadsElement text d a → Spans is_blank a g x → LeadsElement text c b → Spans is_blank b h y
    → (d ≡ c) × (x ≡ y)
one_gap text d c a b g h x y p s q t =
    let r = one_leads text d c a b p q in
    (r.0, (one_span is_blank a g x h y s (subst (λ (z : List ℕ). Spans is_blank z h y) (sym r.1) t)).1)

pub one_next : (text : List ℕ) (d c : Datum) (x y : List ℕ) → IsNext text d x → IsNext text c y → (d ≡ c) × (x ≡ y)
one_next text d c x y p q =
    let r = one_gap text d c p.after q.after p.gap q.gap (44 ∷ p.others) (44 ∷ q.others) p.element p.before q.element q.before in
    let e : 44 ∷ p.others ≡ 44 ∷ q.others = r.1 in
    let f : p.others ≡ q.others = cc in
    (r.0, (one_span is_blank p.others p.space x q.space y p.behind (subst (λ (z : List ℕ). Spans is_blank z q.space y) (sym f) q.behind)).1)

one_last : (text : List ℕ) (d c : Datum) (x y : List ℕ) → IsLast text d x → IsLast text c y → (d ≡ c) × (x ≡ y)
one_last text d c x y p q =
    let r = one_gap text d c p.after q.after p.gap q.gap p.end q.end p.element p.before q.element q.before in
    (r.0, ends_once p.end x y p.ends (subst (λ (z : List ℕ). Ends z y) (sym r.1) q.ends))

next_last : (text : List ℕ) (d c : Datum) (x y : List ℕ) → IsNext text d x → IsLast text c y → ⊥
next_last text d c x y p q =
    let r = one_gap text d c p.after q.after p.gap q.gap (44 ∷ p.others) q.end p.element p.before q.element q.before in
    let z : Ends (44 ∷ p.others) y = subst (λ (z : List ℕ). Ends z y) (sym r.1) q.ends in
    not_both (λ b. b == 44) 44 59 z.0 refl refl

unseparated_next : (text : List ℕ) (e : ScpiError) (d : Datum) (x : List ℕ) → IsUnseparated text e → IsNext text d x → ⊥
unseparated_next text e d x u p =
    let r = one_gap text u.datum d u.after p.after u.gap p.gap u.more (44 ∷ p.others) u.element u.before p.element p.before in
    let z : true ≡ false = subst (λ (y : List ℕ). StartsOff (λ b. b == 44) y) r.1 u.off in
    cc

unseparated_last : (text : List ℕ) (e : ScpiError) (d : Datum) (x : List ℕ) → IsUnseparated text e → IsLast text d x → ⊥
unseparated_last text e d x u p =
    let r = one_gap text u.datum d u.after p.after u.gap p.gap u.more p.end u.element u.before p.element p.before in
    u.on x (subst (λ (z : List ℕ). Ends z x) (sym r.1) p.ends)

one_unseparated : (text : List ℕ) (e f : ScpiError) → IsUnseparated text e → IsUnseparated text f → e ≡ f
one_unseparated text e f u v =
    let r = one_gap text u.datum v.datum u.after v.after u.gap v.gap u.more v.more u.element u.before v.element v.before in
    u.error ∙ ap (λ (x : List ℕ). fault_at InvalidSeparator x) r.1 ∙ sym v.error

-- ---- where an element should stand

seventeenth : (n : ℕ) (text : List ℕ) (e : ScpiError) → IsSeventeenth n text e → n ≡ 16
seventeenth n text e h = h.0

seventeenth_begins : (n : ℕ) (text : List ℕ) (e f : ScpiError) → IsSeventeenth n text e → BeginsNone text f → ⊥
seventeenth_begins n text e f h g = let z : None ≡ Some h.1 = sym g.0 ∙ h.2 in cc

one_seventeenth : (n : ℕ) (text : List ℕ) (e f : ScpiError) → IsSeventeenth n text e → IsSeventeenth n text f → e ≡ f
one_seventeenth n text e f h g = h.3 ∙ sym g.3

breaks_begins : (text : List ℕ) (e f : ScpiError) → BreaksIn text e → BeginsNone text f → ⊥
breaks_begins text e f u g = let z : None ≡ Some u.0 = sym g.0 ∙ u.1 in cc

stuck_next : (n : ℕ) (text : List ℕ) (e : ScpiError) (d : Datum) (x : List ℕ) → IsStuck n text e → n < 16 → IsNext text d x → ⊥
stuck_next n text e d x s l p =
    elim s [
      | inl b ↦ begins_not text e d p.after b p.element
      | inr t ↦ elim t [
        | inl h ↦ omega (arith, seventeenth n text e h, l)
        | inr q ↦ elim q.1 [ inl u ↦ breaks_not text e d p.after u p.element | inr u ↦ unseparated_next text e d x u p ]
      ]
    ]

stuck_last : (n : ℕ) (text : List ℕ) (e : ScpiError) (d : Datum) (x : List ℕ) → IsStuck n text e → n < 16 → IsLast text d x → ⊥
stuck_last n text e d x s l p =
    elim s [
      | inl b ↦ begins_not text e d p.after b p.element
      | inr t ↦ elim t [
        | inl h ↦ omega (arith, seventeenth n text e h, l)
        | inr q ↦ elim q.1 [ inl u ↦ breaks_not text e d p.after u p.element | inr u ↦ unseparated_last text e d x u p ]
      ]
    ]

one_stuck : (n : ℕ) (text : List ℕ) (e f : ScpiError) → IsStuck n text e → IsStuck n text f → e ≡ f
one_stuck n text e f s t =
    elim s [
      | inl b ↦ elim t [
        | inl c ↦ b.1 ∙ sym c.1
        | inr y ↦ elim y [
          | inl h ↦ absurd (seventeenth_begins n text f e h b)
          | inr q ↦ elim q.1 [ inl u ↦ absurd (breaks_begins text f e u b) | inr u ↦ absurd (begins_not text e u.datum u.after b u.element) ]
        ]
      ]
      | inr x ↦ elim x [
        | inl h ↦ elim t [
          | inl c ↦ absurd (seventeenth_begins n text e f h c)
          | inr y ↦ elim y [
            | inl g ↦ one_seventeenth n text e f h g
            | inr q ↦ absurd (omega (arith, seventeenth n text e h, q.0))
          ]
        ]
        | inr p ↦ elim t [
          | inl c ↦ elim p.1 [ inl u ↦ absurd (breaks_begins text e f u c) | inr u ↦ absurd (begins_not text f u.datum u.after c u.element) ]
          | inr y ↦ elim y [
            | inl g ↦ absurd (omega (arith, seventeenth n text f g, p.0))
            | inr q ↦ elim p.1 [
              | inl u ↦ elim q.1 [ inl v ↦ one_break_in text e f u v | inr v ↦ absurd (breaks_not text e v.datum v.after u v.element) ]
              | inr u ↦ elim q.1 [ inl v ↦ absurd (breaks_not text f u.datum u.after v u.element) | inr v ↦ one_unseparated text e f u v ]
            ]
          ]
        ]
      ]
    ]

-- ---- all elements

one_data : (text : List ℕ) (ds cs : List Datum) (x y : List ℕ) → IsData text ds x → IsData text cs y → (ds ≡ cs) × (x ≡ y)
one_data text [] cs x y p q = absurd p
one_data text (d ∷ []) [] x y p q = absurd q
one_data text (d ∷ b ∷ ds) [] x y p q = absurd q
one_data text (d ∷ []) (c ∷ []) x y p q = let r = one_last text d c x y p q in (ap (λ (z : Datum). z ∷ []) r.0, r.1)
one_data text (d ∷ []) (c ∷ b ∷ cs) x y p q = absurd (next_last text c d q.0 x q.1 p)
one_data text (d ∷ b ∷ ds) (c ∷ []) x y p q = absurd (next_last text d c p.0 y p.1 q)
one_data text (d ∷ b ∷ ds) (c ∷ a ∷ cs) x y p q =
    let r = one_next text d c p.0 q.0 p.1 q.1 in
    let s = one_data p.0 (b ∷ ds) (a ∷ cs) x y p.2 (subst (λ (z : List ℕ). IsData z (a ∷ cs) y) (sym r.1) q.2) in
    (ap (λ (z : Datum). z ∷ b ∷ ds) r.0 ∙ ap (λ (zs : List Datum). c ∷ zs) s.0, s.1)

-- data that are read to their end are not refused, with k elements before them
data_stuck : (k : ℕ) (text : List ℕ) (ds front : List Datum) (x here : List ℕ) (e : ScpiError) → k + length ds ≤ 16 → IsData text ds x
    → ReachesElement text front here
    → IsStuck (k + length front) here e → ⊥
data_stuck k text [] front x here e l p r s = p
data_stuck k text (d ∷ []) [] x here e l p r s =
    stuck_last (k + 0) here e d x s (omega (arith, l)) (subst (λ (z : List ℕ). IsLast z d x) r p)
data_stuck k text (d ∷ b ∷ ds) [] x here e l p r s =
    stuck_next (k + 0) here e d p.0 s (omega (arith, l)) (subst (λ (z : List ℕ). IsNext z d p.0) r p.1)
data_stuck k text (d ∷ []) (f ∷ fs) x here e l p r s = next_last text f d r.0 x r.1 p
data_stuck k text (d ∷ b ∷ ds) (f ∷ fs) x here e l p r s =
    let n = one_next text d f p.0 r.0 p.1 r.1 in
    let c : k + length (f ∷ fs) ≡ k + 1 + length fs = omega arith in
    data_stuck (k + 1) p.0 (b ∷ ds) fs x here e (omega (arith, l)) p.2 (subst (λ (z : List ℕ). ReachesElement z fs here) (sym n.1) r.2)
    (subst (λ (z : ℕ). IsStuck z here e) c s)

stuck_stuck : (k : ℕ) (text : List ℕ) (front others : List Datum) (here there : List ℕ) (e f : ScpiError) → k + length front ≤ 16 → k + length others ≤ 16
    → ReachesElement text front here → IsStuck (k + length front) here e → ReachesElement text others there → IsStuck (k + length others) there f → e ≡ f
stuck_stuck k text [] [] here there e f l m r s q t =
    one_stuck (k + 0) here e f s (subst (λ (z : List ℕ). IsStuck (k + 0) z f) (sym q ∙ r) t)
stuck_stuck k text [] (d ∷ ds) here there e f l m r s q t =
    absurd (stuck_next (k + 0) here e d q.0 s (omega (arith, m)) (subst (λ (z : List ℕ). IsNext z d q.0) r q.1))
stuck_stuck k text (d ∷ ds) [] here there e f l m r s q t =
    absurd (stuck_next (k + 0) there f d r.0 t (omega (arith, l)) (subst (λ (z : List ℕ). IsNext z d r.0) q r.1))
stuck_stuck k text (d ∷ ds) (c ∷ cs) here there e f l m r s q t =
    let n = one_next text d c r.0 q.0 r.1 q.1 in
    let a : k + length (d ∷ ds) ≡ k + 1 + length ds = omega arith in
    let b : k + length (c ∷ cs) ≡ k + 1 + length cs = omega arith in
    stuck_stuck (k + 1) r.0 ds cs here there e f (omega (arith, l)) (omega (arith, m)) r.2 (subst (λ (z : ℕ). IsStuck z here e) a s)
    (subst (λ (z : List ℕ). ReachesElement z cs there) (sym n.1) q.2) (subst (λ (z : ℕ). IsStuck z there f) b t)

data_refused : (text : List ℕ) (ds : List Datum) (x : List ℕ) (e : ScpiError) → length ds ≤ 16 → IsData text ds x → IsDataRefused text e → ⊥
data_refused text ds x e l p r =
    let c : length r.front ≡ 0 + length r.front = omega arith in
    data_stuck 0 text ds r.front x r.here e (omega (arith, l)) p r.reached (subst (λ (z : ℕ). IsStuck z r.here e) c r.why)

one_data_refusal : (text : List ℕ) (e f : ScpiError) → IsDataRefused text e → IsDataRefused text f → e ≡ f
one_data_refusal text e f r s =
    let c : length r.front ≡ 0 + length r.front = omega arith in
    let d : length s.front ≡ 0 + length s.front = omega arith in
    stuck_stuck 0 text r.front s.front r.here s.here e f (omega (arith, r.few)) (omega (arith, s.few)) r.reached
    (subst (λ (z : ℕ). IsStuck z r.here e) c r.why) s.reached (subst (λ (z : ℕ). IsStuck z s.here f) d s.why)

-- ---- what follows a header

tail_same : (tail g x h y : List ℕ) → Spans is_blank tail g x → Spans is_blank tail h y → (g ≡ h) × (x ≡ y)
tail_same tail g x h y s t = one_span is_blank tail g x h y s t

one_tail : (tail : List ℕ) (ds cs : List Datum) (x y : List ℕ) → IsTail tail ds x → IsTail tail cs y → (ds ≡ cs) × (x ≡ y)
one_tail tail ds cs x y p q =
    let r = tail_same tail p.gap p.more q.gap q.more p.before q.before in
    elim p.follows [
      | inl a ↦ elim q.follows [
        | inl b ↦ (a.0 ∙ sym b.0, ends_once p.more x y a.1 (subst (λ (z : List ℕ). Ends z y) (sym r.1) b.1))
        | inr b ↦ absurd (b.1 x (subst (λ (z : List ℕ). Ends z x) r.1 a.1))
      ]
      | inr a ↦ elim q.follows [
        | inl b ↦ absurd (a.1 y (subst (λ (z : List ℕ). Ends z y) (sym r.1) b.1))
        | inr b ↦ one_data p.more ds cs x y a.2 (subst (λ (z : List ℕ). IsData z cs y) (sym r.1) b.2)
      ]
    ]

tail_refused : (tail : List ℕ) (ds : List Datum) (x : List ℕ) (e : ScpiError) → length ds ≤ 16 → IsTail tail ds x → IsTailRefused tail e → ⊥
tail_refused tail ds x e l p q =
    let r = tail_same tail p.gap p.more q.gap q.more p.before q.before in
    elim p.follows [
      | inl a ↦ q.on x (subst (λ (z : List ℕ). Ends z x) r.1 a.1)
      | inr a ↦ elim q.why [
        | inl b ↦ omega (arith, a.0, ap (λ (z : List ℕ). length z) (r.0 ∙ b.0))
        | inr b ↦ data_refused p.more ds x e l a.2 (subst (λ (z : List ℕ). IsDataRefused z e) (sym r.1) b.1)
      ]
    ]

one_tail_refusal : (tail : List ℕ) (e f : ScpiError) → IsTailRefused tail e → IsTailRefused tail f → e ≡ f
one_tail_refusal tail e f p q =
    let r = tail_same tail p.gap p.more q.gap q.more p.before q.before in
    elim p.why [
      | inl a ↦ elim q.why [
        | inl b ↦ a.1 ∙ ap (λ (z : List ℕ). fault_at InvalidSeparator z) r.1 ∙ sym b.1
        | inr b ↦ absurd (omega (arith, b.0, ap (λ (z : List ℕ). length z) (sym r.0 ∙ a.0)))
      ]
      | inr a ↦ elim q.why [
        | inl b ↦ absurd (omega (arith, a.0, ap (λ (z : List ℕ). length z) (r.0 ∙ b.0)))
        | inr b ↦ one_data_refusal p.more e f a.1 (subst (λ (z : List ℕ). IsDataRefused z f) (sym r.1) b.1)
      ]
    ]

-- ---- one reading of a text

starts : (text a x b y : List ℕ) → Spans is_gap text a x → Spans is_gap text b y → x ≡ y
starts text a x b y s t = (one_span is_gap text a x b y s t).1

blank_start : (text a x : List ℕ) → IsBlank text → Spans is_gap text a x → x ≡ []
blank_start text a x h s = starts text a x text [] s (record { whole = sym (append-nil text); pass = h; off = tt })

unit_starts : (text : List ℕ) (u : UnitSeen) (x : List ℕ) (p : IsUnit text u x) → 0 < length p.start
unit_starts text u x p = omega (arith, longer p.start (heading_text u.header) p.after p.header.whole, heading_some u.header p.header.form)

abbrev view : Heading → Bool → List Datum → UnitSeen
view h q ds = record { header = h; query = q; elements = ds }

view_is : (u v : UnitSeen) → u.header ≡ v.header → u.query ≡ v.query → u.elements ≡ v.elements → u ≡ v
view_is u v a b c =
    ap (λ (h : Heading). view h u.query u.elements) a ∙ ap (λ (q : Bool). view v.header q u.elements) b ∙ ap (λ (ds : List Datum). view v.header v.query ds) c

pub one_unit : (text : List ℕ) (u v : UnitSeen) (x y : List ℕ) → IsUnit text u x → IsUnit text v y → (u ≡ v) × (x ≡ y)
one_unit text u v x y p q =
    let a = starts text p.before p.start q.before q.start p.skipped q.skipped in
    let b = one_heading p.start u.header v.header p.after q.after p.header (subst (λ (z : List ℕ). Heads z v.header q.after) (sym a) q.header) in
    let c = one_ask p.after u.query v.query p.tail q.tail p.asks (subst (λ (z : List ℕ). Asks z v.query q.tail) (sym b.1) q.asks) in
    let d = one_tail p.tail u.elements v.elements x y p.follows (subst (λ (z : List ℕ). IsTail z v.elements y) (sym c.1) q.follows) in
    (view_is u v b.0 c.0 d.0, d.1)

part_refused : (start after tail : List ℕ) (u : UnitSeen) (x : List ℕ) (e : ScpiError) → Heads start u.header after → Asks after u.query tail
    → IsTail tail u.elements x → length u.elements ≤ 16 → IsPartRefused start e → ⊥
part_refused start after tail u x e h k t l r =
    let b = one_heading start u.header r.heading after r.after h r.header in
    let c = one_ask after u.query r.query tail r.tail k (subst (λ (z : List ℕ). Asks z r.query r.tail) (sym b.1) r.asks) in
    tail_refused tail u.elements x e l t (subst (λ (z : List ℕ). IsTailRefused z e) (sym c.1) r.refused)

one_part_refusal : (start : List ℕ) (e f : ScpiError) → IsPartRefused start e → IsPartRefused start f → e ≡ f
one_part_refusal start e f r s =
    let b = one_heading start r.heading s.heading r.after s.after r.header s.header in
    let c = one_ask r.after r.query s.query r.tail s.tail r.asks (subst (λ (z : List ℕ). Asks z s.query s.tail) (sym b.1) s.asks) in
    one_tail_refusal r.tail e f r.refused (subst (λ (z : List ℕ). IsTailRefused z f) (sym c.1) s.refused)

pub unit_refused : (text : List ℕ) (u : UnitSeen) (x : List ℕ) (e : ScpiError) → IsUnit text u x → IsRefusedUnit text e → ⊥
unit_refused text u x e p r =
    let a = starts text p.before p.start r.before r.start p.skipped r.skipped in
    elim r.refused [
      | inl n ↦ none_heading p.start u.header p.after e (subst (λ (z : List ℕ). HasNoHeading z e) (sym a) n) p.header
      | inr s ↦ part_refused p.start p.after p.tail u x e p.header p.asks p.follows p.few (subst (λ (z : List ℕ). IsPartRefused z e) (sym a) s)
    ]

pub one_refusal : (text : List ℕ) (e f : ScpiError) → IsRefusedUnit text e → IsRefusedUnit text f → e ≡ f
one_refusal text e f r s =
    let a = starts text r.before r.start s.before s.start r.skipped s.skipped in
    elim r.refused [
      | inl n ↦ elim s.refused [
        | inl m ↦ one_none r.start e f n (subst (λ (z : List ℕ). HasNoHeading z f) (sym a) m)
        | inr q ↦ absurd (none_heading s.start q.heading q.after e (subst (λ (z : List ℕ). HasNoHeading z e) a n) q.header)
      ]
      | inr p ↦ elim s.refused [
        | inl m ↦ absurd (none_heading r.start p.heading p.after f (subst (λ (z : List ℕ). HasNoHeading z f) (sym a) m) p.header)
        | inr q ↦ one_part_refusal r.start e f p (subst (λ (z : List ℕ). IsPartRefused z f) (sym a) q)
      ]
    ]

pub blank_unit : (text : List ℕ) (u : UnitSeen) (x : List ℕ) → IsBlank text → IsUnit text u x → ⊥
blank_unit text u x h p =
    omega (arith, unit_starts text u x p, ap (λ (z : List ℕ). length z) (blank_start text p.before p.start h p.skipped))

pub blank_refused : (text : List ℕ) (e : ScpiError) → IsBlank text → IsRefusedUnit text e → ⊥
blank_refused text e h r =
    omega (arith, r.some, ap (λ (z : List ℕ). length z) (blank_start text r.before r.start h r.skipped))
