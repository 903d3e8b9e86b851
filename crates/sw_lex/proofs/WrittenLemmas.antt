-- A unit as it is written: where it ends, and that it is written in one way.
use Rattle.std.proofs.Common.{◌≡◌, ℕ, Bool, true, false, List, [], ◌∷◌, ◌++◌, refl, sym, ap, subst, ◌∙◌, append_assoc}
use Rattle.std.proofs.lemmas.List.{append_cancel_right}
use Rattle.sw_base.specs.Text.{is_blank, Spans}
use Rattle.sw_base.proofs.Runs.{one_span}
use Rattle.sw_lex.specs.Unit.{Heading, heading_text, Heads, Asks, Datum, datum_text, LeadsElement, IsNext, AreJoinedElements, IsLeft, IsWritten, ReachesElement}
use Rattle.sw_lex.specs.Unit.{UnitSeen, is_gap}
use Rattle.sw_lex.proofs.LeadingLemmas.{one_leads}
use Rattle.sw_lex.proofs.HeadingsLemmas.{one_heading, one_ask}
use Rattle.sw_lex.proofs.OnceLemmas.{one_next}

-- ---- what is left of a text

abbrev pub Leaves : List ℕ → List ℕ → Type 0
Leaves text rest = (front : List ℕ) × (text ≡ front ++ rest)

leaves_more : (a b c : List ℕ) → Leaves a b → Leaves b c → Leaves a c
leaves_more a b c p q = (p.0 ++ q.0, p.1 ∙ ap (λ (t : List ℕ). p.0 ++ t) q.1 ∙ sym (append_assoc p.0 q.0 c))

span_leaves : (test : ℕ → Bool) (text front rest : List ℕ) → Spans test text front rest → Leaves text rest
span_leaves test text front rest s = (front, s.whole)

leads_leaves : (text : List ℕ) (d : Datum) (after : List ℕ) → LeadsElement text d after → Leaves text after
leads_leaves text d after l = (datum_text d, l.whole)

next_leaves : (text : List ℕ) (d : Datum) (next : List ℕ) → IsNext text d next → Leaves text next
next_leaves text d next n =
    leaves_more text n.after next (leads_leaves text d n.after n.element)
    (leaves_more n.after (44 ∷ n.others) next (span_leaves _ n.after n.gap (44 ∷ n.others) n.before)
    (leaves_more (44 ∷ n.others) n.others next (44 ∷ [], refl) (span_leaves _ n.others n.space next n.behind)))

joined_leaves : (text : List ℕ) (ds : List Datum) (left : List ℕ) → AreJoinedElements text ds left → Leaves text left
joined_leaves text [] left h = absurd h
joined_leaves text (d ∷ []) left h = leads_leaves text d left h
joined_leaves text (d ∷ c ∷ ds) left h = leaves_more text h.0 left (next_leaves text d h.0 h.1) (joined_leaves h.0 (c ∷ ds) left h.2)

left_leaves : (tail : List ℕ) (ds : List Datum) (left : List ℕ) → IsLeft tail ds left → Leaves tail left
left_leaves tail [] left h = ([], sym h)
left_leaves tail (d ∷ ds) left h = leaves_more tail h.1 left (h.0, h.2.whole) (joined_leaves h.1 (d ∷ ds) left h.3)

asks_leaves : (after : List ℕ) (query : Bool) (tail : List ℕ) → Asks after query tail → Leaves after tail
asks_leaves after true tail a = (63 ∷ [], a)
asks_leaves after false tail a = ([], a.0)

pub start_leaves : (start : List ℕ) (h : Heading) (after : List ℕ) (q : Bool) (tail : List ℕ) (ds : List Datum) (left : List ℕ) → Heads start h after
    → Asks after q tail → IsLeft tail ds left → Leaves start left
start_leaves start h after q tail ds left p a l =
    leaves_more start after left (heading_text h, p.whole) (leaves_more after tail left (asks_leaves after q tail a) (left_leaves tail ds left l))

-- ---- data so far

pub joined_last : (text : List ℕ) (ds : List Datum) (here left : List ℕ) (d : Datum) → ReachesElement text ds here → LeadsElement here d left
    → AreJoinedElements text (ds ++ d ∷ []) left
joined_last text [] here left d r n = subst (λ (t : List ℕ). LeadsElement t d left) (sym r) n
joined_last text (c ∷ []) here left d r n = (r.0, r.1, joined_last r.0 [] here left d r.2 n)
joined_last text (c ∷ b ∷ ds) here left d r n = (r.0, r.1, joined_last r.0 (b ∷ ds) here left d r.2 n)

pub joined_left : (tail gap more : List ℕ) (ds : List Datum) (left : List ℕ) → Spans is_blank tail gap more → AreJoinedElements more ds left
    → IsLeft tail ds left
joined_left tail gap more [] left s h = absurd h
joined_left tail gap more (d ∷ ds) left s h = (gap, more, s, h)

-- ---- one way

one_joined : (text : List ℕ) (ds : List Datum) (a b : List ℕ) → AreJoinedElements text ds a → AreJoinedElements text ds b → a ≡ b
one_joined text [] a b p q = absurd p
one_joined text (d ∷ []) a b p q = (one_leads text d d a b p q).1
one_joined text (d ∷ c ∷ ds) a b p q =
    let n = one_next text d d p.0 q.0 p.1 q.1 in
    one_joined p.0 (c ∷ ds) a b p.2 (subst (λ (z : List ℕ). AreJoinedElements z (c ∷ ds) b) (sym n.1) q.2)

one_left : (tail : List ℕ) (ds : List Datum) (a b : List ℕ) → IsLeft tail ds a → IsLeft tail ds b → a ≡ b
one_left tail [] a b p q = p ∙ sym q
one_left tail (d ∷ ds) a b p q =
    let r = one_span is_blank tail p.0 p.1 q.0 q.1 p.2 q.2 in
    one_joined p.1 (d ∷ ds) a b p.3 (subst (λ (z : List ℕ). AreJoinedElements z (d ∷ ds) b) (sym r.1) q.3)

pub one_written : (text before front : List ℕ) (u : UnitSeen) (w v r s : List ℕ) → IsWritten text before u w r → IsWritten text front u v s
    → (before ≡ front) × (w ≡ v) × (r ≡ s)
one_written text before front u w v r s p q =
    let a = one_span is_gap text before p.start front q.start p.skipped q.skipped in
    let b = one_heading p.start u.header u.header p.after q.after p.header (subst (λ (z : List ℕ). Heads z u.header q.after) (sym a.1) q.header) in
    let c = one_ask p.after u.query u.query p.tail q.tail p.asks (subst (λ (z : List ℕ). Asks z u.query q.tail) (sym b.1) q.asks) in
    let d = one_left p.tail u.elements r s p.ends (subst (λ (z : List ℕ). IsLeft z u.elements s) (sym c.1) q.ends) in
    (a.0, append_cancel_right w v r (sym p.whole ∙ a.1 ∙ q.whole ∙ ap (λ (t : List ℕ). v ++ t) (sym d)), d)
