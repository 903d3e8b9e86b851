-- Units in their places, and that a body becomes one text or one fault.
use Rattle.std.proofs.Common.{◌≡◌, ℕ, List, [], ◌∷◌, ◌++◌, length, Option, Some, None, Result, Ok, Err, refl, sym, ap, subst, ◌∙◌}
use Rattle.std.proofs.Common.{append_assoc, inl, inr}
use Rattle.std.proofs.lemmas.List.{append_cancel_right, append-nil}
use Rattle.sw_base.specs.declared.error.ScpiError.{ScpiError}
use Rattle.sw_lex.specs.Unit.{UnitSeen, IsUnit, IsWritten, Ends, Closes}
use Rattle.sw_lex.proofs.OnceLemmas.{one_unit, unit_refused, blank_unit}
use Rattle.sw_lex.proofs.WrittenLemmas.{one_written}
use Rattle.sw_macro.specs.Table.{Macro, Table}
use Rattle.sw_macro.specs.Expansion.{opened_macro, Place, IsFirstUnit, HasNoUnit, Becomes, ends, keeps, fails, stops, goes, within_bound, Replaces, opened_in}
use Rattle.std.proofs.Common.{◌<◌, ◌≤◌, arith}
use Rattle.std.proofs.lemmas.Grind.{common_steps}
use Rattle.std.specs.Prelude.{Bool, true, false, ◌||◌, nat_le, nat_lt}
use Rattle.std.specs.Option.{option_map}
use Rattle.std.specs.Result.{result_map_both}
use Rattle.sw_base.specs.Limits.{most_levels, most_bytes}
use Rattle.sw_base.specs.declared.error.ScpiError.TheVariants.{MacroRecursionError}
use Rattle.sw_macro.specs.Filling.{put_in}
use Rattle.sw_macro.specs.Expansion.{Expands, called, opened_found, BecomesOpened, UnitBecomes, is_one_of}

-- ---- a unit that was read

-- what stands between a unit and what follows it
pub closes_front : (left rest : List ℕ) → Closes left rest → (between : List ℕ) × (left ≡ between ++ rest)
closes_front left rest c = at_end left c.gap c.end rest c.space.whole c.ends
  where
    at_end : (left gap end rest : List ℕ) → left ≡ gap ++ end → Ends end rest → (between : List ℕ) × (left ≡ between ++ rest)
    at_end left gap [] rest w e = (gap, w ∙ ap (λ (t : List ℕ). gap ++ t) (sym e))
    at_end left gap (b ∷ end) rest w e = (gap ++ b ∷ [], w ∙ ap (λ (t : List ℕ). gap ++ b ∷ t) (sym e.1) ∙ sym (append_assoc gap (b ∷ []) rest))

-- a unit that was read, as it is written, and what follows it
pub record IsRead (text : List ℕ) (u : UnitSeen) (w rest : List ℕ) : Type 0 where
  pub before : List ℕ
  pub left : List ℕ
  pub unit : IsUnit text u rest
  pub writes : IsWritten text before u w left
  pub closes : Closes left rest

-- its place
abbrev pub place_of : (text : List ℕ) (u : UnitSeen) (w rest : List ℕ) → IsRead text u w rest → Place
place_of text u w rest i =
    record { before = i.before; unit = u; written = w; between = (closes_front i.left rest i.closes).0; rest = rest }

pub first_of : (text : List ℕ) (u : UnitSeen) (w rest : List ℕ) (i : IsRead text u w rest) → IsFirstUnit text (place_of text u w rest i)
first_of text u w rest i = record { reads = i.unit; left = i.left; writes = i.writes; parts = (closes_front i.left rest i.closes).1 }

-- what follows it
pub follows_of : (text : List ℕ) (u : UnitSeen) (w rest : List ℕ) (i : IsRead text u w rest) → i.left ≡ (place_of text u w rest i).between ++ rest
follows_of text u w rest i = (closes_front i.left rest i.closes).1

-- the parts of a text round its first unit
pub parts_of : (text : List ℕ) (p : Place) → IsFirstUnit text p → text ≡ p.before ++ (p.written ++ (p.between ++ p.rest))
parts_of text p s =
    s.writes.skipped.whole ∙ ap (λ (t : List ℕ). p.before ++ t) (s.writes.whole ∙ ap (λ (t : List ℕ). p.written ++ t) s.parts)

-- ---- what was written so far

-- whatever the rest becomes after what is written now, the body became after what was written at first
pub record Onward (ms : List Macro) (names : List (List ℕ)) (body first rest now : List ℕ) : Type 0 where
  pub so : (r : Result (List ℕ) ScpiError) → Becomes ms names rest now r → Becomes ms names body first r

pub onward_none : (ms : List Macro) (names : List (List ℕ)) (body first : List ℕ) → Onward ms names body first body first
onward_none ms names body first = record { so = λ r d. d }

-- the same where a front of the body stands between what is written and the rest, and is still to be written
pub record Unwritten (ms : List Macro) (names : List (List ℕ)) (body first unwritten rest now : List ℕ) : Type 0 where
  pub front : List ℕ
  pub whole : unwritten ≡ front ++ rest
  pub onward : Onward ms names body first rest (now ++ front)

pub unwritten_none : (ms : List Macro) (names : List (List ℕ)) (body first : List ℕ) → Unwritten ms names body first body body first
unwritten_none ms names body first = record {
  front = [];
  whole = refl;
  onward = record { so = λ r d. subst (λ (t : List ℕ). Becomes ms names body t r) (append-nil first) d };
}

pub unwritten_ends : (ms : List Macro) (names : List (List ℕ)) (body first unwritten rest now new : List ℕ)
    → Unwritten ms names body first unwritten rest now → HasNoUnit rest → new ≡ now ++ unwritten → Becomes ms names body first (Ok new)
unwritten_ends ms names body first unwritten rest now new o h e =
    let k : new ≡ (now ++ o.front) ++ rest = e ∙ ap (λ (t : List ℕ). now ++ t) o.whole ∙ sym (append_assoc now o.front rest) in
    o.onward.so (Ok new) (subst (λ (t : List ℕ). Becomes ms names rest (now ++ o.front) (Ok t)) (sym k) (ends h))

pub opened_none : (ms : List Macro) (names : List (List ℕ)) (u : UnitSeen) (n : ℕ) → called ms u ≡ None → opened_macro ms names u n ≡ Ok None
opened_none ms names u n e = ap (λ (o : Option Macro). opened_found names u n o) e

-- no macro was found
pub none_found : {A : Type 0} (seen : A → Macro) (found : Option A) (ms : List Macro) (u : UnitSeen) → option_map seen found ≡ called ms u
    → ((x : A) → found ≡ Some x → ⊥) → called ms u ≡ None
none_found seen None ms u e f = sym e
none_found seen (Some x) ms u e f = absurd (f x refl)

-- a unit that calls no macro
pub unwritten_keeps : (ms : List Macro) (names : List (List ℕ)) (body first unwritten rest now : List ℕ) (p : Place)
    → Unwritten ms names body first unwritten rest now → IsFirstUnit rest p → called ms p.unit ≡ None
    → Unwritten ms names body first unwritten p.rest now
unwritten_keeps ms names body first unwritten rest now p o s h =
    let more = o.front ++ (p.before ++ (p.written ++ p.between)) in
    let inner : rest ≡ (p.before ++ (p.written ++ p.between)) ++ p.rest =
    parts_of rest p s ∙ ap (λ (t : List ℕ). p.before ++ t) (sym (append_assoc p.written p.between p.rest))
    ∙ sym (append_assoc p.before (p.written ++ p.between) p.rest) in
    let same : now ++ more ≡ (((now ++ o.front) ++ p.before) ++ p.written) ++ p.between =
    sym (append_assoc now o.front (p.before ++ (p.written ++ p.between)))
    ∙ sym (append_assoc (now ++ o.front) p.before (p.written ++ p.between))
    ∙ sym (append_assoc ((now ++ o.front) ++ p.before) p.written p.between) in
    record {
      front = more;
      whole = o.whole ∙ ap (λ (t : List ℕ). o.front ++ t) inner ∙ sym (append_assoc o.front (p.before ++ (p.written ++ p.between)) p.rest);
      onward = record {
        so = λ r d. o.onward.so r (keeps s (opened_none ms names p.unit (length ((now ++ o.front) ++ p.before)) h)
            (subst (λ (t : List ℕ). Becomes ms names p.rest t r) same d));
      };
    }

abbrev Ended : Type 0
Ended = Result (List ℕ) ScpiError

-- a unit that calls a macro, whose expansion can't be written
fault_at : (ms : List Macro) (names : List (List ℕ)) (text sofar : List ℕ) (p : Place) (a : Result (Option Macro) ScpiError) (e : ScpiError)
    → IsFirstUnit text p → opened_macro ms names p.unit (length (sofar ++ p.before)) ≡ a → BecomesOpened ms names a (sofar ++ p.before) (Err e)
    → Becomes ms names text sofar (Err e)
fault_at ms names text sofar p (Err f) e s o d = subst (λ (r : Ended). Becomes ms names text sofar r) (sym d) (fails s o)
fault_at ms names text sofar p (Ok None) e s o d = absurd d
fault_at ms names text sofar p (Ok (Some m)) e s o d = stops {m = m} s o d

-- a unit that calls a macro, whose expansion is written
goes_at : (ms : List Macro) (names : List (List ℕ)) (text sofar done : List ℕ) (p : Place) (a : Result (Option Macro) ScpiError) (r : Ended)
    → IsFirstUnit text p → opened_macro ms names p.unit (length (sofar ++ p.before)) ≡ a
    → BecomesOpened ms names a (sofar ++ p.before) (Ok done) → Becomes ms names p.rest (done ++ p.between) r → Becomes ms names text sofar r
goes_at ms names text sofar done p (Err f) r s o d k = absurd (let z : Ok done ≡ Err f = d in cc)
goes_at ms names text sofar done p (Ok None) r s o d k = absurd d
goes_at ms names text sofar done p (Ok (Some m)) r s o d k = goes {m = m} s o d k

pub unwritten_fails : (ms : List Macro) (names : List (List ℕ)) (body first unwritten rest now kept : List ℕ) (p : Place) (e : ScpiError)
    → (o : Unwritten ms names body first unwritten rest now) → IsFirstUnit rest p → kept ≡ (now ++ o.front) ++ p.before
    → UnitBecomes ms names p.unit kept (Err e) → Becomes ms names body first (Err e)
unwritten_fails ms names body first unwritten rest now kept p e o s k d =
    o.onward.so (Err e) (fault_at ms names rest (now ++ o.front) p (opened_macro ms names p.unit (length ((now ++ o.front) ++ p.before))) e s refl
    (subst (λ (t : List ℕ). UnitBecomes ms names p.unit t (Err e)) k d))

pub unwritten_goes : (ms : List Macro) (names : List (List ℕ)) (body first unwritten rest now kept done after : List ℕ) (p : Place)
    → (o : Unwritten ms names body first unwritten rest now) → IsFirstUnit rest p → kept ≡ (now ++ o.front) ++ p.before
    → UnitBecomes ms names p.unit kept (Ok done) → after ≡ p.between ++ p.rest → Unwritten ms names body first after p.rest done
unwritten_goes ms names body first unwritten rest now kept done after p o s k d a = record {
  front = p.between;
  whole = a;
  onward = record {
    so = λ r f. o.onward.so r (goes_at ms names rest (now ++ o.front) done p (opened_macro ms names p.unit (length ((now ++ o.front) ++ p.before))) r s refl
        (subst (λ (t : List ℕ). UnitBecomes ms names p.unit t (Ok done)) k d) f);
  };
}

-- ---- the unit that calls a macro

-- a label inside its own body, or a ninth level
abbrev pub is_too_deep : Macro → List (List ℕ) → Bool
is_too_deep m names = is_one_of m.0 names || nat_le most_levels (length names)

-- neither of them, as the code sees it
pub not_too_deep : (m : Macro) (passed names : List (List ℕ)) (b : Bool) (n : ℕ) → passed ≡ names → b ≡ is_one_of m.0 passed → b ≡ false → n < 8
    → length names ≡ n → is_too_deep m names ≡ false
not_too_deep m passed names b n p e f l h =
    let few : nat_le most_levels (length names) ≡ false = grind (arith, common_steps) in
    ap (λ (c : Bool). c || nat_le most_levels (length names)) (ap (λ (x : List (List ℕ)). is_one_of m.0 x) (sym p) ∙ sym e ∙ f) ∙ few

opened_call : (ms : List Macro) (names : List (List ℕ)) (u : UnitSeen) (n : ℕ) (m : Macro) → called ms u ≡ Some m
    → opened_macro ms names u n ≡ opened_found names u n (Some m)
opened_call ms names u n m e = ap (λ (o : Option Macro). opened_found names u n o) e

becomes_opened : (ms : List Macro) (names : List (List ℕ)) (u : UnitSeen) (sofar : List ℕ) (a : Result (Option Macro) ScpiError) (r : Ended)
    → opened_macro ms names u (length sofar) ≡ a → BecomesOpened ms names a sofar r → UnitBecomes ms names u sofar r
becomes_opened ms names u sofar a r o d = subst (λ (x : Result (Option Macro) ScpiError). BecomesOpened ms names x sofar r) (sym o) d

pub unit_too_deep : (ms : List Macro) (names : List (List ℕ)) (u : UnitSeen) (sofar : List ℕ) (m : Macro) → called ms u ≡ Some m
    → is_too_deep m names ≡ true → UnitBecomes ms names u sofar (Err MacroRecursionError)
unit_too_deep ms names u sofar m e h =
    let o : opened_found names u (length sofar) (Some m) ≡ Err MacroRecursionError = rw h refl in
    becomes_opened ms names u sofar (Err MacroRecursionError) (Err MacroRecursionError) (opened_call ms names u (length sofar) m e ∙ o) refl

opened_put : (names : List (List ℕ)) (u : UnitSeen) (n : ℕ) (m : Macro) (put : Ended) → is_too_deep m names ≡ false → put_in u.elements m.1 n ≡ put
    → opened_found names u n (Some m) ≡ result_map_both (λ text. Some (m.0, text)) (λ e. e) put
opened_put names u n m put h k =
    let o : opened_found names u n (Some m) ≡ result_map_both (λ text. Some (m.0, text)) (λ e. e) (put_in u.elements m.1 n) = rw h refl in
    o ∙ ap (λ (x : Ended). result_map_both (λ text. Some (m.0, text)) (λ e. e) x) k

pub unit_unfit : (ms : List Macro) (names : List (List ℕ)) (u : UnitSeen) (sofar : List ℕ) (m : Macro) (e : ScpiError) → called ms u ≡ Some m
    → is_too_deep m names ≡ false → put_in u.elements m.1 (length sofar) ≡ Err e → UnitBecomes ms names u sofar (Err e)
unit_unfit ms names u sofar m e c h k =
    becomes_opened ms names u sofar (Err e) (Err e) (opened_call ms names u (length sofar) m c ∙ opened_put names u (length sofar) m (Err e) h k) refl

pub unit_fits : (ms : List Macro) (names : List (List ℕ)) (u : UnitSeen) (sofar : List ℕ) (m : Macro) (text : List ℕ) (r : Ended) → called ms u ≡ Some m
    → is_too_deep m names ≡ false → put_in u.elements m.1 (length sofar) ≡ Ok text → Becomes ms (names ++ m.0 ∷ []) text sofar r
    → UnitBecomes ms names u sofar r
unit_fits ms names u sofar m text r c h k d =
    becomes_opened ms names u sofar (Ok (Some (m.0, text))) r
    (opened_call ms names u (length sofar) m c ∙ opened_put names u (length sofar) m (Ok text) h k) d

-- ---- one first unit

place : List ℕ → UnitSeen → List ℕ → List ℕ → List ℕ → Place
place b u w m r = record { before = b; unit = u; written = w; between = m; rest = r }

place_is : (p q : Place) → p.before ≡ q.before → p.unit ≡ q.unit → p.written ≡ q.written → p.between ≡ q.between → p.rest ≡ q.rest → p ≡ q
unfolding place
place_is p q a b c d e =
    ap (λ (x : List ℕ). place x p.unit p.written p.between p.rest) a ∙ ap (λ (x : UnitSeen). place q.before x p.written p.between p.rest) b
    ∙ ap (λ (x : List ℕ). place q.before q.unit x p.between p.rest) c ∙ ap (λ (x : List ℕ). place q.before q.unit q.written x p.rest) d
    ∙ ap (λ (x : List ℕ). place q.before q.unit q.written q.between x) e

one_place : (text : List ℕ) (p q : Place) → IsFirstUnit text p → IsFirstUnit text q → p ≡ q
one_place text p q s t =
    let u = one_unit text p.unit q.unit p.rest q.rest s.reads t.reads in
    let w = one_written text p.before q.before q.unit p.written q.written s.left t.left
    (subst (λ (x : UnitSeen). IsWritten text p.before x p.written s.left) u.0 s.writes) t.writes in
    let m = append_cancel_right p.between q.between p.rest (sym s.parts ∙ w.2 ∙ t.parts ∙ ap (λ (x : List ℕ). q.between ++ x) (sym u.1)) in
    place_is p q w.0 u.0 w.1 m u.1

no_place : (text : List ℕ) (p : Place) → HasNoUnit text → IsFirstUnit text p → ⊥
no_place text p h s =
    elim h [ inl b ↦ blank_unit text p.unit p.rest b s.reads | inr e ↦ unit_refused text p.unit p.rest e.0 s.reads e.1 ]

-- ---- one outcome

opened_at : List Macro → List (List ℕ) → List ℕ → Place → Result (Option Macro) ScpiError
opened_at ms names sofar p = opened_macro ms names p.unit (length (sofar ++ p.before))

one_opened : (ms : List Macro) (names : List (List ℕ)) (text sofar : List ℕ) (p q : Place) (a b : Result (Option Macro) ScpiError) → IsFirstUnit text p
    → IsFirstUnit text q → opened_macro ms names p.unit (length (sofar ++ p.before)) ≡ a → opened_macro ms names q.unit (length (sofar ++ q.before)) ≡ b → a ≡ b
one_opened ms names text sofar p q a b s t h k =
    sym h ∙ ap (λ (z : Place). opened_macro ms names z.unit (length (sofar ++ z.before))) (one_place text p q s t) ∙ k

abbrev Opened : Type 0
Opened = Result (Option Macro) ScpiError

abbrev Outcome : Type 0
Outcome = Result (List ℕ) ScpiError

abbrev no_macro : Opened
no_macro = Ok None

abbrev opens : Macro → Opened
opens m = Ok (Some m)

abbrev refuses : ScpiError → Opened
refuses e = Err e

abbrev wrote : List ℕ → Outcome
wrote t = Ok t

abbrev faulty : ScpiError → Outcome
faulty e = Err e

none_some : {X : Type 0} (m : Macro) → no_macro ≡ opens m → X
none_some m e = absurd (let z : None ≡ Some m = cc in cc)

none_refused : {X : Type 0} (f : ScpiError) → no_macro ≡ refuses f → X
none_refused f e = absurd (cc)

refused_some : {X : Type 0} (f : ScpiError) (m : Macro) → refuses f ≡ opens m → X
refused_some f m e = absurd (cc)

wrote_faulty : {X : Type 0} (t : List ℕ) (f : ScpiError) → wrote t ≡ faulty f → X
wrote_faulty t f e = absurd (cc)

same_text : (t u : List ℕ) → wrote t ≡ wrote u → t ≡ u
same_text t u e = cc

-- what one place becomes, another place of the same text becomes
moved : (ms : List Macro) (names : List (List ℕ)) (text sofar : List ℕ) (p q : Place) (r : Result (List ℕ) ScpiError) → IsFirstUnit text p → IsFirstUnit text q
    → Becomes ms names q.rest (((sofar ++ q.before) ++ q.written) ++ q.between) r → Becomes ms names p.rest (((sofar ++ p.before) ++ p.written) ++ p.between) r
moved ms names text sofar p q r s t d =
    subst (λ (z : Place). Becomes ms names z.rest (((sofar ++ z.before) ++ z.written) ++ z.between) r) (sym (one_place text p q s t)) d

moved_within : (ms : List Macro) (names : List (List ℕ)) (text sofar : List ℕ) (p q : Place) (m k : Macro) (r : Result (List ℕ) ScpiError) → IsFirstUnit text p
    → IsFirstUnit text q → m ≡ k → Becomes ms (names ++ k.0 ∷ []) k.1 (sofar ++ q.before) r → Becomes ms (names ++ m.0 ∷ []) m.1 (sofar ++ p.before) r
moved_within ms names text sofar p q m k r s t e d =
    subst (λ (z : Place). Becomes ms (names ++ m.0 ∷ []) m.1 (sofar ++ z.before) r) (sym (one_place text p q s t))
    (subst (λ (z : Macro). Becomes ms (names ++ z.0 ∷ []) z.1 (sofar ++ q.before) r) (sym e) d)

moved_on : (ms : List Macro) (names : List (List ℕ)) (text : List ℕ) (p q : Place) (a b : List ℕ) (r : Result (List ℕ) ScpiError) → IsFirstUnit text p
    → IsFirstUnit text q → a ≡ b → Becomes ms names q.rest (b ++ q.between) r → Becomes ms names p.rest (a ++ p.between) r
moved_on ms names text p q a b r s t e d =
    subst (λ (z : Place). Becomes ms names z.rest (a ++ z.between) r) (sym (one_place text p q s t))
    (subst (λ (z : List ℕ). Becomes ms names q.rest (z ++ q.between) r) (sym e) d)

same_macro : (m k : Macro) → opens m ≡ opens k → m ≡ k
same_macro m k e = let z : Some m ≡ Some k = cc in cc

same_fault : (e f : ScpiError) → refuses e ≡ refuses f → faulty e ≡ faulty f
same_fault e f h = let z : e ≡ f = cc in ap (λ (x : ScpiError). Err x) z

pub one_becomes : (ms : List Macro) {names : List (List ℕ)} {text sofar : List ℕ} {r q : Result (List ℕ) ScpiError} → Becomes ms names text sofar r
    → Becomes ms names text sofar q → r ≡ q
one_becomes ms (ends h) (ends k) = refl
one_becomes ms (ends {text = text} h) (keeps {p = p} s o d) = absurd (no_place text p h s)
one_becomes ms (ends {text = text} h) (fails {p = p} s o) = absurd (no_place text p h s)
one_becomes ms (ends {text = text} h) (stops {p = p} s o d) = absurd (no_place text p h s)
one_becomes ms (ends {text = text} h) (goes {p = p} s o d f) = absurd (no_place text p h s)
one_becomes ms (keeps {text = text} {p = p} s o d) (ends h) = absurd (no_place text p h s)
one_becomes ms (keeps {names = names} {text = text} {sofar = sofar} {p = p} s o d) (keeps {p = q} {r = r} t u f) =
    one_becomes ms d (moved ms names text sofar p q r s t f)
one_becomes ms (keeps {names = names} {text = text} {sofar = sofar} {p = p} s o d) (fails {p = q} {e = e} t u) =
    none_refused e (one_opened ms names text sofar p q (Ok None) (Err e) s t o u)
one_becomes ms (keeps {names = names} {text = text} {sofar = sofar} {p = p} s o d) (stops {p = q} {m = m} t u f) =
    none_some m (one_opened ms names text sofar p q (Ok None) (Ok (Some m)) s t o u)
one_becomes ms (keeps {names = names} {text = text} {sofar = sofar} {p = p} s o d) (goes {p = q} {m = m} t u f g) =
    none_some m (one_opened ms names text sofar p q (Ok None) (Ok (Some m)) s t o u)
one_becomes ms (fails {text = text} {p = p} s o) (ends h) = absurd (no_place text p h s)
one_becomes ms (fails {names = names} {text = text} {sofar = sofar} {p = p} {e = e} s o) (keeps {p = q} t u f) =
    none_refused e (one_opened ms names text sofar q p (Ok None) (Err e) t s u o)
one_becomes ms (fails {names = names} {text = text} {sofar = sofar} {p = p} {e = e} s o) (fails {p = q} {e = f} t u) =
    same_fault e f (one_opened ms names text sofar p q (Err e) (Err f) s t o u)
one_becomes ms (fails {names = names} {text = text} {sofar = sofar} {p = p} {e = e} s o) (stops {p = q} {m = m} t u f) =
    refused_some e m (one_opened ms names text sofar p q (Err e) (Ok (Some m)) s t o u)
one_becomes ms (fails {names = names} {text = text} {sofar = sofar} {p = p} {e = e} s o) (goes {p = q} {m = m} t u f g) =
    refused_some e m (one_opened ms names text sofar p q (Err e) (Ok (Some m)) s t o u)
one_becomes ms (stops {text = text} {p = p} s o d) (ends h) = absurd (no_place text p h s)
one_becomes ms (stops {names = names} {text = text} {sofar = sofar} {p = p} {m = m} s o d) (keeps {p = q} t u f) =
    none_some m (one_opened ms names text sofar q p (Ok None) (Ok (Some m)) t s u o)
one_becomes ms (stops {names = names} {text = text} {sofar = sofar} {p = p} {m = m} s o d) (fails {p = q} {e = e} t u) =
    refused_some e m (one_opened ms names text sofar q p (Err e) (Ok (Some m)) t s u o)
one_becomes ms (stops {names = names} {text = text} {sofar = sofar} {p = p} {m = m} s o d) (stops {p = q} {m = k} {e = e} t u f) =
    let same : m ≡ k = same_macro m k (one_opened ms names text sofar p q (Ok (Some m)) (Ok (Some k)) s t o u) in
    one_becomes ms d (moved_within ms names text sofar p q m k (Err e) s t same f)
one_becomes ms (stops {names = names} {text = text} {sofar = sofar} {p = p} {m = m} {e = e} s o d) (goes {done = done} {p = q} {m = k} t u f g) =
    let same : m ≡ k = same_macro m k (one_opened ms names text sofar p q (Ok (Some m)) (Ok (Some k)) s t o u) in
    wrote_faulty done e (sym (one_becomes ms d (moved_within ms names text sofar p q m k (Ok done) s t same f)))
one_becomes ms (goes {text = text} {p = p} s o d g) (ends h) = absurd (no_place text p h s)
one_becomes ms (goes {names = names} {text = text} {sofar = sofar} {p = p} {m = m} s o d g) (keeps {p = q} t u f) =
    none_some m (one_opened ms names text sofar q p (Ok None) (Ok (Some m)) t s u o)
one_becomes ms (goes {names = names} {text = text} {sofar = sofar} {p = p} {m = m} s o d g) (fails {p = q} {e = e} t u) =
    refused_some e m (one_opened ms names text sofar q p (Err e) (Ok (Some m)) t s u o)
one_becomes ms (goes {names = names} {text = text} {sofar = sofar} {done = done} {p = p} {m = m} s o d g) (stops {p = q} {m = k} {e = e} t u f) =
    let same : m ≡ k = same_macro m k (one_opened ms names text sofar p q (Ok (Some m)) (Ok (Some k)) s t o u) in
    wrote_faulty done e (one_becomes ms d (moved_within ms names text sofar p q m k (Err e) s t same f))
one_becomes ms (goes {names = names} {text = text} {sofar = sofar} {done = done} {p = p} {m = m} s o d g) (goes {done = also} {p = q} {m = k} {r = r} t u f h) =
    let same : m ≡ k = same_macro m k (one_opened ms names text sofar p q (Ok (Some m)) (Ok (Some k)) s t o u) in
    let z : wrote done ≡ wrote also = one_becomes ms d (moved_within ms names text sofar p q m k (Ok also) s t same f) in
    one_becomes ms g (moved_on ms names text p q done also r s t (same_text done also z) h)

-- ---- one expansion

replaced_by : (ms : List Macro) (a : Result (Option Macro) ScpiError) (written : List ℕ) (r : Ended) → BecomesOpened ms [] a [] r
    → Replaces ms a written (within_bound r)
replaced_by ms (Err e) written r d = ap (λ (x : Ended). within_bound x) d
replaced_by ms (Ok None) written r d = absurd d
replaced_by ms (Ok (Some m)) written r d = (r, d, refl)

-- the expansion of a unit that calls a macro, where nothing is written before it
pub unit_replaced : (ms : List Macro) (u : UnitSeen) (names : List (List ℕ)) (sofar written : List ℕ) (r q : Ended) → names ≡ [] → sofar ≡ []
    → UnitBecomes ms names u sofar r → within_bound r ≡ q → Replaces ms (opened_macro ms [] u 0) written q
unit_replaced ms u names sofar written r q n s d e =
    let k : UnitBecomes ms [] u [] r = subst (λ (x : List ℕ). UnitBecomes ms [] u x r) s (subst (λ (x : List (List ℕ)). UnitBecomes ms x u sofar r) n d) in
    subst (λ (x : Ended). Replaces ms (opened_macro ms [] u 0) written x) e (replaced_by ms (opened_macro ms [] u 0) written r k)

-- the judgement of the finished text
pub bound_kept : (text : List ℕ) → length text ≤ most_bytes → within_bound (Ok text) ≡ Ok text
bound_kept text h = let k : nat_lt most_bytes (length text) ≡ false = grind (arith, common_steps) in rw k refl

pub bound_passed : (text : List ℕ) → most_bytes < length text → within_bound (Ok text) ≡ Err MacroRecursionError
bound_passed text h = let k : nat_lt most_bytes (length text) ≡ true = grind (arith, common_steps) in rw k refl

one_replaced : (ms : List Macro) (o : Result (Option Macro) ScpiError) (written : List ℕ) (r s : Result (List ℕ) ScpiError) → Replaces ms o written r
    → Replaces ms o written s → r ≡ s
one_replaced ms (Err e) written r s h k = h ∙ sym k
one_replaced ms (Ok None) written r s h k = h ∙ sym k
one_replaced ms (Ok (Some m)) written r s h k =
    h.2 ∙ ap (λ (x : Result (List ℕ) ScpiError). within_bound x) (one_becomes ms h.1 k.1) ∙ sym k.2

pub one_expanded : (t : Table) (unit : UnitSeen) (written : List ℕ) (r s : Result (List ℕ) ScpiError) → Expands t unit written r → Expands t unit written s
    → r ≡ s
one_expanded t unit written r s h k = one_replaced t.macros (opened_in t unit) written r s h k
