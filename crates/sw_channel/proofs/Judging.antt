-- Judging the items of a list from left to right: one after another, and what it gives in the end.
use Rattle.std.proofs.Common.{◌≡◌, ℕ, ◌+◌, ◌-◌, ◌<◌, ◌≤◌, ◌≢◌, map, true, false, List, [], ◌∷◌, ◌++◌, length, refl, sym, ap, subst, ◌∙◌, append_assoc, arith}
use Rattle.std.proofs.Common.{◌⊎◌, inl, inr, lit≤}
use Rattle.std.specs.Prelude.{Option, Some, None, Result, Ok, Err, nat_le, IfOk}
use Rattle.std.specs.Result.{result_map_both}
use Rattle.std.specs.List.{range_with_len}
use Rattle.std.proofs.lemmas.Bool.{cases_Bool, leb-true, le-leb, lt-leb}
use Rattle.std.proofs.lemmas.List.FromFn.{length-map-range_with_len, map-range_with_len_more}
use Rattle.std.proofs.lemmas.List.{append-nil, length-append, length-map, map-append}
use Rattle.sw_base.specs.Layout.{Channel}
use Rattle.sw_base.specs.Memory.{Gives}
use Rattle.sw_base.specs.declared.error.ScpiError.{ScpiError}
use Rattle.sw_base.specs.declared.error.ScpiError.TheVariants.{InvalidExpression, DataOutOfRange, OutOfMemory, TooMuchData}
use Rattle.std.specs.Option.{option_map}
use Rattle.sw_channel.specs.Grammar.{WrittenChannel, ListItem, one, range, PositionItem, joined, single_each, IsItems, IsPositionItems, IsBracketed}
use Rattle.sw_channel.specs.Positions.{Position, alone}
use Rattle.sw_channel.specs.PositionMeaning.{NamePositions, positions_judged}
use Rattle.sw_channel.specs.Meaning.{channels_of, channels_between, count_between, towards, Mean, judged, judged_with, fitting, channels_judged}
use Rattle.sw_channel.specs.Reading.{ListKind, channel_list, position_list, SpellsAs, IsNoListOf, IsRefusedAs, ReadsAs}
use Rattle.sw_channel.specs.Seen.{channels_in, positions_in, MeansChannel, MeansSingle, MeansRun, LeadsTo, IsFound, Gathers}
use Rattle.sw_channel.specs.declared.run.Run.{Run}
use Rattle.sw_channel.specs.declared.entry.Entry.{Entry}
use Rattle.sw_channel.specs.declared.collect.Found.{Found}
use Rattle.sw_channel.proofs.Items.{one_list, one_position_list, list_body}
use Rattle.sw_channel.proofs.PositionJudging.{joined_ok, joined_named, joined_never}

-- What items name and how they are judged agree, and a text is written in one way.
pub record IsSettled {I V : Type 0} (kind : ListKind I V) : Type 0 where
  pub one : (text : List ℕ) (is js : List I) → kind.Written text is → kind.Written text js → is ≡ js
  pub ok : (count : ℕ) (i : I) (vs : List V) → kind.judge count i ≡ Ok vs → kind.NamesEach i vs × (count + length vs ≤ 512)
  pub named : (count : ℕ) (i : I) (vs : List V) → kind.NamesEach i vs → count + length vs ≤ 512 → kind.judge count i ≡ Ok vs
  pub never : (count : ℕ) (i : I) → kind.judge count i ≡ Err InvalidExpression → ⊥

abbrev done : {V : Type 0} → List V → Result (List V) ScpiError
done vs = Ok vs

abbrev refuse : {V : Type 0} → ScpiError → Result (List V) ScpiError
refuse e = Err e

okay : {V : Type 0} (vs ws : List V) → done vs ≡ done ws → vs ≡ ws
okay vs ws e = cc

-- ---- what judging gives

-- the entries that were added, and what judging the rest gives
ok_step : {V : Type 0} (front all : List V) (r : Result (List V) ScpiError) (rest : List V → Result (List V) ScpiError) → judged_with front r rest ≡ Ok all
    → (vs : List V) × (r ≡ Ok vs) × (rest (front ++ vs) ≡ Ok all)
ok_step front all (Err e) rest h = absurd cc
ok_step front all (Ok vs) rest h = (vs, refl, h)

module _ {I V : Type 0} (kind : ListKind I V) (k : IsSettled kind) where
  judged_ok : (front all : List V) (is : List I) → judged kind.judge front is ≡ Ok all → length front ≤ 512 → (vs : List V) × (all ≡ front ++ vs)
      × Mean kind.NamesEach is vs × (length all ≤ 512)
  judged_ok front all [] e h =
      let same : front ≡ all = okay front all e in
      ([], sym same ∙ sym (append-nil front), refl, rw (← same) h)
  judged_ok front all (i ∷ is) e h =
      let s = ok_step front all (kind.judge (length front) i) (λ more. judged kind.judge more is) e in
      let n = k.ok (length front) i s.0 s.1 in
      let r = judged_ok (front ++ s.0) all is s.2 (omega (arith, length-append front s.0, n.1)) in
      (s.0 ++ r.0, r.1 ∙ append_assoc front s.0 r.0, (s.0, r.0, n.0, r.2, refl), r.3)

  ok_judged : (front vs : List V) (is : List I) → Mean kind.NamesEach is vs → length (front ++ vs) ≤ 512 → judged kind.judge front is ≡ Ok (front ++ vs)
  ok_judged front vs [] m h = ap Ok (sym (append-nil front) ∙ ap (λ (x : List V). front ++ x) (sym m))
  ok_judged front vs (i ∷ is) m h =
      let whole : (front ++ m.0) ++ m.1 ≡ front ++ vs = append_assoc front m.0 m.1 ∙ ap (λ (x : List V). front ++ x) (sym m.4) in
      let fits : length ((front ++ m.0) ++ m.1) ≤ 512 = rw whole h in
      let first = k.named (length front) i m.0 m.2 (omega (arith, fits, length-append (front ++ m.0) m.1, length-append front m.0)) in
      let r = ok_judged (front ++ m.0) m.1 is m.3 fits in
      rw (first, r, whole) refl

  err_step : (front : List V) (r : Result (List V) ScpiError) (rest : List V → Result (List V) ScpiError) → (r ≡ Err InvalidExpression → ⊥)
      → ((more : List V) → rest more ≡ Err InvalidExpression → ⊥) → judged_with front r rest ≡ Err InvalidExpression → ⊥
  err_step front (Err d) rest g f e = g e
  err_step front (Ok vs) rest g f e = f (front ++ vs) e

  judged_err : (front : List V) (is : List I) → judged kind.judge front is ≡ Err InvalidExpression → ⊥
  judged_err front [] e = cc
  judged_err front (i ∷ is) e =
      err_step front (kind.judge (length front) i) (λ more. judged kind.judge more is) (k.never (length front) i) (λ more. judged_err more is) e

  -- ---- one answer to a text

  -- what a text gives, with any memory
  abbrev GivesWhole : List ℕ → Result (List V) ScpiError → Type 0
  GivesWhole text r = (IsNoListOf kind text × (r ≡ Err InvalidExpression)) ⊎ ((is : List I) × kind.Written text is × (judged kind.judge [] is ≡ r))

  given_once : (text : List ℕ) (r s : Result (List V) ScpiError) → GivesWhole text r → GivesWhole text s → r ≡ s
  given_once text r s x y =
      elim x [
        | inl a ↦ elim y [ inl b ↦ a.1 ∙ sym b.1 | inr b ↦ absurd (a.0 b.0 b.1) ]
        | inr a ↦ elim y [
          | inl b ↦ absurd (b.0 a.0 a.1)
          | inr b ↦ sym a.2 ∙ ap (λ (is : List I). judged kind.judge [] is) (k.one text a.0 b.0 a.1 b.1) ∙ b.2
        ]
      ]

  of_spelled : (text : List ℕ) (vs : List V) → SpellsAs kind text vs → length vs ≤ 512 → GivesWhole text (Ok vs)
  of_spelled text vs h n = inr (h.0, h.1, ok_judged [] vs h.0 h.2 n)

  of_refused : (text : List ℕ) (e : ScpiError) → IsRefusedAs kind text e → GivesWhole text (Err e)
  of_refused text e h = elim h [ inl x ↦ inl (x.0, ap Err x.1) | inr x ↦ inr x ]

  of_read : (text : List ℕ) (r : Result (List V) ScpiError) → ReadsAs kind text r → r ≢ Err OutOfMemory → GivesWhole text r
  of_read text (Ok vs) h n = of_spelled text vs h.0 h.1
  of_read text (Err e) h n = elim h [ inl f ↦ of_refused text e f | inr m ↦ absurd (n (ap Err m.0)) ]

  pub read_once : (text : List ℕ) (r s : Result (List V) ScpiError) → ReadsAs kind text r → ReadsAs kind text s → r ≢ Err OutOfMemory → s ≢ Err OutOfMemory
      → r ≡ s
  read_once text r s h j n m = given_once text r s (of_read text r h n) (of_read text s j m)

  spelled_refused : (text : List ℕ) (vs : List V) (e : ScpiError) → SpellsAs kind text vs → length vs ≤ 512 → IsRefusedAs kind text e → ⊥
  spelled_refused text vs e h n f = let z : done vs ≡ refuse e = given_once text (Ok vs) (Err e) (of_spelled text vs h n) (of_refused text e f) in cc

  same_refusal : (text : List ℕ) (d e : ScpiError) → IsRefusedAs kind text d → IsRefusedAs kind text e → d ≡ e
  same_refusal text d e f g =
      let z : refuse {V = V} d ≡ refuse {V = V} e = given_once text (Err d) (Err e) (of_refused text d f) (of_refused text e g) in cc

  -- ---- what follows from a reading, at any view of what was read

  pub found_by : {X : Type 0} (view : X → List V) (r : Result X ScpiError) (text : List ℕ) → ReadsAs kind text (result_map_both view (λ e. e) r)
      → IfOk r (λ v. SpellsAs kind text (view v) × (length (view v) ≤ 512))
  found_by view (Ok v) text h = h
  found_by view (Err e) text h = tt

  pub refused_by : {X : Type 0} (view : X → List V) (r : Result X ScpiError) (text : List ℕ) → ReadsAs kind text (result_map_both view (λ e. e) r)
      → (e : ScpiError) → IsRefusedAs kind text e → r ≡ Err e
  refused_by view (Ok v) text h e f = absurd (spelled_refused text (view v) e h.0 h.1 f)
  refused_by view (Err d) text h e f =
      elim h [
        | inl g ↦ ap Err (same_refusal text d e g f)
        | inr m ↦ absurd (spelled_refused text m.1.0 e m.1.1 m.1.2 f)
      ]

  gives_by : {X : Type 0} (view : X → List V) (r : Result X ScpiError) (text : List ℕ) → ReadsAs kind text (result_map_both view (λ e. e) r)
      → (all : Result (List V) ScpiError) → GivesWhole text all → Gives view r all
  gives_by view (Ok v) text h all g = given_once text all (Ok (view v)) g (of_spelled text (view v) h.0 h.1)
  gives_by view (Err e) text h all g =
      elim h [
        | inl f ↦ inr (given_once text all (Err e) g (of_refused text e f))
        | inr m ↦ inl m.0
      ]

  pub only_by : {X : Type 0} (view : X → List V) (r : Result X ScpiError) (text : List ℕ) → ReadsAs kind text (result_map_both view (λ e. e) r)
      → (vs : List V) → SpellsAs kind text vs → length vs ≤ 512 → Gives view r (Ok vs)
  only_by view r text h vs s n = gives_by view r text h (Ok vs) (of_spelled text vs s n)

  pub judged_by : {X : Type 0} (view : X → List V) (r : Result X ScpiError) (text : List ℕ) → ReadsAs kind text (result_map_both view (λ e. e) r)
      → (is : List I) → kind.Written text is → Gives view r (judged kind.judge [] is)
  judged_by view r text h is l = gives_by view r text h (judged kind.judge [] is) (inr (is, l, refl))

  no_list : (text : List ℕ) → IsRefusedAs kind text InvalidExpression → IsNoListOf kind text
  no_list text f = elim f [ inl x ↦ x.0 | inr x ↦ absurd (judged_err [] x.0 x.2) ]

  pub malformed_by : {X : Type 0} (view : X → List V) (r : Result X ScpiError) (text : List ℕ) → ReadsAs kind text (result_map_both view (λ e. e) r)
      → r ≡ Err InvalidExpression → IsNoListOf kind text
  malformed_by view (Ok v) text h n = absurd cc
  malformed_by view (Err e) text h n =
      let same : e ≡ InvalidExpression = cc in
      elim h [
        | inl f ↦ no_list text (subst (λ (d : ScpiError). IsRefusedAs kind text d) same f)
        | inr m ↦ absurd (let z : InvalidExpression ≡ OutOfMemory = sym same ∙ m.0 in cc)
      ]

  -- ---- what stands between the brackets is read as the list is

  module _ (Body : List ℕ → List I → Type 0) (into : (text : List ℕ) (is : List I) → IsBracketed Body text is → kind.Written text is)
      (back : (text : List ℕ) (is : List I) → kind.Written text is → IsBracketed Body text is) where
    items_spelled : (text body : List ℕ) (is : List I) (vs : List V) → text ≡ 40 ∷ 64 ∷ (body ++ 41 ∷ []) → Body body is → judged kind.judge [] is ≡ Ok vs
        → SpellsAs kind text vs × (length vs ≤ 512)
    items_spelled text body is vs t h e =
        let j = judged_ok [] vs is e (lit≤ tt) in
        ((is, into text is (body, h, t), subst (λ (ws : List V). Mean kind.NamesEach is ws) (sym j.1) j.2), j.3)

    due_read : (text body : List ℕ) (is : List I) (r : Result (List V) ScpiError) → text ≡ 40 ∷ 64 ∷ (body ++ 41 ∷ []) → Body body is
        → r ≡ judged kind.judge [] is → ReadsAs kind text r
    due_read text body is (Ok vs) t h e = items_spelled text body is vs t h (sym e)
    due_read text body is (Err d) t h e = inl (inr (is, into text is (body, h, t), sym e))

    items_read : (text body : List ℕ) (r : Result (List V) ScpiError) → text ≡ 40 ∷ 64 ∷ (body ++ 41 ∷ []) → Gathers Body kind.judge body r
        → ReadsAs kind text r
    items_read text body r t h =
        elim h [
          | inl x ↦ rw x.1 (inl (inl (λ is l. x.0 is (list_body Body body text is t (back text is l)), refl)))
          | inr x ↦ elim x.2 [
            | inl y ↦ due_read text body x.0 r t x.1 y
            | inr y ↦
                let s = items_spelled text body x.0 y.1.0 t x.1 y.1.1 in
                rw y.0 (inr (refl, (y.1.0, s.0, s.1)))
          ]
        ]

-- ---- what fits

fitting_ok : {V : Type 0} (count : ℕ) (o : Option (List V)) (vs : List V) → fitting count o ≡ Ok vs → (o ≡ Some vs) × (count + length vs ≤ 512)
fitting_ok count None vs e = absurd cc
fitting_ok {V = V} count (Some ws) vs e =
    elim (cases_Bool (nat_le (count + length ws) 512)) [
      | inl t ↦
          let same : ws ≡ vs = okay ws vs (rw t at e) in
          (ap Some same, subst (λ (x : List V). count + length x ≤ 512) same (leb-true _ _ t))
      | inr t ↦ absurd (let k : refuse {V = V} TooMuchData ≡ Ok vs = rw t at e in cc)
    ]

named_fits : {V : Type 0} (count : ℕ) (o : Option (List V)) (vs : List V) → o ≡ Some vs → count + length vs ≤ 512 → fitting count o ≡ Ok vs
named_fits count o vs e h = rw (e, le-leb _ _ h) refl

fitting_never : {V : Type 0} (count : ℕ) (o : Option (List V)) → fitting count o ≡ Err InvalidExpression → ⊥
fitting_never count None e = cc
fitting_never {V = V} count (Some vs) e =
    elim (cases_Bool (nat_le (count + length vs) 512)) [
      | inl t ↦ let k : done vs ≡ Err InvalidExpression = rw t at e in cc
      | inr t ↦ let k : refuse {V = V} TooMuchData ≡ Err InvalidExpression = rw t at e in cc
    ]

-- ---- the two kinds of list

pub channels_settled : IsSettled channel_list
channels_settled = record {
  one = one_list;
  ok = λ count i cs e. fitting_ok count (channels_of i) cs e;
  named = λ count i cs e h. named_fits count (channels_of i) cs e h;
  never = λ count i e. fitting_never count (channels_of i) e;
}

positions_ok : (count : ℕ) (i : PositionItem) (ps : List Position) → positions_judged count i ≡ Ok ps → NamePositions i ps × (count + length ps ≤ 512)
positions_ok count (joined w ws) ps e = joined_ok count w ws ps e
positions_ok count (single_each v w) ps e = fitting_ok count (option_map (map alone) (channels_of (range v w))) ps e

positions_named : (count : ℕ) (i : PositionItem) (ps : List Position) → NamePositions i ps → count + length ps ≤ 512 → positions_judged count i ≡ Ok ps
positions_named count (joined w ws) ps n h = joined_named count w ws ps n h
positions_named count (single_each v w) ps n h = named_fits count (option_map (map alone) (channels_of (range v w))) ps n h

positions_never : (count : ℕ) (i : PositionItem) → positions_judged count i ≡ Err InvalidExpression → ⊥
positions_never count (joined w ws) e = joined_never count w ws e
positions_never count (single_each v w) e = fitting_never count (option_map (map alone) (channels_of (range v w))) e

pub positions_settled : IsSettled position_list
positions_settled = record { one = one_position_list; ok = positions_ok; named = positions_named; never = positions_never }

-- the one reading of a channel list
pub one_reading : (text : List ℕ) (r s : Result (List Channel) ScpiError) → ReadsAs channel_list text r → ReadsAs channel_list text s → r ≢ Err OutOfMemory
    → s ≢ Err OutOfMemory → r ≡ s
one_reading = read_once channel_list channels_settled

-- the one reading of a list of positions
pub one_position_reading : (text : List ℕ) (r s : Result (List Position) ScpiError) → ReadsAs position_list text r → ReadsAs position_list text s
    → r ≢ Err OutOfMemory → s ≢ Err OutOfMemory → r ≡ s
one_position_reading = read_once position_list positions_settled

pub channels_read : (text body : List ℕ) (r : Result (List Channel) ScpiError) → text ≡ 40 ∷ 64 ∷ (body ++ 41 ∷ []) → Gathers IsItems channels_judged body r
    → ReadsAs channel_list text r
channels_read = items_read channel_list channels_settled IsItems (λ text is p. p) (λ text is p. p)

pub positions_read : (text body : List ℕ) (r : Result (List Position) ScpiError) → text ≡ 40 ∷ 64 ∷ (body ++ 41 ∷ [])
    → Gathers IsPositionItems positions_judged body r → ReadsAs position_list text r
positions_read = items_read position_list positions_settled IsPositionItems (λ text is p. p) (λ text is p. p)

-- ---- judging one item after another

pub length-between : (slot first last : ℕ) → length (channels_between slot first last) ≡ count_between first last
length-between slot first last = length-map-range_with_len (λ k. (slot, towards first last k)) 0 (count_between first last)

pub leads_none : (f : Found Channel) (i : ListItem) (is : List ListItem) (all : Result (List Channel) ScpiError) → MeansRun i None
    → LeadsTo channels_judged (Ok f) (i ∷ is) all → all ≡ Err DataOutOfRange
leads_none f i is all e h = let k = rw e at h.3 in sym k

pub leads_fits : (f g : Found Channel) (i : ListItem) (is : List ListItem) (all : Result (List Channel) ScpiError) (run : Run) (more : ℕ)
    → MeansRun i (Some run) → more ≡ count_between run.first.1 run.last.1 → f.count ≤ 512 - more → more ≤ 99 → g.count ≡ f.count + more
    → ((front : List Channel) → IfOk f.entries (λ v. v.items ≡ front) → IfOk g.entries (λ v. v.items ≡ front ++ channels_in run))
    → LeadsTo channels_judged (Ok f) (i ∷ is) all → LeadsTo channels_judged (Ok g) is all
leads_fits f g i is all run more e m h k n c x =
    let l = length-between run.first.0 run.first.1 run.last.1 in
    let room : nat_le (length x.0 + length (channels_in run)) 512 ≡ true = le-leb _ _ (omega (arith, h, k, m, x.1, l)) in
    let y = rw (e, room) at x.3 in
    (x.0 ++ channels_in run, omega (arith, length-append x.0 (channels_in run), l, m, n, x.1), c x.0 x.2, y)

pub leads_full : (f : Found Channel) (i : ListItem) (is : List ListItem) (all : Result (List Channel) ScpiError) (run : Run) (more : ℕ)
    → MeansRun i (Some run) → more ≡ count_between run.first.1 run.last.1 → 512 - more < f.count → LeadsTo channels_judged (Ok f) (i ∷ is) all
    → all ≡ Err TooMuchData
leads_full f i is all run more e m h x =
    let l = length-between run.first.0 run.first.1 run.last.1 in
    let full : nat_le (length x.0 + length (channels_in run)) 512 ≡ false = lt-leb _ _ (omega (arith, h, m, x.1, l)) in
    let y = rw (e, full) at x.3 in sym y

pub single_means : (chan : Option Channel) (w : WrittenChannel) → MeansChannel w chan → MeansSingle (one w) chan
single_means None w h = rw (← h) refl
single_means (Some c) w h = rw (← h) refl

-- no item is left
pub leads_over : {I V : Type 0} (judge : ℕ → I → Result (List V) ScpiError) (found : Result (Found V) ScpiError) (all : Result (List V) ScpiError)
    → LeadsTo judge found [] all → IsFound found all
leads_over judge (Ok f) all h = (h.0, h.2, sym h.3)
leads_over judge (Err e) all h = h

-- an item of positions that is refused, and one that is taken
pub entry_refused : (f : Found Position) (i : PositionItem) (is : List PositionItem) (all : Result (List Position) ScpiError) (e : ScpiError)
    → positions_judged f.count i ≡ Err e → LeadsTo positions_judged (Ok f) (i ∷ is) all → all ≡ Err e
entry_refused f i is all e h x =
    let j : positions_judged (length x.0) i ≡ Err e = ap (λ (n : ℕ). positions_judged n i) x.1 ∙ h in
    let y = rw j at x.3 in sym y

pub entry_taken : (f g : Found Position) (i : PositionItem) (is : List PositionItem) (all : Result (List Position) ScpiError) (entry : Entry)
    → positions_judged f.count i ≡ Ok (positions_in entry) → g.count ≡ f.count + length (positions_in entry)
    → ((front : List Position) → IfOk f.entries (λ v. v.items ≡ front) → IfOk g.entries (λ v. v.items ≡ front ++ positions_in entry))
    → LeadsTo positions_judged (Ok f) (i ∷ is) all → LeadsTo positions_judged (Ok g) is all
entry_taken f g i is all entry h n c x =
    let j : positions_judged (length x.0) i ≡ Ok (positions_in entry) = ap (λ (m : ℕ). positions_judged m i) x.1 ∙ h in
    let y = rw j at x.3 in
    (x.0 ++ positions_in entry, omega (arith, length-append x.0 (positions_in entry), n, x.1), c x.0 x.2, y)

pub entry_within : (count : ℕ) (i : PositionItem) (entry : Entry) → positions_judged count i ≡ Ok (positions_in entry)
    → count + length (positions_in entry) ≤ 512
entry_within count i entry h = (positions_ok count i (positions_in entry) h).1

-- an item that was judged after as many as are found
pub counted : (found : Result (Found Position) ScpiError) (count : ℕ) (i : PositionItem) (r : Result (List Position) ScpiError)
    → IfOk found (λ f. count ≡ f.count) → positions_judged count i ≡ r → IfOk found (λ f. positions_judged f.count i ≡ r)
counted (Err e) count i r c h = tt
counted (Ok f) count i r c h = ap (λ (n : ℕ). positions_judged n i) (sym c) ∙ h

-- ---- the positions of a range

pub length-alone : (run : Run) (more : ℕ) → more ≡ count_between run.first.1 run.last.1 → more ≡ length (map alone (channels_in run))
length-alone run more e = e ∙ sym (length-map (channels_in run) alone ∙ length-between run.first.0 run.first.1 run.last.1)

-- what the two ends of a range name, by its run
run_named : (v w : WrittenChannel) (run : Option Run) → MeansRun (range v w) run
    → option_map (map alone) (channels_of (range v w)) ≡ option_map (λ r. map alone (channels_in r)) run
run_named v w None e = ap (λ (o : Option (List Channel)). option_map (map alone) o) e
run_named v w (Some r) e = ap (λ (o : Option (List Channel)). option_map (map alone) o) e

pub range_none_named : (count : ℕ) (v w : WrittenChannel) → MeansRun (range v w) None → positions_judged count (single_each v w) ≡ Err DataOutOfRange
range_none_named count v w m = ap (λ (o : Option (List Position)). fitting count o) (run_named v w None m)

pub range_full : (count : ℕ) (v w : WrittenChannel) (run : Run) (more : ℕ) → MeansRun (range v w) (Some run) → more ≡ count_between run.first.1 run.last.1
    → 512 - more < count → positions_judged count (single_each v w) ≡ Err TooMuchData
range_full count v w run more m n h =
    let l = length-alone run more n in
    ap (λ (o : Option (List Position)). fitting count o) (run_named v w (Some run) m)
    ∙ (let full : nat_le (count + length (map alone (channels_in run))) 512 ≡ false = lt-leb _ _ (omega (arith, h, l)) in rw full refl)

pub range_fits : (count : ℕ) (v w : WrittenChannel) (run : Run) (more : ℕ) → MeansRun (range v w) (Some run) → more ≡ count_between run.first.1 run.last.1
    → more ≤ 99 → count ≤ 512 - more → positions_judged count (single_each v w) ≡ Ok (map alone (channels_in run))
range_fits count v w run more m n k h =
    let l = length-alone run more n in
    ap (λ (o : Option (List Position)). fitting count o) (run_named v w (Some run) m)
    ∙ (let room : nat_le (count + length (map alone (channels_in run))) 512 ≡ true = le-leb _ _ (omega (arith, h, k, l)) in rw room refl)

-- ---- the channels of a range, one after another

abbrev run_to : ℕ → ℕ → ℕ → ℕ → List Channel
run_to slot first last k = map (λ i. (slot, towards first last i)) (range_with_len 0 k)

one_further : (slot first last k : ℕ) → run_to slot first last (k + 1) ≡ run_to slot first last k ++ (slot, towards first last k) ∷ []
one_further slot first last k = map-range_with_len_more (λ i. (slot, towards first last i)) 0 k k (omega arith)

pub run_more : (front : List Channel) (slot first last k : ℕ)
    → (front ++ run_to slot first last k) ++ (slot, towards first last k) ∷ [] ≡ front ++ run_to slot first last (k + 1)
run_more front slot first last k =
    rw (one_further slot first last k) (append_assoc front (run_to slot first last k) ((slot, towards first last k) ∷ []))

pub each_more : (front : List Position) (slot first last k : ℕ)
    → (front ++ map alone (run_to slot first last k)) ++ alone ((slot, towards first last k)) ∷ [] ≡ front ++ map alone (run_to slot first last (k + 1))
each_more front slot first last k =
    let g : map alone (run_to slot first last (k + 1)) ≡ map alone (run_to slot first last k) ++ alone ((slot, towards first last k)) ∷ [] =
    ap (λ (l : List Channel). map alone l) (one_further slot first last k) ∙ map-append alone (run_to slot first last k) ((slot, towards first last k) ∷ []) in
    rw g (append_assoc front (map alone (run_to slot first last k)) (alone ((slot, towards first last k)) ∷ []))
