-- A run, one line further.
use Rattle.std.proofs.Common.{◌≡◌, ◌≢◌, ℕ, List, [], ◌∷◌, ◌++◌, length, take, Option, Some, None, IfSome, Result, Ok, Err, OnOk, IfErr, inl, inr, All}
use Rattle.std.specs.Result.{IsErrAnd}
use Rattle.std.proofs.lemmas.Result.{err_from_is_err_and}
use Rattle.std.proofs.Common.{Bool, true, false, ◌==◌, ◌-◌, zero, suc, drop, refl, ap, sym, ◌∙◌, subst, append_assoc, arith}
use Rattle.std.proofs.lemmas.List.{append-nil}
use Rattle.std.specs.Io.KnownBytes.{Appends, Keeps, IsAtEnd}
use Rattle.std.specs.Io.BufRead.{take_through, drop_through, DropsThrough}
use Rattle.sw_core.specs.declared.ask.Sid.{Sid}
use Rattle.sw_core.specs.Panel.{Panel}
use Rattle.sw_macro.specs.Table.{Table}
use Rattle.sw_talk.specs.CoreDesk.{desk_over, DeskSeen, CorePasses, WaitsOut}
use Rattle.sw_talk.specs.Talk.{state, Talked}
use Rattle.sw_talk.specs.Trace.{Entry, Leads}
use Rattle.mainframe.specs.Lines.{lines_of}
use Rattle.sw_session.specs.ServeWrite.{WritesPart}
use Rattle.sw_serve.specs.SlotCards.{PlacedCard, IsSetUp, IsDeskForOne}
use Rattle.mainframe.specs.Run.{RunState, begins_at, Line, Run, Runs, RunsFrom, AnswersFrom, Unbegun, AnsweredFrom, PartFrom, CutFrom, EndsFrom}
use Rattle.mainframe.specs.declared.fault.RunFault.{RunFault}
use Rattle.mainframe.specs.declared.fault.RunFault.TheVariants.{Input, Output, Memory, Listen, Descriptors}
use Rattle.sw_base.specs.Limits.{most_kept}
use Rattle.mainframe.specs.Kept.{CutsLine, ShowsLine, LosesFront}
use Rattle.mainframe.specs.Turns.{Gathers, Stand, Streams, TakesTurns, IsOfReading}
use Rattle.mainframe.proofs.TurnLemmas.{gathers-none, gathers-more, gathers-written, gathers-part, reads-gathers, keeps-same}
use Rattle.mainframe.proofs.LinesLemmas.{lines_of-through}
use Rattle.mainframe.proofs.WholeRunLemmas.{whole-of, whole-to}
use Rattle.sw_core.specs.Run.{EveryRunIsGood}
use Rattle.std.specs.Io.{StopsAt}
use Rattle.std.specs.Prelude.{if◌then◌else◌}
use Rattle.mainframe.proofs.KeptLemmas.{no_feeds}
use Rattle.std.proofs.KnownBytes.{Consumes-nil, Consumes-kept}
use Rattle.std.proofs.Transfers.{StopsAt-of_All}

-- a line that was talked over, and after which all that was outstanding was carried out
pub line_rested : {sid talker : Sid} {macros macros' : Table} {q spoken mid : DeskSeen} {kept line told : List ℕ} {rested : Bool} → talker ≡ sid → line ≡ kept
    → Talked CorePasses talker (state q macros) line told (state spoken macros') → WaitsOut spoken rested mid → rested ≡ true
    → Line sid (state q macros) kept told (state mid macros')
line_rested {sid = sid} {talker = talker} {macros = macros} {macros' = macros'} {q = q} {spoken = spoken} {mid = mid} {kept = kept} {told = told} sids lines
    talked rests is = record {
      spoken = spoken;
      talked = subst (λ (s : Sid). Talked CorePasses s (state q macros) kept told (state spoken macros')) sids
          (subst (λ (l : List ℕ). Talked CorePasses talker (state q macros) l told (state spoken macros')) lines talked);
      rests = subst (λ (b : Bool). WaitsOut spoken b mid) is rests;
    }

lines-next : (left : List ℕ) → take_through 10 left ≢ [] → lines_of left ≡ take_through 10 left ∷ lines_of (drop_through 10 left)
lines-next [] some = absurd (some refl)
lines-next (x ∷ xs) some = lines_of-through x xs

-- the lines that were read are answered, and the answers are written but for these
abbrev pub Progress : Sid → RunState → Option (List ℕ) → Option (List ℕ) → Option (List ℕ) → List ℕ → Option (List ℕ) → List ℕ → RunState → Type 0
Progress sid start r0 r c0 u0 c u p = IfSome r0 (λ input. (done : List (List ℕ)) × (bytes left : List ℕ) × (r ≡ Some left)
    × (lines_of input ≡ done ++ lines_of left) × Run sid start done bytes p × Gathers c0 (u0 ++ bytes) c u)

progress-none : (sid : Sid) (start : RunState) (r c : Option (List ℕ)) (u : List ℕ) → Progress sid start r r c u c u start
progress-none sid start None c u = tt
progress-none sid start (Some input) c u =
    ([], [], input, refl, refl, (refl, refl), subst (λ (l : List ℕ). Gathers c l c u) (sym (append-nil u)) (gathers-none c u))

progress-line : (sid : Sid) (p q last : RunState) (r0 r1 r2 c0 c1 c2 : Option (List ℕ)) (line told u0 u1 u2 : List ℕ) → line ≢ []
    → IfSome r0 (λ xs. line ≡ take_through 10 xs) → DropsThrough r0 r1 10 → Line sid p line told q → Gathers c0 (u0 ++ told) c1 u1
    → Progress sid q r1 r2 c1 u1 c2 u2 last → Progress sid p r0 r2 c0 u0 c2 u2 last
progress-line sid p q last None r1 r2 c0 c1 c2 line told u0 u1 u2 some takes drops one g h = tt
progress-line sid p q last (Some xs) None r2 c0 c1 c2 line told u0 u1 u2 some takes drops one g h = absurd (cc (drops))
progress-line sid p q last (Some xs) (Some ys) r2 c0 c1 c2 line told u0 u1 u2 some takes drops one g (done, bytes, left, at, lines, run, more) =
    let rest : ys ≡ drop_through 10 xs = cc (drops) in
    let next : lines_of xs ≡ take_through 10 xs ∷ lines_of (drop_through 10 xs) = lines-next xs (λ none. some (takes ∙ none)) in (
      line ∷ done,
      told ++ bytes,
      left,
      at,
      next ∙ ap (λ (l : List ℕ). l ∷ lines_of (drop_through 10 xs)) (sym takes) ∙ ap (λ (l : List ℕ). line ∷ lines_of l) (sym rest)
          ∙ ap (λ ls. line ∷ ls) lines,
      (told, q, bytes, one, run, refl),
      subst (λ (l : List ℕ). Gathers c0 l c2 u2) (append_assoc u0 told bytes) (gathers-more c0 c1 c2 (u0 ++ told) bytes u1 u2 g more),
    )

-- so it is from one stand to another
abbrev pub ProgressTo : {S W : Type 0} → Streams S W → Sid → Stand S W → List ℕ → Stand S W → Type 0
ProgressTo known sid a unwritten b = Progress sid a.state (known.remaining a.source) (known.remaining b.source) (known.contents a.writer) unwritten
    (known.contents b.writer) b.unwritten b.state

pub progress-turns : {S W : Type 0} (known : Streams S W) (sid : Sid) (a b : Stand S W) (lines : List (List ℕ)) → TakesTurns known sid a lines b
    → ProgressTo known sid a a.unwritten b
progress-turns known sid a b [] same =
    subst (λ x. ProgressTo known sid a a.unwritten x) (sym same)
    (progress-none sid a.state (known.remaining a.source) (known.contents a.writer) a.unwritten)
progress-turns known sid a b (line ∷ lines) (mid, t, more) =
    let rest = subst (λ x. DropsThrough (known.remaining a.source) (known.remaining x) 10) (sym t.source) t.rest in
    let gathers = gathers-more (known.contents a.writer) (known.contents t.read.writer) (known.contents mid.writer) a.unwritten t.told t.read.unwritten
    mid.unwritten (reads-gathers known a t.read t.reads) t.writes in
    progress-line sid a.state mid.state b.state (known.remaining a.source) (known.remaining mid.source) (known.remaining b.source) (known.contents a.writer)
    (known.contents mid.writer) (known.contents b.writer) line t.told a.unwritten mid.unwritten b.unwritten t.some t.takes rest t.answered gathers
    (progress-turns known sid mid b lines more)

pub progress-keeps : (sid : Sid) (start : RunState) (r0 r r' c0 c : Option (List ℕ)) (u : List ℕ) (p : RunState) → Keeps r r'
    → Progress sid start r0 r c0 [] c u p
    → Progress sid start r0 r' c0 [] c u p
progress-keeps sid start None r r' c0 c u p k h = tt
progress-keeps sid start (Some input) None r' c0 c u p k (done, bytes, left, is, lines, run, a) = absurd (cc (is))
progress-keeps sid start (Some input) (Some xs) None c0 c u p k (done, bytes, left, is, lines, run, a) = absurd k
progress-keeps sid start (Some input) (Some xs) (Some ys) c0 c u p k (done, bytes, left, is, lines, run, a) =
    (done, bytes, left, ap Some k ∙ is, lines, run, a)

-- all of it was read and written
pub progress-end : (sid : Sid) (start : RunState) (r0 r c0 c c' : Option (List ℕ)) (u : List ℕ) (p : RunState) → Progress sid start r0 r c0 [] c u p
    → Appends c c' u → IsAtEnd r → IfSome r0 (λ input. AnsweredFrom sid start input [] c0 c')
progress-end sid start None r c0 c c' u p h w end = tt
progress-end sid start (Some input) r c0 c c' u p (done, bytes, left, is, lines, run, a) w end =
    let none : left ≡ [] = subst IsAtEnd is end in
    record {
      bytes = bytes;
      runs = record { done = done; lines = lines ∙ ap (λ l. done ++ lines_of l) none; after = p; run = run };
      writes = gathers-written c0 c c' bytes u a w;
    }

-- a read failed after all was written
pub progress-cut : (sid : Sid) (start : RunState) (r0 r r2 c0 c c' : Option (List ℕ)) (u : List ℕ) (p : RunState) → Progress sid start r0 r c0 [] c u p
    → Appends c c' u → CutsLine r r2 → IfSome r0 (λ input. CutFrom sid start input r2 c0 c')
progress-cut sid start None r r2 c0 c c' u p h w cuts = tt
progress-cut sid start (Some input) None r2 c0 c c' u p (done, bytes, left, is, lines, run, a) w (cut, used, stops) = absurd (cc (is))
progress-cut sid start (Some input) (Some xs) None c0 c c' u p (done, bytes, left, is, lines, run, a) w (cut, used, stops) = absurd used
progress-cut sid start (Some input) (Some xs) (Some ys) c0 c c' u p (done, bytes, left, is, lines, run, a) w (cut, used, stops) =
    let same : xs ≡ left = cc (is) in
    record {
      cut = cut;
      unread = ys;
      is_left = refl;
      stops = stops;
      answered = record {
        bytes = bytes;
        runs = record { done = done; lines = lines ∙ ap (λ l. done ++ lines_of l) (sym same ∙ used); after = p; run = run };
        writes = gathers-written c0 c c' bytes u a w;
      };
    }

-- a write failed
pub progress-part : (sid : Sid) (start : RunState) (r0 r r' c0 c c' : Option (List ℕ)) (u : List ℕ) (p : RunState) → Progress sid start r0 r c0 [] c u p
    → Keeps r r' → WritesPart c c' u → IfSome r0 (λ input. PartFrom sid start input r' c0 c')
progress-part sid start None r r' c0 c c' u p h k w = tt
progress-part sid start (Some input) None r' c0 c c' u p (done, bytes, left, is, lines, run, a) k w = absurd (cc (is))
progress-part sid start (Some input) (Some xs) None c0 c c' u p (done, bytes, left, is, lines, run, a) k w = absurd k
progress-part sid start (Some input) (Some xs) (Some ys) c0 c c' u p (done, bytes, left, is, lines, run, a) k w = record {
  rest = left;
  is_left = ap Some k ∙ is;
  bytes = bytes;
  runs = record { done = done; lines = lines; after = p; run = run };
  writes = gathers-part c0 c c' bytes u a w;
}

pub progress-all : (sid : Sid) (start : RunState) (r0 r r2 c0 c : Option (List ℕ)) (u : List ℕ) (p : RunState) → Progress sid start r0 r c0 [] c u p
    → IsAtEnd r → DropsThrough r r2 10 → IfSome r0 (λ _. IsAtEnd r2)
progress-all sid start None r r2 c0 c u p h end drops = tt
progress-all sid start (Some input) None r2 c0 c u p (done, bytes, left, is, lines, run, a) end drops = absurd (cc (is))
progress-all sid start (Some input) (Some xs) r2 c0 c u p h end drops =
    let none : r2 ≡ Some [] = drops ∙ ap (λ t. Some (drop_through 10 t)) end in subst IsAtEnd (sym none) refl

-- nothing more is read
pub cuts-none : (r r' : Option (List ℕ)) → Keeps r r' → CutsLine r r'
cuts-none r r' k = ([], Consumes-kept r r r' [] (Consumes-nil r) k, StopsAt-of_All [] 10 no_feeds)

-- a fault of a read
pub ends-cut : (sid : Sid) (start : RunState) (fault : RunFault) (r0 r c0 c : Option (List ℕ)) → IsOfReading fault
    → IfSome r0 (λ input. CutFrom sid start input r c0 c) → IfSome r0 (λ input. EndsFrom sid start fault input r c0 c)
ends-cut sid start Input r0 r c0 c read h = h
ends-cut sid start Memory r0 r c0 c read h = h
ends-cut sid start Output r0 r c0 c read h = absurd read
ends-cut sid start Listen r0 r c0 c read h = absurd read
ends-cut sid start Descriptors r0 r c0 c read h = absurd read

-- a line that was read, and after which work never ends
stops_cons : (x : ℕ) (t : List ℕ) → x ≢ 10 → StopsAt t 10 → StopsAt (x ∷ t) 10
stops_cons x [] n h = λ k d l e. absurd (omega (arith, l))
stops_cons x (y ∷ t) n h = rw (let m : suc (suc (length t)) - 1 ≡ suc (length t) = omega arith in
    m) (stops_more x y t n (rw (← (let m : suc (length t) - 1 ≡ length t = omega arith in m)) h))
  where
    stops_more : (x y : ℕ) (t : List ℕ) → x ≢ 10 → All (λ z. z ≢ 10) (take (length t) (y ∷ t)) → All (λ z. z ≢ 10) (x ∷ take (length t) (y ∷ t))
    stops_more x y t n h zero d l = n
    stops_more x y t n h (suc k) d l = h k d (omega (arith, l))

stops_if : (b : Bool) (x : ℕ) (t : List ℕ) → (x == 10) ≡ b → StopsAt t 10 → StopsAt (if b then x ∷ [] else x ∷ t) 10
stops_if true x t e h = λ k d l f. absurd (omega (arith, l))
stops_if false x t e h = stops_cons x t (λ f. absurd (cc (e, f))) h

stops_through : (xs : List ℕ) → StopsAt (take_through 10 xs) 10
stops_through [] = λ k d l e. absurd (omega (arith, l))
stops_through (x ∷ xs) = stops_if (x == 10) x (take_through 10 xs) refl (stops_through xs)

through_all : (xs : List ℕ) → take_through 10 xs ++ drop_through 10 xs ≡ xs
through_all [] = refl
through_all (x ∷ xs) = through_if (x == 10) x xs (through_all xs)
  where
    through_if : (b : Bool) (x : ℕ) (xs : List ℕ) → take_through 10 xs ++ drop_through 10 xs ≡ xs → (if b then x ∷ [] else x ∷ take_through 10 xs)
        ++ (if b then xs else drop_through 10 xs) ≡ x ∷ xs
    through_if true x xs e = refl
    through_if false x xs e = ap (λ l. x ∷ l) e

-- a line is gone
pub cuts-line : (r r' : Option (List ℕ)) → DropsThrough r r' 10 → CutsLine r r'
cuts-line None r' drops = ([], tt, StopsAt-of_All [] 10 no_feeds)
cuts-line (Some xs) None drops = absurd (cc (drops))
cuts-line (Some xs) (Some ys) drops =
    let rest : ys ≡ drop_through 10 xs = cc (drops) in
    (take_through 10 xs, sym (ap (λ l. take_through 10 xs ++ l) rest ∙ through_all xs), stops_through xs)

-- what was shown is taken
drop-through : (xs : List ℕ) → drop (length (take_through 10 xs)) xs ≡ drop_through 10 xs
drop-through [] = refl
drop-through (x ∷ xs) = drop_if (x == 10) x xs (drop-through xs)
  where
    drop_if : (b : Bool) (x : ℕ) (xs : List ℕ) → drop (length (take_through 10 xs)) xs ≡ drop_through 10 xs
        → drop (length (if b then x ∷ [] else x ∷ take_through 10 xs)) (x ∷ xs) ≡ (if b then xs else drop_through 10 xs)
    drop_if true x xs e = refl
    drop_if false x xs e = e

pub shown-taken : (r0 r1 r2 : Option (List ℕ)) (n : ℕ) (kept : List ℕ) (Shown : Type 0) → ShowsLine r0 n kept → Keeps r0 r1 → IfSome r0 (λ _. Shown)
    → (Shown → LosesFront r1 r2 n)
    → IfSome r0 (λ xs. kept ≡ take most_kept (take_through 10 xs)) × DropsThrough r0 r2 10
shown-taken None r1 r2 n kept Shown shows keeps shown loses = (tt, tt)
shown-taken (Some xs) None r2 n kept Shown shows keeps shown loses = absurd keeps
shown-taken (Some xs) (Some ys) r2 n kept Shown (here, whole) keeps shown loses =
    (whole.1, loses shown ∙ ap (λ l. Some (drop n l)) keeps ∙ ap (λ m. Some (drop m xs)) whole.0 ∙ ap Some (drop-through xs))

-- what a run comes to where there was none for what is asked first, and where it was asked
pub runs-unbegun : (sid : Sid) (first : List Entry) (desk : DeskSeen) (result : Result (Unit {0}) RunFault) (fault : RunFault) (r c : Option (List ℕ))
    → IsErrAnd result (λ e. e ≡ fault) → fault ≡ Memory → IfSome r (λ input. RunsFrom sid first desk result input r c c)
runs-unbegun sid first desk result fault None c is memory = tt
runs-unbegun sid first desk result fault (Some input) c is memory =
    let p = err_from_is_err_and result is in
    let none : Unbegun p.0 input (Some input) c c = record { memory = p.2 ∙ memory; unread = refl; unwritten = keeps-same c } in
    inl (subst (λ (x : Result (Unit {0}) RunFault). IsErrAnd x (λ e. Unbegun e input (Some input) c c)) (sym p.1) none)

pub runs-from : (sid : Sid) (first : List Entry) (desk start : DeskSeen) (result : Result (Unit {0}) RunFault) (r left old new : Option (List ℕ))
    → Leads CorePasses desk first start → OnOk result (IfSome r (λ input. AnsweredFrom sid (begins_at start) input [] old new))
    → OnOk result (IfSome r (λ _. IsAtEnd left)) → IfErr result (λ fault. IfSome r (λ input. EndsFrom sid (begins_at start) fault input left old new))
    → IfSome r (λ input. RunsFrom sid first desk result input left old new)
runs-from sid first desk start result None left old new leads ok all err = tt
runs-from sid first desk start result (Some input) left old new leads ok all err =
    inr (record { start = start; asked = leads; answered = ok; all = all; fault = err })

-- one call of the desk
pub leads-one : (old new : DeskSeen) (entry : Entry) (result : Result (Unit {0}) RunFault) → OnOk result (CorePasses old entry new)
    → OnOk result (Leads CorePasses old (entry ∷ []) new)
leads-one old new entry (Ok done) passes = (new, passes, refl)
leads-one old new entry (Err fault) passes = tt

-- what the loop over the lines comes to, from a mainframe that was set up
runs_set_up : EveryRunIsGood → (first : Sid → List Entry) (cards : List PlacedCard) (sid : Sid) (fitted : Panel) (result : Result (Unit {0}) RunFault)
    (input : List ℕ) (left old new : Option (List ℕ)) → IsSetUp cards sid fitted
    → AnswersFrom sid (first sid) (desk_over fitted) result input left old new → Runs first cards result input left old new
runs_set_up law first cards sid fitted (Ok done) input left old new s a =
    let whole = whole-of law (first sid) cards sid fitted a.start input [] a.answered.bytes s a.asked a.answered.runs in
    record {
      answered = record {
        sid = sid;
        start = a.start;
        begins = record { fitted = fitted; set_up = s; asked = a.asked };
        answered = a.answered;
        whole = whole;
      };
      all = a.all;
      fault = tt;
    }
runs_set_up law first cards sid fitted (Err fault) input left old new s a =
    let whole = whole-to law (first sid) cards sid fitted a.start fault input left old new s a.asked a.fault in
    record {
      answered = tt;
      all = tt;
      fault = inr (record {
        sid = sid;
        start = a.start;
        begins = record { fitted = fitted; set_up = s; asked = a.asked };
        ends = a.fault;
        whole = whole;
      });
    }

runs_not : (first : Sid → List Entry) (cards : List PlacedCard) (result : Result (Unit {0}) RunFault) (input : List ℕ) (left old new : Option (List ℕ))
    → IsErrAnd result (λ fault. Unbegun fault input left old new) → Runs first cards result input left old new
runs_not first cards (Ok done) input left old new none = absurd none
runs_not first cards (Err fault) input left old new none = record { answered = tt; all = tt; fault = inl none }

runs_either : EveryRunIsGood → (first : Sid → List Entry) (cards : List PlacedCard) (sid : Sid) (fitted : Panel) (result : Result (Unit {0}) RunFault)
    (input : List ℕ) (left old new : Option (List ℕ)) → IsSetUp cards sid fitted
    → RunsFrom sid (first sid) (desk_over fitted) result input left old new → Runs first cards result input left old new
runs_either law first cards sid fitted result input left old new s (inl none) = runs_not first cards result input left old new none
runs_either law first cards sid fitted result input left old new s (inr a) = runs_set_up law first cards sid fitted result input left old new s a

-- and from the desk over it
pub runs_begun : EveryRunIsGood → (first : Sid → List Entry) (cards : List PlacedCard) (sid : Sid) (desk spoken : DeskSeen) → IsDeskForOne cards sid spoken
    → desk ≡ spoken → (result : Result (Unit {0}) RunFault) (r left old new : Option (List ℕ))
    → IfSome r (λ input. RunsFrom sid (first sid) desk result input left old new) → IfSome r (λ input. Runs first cards result input left old new)
runs_begun law first cards sid desk spoken up same result None left old new runs = tt
runs_begun law first cards sid desk spoken up same result (Some input) left old new runs =
    runs_either law first cards sid up.panel result input left old new up.set_up
    (subst (λ (d : DeskSeen). RunsFrom sid (first sid) d result input left old new) (same ∙ up.over) runs)
