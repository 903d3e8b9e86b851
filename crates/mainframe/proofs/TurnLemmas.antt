-- A source that is asked for bytes, one time further, and lines that are answered, one further.
use Rattle.std.proofs.Common.{◌≡◌, ◌≢◌, ℕ, zero, suc, ◌+◌, List, [], ◌∷◌, ◌++◌, Option, Some, None, IfSome, take, refl, sym, ap, subst, ◌∙◌, inl, inr, arith}
use Rattle.std.proofs.Common.{append_assoc, take_all, zero-le, Result, Ok, Err, OnOk, OnErr}
use Rattle.std.proofs.lemmas.List.{append-nil}
use Rattle.std.specs.Result.{IsErrAnd, IfErr}
use Rattle.std.proofs.lemmas.Result.{err_from_is_err_and}
use Rattle.std.specs.Io.KnownBytes.{Appends, Keeps}
use Rattle.std.specs.Io.BufRead.{take_through, drop_through, DropsThrough}
use Rattle.sw_core.specs.declared.ask.Sid.{Sid}
use Rattle.sw_session.specs.ServeWrite.{WritesPart}
use Rattle.sw_base.specs.Limits.{most_kept}
use Rattle.mainframe.specs.Run.{RunState, Line}
use Rattle.mainframe.specs.Turns.{AsksWith, Spends, Gathers, IsUnasked, Stand, Streams, ReadsOn, TakesTurn, TakesTurns}
use Rattle.mainframe.proofs.KeptLemmas.{line_whole}
use Rattle.mainframe.proofs.KnownLemmas.{appends-nothing, appends-more}

asks-push : {S W : Type 0} (asked : S → W → S → Type 0) (a b c : S) (w : W) (n : ℕ) → AsksWith asked a w n b → asked b w c → AsksWith asked a w (suc n) c
asks-push asked a b c w zero same one = (c, subst (λ x. asked x w c) same one, refl)
asks-push asked a b c w (suc n) (mid, first, more) one = (mid, first, asks-push asked mid b c w n more one)

pub spends-none : {S W : Type 0} (asked : S → W → S → Type 0) (a : S) (w : W) (turns : ℕ) → Spends asked a w turns turns a
spends-none asked a w turns = (0, omega arith, refl)

pub spends-more : {S W : Type 0} (asked : S → W → S → Type 0) (a b c : S) (w : W) (turns left next : ℕ) → Spends asked a w turns left b → left ≡ next + 1
    → asked b w c → Spends asked a w turns next c
spends-more asked a b c w turns left next (n, is, asks) one step = (suc n, omega (arith, is, one), asks-push asked a b c w n asks step)

pub unasked-none : {S : Type 0} (unasked : S → S → Type 0) (a : S) → IsUnasked unasked a a
unasked-none unasked a = (0, refl)

pub unasked-one : {S : Type 0} (unasked : S → S → Type 0) (a b : S) → unasked a b → IsUnasked unasked a b
unasked-one unasked a b one = (1, (b, one, refl))

pub unasked-two : {S : Type 0} (unasked : S → S → Type 0) (a b c : S) → unasked a b → unasked b c → IsUnasked unasked a c
unasked-two unasked a b c one two = (2, (b, one, (c, two, refl)))

-- what is kept of answers, and written of them
pub gathers-none : (c : Option (List ℕ)) (bytes : List ℕ) → Gathers c bytes c bytes
gathers-none c bytes = ([], refl, appends-nothing c)

pub gathers-more : (c0 c1 c2 : Option (List ℕ)) (bytes more unwritten last : List ℕ) → Gathers c0 bytes c1 unwritten → Gathers c1 (unwritten ++ more) c2 last
    → Gathers c0 (bytes ++ more) c2 last
gathers-more c0 c1 c2 bytes more unwritten last (front, is, a) (next, goes, b) = (
  front ++ next,
  ap (λ l. l ++ more) is ∙ append_assoc front unwritten more ∙ ap (λ l. front ++ l) goes ∙ sym (append_assoc front next last),
  appends-more c0 c1 c2 front next a b,
)

pub gathers-all : (c0 c1 : Option (List ℕ)) (bytes : List ℕ) → Gathers c0 bytes c1 [] → Appends c0 c1 bytes
gathers-all c0 c1 bytes (front, is, a) = subst (λ (l : List ℕ). Appends c0 c1 l) (sym (is ∙ append-nil front)) a

pub gathers-written : (c0 c1 c2 : Option (List ℕ)) (bytes unwritten : List ℕ) → Gathers c0 bytes c1 unwritten → Appends c1 c2 unwritten → Appends c0 c2 bytes
gathers-written c0 c1 c2 bytes unwritten (front, is, a) b = subst (λ (l : List ℕ). Appends c0 c2 l) (sym is) (appends-more c0 c1 c2 front unwritten a b)

pub gathers-part : (c0 c1 c2 : Option (List ℕ)) (bytes unwritten : List ℕ) → Gathers c0 bytes c1 unwritten → WritesPart c1 c2 unwritten
    → WritesPart c0 c2 bytes
gathers-part c0 c1 c2 bytes unwritten (front, is, a) part = record {
  front = front ++ part.front;
  back = part.back;
  parts = is ∙ ap (λ (l : List ℕ). front ++ l) part.parts ∙ sym (append_assoc front part.front part.back);
  writes = appends-more c0 c1 c2 front part.front a part.writes;
}

-- what is read before an answer is written or kept
pub reads-gathers : {S W : Type 0} (known : Streams S W) (a b : Stand S W) → ReadsOn known a b
    → Gathers (known.contents a.writer) a.unwritten (known.contents b.writer) b.unwritten
reads-gathers known a b (inl r) =
    subst (λ w. Gathers (known.contents a.writer) a.unwritten (known.contents w) b.unwritten) (sym r.writer)
    (subst (λ (u : List ℕ). Gathers (known.contents a.writer) a.unwritten (known.contents a.writer) u) (sym r.unwritten)
    (gathers-none (known.contents a.writer) a.unwritten))
reads-gathers known a b (inr r) =
    (a.unwritten, sym (ap (λ (l : List ℕ). a.unwritten ++ l) r.unwritten ∙ append-nil a.unwritten), r.writes)

-- lines in turn
pub takes-append : {S W : Type 0} (known : Streams S W) (sid : Sid) (a b c : Stand S W) (lines more : List (List ℕ)) → TakesTurns known sid a lines b
    → TakesTurns known sid b more c
    → TakesTurns known sid a (lines ++ more) c
takes-append known sid a b c [] more same t =
    subst (λ x. TakesTurns known sid x more c) same t
takes-append known sid a b c (l ∷ lines) more (mid, first, rest) t =
    (mid, first, takes-append known sid mid b c lines more rest t)

pub takes-push : {S W : Type 0} (known : Streams S W) (sid : Sid) (a b c : Stand S W) (lines : List (List ℕ)) (line : List ℕ)
    → TakesTurns known sid a lines b
    → TakesTurn known sid b line c
    → TakesTurns known sid a (lines ++ line ∷ []) c
takes-push known sid a b c lines line t one =
    takes-append known sid a b c lines (line ∷ []) t (c, one, refl)

-- the line that was taken, of which this was kept
pub line_taken : (r : Option (List ℕ)) (sid : Sid) (q mid : RunState) (kept told : List ℕ) → IfSome r (λ xs. kept ≡ take most_kept (take_through 10 xs))
    → kept ≢ [] → Line sid q kept told mid
    → (line : List ℕ) × (line ≢ []) × IfSome r (λ xs. line ≡ take_through 10 xs) × Line sid q line told mid
line_taken None sid q mid kept told is some t = (kept, some, tt, t)
line_taken (Some xs) sid q mid kept told is some t = (
  take_through 10 xs,
  λ none. some (is ∙ ap (take most_kept) none ∙ take_all most_kept [] zero-le),
  refl,
  line_whole q mid sid (take_through 10 xs) told (subst (λ (l : List ℕ). Line sid q l told mid) is t),
)

-- one line further, of which so much was kept
pub turn : {S W : Type 0} (known : Streams S W) (sid : Sid) (a read b : Stand S W) (kept told : List ℕ) → ReadsOn known a read
    → IfSome (known.remaining a.source) (λ xs. kept ≡ take most_kept (take_through 10 xs)) → kept ≢ []
    → DropsThrough (known.remaining a.source) (known.remaining read.source) 10 → Line sid a.state kept told b.state
    → Gathers (known.contents read.writer) (read.unwritten ++ told) (known.contents b.writer) b.unwritten → b.source ≡ read.source → b.turns ≡ read.turns
    → (line : List ℕ) × TakesTurn known sid a line b
turn known sid a read b kept told reads is some rest answered writes source turns =
    let taken = line_taken (known.remaining a.source) sid a.state b.state kept told is some answered in (
      taken.0,
      record {
        read = read;
        told = told;
        reads = reads;
        some = taken.1;
        takes = taken.2;
        rest = rest;
        answered = taken.3;
        writes = writes;
        source = source;
        turns = turns;
      },
    )

pub keeps-same : (r : Option (List ℕ)) → Keeps r r
keeps-same None = tt
keeps-same (Some xs) = refl

-- what is kept is kept still
pub drops-kept : (r r' r2 : Option (List ℕ)) → Keeps r r' → DropsThrough r' r2 10 → DropsThrough r r2 10
drops-kept None r' r2 k d = tt
drops-kept (Some xs) None r2 k d = absurd k
drops-kept (Some xs) (Some ys) r2 k d = d ∙ ap (λ l. Some (drop_through 10 l)) k

pub shown-kept : (r r' : Option (List ℕ)) (kept : List ℕ) → Keeps r r' → IfSome r' (λ xs. kept ≡ take most_kept (take_through 10 xs))
    → IfSome r (λ xs. kept ≡ take most_kept (take_through 10 xs))
shown-kept None r' kept k h = tt
shown-kept (Some xs) None kept k h = absurd k
shown-kept (Some xs) (Some ys) kept k h = h ∙ ap (λ l. take most_kept (take_through 10 l)) k

pub gathers-kept : (c : Option (List ℕ)) (bytes unwritten : List ℕ) → unwritten ≡ bytes → Gathers c bytes c unwritten
gathers-kept c bytes unwritten is = ([], sym is, appends-nothing c)

pub part-more : (c c' : Option (List ℕ)) (bytes more : List ℕ) → WritesPart c c' bytes → WritesPart c c' (bytes ++ more)
part-more c c' bytes more part = record {
  front = part.front;
  back = part.back ++ more;
  parts = ap (λ (l : List ℕ). l ++ more) part.parts ∙ append_assoc part.front part.back more;
  writes = part.writes;
}

pub part-after : (c0 c1 c2 : Option (List ℕ)) (bytes more : List ℕ) → Appends c0 c1 bytes → WritesPart c1 c2 more → WritesPart c0 c2 (bytes ++ more)
part-after c0 c1 c2 bytes more a part = record {
  front = bytes ++ part.front;
  back = part.back;
  parts = ap (λ (l : List ℕ). bytes ++ l) part.parts ∙ sym (append_assoc bytes part.front part.back);
  writes = appends-more c0 c1 c2 bytes part.front a part.writes;
}

pub gathers-out : (c0 c1 c2 : Option (List ℕ)) (bytes more unwritten : List ℕ) → unwritten ≡ [] → Appends c0 c1 bytes → Appends c1 c2 more
    → Gathers c0 (bytes ++ more) c2 unwritten
gathers-out c0 c1 c2 bytes more unwritten none a b = (
  bytes ++ more,
  sym (ap (λ (l : List ℕ). (bytes ++ more) ++ l) none ∙ append-nil (bytes ++ more)),
  appends-more c0 c1 c2 bytes more a b,
)

-- at a result
pub on-ok : {T E : Type 0} {P Q : Type 0} (r : Result T E) → (P → Q) → OnOk r P → OnOk r Q
on-ok (Ok x) f p = f p
on-ok (Err e) f p = tt

pub on-err : {T E : Type 0} {P Q : Type 0} (r : Result T E) → (P → Q) → OnErr r P → OnErr r Q
on-err (Ok x) f p = tt
on-err (Err e) f p = f p

-- a fault that is passed on as it came
pub at-fault : {T E : Type 0} (P : E → Type 0) (r : Result T E) (fault : E) → IsErrAnd r (λ e. e ≡ fault) → P fault → IfErr r P
at-fault {T = T} {E = E} P r fault is h =
    let p = err_from_is_err_and r is in subst (λ (x : Result T E). IfErr x P) (sym p.1) (subst (λ (e : E). P e) (sym p.2) h)
