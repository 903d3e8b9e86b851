-- A line that is kept in part.
use Rattle.std.proofs.Common.{◌≡◌, ◌≢◌, ℕ, zero, suc, ◌+◌, ◌-◌, ◌≤◌, ◌<◌, min, Bool, true, false, cond, leb, MatchBool, ◌⊎◌, inl, inr, List, [], ◌∷◌, ◌++◌, All}
use Rattle.std.proofs.Common.{length, take, Option, Some, None, IfSome, Result, Ok, Err, OnErr, refl, ap, sym, subst, ◌∙◌, arith, append-nil, take_all}
use Rattle.std.proofs.Common.{length-take, zero-le}
use Rattle.std.specs.Io.KnownBytes.{Keeps, Consumes, IsAtEnd}
use Rattle.std.specs.Io.BufRead.{take_through, DropsThrough, DropsConsumable, strip_last, ends_with_byte}
use Rattle.std.specs.Io.{StopsAt, IsEmptyOrEndsWith, StartsWith}
use Rattle.std.proofs.Common.{drop, take-take, take-append-drop, length-take-le}
use Rattle.std.proofs.lemmas.Bool.{lt-ltb}
use Rattle.std.proofs.lemmas.Bool.Decides.{leb_tells}
use Rattle.std.proofs.lemmas.List.Elements.{All-append}
use Rattle.std.proofs.KnownBytes.{Consumes-nil, Consumes-kept, Consumes-trans}
use Rattle.std.proofs.BufReadLemmas.{Consumes_through, take_through-nil, take_through_nonempty}
use Rattle.std.proofs.Transfers.{StopsAt-of_All, StopsAt-append}
use Rattle.sw_core.specs.declared.ask.Sid.{Sid}
use Rattle.sw_base.specs.Limits.{most_bytes, most_kept}
use Rattle.sw_macro.specs.Table.{Table}
use Rattle.sw_talk.specs.CoreDesk.{CorePasses}
use Rattle.sw_talk.specs.Trace.{Entry}
use Rattle.sw_talk.specs.Talk.{state, Talked, TalksMessage, TalksUnits, Overruns}
use Rattle.mainframe.specs.declared.fault.RunFault.{RunFault}
use Rattle.mainframe.specs.Kept.{CutsLine, TakesPart, KeepsFront, IsFirstLine, ShowsLine, LosesFront}
use Rattle.mainframe.specs.Run.{Line, RunState}

take-both : (k end n : ℕ) (xs : List ℕ) → n ≡ min end k → take n xs ≡ take k (take end xs)
take-both zero end n xs is = let none : n ≡ 0 = omega arith in ap (λ m. take m xs) none
take-both (suc k) zero n xs is = let none : n ≡ 0 = omega arith in ap (λ m. take m xs) none
take-both (suc k) (suc end) n [] is = take_all n [] zero-le
take-both (suc k) (suc end) n (x ∷ xs) is =
    let next : n ≡ suc (min end k) = omega arith in
    ap (λ m. take m (x ∷ xs)) next ∙ ap (λ l. x ∷ l) (take-both k end (min end k) xs refl)

-- what is kept with as much more as there is room for
pub kept-fits : (k : ℕ) (kept shown : List ℕ) (end n : ℕ) → length kept ≤ k → n ≡ min end (k - length kept) → kept
    ++ take n shown ≡ take k (kept ++ take end shown)
kept-fits k [] shown end n room is = take-both k end n shown (omega arith)
kept-fits zero (x ∷ xs) shown end n room is = absurd (omega arith)
kept-fits (suc k) (x ∷ xs) shown end n room is = ap (λ l. x ∷ l) (kept-fits k xs shown end n (omega arith) (omega arith))

-- more after what is kept is kept as after all of it
pub take-kept : (k : ℕ) (xs ys : List ℕ) → take k (take k xs ++ ys) ≡ take k (xs ++ ys)
take-kept zero xs ys = refl
take-kept (suc k) [] ys = refl
take-kept (suc k) (x ∷ xs) ys = ap (λ l. x ∷ l) (take-kept k xs ys)

pub no_feeds : All (λ (x : ℕ). x ≢ 10) []
no_feeds = λ k d l e. absurd (omega arith)

-- nothing is taken
pub takes-none : (old new : Option (List ℕ)) (kept kept' : List ℕ) (result : Result Bool RunFault) → Keeps old new → kept' ≡ kept → length kept ≤ most_kept
    → result ≢ Ok true → TakesPart old new kept kept' result
takes-none old new kept kept' result keeps same room other = record {
  part = [];
  consumed = Consumes-kept old old new [] (Consumes-nil old) keeps;
  keeps = same ∙ sym (ap (take most_kept) (append-nil kept) ∙ take_all most_kept kept room);
  stops = StopsAt-of_All [] 10 no_feeds;
  ends = λ e. absurd (other e);
  at_end = λ e. absurd (other e);
  goes_on = λ _. no_feeds;
}

-- what is kept of the bytes that were taken so far of a line
abbrev pub Reading : Option (List ℕ) → Option (List ℕ) → List ℕ → Type 0
Reading old new kept = (done : List ℕ) × Consumes old new done × (kept ≡ take most_kept done) × All (λ x. x ≢ 10) done

pub reading-none : (old : Option (List ℕ)) (kept : List ℕ) → kept ≡ [] → Reading old old kept
reading-none old kept none = ([], Consumes-nil old, none ∙ sym (take_all most_kept [] zero-le), no_feeds)

pub reading-room : (old new : Option (List ℕ)) (kept : List ℕ) → Reading old new kept → length kept ≤ most_kept
reading-room old new kept (done, used, is, feeds) = omega (arith, ap length is, length-take most_kept done)

more-kept : (done part kept kept' : List ℕ) → kept ≡ take most_kept done → kept' ≡ take most_kept (kept ++ part) → kept' ≡ take most_kept (done ++ part)
more-kept done part kept kept' is keeps = keeps ∙ ap (λ l. take most_kept (l ++ part)) is ∙ take-kept most_kept done part

pub reading-more : (old mid new : Option (List ℕ)) (kept kept' : List ℕ) (result : Result Bool RunFault) → Reading old mid kept
    → TakesPart mid new kept kept' result → result ≢ Ok true → Reading old new kept'
reading-more old mid new kept kept' result (done, used, is, feeds) p more = (
  done ++ p.part,
  Consumes-trans old mid new done p.part used p.consumed,
  more-kept done p.part kept kept' is p.keeps,
  All-append (λ x. x ≢ 10) done p.part feeds (p.goes_on more),
)

pub reading-cut : (old mid new : Option (List ℕ)) (kept kept' : List ℕ) (result : Result Bool RunFault) → Reading old mid kept
    → TakesPart mid new kept kept' result → CutsLine old new
reading-cut old mid new kept kept' result (done, used, is, feeds) p =
    (done ++ p.part, Consumes-trans old mid new done p.part used p.consumed, StopsAt-append done p.part 10 feeds p.stops)

pub reading-stopped : (old new : Option (List ℕ)) (kept : List ℕ) → Reading old new kept → CutsLine old new
reading-stopped old new kept (done, used, is, feeds) = (done, used, StopsAt-of_All done 10 feeds)

-- no more than an error is to be shown
pub at-err : {T P : Type 0} (result : Result T RunFault) → P → OnErr result P
at-err (Ok x) p = tt
at-err (Err e) p = p

kept-if : (old : Option (List ℕ)) (line kept : List ℕ) → kept ≡ take most_kept line → IfSome old (λ xs. line ≡ take_through 10 xs)
    → IfSome old (λ xs. kept ≡ take most_kept (take_through 10 xs))
kept-if None line kept is h = tt
kept-if (Some xs) line kept is h = is ∙ ap (take most_kept) h

pub reading-whole : (old mid new : Option (List ℕ)) (kept kept' : List ℕ) (result : Result Bool RunFault) → Reading old mid kept
    → TakesPart mid new kept kept' result → result ≡ Ok true
    → IfSome old (λ xs. kept' ≡ take most_kept (take_through 10 xs)) × DropsThrough old new 10
reading-whole old mid new kept kept' result (done, used, is, feeds) p e =
    let through = Consumes_through 10 old mid new done p.part used feeds p.consumed p.stops (p.ends e) (p.at_end e) in
    (kept-if old (done ++ p.part) kept' (more-kept done p.part kept kept' is p.keeps) through.0, through.1)

strip-long : (text : List ℕ) → most_bytes + 1 < length text → most_bytes < length (strip_last 10 text)
strip-long text long = at (ends_with_byte 10 text)
  where
    at : (b : Bool) → most_bytes < length (cond b (take (length text - 1) text) text)
    at true = omega (arith, length-take (length text - 1) text)
    at false = omega arith

long-alike : (sid : Sid) (macros macros' : Table) (trace : List Entry) (bytes text text' : List ℕ) (lasts : Bool) → most_bytes < length text → most_bytes < length text'
    → TalksMessage sid macros text trace bytes lasts macros' → TalksMessage sid macros text' trace bytes lasts macros'
long-alike sid macros macros' trace bytes text text' lasts long long' t =
    let Dropped : Type 0 = Overruns sid trace bytes lasts × (macros' ≡ macros) in
    subst (λ (b : Bool). MatchBool b Dropped (TalksUnits sid macros text' trace bytes lasts macros')) (sym (lt-ltb most_bytes (length text') long'))
    (subst (λ (b : Bool). MatchBool b Dropped (TalksUnits sid macros text trace bytes lasts macros')) (lt-ltb most_bytes (length text) long) t)

-- what is kept of a line is answered as the line is
pub talks-whole : (sid : Sid) (macros macros' : Table) (trace : List Entry) (bytes line : List ℕ) (lasts : Bool)
    → TalksMessage sid macros (strip_last 10 (take most_kept line)) trace bytes lasts macros' → TalksMessage sid macros (strip_last 10 line) trace bytes lasts macros'
talks-whole sid macros macros' trace bytes line lasts t = at (leb_tells (length line) most_kept)
  where
    at : ((leb (length line) most_kept ≡ true) × (length line ≤ most_kept)) ⊎ ((leb (length line) most_kept ≡ false) × (most_kept < length line))
        → TalksMessage sid macros (strip_last 10 line) trace bytes lasts macros'
    at (inl (e, short)) = subst (λ (l : List ℕ). TalksMessage sid macros (strip_last 10 l) trace bytes lasts macros') (take_all most_kept line short) t
    at (inr (e, long)) = long-alike sid macros macros' trace bytes (strip_last 10 (take most_kept line)) (strip_last 10 line) lasts
        (strip-long (take most_kept line) (omega (arith, length-take most_kept line))) (strip-long line (omega arith)) t

pub talked-whole : (p q : RunState) (sid : Sid) (line bytes : List ℕ) → Talked CorePasses sid p (take most_kept line) bytes q
    → Talked CorePasses sid p line bytes q
talked-whole p q sid line bytes t = record {
  trace = t.trace;
  leads = t.leads;
  lasts = t.lasts;
  talks = talks-whole sid p.macros q.macros t.trace bytes line t.lasts t.talks;
}

-- nothing is kept at the end of the input alone
pub kept-none : (old : Option (List ℕ)) (kept : List ℕ) → IfSome old (λ xs. kept ≡ take most_kept (take_through 10 xs)) → length kept ≡ 0 → IsAtEnd old
kept-none None kept is none = tt
kept-none (Some xs) kept is none = take_through-nil 10 xs (omega (arith, ap length is, length-take most_kept (take_through 10 xs)))

pub line_whole : (p q : RunState) (sid : Sid) (line bytes : List ℕ) → Line sid p (take most_kept line) bytes q → Line sid p line bytes q
line_whole p q sid line bytes t = record { spoken = t.spoken; talked = talked-whole p (state t.spoken q.macros) sid line bytes t.talked; rests = t.rests }

first-part : (xs : List ℕ) (n : ℕ) → 0 < n → n ≤ length xs → StopsAt (take n xs) 10 → IsEmptyOrEndsWith (take n xs) 10 → take n xs ≡ take_through 10 xs
first-part xs n some within stops ends =
    (Consumes_through 10 (Some xs) (Some xs) (Some (drop n xs)) [] (take n xs) refl no_feeds (sym (take-append-drop n xs)) stops ends (λ none.
    absurd (omega (arith, none, some, within, length-take-le n xs within)))).0

-- the first line of what is shown is that of all
pub first-line : (xs kept : List ℕ) (n : ℕ) → 0 < n → n ≤ length xs → KeepsFront xs n kept → IsFirstLine xs n kept
first-line xs kept n some within (stops, ends, is) =
    let part : take n xs ≡ take_through 10 xs = first-part xs n some within stops ends in
    (sym (length-take-le n xs within) ∙ ap length part, is ∙ ap (take most_kept) part)

pub front-some : (bytes kept : List ℕ) (n : ℕ) → 0 < n → n ≤ length bytes → KeepsFront bytes n kept → kept ≢ []
front-some bytes kept n some within (stops, ends, is) =
    λ none. omega (arith, some, ap length is, ap length none, length-take most_kept (take n bytes), length-take-le n bytes within)

same-front : (shown xs : List ℕ) (k n : ℕ) → n ≤ length (take k shown) → StartsWith xs shown → take n (take k shown) ≡ take n xs
same-front shown xs k n within front =
    take-take n k shown (omega (arith, length-take k shown, within)) ∙ sym (ap (take n) front)
    ∙ take-take n (length shown) xs (omega (arith, length-take k shown, within))

front-shown : (shown xs kept : List ℕ) (k n : ℕ) → 0 < n → n ≤ length (take k shown) → KeepsFront (take k shown) n kept → StartsWith xs shown
    → IsFirstLine xs n kept
front-shown shown xs kept k n some within keeps front =
    first-line xs kept n some (omega (arith, within, length-take k shown, ap length front, length-take (length shown) xs))
    (subst (λ (l : List ℕ). StopsAt l 10 × IsEmptyOrEndsWith l 10 × (kept ≡ take most_kept l)) (same-front shown xs k n within front) keeps)

shown-if : (known : Option (List ℕ)) (shown kept : List ℕ) (k n : ℕ) → 0 < n → n ≤ length (take k shown) → KeepsFront (take k shown) n kept
    → IfSome known (λ xs. StartsWith xs shown) → IfSome known (λ bytes. IsFirstLine bytes n kept)
shown-if None shown kept k n some within keeps front = tt
shown-if (Some xs) shown kept k n some within keeps front = front-shown shown xs kept k n some within keeps front

pub shown-line : (known : Option (List ℕ)) (shown kept : List ℕ) (k n : ℕ) → 0 < n → n ≤ length (take k shown) → KeepsFront (take k shown) n kept
    → IfSome known (λ xs. StartsWith xs shown) → ShowsLine known n kept
shown-line known shown kept k n some within keeps front =
    (front-some (take k shown) kept n some within keeps, shown-if known shown kept k n some within keeps front)

room-within : (limit : Option ℕ) (shown n : ℕ) → n ≤ shown → IfSome limit (λ k. shown ≤ k) → IfSome limit (λ most. n ≤ most)
room-within None shown n within room = tt
room-within (Some k) shown n within room = omega (arith, within, room)

pub room-shown : (known : Option (List ℕ)) (limit : Option ℕ) (shown n : ℕ) → n ≤ shown → IfSome known (λ _. IfSome limit (λ k. shown ≤ k))
    → IfSome known (λ _. IfSome limit (λ most. n ≤ most))
room-shown None limit shown n within room = tt
room-shown (Some xs) limit shown n within room = room-within limit shown n within room

pub loses : (old new : Option (List ℕ)) (limit : Option ℕ) (n : ℕ) → DropsConsumable old new limit n → IfSome limit (λ most. n ≤ most)
    → LosesFront old new n
loses None new limit n drops room = tt
loses (Some xs) new limit n drops room = drops room

pub kept-some : (xs kept : List ℕ) → kept ≡ take most_kept (take_through 10 xs) → 0 < length kept → 0 < length xs
kept-some xs kept is some = take_through_nonempty 10 xs (omega (arith, ap length is, length-take most_kept (take_through 10 xs)))
