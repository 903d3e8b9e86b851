-- How a run goes on from one stand to another, and how it stops.
use Rattle.std.proofs.Common.{◌≡◌, ◌≢◌, ℕ, List, [], ◌∷◌, ◌++◌, take, Option, IfSome, Result, Err, ◌⊎◌, inl, inr, refl, ap, sym, subst}
use Rattle.std.specs.Result.{IsErrAnd}
use Rattle.std.proofs.lemmas.Result.{err_from_is_err_and}
use Rattle.std.specs.Io.KnownBytes.{Appends, Keeps, IsAtEnd}
use Rattle.std.specs.Io.BufRead.{take_through, DropsThrough}
use Rattle.sw_core.specs.declared.ask.Sid.{Sid}
use Rattle.sw_macro.specs.Table.{Table, no_macros}
use Rattle.sw_talk.specs.CoreDesk.{DeskSeen}
use Rattle.sw_session.specs.ServeWrite.{WritesPart}
use Rattle.sw_talk.specs.Talk.{state}
use Rattle.mainframe.specs.declared.fault.RunFault.{RunFault}
use Rattle.mainframe.specs.declared.fault.RunFault.TheVariants.{Input, Output, Memory, Listen, Descriptors}
use Rattle.sw_base.specs.Limits.{most_kept}
use Rattle.mainframe.specs.Kept.{CutsLine}
use Rattle.mainframe.specs.Run.{RunState, Line, AnsweredFrom, EndsFrom}
use Rattle.mainframe.specs.Turns.{Gathers, Spends, Stand, Streams, ReadsOn, TakesTurns, AsksInTurn, AnswersAtHand, StopsWith, StopsAtHand, FailsAfter}
use Rattle.mainframe.specs.Turns.{IsUnasked, IsInVain, IsOfReading, stand}
use Rattle.mainframe.proofs.TurnLemmas.{unasked-none, takes-append, takes-push, turn, keeps-same, shown-kept, drops-kept}
use Rattle.mainframe.proofs.RunsLemmas.{Progress, ProgressTo, progress-turns, progress-keeps, progress-end, progress-cut, progress-part, progress-all, ends-cut}
use Rattle.mainframe.proofs.RunsLemmas.{cuts-none}

-- lines in turn, from one stand to another
pub record ComesTo {S W : Type 0} (known : Streams S W) (sid : Sid) (a b : Stand S W) : Type 0 where
  pub lines : List (List ℕ)
  pub turns : TakesTurns known sid a lines b

-- and then nothing is asked for or taken
pub record Handed {S W : Type 0} (known : Streams S W) (sid : Sid) (a b : Stand S W) : Type 0 where
  pub before : S
  pub comes : ComesTo known sid a (record b { source = before })
  pub moves : IsUnasked known.unasked before b.source
  pub keeps : Keeps (known.remaining before) (known.remaining b.source)

-- what a run from this stand has promised where it stops by a fault
pub record Stopped {S W : Type 0} (known : Streams S W) (sid : Sid) (a : Stand S W) (fault : RunFault) (source : S) (writer : W)
    (desk : DeskSeen) : Type 0 where
  pub ends : IfSome (known.remaining a.source) (λ input.
      EndsFrom sid a.state fault input (known.remaining source) (known.contents a.writer) (known.contents writer))
  pub left : ℕ
  pub asks : AsksInTurn known sid a left source
  pub vain : fault ≡ Input → IsInVain desk

-- one line further
pub further : {S W : Type 0} {known : Streams S W} {sid : Sid} {a b : Stand S W} (read c : Stand S W) {kept told : List ℕ} → ComesTo known sid a b
    → ReadsOn known b read → IfSome (known.remaining b.source) (λ xs. kept ≡ take most_kept (take_through 10 xs)) → kept ≢ []
    → DropsThrough (known.remaining b.source) (known.remaining read.source) 10 → Line sid b.state kept told c.state
    → Gathers (known.contents read.writer) (read.unwritten ++ told) (known.contents c.writer) c.unwritten → c.source ≡ read.source → c.turns ≡ read.turns
    → ComesTo known sid a c
further {known = known} {sid = sid} {a = a} {b = b} read c {kept = kept} {told = told} comes reads shows some rest answered writes source turns =
    let one = turn known sid b read c kept told reads shows some rest answered writes source turns in
    record { lines = comes.lines ++ one.0 ∷ []; turns = takes-push known sid a b c comes.lines one.0 comes.turns one.1 }

-- the same where all was written before, and the line was asked for
pub further-asked : {S W : Type 0} {known : Streams S W} {sid : Sid} {a b : Stand S W} (read c : Stand S W) {kept told : List ℕ} → Handed known sid a b
    → Appends (known.contents b.writer) (known.contents read.writer) b.unwritten → read.unwritten ≡ []
    → Spends known.asked b.source read.writer b.turns read.turns read.source
    → IfSome (known.remaining b.source) (λ xs. kept ≡ take most_kept (take_through 10 xs)) → kept ≢ []
    → DropsThrough (known.remaining b.source) (known.remaining read.source) 10 → Line sid b.state kept told c.state
    → Gathers (known.contents read.writer) (read.unwritten ++ told) (known.contents c.writer) c.unwritten → c.source ≡ read.source → c.turns ≡ read.turns
    → ComesTo known sid a c
further-asked {known = known} {b = b} read c {kept = kept} h writes none asks shows some rest answered told source turns =
    further read c h.comes (inr (record { before = b.source; moves = h.moves; writes = writes; unwritten = none; asks = asks }))
    (shown-kept (known.remaining h.before) (known.remaining b.source) kept h.keeps shows) some
    (drops-kept (known.remaining h.before) (known.remaining b.source) (known.remaining read.source) h.keeps rest) answered told source turns

-- nothing more is asked for or taken
pub handed-none : {S W : Type 0} {known : Streams S W} {sid : Sid} {a b : Stand S W} → ComesTo known sid a b → Handed known sid a b
handed-none {known = known} {b = b} comes =
    record { before = b.source; comes = comes; moves = unasked-none known.unasked b.source; keeps = keeps-same (known.remaining b.source) }

-- the lines at hand are answered behind others
pub at-hand : {S W : Type 0} {known : Streams S W} {sid talker : Sid} {a b after : Stand S W} → talker ≡ sid → ComesTo known sid a b
    → AnswersAtHand known talker b after → Handed known sid a after
at-hand {S = S} {W = W} {known = known} {sid = sid} {a = a} {b = b} sids comes h =
    let own = subst (λ (s : Sid). TakesTurns known s b h.lines h.last) sids h.turns in
    let all : ComesTo known sid a h.last =
    record { lines = comes.lines ++ h.lines; turns = takes-append known sid a b h.last comes.lines h.lines comes.turns own } in
    record {
      before = h.last.source;
      comes = subst (λ x. ComesTo known sid a x) (sym (ap (λ (x : Stand S W). record x { source = h.last.source }) h.same)) all;
      moves = h.moves;
      keeps = h.keeps;
    }

-- ---- what is written by then

so_far : {S W : Type 0} {known : Streams S W} {sid : Sid} {a b : Stand S W} → a.unwritten ≡ [] → ComesTo known sid a b → ProgressTo known sid a [] b
so_far {known = known} {sid = sid} {a = a} {b = b} none comes =
    subst (λ (u : List ℕ). ProgressTo known sid a u b) none (progress-turns known sid a b comes.lines comes.turns)

handed_so_far : {S W : Type 0} {known : Streams S W} {sid : Sid} {a b : Stand S W} → a.unwritten ≡ [] → Handed known sid a b → ProgressTo known sid a [] b
handed_so_far {known = known} {sid = sid} {a = a} {b = b} none h =
    progress-keeps sid a.state (known.remaining a.source) (known.remaining h.before) (known.remaining b.source) (known.contents a.writer)
    (known.contents b.writer) b.unwritten b.state h.keeps (so_far none h.comes)

-- all was written, and the source is at its end
pub reading-end : {S W : Type 0} {known : Streams S W} {sid : Sid} {a b : Stand S W} (writer : W) → a.unwritten ≡ [] → Handed known sid a b
    → Appends (known.contents b.writer) (known.contents writer) b.unwritten → IsAtEnd (known.remaining b.source)
    → IfSome (known.remaining a.source) (λ input. AnsweredFrom sid a.state input [] (known.contents a.writer) (known.contents writer))
reading-end {known = known} {sid = sid} {a = a} {b = b} writer none h writes end =
    progress-end sid a.state (known.remaining a.source) (known.remaining b.source) (known.contents a.writer) (known.contents b.writer)
    (known.contents writer) b.unwritten b.state (handed_so_far none h) writes end

pub reading-all : {S W : Type 0} {known : Streams S W} {sid : Sid} {a b : Stand S W} (source : S) → a.unwritten ≡ [] → Handed known sid a b
    → IsAtEnd (known.remaining b.source) → DropsThrough (known.remaining b.source) (known.remaining source) 10
    → IfSome (known.remaining a.source) (λ _. IsAtEnd (known.remaining source))
reading-all {known = known} {sid = sid} {a = a} {b = b} source none h end rest =
    progress-all sid a.state (known.remaining a.source) (known.remaining b.source) (known.remaining source) (known.contents a.writer)
    (known.contents b.writer) b.unwritten b.state (handed_so_far none h) end rest

-- all was written, and then a part of a line was read
pub reading-cut : {S W : Type 0} {known : Streams S W} {sid : Sid} {a b : Stand S W} (fault : RunFault) (source : S) (writer : W) → a.unwritten ≡ []
    → Handed known sid a b → IsOfReading fault → Appends (known.contents b.writer) (known.contents writer) b.unwritten
    → CutsLine (known.remaining b.source) (known.remaining source)
    → IfSome (known.remaining a.source) (λ input.
    EndsFrom sid a.state fault input (known.remaining source) (known.contents a.writer) (known.contents writer))
reading-cut {known = known} {sid = sid} {a = a} {b = b} fault source writer none h read writes cuts =
    ends-cut sid a.state fault (known.remaining a.source) (known.remaining source) (known.contents a.writer) (known.contents writer) read
    (progress-cut sid a.state (known.remaining a.source) (known.remaining b.source) (known.remaining source) (known.contents a.writer)
    (known.contents b.writer) (known.contents writer) b.unwritten b.state (handed_so_far none h) writes cuts)

-- ---- what was asked by then

pub asks-none : {S W : Type 0} {known : Streams S W} {sid : Sid} {a b : Stand S W} → ComesTo known sid a b → AsksInTurn known sid a b.turns b.source
asks-none {known = known} {b = b} comes = record {
  lines = comes.lines;
  last = b;
  turns = comes.turns;
  read = b;
  reads = inl (record { moves = unasked-none known.unasked b.source; writer = refl; unwritten = refl; turns = refl });
  comes = refl;
  spent = refl;
}

pub asks-written : {S W : Type 0} {known : Streams S W} {sid : Sid} {a b : Stand S W} (left : ℕ) (source : S) (writer : W) → Handed known sid a b
    → Appends (known.contents b.writer) (known.contents writer) b.unwritten → Spends known.asked b.source writer b.turns left source
    → AsksInTurn known sid a left source
asks-written {b = b} left source writer h writes asks = record {
  lines = h.comes.lines;
  last = record b { source = h.before };
  turns = h.comes.turns;
  read = stand b.state source writer [] left;
  reads = inr (record { before = b.source; moves = h.moves; writes = writes; unwritten = refl; asks = asks });
  comes = refl;
  spent = refl;
}

-- ---- faults

-- a fault while the lines at hand are answered
stops-so : (sid : Sid) (start : RunState) (fault : RunFault) (r0 r r' c0 : Option (List ℕ)) {W : Type 0} (contents : W → Option (List ℕ)) (old new : W)
    (bytes : List ℕ) (desk : DeskSeen) (p : RunState) → Progress sid start r0 r c0 [] (contents old) bytes p → Keeps r r'
    → StopsWith contents fault old bytes new desk → IfSome r0 (λ input. EndsFrom sid start fault input r' c0 (contents new))
stops-so sid start Input r0 r r' c0 contents old new bytes desk p h k (w, vain) =
    progress-cut sid start r0 r r' c0 (contents old) (contents new) bytes p h w (cuts-none r r' k)
stops-so sid start Output r0 r r' c0 contents old new bytes desk p h k w =
    progress-part sid start r0 r r' c0 (contents old) (contents new) bytes p h k w
stops-so sid start Memory r0 r r' c0 contents old new bytes desk p h k w = absurd w
stops-so sid start Listen r0 r r' c0 contents old new bytes desk p h k w = absurd w
stops-so sid start Descriptors r0 r r' c0 contents old new bytes desk p h k w = absurd w

in-vain : {W : Type 0} (contents : W → Option (List ℕ)) (fault : RunFault) (old new : W) (bytes : List ℕ) (desk : DeskSeen)
    → StopsWith contents fault old bytes new desk → fault ≡ Input → IsInVain desk
in-vain contents Input old new bytes desk (w, vain) is = vain
in-vain contents Output old new bytes desk w is = absurd (cc (is))
in-vain contents Memory old new bytes desk w is = absurd w
in-vain contents Listen old new bytes desk w is = absurd w
in-vain contents Descriptors old new bytes desk w is = absurd w

-- the lines at hand are answered up to a fault, behind others
pub stops-behind : {S W : Type 0} {known : Streams S W} {sid talker : Sid} {a b : Stand S W} {fault : RunFault} {source : S} {writer : W} {desk : DeskSeen}
    → a.unwritten ≡ [] → talker ≡ sid → ComesTo known sid a b → StopsAtHand known talker b fault source writer desk
    → Stopped known sid a fault source writer desk
stops-behind {known = known} {sid = sid} {a = a} {b = b} {fault = fault} {source = source} {writer = writer} {desk = desk} none sids comes at =
    let s : StopsAtHand known sid b fault source writer desk = subst (λ (i : Sid). StopsAtHand known i b fault source writer desk) sids at in
    let all : ComesTo known sid a s.last =
    record { lines = comes.lines ++ s.lines; turns = takes-append known sid a b s.last comes.lines s.lines comes.turns s.turns } in
    record {
      ends = stops-so sid a.state fault (known.remaining a.source) (known.remaining s.last.source) (known.remaining source) (known.contents a.writer)
          known.contents s.last.writer writer s.last.unwritten desk s.last.state (so_far none all) s.keeps s.stops;
      left = b.turns;
      asks = record {
        lines = all.lines;
        last = s.last;
        turns = all.turns;
        read = record s.last { source = source };
        reads = inl (record { moves = s.moves; writer = refl; unwritten = refl; turns = refl });
        comes = refl;
        spent = sym s.same;
      };
      vain = in-vain known.contents fault s.last.writer writer s.last.unwritten desk s.stops;
    }

-- a fault is told by its result
pub same-fault : (a b : RunFault) → ◌≡◌ {A = Result (Unit {0}) RunFault} (Err a) (Err b) → a ≡ b
same-fault a b e = cc (e)

-- the fault of a write
pub stops-output : {W : Type 0} (contents : W → Option (List ℕ)) (fault : RunFault) (old new : W) (bytes : List ℕ) (desk : DeskSeen) → fault ≡ Output
    → WritesPart (contents old) (contents new) bytes → StopsWith contents fault old bytes new desk
stops-output contents fault old new bytes desk is part = subst (λ (f : RunFault). StopsWith contents f old bytes new desk) (sym is) part

-- a write fails behind these lines
pub fails-write : {S W : Type 0} {known : Streams S W} {sid : Sid} {a b : Stand S W} {fault : RunFault} {writer : W} {desk : DeskSeen} → a.unwritten ≡ []
    → Handed known sid a b → fault ≡ Output → WritesPart (known.contents b.writer) (known.contents writer) b.unwritten
    → Stopped known sid a fault b.source writer desk
fails-write {known = known} {sid = sid} {b = b} {fault = fault} {writer = writer} {desk = desk} none h is part =
    stops-behind {talker = sid} none refl h.comes (record {
      lines = [];
      last = record b { source = h.before };
      turns = refl;
      same = refl;
      moves = h.moves;
      keeps = h.keeps;
      stops = stops-output known.contents fault b.writer writer b.unwritten desk is part;
    })

-- what was asked up to a fault that is no failed read's
pub stopped-asks : {S W : Type 0} {known : Streams S W} {sid : Sid} {a : Stand S W} {fault : RunFault} {source : S} {writer : W} {desk : DeskSeen}
    → (failed : S → S → Type 0) → Stopped known sid a fault source writer desk
    → (left : ℕ) × AsksInTurn known sid a left source
    × (◌≡◌ {A = Result (Unit {0}) RunFault} (Err fault) (Err Input) → FailsAfter failed left source ⊎ IsInVain desk)
stopped-asks {fault = fault} failed s = (s.left, s.asks, λ e. inr (s.vain (same-fault fault Input e)))

-- what was asked up to a fault that is passed on as it came
pub asks-at : {S W : Type 0} {known : Streams S W} {sid : Sid} {a : Stand S W} {source : S} {Fails : ℕ → Type 0} (r : Result (Unit {0}) RunFault)
    (fault : RunFault) → IsErrAnd r (λ e. e ≡ fault)
    → (left : ℕ) × AsksInTurn known sid a left source × (◌≡◌ {A = Result (Unit {0}) RunFault} (Err fault) (Err Input) → Fails left)
    → (left : ℕ) × AsksInTurn known sid a left source × (r ≡ Err Input → Fails left)
asks-at r fault is (left, asks, fails) = let p = err_from_is_err_and r is in (left, asks, λ e. fails (cc (p.1, p.2, e)))

-- what is so of a session and of where it begins
pub begins-so : {sid sid' : Sid} {desk : DeskSeen} {macros : Table} (P : Sid → RunState → Type 0) → sid' ≡ sid → macros ≡ no_macros → P sid' (state desk macros)
    → P sid (state desk no_macros)
begins-so {sid' = sid'} {desk = desk} P sids none h =
    subst (λ (s : Sid). P s (state desk no_macros)) sids (subst (λ (t : Table). P sid' (state desk t)) none h)

pub asks-so : {S W : Type 0} {known : Streams S W} {sid sid' : Sid} {desk : DeskSeen} {macros : Table} {old source : S} {writer : W} {n m : ℕ} {Fails : ℕ → Type 0}
    → sid' ≡ sid → macros ≡ no_macros → n ≡ m
    → (left : ℕ) × AsksInTurn known sid' (stand (state desk macros) old writer [] n) left source × Fails left
    → (left : ℕ) × AsksInTurn known sid (stand (state desk no_macros) old writer [] m) left source × Fails left
asks-so {known = known} {sid = sid} {sid' = sid'} {desk = desk} {macros = macros} {old = old} {source = source} {writer = writer} {n = n} {m = m} sids none same
    (left, asks, fails) =
    let begun = λ (s : Sid) (t : Table) (k : ℕ). AsksInTurn known s (stand (state desk t) old writer [] k) left source in (
      left,
      subst (λ (s : Sid). begun s no_macros m) sids (subst (λ (t : Table). begun sid' t m) none (subst (λ (k : ℕ). begun sid' macros k) same asks)),
      fails,
    )
