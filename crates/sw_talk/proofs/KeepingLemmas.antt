-- Work that is kept or carried out.
use Rattle.std.proofs.Common.{◌≡◌, ℕ, suc, ◌+◌, ◌<◌, ◌≤◌, Bool, true, false, List, [], ◌∷◌, ◌++◌, Option, Some, None, refl, sym, ap, ◌∙◌, subst, arith}
use Rattle.std.specs.Prelude.{replicate}
use Rattle.std.proofs.lemmas.List.{append-nil, replicate_more}
use Rattle.sw_core.specs.declared.ask.Sid.{Sid}
use Rattle.sw_core.specs.declared.ask.SessionAsk.{SessionAsk}
use Rattle.sw_core.specs.declared.ask.SessionAsk.TheVariants.{Unit}
use Rattle.sw_core.specs.declared.ask.SessionAnswer.{SessionAnswer}
use Rattle.sw_core.specs.declared.ask.SessionAnswer.TheVariants.{Joined, Done, Hold}
use Rattle.sw_core.specs.declared.ask.Work.{Work}
use Rattle.sw_core.specs.Panel.{Panel}
use Rattle.sw_lex.specs.declared.command.Command.{Command}
use Rattle.sw_core.specs.Seen.{WorkSeen, work_seen, AskSeen, AskSession, AnswerSeen, SaysSession, SaysInstalled, SaysNotInstalled}
use Rattle.sw_core.specs.Seen.{SaysEjected, SaysNotEjected, SaysTaken, SaysMissed, SaysFailed, SaysBack, SaysWorn, failed_in}
use Rattle.sw_cage.specs.Change.{any_failed}
use Rattle.sw_cage.proofs.ChannelCallLemmas.{failed_same}
use Rattle.sw_core.specs.Run.{StepBrings}
use Rattle.sw_core.specs.Step.{Step, Brings}
use Rattle.sw_talk.specs.declared.desk.View.{View}
use Rattle.sw_talk.specs.declared.desk.Wake.TheVariants.{Again, Over}
use Rattle.sw_talk.specs.Trace.{Entry, Asked, Waited, Polled, Noted, Leads, LeavesOf}
use Rattle.sw_talk.specs.declared.available.Seating.{Seating}
use Rattle.sw_talk.specs.declared.available.Seating.TheVariants.{Stays}
use Rattle.sw_talk.specs.Available.{Notes, with_note, followed, seated, seating_of}
use Rattle.sw_talk.specs.CoreDesk.{DeskSeen, IsFull, Carried, CarriesOut, CarriesOldest, TellsOfPiece, Keeps, IsKept}
use Rattle.sw_talk.specs.CoreDesk.{IsCarried, PassesBy, CorePasses, WaitsOut, most_waits, brought}
use Rattle.sw_talk.specs.CoreDesk.{piece_seen, view_of}
use Rattle.sw_talk.proofs.LedLemmas.{leads-append}
use Rattle.sw_talk.proofs.NearerLemmas.{left, nearer}

pub seen-some : {M : _} (piece : Work M) → work_seen (Some piece) ≡ Some (piece_seen piece)
seen-some (Work.Measure job) = refl
seen-some (Work.Pause ticket micros) = refl

-- the work that an answer brings
pub brought-is : (a : AnswerSeen) (work : Option WorkSeen) → Brings a work → work ≡ brought a
brought-is (SaysTaken awaited) work is = is
brought-is (SaysSession answer held) work is = is
brought-is SaysInstalled work is = is
brought-is (SaysNotInstalled refusal) work is = is
brought-is (SaysEjected card) work is = is
brought-is (SaysNotEjected refusal) work is = is
brought-is SaysMissed work is = is
brought-is SaysFailed work is = is
brought-is SaysBack work is = is
brought-is SaysWorn work is = is

-- a desk of which nothing but its mainframe changed
with-panel : (old new : DeskSeen) → new.work ≡ old.work → new.room ≡ old.room → new.available ≡ old.available → new ≡ record old { panel = new.panel }
with-panel old new work room available =
    ap (λ (x : List WorkSeen). record new { work = x }) work ∙ ap (λ (x : ℕ). record new { work = old.work; room = x }) room
    ∙ ap (λ (x : Notes). record old { panel = new.panel; available = x }) available

-- what is told of a piece, and answered
pub carried : (old new : DeskSeen) (piece : WorkSeen) (ask : AskSeen) (brings : Option WorkSeen) → TellsOfPiece piece ask
    → StepBrings old.panel ask brings new.panel → new.work ≡ old.work → new.room ≡ old.room
    → new.available ≡ old.available → IsCarried old piece brings new
carried old new piece ask brings tells s work room available = record {
  c = record { ask = ask; failed = failed_in ask s.answer old.panel.cage.cards new.panel.cage.cards; answer = s.answer; after = new.panel };
  carries = record { tells = tells; own = s.next.own; step = s.next.step; counts = refl };
  brings_is = brought-is s.answer brings s.brings;
  leaves = with-panel old new work room available;
}

-- what is kept from here on is kept from the start
abbrev pub KeepsBy : DeskSeen → Option WorkSeen → DeskSeen → Option WorkSeen → Type 0
KeepsBy start brings d brings' = (more : List Carried) (new : DeskSeen) → Keeps more d brings' new → (all : List Carried) × Keeps all start brings new

pub keeps-start : (d : DeskSeen) (brings : Option WorkSeen) → KeepsBy d brings d brings
keeps-start d brings = λ more new k. (more, k)

pub keeps-none : {M : _} (start : DeskSeen) (brings : Option WorkSeen) (d : DeskSeen) (w : Option (Work M)) → KeepsBy start brings d (work_seen w) → w ≡ None
    → (all : List Carried) × Keeps all start brings d
keeps-none {M} start brings d w by is = by [] d (subst (λ (x : Option (Work M)). Keeps [] d (work_seen x) d) (sym is) refl)

pub keeps-last : {M : _} (start : DeskSeen) (brings : Option WorkSeen) (d new : DeskSeen) (w : Option (Work M)) (piece : Work M)
    → KeepsBy start brings d (work_seen w)
    → w ≡ Some piece → new ≡ record d { work = d.work ++ piece_seen piece ∷ []; room = new.room } → d.room ≤ new.room
    → (all : List Carried) × Keeps all start brings new
keeps-last {M} start brings d new w piece by is put roomy =
    let last : Keeps [] d (Some (piece_seen piece)) new = record { roomy = roomy; leaves = put } in
    by [] new (subst (λ (x : Option WorkSeen). Keeps [] d x new) (sym (ap work_seen is ∙ seen-some piece)) last)

pub keeps-on : {M : _} (start : DeskSeen) (brings : Option WorkSeen) (d mid new : DeskSeen) (w : Option (Work M)) (piece oldest : Work M)
    (brings' : Option WorkSeen) → KeepsBy start brings d (work_seen w) → w ≡ Some piece → d.work ++ piece_seen piece ∷ [] ≡ piece_seen oldest ∷ mid.work
    → mid ≡ record d { work = mid.work; room = mid.room } → IsFull d → d.room ≤ mid.room
    → IsCarried mid (piece_seen oldest) brings' new → KeepsBy start brings new brings'
keeps-on {M} start brings d mid new w piece oldest brings' by is first same full roomy k = λ more end keeps.
    let on : Keeps more new (brought k.c.answer) end = subst (λ (x : Option WorkSeen). Keeps more new x end) k.brings_is keeps in
    let carries : CarriesOut d.panel (piece_seen oldest) k.c = subst (λ (x : DeskSeen). CarriesOut x.panel (piece_seen oldest) k.c) same k.carries in
    let room : new.room ≡ mid.room = ap (λ (x : DeskSeen). x.room) k.leaves in
    let off : CarriesOldest d (d.work ++ piece_seen piece ∷ []) k.c new = record {
      full = full;
      piece = piece_seen oldest;
      others = mid.work;
      oldest = first;
      carries = carries;
      roomy = subst (λ (n : ℕ). d.room ≤ n) (sym room) roomy;
      leaves = k.leaves ∙ ap (λ (x : DeskSeen). let r : DeskSeen = record x { panel = k.c.after } in r) same
          ∙ ap (λ (n : ℕ). let r : DeskSeen = record d { panel = k.c.after; work = mid.work; room = n } in r) (sym room);
    } in
    let all : Keeps (k.c ∷ more) d (Some (piece_seen piece)) end = (new, off, on) in
    by (k.c ∷ more) end (subst (λ (x : Option WorkSeen). Keeps (k.c ∷ more) d x end) (sym (ap work_seen is ∙ seen-some piece)) all)

-- how many pieces may still be brought
abbrev pub weight : Option WorkSeen → Panel → ℕ
weight None p = 0
weight (Some work) p = suc (left p)

weight-less : (d new : DeskSeen) (piece : WorkSeen) (brings : Option WorkSeen) → IsCarried d piece brings new → weight brings new.panel < suc (left d.panel)
weight-less d new piece None k = omega arith
weight-less d new piece (Some work) k =
    let near : left k.c.after < left d.panel = nearer d.panel piece work k.c k.carries (sym k.brings_is) in
    let here : left new.panel < left d.panel = subst (λ (x : DeskSeen). left x.panel < left d.panel) (sym k.leaves) near in
    omega arith

pub weight-falls : {M : _} (d mid new : DeskSeen) (w : Option (Work M)) (piece oldest : Work M) (brings : Option WorkSeen) → w ≡ Some piece
    → mid ≡ record d { work = mid.work; room = mid.room } → IsCarried mid (piece_seen oldest) brings new
    → weight brings new.panel < weight (work_seen w) d.panel
weight-falls d mid new w piece oldest brings is same k =
    let panels : mid.panel ≡ d.panel = ap (λ (x : DeskSeen). x.panel) same in
    subst (λ (x : Option WorkSeen). weight brings new.panel < weight x d.panel) (sym (ap work_seen is ∙ seen-some piece))
    (subst (λ (x : Panel). weight brings new.panel < suc (left x)) panels (weight-less mid new (piece_seen oldest) brings k))

-- who has joined is followed
follows : (old told mid : DeskSeen) (ask : SessionAsk) (answer : SessionAnswer) (seating : Seating) → told ≡ record old { panel = told.panel }
    → seating ≡ seating_of ask → mid ≡ record told { available = followed told.available answer seating }
    → mid ≡ record old { panel = told.panel; available = seated old.available ask answer }
follows old told mid ask answer seating same sits is =
    is ∙ ap (λ (s : Seating). let r : DeskSeen = record told { available = followed told.available answer s } in r) sits
    ∙ ap (λ (d : DeskSeen). let r : DeskSeen = record d { available = seated d.available ask answer } in r) same

-- an ask
pub passes-ask : (old told mid new : DeskSeen) (ask : SessionAsk) (failed : Bool) (answer : SessionAnswer) (brings : Option WorkSeen) (seating : Seating)
    → Step old.panel (AskSession ask) failed (SaysSession answer brings) told.panel → failed ≡ any_failed old.panel.cage.cards told.panel.cage.cards
    → told.work ≡ old.work → told.room ≡ old.room → told.available ≡ old.available
    → seating ≡ seating_of ask → mid ≡ record told { available = followed told.available answer seating }
    → IsKept mid brings new
    → CorePasses old (Asked ask answer) new
passes-ask old told mid new ask failed answer brings seating step counts work room available sits is kept = (
  kept.carried,
  record {
    failed = failed;
    brings = brings;
    after = told.panel;
    step = step;
    counts = counts;
    keeps = subst (λ (d : DeskSeen). Keeps kept.carried d brings new) (follows old told mid ask answer seating (with-panel old told work room available) sits
        is)
        kept.keeps;
  },
)

followed-stays : (notes : Notes) (answer : SessionAnswer) → followed notes answer Stays ≡ notes
followed-stays notes (Joined sid) = refl
followed-stays notes (Done text) = refl
followed-stays notes answer = refl

-- an ask for the command of a unit, by which nobody joins or leaves
pub passes-unit : (old told new : DeskSeen) (sid : Sid) (command : Command) (answered failed : Bool) (answer : SessionAnswer) (brings : Option WorkSeen)
    → Step old.panel (AskSession (Unit sid command answered)) failed (SaysSession answer brings) told.panel
    → failed ≡ any_failed old.panel.cage.cards told.panel.cage.cards → told.work ≡ old.work → told.room ≡ old.room → told.available ≡ old.available
    → IsKept told brings new
    → CorePasses old (Asked (Unit sid command answered) answer) new
passes-unit old told new sid command answered failed answer brings step counts work room available kept =
    passes-ask old told told new (Unit sid command answered) failed answer brings Stays step counts work room available refl
    (ap (λ (n : Notes). let r : DeskSeen = record told { available = n } in r) (sym (followed-stays told.available answer))) kept

-- an ask that is held, with nothing changed
pub passes-held : (d : DeskSeen) (ask : SessionAsk) → Step d.panel (AskSession ask) false (SaysSession (Hold ask) None) d.panel
    → CorePasses d (Asked ask (Hold ask)) d
passes-held d ask step = (
  [],
  record { failed = false; brings = None; after = d.panel; step = step; counts = sym (failed_same d.panel.cage.cards); keeps = refl },
)

-- a wait
pub passes-wait : (old mid next new : DeskSeen) (piece : WorkSeen) (brings : Option WorkSeen) (limit : Option ℕ) → old ≡ record mid { work = piece ∷ mid.work }
    → IsCarried mid piece brings next
    → IsKept next brings new → CorePasses old (Waited limit (Again limit)) new
passes-wait old mid next new piece brings limit is k kept =
    let on : Keeps kept.carried (record mid { panel = k.c.after }) (brought k.c.answer) new =
    subst (λ (x : Option WorkSeen). Keeps kept.carried (record mid { panel = k.c.after }) x new) k.brings_is (subst (λ (x : DeskSeen).
    Keeps kept.carried x brings new) k.leaves kept.keeps) in (
      k.c ∷ kept.carried,
      (
        refl,
        record {
          piece = piece;
          others = mid.work;
          oldest = ap (λ (d : DeskSeen). d.work) is;
          carries = subst (λ (d : DeskSeen). CarriesOut d.panel piece k.c) (sym is) k.carries;
          keeps = subst (λ (d : DeskSeen). Keeps kept.carried (record d { panel = k.c.after; work = mid.work }) (brought k.c.answer) new) (sym is) on;
        },
      ),
    )

-- all of a limit is left
pub leaves-all : (limit : Option ℕ) → LeavesOf limit (Again limit)
leaves-all None = tt
leaves-all (Some limit) = omega arith

pub passes-over : (old new : DeskSeen) (limit : Option ℕ) → old.work ≡ [] → new ≡ old → CorePasses old (Waited limit Over) new
passes-over old new limit none same = ([], (none, same))

-- a look at a session's status
pub passes-poll : (old new : DeskSeen) (sid : Sid) (view : View) → view ≡ view_of old sid → new ≡ old → CorePasses old (Polled sid view) new
passes-poll old new sid view is same = ([], (is, same))

-- a note
pub passes-note : (old new : DeskSeen) (sid : Sid) (mav : Bool) → new ≡ record old { available = with_note old.available sid mav }
    → CorePasses old (Noted sid mav) new
passes-note old new sid mav is = ([], is)

-- nothing of a wait's limit is spent
left-of : (carried : List Carried) (d new : DeskSeen) (limit rest : Option ℕ) → PassesBy carried d (Waited limit (Again rest)) new → rest ≡ limit
left-of [] d new limit rest p = absurd p
left-of (c ∷ carried) d new limit rest p = p.0

pub none-left : (d new : DeskSeen) (rest : Option ℕ) → CorePasses d (Waited None (Again rest)) new → CorePasses d (Waited None (Again None)) new
none-left d new rest p = subst (λ (x : Option ℕ). CorePasses d (Waited None (Again x)) new) (left-of p.0 d new None rest p.1) p

-- waits as far as they have come
abbrev pub WaitedBy : DeskSeen → ℕ → DeskSeen → Type 0
WaitedBy old n d = Leads CorePasses old (replicate n (Waited None (Again None))) d

pub waited-more : (old d new : DeskSeen) (n : ℕ) (rest : Option ℕ) → WaitedBy old n d → CorePasses d (Waited None (Again rest)) new → WaitedBy old (n + 1) new
waited-more old d new n rest l p =
    subst (λ (t : List Entry). Leads CorePasses old t new) (replicate_more n (Waited None (Again None)))
    (leads-append CorePasses old d new (replicate n (Waited None (Again None))) (Waited None (Again None) ∷ []) l (new, none-left d new rest p, refl))

pub rests-over : (old d new : DeskSeen) (n : ℕ) → WaitedBy old n d → CorePasses d (Waited None Over) new → WaitsOut old true new
rests-over old d new n l p = record {
  waits = n;
  leads = leads-append CorePasses old d new (replicate n (Waited None (Again None))) (Waited None Over ∷ []) l (new, p, refl);
  in_vain = λ is. absurd (cc is);
}

pub rests-idle : (d : DeskSeen) → d.work ≡ [] → WaitsOut d true d
rests-idle d none = rests-over d d d 0 refl ([], (none, refl))

pub rests-in-vain : (old new : DeskSeen) (n : ℕ) → n ≡ most_waits → WaitedBy old n new → WaitsOut old false new
rests-in-vain old new n is l = record {
  waits = n;
  leads = subst (λ (t : List Entry). Leads CorePasses old t new) (sym (append-nil (replicate n (Waited None (Again None))))) l;
  in_vain = λ _. is;
}

nothing-left : (carried : List Carried) (limit : Option ℕ) (d new : DeskSeen) → PassesBy carried d (Waited limit Over) new → new.work ≡ []
nothing-left [] limit d new p = ap (λ (x : DeskSeen). x.work) p.1 ∙ p.0
nothing-left (c ∷ carried) limit d new p = absurd p

pub over-rests : (d new : DeskSeen) (limit : Option ℕ) → CorePasses d (Waited limit Over) new → new.work ≡ []
over-rests d new limit p = nothing-left p.0 limit d new p.1
