-- A scan's end comes nearer with each piece of work.
use Rattle.std.specs.Prelude.{◌==◌, ◌&&◌, not}
use Rattle.std.proofs.Common.{◌≡◌, ℕ, zero, suc, ◌+◌, ◌-◌, ◌<◌, Bool, true, false, MatchBool, List, [], ◌∷◌, length, drop, Option, Some, None, Result, Ok, Err}
use Rattle.std.proofs.Common.{refl, sym, ap, ◌∙◌, subst, arith}
use Rattle.sw_base.specs.declared.reading.Reading.{Reading}
use Rattle.sw_card.specs.declared.board.CardFault.{CardFault}
use Rattle.sw_trigger.specs.declared.layer.Awaited.{Awaited}
use Rattle.sw_trigger.specs.declared.layer.Awaited.TheVariants.{Wait, Period, Pause, Read}
use Rattle.sw_verify.specs.Course.{CourseSeen}
use Rattle.sw_trigger.specs.Agenda.{Item}
use Rattle.sw_cage.specs.Cage.{ScanSeen, CageSeen}
use Rattle.sw_cage.specs.Advance.{moves_from, next_place, first_awaited, awaits}
use Rattle.sw_cage.specs.Outcome.{lasting, Advances, AdvancesPastFrom, Counts, with_reading, with_back}
use Rattle.sw_cage.specs.Work.{FinishedSeen}
use Rattle.sw_cage.specs.declared.job.Ticket.{Ticket}
use Rattle.sw_cage.specs.declared.taken.Happening.{Happening}
use Rattle.sw_cage.specs.declared.taken.Happening.TheVariants.{Elapsed}
use Rattle.sw_cage.specs.TakenSeen.{TakenSeen, SaysIgnored, SaysWaits, SaysPause, SaysJob, SaysEnded, SaysFault}
use Rattle.sw_core.specs.Panel.{Panel}
use Rattle.sw_core.specs.Seen.{WorkSeen, Measures, Pauses, AskSeen, AskElapsed, AskFinished, AnswerSeen, SaysSession, SaysInstalled, SaysNotInstalled}
use Rattle.sw_core.specs.Seen.{SaysEjected, SaysNotEjected, SaysTaken, SaysMissed, SaysFailed, SaysBack, SaysWorn}
use Rattle.sw_core.specs.Step.{Step, Happens, Returns, outside_told, IsUnnumbered, IsEvent, acts_unnumbered, work_of}
use Rattle.sw_core.specs.Event.{last_number}
use Rattle.sw_talk.specs.CoreDesk.{Carried, TellsOfPiece, CarriesOut, brought}

-- how many items a scan has before it
abbrev pub items_left : Option ScanSeen → ℕ
items_left None = 0
items_left (Some at) = length at.course.items - at.index

abbrev pub left : Panel → ℕ
left p = items_left p.cage.scan

-- what awaits is one of the items
within : (items : List Item) (i : ℕ) (what : Awaited) → first_awaited (drop i items) ≡ Some what → i < length items
within [] zero what h = absurd (cc h)
within [] (suc i) what h = absurd (cc h)
within (x ∷ items) zero what h = omega arith
within (x ∷ items) (suc i) what h = let r = within items i what h in omega arith

lands : (s : CourseSeen) (i : ℕ) (what : Awaited) (scan : Option ScanSeen) → awaits (next_place s (i + 1)) ≡ Some what → scan ≡ Some (next_place s (i + 1))
    → items_left scan < length s.items - i
lands s i what scan awaited is =
    let w : i + 1 + length (moves_from s (i + 1)) < length s.items = within s.items (i + 1 + length (moves_from s (i + 1))) what awaited in
    subst (λ (x : Option ScanSeen). items_left x < length s.items - i) (sym is) (omega arith)

-- what lasts and ends by itself is awaited
lasts : (o : Option Awaited) (micros : ℕ) → lasting o ≡ Some micros → (what : Awaited) × (o ≡ Some what)
lasts None micros e = absurd (cc e)
lasts (Some (Wait name)) micros e = absurd (cc e)
lasts (Some (Period name u)) micros e = (Period name u, refl)
lasts (Some (Pause u)) micros e = (Pause u, refl)
lasts (Some Read) micros e = absurd (cc e)

goes : (p q : CageSeen) (s : CourseSeen) (i : ℕ) (told : TakenSeen) (work : WorkSeen) → Advances p s (i + 1) told q → work_of told ≡ Some work
    → items_left q.scan < length s.items - i
goes p q s i SaysIgnored work g is = absurd (cc is)
goes p q s i SaysWaits work g is = absurd (cc is)
goes p q s i (SaysPause ticket micros) work g is = let a = g.runs.arrives in
    let w = lasts (awaits (next_place s (i + 1))) micros a.0 in lands s i w.0 q.scan w.1 a.3
goes p q s i (SaysJob job) work g is = let a = g.runs.arrives in lands s i Read q.scan a.0 a.2
goes p q s i SaysEnded work g is = absurd (cc is)
goes p q s i SaysFault work g is = absurd (cc is)

past : (p q : CageSeen) (scan : Option ScanSeen) (told : TakenSeen) (work : WorkSeen) → AdvancesPastFrom p scan told q → work_of told ≡ Some work
    → items_left q.scan < items_left scan
past p q None told work g is = absurd g
past p q (Some at) told work g is = goes p q at.course at.index told work g is

happened : (p q : Panel) (told : TakenSeen) (f : Bool) (work : WorkSeen) (h : Happening) → Happens p h f told q → work_of told ≡ Some work → left q < left p
happened p q SaysIgnored f work h k is = absurd (cc is)
happened p q SaysWaits f work h k is = absurd (cc is)
happened p q (SaysPause ticket micros) f work h k is = past p.cage q.cage p.cage.scan (SaysPause ticket micros) work k.1 is
happened p q (SaysJob job) f work h k is = past p.cage q.cage p.cage.scan (SaysJob job) work k.1 is
happened p q SaysEnded f work h k is = absurd (cc is)
happened p q SaysFault f work h k is = absurd (cc is)

counted : (c q : CageSeen) (outcome : Result Reading CardFault) (told : TakenSeen) (work : WorkSeen) → Counts c outcome told q → work_of told ≡ Some work
    → items_left q.scan < items_left c.scan
counted c q (Ok r) told work k is = past (with_reading c r) q c.scan told work k is
counted c q (Err e) told work k is = let none : None ≡ Some work = ap work_of (sym k.0) ∙ is in absurd (cc none)

returned : (p q : Panel) (done : FinishedSeen) (f : Bool) (told : TakenSeen) (work : WorkSeen) → Returns p done f told q → work_of told ≡ Some work
    → left q < left p
returned p q done f SaysIgnored work k is = absurd (cc is)
returned p q done f SaysWaits work k is = absurd (cc is)
returned p q done f (SaysPause ticket micros) work k is = counted (with_back p.cage done) q.cage done.outcome (SaysPause ticket micros) work k.1 is
returned p q done f (SaysJob job) work k is = counted (with_back p.cage done) q.cage done.outcome (SaysJob job) work k.1 is
returned p q done f SaysEnded work k is = absurd (cc is)
returned p q done f SaysFault work k is = absurd (cc is)

outside : (told : TakenSeen) (work : WorkSeen) → SaysTaken (Some work) ≡ outside_told told → work_of told ≡ Some work
outside SaysIgnored work is = absurd (cc is)
outside SaysWaits work is = absurd (cc is)
outside (SaysPause ticket micros) work is = cc is
outside (SaysJob job) work is = cc is
outside SaysEnded work is = absurd (cc is)
outside SaysFault work is = absurd (cc is)

taken : (a : AnswerSeen) (work : WorkSeen) → brought a ≡ Some work → a ≡ SaysTaken (Some work)
taken (SaysTaken w) work is = ap SaysTaken is
taken (SaysSession answer w) work is = absurd (cc is)
taken SaysInstalled work is = absurd (cc is)
taken (SaysNotInstalled refusal) work is = absurd (cc is)
taken (SaysEjected card) work is = absurd (cc is)
taken (SaysNotEjected refusal) work is = absurd (cc is)
taken SaysMissed work is = absurd (cc is)
taken SaysFailed work is = absurd (cc is)
taken SaysBack work is = absurd (cc is)
taken SaysWorn work is = absurd (cc is)

pub numbered : {U E G : Type 0} (b : Bool) → MatchBool b U E → (U → G) → (E → G) → G
numbered true s not_numbered event = not_numbered s
numbered false s not_numbered event = event s

elapsed : (p q : Panel) (ticket : Ticket) (f : Bool) (work : WorkSeen) → Step p (AskElapsed ticket) f (SaysTaken (Some work)) q → left q < left p
elapsed p q ticket f work s =
    numbered ((p.events == last_number) && not (acts_unnumbered (AskElapsed ticket))) s
    (λ (u : IsUnnumbered p (AskElapsed ticket) f (SaysTaken (Some work)) q). absurd u.worn)
    (λ (e : IsEvent p (AskElapsed ticket) f (SaysTaken (Some work)) q).
    let near : left e.done < left p = happened p e.done e.acts.told f work (Elapsed ticket) e.acts.happens (outside e.acts.told work e.acts.answer_is) in
    subst (λ (x : Panel). left x < left p) (sym e.after) near)

finished : (p q : Panel) (done : FinishedSeen) (f : Bool) (work : WorkSeen) → Step p (AskFinished done) f (SaysTaken (Some work)) q → left q < left p
finished p q done f work s =
    numbered ((p.events == last_number) && not (acts_unnumbered (AskFinished done))) s
    (λ (u : IsUnnumbered p (AskFinished done) f (SaysTaken (Some work)) q). absurd u.worn)
    (λ (e : IsEvent p (AskFinished done) f (SaysTaken (Some work)) q).
    let near : left e.done < left p = returned p e.done done f e.acts.told work e.acts.returns (outside e.acts.told work e.acts.answer_is) in
    subst (λ (x : Panel). left x < left p) (sym e.after) near)

told : (p : Panel) (piece : WorkSeen) (ask : AskSeen) (f : Bool) (work : WorkSeen) (q : Panel) → TellsOfPiece piece ask → Step p ask f (SaysTaken (Some work)) q
    → left q < left p
told p (Pauses ticket micros) ask f work q tells s = elapsed p q ticket f work (subst (λ (x : AskSeen). Step p x f (SaysTaken (Some work)) q) tells s)
told p (Measures job) ask f work q (done, ran, tells) s = finished p q done f work (subst (λ (x : AskSeen). Step p x f (SaysTaken (Some work)) q) tells s)

-- A piece that brings another has brought the scan on.
pub nearer : (p : Panel) (piece work : WorkSeen) (c : Carried) → CarriesOut p piece c → brought c.answer ≡ Some work → left c.after < left p
nearer p piece work c carries is =
    told p piece c.ask c.failed work c.after carries.tells (subst (λ (a : AnswerSeen). Step p c.ask c.failed a c.after) (taken c.answer work is) carries.step)
