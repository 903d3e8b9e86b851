-- A talk over a mainframe leaves no choice but what is measured and what comes of the cards, where memory suffices.
use Rattle.std.proofs.Common.{◌≡◌, ℕ, zero, suc, Bool, List, [], ◌∷◌, ◌++◌, replicate, Option, Some, None, Result, Ok, Err, refl, ap, sym, ◌∙◌, subst, arith}
use Rattle.std.specs.Io.BufRead.{strip_last}
use Rattle.std.proofs.lemmas.List.{append_assoc}
use Rattle.sw_base.specs.declared.reading.Reading.{Reading}
use Rattle.sw_card.specs.declared.board.CardFault.{CardFault}
use Rattle.sw_card.specs.Account.{MeterAccount, IsMeasured}
use Rattle.sw_cage.specs.Work.{JobSeen, FinishedSeen, IsDone}
use Rattle.sw_cage.specs.declared.job.Ticket.{Ticket}
use Rattle.sw_core.specs.declared.ask.Sid.{Sid}
use Rattle.sw_core.specs.declared.ask.SessionAsk.{SessionAsk}
use Rattle.sw_core.specs.declared.ask.SessionAnswer.{SessionAnswer}
use Rattle.sw_core.specs.Panel.{Panel}
use Rattle.sw_core.specs.Run.{StepIsDetermined, IsPlain, KeepsKey, FailuresAfter, failures_after}
use Rattle.sw_core.specs.LeftOpen.{LeftOpen, Determined, answer_leaves, leaves_open}
use Rattle.sw_core.specs.Step.{Step}
use Rattle.sw_core.specs.Seen.{WorkSeen, Measures, Pauses, AskSeen, AskSession, AskFinished, AnswerSeen, SaysSession}
use Rattle.sw_macro.specs.Table.{Table}
use Rattle.sw_talk.specs.declared.desk.View.{View}
use Rattle.sw_talk.specs.declared.desk.Wake.{Wake}
use Rattle.sw_talk.specs.declared.desk.Wake.TheVariants.{Again, Over}
use Rattle.sw_talk.specs.Trace.{Entry, Asked, Waited, Polled, Noted, Leads}
use Rattle.sw_talk.specs.Available.{with_note, seated}
use Rattle.sw_talk.specs.CoreDesk.{DeskSeen, but_room, Carried, TellsOfPiece, Keeps, AnswersAsk, CarriesOutOldest, PassesBy, CorePasses, brought, view_of}
use Rattle.sw_talk.specs.Law.{SameCall, SameTalk, TellsPlainly, KeepsKeys, IsSmooth, AllSmooth, carried_of, waits_of}
use Rattle.sw_talk.specs.Law.{Outcome, Measured, Cards, measured, outcomes_in, outcomes_by, outcomes_of}
use Rattle.sw_talk.specs.Talk.{TalksMessage}
use Rattle.sw_talk.specs.Law.{IsSameDesk, Left, left, TalkIsDetermined, CoreTalkIsDetermined, CoreRestIsDetermined}

-- what is kept, where nothing is carried out at once
kept-same : (d d' : DeskSeen) (brings : Option WorkSeen) (q q' : DeskSeen) → IsSameDesk d d' → Keeps [] d brings q → Keeps [] d' brings q' → IsSameDesk q q'
kept-same d d' None q q' desks k k' = ap but_room k ∙ desks ∙ sym (ap but_room k')
kept-same d d' (Some piece) q q' desks k k' =
    ap but_room k.leaves ∙ ap (λ (x : DeskSeen). let r : DeskSeen = record x { work = x.work ++ piece ∷ [] } in r) desks ∙ sym (ap but_room k'.leaves)

keeps-same : (d d' : DeskSeen) (brings brings' : Option WorkSeen) (q q' : DeskSeen) → IsSameDesk d d' → brings ≡ brings' → Keeps [] d brings q
    → Keeps [] d' brings' q' → IsSameDesk q q'
keeps-same d d' brings brings' q q' desks works k k' =
    kept-same d d' brings q q' desks k (subst (λ (x : Option WorkSeen). Keeps [] d' x q') (sym works) k')

-- a desk with another mainframe, and with other work
panels-same : (d d' : DeskSeen) (p p' : Panel) → IsSameDesk d d' → p ≡ p' → IsSameDesk (record d { panel = p }) (record d' { panel = p' })
panels-same d d' p p' desks panels =
    ap (λ (x : DeskSeen). let r : DeskSeen = record x { panel = p } in r) desks
    ∙ ap (λ (x : Panel). let r : DeskSeen = record d' { panel = x; room = 0 } in r) panels

-- a desk after an ask and its answer
seats-same : (d d' : DeskSeen) (p p' : Panel) (ask ask' : SessionAsk) (r r' : SessionAnswer) → IsSameDesk d d' → p ≡ p' → ask ≡ ask' → r ≡ r'
    → IsSameDesk (record d { panel = p; available = seated d.available ask r }) (record d' { panel = p'; available = seated d'.available ask' r' })
seats-same d d' p p' ask ask' r r' desks panels asks answers =
    ap (λ (x : DeskSeen). let r0 : DeskSeen = record x { panel = p; available = seated x.available ask r } in r0) desks
    ∙ ap (λ (x : Panel). let r0 : DeskSeen = record d' { panel = x; available = seated d'.available ask r; room = 0 } in r0) panels
    ∙ ap (λ (x : SessionAsk). let r0 : DeskSeen = record d' { panel = p'; available = seated d'.available x r; room = 0 } in r0) asks
    ∙ ap (λ (x : SessionAnswer). let r0 : DeskSeen = record d' { panel = p'; available = seated d'.available ask' x; room = 0 } in r0) answers

works-same : (d d' : DeskSeen) (work work' : List WorkSeen) → IsSameDesk d d' → work ≡ work'
    → IsSameDesk (record d { work = work }) (record d' { work = work' })
works-same d d' work work' desks works =
    ap (λ (x : DeskSeen). let r : DeskSeen = record x { work = work } in r) desks
    ∙ ap (λ (x : List WorkSeen). let r : DeskSeen = record d' { work = x; room = 0 } in r) works

same-answer : (r s : SessionAnswer) (v w : Option WorkSeen) → SaysSession r v ≡ SaysSession s w → r ≡ s
same-answer r s v w is = cc (is)

same-work : (r s : SessionAnswer) (v w : Option WorkSeen) → SaysSession r v ≡ SaysSession s w → v ≡ w
same-work r s v w is = cc (is)

-- one measurement of one outcome
measured-same : (a b b' : MeterAccount) (o : Result Reading CardFault) → IsMeasured a o b → IsMeasured a o b' → b ≡ b'
measured-same a b b' (Ok r) m m' = m ∙ sym m'
measured-same a b b' (Err e) m m' = m ∙ sym m'

abbrev finished : ℕ → Ticket → MeterAccount → ℕ → Result Reading CardFault → FinishedSeen
finished slot ticket meter before outcome = record { slot = slot; ticket = ticket; meter = meter; before = before; outcome = outcome }

parts-same : (s s' : ℕ) (t t' : Ticket) (m m' : MeterAccount) (b b' : ℕ) (o o' : Result Reading CardFault) → s ≡ s' → t ≡ t' → m ≡ m' → b ≡ b' → o ≡ o'
    → finished s t m b o ≡ finished s' t' m' b' o'
parts-same s s' t t' m m' b b' o o' e1 e2 e3 e4 e5 =
    ap (λ x. finished x t m b o) e1 ∙ ap (λ x. finished s' x m b o) e2 ∙ ap (λ x. finished s' t' x b o) e3 ∙ ap (λ x. finished s' t' m' x o) e4
    ∙ ap (λ x. finished s' t' m' b' x) e5

done-same : (job : JobSeen) (d d' : FinishedSeen) → IsDone job d → IsDone job d' → d.outcome ≡ d'.outcome → d ≡ d'
done-same job d d' i i' same =
    let meters : d.meter ≡ d'.meter =
    measured-same job.meter d.meter d'.meter d.outcome i.measured (subst (λ (o : Result Reading CardFault).
    IsMeasured job.meter o d'.meter) (sym same) i'.measured) in
    parts-same d.slot d'.slot d.ticket d'.ticket d.meter d'.meter d.before d'.before d.outcome d'.outcome (i.slot ∙ sym i'.slot) (i.ticket
    ∙ sym i'.ticket) meters (i.before ∙ sym i'.before) same

head-same : (o o' : Outcome) (os os' : List Outcome) → o ∷ os ≡ o' ∷ os' → o ≡ o'
head-same o o' os os' is = cc (is)

tail-same : (o o' : Outcome) (os os' : List Outcome) → o ∷ os ≡ o' ∷ os' → os ≡ os'
tail-same o o' os os' is = cc (is)

made-same : (o o' : Result Reading CardFault) → Measured o ≡ Measured o' → o ≡ o'
made-same o o' is = cc (is)

failures-same : (t t' : FailuresAfter) (b b' : LeftOpen) → Cards t b ≡ Cards t' b' → t ≡ t'
failures-same t t' b b' is = cc (is)

left-same : (t t' : FailuresAfter) (b b' : LeftOpen) → Cards t b ≡ Cards t' b' → b ≡ b'
left-same t t' b b' is = cc (is)

-- what is told of one piece
told-same : (piece : WorkSeen) (a a' : AskSeen) (os os' : List Outcome) → TellsOfPiece piece a → TellsOfPiece piece a' → measured a ++ os ≡ measured a'
    ++ os' → (a ≡ a') × (os ≡ os')
told-same (Pauses ticket micros) a a' os os' is is' same =
    let both : a ≡ a' = is ∙ sym is' in
    (both, (subst (λ (x : AskSeen). measured x ++ os ≡ os') is (subst (λ (x : AskSeen). measured a ++ os ≡ measured x ++ os') is' same)))
told-same (Measures job) a a' os os' (done, ran, is) (done', ran', is') same =
    let all : Measured done.outcome ∷ os ≡ Measured done'.outcome ∷ os' =
    subst (λ (x : AskSeen). measured x ++ os ≡ Measured done'.outcome ∷ os') is (subst (λ (x : AskSeen). measured a ++ os ≡ measured x ++ os') is' same) in
    let one = done-same job done done' ran ran'
    (made-same done.outcome done'.outcome (head-same (Measured done.outcome) (Measured done'.outcome) os os' all)) in
    (is ∙ ap AskFinished one ∙ sym is', tail-same (Measured done.outcome) (Measured done'.outcome) os os' all)

-- an ask
asked-same : StepIsDetermined → (d d' : DeskSeen) (ask ask' : SessionAsk) (r r' : SessionAnswer) (q q' : DeskSeen) → IsSameDesk d d' → ask ≡ ask'
    → TellsPlainly r
    → TellsPlainly r' → KeepsKeys ask r → KeepsKeys ask' r' → (a : AnswersAsk [] d ask r q) → (a' : AnswersAsk [] d' ask' r' q')
    → failures_after a.failed a.after.cage.cards ≡ failures_after a'.failed a'.after.cage.cards → answer_leaves d.panel ask r ≡ answer_leaves d'.panel ask' r'
    → (r ≡ r') × IsSameDesk q q'
asked-same once d d' ask ask' r r' q q' desks asks plain plain' keys keys' a a' same_failures same_left =
    let key = subst (λ (x : SessionAsk). KeepsKey d.panel (AskSession x) (SaysSession r' a'.brings)) (sym asks) (keys' d.panel a'.brings) in
    let here : Step d.panel (AskSession ask) a'.failed (SaysSession r' a'.brings) a'.after =
    subst (λ (x : SessionAsk). Step d.panel (AskSession x) a'.failed (SaysSession r' a'.brings) a'.after) (sym asks)
    (subst (λ (x : DeskSeen). Step x.panel (AskSession ask') a'.failed (SaysSession r' a'.brings) a'.after) (sym desks) a'.step) in
    let sure : answer_leaves d.panel ask r ≡ answer_leaves d.panel ask r' =
    same_left ∙ ap (λ (x : DeskSeen). answer_leaves x.panel ask' r') (sym desks) ∙ ap (λ (x : SessionAsk). answer_leaves d.panel x r') (sym asks) in
    let one = once d.panel a.after a'.after (AskSession ask) a.failed a'.failed (SaysSession r a.brings) (SaysSession r' a'.brings)
    a.step here same_failures sure (plain a.brings)
    (plain' a'.brings) (keys d.panel a.brings) key in
    let answers : r ≡ r' = same-answer r r' a.brings a'.brings one.0 in (
      answers,
      keeps-same (record d { panel = a.after; available = seated d.available ask r }) (record d' { panel = a'.after; available = seated d'.available ask' r' })
          a.brings a'.brings q q' (seats-same d d' a.after a'.after ask ask' r r' desks one.1 asks answers)
          (same-work r r' a.brings a'.brings one.0) a.keeps a'.keeps,
    )

first-piece : (x y : WorkSeen) (xs ys : List WorkSeen) → x ∷ xs ≡ y ∷ ys → x ≡ y
first-piece x y xs ys is = cc (is)

other-pieces : (x y : WorkSeen) (xs ys : List WorkSeen) → x ∷ xs ≡ y ∷ ys → xs ≡ ys
other-pieces x y xs ys is = cc (is)

-- a piece that is carried out asks for no lock
told-keeps : (piece : WorkSeen) (p : Panel) (ask : AskSeen) (a : AnswerSeen) → TellsOfPiece piece ask → KeepsKey p ask a
told-keeps (Pauses ticket micros) p ask a is = subst (λ (x : AskSeen). KeepsKey p x a) (sym is) tt
told-keeps (Measures job) p ask a (done, ran, is) = subst (λ (x : AskSeen). KeepsKey p x a) (sym is) tt

-- nor is anything of its answer left open
told-asks : (piece : WorkSeen) (p : Panel) (ask : AskSeen) (a : AnswerSeen) → TellsOfPiece piece ask → leaves_open p ask a ≡ Determined
told-asks (Pauses ticket micros) p ask a is = ap (λ (x : AskSeen). leaves_open p x a) is
told-asks (Measures job) p ask a (done, ran, is) = ap (λ (x : AskSeen). leaves_open p x a) is

-- a wait in which one piece is carried out
worked-same : StepIsDetermined → (d d' q q' : DeskSeen) (c c' : Carried) (os os' : List Outcome) → IsSameDesk d d' → IsPlain c.answer
    → IsPlain c'.answer
    → measured c.ask ++ Cards (failures_after c.failed c.after.cage.cards) Determined ∷ os
    ≡ measured c'.ask ++ Cards (failures_after c'.failed c'.after.cage.cards) Determined ∷ os'
    → CarriesOutOldest c [] d q → CarriesOutOldest c' [] d' q' → IsSameDesk q q' × (os ≡ os')
worked-same once d d' q q' c c' os os' desks plain plain' outcomes w w' =
    let queues : w.piece ∷ w.others ≡ w'.piece ∷ w'.others = sym w.oldest ∙ ap (λ (x : DeskSeen). x.work) desks ∙ w'.oldest in
    let tells : TellsOfPiece w.piece c'.ask =
    subst (λ (x : WorkSeen). TellsOfPiece x c'.ask) (sym (first-piece w.piece w'.piece w.others w'.others queues)) w'.carries.tells in
    let cost = Cards (failures_after c.failed c.after.cage.cards) Determined in
    let cost' = Cards (failures_after c'.failed c'.after.cage.cards) Determined in
    let told = told-same w.piece c.ask c'.ask (cost ∷ os) (cost' ∷ os') w.carries.tells tells outcomes in
    let costs = head-same cost cost' os os' told.1 in
    let same_failures = failures-same (failures_after c.failed c.after.cage.cards) (failures_after c'.failed c'.after.cage.cards) Determined Determined costs in
    let same_left : leaves_open d.panel c.ask c.answer ≡ leaves_open d.panel c.ask c'.answer =
    told-asks w.piece d.panel c.ask c.answer w.carries.tells ∙ sym (told-asks w.piece d.panel c.ask c'.answer w.carries.tells) in
    let here : Step d.panel c.ask c'.failed c'.answer c'.after =
    subst (λ (x : AskSeen). Step d.panel x c'.failed c'.answer c'.after) (sym told.0) (subst (λ (x : DeskSeen).
    Step x.panel c'.ask c'.failed c'.answer c'.after) (sym desks) w'.carries.step) in
    let one = once d.panel c.after c'.after c.ask c.failed c'.failed c.answer c'.answer w.carries.step here same_failures same_left plain plain'
    (told-keeps w.piece d.panel c.ask c.answer w.carries.tells) (told-keeps w.piece d.panel c.ask c'.answer w.carries.tells) in (
      keeps-same (record d { panel = c.after; work = w.others }) (record d' { panel = c'.after; work = w'.others }) (brought c.answer) (brought c'.answer) q q'
          (works-same (record d { panel = c.after }) (record d' {
            panel =
                c'.after;
          }) w.others w'.others (panels-same d d' c.after c'.after desks one.1) (other-pieces w.piece w'.piece w.others w'.others queues))
          (ap brought one.0) w.keeps w'.keeps,
      tail-same cost cost' os os' told.1,
    )

-- a wait
waited-same : StepIsDetermined → (d d' q q' : DeskSeen) (limit limit' : Option ℕ) (w w' : Wake) (cs cs' : List Carried)
    (os os' : List Outcome) → IsSameDesk d d' → limit ≡ limit' → IsSmooth (Waited limit w) cs
    → IsSmooth (Waited limit' w') cs' → outcomes_in cs ++ os ≡ outcomes_in cs' ++ os' → PassesBy cs d (Waited limit w) q → PassesBy cs' d' (Waited limit' w') q'
    → (w ≡ w') × IsSameDesk q q' × (os ≡ os')
waited-same once d d' q q' limit limit' (Again left) w' [] cs' os os' desks limits m n outcomes p p' = absurd p
waited-same once d d' q q' limit limit' (Again left) w' (a ∷ b ∷ cs) cs' os os' desks limits m n outcomes p p' = absurd (omega arith)
waited-same once d d' q q' limit limit' (Again left) (Again left') (c ∷ []) [] os os' desks limits m n outcomes p p' = absurd p'
waited-same once d d' q q' limit limit' (Again left) (Again left') (c ∷ []) (a ∷ b ∷ cs') os os' desks limits m n outcomes p p' = absurd (omega arith)
waited-same once d d' q q' limit limit' (Again left) (Again left') (c ∷ []) (c' ∷ []) os os' desks limits m n outcomes p p' =
    let cost = Cards (failures_after c.failed c.after.cage.cards) Determined in
    let cost' = Cards (failures_after c'.failed c'.after.cage.cards) Determined in
    let joined : measured c.ask ++ cost ∷ os ≡ measured c'.ask ++ cost' ∷ os' =
    sym (append_assoc (measured c.ask) (cost ∷ []) os) ∙ outcomes ∙ append_assoc (measured c'.ask) (cost' ∷ []) os' in
    let one = worked-same once d d' q q' c c' os os' desks m.0.0 n.0.0 joined p.1 p'.1 in
    (ap (λ (x : Option ℕ). Again x) (p.0 ∙ limits ∙ sym p'.0), one.0, one.1)
waited-same once d d' q q' limit limit' (Again left) Over (c ∷ []) [] os os' desks limits m n outcomes p p' =
    let none : p.1.piece ∷ p.1.others ≡ [] = sym p.1.oldest ∙ ap (λ (x : DeskSeen). x.work) desks ∙ p'.0 in absurd (cc none)
waited-same once d d' q q' limit limit' (Again left) Over (c ∷ []) (c' ∷ cs') os os' desks limits m n outcomes p p' = absurd p'
waited-same once d d' q q' limit limit' Over w' (c ∷ cs) cs' os os' desks limits m n outcomes p p' = absurd p
waited-same once d d' q q' limit limit' Over (Again left) [] [] os os' desks limits m n outcomes p p' = absurd p'
waited-same once d d' q q' limit limit' Over (Again left) [] (c' ∷ cs') os os' desks limits m n outcomes p p' =
    let none : p'.1.piece ∷ p'.1.others ≡ [] = sym p'.1.oldest ∙ ap (λ (x : DeskSeen). x.work) (sym desks) ∙ p.0 in absurd (cc none)
waited-same once d d' q q' limit limit' Over Over [] [] os os' desks limits m n outcomes p p' =
    (refl, ap but_room p.1 ∙ desks ∙ sym (ap but_room p'.1), outcomes)
waited-same once d d' q q' limit limit' Over Over [] (c' ∷ cs') os os' desks limits m n outcomes p p' = absurd p'

-- a look at a session's status
polled-same : (d d' q q' : DeskSeen) (sid sid' : Sid) (v v' : View) (cs cs' : List Carried) (os os' : List Outcome) → IsSameDesk d d' → sid ≡ sid'
    → outcomes_in cs ++ os ≡ outcomes_in cs' ++ os'
    → PassesBy cs d (Polled sid v) q → PassesBy cs' d' (Polled sid' v') q' → (v ≡ v') × IsSameDesk q q' × (os ≡ os')
polled-same d d' q q' sid sid' v v' [] [] os os' desks sids outcomes p p' = (
  p.0 ∙ ap (λ (x : DeskSeen). view_of x sid) desks ∙ ap (λ (x : Sid). view_of d' x) sids ∙ sym p'.0,
  ap but_room p.1 ∙ desks ∙ sym (ap but_room p'.1),
  outcomes,
)
polled-same d d' q q' sid sid' v v' (c ∷ cs) cs' os os' desks sids outcomes p p' = absurd p
polled-same d d' q q' sid sid' v v' [] (c' ∷ cs') os os' desks sids outcomes p p' = absurd p'

-- a note
noted-same : (d d' q q' : DeskSeen) (sid sid' : Sid) (m m' : Bool) (cs cs' : List Carried) (os os' : List Outcome) → IsSameDesk d d' → sid ≡ sid'
    → m ≡ m' → outcomes_in cs ++ os ≡ outcomes_in cs' ++ os'
    → PassesBy cs d (Noted sid m) q → PassesBy cs' d' (Noted sid' m') q' → IsSameDesk q q' × (os ≡ os')
noted-same d d' q q' sid sid' m m' [] [] os os' desks sids notes outcomes p p' = (
  ap but_room p ∙ ap (λ (x : DeskSeen). let r : DeskSeen = record x { available = with_note x.available sid m } in r) desks
      ∙ ap (λ (x : Sid). let r : DeskSeen = record d' { available = with_note d'.available x m; room = 0 } in r) sids
      ∙ ap (λ (x : Bool). let r : DeskSeen = record d' { available = with_note d'.available sid' x; room = 0 } in r) notes ∙ sym (ap but_room p'),
  outcomes,
)
noted-same d d' q q' sid sid' m m' (c ∷ cs) cs' os os' desks sids notes outcomes p p' = absurd p
noted-same d d' q q' sid sid' m m' [] (c' ∷ cs') os os' desks sids notes outcomes p p' = absurd p'

-- one call: it comes to the same, and what follows it does
abbrev SameAfter : Entry → Entry → DeskSeen → DeskSeen → List Outcome → List Outcome → Type 0 → Type 0
SameAfter e e' q q' os os' follows = (e ≡ e') × IsSameDesk q q' × (os ≡ os') × follows

passed-same : StepIsDetermined → (d d' q q' : DeskSeen) (e e' : Entry) (cs cs' : List Carried) (os os' : List Outcome) (follows : Type 0)
    → IsSameDesk d d' → IsSmooth e cs → IsSmooth e' cs'
    → (p : PassesBy cs d e q) → (p' : PassesBy cs' d' e' q') → outcomes_by cs d e q p ++ os ≡ outcomes_by cs' d' e' q' p' ++ os' → SameCall e e' follows
    → SameAfter e e' q q' os os' follows
passed-same once d d' q q' (Asked a r) (Asked a' r') [] [] os os' follows desks m n p p' outcomes (asks, on) =
    let cost = Cards (failures_after p.failed p.after.cage.cards) (answer_leaves d.panel a r) in
    let cost' = Cards (failures_after p'.failed p'.after.cage.cards) (answer_leaves d'.panel a' r') in
    let costs = head-same cost cost' os os' outcomes in
    let same_failures = failures-same (failures_after p.failed p.after.cage.cards) (failures_after p'.failed p'.after.cage.cards) (answer_leaves d.panel a r)
    (answer_leaves d'.panel a' r') costs in
    let same_left = left-same (failures_after p.failed p.after.cage.cards) (failures_after p'.failed p'.after.cage.cards) (answer_leaves d.panel a r)
    (answer_leaves d'.panel a' r') costs in
    let one = asked-same once d d' a a' r r' q q' desks asks m.0 n.0 m.2 n.2 p p' same_failures same_left in
    (cc (asks, one.0), one.1, tail-same cost cost' os os' outcomes, on one.0)
passed-same once d d' q q' (Asked a r) (Asked a' r') (c ∷ cs) cs' os os' follows desks m n p p' outcomes (asks, on) =
    let some : c ∷ cs ≡ [] = m.1 in absurd (cc some)
passed-same once d d' q q' (Asked a r) (Asked a' r') [] (c' ∷ cs') os os' follows desks m n p p' outcomes (asks, on) =
    let some : c' ∷ cs' ≡ [] = n.1 in absurd (cc some)
passed-same once d d' q q' (Waited l w) (Waited l' w') cs cs' os os' follows desks m n p p' outcomes (limits, on) =
    let one = waited-same once d d' q q' l l' w w' cs cs' os os' desks limits m n outcomes p p' in
    (cc (limits, one.0), one.1, one.2, on one.0)
passed-same once d d' q q' (Polled sid v) (Polled sid' v') cs cs' os os' follows desks m n p p' outcomes (sids, on) =
    let one = polled-same d d' q q' sid sid' v v' cs cs' os os' desks sids outcomes p p' in
    (cc (sids, one.0), one.1, one.2, on one.0)
passed-same once d d' q q' (Noted sid b) (Noted sid' b') cs cs' os os' follows desks m n p p' outcomes (sids, notes, on) =
    let one = noted-same d d' q q' sid sid' b b' cs cs' os os' desks sids notes outcomes p p' in
    (cc (sids, notes), one.0, one.1, on)
passed-same once d d' q q' e e' cs cs' os os' follows desks m n p p' outcomes same = absurd same

same-run : StepIsDetermined → {T : Type 0} (d d' q q' : DeskSeen) (b b' : T) (t t' : List Entry) (l : Leads CorePasses d t q) (l' : Leads CorePasses d' t' q')
    → IsSameDesk d d' → AllSmooth t (carried_of d t q l) → AllSmooth t' (carried_of d' t' q' l')
    → outcomes_of d t q l ≡ outcomes_of d' t' q' l' → SameTalk b b' t t' → (t ≡ t') × (b ≡ b') × IsSameDesk q q'
same-run once d d' q q' b b' [] [] l l' desks m n outcomes s = (refl, s, ap but_room l ∙ desks ∙ sym (ap but_room l'))
same-run once d d' q q' b b' [] (e ∷ t') l l' desks m n outcomes s = absurd s
same-run once d d' q q' b b' (e ∷ t) [] l l' desks m n outcomes s = absurd s
same-run once d d' q q' b b' (e ∷ t) (e' ∷ t') (mid, (cs, p), l) (mid', (cs', p'), l') desks m n outcomes s =
    let one = passed-same once d d' mid mid' e e' cs cs' (outcomes_of mid t q l) (outcomes_of mid' t' q' l') (SameTalk b b' t t')
    desks m.0 n.0 p p' outcomes s in
    let rest = same-run once mid mid' q q' b b' t t' l l' one.1 m.1 n.1 one.2 one.3 in
    (cc (one.0, rest.0), rest.1, rest.2)

pub core-talk-determined : StepIsDetermined → TalkIsDetermined → CoreTalkIsDetermined
core-talk-determined once talk sid old old' new new' message bytes bytes' t t' desks macros ample ample' smooth smooth' outcomes =
    let talks = subst (λ (m : Table). TalksMessage sid m (strip_last 10 message) t'.trace bytes' t'.lasts new'.macros) (sym macros) t'.talks in
    let one = same-run once old.desk old'.desk new.desk new'.desk (left bytes new.macros) (left bytes' new'.macros) t.trace t'.trace t.leads t'.leads
    desks smooth smooth' outcomes
    (talk sid old.macros (strip_last 10 message) t.trace t'.trace bytes bytes' t.lasts t'.lasts new.macros new'.macros t.talks talks ample ample') in
    (one.0, ap (λ (x : Left). x.bytes) one.1, ap (λ (x : Left). x.macros) one.1, one.2)

-- two rests wait alike until one is over
rests-alike : (n m : ℕ) → SameTalk {T = ℕ} 0 0 (replicate n (Waited None (Again None)) ++ Waited None Over ∷ []) (replicate m (Waited None (Again None))
    ++ Waited None Over ∷ [])
rests-alike zero zero = (refl, λ e. refl)
rests-alike zero (suc m) = (refl, λ e. absurd (cc (e)))
rests-alike (suc n) zero = (refl, λ e. absurd (cc (e)))
rests-alike (suc n) (suc m) = (refl, λ e. rests-alike n m)

pub core-rest-determined : StepIsDetermined → CoreRestIsDetermined
core-rest-determined once d d' e e' r r' desks smooth smooth' outcomes =
    (same-run once d d' e e' 0 0 (waits_of r) (waits_of r') r.leads r'.leads desks smooth smooth' outcomes (rests-alike r.waits r'.waits)).2
