-- A run leaves no choice: line by line, from a mainframe that was set up in one way.
use Rattle.std.proofs.Common.{◌≡◌, ℕ, Bool, true, false, MatchBool, ◌==◌, ◌&&◌, not, List, [], ◌∷◌, ◌++◌, None, refl, sym, ap, subst, ◌∙◌}
use Rattle.std.proofs.lemmas.List.{append-nil}
use Rattle.sw_core.specs.declared.ask.Sid.{Sid}
use Rattle.sw_core.specs.declared.ask.SessionAsk.TheVariants as Ask
use Rattle.sw_core.specs.declared.ask.SessionAnswer.TheVariants.{Joined}
use Rattle.sw_core.specs.Panel.{Panel, opening}
use Rattle.sw_core.specs.Seen.{AskSession, AskInstall, SaysSession, SaysInstalled}
use Rattle.sw_core.specs.Event.{last_number}
use Rattle.sw_core.specs.Step.{acts_unnumbered, IsEvent, IsUnnumbered, Step}
use Rattle.sw_cage.specs.Accounts.{Accounts}
use Rattle.sw_core.specs.Run.{failures_after, StepIsDetermined}
use Rattle.sw_talk.specs.Law.{outcomes_in_talk, outcomes_at_rest}
use Rattle.sw_talk.specs.Talk.{state}
use Rattle.sw_talk.specs.Law.{IsSameDesk, CoreTalkIsDetermined, CoreRestIsDetermined}
use Rattle.sw_card.specs.Account.{Account}
use Rattle.mainframe.specs.Lines.{lines_of}
use Rattle.sw_serve.specs.SlotCards.{PlacedCard, Takes, TakesCards, Joins, IsSetUp}
use Rattle.mainframe.specs.Run.{RunState, begins_over, Line, Run, RunsTo}
use Rattle.mainframe.specs.Law.{IsPlainLine, IsPlainRun, outcomes_in_run}

-- no card fails as one is taken in
take_whole : (b : Bool) (p : Panel) (slot : ℕ) (card : Account) (f : Bool) (q : Panel)
    → MatchBool b (IsUnnumbered p (AskInstall slot card) f SaysInstalled q) (IsEvent p (AskInstall slot card) f SaysInstalled q) → f ≡ false
take_whole true p slot card f q s = s.unfailed
take_whole false p slot card f q s = s.acts.0

take_unfailed : (p : Panel) (slot : ℕ) (card : Account) (f : Bool) (q : Panel) → Step p (AskInstall slot card) f SaysInstalled q → f ≡ false
take_unfailed p slot card f q s = take_whole ((p.events == last_number) && not (acts_unnumbered (AskInstall slot card))) p slot card f q s

-- nor in a join
join_whole : (b : Bool) (p : Panel) (sid : Sid) (f : Bool) (q : Panel)
    → MatchBool b (IsUnnumbered p (AskSession Ask.Join) f (SaysSession (Joined sid) None) q)
    (IsEvent p (AskSession Ask.Join) f (SaysSession (Joined sid) None) q)
    → f ≡ false
join_whole true p sid f q s = s.unfailed
join_whole false p sid f q s = s.acts.0

pub join_unfailed : (p : Panel) (sid : Sid) (f : Bool) (q : Panel) → Step p (AskSession Ask.Join) f (SaysSession (Joined sid) None) q → f ≡ false
join_unfailed p sid f q s = join_whole ((p.events == last_number) && not (acts_unnumbered (AskSession Ask.Join))) p sid f q s

-- where none fails, nothing comes of the cards
no_failures : (f f' : Bool) (r r' : Accounts) → f ≡ false → f' ≡ false → failures_after f r ≡ failures_after f' r'
no_failures f f' r r' e e' = ap (λ (x : Bool). failures_after x r) e ∙ sym (ap (λ (x : Bool). failures_after x r') e')

take_once : StepIsDetermined → (p q q' : Panel) (o : PlacedCard) → Takes p o q → Takes p o q' → q ≡ q'
take_once law p q q' o s t =
    let same_failures = no_failures s.failed t.failed q.cage.cards q'.cage.cards (take_unfailed p o.slot o.card s.failed q s.step)
    (take_unfailed p o.slot o.card t.failed q' t.step) in
    (law p q q' (AskInstall o.slot o.card) s.failed t.failed SaysInstalled SaysInstalled s.step t.step same_failures refl tt tt tt tt).1

offers_once : StepIsDetermined → (cards : List PlacedCard) (p p' q q' : Panel) → p ≡ p' → TakesCards p cards q → TakesCards p' cards q' → q ≡ q'
offers_once law [] p p' q q' e is is' = is ∙ e ∙ sym is'
offers_once law (o ∷ cards) p p' q q' e (a, s, more) (a', s', more') =
    let one : a ≡ a' = take_once law p' a a' o (subst (λ (x : Panel). Takes x o a) e s) s' in
    offers_once law cards a a' q q' one more more'

joined_once : StepIsDetermined → (sid sid' : Sid) (q q' : Panel) → Joins sid q → Joins sid' q' → (sid ≡ sid') × (q ≡ q')
joined_once law sid sid' q q' j k =
    let same_failures = no_failures j.failed k.failed q.cage.cards q'.cage.cards (join_unfailed opening sid j.failed q j.step)
    (join_unfailed opening sid' k.failed q' k.step) in
    let r = law opening q q' (AskSession Ask.Join) j.failed k.failed (SaysSession (Joined sid) None) (SaysSession (Joined sid') None) j.step k.step
    same_failures refl tt
    tt tt tt in
    let e : SaysSession (Joined sid) None ≡ SaysSession (Joined sid') None = r.0 in
    (let s : sid ≡ sid' = cc in s, r.1)

pub set_up_once : StepIsDetermined → (cards : List PlacedCard) (sid sid' : Sid) (p p' : Panel) → IsSetUp cards sid p → IsSetUp cards sid' p' → (sid ≡ sid') ×
    (p ≡ p')
set_up_once law cards sid sid' p p' s t =
    let j = joined_once law sid sid' s.begun t.begun s.joined t.joined in
    (j.0, offers_once law cards s.begun t.begun p p' j.1 s.fitted t.fitted)

-- two runs stand alike, whatever the room of their desks
record AreAlike (s s' : RunState) : Type 0 where
  desks : IsSameDesk s.desk s'.desk
  macros : s.macros ≡ s'.macros

-- one line
line_same : CoreTalkIsDetermined → CoreRestIsDetermined
    → (sid : Sid) (s s' e e' : RunState) (line told told' : List ℕ) (l : Line sid s line told e) (l' : Line sid s' line told' e') → AreAlike s s'
    → IsPlainLine l → IsPlainLine l'
    → outcomes_in_talk l.talked ≡ outcomes_in_talk l'.talked → outcomes_at_rest l.rests ≡ outcomes_at_rest l'.rests
    → (told ≡ told') × AreAlike e e'
line_same talk rest sid s s' e e' line told told' l l' alike a a' in_talk at_rest =
    let t = talk sid s s' (state l.spoken e.macros) (state l'.spoken e'.macros) line told told' l.talked l'.talked alike.desks alike.macros
    a.ample a'.ample a.talk a'.talk in_talk in
    let after = rest l.spoken l'.spoken e.desk e'.desk l.rests l'.rests t.3 a.rest a'.rest at_rest in
    (t.1, record { desks = after; macros = t.2 })

-- what was measured for the first line, and for the others
first_of : {T : Type 0} (a b a' b' : T) (c c' : List T) → a ∷ b ∷ c ≡ a' ∷ b' ∷ c' → a ≡ a'
first_of a b a' b' c c' same = cc (same)

second_of : {T : Type 0} (a b a' b' : T) (c c' : List T) → a ∷ b ∷ c ≡ a' ∷ b' ∷ c' → b ≡ b'
second_of a b a' b' c c' same = cc (same)

others_of : {T : Type 0} (a b a' b' : T) (c c' : List T) → a ∷ b ∷ c ≡ a' ∷ b' ∷ c' → c ≡ c'
others_of a b a' b' c c' same = cc (same)

run_same : CoreTalkIsDetermined → CoreRestIsDetermined
    → (sid : Sid) (d d' : RunState) (lines : List (List ℕ)) (bytes bytes' : List ℕ) (e e' : RunState) (r : Run sid d lines bytes e)
    (r' : Run sid d' lines bytes' e') → AreAlike d d'
    → IsPlainRun sid d lines bytes e r → IsPlainRun sid d' lines bytes' e' r'
    → outcomes_in_run sid d lines bytes e r ≡ outcomes_in_run sid d' lines bytes' e' r' → bytes ≡ bytes'
run_same talk rest sid d d' [] bytes bytes' e e' r r' alike a a' same = r.0 ∙ sym r'.0
run_same talk rest sid d d' (l ∷ ls) bytes bytes' e e' r r' alike a a' same =
    let in_talk : outcomes_in_talk r.3.talked ≡ outcomes_in_talk r'.3.talked = first_of _ _ _ _ _ _ same in
    let at_rest : outcomes_at_rest r.3.rests ≡ outcomes_at_rest r'.3.rests = second_of _ _ _ _ _ _ same in
    let left : outcomes_in_run sid r.1 ls r.2 e r.4 ≡ outcomes_in_run sid r'.1 ls r'.2 e' r'.4 = others_of _ _ _ _ _ _ same in
    let t = line_same talk rest sid d d' r.1 r'.1 l r.0 r'.0 r.3 r'.3 alike a.0 a'.0 in_talk at_rest in
    let more : r.2 ≡ r'.2 = run_same talk rest sid r.1 r'.1 ls r.2 r'.2 e e' r.4 r'.4 t.1 a.1 a'.1 left in
    r.5 ∙ ap (λ (b : List ℕ). b ++ r.2) t.0 ∙ ap (λ (m : List ℕ). r'.0 ++ m) more ∙ sym r'.5

all_lines : (input : List ℕ) (done : List (List ℕ)) → lines_of input ≡ done ++ lines_of [] → done ≡ lines_of input
all_lines input done e = sym (append-nil done) ∙ sym e

pub run_once : StepIsDetermined → CoreTalkIsDetermined → CoreRestIsDetermined
    → (cards : List PlacedCard) (sid sid' : Sid) (start start' : Panel) (input bytes bytes' : List ℕ) → IsSetUp cards sid start → IsSetUp cards sid' start'
    → (r : RunsTo sid (begins_over start) input [] bytes) (r' : RunsTo sid' (begins_over start') input [] bytes')
    → IsPlainRun sid (begins_over start) r.done bytes r.after r.run → IsPlainRun sid' (begins_over start') r'.done bytes' r'.after r'.run
    → outcomes_in_run sid (begins_over start) r.done bytes r.after r.run ≡ outcomes_in_run sid' (begins_over start') r'.done bytes' r'.after r'.run
    → bytes ≡ bytes'
run_once step talk rest cards sid sid' start start' input bytes bytes' s s' r r' a a' same =
    let u = set_up_once step cards sid sid' start start' s s' in
    let lines : r.done ≡ r'.done = all_lines input r.done r.lines ∙ sym (all_lines input r'.done r'.lines) in
    let Same : Sid → Panel → List (List ℕ) → Type 0 = λ i p ls. (x : Run i (begins_over p) ls bytes r.after) → IsPlainRun i (begins_over p) ls bytes r.after x
    → outcomes_in_run i (begins_over p) ls bytes r.after x ≡ outcomes_in_run sid' (begins_over start') r'.done bytes' r'.after r'.run → bytes ≡ bytes' in
    let last : Same sid' start' r'.done = λ x y z. run_same talk rest sid' (begins_over start') (begins_over start') r'.done bytes bytes' r.after r'.after x
    r'.run (record { desks = refl; macros = refl }) y a' z in
    let by_lines : Same sid' start' r.done = subst (λ (ls : List (List ℕ)). Same sid' start' ls) (sym lines) last in
    let by_start : Same sid' start r.done = subst (λ (p : Panel). Same sid' p r.done) (sym u.1) by_lines in
    let by_sid : Same sid start r.done = subst (λ (i : Sid). Same i start r.done) (sym u.0) by_start in
    by_sid r.run a same
