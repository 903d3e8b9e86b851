-- What READ? tells are the readings of the scan that it began.
use Rattle.std.proofs.Common.{◌≡◌, ℕ, ◌+◌, ◌<◌, ◌==◌, ◌&&◌, not, Bool, true, false, List, [], ◌∷◌, ◌++◌, length, map, None, Some}
use Rattle.std.proofs.Common.{refl, ap, sym, subst, ◌∙◌, arith, if◌then◌else◌, is_some}
use Rattle.std.proofs.lemmas.Bool.Decides.{nat_tests}
use Rattle.std.specs.Prelude.{MatchBool}
use Rattle.std.specs.List.{join_with_byte}
use Rattle.sw_base.specs.Reading.{reading_text}
use Rattle.sw_base.specs.declared.reading.Reading.{Reading}
use Rattle.sw_lex.specs.declared.command.Command.TheVariants as command
use Rattle.sw_verify.specs.Setup.{readings_of}
use Rattle.sw_verify.specs.declared.snapshot.Snapshot.{Snapshot}
use Rattle.sw_cage.specs.Cage.{CageSeen}
use Rattle.sw_core.specs.declared.ask.Sid.{Sid}
use Rattle.sw_core.specs.declared.ask.SessionAsk.{SessionAsk}
use Rattle.sw_core.specs.declared.ask.SessionAsk.TheVariants as Ask
use Rattle.sw_core.specs.declared.ask.SessionAnswer.TheVariants as answers
use Rattle.sw_core.specs.declared.ask.SessionAnswer.TheVariants.{Done}
use Rattle.sw_core.specs.Panel.{Panel, opening_at, is_running}
use Rattle.sw_core.specs.Action.{TellsReadings, readings_of_scan}
use Rattle.sw_core.specs.Event.{last_number, next_number}
use Rattle.sw_core.specs.Seen.{AskSeen, AskSession, AnswerSeen, SaysSession, failed_in}
use Rattle.sw_core.specs.Step.{StepHeld, StepEffect, StepReadings, StepAdmitted, acts_unnumbered, IsEvent, IsUnnumbered, Step}
use Rattle.sw_core.specs.Step.{Admission, Dropped, ShutOut, Admitted, admission}
use Rattle.sw_core.specs.Run.{Event, IsNextEvent, IsRun}
use Rattle.sw_core.specs.Ends.{last_of}
use Rattle.sw_core.specs.Reads.{Offers, TellsReadingsOf, ReadTellsItsScan}
use Rattle.sw_core.proofs.MovingLemmas.{concluded_scan}
use Rattle.sw_core.proofs.ScanNumberLemmas.{number_begun, number_grows, number_stays}

-- ---- the snapshot

-- the last scan has this number, and there is one above
record Offered (p : Panel) (number : ℕ) : Type 0 where
  pub is : number ≡ p.cage.number
  pub below : p.cage.number < last_number

offered_admitted : (now : Admission) (p : Panel) (sid : Sid) (f : Bool) (s : Snapshot) (number : ℕ) (q : Panel)
    → StepAdmitted now p (Ask.Snapshot sid) f (answers.Snapshot s number) None q → Offered p number
offered_admitted Dropped p sid f s number q h = absurd h
offered_admitted ShutOut p sid f s number q h = absurd h
offered_admitted Admitted p sid f s number q h = record { is = h.4; below = h.1.numbered }

offered_either : (b : Bool) (p : Panel) (sid : Sid) (f : Bool) (s : Snapshot) (number : ℕ) (q : Panel)
    → MatchBool b (IsUnnumbered p (AskSession (Ask.Snapshot sid)) f (SaysSession (answers.Snapshot s number) None) q)
    (IsEvent p (AskSession (Ask.Snapshot sid)) f (SaysSession (answers.Snapshot s number) None) q) → Offered p number
offered_either true p sid f s number q h = absurd h.worn
offered_either false p sid f s number q h = offered_admitted (admission p sid (Ask.Snapshot sid)) p sid f s number h.done h.acts.1

offered : (p : Panel) (e : Event) (number : ℕ) → Offers number e → IsNextEvent p e → Offered p number
offered p e number o r =
    let ask = AskSession (Ask.Snapshot o.sid) in
    let f = failed_in e.ask e.answer p.cage.cards e.panel.cage.cards in
    offered_either ((p.events == last_number) && not (acts_unnumbered ask)) p o.sid f o.snapshot number e.panel
    (subst (λ (y : AnswerSeen). Step p ask f y e.panel) o.answer (subst (λ (x : AskSeen). Step p x f e.answer e.panel) o.ask r.step))

-- ---- the readings

-- no scan runs, and the text is of the readings that are held, which are those of this scan
record Told (p : Panel) (number count : ℕ) (text : List ℕ) : Type 0 where
  pub idle : is_running p ≡ false
  pub of_it : p.cage.number ≡ number
  pub all : length p.cage.readings ≡ count
  pub of_all : text ≡ join_with_byte 44 (map reading_text p.cage.readings)

told_of : (b : Bool) (l : List Reading) (p : Panel) (f : Bool) (text : List ℕ) (q : Panel) → StepReadings (if b then l else []) p f (Done (Some text)) q
    → (b ≡ true) × (text ≡ join_with_byte 44 (map reading_text l)) × (q.cage ≡ p.cage)
told_of true [] p f text q h = absurd h
told_of true (r ∷ rs) p f text q h = (refl, h.1, ap (λ (x : Panel). x.cage) h.2)
told_of false l p f text q h = absurd h

told_readings : (p : Panel) (number count : ℕ) (f : Bool) (text : List ℕ) (q : Panel) → is_running p ≡ false
    → StepReadings (readings_of_scan number count p) p f (Done (Some text)) q → Told p number count text × (q.cage ≡ p.cage)
told_readings p number count f text q idle h =
    let t = told_of (p.cage.number == number && length p.cage.readings == count) p.cage.readings p f text q h in
    let both = t.0 in
    (record { idle = idle; of_it = grind (arith, nat_tests, both); all = grind (arith, nat_tests, both); of_all = t.1 }, t.2)

told_waiting : (b : Bool) (p : Panel) (ask : SessionAsk) (number count : ℕ) (f : Bool) (text : List ℕ) (q : Panel) → is_running p ≡ b
    → MatchBool b (StepHeld p ask f (Done (Some text)) None q) (StepEffect (TellsReadings (readings_of_scan number count)) p f (Done (Some text)) None q)
    → Told p number count text × (q.cage ≡ p.cage)
told_waiting true p ask number count f text q is h = absurd h
told_waiting false p ask number count f text q is h = told_readings p number count f text q is h.0

told_admitted : (now : Admission) (p : Panel) (sid : Sid) (number count : ℕ) (available f : Bool) (text : List ℕ) (q : Panel)
    → StepAdmitted now p (Ask.Unit sid (command.ScanReadings number count) available) f (Done (Some text)) None q
    → Told p number count text × (q.cage ≡ p.cage)
told_admitted Dropped p sid number count available f text q h = absurd h
told_admitted ShutOut p sid number count available f text q h = absurd h
told_admitted Admitted p sid number count available f text q h =
    told_waiting (is_running p) p (Ask.Unit sid (command.ScanReadings number count) available) number count f text q refl h

told_either : (b : Bool) (p : Panel) (sid : Sid) (number count : ℕ) (available f : Bool) (text : List ℕ) (q : Panel)
    → MatchBool b (IsUnnumbered p (AskSession (Ask.Unit sid (command.ScanReadings number count) available)) f (SaysSession (Done (Some text)) None) q)
    (IsEvent p (AskSession (Ask.Unit sid (command.ScanReadings number count) available)) f (SaysSession (Done (Some text)) None) q)
    → Told p number count text × (q.cage ≡ p.cage)
told_either true p sid number count available f text q h = absurd h.worn
told_either false p sid number count available f text q h =
    let ask = Ask.Unit sid (command.ScanReadings number count) available in
    let t = told_admitted (admission p sid ask) p sid number count available f text h.done h.acts.1 in
    (t.0, ap (λ (x : Panel). x.cage) h.after ∙ concluded_scan (SaysSession (Done (Some text)) None) h.done ∙ t.1)

told : (p : Panel) (e : Event) (number count : ℕ) (text : List ℕ) → TellsReadingsOf number count text e → IsNextEvent p e
    → Told p number count text × (e.panel.cage ≡ p.cage)
told p e number count text t r =
    let ask = AskSession (Ask.Unit t.sid (command.ScanReadings number count) t.available) in
    let f = failed_in e.ask e.answer p.cage.cards e.panel.cage.cards in
    told_either ((p.events == last_number) && not (acts_unnumbered ask)) p t.sid number count t.available f text e.panel
    (subst (λ (y : AnswerSeen). Step p ask f y e.panel) t.answer (subst (λ (x : AskSeen). Step p x f e.answer e.panel) t.ask r.step))

-- ---- the run

-- a run up to an event, that event, and the run behind it
record Parts (p : Panel) (before : List Event) (e : Event) (rest : List Event) : Type 0 where
  pub first : IsRun p before
  pub next : IsNextEvent (last_of p before) e
  pub behind : IsRun e.panel rest

parts : (p : Panel) (before : List Event) (e : Event) (rest : List Event) → IsRun p (before ++ e ∷ rest) → Parts p before e rest
parts p [] e rest r = record { first = tt; next = r.0; behind = r.1 }
parts p (b ∷ before) e rest r =
    let c = parts b.panel before e rest r.1 in
    record { first = (r.0, c.first); next = c.next; behind = c.behind }

-- below the last number the next one is one more
next_below : (n : ℕ) → n < last_number → next_number n ≡ n + 1
next_below n below = grind (arith, below)

pub reads_own : ReadTellsItsScan
reads_own numbered scanned number before between after offer start e plan text run o s t =
    let a = parts (opening_at numbered scanned) before offer (between ++ start ∷ (after ++ e ∷ [])) run in
    let b = parts offer.panel between start (after ++ e ∷ []) a.behind in
    let c = parts start.panel after e [] b.behind in
    let asked = offered (last_of (opening_at numbered scanned) before) offer number o a.next in
    let grown = number_grows (last_of (opening_at numbered scanned) before) (offer ∷ []) (a.next, tt) in
    let up = number_grows offer.panel between b.first in
    let one = number_begun (last_of offer.panel between) start s.done b.next in
    let on = number_grows start.panel after c.first in
    let h = told (last_of start.panel after) e (next_number number) (readings_of plan.settings) text t c.next in
    let it : (last_of start.panel after).cage.number ≡ number + 1 =
    h.0.of_it ∙ next_below number (omega (arith, asked.is, asked.below)) in
    record {
      first = number_stays offer.panel between b.first (omega (arith, asked.is, grown, one, on, it));
      last = number_stays start.panel after c.first (omega (arith, asked.is, grown, up, one, it));
      over = ap (λ (c : CageSeen). is_some c.scan) h.1 ∙ h.0.idle;
      all = ap (λ (c : CageSeen). length c.readings) h.1 ∙ h.0.all;
      told = h.0.of_all ∙ ap (λ (c : CageSeen). join_with_byte 44 (map reading_text c.readings)) (sym h.1);
    }
