-- A step in which a card failed leaves no choice but the cards' counts of failures.
use Rattle.std.proofs.Common.{◌≡◌, ℕ, ◌+◌, Bool, true, false, List, [], ◌∷◌, Option, None, Some, Result, Ok, Err, refl, sym, ◌∙◌, ap, map, ◌==◌, ◌&&◌, not}
use Rattle.std.specs.Prelude.{MatchBool}
use Rattle.std.specs.List.{join_with_byte}
use Rattle.sw_base.specs.Layout.{Channel}
use Rattle.sw_base.specs.Reading.{reading_text}
use Rattle.sw_base.specs.declared.reading.Reading.{Reading}
use Rattle.sw_base.specs.declared.error.ScpiError.{ScpiError}
use Rattle.sw_base.specs.declared.error.ScpiError.TheVariants.{UndefinedHeader, DataCorruptOrStale, HardwareMissing, SettingsConflict, HardwareError}
use Rattle.sw_base.specs.declared.error.ScpiError.TheVariants.{OutOfMemory, TriggerIgnored}
use Rattle.sw_card.specs.Account.{Account, none_closed}
use Rattle.sw_card.specs.declared.board.CardFault.{CardFault}
use Rattle.sw_status.specs.StatusModel.{StatusSeen}
use Rattle.sw_verify.specs.declared.setup.Setup.{Setup}
use Rattle.sw_verify.specs.Course.{CourseSeen}
use Rattle.sw_verify.specs.Setup.{course_of}
use Rattle.sw_verify.specs.declared.snapshot.Snapshot.{Snapshot}
use Rattle.sw_cage.specs.Accounts.{Accounts, is_closed, all_open, option_rest}
use Rattle.sw_cage.specs.Change.{identity}
use Rattle.sw_cage.specs.Cage.{ScanSeen, CageSeen}
use Rattle.sw_cage.specs.declared.job.Ticket.{Ticket}
use Rattle.sw_cage.specs.Outcome.{Occupancy, occupancy_of, Advances, AdvancesPastFrom, Counts, begun, with_back, with_reading}
use Rattle.sw_cage.specs.Work.{FinishedSeen}
use Rattle.sw_cage.specs.TakenSeen.{TakenSeen, SaysIgnored, SaysWaits, SaysPause, SaysJob, SaysEnded, SaysFault}
use Rattle.sw_cage.specs.declared.taken.Happening.{Happening}
use Rattle.sw_cage.specs.declared.taken.Happening.TheVariants.{Bus, External, Elapsed}
use Rattle.sw_cage.proofs.AdvanceLemmas.{same_cage}
use Rattle.sw_cage.proofs.SlotChangeLemmas.{all_open_closed}
use Rattle.sw_cage.proofs.ChannelCallLemmas.{identities_all_open}
use Rattle.sw_core.specs.declared.ask.Sid.{Sid}
use Rattle.sw_core.specs.declared.ask.SessionAsk.{SessionAsk}
use Rattle.sw_core.specs.declared.ask.SessionAsk.TheVariants as Ask
use Rattle.sw_core.specs.declared.ask.SessionAnswer.{SessionAnswer}
use Rattle.sw_core.specs.declared.ask.SessionAnswer.TheVariants as Answer
use Rattle.sw_core.specs.declared.ask.SessionAnswer.TheVariants.{Joined, Full, Stranger, Broken, Done, Refused, Hold}
use Rattle.sw_core.specs.Panel.{Panel, with_cards, is_running}
use Rattle.sw_core.specs.Registers.{card_fault_reported}
use Rattle.sw_core.specs.Action.{Effect, TellsText, TellsReadings, ReadsOut, SetsStatus, SetsUp, ClosesListed, OpensListed, TellsHardware, TellsSurety, TellsListing}
use Rattle.sw_core.specs.Action.{Changes}
use Rattle.sw_core.specs.Action.{Resets, reset, Triggers, RefusesWith, IsOfMacros, Initiates, Action, AtOnce, BetweenScans, AfterScan, action_of}
use Rattle.sw_core.specs.Seats.{asker_of}
use Rattle.sw_core.specs.Event.{concluded, ended, erred, last_number}
use Rattle.sw_core.specs.Seen.{WorkSeen, AskSeen, AskSession, AskInstall, AskEject, AskExternal, AskElapsed, AskFinished, AnswerSeen, SaysSession}
use Rattle.sw_core.specs.Seen.{SaysInstalled, SaysNotInstalled, SaysEjected, SaysNotEjected, SaysFailed, SaysBack}
use Rattle.sw_core.specs.Step.{FailsSafe, StepClose, StepOpen, StepHardware, StepSurety, StepListing, StepText, StepDone, StepSetting, StepRefused, StepReadings, StepAlone}
use Rattle.sw_core.specs.Step.{Happens, StepHappens, StepEffect, StepHeld, StepAction, StepSnapshot, IsStarted, Starts, StepStart, StepJoined}
use Rattle.sw_core.specs.Step.{session_told, work_of, started_answer, outside_told, acts_unnumbered, IsEvent, IsUnnumbered, Step}
use Rattle.sw_core.specs.Step.{StepAdmitted, StepNew, StepJoin, StepAttach, StepSession, StepOutside, Returns, IsReturned, StepFinished, Acts}
use Rattle.sw_core.specs.Step.{Admission, Dropped, ShutOut, Admitted, admission}
use Rattle.sw_core.specs.Run.{failures_in}
use Rattle.sw_core.proofs.SameLemmas.{same_rack}

true_is_false : {A : Type 0} → true ≡ false → A
true_is_false e = absurd (cc e)

-- ---- the cards

abbrev uncounted : Account → Account
uncounted a = record a { failures = 0; closed = none_closed a.closed }

some_same : (a b : Account) → ◌≡◌ {A = Option Account} (Some a) (Some b) → a ≡ b
some_same a b e = cc (e)

-- the same cards, counted alike, are the same but for their relays
same_option : (o n : Option Account) → identity o ≡ identity n → failures_in o ≡ failures_in n → option_rest o ≡ option_rest n
same_option None None e f = refl
same_option None (Some b) e f = absurd (cc (e))
same_option (Some a) None e f = absurd (cc (e))
same_option (Some a) (Some b) e f =
    let plain : uncounted a ≡ uncounted b = some_same (uncounted a) (uncounted b) e in
    let counts : a.failures ≡ b.failures = cc in
    ap (λ (x : Account). let r : Account = record x { failures = a.failures } in Some r) plain
    ∙ ap (λ (n : ℕ). let r : Account = record (uncounted b) { failures = n } in Some r) counts

same_rest : (r s : Accounts) → map identity r ≡ map identity s → map failures_in r ≡ map failures_in s → all_open r ≡ all_open s
same_rest [] [] e f = refl
same_rest [] (n ∷ s) e f = absurd (cc (e))
same_rest (o ∷ r) [] e f = absurd (cc (e))
same_rest (o ∷ r) (n ∷ s) e f =
    let i : identity o ≡ identity n = cc in
    let c : failures_in o ≡ failures_in n = cc in
    let is : map identity r ≡ map identity s = cc in
    let cs : map failures_in r ≡ map failures_in s = cc in
    let first = same_option o n i c in
    let rest = same_rest r s is cs in
    cc

-- the same cards but for their counts of failures, and every relay open
pub record IsOpened (old new : Accounts) : Type 0 where
  pub cards : map identity new ≡ map identity old
  pub none : (c : Channel) → is_closed new c ≡ false

fallen_rack : (old r s : Accounts) → IsOpened old r → IsOpened old s → map failures_in r ≡ map failures_in s → r ≡ s
fallen_rack old r s h k e = same_rack r s (same_rest r s (h.cards ∙ sym k.cards) e) (λ c. h.none c ∙ sym (k.none c))

-- ---- what a step in which a card failed leaves: all but the cards is known

abbrev pub Falls : Panel → Panel → Type 0
Falls base q = IsOpened base.cage.cards q.cage.cards × (q ≡ with_cards base q.cage.cards)

pub falls_once : (base q q' : Panel) → Falls base q → Falls base q' → map failures_in q.cage.cards ≡ map failures_in q'.cage.cards → q ≡ q'
falls_once base q q' h k e =
    h.1 ∙ ap (λ (r : Accounts). with_cards base r) (fallen_rack base.cage.cards q.cage.cards q'.cage.cards h.0 k.0 e) ∙ sym k.1

abbrev reported : Panel → Panel
reported p = record p { status = card_fault_reported p.status }

-- the scan is over, and it is told
abbrev cut : Panel → CageSeen → Panel
cut p cage = record p { cage = record cage { scan = None }; status = card_fault_reported p.status }

fallen_cage : (c d : CageSeen) (s : CourseSeen) (i : ℕ) → Advances c s i SaysFault d
    → IsOpened c.cards d.cards × (d ≡ record c { cards = d.cards; scan = None })
fallen_cage c d s i h =
    let bays : occupancy_of d ≡ occupancy_of (record c { cards = d.cards; scan = None }) =
    ap (λ (o : List (Option Ticket)). let r : Occupancy = record { cards = d.cards; out = o } in r) h.runs.out in (
      record { cards = h.runs.fallen.cards; none = h.runs.fallen.none },
      same_cage d (record c { cards = d.cards; scan = None }) bays h.number h.runs.over h.readings,
    )

fallen_past : (c d : CageSeen) (at : Option ScanSeen) → AdvancesPastFrom c at SaysFault d → IsOpened c.cards d.cards
    × (d ≡ record c { cards = d.cards; scan = None })
fallen_past c d None h = absurd h
fallen_past c d (Some at) h = fallen_cage c d at.course (at.index + 1) h

cut_falls : (p q : Panel) (c : CageSeen) → IsOpened c.cards q.cage.cards → q.cage ≡ record c { cards = q.cage.cards; scan = None }
    → q ≡ record p { cage = q.cage; status = card_fault_reported p.status } → Falls (cut p c) q
cut_falls p q c safe is e = (safe, e ∙ ap (λ (x : CageSeen). let r : Panel = record p { cage = x; status = card_fault_reported p.status } in r) is)

-- ---- commands

abbrev IsToldFall : Panel → SessionAnswer → Option WorkSeen → Panel → Type 0
IsToldFall base a w q = (a ≡ Refused HardwareError) × (w ≡ None) × Falls base q

-- what a happening that is offered tells
told_happens : (p : Panel) (happening : Happening) (told : TakenSeen) (q : Panel) → Happens p happening true told q
    → (told ≡ SaysFault) × Falls (cut p p.cage) q
told_happens p happening SaysIgnored q h = true_is_false h.0
told_happens p happening SaysWaits q h = true_is_false h.2.0
told_happens p happening (SaysPause t u) q h = true_is_false h.2.0
told_happens p happening (SaysJob job) q h = true_is_false h.2.0
told_happens p happening SaysEnded q h = true_is_false h.2.0
told_happens p happening SaysFault q h =
    let d = fallen_past p.cage q.cage p.cage.scan h.1 in
    (refl, cut_falls p q p.cage d.0 d.1 h.2.1)

no_text : (p : Panel) (text : List ℕ) (s : StatusSeen) (a : SessionAnswer) (q : Panel) → StepText p text s true a q → ⊥
no_text p text s (Done (Some t)) q h = true_is_false h.0
no_text p text s (Refused OutOfMemory) q h = true_is_false h.0
no_text p text s a q h = absurd h

no_done : (after : Panel) (a : SessionAnswer) (q : Panel) → StepDone after true a q → ⊥
no_done after (Done None) q h = true_is_false h.0
no_done after a q h = absurd h

no_setting : (p : Panel) (Fits : Type 0) (error : ScpiError) (setup : Setup) (a : SessionAnswer) (q : Panel) → StepSetting p Fits error setup true a q
    → ⊥
no_setting p Fits error setup (Done None) q h = true_is_false h.0
no_setting p Fits error setup (Refused e) q h = true_is_false h.0
no_setting p Fits error setup a q h = absurd h

no_refused : (p : Panel) (error : ScpiError) (a : SessionAnswer) (q : Panel) → StepRefused p error true a q → ⊥
no_refused p error (Refused e) q h = true_is_false h.0
no_refused p error a q h = absurd h

no_readings : (l : List Reading) (p : Panel) (a : SessionAnswer) (q : Panel) → StepReadings l p true a q → ⊥
no_readings [] p a q h = no_refused p DataCorruptOrStale a q h
no_readings (r ∷ rs) p a q h = no_text p (join_with_byte 44 (map reading_text (r ∷ rs))) p.status a q h

no_hardware : (p : Panel) (there : Bool) (text : List ℕ) (a : SessionAnswer) (q : Panel) → StepHardware p there text true a q → ⊥
no_hardware p there text (Done (Some t)) q h = true_is_false h.0
no_hardware p there text (Refused HardwareMissing) q h = true_is_false h.0
no_hardware p there text (Refused OutOfMemory) q h = true_is_false h.0
no_hardware p there text a q h = absurd h

no_surety : (p : Panel) (text : Bool → List ℕ) (a : SessionAnswer) (q : Panel) → StepSurety p text true a q → ⊥
no_surety p text (Done (Some t)) q h = true_is_false h.0
no_surety p text a q h = absurd h

no_listing : (p : Panel) (listing : List ℕ) (a : SessionAnswer) (q : Panel) → StepListing p listing true a q → ⊥
no_listing p listing (Done (Some t)) q h = true_is_false h.0
no_listing p listing (Refused OutOfMemory) q h = true_is_false h.0
no_listing p listing a q h = absurd h

abbrev IsAloneFall : Panel → SessionAnswer → Panel → Type 0
IsAloneFall p a q = (a ≡ Refused HardwareError) × Falls (reported p) q

safe_falls : (p q : Panel) → FailsSafe p q → Falls (reported p) q
safe_falls p q h = (record { cards = h.0.cards; none = h.0.none }, h.1)

told_close : (p : Panel) (chans : List Channel) (a : SessionAnswer) (q : Panel) → StepClose p chans true a q → IsAloneFall p a q
told_close p chans (Done None) q h = true_is_false h.0
told_close p chans (Refused HardwareMissing) q h = true_is_false h.0
told_close p chans (Refused SettingsConflict) q h = true_is_false h.0
told_close p chans (Refused HardwareError) q h = (refl, safe_falls p q h.2)
told_close p chans a q h = absurd h

told_open : (p : Panel) (chans : List Channel) (a : SessionAnswer) (q : Panel) → StepOpen p chans true a q → IsAloneFall p a q
told_open p chans (Done None) q h = true_is_false h.0
told_open p chans (Refused HardwareMissing) q h = true_is_false h.0
told_open p chans (Refused HardwareError) q h = (refl, safe_falls p q h.2)
told_open p chans a q h = absurd h

told_alone : (d : Effect) (p : Panel) (a : SessionAnswer) (q : Panel) → StepAlone d p true a q → IsAloneFall p a q
told_alone (TellsText text) p a q h = absurd (no_text p (text p) p.status a q h)
told_alone (TellsReadings readings) p a q h = absurd (no_readings (readings p) p a q h)
told_alone (ReadsOut text after) p a q h = absurd (no_text p (text p.status) (after p.status) a q h)
told_alone (SetsStatus after) p a q h = absurd (no_done (record p { status = after p.status }) a q h)
told_alone (SetsUp Fits error after) p a q h = absurd (no_setting p (Fits p.settings) error (after p.settings) a q h)
told_alone (ClosesListed chans) p a q h = told_close p chans a q h
told_alone (OpensListed chans) p a q h = told_open p chans a q h
told_alone (TellsHardware there text) p a q h = absurd (no_hardware p (there p) (text p) a q h)
told_alone (TellsSurety text) p a q h = absurd (no_surety p (text p) a q h)
told_alone (TellsListing listing) p a q h = absurd (no_listing p listing a q h)
told_alone (Changes after) p a q h = absurd (no_done (after p) a q h)
told_alone Resets p a q h = absurd (no_done (reset p) a q h)
told_alone (RefusesWith error) p a q h = absurd (no_refused p error a q h)
told_alone IsOfMacros p a q h = absurd (no_refused p UndefinedHeader a q h)
told_alone Initiates p a q h = absurd (no_refused p UndefinedHeader a q h)
told_alone (Triggers happening error) p a q h = absurd h

abbrev fallen_effect : Effect → Panel → Panel
fallen_effect (Triggers happening error) p = cut p p.cage
fallen_effect d p = reported p

told_happening : (p : Panel) (happening : Happening) (error : ScpiError) (a : SessionAnswer) (w : Option WorkSeen) (q : Panel)
    → StepHappens p happening error true a w q → IsToldFall (cut p p.cage) a w q
told_happening p happening error a w q h =
    let t = told_happens p happening h.told q h.happens in
    (h.answer_is ∙ ap (λ (x : TakenSeen). session_told error x) t.0, h.work_is ∙ ap (λ (x : TakenSeen). work_of x) t.0, t.1)

told_effect : (d : Effect) (p : Panel) (a : SessionAnswer) (w : Option WorkSeen) (q : Panel) → StepEffect d p true a w q → IsToldFall (fallen_effect d p) a w q
told_effect (Triggers happening error) p a w q h = told_happening p happening error a w q h
told_effect d p a w q h = let r = told_alone d p a q h.0 in (r.0, h.1, r.1)

no_held : (p : Panel) (ask : SessionAsk) (a : SessionAnswer) (w : Option WorkSeen) (q : Panel) → StepHeld p ask true a w q → ⊥
no_held p ask (Hold back) None q h = true_is_false h.0
no_held p ask a w q h = absurd h

abbrev fallen_action : Action → Panel → Panel
fallen_action (AtOnce d) p = fallen_effect d p
fallen_action (BetweenScans d) p = fallen_effect d p
fallen_action (AfterScan d) p = fallen_effect d p

either_fell : (b : Bool) (A B C : Type 0) → (A → ⊥) → (B → C) → MatchBool b A B → C
either_fell true A B C never on h = absurd (never h)
either_fell false A B C never on h = on h

told_action : (x : Action) (p : Panel) (ask : SessionAsk) (a : SessionAnswer) (w : Option WorkSeen) (q : Panel) → StepAction x p ask true a w q
    → IsToldFall (fallen_action x p) a w q
told_action (AtOnce d) p ask a w q h = told_effect d p a w q h
told_action (BetweenScans d) p ask a w q h =
    either_fell (is_running p) (StepRefused p SettingsConflict true a q × (w ≡ None)) (StepEffect d p true a w q) (IsToldFall (fallen_effect d p) a w q)
    (λ x. no_refused p SettingsConflict a q x.0) (λ x. told_effect d p a w q x) h
told_action (AfterScan d) p ask a w q h =
    either_fell (is_running p) (StepHeld p ask true a w q) (StepEffect d p true a w q) (IsToldFall (fallen_effect d p) a w q)
    (λ x. no_held p ask a w q x) (λ x. told_effect d p a w q x) h

-- ---- scans

no_snapshot : (p : Panel) (a : SessionAnswer) (q : Panel) → StepSnapshot p true a q → ⊥
no_snapshot p (Answer.Snapshot s number) q h = true_is_false h.0
no_snapshot p (Refused OutOfMemory) q h = true_is_false h.0
no_snapshot p (Refused e) q h = true_is_false h.0
no_snapshot p a q h = absurd h

told_starts : (p : Panel) (plan : Snapshot) (told : TakenSeen) (q : Panel) → Starts p plan true told q → (told ≡ SaysFault) × Falls (cut p (begun p.cage)) q
told_starts p plan SaysIgnored q h = true_is_false h.0
told_starts p plan SaysWaits q h = true_is_false h.0
told_starts p plan (SaysPause t u) q h = true_is_false h.0
told_starts p plan (SaysJob job) q h = true_is_false h.0
told_starts p plan SaysEnded q h = true_is_false h.0
told_starts p plan SaysFault q h = let d = fallen_cage (begun p.cage) q.cage (course_of p.settings) 0 h.3 in (refl, cut_falls p q (begun p.cage) d.0 d.1 h.4)

told_started : (p : Panel) (plan : Snapshot) (a : SessionAnswer) (w : Option WorkSeen) (q : Panel) → IsStarted p plan true a w q
    → IsToldFall (cut p (begun p.cage)) a w q
told_started p plan a w q h =
    let t = told_starts p plan h.told q h.starts in
    (h.answer_is ∙ ap (λ (x : TakenSeen). started_answer x) t.0, h.work_is ∙ ap (λ (x : TakenSeen). work_of x) t.0, t.1)

told_start : (p : Panel) (plan : Snapshot) (a : SessionAnswer) (w : Option WorkSeen) (q : Panel) → StepStart p plan true a w q
    → IsToldFall (cut p (begun p.cage)) a w q
told_start p plan (Done None) w q h = told_started p plan (Done None) w q h
told_start p plan (Refused HardwareError) w q h = told_started p plan (Refused HardwareError) w q h
told_start p plan (Refused OutOfMemory) None q h = true_is_false h.0
told_start p plan (Refused SettingsConflict) None q h = true_is_false h.0
told_start p plan (Refused e) None q h = true_is_false h.0
told_start p plan a w q h = absurd h

-- ---- asks

abbrev fallen_ask : SessionAsk → Panel → Panel
fallen_ask (Ask.Unit sid command available) p = fallen_action (action_of available command) p
fallen_ask (Ask.Bus sid) p = cut p p.cage
fallen_ask (Ask.Start sid plan) p = cut p (begun p.cage)
fallen_ask ask p = p

no_fault : (p : Panel) (sid : Sid) (e : ScpiError) (a : SessionAnswer) (w : Option WorkSeen) (q : Panel) → StepJoined p (Ask.Fault sid e) true a w q → ⊥
no_fault p sid e (Done None) None q h = true_is_false h.0
no_fault p sid e (Done None) (Some w) q h = absurd h
no_fault p sid e a None q h = true_is_false h.unfailed
no_fault p sid e a (Some w) q h = absurd h

told_joined : (p : Panel) (ask : SessionAsk) (a : SessionAnswer) (w : Option WorkSeen) (q : Panel) → StepJoined p ask true a w q
    → IsToldFall (fallen_ask ask p) a w q
told_joined p (Ask.Fault sid e) a w q h = absurd (no_fault p sid e a w q h)
told_joined p (Ask.Unit sid command available) a w q h = told_action (action_of available command) p (Ask.Unit sid command available) a w q h
told_joined p (Ask.Bus sid) a w q h = told_happening p Bus TriggerIgnored a w q h
told_joined p (Ask.Snapshot sid) a None q h = absurd (no_snapshot p a q h)
told_joined p (Ask.Start sid plan) a w q h = told_start p plan a w q h
told_joined p (Ask.Attached sid) a None q h = true_is_false h.unfailed
told_joined p (Ask.Leave sid) a None q h = true_is_false h.unfailed
told_joined p (Ask.Size sid size) a None q h = true_is_false h.unfailed
told_joined p (Ask.MaxSize sid) a None q h = true_is_false h.unfailed
told_joined p (Ask.Clear sid) a None q h = true_is_false h.unfailed
told_joined p (Ask.Cleared sid) a None q h = true_is_false h.unfailed
told_joined p (Ask.Lock sid key) a None q h = true_is_false h.unfailed
told_joined p (Ask.Release sid) a None q h = true_is_false h.unfailed
told_joined p (Ask.LockInfo sid) a None q h = true_is_false h.unfailed
told_joined p Ask.Join a None q h = true_is_false h.unfailed
told_joined p (Ask.Attach number) a None q h = true_is_false h.unfailed
told_joined p ask a w q h = absurd h

told_admitted : (now : Admission) (p : Panel) (ask : SessionAsk) (a : SessionAnswer) (w : Option WorkSeen) (q : Panel) → StepAdmitted now p ask true a w q
    → IsToldFall (fallen_ask ask p) a w q
told_admitted Dropped p ask Broken None q h = true_is_false h.0
told_admitted Dropped p ask a w q h = absurd h
told_admitted ShutOut p ask a w q h = absurd (no_held p ask a w q h)
told_admitted Admitted p ask a w q h = told_joined p ask a w q h

no_join : (p : Panel) (a : SessionAnswer) (w : Option WorkSeen) (q : Panel) → StepJoin p true a w q → ⊥
no_join p (Joined sid) None q h = true_is_false h.0
no_join p Full None q h = true_is_false h.0
no_join p a w q h = absurd h

no_attach : (p : Panel) (number : ℕ) (a : SessionAnswer) (w : Option WorkSeen) (q : Panel) → StepAttach p number true a w q → ⊥
no_attach p number (Joined sid) None q h = true_is_false h.0
no_attach p number Stranger None q h = true_is_false h.0
no_attach p number a w q h = absurd h

no_new : (p : Panel) (ask : SessionAsk) (a : SessionAnswer) (w : Option WorkSeen) (q : Panel) → StepNew p ask true a w q → ⊥
no_new p Ask.Join a w q h = no_join p a w q h
no_new p (Ask.Attach number) a w q h = no_attach p number a w q h
no_new p ask a w q h = absurd h

told_session : (o : Option Sid) (p : Panel) (ask : SessionAsk) (a : SessionAnswer) (w : Option WorkSeen) (q : Panel) → StepSession o p ask true a w q
    → IsToldFall (fallen_ask ask p) a w q
told_session None p ask a w q h = absurd (no_new p ask a w q h)
told_session (Some sid) p ask Stranger None q h = true_is_false h.0
told_session (Some sid) p ask a w q h = told_admitted (admission p sid ask) p ask a w q h.1

abbrev fallen_return : CageSeen → Result Reading CardFault → CageSeen
fallen_return c (Ok r) = with_reading c r
fallen_return c (Err e) = c

fallen_counts : (c d : CageSeen) (outcome : Result Reading CardFault) → Counts c outcome SaysFault d
    → IsOpened (fallen_return c outcome).cards d.cards × (d ≡ record (fallen_return c outcome) { cards = d.cards; scan = None })
fallen_counts c d (Ok r) h = fallen_past (with_reading c r) d c.scan h
fallen_counts c d (Err e) h =
    let is : d.cards ≡ all_open c.cards = ap (λ (x : CageSeen). x.cards) h.1 in (
      record {
        cards = ap (λ (x : Accounts). map identity x) is ∙ identities_all_open c.cards;
        none = λ x. ap (λ (y : Accounts). is_closed y x) is ∙ all_open_closed c.cards x;
      },
      h.1 ∙ ap (λ (x : Accounts). let r : CageSeen = record c { cards = x; scan = None } in r) (sym is),
    )

abbrev fallen_back : Panel → FinishedSeen → Panel
fallen_back p done = cut p (fallen_return (with_back p.cage done) done.outcome)

told_returns : (p : Panel) (done : FinishedSeen) (told : TakenSeen) (q : Panel) → Returns p done true told q → (told ≡ SaysFault) × Falls (fallen_back p done) q
told_returns p done SaysIgnored q h = true_is_false h.0
told_returns p done SaysWaits q h = true_is_false h.2.0
told_returns p done (SaysPause t u) q h = true_is_false h.2.0
told_returns p done (SaysJob job) q h = true_is_false h.2.0
told_returns p done SaysEnded q h = true_is_false h.2.0
told_returns p done SaysFault q h =
    let d = fallen_counts (with_back p.cage done) q.cage done.outcome h.1 in
    (refl, cut_falls p q (fallen_return (with_back p.cage done) done.outcome) d.0 d.1 h.2.1)

-- what is told of a step in which a card failed, and what it leaves but for the cards
abbrev pub told_fall : AskSeen → AnswerSeen
told_fall (AskSession ask) = SaysSession (Refused HardwareError) None
told_fall ask = SaysFailed

abbrev pub fallen : AskSeen → Panel → Panel
fallen (AskSession ask) p = fallen_ask ask p
fallen (AskFinished done) p = fallen_back p done
fallen ask p = cut p p.cage

abbrev pub IsFall : AskSeen → Panel → AnswerSeen → Panel → Type 0
IsFall ask p a q = (a ≡ told_fall ask) × Falls (fallen ask p) q

told_outside : (p : Panel) (happening : Happening) (a : AnswerSeen) (q : Panel) → StepOutside p happening true a q → (a ≡ SaysFailed) × Falls (cut p p.cage) q
told_outside p happening a q h =
    let t = told_happens p happening h.told q h.happens in
    (h.answer_is ∙ ap (λ (x : TakenSeen). outside_told x) t.0, t.1)

told_returned : (p : Panel) (done : FinishedSeen) (a : AnswerSeen) (q : Panel) → IsReturned p done true a q → IsFall (AskFinished done) p a q
told_returned p done a q h =
    let t = told_returns p done h.told q h.returns in
    (h.answer_is ∙ ap (λ (x : TakenSeen). outside_told x) t.0, t.1)

told_finished : (p : Panel) (done : FinishedSeen) (a : AnswerSeen) (q : Panel) → StepFinished p done true a q → IsFall (AskFinished done) p a q
told_finished p done SaysBack q h = true_is_false h.0
told_finished p done a q h = told_returned p done a q h

pub told_acts : (p : Panel) (ask : AskSeen) (a : AnswerSeen) (q : Panel) → Acts p ask true a q → IsFall ask p a q
told_acts p (AskSession ask) (SaysSession a w) q h =
    let r = told_session (asker_of ask) p ask a w q h in
    (ap (λ (x : SessionAnswer). SaysSession x w) r.0 ∙ ap (λ (x : Option WorkSeen). SaysSession (Refused HardwareError) x) r.1, r.2)
told_acts p (AskInstall slot card) SaysInstalled q h = true_is_false h.0
told_acts p (AskInstall slot card) (SaysNotInstalled refusal) q h = true_is_false h.0
told_acts p (AskEject slot) (SaysEjected card) q h = true_is_false h.0
told_acts p (AskEject slot) (SaysNotEjected refusal) q h = true_is_false h.0
told_acts p AskExternal a q h = told_outside p External a q h
told_acts p (AskElapsed ticket) a q h = told_outside p (Elapsed ticket) a q h
told_acts p (AskFinished done) a q h = told_finished p done a q h
told_acts p ask a q h = absurd h

-- ---- the event

fall_ends : (ask : AskSeen) (p : Panel) → concluded (told_fall ask) p ≡ ended (erred p HardwareError)
fall_ends (AskSession ask) p = refl
fall_ends (AskInstall slot card) p = refl
fall_ends (AskEject slot) p = refl
fall_ends AskExternal p = refl
fall_ends (AskElapsed ticket) p = refl
fall_ends (AskFinished done) p = refl

fall_after : (ask : AskSeen) (p : Panel) (a : AnswerSeen) (q : Panel) → (e : IsEvent p ask true a q) → q ≡ ended (erred e.done HardwareError)
fall_after ask p a q e =
    e.after ∙ ap (λ (x : AnswerSeen). concluded x e.done) (told_acts p ask a e.done e.acts).0 ∙ fall_ends ask e.done

fall_counts : (ask : AskSeen) (p : Panel) (a : AnswerSeen) (q : Panel) → (e : IsEvent p ask true a q)
    → map failures_in q.cage.cards ≡ map failures_in e.done.cage.cards
fall_counts ask p a q e = ap (λ (x : Panel). map failures_in x.cage.cards) (fall_after ask p a q e)

abbrev SameCounts : Panel → Panel → Type 0
SameCounts q q' = map failures_in q.cage.cards ≡ map failures_in q'.cage.cards

event_fell : (p q q' : Panel) (ask : AskSeen) (a a' : AnswerSeen) → IsEvent p ask true a q → IsEvent p ask true a' q' → SameCounts q q'
    → (a ≡ a') × (q ≡ q')
event_fell p q q' ask a a' h k same =
    let x = told_acts p ask a h.done h.acts in
    let y = told_acts p ask a' k.done k.acts in
    let counts : SameCounts h.done k.done = sym (fall_counts ask p a q h) ∙ same ∙ fall_counts ask p a' q' k in
    let dones : h.done ≡ k.done = falls_once (fallen ask p) h.done k.done x.1 y.1 counts in
    (x.0 ∙ sym y.0, fall_after ask p a q h ∙ ap (λ (z : Panel). ended (erred z HardwareError)) dones ∙ sym (fall_after ask p a' q' k))

either_event : (b : Bool) (p q q' : Panel) (ask : AskSeen) (a a' : AnswerSeen) → MatchBool b (IsUnnumbered p ask true a q) (IsEvent p ask true a q)
    → MatchBool b (IsUnnumbered p ask true a' q') (IsEvent p ask true a' q') → SameCounts q q' → (a ≡ a') × (q ≡ q')
either_event true p q q' ask a a' h k same = true_is_false h.unfailed
either_event false p q q' ask a a' h k same = event_fell p q q' ask a a' h k same

-- where a card failed, the cards' counts of failures leave no choice
pub step_fell : (p q q' : Panel) (ask : AskSeen) (a a' : AnswerSeen) → Step p ask true a q → Step p ask true a' q'
    → map failures_in q.cage.cards ≡ map failures_in q'.cage.cards → (a ≡ a') × (q ≡ q')
step_fell p q q' ask a a' h k same = either_event ((p.events == last_number) && not (acts_unnumbered ask)) p q q' ask a a' h k same
