-- What each ask does to a scan that runs, to what is closed then, and to the readings.
use Rattle.std.proofs.Common.{◌≡◌, ℕ, ◌+◌, ◌≤◌, ◌<◌, ◌==◌, ◌&&◌, not, Bool, true, false, length, Option, None, Some}
use Rattle.std.proofs.Common.{is_some, inl, inr, refl, ap, sym, subst, ◌∙◌}
use Rattle.std.specs.Prelude.{if◌then◌else◌, MatchBool}
use Rattle.sw_base.specs.Layout.{Channel, slot_at}
use Rattle.sw_base.specs.declared.error.ScpiError.{ScpiError}
use Rattle.sw_base.specs.declared.error.ScpiError.TheVariants.{OutOfMemory, TriggerIgnored}
use Rattle.sw_base.specs.declared.error.ScpiError.TheVariants.{SettingsConflict, HardwareError}
use Rattle.sw_verify.specs.declared.snapshot.Snapshot.{Snapshot}
use Rattle.sw_cage.specs.Accounts.{is_closed}
use Rattle.sw_cage.specs.Cage.{ScanSeen, CageSeen, safe_state}
use Rattle.sw_cage.specs.Install.{stopped}
use Rattle.sw_cage.specs.Good.{IsHeld}
use Rattle.sw_verify.specs.Setup.{course_of}
use Rattle.sw_cage.specs.Advance.{moves_from, next_place}
use Rattle.sw_cage.specs.Work.{FinishedSeen}
use Rattle.sw_cage.specs.TakenSeen.{TakenSeen, SaysIgnored, SaysWaits, SaysPause, SaysJob, SaysEnded, SaysFault}
use Rattle.sw_cage.specs.declared.taken.Happening.{Happening}
use Rattle.sw_cage.specs.declared.taken.Happening.TheVariants.{Bus, External, Elapsed}
use Rattle.sw_cage.specs.Outcome.{occupancy_of, AdvancesOrFails, Advances, begun}
use Rattle.sw_core.specs.declared.ask.Sid.{Sid}
use Rattle.sw_core.specs.declared.ask.SessionAsk.{SessionAsk}
use Rattle.sw_core.specs.declared.ask.SessionAsk.TheVariants as Ask
use Rattle.sw_core.specs.declared.ask.SessionAnswer.{SessionAnswer}
use Rattle.sw_core.specs.declared.ask.SessionAnswer.TheVariants as answers
use Rattle.sw_core.specs.declared.ask.SessionAnswer.TheVariants.{Joined, Full, Stranger, Broken, Done, Refused, Hold, Worn}
use Rattle.sw_core.specs.Panel.{Panel, is_running}
use Rattle.sw_core.specs.Action.{Effect}
use Rattle.sw_core.specs.Action.{Triggers, Action, AtOnce, BetweenScans, AfterScan, action_of}
use Rattle.sw_core.specs.Event.{concluded, session_concluded, last_number}
use Rattle.sw_core.specs.Seats.{asker_of}
use Rattle.sw_core.specs.Step.{StepRefused, StepEffect, StepHeld}
use Rattle.sw_core.specs.Step.{StepAction, session_told, StepHappens, StepSnapshot, StepStart, started_answer, IsServed, StepJoined}
use Rattle.sw_core.specs.Step.{StepAdmitted, StepJoin, StepAttach, StepSession, outside_told, StepOutside, StepFinished, Acts}
use Rattle.sw_core.specs.Step.{acts_unnumbered, IsWorn, IsEvent, IsUnnumbered, Step}
use Rattle.sw_core.specs.Step.{Admission, Dropped, ShutOut, Admitted, admission}
use Rattle.sw_core.specs.Taken.{went_on, was_taken, took_effect, took_command, took}
use Rattle.sw_core.specs.Ends.{left_of, begins, breaks_off}
use Rattle.sw_cage.proofs.SlotChangeLemmas.{is_none}
use Rattle.sw_core.specs.Seen.{WorkSeen, AskSeen, AskSession, AskInstall, AskEject, AskExternal, AskElapsed, AskFinished, AnswerSeen, SaysSession}
use Rattle.sw_core.specs.Seen.{SaysInstalled, SaysNotInstalled, SaysEjected, SaysNotEjected, SaysTaken, SaysMissed, SaysFailed, SaysBack, SaysWorn}
use Rattle.std.proofs.lemmas.List.{length-map}
use Rattle.sw_card.specs.Account.{Account}
use Rattle.sw_cage.specs.Accounts.{all_open, option_rest}
use Rattle.sw_cage.specs.Install.{without_card}
use Rattle.sw_cage.proofs.SlotChangeLemmas.{all_open_closed}
use Rattle.sw_core.specs.Run.{AddsOwn}
use Rattle.sw_core.proofs.HarmlessLemmas.{none_of}
use Rattle.sw_core.proofs.SafetyLemmas.{rest_slot}
use Rattle.sw_core.proofs.ObeyedLemmas.{bare_slot}
use Rattle.sw_core.proofs.CourseLemmas.{Holds}
use Rattle.sw_core.proofs.AdvancingLemmas.{near_none, Ends, Moves, move_is, move_idle, move_cut, of_taken, move_happens}
use Rattle.sw_core.proofs.AdvancingLemmas.{move_returns, same_back}
use Rattle.sw_core.proofs.StillLemmas.{IsStill, move_still, still_as, IsStillEffect, IsStillAction, still_command, still_alone}

-- ---- sessions

went_told : (error : ScpiError) (told : TakenSeen) → went_on (Refused error) ≡ 0 → went_on (session_told error told) ≡ of_taken told
went_told error SaysIgnored q = q
went_told error SaysWaits q = refl
went_told error (SaysPause t u) q = refl
went_told error (SaysJob job) q = refl
went_told error SaysEnded q = refl
went_told error SaysFault q = refl

refused_off : (ask : SessionAsk) (error : ScpiError) (told : TakenSeen) (a : SessionAnswer) (w : Option WorkSeen) → a ≡ session_told error told
    → told ≡ SaysFault
    → breaks_off (AskSession ask) (SaysSession a w) ≡ true
refused_off ask error told a w is e =
    ap (λ (x : SessionAnswer). breaks_off (AskSession ask) (SaysSession x w)) (is ∙ ap (λ (t : TakenSeen). session_told error t) e)

move_told : (ask : SessionAsk) (p : Panel) (happening : Happening) (error : ScpiError) (f : Bool) (a : SessionAnswer) (w : Option WorkSeen) (q : Panel)
    → went_on (Refused error) ≡ 0
    → StepHappens p happening error f a w q → Moves (AskSession ask) (SaysSession a w) p (went_on a) q
move_told ask p happening error f a w q quiet h =
    subst (λ (n : ℕ). Moves (AskSession ask) (SaysSession a w) p n q) (sym (ap went_on h.answer_is ∙ went_told error h.told quiet))
    (move_happens (AskSession ask) (SaysSession a w) p happening f h.told q (refused_off ask error h.told a w h.answer_is) h.happens)

move_effect : (ask : SessionAsk) (d : Effect) (p : Panel) (f : Bool) (a : SessionAnswer) (w : Option WorkSeen) (q : Panel)
    → IsStillEffect (breaks_off (AskSession ask) (SaysSession (Done None) None)) p d → StepEffect d p f a w q
    → Moves (AskSession ask) (SaysSession a w) p (took_effect d a) q
move_effect ask (Triggers happening error) p f a w q n h = move_told ask p happening error f a w q n h
move_effect ask d p f a w q n h =
    subst (λ (v : Option WorkSeen).
    Moves (AskSession ask) (SaysSession a v) p (took_effect d a) q) (sym h.1)
    (move_still (AskSession ask) (SaysSession a None) p q (still_alone ask d p f a q n h.0))

-- what is refused or held is not taken
untaken : (d : Effect) (a : SessionAnswer) → went_on a ≡ 0 → took_effect d a ≡ 0
untaken (Triggers happening error) a e = e
untaken d a e = refl

move_untaken : (ask : AskSeen) (x : AnswerSeen) (d : Effect) (p : Panel) (a : SessionAnswer) (q : Panel) → went_on a ≡ 0 → q ≡ p
    → Moves ask x p (took_effect d a) q
move_untaken ask x d p a q e s = subst (λ (k : ℕ). Moves ask x p k q) (sym (untaken d a e)) (move_is ask x p q s)

move_refused : (ask : AskSeen) (x : AnswerSeen) (d : Effect) (p : Panel) (f : Bool) (a : SessionAnswer) (q : Panel) → StepRefused p SettingsConflict f a q
    → Moves ask x p (took_effect d a) q
move_refused ask x d p f (Refused e) q h = move_untaken ask x d p (Refused e) q (ap (λ (y : ScpiError). went_on (Refused y)) h.1) h.2
move_refused ask x d p f a q h = absurd h

move_held : (kind : AskSeen) (x : AnswerSeen) (d : Effect) (p : Panel) (ask : SessionAsk) (f : Bool) (a : SessionAnswer) (w : Option WorkSeen) (q : Panel)
    → StepHeld p ask f a w q → Moves kind x p (took_effect d a) q
move_held kind x d p ask f (Hold y) None q h = move_untaken kind x d p (Hold y) q refl h.2
move_held kind x d p ask f a w q h = absurd h

move_barred : (ask : SessionAsk) (b : Bool) (d : Effect) (p : Panel) (f : Bool) (a : SessionAnswer) (w : Option WorkSeen) (q : Panel)
    → (b ≡ false → IsStillEffect (breaks_off (AskSession ask) (SaysSession (Done None) None)) p d)
    → MatchBool b (StepRefused p SettingsConflict f a q × (w ≡ None)) (StepEffect d p f a w q) → Moves (AskSession ask) (SaysSession a w) p (took_effect d a) q
move_barred ask true d p f a w q n h = move_refused (AskSession ask) (SaysSession a w) d p f a q h.0
move_barred ask false d p f a w q n h = move_effect ask d p f a w q (n refl) h

move_waiting : (b : Bool) (d : Effect) (p : Panel) (ask : SessionAsk) (f : Bool) (a : SessionAnswer) (w : Option WorkSeen) (q : Panel)
    → IsStillEffect (breaks_off (AskSession ask) (SaysSession (Done None) None)) p d
    → MatchBool b (StepHeld p ask f a w q) (StepEffect d p f a w q) → Moves (AskSession ask) (SaysSession a w) p (took_effect d a) q
move_waiting true d p ask f a w q n h = move_held (AskSession ask) (SaysSession a w) d p ask f a w q h
move_waiting false d p ask f a w q n h = move_effect ask d p f a w q n h

move_action : (x : Action) (p : Panel) (ask : SessionAsk) (f : Bool) (a : SessionAnswer) (w : Option WorkSeen) (q : Panel)
    → IsStillAction (breaks_off (AskSession ask) (SaysSession (Done None) None)) p x → StepAction x p ask f a w q
    → Moves (AskSession ask) (SaysSession a w) p (took_command x a) q
move_action (AtOnce d) p ask f a w q n h = move_effect ask d p f a w q n h
move_action (BetweenScans d) p ask f a w q n h = move_barred ask (is_running p) d p f a w q n h
move_action (AfterScan d) p ask f a w q n h = move_waiting (is_running p) d p ask f a w q n h

-- nor is what takes none
untaken_command : (x : Action) (a : SessionAnswer) → went_on a ≡ 0 → took_command x a ≡ 0
untaken_command (AtOnce d) a e = untaken d a e
untaken_command (BetweenScans d) a e = untaken d a e
untaken_command (AfterScan d) a e = untaken d a e

still_snapshot : {off : Bool} (p : Panel) (f : Bool) (a : SessionAnswer) (q : Panel) → StepSnapshot p f a q → IsStill off p q
still_snapshot p f (answers.Snapshot s number) q h = still_as p q h.3
still_snapshot p f (Refused OutOfMemory) q h = still_as p q h.2
still_snapshot p f (Refused e) q h = still_as p q h.2
still_snapshot p f a q h = absurd h

fault_told : (told : TakenSeen) → Refused HardwareError ≡ started_answer told → told ≡ SaysFault
fault_told SaysFault e = refl
fault_told told e = absurd (cc (e))

-- a start that begins no scan: it is refused, or a card failed on the way
move_start : (ask : AskSeen) (x : AnswerSeen) (p : Panel) (sid : Sid) (plan : Snapshot) (f : Bool) (a : SessionAnswer) (w : Option WorkSeen) (q : Panel)
    → begins (AskSession (Ask.Start sid plan)) (SaysSession a w) ≡ false → StepStart p plan f a w q → Moves ask x p 0 q
move_start ask x p sid plan f (Done None) w q n h = absurd (cc (n))
move_start ask x p sid plan f (Refused HardwareError) w q n h =
    let g : Advances (begun p.cage) (course_of p.settings) 0 SaysFault q.cage =
    subst (λ (t : TakenSeen). Advances (begun p.cage) (course_of p.settings) 0 t q.cage) (fault_told h.told h.answer_is) h.starts.3 in
    let course = course_of p.settings in
    let r : AdvancesOrFails (occupancy_of (begun p.cage)) (p.cage.number + 1) (moves_from course 0) (next_place course 0) SaysFault
    (occupancy_of q.cage) q.cage.scan = g.runs in
    record { near = near_none p q r.over; ends = λ at is u over. absurd (let e = sym is ∙ none_of p h.may.idle in cc (e)); adds = λ own. inr (inl g.readings) }
move_start ask x p sid plan f (Refused OutOfMemory) None q n h = move_is ask x p q h.3
move_start ask x p sid plan f (Refused SettingsConflict) None q n h = move_is ask x p q h.2
move_start ask x p sid plan f (Refused e) None q n h = move_is ask x p q h.2
move_start ask x p sid plan f a w q n h = absurd h

move_served : (kind : AskSeen) (x : AnswerSeen) (p : Panel) (ask : SessionAsk) (f : Bool) (a : SessionAnswer) (q : Panel) → IsServed p ask f a q
    → Moves kind x p 0 q
move_served kind x p ask f a q h = move_still kind x p q (inl (ap (λ (y : Panel). y.cage) h.after))

move_joined : (p : Panel) (ask : SessionAsk) (f : Bool) (a : SessionAnswer) (w : Option WorkSeen) (q : Panel)
    → begins (AskSession ask) (SaysSession a w) ≡ false → StepJoined p ask f a w q
    → Moves (AskSession ask) (SaysSession a w) p (took (AskSession ask) (SaysSession a w)) q
move_joined p (Ask.Fault sid e) f (Done None) None q n h =
    move_still (AskSession (Ask.Fault sid e)) (SaysSession (Done None) None) p q (inl (ap (λ (x : Panel). x.cage) h.1))
move_joined p (Ask.Fault sid e) f a None q n h = move_served (AskSession (Ask.Fault sid e)) (SaysSession a None) p (Ask.Fault sid e) f a q h
move_joined p (Ask.Unit sid command available) f a w q n h =
    move_action (action_of available command) p (Ask.Unit sid command available) f a w q (still_command sid p available command) h
move_joined p (Ask.Bus sid) f a w q n h = move_told (Ask.Bus sid) p Bus TriggerIgnored f a w q refl h
move_joined p (Ask.Snapshot sid) f a None q n h = move_still (AskSession (Ask.Snapshot sid)) (SaysSession a None) p q (still_snapshot p f a q h)
move_joined p (Ask.Start sid plan) f a w q n h = move_start (AskSession (Ask.Start sid plan)) (SaysSession a w) p sid plan f a w q n h
move_joined p (Ask.Attached sid) f a None q n h = move_served (AskSession (Ask.Attached sid)) (SaysSession a None) p (Ask.Attached sid) f a q h
move_joined p (Ask.Leave sid) f a None q n h = move_served (AskSession (Ask.Leave sid)) (SaysSession a None) p (Ask.Leave sid) f a q h
move_joined p (Ask.Size sid size) f a None q n h = move_served (AskSession (Ask.Size sid size)) (SaysSession a None) p (Ask.Size sid size) f a q h
move_joined p (Ask.MaxSize sid) f a None q n h = move_served (AskSession (Ask.MaxSize sid)) (SaysSession a None) p (Ask.MaxSize sid) f a q h
move_joined p (Ask.Clear sid) f a None q n h = move_served (AskSession (Ask.Clear sid)) (SaysSession a None) p (Ask.Clear sid) f a q h
move_joined p (Ask.Cleared sid) f a None q n h = move_served (AskSession (Ask.Cleared sid)) (SaysSession a None) p (Ask.Cleared sid) f a q h
move_joined p (Ask.Lock sid key) f a None q n h = move_served (AskSession (Ask.Lock sid key)) (SaysSession a None) p (Ask.Lock sid key) f a q h
move_joined p (Ask.Release sid) f a None q n h = move_served (AskSession (Ask.Release sid)) (SaysSession a None) p (Ask.Release sid) f a q h
move_joined p (Ask.LockInfo sid) f a None q n h = move_served (AskSession (Ask.LockInfo sid)) (SaysSession a None) p (Ask.LockInfo sid) f a q h
move_joined p Ask.Join f a None q n h = move_served (AskSession Ask.Join) (SaysSession a None) p Ask.Join f a q h
move_joined p (Ask.Attach number) f a None q n h = move_served (AskSession (Ask.Attach number)) (SaysSession a None) p (Ask.Attach number) f a q h
move_joined p ask f a w q n h = absurd h

still_join : {off : Bool} (p : Panel) (f : Bool) (a : SessionAnswer) (w : Option WorkSeen) (q : Panel) → StepJoin p f a w q → IsStill off p q
still_join p f (Joined sid) None q h = inl (ap (λ (x : Panel). x.cage) h.3)
still_join p f Full None q h = still_as p q h.2
still_join p f a w q h = absurd h

still_attach : {off : Bool} (p : Panel) (number : ℕ) (f : Bool) (a : SessionAnswer) (w : Option WorkSeen) (q : Panel) → StepAttach p number f a w q
    → IsStill off p q
still_attach p number f (Joined sid) None q h = inl (ap (λ (x : Panel). x.cage) h.2)
still_attach p number f Stranger None q h = still_as p q h.2
still_attach p number f a w q h = absurd h

-- what a stranger asks, what is dropped and what is held is not taken
took_none : (ask : SessionAsk) (a : SessionAnswer) (w : Option WorkSeen) → went_on a ≡ 0 → took (AskSession ask) (SaysSession a w) ≡ 0
took_none (Ask.Unit sid command available) a w n = untaken_command (action_of available command) a n
took_none (Ask.Bus sid) a w n = n
took_none ask a w n = refl

move_silent : (p : Panel) (ask : SessionAsk) (a : SessionAnswer) (w : Option WorkSeen) (q : Panel) → went_on a ≡ 0 → q ≡ p
    → Moves (AskSession ask) (SaysSession a w) p (took (AskSession ask) (SaysSession a w)) q
move_silent p ask a w q n e =
    subst (λ (k : ℕ). Moves (AskSession ask) (SaysSession a w) p k q) (sym (took_none ask a w n)) (move_is (AskSession ask) (SaysSession a w) p q e)

move_admitted : (now : Admission) (p : Panel) (ask : SessionAsk) (f : Bool) (a : SessionAnswer) (w : Option WorkSeen) (q : Panel)
    → begins (AskSession ask) (SaysSession a w) ≡ false → StepAdmitted now p ask f a w q
    → Moves (AskSession ask) (SaysSession a w) p (took (AskSession ask) (SaysSession a w)) q
move_admitted Dropped p ask f Broken None q n h = move_silent p ask Broken None q refl h.1
move_admitted Dropped p ask f a w q n h = absurd h
move_admitted ShutOut p ask f (Hold back) None q n h = move_silent p ask (Hold back) None q refl h.2
move_admitted ShutOut p ask f a w q n h = absurd h
move_admitted Admitted p ask f a w q n h = move_joined p ask f a w q n h

move_known : (sid : Sid) (p : Panel) (ask : SessionAsk) (f : Bool) (a : SessionAnswer) (w : Option WorkSeen) (q : Panel)
    → begins (AskSession ask) (SaysSession a w) ≡ false → StepSession (Some sid) p ask f a w q
    → Moves (AskSession ask) (SaysSession a w) p (took (AskSession ask) (SaysSession a w)) q
move_known sid p ask f Stranger None q n h = move_silent p ask Stranger None q refl h.2
move_known sid p ask f a w q n h = move_admitted (admission p sid ask) p ask f a w q n h.1

move_session : (p : Panel) (ask : SessionAsk) (f : Bool) (a : SessionAnswer) (w : Option WorkSeen) (q : Panel)
    → begins (AskSession ask) (SaysSession a w) ≡ false → StepSession (asker_of ask) p ask f a w q
    → Moves (AskSession ask) (SaysSession a w) p (took (AskSession ask) (SaysSession a w)) q
move_session p Ask.Join f a w q n h = move_still (AskSession Ask.Join) (SaysSession a w) p q (still_join p f a w q h)
move_session p (Ask.Attach number) f a w q n h = move_still (AskSession (Ask.Attach number)) (SaysSession a w) p q (still_attach p number f a w q h)
move_session p (Ask.Attached sid) f answer w q n h = move_known sid p (Ask.Attached sid) f answer w q n h
move_session p (Ask.Leave sid) f answer w q n h = move_known sid p (Ask.Leave sid) f answer w q n h
move_session p (Ask.Size sid size) f answer w q n h = move_known sid p (Ask.Size sid size) f answer w q n h
move_session p (Ask.MaxSize sid) f answer w q n h = move_known sid p (Ask.MaxSize sid) f answer w q n h
move_session p (Ask.Clear sid) f answer w q n h = move_known sid p (Ask.Clear sid) f answer w q n h
move_session p (Ask.Cleared sid) f answer w q n h = move_known sid p (Ask.Cleared sid) f answer w q n h
move_session p (Ask.Lock sid key) f answer w q n h = move_known sid p (Ask.Lock sid key) f answer w q n h
move_session p (Ask.Release sid) f answer w q n h = move_known sid p (Ask.Release sid) f answer w q n h
move_session p (Ask.LockInfo sid) f answer w q n h = move_known sid p (Ask.LockInfo sid) f answer w q n h
move_session p (Ask.Unit sid command available) f a w q n h = move_known sid p (Ask.Unit sid command available) f a w q n h
move_session p (Ask.Fault sid e) f a w q n h = move_known sid p (Ask.Fault sid e) f a w q n h
move_session p (Ask.Bus sid) f a w q n h = move_known sid p (Ask.Bus sid) f a w q n h
move_session p (Ask.Snapshot sid) f a w q n h = move_known sid p (Ask.Snapshot sid) f a w q n h
move_session p (Ask.Start sid plan) f a w q n h = move_known sid p (Ask.Start sid plan) f a w q n h

-- ---- events

was_told : (told : TakenSeen) → was_taken (outside_told told) ≡ of_taken told
was_told SaysIgnored = refl
was_told SaysWaits = refl
was_told (SaysPause t u) = refl
was_told (SaysJob job) = refl
was_told SaysEnded = refl
was_told SaysFault = refl

fault_off : (ask : AskSeen) (a : AnswerSeen) (told : TakenSeen) → a ≡ outside_told told → told ≡ SaysFault → breaks_off ask a ≡ true
fault_off ask a told is e = ap (λ (x : AnswerSeen). breaks_off ask x) (is ∙ ap (λ (t : TakenSeen). outside_told t) e)

move_outside : (ask : AskSeen) (p : Panel) (happening : Happening) (f : Bool) (a : AnswerSeen) (q : Panel) → StepOutside p happening f a q
    → Moves ask a p (was_taken a) q
move_outside ask p happening f a q h =
    subst (λ (n : ℕ). Moves ask a p n q) (sym (ap was_taken h.answer_is
    ∙ was_told h.told)) (move_happens ask a p happening f h.told q (fault_off ask a h.told h.answer_is) h.happens)

move_finished : (p : Panel) (done : FinishedSeen) (f : Bool) (a : AnswerSeen) (q : Panel) → IsHeld p.cage → StepFinished p done f a q
    → Moves (AskFinished done) a p (was_taken a) q
move_finished p done f SaysBack q k h = move_is (AskFinished done) SaysBack p q h.2
move_finished p done f a q k h =
    subst (λ (n : ℕ). Moves (AskFinished done) a p n q) (sym (ap was_taken h.answer_is ∙ was_told h.told))
    (move_returns a p done f h.told q (fault_off (AskFinished done) a h.told h.answer_is) (same_back p.cage done k h.out) h.returns)

stopped_none : (c : CageSeen) → (stopped c).scan ≡ None
stopped_none c = by_scan (is_some c.scan) refl
  where
    by_scan : (b : Bool) → is_some c.scan ≡ b → (if b then safe_state c else c).scan ≡ None
    by_scan true e = refl
    by_scan false e = is_none c.scan e

-- an eject stops what runs
ejected_bare : (p q : Panel) (slot : ℕ) (card : Account) → slot_at (all_open p.cage.cards) slot ≡ Some card → is_running p ≡ true
    → q.cage ≡ without_card (stopped p.cage) slot
    → (c : Channel) → is_closed q.cage.cards c ≡ false
ejected_bare p q slot card e run is c =
    let fell : stopped p.cage ≡ safe_state p.cage = ap (λ (b : Bool). if b then safe_state p.cage else p.cage) run in
    let b : (0 < slot) × (slot ≤ length p.cage.cards) = rest_slot p.cage.cards slot card e in
    ap (λ (x : CageSeen). is_closed x.cards c) (is ∙ ap (λ (x : CageSeen). without_card x slot) fell)
    ∙ bare_slot (all_open p.cage.cards) slot c b.0 (subst (λ n. slot ≤ n) (sym (length-map p.cage.cards option_rest)) b.1) (all_open_closed p.cage.cards)

pub stopped_readings : (c : CageSeen) → (stopped c).readings ≡ c.readings
stopped_readings c = by_scan (is_some c.scan)
  where
    by_scan : (b : Bool) → (if b then safe_state c else c).readings ≡ c.readings
    by_scan true = refl
    by_scan false = refl

move_ejected : (p q : Panel) (slot : ℕ) (card : Account) → slot_at (all_open p.cage.cards) slot ≡ Some card → q.cage ≡ without_card (stopped p.cage) slot
    → Moves (AskEject slot) (SaysEjected card) p 0 q
move_ejected p q slot card e is = by_run (is_running p) refl
  where
    over : q.cage.scan ≡ None
    over = ap (λ (x : CageSeen). x.scan) is ∙ stopped_none p.cage

    same : q.cage.readings ≡ p.cage.readings
    same = ap (λ (x : CageSeen). x.readings) is ∙ stopped_readings p.cage

    by_run : (b : Bool) → is_running p ≡ b → Moves (AskEject slot) (SaysEjected card) p 0 q
    by_run true r = move_cut (AskEject slot) (SaysEjected card) p q (refl, over, ejected_bare p q slot card e r is, inl same)
    by_run false r = move_idle (AskEject slot) (SaysEjected card) p q (none_of p r, over, same)

move_acts : (p : Panel) (ask : AskSeen) (f : Bool) (a : AnswerSeen) (q : Panel) → IsHeld p.cage → begins ask a ≡ false → Acts p ask f a q
    → Moves ask a p (took ask a) q
move_acts p (AskSession ask) f (SaysSession a w) q k n h = move_session p ask f a w q n h
move_acts p (AskInstall slot card) f SaysInstalled q k n h =
    move_idle (AskInstall slot card) SaysInstalled p q (
      none_of p h.1,
      ap (λ (x : Panel). x.cage.scan) h.4 ∙ none_of p h.1,
      ap (λ (x : Panel). x.cage.readings) h.4,
    )
move_acts p (AskInstall slot card) f (SaysNotInstalled refusal) q k n h = move_is (AskInstall slot card) (SaysNotInstalled refusal) p q h.2
move_acts p (AskEject slot) f (SaysEjected card) q k n h = move_ejected p q slot card h.2 (ap (λ (x : Panel). x.cage) h.3)
move_acts p (AskEject slot) f (SaysNotEjected refusal) q k n h = move_is (AskEject slot) (SaysNotEjected refusal) p q h.2
move_acts p AskExternal f a q k n h = move_outside AskExternal p External f a q h
move_acts p (AskElapsed ticket) f a q k n h = move_outside (AskElapsed ticket) p (Elapsed ticket) f a q h
move_acts p (AskFinished done) f a q k n h = move_finished p done f a q k h
move_acts p ask f a q k n h = absurd h

-- the end of an event changes no scan
session_scan : (a : SessionAnswer) (p : Panel) → (session_concluded a p).cage ≡ p.cage
session_scan Stranger p = refl
session_scan Broken p = refl
session_scan (Hold ask) p = refl
session_scan (Worn ask) p = refl
session_scan (Refused e) p = refl
session_scan (Joined sid) p = refl
session_scan Full p = refl
session_scan (Done text) p = refl
session_scan (answers.Snapshot s number) p = refl
session_scan answers.Missed p = refl
session_scan (answers.Max n) p = refl
session_scan (answers.Lock code) p = refl
session_scan (answers.Info exclusive n) p = refl

pub concluded_scan : (a : AnswerSeen) (p : Panel) → (concluded a p).cage ≡ p.cage
concluded_scan (SaysSession a w) p = session_scan a p
concluded_scan SaysInstalled p = refl
concluded_scan (SaysNotInstalled refusal) p = refl
concluded_scan (SaysEjected card) p = refl
concluded_scan (SaysNotEjected refusal) p = refl
concluded_scan (SaysTaken work) p = refl
concluded_scan SaysMissed p = refl
concluded_scan SaysFailed p = refl
concluded_scan SaysBack p = refl
concluded_scan SaysWorn p = refl

move_as : (ask : AskSeen) (a : AnswerSeen) (p q r : Panel) (n : ℕ) → r.cage ≡ q.cage → Moves ask a p n q → Moves ask a p n r
move_as ask a p q r n e h =
    let s : r.cage.scan ≡ q.cage.scan = ap (λ (c : CageSeen). c.scan) e in
    record {
      near = record {
        most = h.near.most;
        left = elim h.near.left [ inl l ↦ inl (ap (λ (o : Option ScanSeen). n + left_of o) s ∙ l) | inr i ↦ inr (s ∙ i) ];
        idle = λ i. s ∙ h.near.idle i;
        holds = subst (λ (c : CageSeen). Holds p.cage c) (sym e) h.near.holds;
      };
      ends = subst (λ (c : CageSeen). Ends (breaks_off ask a) p.cage n c) (sym e) h.ends;
      adds = λ own. subst (λ (c : CageSeen). AddsOwn ask p.cage.readings c.readings) (sym e) (h.adds own);
    }

move_event : (p : Panel) (ask : AskSeen) (f : Bool) (a : AnswerSeen) (q : Panel) → IsHeld p.cage → begins ask a ≡ false → IsEvent p ask f a q
    → Moves ask a p (took ask a) q
move_event p ask f a q k n h =
    move_as ask a p h.done q (took ask a) (ap (λ (x : Panel). x.cage) h.after ∙ concluded_scan a h.done) (move_acts p ask f a h.done k n h.acts)

-- what is handed back is not taken
took_worn : (ask : AskSeen) (a : AnswerSeen) → IsWorn ask a → took ask a ≡ 0
took_worn (AskSession (Ask.Unit sid command available)) (SaysSession (Worn back) None) h = untaken_command (action_of available command) (Worn back) refl
took_worn (AskSession (Ask.Bus sid)) (SaysSession (Worn back) None) h = refl
took_worn (AskSession Ask.Join) (SaysSession (Worn back) None) h = refl
took_worn (AskSession (Ask.Attach number)) (SaysSession (Worn back) None) h = refl
took_worn (AskSession (Ask.Attached sid)) (SaysSession (Worn back) None) h = refl
took_worn (AskSession (Ask.Leave sid)) (SaysSession (Worn back) None) h = refl
took_worn (AskSession (Ask.Size sid size)) (SaysSession (Worn back) None) h = refl
took_worn (AskSession (Ask.MaxSize sid)) (SaysSession (Worn back) None) h = refl
took_worn (AskSession (Ask.Clear sid)) (SaysSession (Worn back) None) h = refl
took_worn (AskSession (Ask.Cleared sid)) (SaysSession (Worn back) None) h = refl
took_worn (AskSession (Ask.Lock sid key)) (SaysSession (Worn back) None) h = refl
took_worn (AskSession (Ask.Release sid)) (SaysSession (Worn back) None) h = refl
took_worn (AskSession (Ask.LockInfo sid)) (SaysSession (Worn back) None) h = refl
took_worn (AskSession (Ask.Fault sid e)) (SaysSession (Worn back) None) h = refl
took_worn (AskSession (Ask.Snapshot sid)) (SaysSession (Worn back) None) h = refl
took_worn (AskSession (Ask.Start sid plan)) (SaysSession (Worn back) None) h = refl
took_worn (AskInstall slot card) SaysWorn h = refl
took_worn (AskEject slot) SaysWorn h = refl
took_worn AskExternal SaysWorn h = refl
took_worn (AskElapsed ticket) SaysWorn h = refl
took_worn (AskFinished done) SaysWorn h = refl
took_worn ask a h = absurd h

move_either : (b : Bool) (p : Panel) (ask : AskSeen) (f : Bool) (a : AnswerSeen) (q : Panel) → IsHeld p.cage → begins ask a ≡ false
    → MatchBool b (IsUnnumbered p ask f a q) (IsEvent p ask f a q) → Moves ask a p (took ask a) q
move_either true p ask f a q k n h = subst (λ (k : ℕ). Moves ask a p k q) (sym (took_worn ask a h.worn)) (move_is ask a p q h.same)
move_either false p ask f a q k n h = move_event p ask f a q k n h

pub move_step : (p : Panel) (ask : AskSeen) (f : Bool) (a : AnswerSeen) (q : Panel) → IsHeld p.cage → begins ask a ≡ false → Step p ask f a q
    → Moves ask a p (took ask a) q
move_step p ask f a q k n h = move_either ((p.events == last_number) && not (acts_unnumbered ask)) p ask f a q k n h
