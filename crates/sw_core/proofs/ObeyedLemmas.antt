-- What commands come to, in the words of who sends them.
use Rattle.std.proofs.Common.{Result, Ok, Err, ◌≡◌, ◌≢◌, ℕ, ◌-◌, ◌<◌, ◌≤◌, ◌==◌, ◌&&◌, not, Bool, true, false, List, length, Option, None, Some, slice_set}
use Rattle.std.proofs.Common.{refl, sym, ◌∙◌, ap, subst, inl, inr, [], ◌∷◌, map}
use Rattle.std.specs.Prelude.{if◌then◌else◌, MatchBool}
use Rattle.std.proofs.lemmas.List.{length-map}
use Rattle.sw_base.specs.Layout.{Channel}
use Rattle.sw_base.specs.declared.error.ScpiError.{ScpiError}
use Rattle.sw_base.specs.declared.error.ScpiError.TheVariants.{UndefinedHeader, DataCorruptOrStale, TriggerIgnored, HardwareMissing, SettingsConflict}
use Rattle.sw_base.specs.declared.error.ScpiError.TheVariants.{HardwareError, OutOfMemory}
use Rattle.std.specs.List.{join_with_byte}
use Rattle.sw_base.specs.Reading.{reading_text}
use Rattle.sw_base.specs.declared.reading.Reading.{Reading}
use Rattle.sw_card.specs.Account.{Account, closed_at}
use Rattle.sw_lex.specs.declared.command.Command.{Command}
use Rattle.sw_lex.specs.declared.command.NoData.{NoData}
use Rattle.sw_lex.specs.declared.command.RelayCommand.{RelayCommand}
use Rattle.sw_verify.specs.declared.snapshot.Snapshot.{Snapshot}
use Rattle.sw_status.specs.StatusModel.{StatusSeen, queued}
use Rattle.sw_verify.specs.Channels.{is_among}
use Rattle.sw_cage.specs.Accounts.{Accounts, is_closed, option_closed, all_open, option_rest}
use Rattle.sw_cage.specs.Cage.{CageSeen, ScanSeen, safe_state}
use Rattle.sw_cage.specs.Install.{stopped, without_card}
use Rattle.sw_cage.specs.Outcome.{AdvancesPastFrom, Counts, with_back, with_reading}
use Rattle.sw_cage.specs.Work.{FinishedSeen}
use Rattle.sw_card.specs.declared.board.CardFault.{CardFault}
use Rattle.sw_core.proofs.SettledLemmas.{is_outside}
use Rattle.sw_cage.specs.TakenSeen.{TakenSeen, SaysIgnored, SaysWaits, SaysPause, SaysJob, SaysEnded, SaysFault}
use Rattle.sw_cage.specs.declared.taken.Happening.{Happening}
use Rattle.sw_cage.specs.declared.taken.Happening.TheVariants.{Bus, External, Elapsed}
use Rattle.sw_cage.proofs.SlotChangeLemmas.{is_none, slot_cases, all_open_closed}
use Rattle.sw_core.specs.declared.ask.Sid.{Sid}
use Rattle.sw_core.specs.declared.ask.SessionAsk.{SessionAsk}
use Rattle.sw_core.specs.declared.ask.SessionAsk.TheVariants as Ask
use Rattle.sw_core.specs.declared.ask.SessionAnswer.{SessionAnswer}
use Rattle.sw_core.specs.declared.ask.SessionAnswer.TheVariants.{Done, Refused}
use Rattle.sw_core.specs.Panel.{Panel, is_running}
use Rattle.sw_core.specs.Action.{Effect, TellsText, TellsReadings, ReadsOut, SetsStatus, SetsUp, ClosesListed, OpensListed, TellsHardware, TellsSurety, TellsListing}
use Rattle.sw_core.specs.Action.{Changes}
use Rattle.sw_core.specs.Action.{Resets, Triggers, RefusesWith, IsOfMacros, Initiates, Action, AtOnce, BetweenScans, AfterScan, action_of}
use Rattle.sw_core.specs.Registers.{card_fault_reported}
use Rattle.sw_core.specs.Event.{ended, erred, last_number}
use Rattle.sw_core.specs.Seen.{WorkSeen, AskSeen, AskSession, AskInstall, AskEject, AskExternal, AskElapsed, AskFinished, AnswerSeen, SaysSession, SaysEjected}
use Rattle.sw_core.specs.Seen.{SaysFailed}
use Rattle.sw_core.specs.Seats.{asker_of}
use Rattle.sw_core.specs.Step.{FailsSafe, StepClose, StepOpen, StepHardware, StepListing, StepText, StepRefused, StepReadings, StepAlone, StepEffect, StepHeld, StepAction}
use Rattle.sw_core.specs.Step.{StepOutside, Returns, Happens, session_told, StepSnapshot, StepStart, started_answer, Starts, outside_told, StepJoined}
use Rattle.sw_core.specs.Step.{StepAdmitted, StepNew, StepSession, Acts, acts_unnumbered, IsWorn, IsEvent, IsUnnumbered, Step}
use Rattle.sw_core.specs.Step.{Admission, Dropped, ShutOut, Admitted, admission}
use Rattle.sw_core.specs.Run.{IsAfterCardFault, IsAtRest, IsDoneFor, tells_failure}
use Rattle.sw_core.proofs.HarmlessLemmas.{IsHarmless, IsHarmlessAction, harmless}
use Rattle.sw_core.proofs.SafetyLemmas.{rest_closed, rest_slot}

-- an answer that hands nothing back is an event's
event_if : (b : Bool) (p : Panel) (ask : AskSeen) (f : Bool) (a : AnswerSeen) (q : Panel) → (IsWorn ask a → ⊥)
    → MatchBool b (IsUnnumbered p ask f a q) (IsEvent p ask f a q) → IsEvent p ask f a q
event_if true p ask f a q n h = absurd (n h.worn)
event_if false p ask f a q n h = h

event_of : (p : Panel) (ask : AskSeen) (f : Bool) (a : AnswerSeen) (q : Panel) → (IsWorn ask a → ⊥) → Step p ask f a q → IsEvent p ask f a q
event_of p ask f a q n h = event_if ((p.events == last_number) && not (acts_unnumbered ask)) p ask f a q n h

-- what is done was neither dropped nor held
not_kept_out : (now : Admission) (p : Panel) (ask : SessionAsk) (f : Bool) (t : _) (w : Option WorkSeen) (q : Panel) → StepAdmitted now p ask f (Done t) w q
    → StepJoined p ask f (Done t) w q
not_kept_out Dropped p ask f t w q h = absurd h
not_kept_out ShutOut p ask f t w q h = absurd h
not_kept_out Admitted p ask f t w q h = h

-- a command that is done was not refused for a scan
not_barred : (b : Bool) (p : Panel) (effect : Effect) (f : Bool) (t : _) (w : Option WorkSeen) (q : Panel)
    → MatchBool b (StepRefused p SettingsConflict f (Done t) q × (w ≡ None)) (StepEffect effect p f (Done t) w q) → StepEffect effect p f (Done t) w q
not_barred true p effect f t w q h = absurd h.0
not_barred false p effect f t w q h = h

-- what a joined session is answered that its command is done
done_of : (p : Panel) (sid : Sid) (command : Command) (available f : Bool) (q : Panel)
    (e : IsEvent p (AskSession (Ask.Unit sid command available)) f (SaysSession (Done None) None) q)
    → StepAction (action_of available command) p (Ask.Unit sid command available) f (Done None) None e.done
done_of p sid command available f q e =
    not_kept_out (admission p sid (Ask.Unit sid command available)) p (Ask.Unit sid command available) f None
    None e.done e.acts.1

pub closes : (p q : Panel) (chans : List Channel) (available failed : Bool) → IsDoneFor p (Command.Relays RelayCommand.Close chans) available failed q
    → (c : Channel)
    → is_among chans c ≡ true
    → is_closed q.cage.cards c ≡ true
closes p q chans available failed s c i =
    let sid = s.0 in
    let h = s.1 in
    let command = Command.Relays RelayCommand.Close chans in
    let e = event_of p (AskSession (Ask.Unit sid command available)) failed (SaysSession (Done None) None) q (λ w. w) h in
    let d = (not_barred (is_running p) p (ClosesListed chans) failed None None e.done (done_of p sid command available failed q e)).0 in
    ap (λ (x : Panel). is_closed x.cage.cards c) e.after ∙ d.2.closed c ∙ ap (λ (b : Bool). if b then true else is_closed p.cage.cards c) i

pub opens : (p q : Panel) (chans : List Channel) (available failed : Bool) → IsDoneFor p (Command.Relays RelayCommand.Open chans) available failed q
    → (c : Channel)
    → is_among chans c ≡ true
    → is_closed q.cage.cards c ≡ false
opens p q chans available failed s c i =
    let sid = s.0 in
    let h = s.1 in
    let command = Command.Relays RelayCommand.Open chans in
    let e = event_of p (AskSession (Ask.Unit sid command available)) failed (SaysSession (Done None) None) q (λ w. w) h in
    let d = (not_barred (is_running p) p (OpensListed chans) failed None None e.done (done_of p sid command available failed q e)).0 in
    ap (λ (x : Panel). is_closed x.cage.cards c) e.after ∙ d.2.closed c ∙ ap (λ (b : Bool). if b then false else is_closed p.cage.cards c) i

pub aborted : (p q : Panel) (available failed : Bool) → IsDoneFor p (Command.NoData NoData.Abort) available failed q → IsAtRest q
aborted p q available failed s =
    let sid = s.0 in
    let h = s.1 in
    let e = event_of p (AskSession (Ask.Unit sid (Command.NoData NoData.Abort) available)) failed (SaysSession (Done None) None) q (λ w. w) h in
    let d = (done_of p sid (Command.NoData NoData.Abort) available failed q e).0 in
    let cage = ap (λ (x : Panel). x.cage) e.after ∙ ap (λ (x : Panel). x.cage) d.1 in
    record { none = λ c. ap (λ (x : CageSeen). is_closed x.cards c) cage ∙ all_open_closed p.cage.cards c; idle = ap (λ (x : CageSeen). x.scan) cage }

pub reset : (p q : Panel) (available failed : Bool) → IsDoneFor p (Command.NoData NoData.Reset) available failed q → IsAtRest q
reset p q available failed s =
    let sid = s.0 in
    let h = s.1 in
    let e = event_of p (AskSession (Ask.Unit sid (Command.NoData NoData.Reset) available)) failed (SaysSession (Done None) None) q (λ w. w) h in
    let d = (done_of p sid (Command.NoData NoData.Reset) available failed q e).0 in
    let cage = ap (λ (x : Panel). x.cage) e.after ∙ ap (λ (x : Panel). x.cage) d.1 in
    record { none = λ c. ap (λ (x : CageSeen). is_closed x.cards c) cage ∙ all_open_closed p.cage.cards c; idle = ap (λ (x : CageSeen). x.scan) cage }

pub ejected : (p q : Panel) (slot : ℕ) (failed : Bool) (card : Account) → Step p (AskEject slot) failed (SaysEjected card) q → (k : ℕ)
    → closed_at card.closed k ≡ false
ejected p q slot f card h k = rest_closed p.cage.cards slot card (event_of p (AskEject slot) f (SaysEjected card) q (λ w. w) h).acts.2 k

pub bare_slot : (rack : Accounts) (slot : ℕ) (c : Channel) → 0 < slot → slot ≤ length rack → ((x : Channel) → is_closed rack x ≡ false)
    → is_closed (slice_set rack (slot - 1) None) c ≡ false
bare_slot rack slot c a b bare = elim (slot_cases rack slot c.0 None a b) [
  | inl e ↦ ap (λ o. option_closed o c.1) e.1
  | inr e ↦ ap (λ o. option_closed o c.1) e.1 ∙ bare c
]

pub stopped_rest : (p q : Panel) (slot : ℕ) (failed : Bool) (card : Account) → is_running p ≡ true → Step p (AskEject slot) failed (SaysEjected card) q
    → IsAtRest q
stopped_rest p q slot f card run h =
    let e = event_of p (AskEject slot) f (SaysEjected card) q (λ w. w) h in
    let fell : stopped p.cage ≡ safe_state p.cage = ap (λ (b : Bool). if b then safe_state p.cage else p.cage) run in
    let cage : q.cage ≡ without_card (safe_state p.cage) slot = ap (λ (x : Panel). x.cage) e.after ∙ ap (λ (x : Panel). x.cage) e.acts.3
    ∙ ap (λ (x : CageSeen). without_card x slot) fell in
    let r : (0 < slot) × (slot ≤ length p.cage.cards) = rest_slot p.cage.cards slot card e.acts.2 in
    record {
      none = λ c. ap (λ (x : CageSeen). is_closed x.cards c) cage
          ∙ bare_slot (all_open p.cage.cards) slot c r.0 (subst (λ n. slot ≤ n) (sym (length-map p.cage.cards option_rest)) r.1) (all_open_closed p.cage.cards);
      idle = ap (λ (x : CageSeen). x.scan) cage;
    }

outside_apart : (told : TakenSeen) (a : SessionAnswer) → SaysSession a None ≡ outside_told told → ⊥
outside_apart SaysIgnored a e = absurd (cc (e))
outside_apart SaysFault a e = absurd (cc (e))
outside_apart SaysWaits a e = absurd (cc (e))
outside_apart (SaysPause t u) a e = absurd (cc (e))
outside_apart (SaysJob j) a e = absurd (cc (e))
outside_apart SaysEnded a e = absurd (cc (e))

-- ---- a refusal that is no card's failure

abbrev pub IsQuiet : Panel → ScpiError → Panel → Type 0
IsQuiet p e q = e ≢ HardwareError → q ≡ p

close_quiet : (p : Panel) (chans : List Channel) (f : Bool) (e : ScpiError) (q : Panel) → StepClose p chans f (Refused e) q → IsQuiet p e q
close_quiet p chans f HardwareMissing q h n = h.2
close_quiet p chans f SettingsConflict q h n = h.2
close_quiet p chans f HardwareError q h n = absurd (n refl)
close_quiet p chans f e q h n = absurd h

open_quiet : (p : Panel) (chans : List Channel) (f : Bool) (e : ScpiError) (q : Panel) → StepOpen p chans f (Refused e) q → IsQuiet p e q
open_quiet p chans f HardwareMissing q h n = h.2
open_quiet p chans f HardwareError q h n = absurd (n refl)
open_quiet p chans f e q h n = absurd h

hardware_quiet : (p : Panel) (there : Bool) (text : List ℕ) (f : Bool) (e : ScpiError) (q : Panel) → StepHardware p there text f (Refused e) q → q ≡ p
hardware_quiet p there text f HardwareMissing q h = h.2
hardware_quiet p there text f OutOfMemory q h = h.2
hardware_quiet p there text f e q h = absurd h

listing_quiet : (p : Panel) (listing : List ℕ) (f : Bool) (e : ScpiError) (q : Panel) → StepListing p listing f (Refused e) q → q ≡ p
listing_quiet p listing f OutOfMemory q h = h.1
listing_quiet p listing f e q h = absurd h

text_quiet : (p : Panel) (text : List ℕ) (status : StatusSeen) (f : Bool) (e : ScpiError) (q : Panel) → StepText p text status f (Refused e) q → q ≡ p
text_quiet p text status f OutOfMemory q h = h.1
text_quiet p text status f e q h = absurd h

readings_quiet : (l : List Reading) (p : Panel) (f : Bool) (e : ScpiError) (q : Panel) → StepReadings l p f (Refused e) q → q ≡ p
readings_quiet [] p f e q h = h.2
readings_quiet (r ∷ rs) p f e q h = text_quiet p (join_with_byte 44 (map reading_text (r ∷ rs))) p.status f e q h

alone_quiet : (d : Effect) (p : Panel) (f : Bool) (e : ScpiError) (q : Panel) → StepAlone d p f (Refused e) q → IsQuiet p e q
alone_quiet (TellsText text) p f e q h n = text_quiet p (text p) p.status f e q h
alone_quiet (TellsReadings readings) p f e q h n = readings_quiet (readings p) p f e q h
alone_quiet (ReadsOut text after) p f e q h n = text_quiet p (text p.status) (after p.status) f e q h
alone_quiet (SetsStatus after) p f e q h n = absurd h
alone_quiet (SetsUp Fits error after) p f e q h n = h.3
alone_quiet (ClosesListed chans) p f e q h n = close_quiet p chans f e q h n
alone_quiet (OpensListed chans) p f e q h n = open_quiet p chans f e q h n
alone_quiet (TellsHardware there text) p f e q h n = hardware_quiet p (there p) (text p) f e q h
alone_quiet (TellsSurety text) p f e q h n = absurd h
alone_quiet (TellsListing listing) p f e q h n = listing_quiet p listing f e q h
alone_quiet (Changes after) p f e q h n = absurd h
alone_quiet Resets p f e q h n = absurd h
alone_quiet (RefusesWith error) p f e q h n = h.2
alone_quiet IsOfMacros p f e q h n = h.2
alone_quiet Initiates p f e q h n = h.2
alone_quiet (Triggers happening error) p f e q h n = absurd h

told_quiet : (p : Panel) (happening : Happening) (error : ScpiError) (f : Bool) (e : ScpiError) (told : TakenSeen) (q : Panel)
    → Refused e ≡ session_told error told → Happens p happening f told q → IsQuiet p e q
told_quiet p happening error f e SaysIgnored q a h n = h.2
told_quiet p happening error f e SaysFault q a h n = absurd (n (cc (a)))
told_quiet p happening error f e SaysWaits q a h n = absurd (cc (a))
told_quiet p happening error f e (SaysPause t u) q a h n = absurd (cc (a))
told_quiet p happening error f e (SaysJob j) q a h n = absurd (cc (a))
told_quiet p happening error f e SaysEnded q a h n = absurd (cc (a))

effect_quiet : (d : Effect) (p : Panel) (f : Bool) (e : ScpiError) (w : Option WorkSeen) (q : Panel) → StepEffect d p f (Refused e) w q → IsQuiet p e q
effect_quiet (Triggers happening error) p f e w q h n = told_quiet p happening error f e h.told q h.answer_is h.happens n
effect_quiet d p f e w q h n = alone_quiet d p f e q h.0 n

barred_quiet : (b : Bool) (d : Effect) (p : Panel) (f : Bool) (e : ScpiError) (w : Option WorkSeen) (q : Panel)
    → MatchBool b (StepRefused p SettingsConflict f (Refused e) q × (w ≡ None)) (StepEffect d p f (Refused e) w q) → IsQuiet p e q
barred_quiet true d p f e w q h n = h.0.2
barred_quiet false d p f e w q h n = effect_quiet d p f e w q h n

held_quiet : (b : Bool) (d : Effect) (p : Panel) (ask : SessionAsk) (f : Bool) (e : ScpiError) (w : Option WorkSeen) (q : Panel)
    → MatchBool b (StepHeld p ask f (Refused e) w q) (StepEffect d p f (Refused e) w q) → IsQuiet p e q
held_quiet true d p ask f e w q h n = absurd h
held_quiet false d p ask f e w q h n = effect_quiet d p f e w q h n

action_quiet : (x : Action) (p : Panel) (ask : SessionAsk) (f : Bool) (e : ScpiError) (w : Option WorkSeen) (q : Panel) → StepAction x p ask f (Refused e) w q
    → IsQuiet p e q
action_quiet (AtOnce d) p ask f e w q h n = effect_quiet d p f e w q h n
action_quiet (BetweenScans d) p ask f e w q h n = barred_quiet (is_running p) d p f e w q h n
action_quiet (AfterScan d) p ask f e w q h n = held_quiet (is_running p) d p ask f e w q h n

snapshot_quiet : (p : Panel) (f : Bool) (e : ScpiError) (q : Panel) → StepSnapshot p f (Refused e) q → q ≡ p
snapshot_quiet p f OutOfMemory q h = h.2
snapshot_quiet p f e q h = h.2

start_quiet : (p : Panel) (plan : Snapshot) (f : Bool) (e : ScpiError) (q : Panel) → StepStart p plan f (Refused e) None q → IsQuiet p e q
start_quiet p plan f HardwareError q h n = absurd (n refl)
start_quiet p plan f OutOfMemory q h n = h.3
start_quiet p plan f SettingsConflict q h n = h.2
start_quiet p plan f e q h n = h.2

joined_quiet : (p : Panel) (ask : SessionAsk) (f : Bool) (e : ScpiError) (q : Panel) → StepJoined p ask f (Refused e) None q → IsQuiet p e q
joined_quiet p (Ask.Unit sid command available) f e q h n = action_quiet (action_of available command) p (Ask.Unit sid command available) f e None q h n
joined_quiet p (Ask.Bus sid) f e q h n = told_quiet p Bus TriggerIgnored f e h.told q h.answer_is h.happens n
joined_quiet p (Ask.Snapshot sid) f e q h n = snapshot_quiet p f e q h
joined_quiet p (Ask.Start sid plan) f e q h n = start_quiet p plan f e q h n
joined_quiet p (Ask.Fault sid error) f e q h n = absurd h.served
joined_quiet p (Ask.Attached sid) f e q h n = absurd h.served
joined_quiet p (Ask.Leave sid) f e q h n = absurd h.served
joined_quiet p (Ask.Size sid size) f e q h n = absurd h.served
joined_quiet p (Ask.MaxSize sid) f e q h n = absurd h.served
joined_quiet p (Ask.Clear sid) f e q h n = absurd h.served
joined_quiet p (Ask.Cleared sid) f e q h n = absurd h.served
joined_quiet p (Ask.Lock sid key) f e q h n = absurd h.served
joined_quiet p (Ask.Release sid) f e q h n = absurd h.served
joined_quiet p (Ask.LockInfo sid) f e q h n = absurd h.served
joined_quiet p (Ask.Attach number) f e q h n = absurd h.served
joined_quiet p Ask.Join f e q h n = absurd h.served

admitted_quiet : (now : Admission) (p : Panel) (ask : SessionAsk) (f : Bool) (e : ScpiError) (q : Panel) → StepAdmitted now p ask f (Refused e) None q
    → IsQuiet p e q
admitted_quiet Dropped p ask f e q h n = absurd h
admitted_quiet ShutOut p ask f e q h n = absurd h
admitted_quiet Admitted p ask f e q h n = joined_quiet p ask f e q h n

new_quiet : (p : Panel) (ask : SessionAsk) (f : Bool) (e : ScpiError) (q : Panel) → StepNew p ask f (Refused e) None q → IsQuiet p e q
new_quiet p Ask.Join f e q h n = absurd h
new_quiet p (Ask.Attach number) f e q h n = absurd h
new_quiet p ask f e q h n = absurd h

session_quiet : (o : Option Sid) (p : Panel) (ask : SessionAsk) (f : Bool) (e : ScpiError) (q : Panel) → StepSession o p ask f (Refused e) None q
    → IsQuiet p e q
session_quiet None p ask f e q h n = new_quiet p ask f e q h n
session_quiet (Some sid) p ask f e q h n = admitted_quiet (admission p sid ask) p ask f e q h.1 n

acts_quiet : (p : Panel) (ask : AskSeen) (f : Bool) (e : ScpiError) (q : Panel) → Acts p ask f (SaysSession (Refused e) None) q → IsQuiet p e q
acts_quiet p (AskSession ask) f e q h n = session_quiet (asker_of ask) p ask f e q h n
acts_quiet p (AskFinished done) f e q h n = absurd (outside_apart h.told (Refused e) h.answer_is)
acts_quiet p AskExternal f e q h n = absurd (outside_apart h.told (Refused e) h.answer_is)
acts_quiet p (AskElapsed ticket) f e q h n = absurd (outside_apart h.told (Refused e) h.answer_is)
acts_quiet p ask f e q h n = absurd h

unworn : (ask : AskSeen) (e : ScpiError) → IsWorn ask (SaysSession (Refused e) None) → ⊥
unworn (AskSession ask) e w = w
unworn (AskInstall slot card) e w = w
unworn (AskEject slot) e w = w
unworn AskExternal e w = w
unworn (AskElapsed ticket) e w = w
unworn (AskFinished done) e w = w

pub refused : (p q : Panel) (ask : AskSeen) (failed : Bool) (e : ScpiError) → e ≢ HardwareError → Step p ask failed (SaysSession (Refused e) None) q
    → q ≡ ended (erred p e)
refused p q ask failed e n h =
    let x = event_of p ask failed _ q (unworn ask e) h in
    x.after ∙ ap (λ (y : Panel). ended (erred y e)) (acts_quiet p ask failed e x.done x.acts n)

-- ---- a card's failure

-- a card failed: no scan runs, every relay is open, the queue is as it was, and QUEStionable tells of it
pub record IsDown (p : Panel) (f : Bool) (q : Panel) : Type 0 where
  pub failed : f ≡ true
  pub none : (c : Channel) → is_closed q.cage.cards c ≡ false
  pub idle : q.cage.scan ≡ None
  pub status : q.status ≡ card_fault_reported p.status

falls_down : (p : Panel) (f : Bool) (q : Panel) → f ≡ true → is_running p ≡ false → FailsSafe p q → IsDown p f q
falls_down p f q t idle s =
    record { failed = t; none = s.0.none; idle = ap (λ (x : Panel). x.cage.scan) s.1 ∙ is_none p.cage.scan idle; status = ap (λ (x : Panel). x.status) s.1 }

readings_down : (l : List Reading) (p : Panel) (f : Bool) (q : Panel) → StepReadings l p f (Refused HardwareError) q → IsDown p f q
readings_down [] p f q h = absurd (let x : HardwareError ≡ DataCorruptOrStale = h.1 in cc (x))
readings_down (r ∷ rs) p f q h = absurd h

undefined_down : (p : Panel) (f : Bool) (q : Panel) → StepRefused p UndefinedHeader f (Refused HardwareError) q → IsDown p f q
undefined_down p f q h = absurd (let x : HardwareError ≡ UndefinedHeader = h.1 in cc (x))

alone_down : (d : Effect) (p : Panel) (f : Bool) (q : Panel) → IsHarmless p d → StepAlone d p f (Refused HardwareError) q → IsDown p f q
alone_down (TellsText text) p f q n h = absurd h
alone_down (TellsReadings readings) p f q n h = readings_down (readings p) p f q h
alone_down (ReadsOut text after) p f q n h = absurd h
alone_down (SetsStatus after) p f q n h = absurd h
alone_down (SetsUp Fits error after) p f q n h = absurd (n.1 (sym h.2))
alone_down (ClosesListed chans) p f q n h = falls_down p f q h.0 n h.2
alone_down (OpensListed chans) p f q n h = falls_down p f q h.0 n h.2
alone_down (TellsHardware there text) p f q n h = absurd h
alone_down (TellsSurety text) p f q n h = absurd h
alone_down (TellsListing listing) p f q n h = absurd h
alone_down (Changes after) p f q n h = absurd h
alone_down Resets p f q n h = absurd h
alone_down (RefusesWith error) p f q n h = absurd (n (sym h.1))
alone_down IsOfMacros p f q n h = undefined_down p f q h
alone_down Initiates p f q n h = undefined_down p f q h
alone_down (Triggers happening error) p f q n h = absurd h

past_down : (c q : CageSeen) (scan : Option ScanSeen) → AdvancesPastFrom c scan SaysFault q → ((x : Channel) → is_closed q.cards x ≡ false) × (q.scan ≡ None)
past_down c q None h = absurd h
past_down c q (Some at) h = (h.runs.fallen.none, h.runs.over)

told_down : (p : Panel) (happening : Happening) (error : ScpiError) (f : Bool) (told : TakenSeen) (q : Panel) → error ≢ HardwareError
    → Refused HardwareError ≡ session_told error told → Happens p happening f told q → IsDown p f q
told_down p happening error f SaysFault q n a h = let r = past_down p.cage q.cage p.cage.scan h.1 in
    record { failed = h.2.0; none = r.0; idle = r.1; status = ap (λ (x : Panel). x.status) h.2.1 }
told_down p happening error f SaysIgnored q n a h = absurd (n (let x : HardwareError ≡ error = cc (a) in sym x))
told_down p happening error f SaysWaits q n a h = absurd (cc (a))
told_down p happening error f (SaysPause t u) q n a h = absurd (cc (a))
told_down p happening error f (SaysJob j) q n a h = absurd (cc (a))
told_down p happening error f SaysEnded q n a h = absurd (cc (a))

trigger_plain : TriggerIgnored ≢ HardwareError
trigger_plain e = absurd (cc (e))

effect_down : (d : Effect) (p : Panel) (f : Bool) (w : Option WorkSeen) (q : Panel) → IsHarmless p d → StepEffect d p f (Refused HardwareError) w q
    → IsDown p f q
effect_down (Triggers happening error) p f w q n h = told_down p happening error f h.told q n h.answer_is h.happens
effect_down d p f w q n h = alone_down d p f q n h.0

barred_down : (b : Bool) (d : Effect) (p : Panel) (f : Bool) (w : Option WorkSeen) (q : Panel) → (b ≡ false → IsHarmless p d)
    → MatchBool b (StepRefused p SettingsConflict f (Refused HardwareError) q × (w ≡ None)) (StepEffect d p f (Refused HardwareError) w q) → IsDown p f q
barred_down true d p f w q n h = absurd (let x : HardwareError ≡ SettingsConflict = h.0.1 in cc (x))
barred_down false d p f w q n h = effect_down d p f w q (n refl) h

held_down : (b : Bool) (d : Effect) (p : Panel) (ask : SessionAsk) (f : Bool) (w : Option WorkSeen) (q : Panel) → IsHarmless p d
    → MatchBool b (StepHeld p ask f (Refused HardwareError) w q) (StepEffect d p f (Refused HardwareError) w q) → IsDown p f q
held_down true d p ask f w q n h = absurd h
held_down false d p ask f w q n h = effect_down d p f w q n h

action_down : (x : Action) (p : Panel) (ask : SessionAsk) (f : Bool) (w : Option WorkSeen) (q : Panel) → IsHarmlessAction p x
    → StepAction x p ask f (Refused HardwareError) w q → IsDown p f q
action_down (AtOnce d) p ask f w q n h = effect_down d p f w q n h
action_down (BetweenScans d) p ask f w q n h = barred_down (is_running p) d p f w q n h
action_down (AfterScan d) p ask f w q n h = held_down (is_running p) d p ask f w q n h

start_down : (p : Panel) (plan : Snapshot) (f : Bool) (told : TakenSeen) (w : Option WorkSeen) (q : Panel) → Refused HardwareError ≡ started_answer told
    → Starts p plan f told q → IsDown p f q
start_down p plan f SaysFault w q a h = record { failed = h.0; none = h.3.runs.fallen.none; idle = h.3.runs.over; status = ap (λ (x : Panel). x.status) h.4 }
start_down p plan f SaysIgnored w q a h = absurd (cc (a))
start_down p plan f SaysWaits w q a h = absurd (cc (a))
start_down p plan f (SaysPause t u) w q a h = absurd (cc (a))
start_down p plan f (SaysJob j) w q a h = absurd (cc (a))
start_down p plan f SaysEnded w q a h = absurd (cc (a))

joined_down : (p : Panel) (ask : SessionAsk) (f : Bool) (w : Option WorkSeen) (q : Panel) → StepJoined p ask f (Refused HardwareError) w q → IsDown p f q
joined_down p (Ask.Unit sid command available) f w q h =
    action_down (action_of available command) p (Ask.Unit sid command available) f w q (harmless p available command) h
joined_down p (Ask.Bus sid) f w q h = told_down p Bus TriggerIgnored f h.told q trigger_plain h.answer_is h.happens
joined_down p (Ask.Snapshot sid) f None q h = absurd h.1
joined_down p (Ask.Start sid plan) f w q h = start_down p plan f h.told w q h.answer_is h.starts
joined_down p (Ask.Fault sid error) f None q h = absurd h.served
joined_down p (Ask.Attached sid) f None q h = absurd h.served
joined_down p (Ask.Leave sid) f None q h = absurd h.served
joined_down p (Ask.Size sid size) f None q h = absurd h.served
joined_down p (Ask.MaxSize sid) f None q h = absurd h.served
joined_down p (Ask.Clear sid) f None q h = absurd h.served
joined_down p (Ask.Cleared sid) f None q h = absurd h.served
joined_down p (Ask.Lock sid key) f None q h = absurd h.served
joined_down p (Ask.Release sid) f None q h = absurd h.served
joined_down p (Ask.LockInfo sid) f None q h = absurd h.served
joined_down p (Ask.Attach number) f None q h = absurd h.served
joined_down p Ask.Join f None q h = absurd h.served
joined_down p ask f w q h = absurd h

admitted_down : (now : Admission) (p : Panel) (ask : SessionAsk) (f : Bool) (w : Option WorkSeen) (q : Panel)
    → StepAdmitted now p ask f (Refused HardwareError) w q
    → IsDown p f q
admitted_down Dropped p ask f w q h = absurd h
admitted_down ShutOut p ask f w q h = absurd h
admitted_down Admitted p ask f w q h = joined_down p ask f w q h

new_down : (p : Panel) (ask : SessionAsk) (f : Bool) (w : Option WorkSeen) (q : Panel) → StepNew p ask f (Refused HardwareError) w q → IsDown p f q
new_down p Ask.Join f w q h = absurd h
new_down p (Ask.Attach number) f w q h = absurd h
new_down p ask f w q h = absurd h

session_down : (o : Option Sid) (p : Panel) (ask : SessionAsk) (f : Bool) (w : Option WorkSeen) (q : Panel) → StepSession o p ask f (Refused HardwareError) w q
    → IsDown p f q
session_down None p ask f w q h = new_down p ask f w q h
session_down (Some sid) p ask f w q h = admitted_down (admission p sid ask) p ask f w q h.1

-- told to no session

outside_fault : (told : TakenSeen) → SaysFailed ≡ outside_told told → told ≡ SaysFault
outside_fault SaysFault e = refl
outside_fault told e = absurd (cc (e))

happens_down : (p : Panel) (happening : Happening) (f : Bool) (q : Panel) → Happens p happening f SaysFault q → IsDown p f q
happens_down p happening f q h = let r = past_down p.cage q.cage p.cage.scan h.1 in
    record { failed = h.2.0; none = r.0; idle = r.1; status = ap (λ (x : Panel). x.status) h.2.1 }

outside_down : (p : Panel) (happening : Happening) (f : Bool) (q : Panel) → StepOutside p happening f SaysFailed q → IsDown p f q
outside_down p happening f q h =
    happens_down p happening f q (subst (λ (t : TakenSeen). Happens p happening f t q) (outside_fault h.told h.answer_is) h.happens)

counts_down : (c q : CageSeen) (outcome : Result Reading CardFault) → Counts c outcome SaysFault q → ((x : Channel) → is_closed q.cards x ≡ false)
    × (q.scan ≡ None)
counts_down c q (Ok r) g = past_down (with_reading c r) q c.scan g
counts_down c q (Err e) g = (λ x. ap (λ (y : CageSeen). is_closed y.cards x) g.1 ∙ all_open_closed c.cards x, ap (λ (y : CageSeen). y.scan) g.1)

returns_down : (p : Panel) (done : FinishedSeen) (f : Bool) (q : Panel) → Returns p done f SaysFault q → IsDown p f q
returns_down p done f q h =
    let r = counts_down (with_back p.cage done) q.cage done.outcome h.1 in
    record { failed = h.2.0; none = r.0; idle = r.1; status = ap (λ (x : Panel). x.status) h.2.1 }

acts_down : (p : Panel) (ask : AskSeen) (f : Bool) (w : Option WorkSeen) (q : Panel) → Acts p ask f (SaysSession (Refused HardwareError) w) q → IsDown p f q
acts_down p (AskSession ask) f w q h = session_down (asker_of ask) p ask f w q h
acts_down p (AskFinished done) f w q h = absurd (is_outside h.told (SaysSession (Refused HardwareError) w) h.answer_is)
acts_down p AskExternal f w q h = absurd (is_outside h.told (SaysSession (Refused HardwareError) w) h.answer_is)
acts_down p (AskElapsed ticket) f w q h = absurd (is_outside h.told (SaysSession (Refused HardwareError) w) h.answer_is)
acts_down p ask f w q h = absurd h

fails_down : (p : Panel) (ask : AskSeen) (f : Bool) (q : Panel) → Acts p ask f SaysFailed q → IsDown p f q
fails_down p AskExternal f q h = outside_down p External f q h
fails_down p (AskElapsed ticket) f q h = outside_down p (Elapsed ticket) f q h
fails_down p (AskFinished done) f q h = returns_down p done f q (subst (λ (t : TakenSeen). Returns p done f t q) (outside_fault h.told h.answer_is) h.returns)
fails_down p ask f q h = absurd h

worn_failure : (ask : AskSeen) (w : Option WorkSeen) → IsWorn ask (SaysSession (Refused HardwareError) w) → ⊥
worn_failure (AskSession ask) w h = h
worn_failure (AskInstall slot card) w h = h
worn_failure (AskEject slot) w h = h
worn_failure AskExternal w h = h
worn_failure (AskElapsed ticket) w h = h
worn_failure (AskFinished done) w h = h

worn_failed : (ask : AskSeen) → IsWorn ask SaysFailed → ⊥
worn_failed (AskSession ask) h = h
worn_failed (AskInstall slot card) h = h
worn_failed (AskEject slot) h = h
worn_failed AskExternal h = h
worn_failed (AskElapsed ticket) h = h
worn_failed (AskFinished done) h = h

down_after : (p done q : Panel) (f : Bool) → IsDown p f done → q ≡ ended (erred done HardwareError) → (f ≡ true) × IsAfterCardFault p q
down_after p done q f d after = (
  d.failed,
  record {
    none = λ c. ap (λ (y : Panel). is_closed y.cage.cards c) after ∙ d.none c;
    idle = ap (λ (y : Panel). y.cage.scan) after ∙ d.idle;
    told = ap (λ (y : Panel). y.status.errors) after ∙ ap (λ (s : StatusSeen). queued s.errors HardwareError) d.status;
    condition = ap (λ (y : Panel). y.status.questionable.condition) after ∙ ap (λ (s : StatusSeen). s.questionable.condition) d.status;
  },
)

pub failed : (p q : Panel) (ask : AskSeen) (failed : Bool) (answer : AnswerSeen) → tells_failure answer ≡ true → Step p ask failed answer q → (failed ≡ true)
    × IsAfterCardFault p q
failed p q ask f SaysFailed t h = let x = event_of p ask f SaysFailed q (worn_failed ask) h in
    down_after p x.done q f (fails_down p ask f x.done x.acts) x.after
failed p q ask f (SaysSession (Refused HardwareError) w) t h =
    let x = event_of p ask f (SaysSession (Refused HardwareError) w) q (worn_failure ask w) h in
    down_after p x.done q f (acts_down p ask f w x.done x.acts) x.after
failed p q ask f answer t h = absurd (cc (t))
