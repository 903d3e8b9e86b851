-- No step takes the mainframe from a fine state to another: by cases on the step.
use Rattle.std.proofs.Common.{◌≡◌, ℕ, ◌-◌, ◌≤◌, ◌<◌, ◌==◌, ◌&&◌, not, Bool, true, false, List, [], ◌∷◌, length, Option, None, Some, slice_set, refl, sym}
use Rattle.std.proofs.Common.{◌∙◌, ap, subst, arith, is_some, zero, suc, nat_lt, slice_index_or, map}
use Rattle.std.specs.Prelude.{if◌then◌else◌, MatchBool}
use Rattle.std.specs.List.{join_with_byte}
use Rattle.sw_base.specs.Reading.{reading_text}
use Rattle.std.proofs.lemmas.List.{length-map}
use Rattle.sw_base.specs.Layout.{Channel, slot_at}
use Rattle.sw_base.specs.Limits.{most_slots}
use Rattle.sw_base.specs.declared.reading.Reading.{Reading}
use Rattle.sw_base.specs.declared.error.ScpiError.{ScpiError}
use Rattle.sw_base.specs.declared.error.ScpiError.TheVariants.{UndefinedHeader, DataCorruptOrStale}
use Rattle.sw_base.specs.declared.error.ScpiError.TheVariants.{HardwareMissing, SettingsConflict, HardwareError, OutOfMemory}
use Rattle.sw_card.specs.Account.{Account, closed_at}
use Rattle.sw_trigger.specs.Settings.{IsInRange}
use Rattle.sw_verify.specs.declared.setup.Setup.{Setup}
use Rattle.sw_verify.specs.Setup.{meter_of}
use Rattle.sw_verify.specs.declared.snapshot.Snapshot.{Snapshot}
use Rattle.sw_status.specs.StatusModel.{StatusSeen, IsStatus, pushed}
use Rattle.sw_cage.specs.Accounts.{Accounts, layout_of, is_closed, option_closed, all_open, option_rest}
use Rattle.sw_cage.specs.Change.{Sets}
use Rattle.sw_cage.specs.Close.{CanClose}
use Rattle.sw_cage.specs.Cage.{CageSeen, ScanSeen, safe_state}
use Rattle.sw_cage.specs.Good.{IsRunning}
use Rattle.sw_cage.specs.Install.{CanInstall, stopped, without_card}
use Rattle.sw_cage.specs.Outcome.{with_back}
use Rattle.sw_cage.specs.Work.{FinishedSeen}
use Rattle.sw_cage.specs.TakenSeen.{TakenSeen, SaysIgnored, SaysWaits, SaysPause, SaysJob, SaysEnded, SaysFault}
use Rattle.sw_cage.specs.declared.taken.Happening.{Happening}
use Rattle.sw_cage.specs.declared.taken.Happening.TheVariants.{Bus, External, Elapsed}
use Rattle.sw_cage.proofs.SlotChangeLemmas.{some_slot, is_none, all_open_closed, exclusive_none, exclusive_quiet, none_slot}
use Rattle.sw_cage.proofs.ChannelCallLemmas.{identities_rest}
use Rattle.sw_cage.proofs.KeptLemmas.{held_set}
use Rattle.sw_cage.proofs.ExclusionLemmas.{exclusive_closing, exclusive_opening}
use Rattle.sw_core.specs.declared.ask.Sid.{Sid}
use Rattle.sw_core.specs.declared.ask.SessionAsk.{SessionAsk}
use Rattle.sw_core.specs.declared.ask.SessionAsk.TheVariants as Ask
use Rattle.sw_core.specs.declared.ask.SessionAnswer.{SessionAnswer}
use Rattle.sw_core.specs.declared.ask.SessionAnswer.TheVariants as answers
use Rattle.sw_core.specs.declared.ask.SessionAnswer.TheVariants.{Joined, Full, Stranger, Broken, Done, Refused, Hold, Worn}
use Rattle.sw_core.specs.Panel.{Panel, opening_at, with_cards, is_running}
use Rattle.sw_core.specs.Action.{Effect, TellsText, TellsReadings, ReadsOut, SetsStatus, SetsUp, ClosesListed, OpensListed, TellsHardware, TellsSurety, TellsListing}
use Rattle.sw_core.specs.Action.{Changes}
use Rattle.sw_core.specs.Action.{Resets, reset, Triggers, RefusesWith, IsOfMacros, Initiates, Action, AtOnce, BetweenScans, AfterScan, action_of}
use Rattle.sw_core.specs.Event.{concluded, session_concluded, last_number}
use Rattle.sw_core.specs.Seen.{WorkSeen, AskSeen, AskSession, AskInstall, AskEject, AskExternal, AskElapsed, AskFinished, AnswerSeen, SaysSession}
use Rattle.sw_core.specs.Seen.{SaysInstalled, SaysNotInstalled, SaysEjected, SaysNotEjected, SaysTaken, SaysMissed, SaysFailed, SaysBack, SaysWorn}
use Rattle.sw_core.specs.Seats.{asker_of}
use Rattle.sw_core.specs.Step.{FailsSafe, StepClose, StepOpen, StepHardware, StepSurety, StepListing, StepText, StepDone, StepSetting, StepRefused, StepReadings, StepAlone, StepEffect}
use Rattle.sw_core.specs.Step.{StepHeld, StepAction}
use Rattle.sw_core.specs.Step.{Happens, MayScan, StepSnapshot, Starts, StepStart, StepJoin, StepAttach, StepNew, IsServed, StepJoined, StepAdmitted}
use Rattle.sw_core.specs.Step.{StepSession, StepOutside, IsOut, Returns, StepFinished, Acts, acts_unnumbered, IsEvent, IsUnnumbered, Step}
use Rattle.sw_core.specs.Step.{Admission, Dropped, ShutOut, Admitted, admission}
use Rattle.std.specs.Prelude.{replicate}
use Rattle.sw_cage.specs.declared.job.Ticket.{Ticket}
use Rattle.sw_core.specs.Good.{OptionFew}
use Rattle.sw_core.proofs.KeptLemmas.{IsKept, few_set, kept_rack, kept_past, kept_late, kept_counted, kept_begun}
use Rattle.std.proofs.Common.{Result, Ok, Err, ◌+◌}
use Rattle.sw_card.specs.declared.board.CardFault.{CardFault}
use Rattle.sw_base.specs.declared.terms.StatusGroup.TheVariants.{Operation}
use Rattle.sw_verify.specs.Course.{CourseSeen}
use Rattle.sw_verify.specs.Setup.{course_of}
use Rattle.sw_cage.specs.Advance.{next_place}
use Rattle.sw_cage.specs.TakenSeen.{tells_fault}
use Rattle.sw_cage.specs.Outcome.{Advances, AdvancesPastFrom, Counts, with_reading, begun}
use Rattle.sw_status.proofs.Limits.{status-kept, status-start}
use Rattle.sw_core.specs.Registers.{card_fault_reported, card_fault_cleared}
use Rattle.sw_core.specs.Sessions.{with_seat, fresh_seat}
use Rattle.sw_core.specs.Event.{ended, erred, completed, with_operation, scan_bits, next_number}
use Rattle.sw_trigger.proofs.Ranges.{reset_range}
use Rattle.sw_core.proofs.HarmlessLemmas.{IsFine, KeepsTo, GoesBy, by_none, fine_is, none_of, told_group, reported_status, cleared_status, fallen_all}
use Rattle.sw_core.proofs.HarmlessLemmas.{dropped, IsHarmless, IsHarmlessAction, harmless}

-- ---- commands

closing_fine : (p q : Panel) (chans : List Channel) → IsFine p → is_running p ≡ false → CanClose (layout_of p.cage.cards) (is_closed p.cage.cards) chans
    → Sets p.cage.cards chans true q.cage.cards → q ≡ with_cards p q.cage.cards → IsFine q
closing_fine p q chans k idle may s e =
    fine_is (with_cards p q.cage.cards) q e (record {
      cage =
          kept_rack p.cage q.cage.cards k.cage (none_of p idle) (identities_rest p.cage.cards q.cage.cards s.rest)
          (exclusive_closing p.cage.cards q.cage.cards chans k.cage.safe may s);
      range = k.range;
      settings = k.settings;
      status = k.status;
    })

opening_fine : (p q : Panel) (chans : List Channel) → IsFine p → is_running p ≡ false → Sets p.cage.cards chans false q.cage.cards
    → q ≡ with_cards p q.cage.cards → IsFine q
opening_fine p q chans k idle s e =
    fine_is (with_cards p q.cage.cards) q e (record {
      cage =
          kept_rack p.cage q.cage.cards k.cage (none_of p idle) (identities_rest p.cage.cards q.cage.cards s.rest)
          (exclusive_opening p.cage.cards q.cage.cards chans k.cage.safe s);
      range = k.range;
      settings = k.settings;
      status = k.status;
    })

falling_fine : (p q : Panel) → IsFine p → is_running p ≡ false → FailsSafe p q → IsFine q
falling_fine p q k idle f =
    let next : Panel = record (with_cards p q.cage.cards) { status = card_fault_reported p.status } in
    fine_is next q f.1 (record {
      cage = kept_rack p.cage q.cage.cards k.cage (none_of p idle) f.0.cards (exclusive_none _ _ f.0.none);
      range = k.range;
      settings = k.settings;
      status = reported_status p.status k.status;
    })

close_fine : (p : Panel) (chans : List Channel) (f : Bool) (a : SessionAnswer) (q : Panel) → IsFine p → is_running p ≡ false → StepClose p chans f a q
    → IsFine q
close_fine p chans f (Done None) q k i h = closing_fine p q chans k i h.1 h.2 h.3
close_fine p chans f (Refused HardwareMissing) q k i h = fine_is p q h.2 k
close_fine p chans f (Refused SettingsConflict) q k i h = fine_is p q h.2 k
close_fine p chans f (Refused HardwareError) q k i h = falling_fine p q k i h.2
close_fine p chans f a q k i h = absurd h

open_fine : (p : Panel) (chans : List Channel) (f : Bool) (a : SessionAnswer) (q : Panel) → IsFine p → is_running p ≡ false → StepOpen p chans f a q → IsFine q
open_fine p chans f (Done None) q k i h = opening_fine p q chans k i h.2 h.3
open_fine p chans f (Refused HardwareMissing) q k i h = fine_is p q h.2 k
open_fine p chans f (Refused HardwareError) q k i h = falling_fine p q k i h.2
open_fine p chans f a q k i h = absurd h

hardware_fine : (p : Panel) (there : Bool) (text : List ℕ) (f : Bool) (a : SessionAnswer) (q : Panel) → IsFine p → StepHardware p there text f a q
    → IsFine q
hardware_fine p there text f (Done (Some t)) q k h = fine_is p q h.3 k
hardware_fine p there text f (Refused HardwareMissing) q k h = fine_is p q h.2 k
hardware_fine p there text f (Refused OutOfMemory) q k h = fine_is p q h.2 k
hardware_fine p there text f a q k h = absurd h

surety_fine : (p : Panel) (text : Bool → List ℕ) (f : Bool) (a : SessionAnswer) (q : Panel) → IsFine p → StepSurety p text f a q → IsFine q
surety_fine p text f (Done (Some t)) q k h = fine_is p q h.2 k
surety_fine p text f a q k h = absurd h

listing_fine : (p : Panel) (listing : List ℕ) (f : Bool) (a : SessionAnswer) (q : Panel) → IsFine p → StepListing p listing f a q → IsFine q
listing_fine p listing f (Done (Some t)) q k h = fine_is p q h.2 k
listing_fine p listing f (Refused OutOfMemory) q k h = fine_is p q h.1 k
listing_fine p listing f a q k h = absurd h

text_fine : (p : Panel) (text : List ℕ) (status : StatusSeen) (f : Bool) (a : SessionAnswer) (q : Panel) → IsFine p → IsStatus status
    → StepText p text status f a q → IsFine q
text_fine p text status f (Done (Some t)) q k u h =
    fine_is (record p { status = status }) q h.2 (record { cage = k.cage; range = k.range; settings = k.settings; status = u })
text_fine p text status f (Refused OutOfMemory) q k u h = fine_is p q h.1 k
text_fine p text status f a q k u h = absurd h

done_fine : (after : Panel) (f : Bool) (a : SessionAnswer) (q : Panel) → IsFine after → StepDone after f a q → IsFine q
done_fine after f (Done None) q k h = fine_is after q h.1 k
done_fine after f a q k h = absurd h

setting_fine : (p : Panel) (Fits : Type 0) (error : ScpiError) (setup : Setup) (f : Bool) (a : SessionAnswer) (q : Panel) → IsFine p
    → is_running p ≡ false
    → (Fits → IsInRange p.settings.scan → IsInRange setup.scan) → StepSetting p Fits error setup f a q → IsFine q
setting_fine p Fits error setup f (Done None) q k i r h =
    fine_is (record p { settings = setup }) q h.2 (record {
      cage = k.cage;
      range = r h.1 k.range;
      settings = by_none p.cage.scan (course_of setup) (none_of p i);
      status = k.status;
    })
setting_fine p Fits error setup f (Refused e) q k i r h = fine_is p q h.3 k
setting_fine p Fits error setup f a q k i r h = absurd h

refused_fine : (p : Panel) (error : ScpiError) (f : Bool) (a : SessionAnswer) (q : Panel) → IsFine p → StepRefused p error f a q → IsFine q
refused_fine p error f (Refused e) q k h = fine_is p q h.2 k
refused_fine p error f a q k h = absurd h

readings_fine : (l : List Reading) (p : Panel) (f : Bool) (a : SessionAnswer) (q : Panel) → IsFine p → StepReadings l p f a q → IsFine q
readings_fine [] p f a q k h = refused_fine p DataCorruptOrStale f a q k h
readings_fine (r ∷ rs) p f a q k h = text_fine p (join_with_byte 44 (map reading_text (r ∷ rs))) p.status f a q k k.status h

alone_fine : (d : Effect) (p : Panel) (f : Bool) (a : SessionAnswer) (q : Panel) → IsFine p → IsHarmless p d → StepAlone d p f a q → IsFine q
alone_fine (TellsText text) p f a q k n h = text_fine p (text p) p.status f a q k k.status h
alone_fine (TellsReadings readings) p f a q k n h = readings_fine (readings p) p f a q k h
alone_fine (ReadsOut text after) p f a q k n h = text_fine p (text p.status) (after p.status) f a q k (n k.status) h
alone_fine (SetsStatus after) p f a q k n h =
    done_fine (record p { status = after p.status }) f a q (record { cage = k.cage; range = k.range; settings = k.settings; status = n k.status }) h
alone_fine (SetsUp Fits error after) p f a q k n h = setting_fine p (Fits p.settings) error (after p.settings) f a q k n.2 n.0 h
alone_fine (ClosesListed chans) p f a q k n h = close_fine p chans f a q k n h
alone_fine (OpensListed chans) p f a q k n h = open_fine p chans f a q k n h
alone_fine (TellsHardware there text) p f a q k n h = hardware_fine p (there p) (text p) f a q k h
alone_fine (TellsSurety text) p f a q k n h = surety_fine p (text p) f a q k h
alone_fine (TellsListing listing) p f a q k n h = listing_fine p listing f a q k h
alone_fine Resets p f a q k n h =
    done_fine (reset p) f a q (record {
      cage = dropped (safe_state p.cage) (fallen_all p.cage k.cage) refl;
      range = reset_range;
      settings = tt;
      status = cleared_status p.status k.status;
    }) h
alone_fine (Changes after) p f a q k n h = done_fine (after p) f a q (n k) h
alone_fine (RefusesWith error) p f a q k n h = refused_fine p error f a q k h
alone_fine IsOfMacros p f a q k n h = refused_fine p UndefinedHeader f a q k h
alone_fine Initiates p f a q k n h = refused_fine p UndefinedHeader f a q k h
alone_fine (Triggers happening error) p f a q k n h = absurd h

-- ---- scans

-- a scan goes on by its settings
by_place : (s : CourseSeen) (i : ℕ) (scan : Option ScanSeen) → scan ≡ Some (next_place s i) → KeepsTo scan s
by_place s i scan e = subst (λ (o : Option ScanSeen). KeepsTo o s) (sym e) refl

by_goes : (c q : CageSeen) (s : CourseSeen) (i : ℕ) (told : TakenSeen) → Advances c s i told q → KeepsTo q.scan s
by_goes c q s i SaysIgnored g = absurd g.runs.arrives
by_goes c q s i SaysWaits g = by_place s i q.scan g.runs.arrives.2
by_goes c q s i (SaysPause t u) g = by_place s i q.scan g.runs.arrives.3
by_goes c q s i (SaysJob job) g = by_place s i q.scan g.runs.arrives.2
by_goes c q s i SaysEnded g = by_none q.scan s g.runs.arrives.2
by_goes c q s i SaysFault g = by_none q.scan s g.runs.over

by_past : (c q : CageSeen) (scan : Option ScanSeen) (s : CourseSeen) (told : TakenSeen) → KeepsTo scan s → AdvancesPastFrom c scan told q → KeepsTo q.scan s
by_past c q None s told k g = absurd g
by_past c q (Some at) s told k g = subst (λ (x : CourseSeen). KeepsTo q.scan x) k (by_goes c q at.course (at.index + 1) told g)

by_counts : (c q : CageSeen) (outcome : Result Reading CardFault) (s : CourseSeen) (told : TakenSeen) → KeepsTo c.scan s → Counts c outcome told q
    → KeepsTo q.scan s
by_counts c q (Ok r) s told k g = by_past (with_reading c r) q c.scan s told k g
by_counts c q (Err e) s told k g = by_none q.scan s (ap (λ (x : CageSeen). x.scan) g.1)

status_if : (b : Bool) (s t : StatusSeen) → IsStatus s → IsStatus t → IsStatus (if b then s else t)
status_if true s t u v = u
status_if false s t u v = v

reported_fine : (p q : Panel) (told : TakenSeen) → IsFine p → IsKept q.cage → GoesBy q.cage.scan p.settings
    → q ≡ record p { cage = q.cage; status = if tells_fault told then card_fault_reported p.status else p.status } → IsFine q
reported_fine p q told k c g e =
    let s : StatusSeen = if tells_fault told then card_fault_reported p.status else p.status in
    let u : IsStatus s = status_if (tells_fault told) (card_fault_reported p.status) p.status (reported_status p.status k.status) k.status in
    let next : Panel = record p { cage = q.cage; status = s } in
    fine_is next q e (record { cage = c; range = k.range; settings = g; status = u })

happens_fine : (p : Panel) (happening : Happening) (f : Bool) (told : TakenSeen) (q : Panel) → IsFine p → Happens p happening f told q → IsFine q
happens_fine p happening f SaysIgnored q k h = fine_is p q h.2 k
happens_fine p happening f SaysWaits q k h =
    reported_fine p q SaysWaits k (kept_past p.cage q.cage happening SaysWaits k.cage h.0 h.1)
    (by_past p.cage q.cage p.cage.scan (course_of p.settings) SaysWaits k.settings h.1) h.2.1
happens_fine p happening f (SaysPause t u) q k h =
    reported_fine p q (SaysPause t u) k (kept_past p.cage q.cage happening (SaysPause t u) k.cage h.0 h.1)
    (by_past p.cage q.cage p.cage.scan (course_of p.settings) (SaysPause t u) k.settings h.1) h.2.1
happens_fine p happening f (SaysJob job) q k h =
    reported_fine p q (SaysJob job) k (kept_past p.cage q.cage happening (SaysJob job) k.cage h.0 h.1)
    (by_past p.cage q.cage p.cage.scan (course_of p.settings) (SaysJob job) k.settings h.1) h.2.1
happens_fine p happening f SaysEnded q k h =
    reported_fine p q SaysEnded k (kept_past p.cage q.cage happening SaysEnded k.cage h.0 h.1)
    (by_past p.cage q.cage p.cage.scan (course_of p.settings) SaysEnded k.settings h.1) h.2.1
happens_fine p happening f SaysFault q k h =
    reported_fine p q SaysFault k (kept_past p.cage q.cage happening SaysFault k.cage h.0 h.1)
    (by_past p.cage q.cage p.cage.scan (course_of p.settings) SaysFault k.settings h.1) h.2.1

returns_fine : (p : Panel) (done : FinishedSeen) (f : Bool) (told : TakenSeen) (q : Panel) → IsFine p → IsOut p done → Returns p done f told q → IsFine q
returns_fine p done f SaysIgnored q k out h =
    fine_is (record p { cage = with_back p.cage done }) q h.2 (record {
      cage = kept_late p.cage done k.cage out h.1;
      range = k.range;
      settings = k.settings;
      status = k.status;
    })
returns_fine p done f SaysWaits q k out h =
    reported_fine p q SaysWaits k (kept_counted p.cage q.cage done SaysWaits k.cage out h.0 h.1)
    (by_counts (with_back p.cage done) q.cage done.outcome (course_of p.settings) SaysWaits k.settings h.1) h.2.1
returns_fine p done f (SaysPause t u) q k out h =
    reported_fine p q (SaysPause t u) k (kept_counted p.cage q.cage done (SaysPause t u) k.cage out h.0 h.1)
    (by_counts (with_back p.cage done) q.cage done.outcome (course_of p.settings) (SaysPause t u) k.settings h.1) h.2.1
returns_fine p done f (SaysJob job) q k out h =
    reported_fine p q (SaysJob job) k (kept_counted p.cage q.cage done (SaysJob job) k.cage out h.0 h.1)
    (by_counts (with_back p.cage done) q.cage done.outcome (course_of p.settings) (SaysJob job) k.settings h.1) h.2.1
returns_fine p done f SaysEnded q k out h =
    reported_fine p q SaysEnded k (kept_counted p.cage q.cage done SaysEnded k.cage out h.0 h.1)
    (by_counts (with_back p.cage done) q.cage done.outcome (course_of p.settings) SaysEnded k.settings h.1) h.2.1
returns_fine p done f SaysFault q k out h =
    reported_fine p q SaysFault k (kept_counted p.cage q.cage done SaysFault k.cage out h.0 h.1)
    (by_counts (with_back p.cage done) q.cage done.outcome (course_of p.settings) SaysFault k.settings h.1) h.2.1

starts_fine : (p : Panel) (plan : Snapshot) (f : Bool) (told : TakenSeen) (q : Panel) → IsFine p → MayScan p → Starts p plan f told q → IsFine q
starts_fine p plan f told q k may h =
    let s : StatusSeen = if tells_fault told then card_fault_reported p.status else card_fault_cleared p.status in
    let u : IsStatus s = status_if (tells_fault told) _ _ (reported_status p.status k.status) (cleared_status p.status k.status) in
    let next : Panel = record p { cage = q.cage; status = s } in
    let c : IsKept q.cage = kept_begun p.cage q.cage p.settings plan told k.cage (is_none (slot_at p.cage.out (meter_of p.settings)) may.home) k.range h.2 h.1 h.3 in
    fine_is next q h.4 (record { cage = c; range = k.range; settings = by_goes (begun p.cage) q.cage (course_of p.settings) 0 told h.3; status = u })

effect_fine : (d : Effect) (p : Panel) (f : Bool) (a : SessionAnswer) (w : Option WorkSeen) (q : Panel) → IsFine p → IsHarmless p d → StepEffect d p f a w q
    → IsFine q
effect_fine (Triggers happening error) p f a w q k n h = happens_fine p happening f h.told q k h.happens
effect_fine d p f a w q k n h = alone_fine d p f a q k n h.0

held_fine : (p : Panel) (ask : SessionAsk) (f : Bool) (a : SessionAnswer) (w : Option WorkSeen) (q : Panel) → IsFine p → StepHeld p ask f a w q → IsFine q
held_fine p ask f (Hold back) None q k h = fine_is p q h.2 k
held_fine p ask f a w q k h = absurd h

barred_fine : (b : Bool) (d : Effect) (p : Panel) (f : Bool) (a : SessionAnswer) (w : Option WorkSeen) (q : Panel) → IsFine p → (b ≡ false → IsHarmless p d)
    → MatchBool b (StepRefused p SettingsConflict f a q × (w ≡ None)) (StepEffect d p f a w q) → IsFine q
barred_fine true d p f a w q k n h = refused_fine p SettingsConflict f a q k h.0
barred_fine false d p f a w q k n h = effect_fine d p f a w q k (n refl) h

waiting_fine : (b : Bool) (d : Effect) (p : Panel) (ask : SessionAsk) (f : Bool) (a : SessionAnswer) (w : Option WorkSeen) (q : Panel) → IsFine p
    → IsHarmless p d
    → MatchBool b (StepHeld p ask f a w q) (StepEffect d p f a w q) → IsFine q
waiting_fine true d p ask f a w q k n h = held_fine p ask f a w q k h
waiting_fine false d p ask f a w q k n h = effect_fine d p f a w q k n h

action_fine : (x : Action) (p : Panel) (ask : SessionAsk) (f : Bool) (a : SessionAnswer) (w : Option WorkSeen) (q : Panel) → IsFine p → IsHarmlessAction p x
    → StepAction x p ask f a w q → IsFine q
action_fine (AtOnce d) p ask f a w q k n h = effect_fine d p f a w q k n h
action_fine (BetweenScans d) p ask f a w q k n h = barred_fine (is_running p) d p f a w q k n h
action_fine (AfterScan d) p ask f a w q k n h = waiting_fine (is_running p) d p ask f a w q k n h

snapshot_fine : (p : Panel) (f : Bool) (a : SessionAnswer) (q : Panel) → IsFine p → StepSnapshot p f a q → IsFine q
snapshot_fine p f (answers.Snapshot s number) q k h = fine_is p q h.3 k
snapshot_fine p f (Refused OutOfMemory) q k h = fine_is p q h.2 k
snapshot_fine p f (Refused e) q k h = fine_is p q h.2 k
snapshot_fine p f a q k h = absurd h

start_fine : (p : Panel) (plan : Snapshot) (f : Bool) (a : SessionAnswer) (w : Option WorkSeen) (q : Panel) → IsFine p → StepStart p plan f a w q → IsFine q
start_fine p plan f (Done None) w q k h = starts_fine p plan f h.told q k h.may h.starts
start_fine p plan f (Refused HardwareError) w q k h = starts_fine p plan f h.told q k h.may h.starts
start_fine p plan f (Refused OutOfMemory) None q k h = fine_is p q h.3 k
start_fine p plan f (Refused SettingsConflict) None q k h = fine_is p q h.2 k
start_fine p plan f (Refused e) None q k h = fine_is p q h.2 k
start_fine p plan f a w q k h = absurd h

served_fine : (p : Panel) (ask : SessionAsk) (f : Bool) (a : SessionAnswer) (q : Panel) → IsFine p → IsServed p ask f a q → IsFine q
served_fine p ask f a q k h =
    fine_is (record p { sessions = h.sessions }) q h.after (record { cage = k.cage; range = k.range; settings = k.settings; status = k.status })

joined_fine : (p : Panel) (ask : SessionAsk) (f : Bool) (a : SessionAnswer) (w : Option WorkSeen) (q : Panel) → IsFine p → StepJoined p ask f a w q → IsFine q
joined_fine p (Ask.Fault sid e) f (Done None) None q k h =
    fine_is (record p { status = pushed p.status e }) q h.1 (record {
      cage = k.cage;
      range = k.range;
      settings = k.settings;
      status = (status-kept p.status k.status).error e;
    })
joined_fine p (Ask.Fault sid e) f a None q k h = served_fine p (Ask.Fault sid e) f a q k h
joined_fine p (Ask.Unit sid command available) f a w q k h =
    action_fine (action_of available command) p (Ask.Unit sid command available) f a w q k (harmless p available command) h
joined_fine p (Ask.Bus sid) f a w q k h = happens_fine p Bus f h.told q k h.happens
joined_fine p (Ask.Snapshot sid) f a None q k h = snapshot_fine p f a q k h
joined_fine p (Ask.Start sid plan) f a w q k h = start_fine p plan f a w q k h
joined_fine p (Ask.Attached sid) f answer None q k h = served_fine p (Ask.Attached sid) f answer q k h
joined_fine p (Ask.Leave sid) f answer None q k h = served_fine p (Ask.Leave sid) f answer q k h
joined_fine p (Ask.Size sid n) f answer None q k h = served_fine p (Ask.Size sid n) f answer q k h
joined_fine p (Ask.MaxSize sid) f answer None q k h = served_fine p (Ask.MaxSize sid) f answer q k h
joined_fine p (Ask.Clear sid) f answer None q k h = served_fine p (Ask.Clear sid) f answer q k h
joined_fine p (Ask.Cleared sid) f answer None q k h = served_fine p (Ask.Cleared sid) f answer q k h
joined_fine p (Ask.Lock sid key) f answer None q k h = served_fine p (Ask.Lock sid key) f answer q k h
joined_fine p (Ask.Release sid) f answer None q k h = served_fine p (Ask.Release sid) f answer q k h
joined_fine p (Ask.LockInfo sid) f answer None q k h = served_fine p (Ask.LockInfo sid) f answer q k h
joined_fine p Ask.Join f answer None q k h = served_fine p Ask.Join f answer q k h
joined_fine p (Ask.Attach n) f answer None q k h = served_fine p (Ask.Attach n) f answer q k h
joined_fine p ask f a w q k h = absurd h

admitted_fine : (now : Admission) (p : Panel) (ask : SessionAsk) (f : Bool) (a : SessionAnswer) (w : Option WorkSeen) (q : Panel) → IsFine p
    → StepAdmitted now p ask f a w q → IsFine q
admitted_fine Dropped p ask f Broken None q k h = fine_is p q h.1 k
admitted_fine Dropped p ask f a w q k h = absurd h
admitted_fine ShutOut p ask f a w q k h = held_fine p ask f a w q k h
admitted_fine Admitted p ask f a w q k h = joined_fine p ask f a w q k h

join_fine : (p : Panel) (f : Bool) (a : SessionAnswer) (w : Option WorkSeen) (q : Panel) → IsFine p → StepJoin p f a w q → IsFine q
join_fine p f (Joined sid) None q k h =
    fine_is (record p { sessions = with_seat p.sessions sid.number (Some (fresh_seat (next_number p.events))) }) q h.3 (record {
      cage = k.cage;
      range = k.range;
      settings = k.settings;
      status = k.status;
    })
join_fine p f Full None q k h = fine_is p q h.2 k
join_fine p f a w q k h = absurd h

attach_fine : (p : Panel) (n : ℕ) (f : Bool) (a : SessionAnswer) (w : Option WorkSeen) (q : Panel) → IsFine p → StepAttach p n f a w q → IsFine q
attach_fine p n f (Joined sid) None q k h =
    fine_is (record p { sessions = q.sessions }) q h.2 (record { cage = k.cage; range = k.range; settings = k.settings; status = k.status })
attach_fine p n f Stranger None q k h = fine_is p q h.2 k
attach_fine p n f a w q k h = absurd h

new_fine : (p : Panel) (ask : SessionAsk) (f : Bool) (a : SessionAnswer) (w : Option WorkSeen) (q : Panel) → IsFine p → StepNew p ask f a w q → IsFine q
new_fine p Ask.Join f a w q k h = join_fine p f a w q k h
new_fine p (Ask.Attach n) f a w q k h = attach_fine p n f a w q k h
new_fine p ask f a w q k h = absurd h

session_fine : (o : Option Sid) (p : Panel) (ask : SessionAsk) (f : Bool) (a : SessionAnswer) (w : Option WorkSeen) (q : Panel) → IsFine p
    → StepSession o p ask f a w q → IsFine q
session_fine None p ask f a w q k h = new_fine p ask f a w q k h
session_fine (Some sid) p ask f Stranger None q k h = fine_is p q h.2 k
session_fine (Some sid) p ask f a w q k h = admitted_fine (admission p sid ask) p ask f a w q k h.1

-- ---- cards

slot_fine : (c : CageSeen) (s : ℕ) (v : Option Account) → IsKept c → c.scan ≡ None → slot_at c.out s ≡ None → 1 ≤ s → s ≤ most_slots
    → ((n : ℕ) → option_closed v n ≡ false) → OptionFew v → IsKept (record c { cards = slice_set c.cards (s - 1) v })
slot_fine c s v k idle home a b quiet few = record {
  good = record {
    held = held_set c s v c.scan k.good.held home a b;
    running = subst (λ (o : Option ScanSeen). IsRunning (record c { cards = slice_set c.cards (s - 1) v }) o) (sym idle) tt;
  };
  safe = exclusive_quiet c.cards s v (omega (arith, a)) (omega (arith, b, k.good.held.slots)) quiet k.safe;
  few = few_set c.cards s v (omega (arith, a)) (omega (arith, b, k.good.held.slots)) few k.few;
}

few_card : (rack : Accounts) (slot : ℕ) (card : Account) → CanInstall rack slot card → OptionFew (Some card)
few_card rack slot card can m = (can.fit m).few_channels

stopped_fine : (c : CageSeen) → IsKept c → IsKept (stopped c) × ((stopped c).scan ≡ None) × ((stopped c).out ≡ c.out)
stopped_fine c k = by_scan c (is_some c.scan) refl k
  where
    by_scan : (c : CageSeen) (b : Bool) → is_some c.scan ≡ b → IsKept c → IsKept (stopped c) × ((stopped c).scan ≡ None) × ((stopped c).out ≡ c.out)
    by_scan c true e k =
        let s : stopped c ≡ safe_state c = ap (λ (b : Bool). if b then safe_state c else c) e in
        (subst (λ (x : CageSeen). IsKept x) (sym s) (fallen_all c k), ap (λ (x : CageSeen). x.scan) s, ap (λ (x : CageSeen). x.out) s)
    by_scan c false e k =
        let s : stopped c ≡ c = ap (λ (b : Bool). if b then safe_state c else c) e in
        (subst (λ (x : CageSeen). IsKept x) (sym s) k, ap (λ (x : CageSeen). x.scan) s ∙ is_none c.scan e, ap (λ (x : CageSeen). x.out) s)

pub rest_closed : (rack : Accounts) (slot : ℕ) (card : Account) → slot_at (all_open rack) slot ≡ Some card → (k : ℕ) → closed_at card.closed k ≡ false
rest_closed rack slot card e k = ap (λ o. option_closed o k) (sym e) ∙ all_open_closed rack (slot, k)

pub rest_slot : (rack : Accounts) (slot : ℕ) (card : Account) → slot_at (all_open rack) slot ≡ Some card → (0 < slot) × (slot ≤ length rack)
rest_slot rack slot card e =
    let r : (0 < slot) × (slot ≤ length (all_open rack)) = some_slot (all_open rack) slot (ap (λ o. is_some o) e) in
    (r.0, subst (λ n. slot ≤ n) (length-map rack option_rest) r.1)

outside_fine : (p : Panel) (happening : Happening) (f : Bool) (a : AnswerSeen) (q : Panel) → IsFine p → StepOutside p happening f a q → IsFine q
outside_fine p happening f a q k h = happens_fine p happening f h.told q k h.happens

finished_fine : (p : Panel) (done : FinishedSeen) (f : Bool) (a : AnswerSeen) (q : Panel) → IsFine p → StepFinished p done f a q → IsFine q
finished_fine p done f SaysBack q k h = fine_is p q h.2 k
finished_fine p done f a q k h = returns_fine p done f h.told q k h.out h.returns

acts_fine : (p : Panel) (ask : AskSeen) (f : Bool) (a : AnswerSeen) (q : Panel) → IsFine p → Acts p ask f a q → IsFine q
acts_fine p (AskSession ask) f (SaysSession a w) q k h = session_fine (asker_of ask) p ask f a w q k h
acts_fine p (AskInstall slot card) f SaysInstalled q k h =
    fine_is (with_cards p (slice_set p.cage.cards (slot - 1) (Some card))) q h.4 (record {
      cage =
          slot_fine p.cage slot (Some card) k.cage (none_of p h.1) h.2 h.3.first h.3.last h.3.«open» (few_card p.cage.cards slot card h.3);
      range = k.range;
      settings = k.settings;
      status = k.status;
    })
acts_fine p (AskInstall slot card) f (SaysNotInstalled refusal) q k h = fine_is p q h.2 k
acts_fine p (AskEject slot) f (SaysEjected card) q k h =
    let r : (0 < slot) × (slot ≤ length p.cage.cards) = rest_slot p.cage.cards slot card h.2 in
    let s = stopped_fine p.cage k.cage in
    let home : slot_at (stopped p.cage).out slot ≡ None = subst (λ (o : _). slot_at o slot ≡ None) (sym s.2) h.1 in
    let c : IsKept (without_card (stopped p.cage) slot) =
    slot_fine (stopped p.cage) slot None s.0 s.1 home (omega (arith, r.0)) (omega (arith, r.1, k.cage.good.held.slots)) (λ n. refl) tt in
    fine_is (record p { cage = without_card (stopped p.cage) slot; status = card_fault_cleared p.status }) q h.3 (record {
      cage = c;
      range = k.range;
      settings = by_none (stopped p.cage).scan (course_of p.settings) s.1;
      status = cleared_status p.status k.status;
    })
acts_fine p (AskEject slot) f (SaysNotEjected refusal) q k h = fine_is p q h.2 k
acts_fine p AskExternal f a q k h = outside_fine p External f a q k h
acts_fine p (AskElapsed ticket) f a q k h = outside_fine p (Elapsed ticket) f a q k h
acts_fine p (AskFinished done) f a q k h = finished_fine p done f a q k h
acts_fine p ask f a q k h = absurd h

-- an event that ends
pub ended_fine : (p : Panel) → IsFine p → IsFine (ended p)
ended_fine p k =
    let done : StatusSeen = completed p.status (p.opc_waits && not (is_running p)) in
    let u : IsStatus done = (status-kept p.status k.status).event_status _ in
    let o : IsStatus (with_operation done (scan_bits p.cage.scan)) =
    (status-kept done u).group Operation _ ((told_group done Operation u).conditioned _) in
    record { cage = k.cage; range = k.range; settings = k.settings; status = (status-kept _ o).ended }

pub erred_fine : (p : Panel) (e : ScpiError) → IsFine p → IsFine (erred p e)
erred_fine p e k = record { cage = k.cage; range = k.range; settings = k.settings; status = (status-kept p.status k.status).error e }

session_ended : (a : SessionAnswer) (p : Panel) → IsFine p → IsFine (session_concluded a p)
session_ended Stranger p k = k
session_ended Broken p k = k
session_ended (Hold ask) p k = k
session_ended (Worn ask) p k = k
session_ended (Refused e) p k = ended_fine (erred p e) (erred_fine p e k)
session_ended (Joined sid) p k = ended_fine p k
session_ended Full p k = ended_fine p k
session_ended (Done text) p k = ended_fine p k
session_ended (answers.Snapshot s number) p k = ended_fine p k
session_ended answers.Missed p k = ended_fine p k
session_ended (answers.Max n) p k = ended_fine p k
session_ended (answers.Lock code) p k = ended_fine p k
session_ended (answers.Info exclusive n) p k = ended_fine p k

concluded_fine : (a : AnswerSeen) (p : Panel) → IsFine p → IsFine (concluded a p)
concluded_fine (SaysSession a w) p k = session_ended a p k
concluded_fine SaysInstalled p k = ended_fine p k
concluded_fine (SaysNotInstalled refusal) p k = ended_fine p k
concluded_fine (SaysEjected card) p k = ended_fine p k
concluded_fine (SaysNotEjected refusal) p k = ended_fine p k
concluded_fine (SaysTaken work) p k = ended_fine p k
concluded_fine SaysMissed p k = ended_fine p k
concluded_fine SaysFailed p k = ended_fine (erred p HardwareError) (erred_fine p HardwareError k)
concluded_fine SaysBack p k = k
concluded_fine SaysWorn p k = k

event_fine : (p : Panel) (ask : AskSeen) (f : Bool) (a : AnswerSeen) (q : Panel) → IsFine p → IsEvent p ask f a q → IsFine q
event_fine p ask f a q k h = fine_is (concluded a h.done) q h.after (concluded_fine a h.done (acts_fine p ask f a h.done k h.acts))

either_fine : (b : Bool) (p : Panel) (ask : AskSeen) (f : Bool) (a : AnswerSeen) (q : Panel) → IsFine p
    → MatchBool b (IsUnnumbered p ask f a q) (IsEvent p ask f a q) → IsFine q
either_fine true p ask f a q k h = fine_is p q h.same k
either_fine false p ask f a q k h = event_fine p ask f a q k h

pub step_fine : (p : Panel) (ask : AskSeen) (f : Bool) (a : AnswerSeen) (q : Panel) → IsFine p → Step p ask f a q → IsFine q
step_fine p ask f a q k h = either_fine ((p.events == last_number) && not (acts_unnumbered ask)) p ask f a q k h

-- ---- at the start

none_at : {A : Type 0} (n i : ℕ) → slice_index_or (let r : List (Option A) = replicate n None in r) i None ≡ None
none_at zero i = refl
none_at (suc n) zero = refl
none_at (suc n) (suc i) = none_at n i

none_if : {A : Type 0} (b : Bool) (o : Option A) → o ≡ None → (if b then o else None) ≡ None
none_if true o e = e
none_if false o e = refl

none_slot_out : (n s : ℕ) → slot_at (let r : List (Option Ticket) = replicate n None in r) s ≡ None
none_slot_out n s = none_if (nat_lt 0 s) (slice_index_or (let r : List (Option Ticket) = replicate n None in r) (s - 1) None) (none_at n (s - 1))

pub opening_fine_at : (events scans : ℕ) → IsFine (opening_at events scans)
opening_fine_at events scans = record {
  cage = record {
    good = record {
      held = record {
        slots = refl;
        outs = refl;
        empty = λ s h. none_slot most_slots s;
        past = λ s t h. absurd (let e = sym (none_slot_out most_slots s) ∙ h in cc (e));
      };
      running = tt;
    };
    safe = exclusive_none _ _ (λ c. ap (λ o. option_closed o c.1) (none_slot most_slots c.0));
    few = λ s. subst (λ (o : Option Account). OptionFew o) (sym (none_slot most_slots s)) tt;
  };
  range = reset_range;
  settings = tt;
  status = status-start;
}
