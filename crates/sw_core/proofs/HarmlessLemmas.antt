-- What each command does leaves the mainframe fine.
use Rattle.std.proofs.Common.{◌≡◌, ◌≢◌, Bool, true, false, [], Option, None, sym}
use Rattle.std.proofs.Common.{subst}
use Rattle.sw_base.specs.declared.terms.LayerName.{LayerName}
use Rattle.sw_base.specs.declared.terms.LayerName.TheVariants.{Arm, Trigger}
use Rattle.sw_base.specs.declared.error.ScpiError.TheVariants.{TriggerIgnored, ArmIgnored, DataOutOfRange, TooMuchData}
use Rattle.sw_base.specs.declared.error.ScpiError.TheVariants.{SettingsConflict, HardwareError}
use Rattle.sw_lex.specs.declared.command.Command.{Command}
use Rattle.sw_lex.specs.declared.command.NoData.{NoData}
use Rattle.sw_lex.specs.declared.command.GroupQuery.{GroupQuery}
use Rattle.sw_lex.specs.declared.command.SlotQuery.{SlotQuery}
use Rattle.sw_lex.specs.declared.command.StatusRead.{StatusRead}
use Rattle.sw_lex.specs.declared.command.RelayCommand.{RelayCommand}
use Rattle.sw_lex.specs.declared.command.Time.{Time}
use Rattle.sw_lex.specs.declared.command.Setting.{Setting}
use Rattle.sw_lex.specs.declared.command.StatusSetting.{StatusSetting}
use Rattle.sw_trigger.specs.Settings.{IsInRange}
use Rattle.sw_verify.specs.declared.setup.Setup.{Setup}
use Rattle.sw_trigger.proofs.Ranges.{layer_range, range_layer}
use Rattle.sw_status.specs.StatusModel.{StatusSeen, IsStatus, registers_of, with_group}
use Rattle.sw_cage.specs.Accounts.{all_open}
use Rattle.sw_verify.specs.Course.{CourseSeen}
use Rattle.sw_verify.specs.Setup.{course_of}
use Rattle.sw_cage.specs.Cage.{CageSeen, ScanSeen, safe_state}
use Rattle.sw_cage.specs.Good.{IsRunning}
use Rattle.sw_cage.proofs.SlotChangeLemmas.{is_none, all_open_closed, exclusive_none}
use Rattle.sw_cage.proofs.ChannelCallLemmas.{identities_all_open}
use Rattle.sw_core.specs.Panel.{Panel, is_running}
use Rattle.sw_core.specs.Action.{Effect, TellsText, TellsReadings, ReadsOut, SetsStatus, SetsUp, ClosesListed, OpensListed, TellsHardware, TellsSurety, TellsListing}
use Rattle.sw_core.specs.Action.{Changes}
use Rattle.sw_core.specs.Action.{Resets, Triggers, RefusesWith, IsOfMacros, Initiates, Action, AtOnce, BetweenScans, AfterScan, action_of}
use Rattle.sw_core.specs.Action.{Fits, misfit, with_value, with_bits, without_read, ignored_at}
use Rattle.sw_core.proofs.KeptLemmas.{IsKept, kept_rack, kept_over}
use Rattle.std.specs.Prelude.{IfSome}
use Rattle.sw_base.specs.declared.terms.StatusGroup.{StatusGroup}
use Rattle.sw_base.specs.declared.terms.StatusGroup.TheVariants.{Operation, Questionable}
use Rattle.sw_status.specs.Registers.{GroupSeen, IsGroup}
use Rattle.sw_status.specs.Laws.{KeepsBit15Clear}
use Rattle.sw_status.proofs.Limits.{group-kept, status-kept}
use Rattle.sw_core.specs.Registers.{card_fault_reported, card_fault_cleared}

-- what stays so of the mainframe, between its events too
pub record IsFine (p : Panel) : Type 0 where
  pub cage : IsKept p.cage
  pub range : IsInRange p.settings.scan
  pub settings : IfSome p.cage.scan (λ at. at.course ≡ course_of p.settings)
  pub status : IsStatus p.status

-- what IsFine says of the settings
abbrev pub KeepsTo : Option ScanSeen → CourseSeen → Type 0
KeepsTo scan course = IfSome scan (λ at. at.course ≡ course)

abbrev pub GoesBy : Option ScanSeen → Setup → Type 0
GoesBy scan s = KeepsTo scan (course_of s)

pub by_none : (scan : Option ScanSeen) (course : CourseSeen) → scan ≡ None → KeepsTo scan course
by_none scan course e = subst (λ (o : Option ScanSeen). KeepsTo o course) (sym e) tt

pub fine_as : (p q : Panel) → q.cage ≡ p.cage → q.settings ≡ p.settings → IsStatus q.status → IsFine p → IsFine q
fine_as p q c s u k = record {
  cage = subst (λ (x : CageSeen). IsKept x) (sym c) k.cage;
  range = subst (λ (x : Setup). IsInRange x.scan) (sym s) k.range;
  settings = subst (λ (x : CageSeen). GoesBy x.scan q.settings) (sym c) (subst (λ (x : Setup). GoesBy p.cage.scan x) (sym s) k.settings);
  status = u;
}

pub fine_is : (p q : Panel) → q ≡ p → IsFine p → IsFine q
fine_is p q e k = subst (λ (x : Panel). IsFine x) (sym e) k

pub none_of : (p : Panel) → is_running p ≡ false → p.cage.scan ≡ None
none_of p e = is_none p.cage.scan e

-- ---- status

group_fine : (s : StatusSeen) (which : StatusGroup) → IsStatus s → IsGroup (registers_of s which)
group_fine s Operation u = u.operation
group_fine s Questionable u = u.questionable

-- a group of the status is told something
grouped : (s : StatusSeen) (which : StatusGroup) (g : GroupSeen) → IsStatus s → IsGroup g → IsStatus (with_group s which g)
grouped s which g u h = (status-kept s u).group which g h

pub told_group : (s : StatusSeen) (which : StatusGroup) → IsStatus s → KeepsBit15Clear (registers_of s which)
told_group s which u = group-kept (registers_of s which) (group_fine s which u)

pub reported_status : (s : StatusSeen) → IsStatus s → IsStatus (card_fault_reported s)
reported_status s u = grouped s Questionable _ u ((told_group s Questionable u).conditioned 512)

pub cleared_status : (s : StatusSeen) → IsStatus s → IsStatus (card_fault_cleared s)
cleared_status s u = grouped s Questionable _ u ((told_group s Questionable u).conditioned 0)

-- ---- the cage while no scan runs

pub fallen_all : (c : CageSeen) → IsKept c → IsKept (safe_state c)
fallen_all c k = kept_over c (all_open c.cards) k (identities_all_open c.cards) (all_open_closed c.cards)

-- readings don't matter where no scan runs
pub dropped : (c : CageSeen) → IsKept c → c.scan ≡ None → IsKept (record c { readings = [] })
dropped c k e = record {
  good = record {
    held = record { slots = k.good.held.slots; outs = k.good.held.outs; empty = k.good.held.empty; past = k.good.held.past };
    running = subst (λ (o : Option ScanSeen). IsRunning (record c { readings = [] }) o) (sym e) tt;
  };
  safe = k.safe;
  few = k.few;
}

-- ---- effects

out_of_range : DataOutOfRange ≢ HardwareError
out_of_range e = absurd (cc (e))

too_much : TooMuchData ≢ HardwareError
too_much e = absurd (cc (e))

not_triggered : TriggerIgnored ≢ HardwareError
not_triggered e = absurd (cc (e))

not_armed : ArmIgnored ≢ HardwareError
not_armed e = absurd (cc (e))

conflict : SettingsConflict ≢ HardwareError
conflict e = absurd (cc (e))

-- what an effect leaves fine, and is refused by no card's failure of its own
abbrev pub IsHarmless : Panel → Effect → Type 0
IsHarmless p (TellsText text) = Unit {0}
IsHarmless p (TellsReadings readings) = Unit {0}
IsHarmless p (ReadsOut text after) = IsStatus p.status → IsStatus (after p.status)
IsHarmless p (SetsStatus after) = IsStatus p.status → IsStatus (after p.status)
IsHarmless p (SetsUp Fits error after) = (Fits p.settings → IsInRange p.settings.scan → IsInRange (after p.settings).scan) × (error ≢ HardwareError) × (is_running p ≡ false)
IsHarmless p (ClosesListed chans) = is_running p ≡ false
IsHarmless p (OpensListed chans) = is_running p ≡ false
IsHarmless p (TellsHardware there text) = Unit {0}
IsHarmless p (TellsSurety text) = Unit {0}
IsHarmless p (TellsListing listing) = Unit {0}
IsHarmless p (Changes after) = IsFine p → IsFine (after p)
IsHarmless p Resets = Unit {0}
IsHarmless p (Triggers happening error) = error ≢ HardwareError
IsHarmless p (RefusesWith error) = error ≢ HardwareError
IsHarmless p IsOfMacros = Unit {0}
IsHarmless p Initiates = Unit {0}

abbrev pub IsHarmlessAction : Panel → Action → Type 0
IsHarmlessAction p (AtOnce effect) = IsHarmless p effect
IsHarmlessAction p (BetweenScans effect) = is_running p ≡ false → IsHarmless p effect
IsHarmlessAction p (AfterScan effect) = IsHarmless p effect

-- the values that a setting has are in range
ranged : (setting : Setting) (s : Setup) → Fits setting s → IsInRange s.scan → IsInRange (with_value setting s).scan
ranged (Setting.Count layer n) s fits r =
    range_layer s.scan layer _ r (record { count = fits; delay = (layer_range s.scan layer r).delay; timer = (layer_range s.scan layer r).timer })
ranged (Setting.Source layer source) s fits r =
    range_layer s.scan layer _ r (record {
      count = (layer_range s.scan layer r).count;
      delay = (layer_range s.scan layer r).delay;
      timer = (layer_range s.scan layer r).timer;
    })
ranged (Setting.Time Time.Delay layer micros) s fits r =
    range_layer s.scan layer _ r (record { count = (layer_range s.scan layer r).count; delay = fits; timer = (layer_range s.scan layer r).timer })
ranged (Setting.Time Time.Timer layer micros) s fits r =
    range_layer s.scan layer _ r (record { count = (layer_range s.scan layer r).count; delay = (layer_range s.scan layer r).delay; timer = fits })
ranged (Setting.Time Time.Settling layer micros) s fits r =
    record { layers = r.layers; arms = r.arms; trigger = r.trigger; list = r.list; meter = r.meter; points = r.points; settle = fits }
ranged (Setting.Scan positions) s fits r =
    record { layers = r.layers; arms = r.arms; trigger = r.trigger; list = fits; meter = r.meter; points = r.points; settle = r.settle }
ranged (Setting.ScanMeter slot) s fits r =
    record { layers = r.layers; arms = r.arms; trigger = r.trigger; list = r.list; meter = fits; points = r.points; settle = r.settle }
ranged (Setting.Points n) s fits r =
    record { layers = r.layers; arms = r.arms; trigger = r.trigger; list = r.list; meter = r.meter; points = fits; settle = r.settle }
ranged (Setting.Program code) s fits r = r
ranged (Setting.Programmed on) s fits r = r
ranged Setting.NoProgram s fits r = r

no_fault : (setting : Setting) → misfit setting ≢ HardwareError
no_fault (Setting.Scan positions) = too_much
no_fault (Setting.Programmed on) = conflict
no_fault setting = out_of_range

not_ignored : (layer : LayerName) → ignored_at layer ≢ HardwareError
not_ignored Trigger = not_triggered
not_ignored (Arm arm) = not_armed

read_fine : (read : StatusRead) (s : StatusSeen) → IsStatus s → IsStatus (without_read read s)
read_fine StatusRead.EventStatus s u = (status-kept s u).event_status 0
read_fine (StatusRead.GroupEvent group) s u = grouped s group _ u (told_group s group u).taken
read_fine StatusRead.NextError s u = (status-kept s u).read
read_fine StatusRead.AllErrors s u = (status-kept s u).emptied

bits_fine : (setting : StatusSetting) (s : StatusSeen) → IsStatus s → IsStatus (with_bits setting s)
bits_fine (StatusSetting.EventEnable bits) s u = (status-kept s u).event_enable bits
bits_fine (StatusSetting.ServiceEnable bits) s u = (status-kept s u).service_enable bits
bits_fine (StatusSetting.Enable group bits) s u = grouped s group _ u ((told_group s group u).enable bits)
bits_fine (StatusSetting.PositiveTransition group bits) s u = grouped s group _ u ((told_group s group u).ptr bits)
bits_fine (StatusSetting.NegativeTransition group bits) s u = grouped s group _ u ((told_group s group u).ntr bits)

pub harmless : (p : Panel) (available : Bool) (command : Command) → IsHarmlessAction p (action_of available command)
harmless p available (Command.NoData NoData.Reset) = tt
harmless p available (Command.NoData NoData.ClearStatus) =
    λ k. record { cage = k.cage; range = k.range; settings = k.settings; status = (status-kept p.status k.status).clear }
harmless p available (Command.NoData NoData.OperationComplete) = λ k. record { cage = k.cage; range = k.range; settings = k.settings; status = k.status }
harmless p available (Command.NoData NoData.OperationCompleteQuery) = tt
harmless p available (Command.NoData NoData.Wait) = λ k. k
harmless p available (Command.NoData NoData.Trigger) = not_triggered
harmless p available (Command.NoData NoData.Abort) = λ k. record { cage = fallen_all p.cage k.cage; range = k.range; settings = tt; status = k.status }
harmless p available (Command.NoData NoData.Initiate) = tt
harmless p available (Command.NoData NoData.OpenAll) =
    λ idle k. record {
      cage = kept_rack p.cage (all_open p.cage.cards) k.cage (none_of p idle) (identities_all_open p.cage.cards)
          (exclusive_none _ _ (all_open_closed p.cage.cards));
      range = k.range;
      settings = k.settings;
      status = k.status;
    }
harmless p available (Command.NoData NoData.Preset) = λ u. (status-kept p.status u).reset
harmless p available (Command.NoData NoData.Fetch) = tt
harmless p available (Command.NoData NoData.Read) = tt
harmless p available (Command.Query query) = tt
harmless p available (Command.LayerQuery query layer) = tt
harmless p available (Command.GroupQuery GroupQuery.Condition StatusGroup.Operation) = tt
harmless p available (Command.GroupQuery GroupQuery.Condition StatusGroup.Questionable) = tt
harmless p available (Command.GroupQuery GroupQuery.Enable group) = tt
harmless p available (Command.GroupQuery GroupQuery.PositiveTransition group) = tt
harmless p available (Command.GroupQuery GroupQuery.NegativeTransition group) = tt
harmless p available (Command.SlotQuery SlotQuery.Kind slot) = tt
harmless p available (Command.SlotQuery SlotQuery.Groups slot) = tt
harmless p available (Command.SlotQuery SlotQuery.State slot) = tt
harmless p available (Command.DestructiveQuery read) = λ u. read_fine read p.status u
harmless p available (Command.Signal layer) = not_ignored layer
harmless p available (Command.Continuous true) = conflict
harmless p available (Command.Continuous false) = λ k. k
harmless p available (Command.Relays RelayCommand.Close chans) = λ idle. idle
harmless p available (Command.Relays RelayCommand.CloseQuery chans) = tt
harmless p available (Command.Relays RelayCommand.CloseCheck chans) = tt
harmless p available (Command.Relays RelayCommand.Open chans) = λ idle. idle
harmless p available (Command.Relays RelayCommand.OpenQuery chans) = tt
harmless p available (Command.ListingCheck listing) = tt
harmless p available (Command.Set setting) = λ idle. (λ fits r. ranged setting p.settings fits r, no_fault setting, idle)
harmless p available (Command.SetStatus setting) = λ u. bits_fine setting p.status u
harmless p available (Command.Macros ask) = tt
harmless p available (Command.Macro ask) = tt
harmless p available (Command.ScanReadings number count) = tt
