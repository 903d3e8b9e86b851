-- What each command does: one row for each family of commands, and one for the answer of each query.
use Rattle.std.specs.Prelude.{ℕ, ◌≤◌, ◌==◌, ◌&&◌, Bool, true, false, List, [], Option, Some, None, is_some, length, map}
use Rattle.std.specs.Prelude.{codes, decimal, if◌then◌else◌}
use Rattle.std.specs.List.{join_with_byte}
use Rattle.sw_base.specs.Layout.{Channel}
use Rattle.sw_base.specs.Limits.{most_slots, most_entries, most_points, longest_delay}
use Rattle.sw_base.specs.Reading.{fixed}
use Rattle.sw_base.specs.declared.reading.Reading.{Reading}
use Rattle.sw_base.specs.declared.error.ScpiError.{ScpiError}
use Rattle.sw_base.specs.declared.error.ScpiError.TheVariants.{TriggerIgnored, ArmIgnored}
use Rattle.sw_base.specs.declared.error.ScpiError.TheVariants.{SettingsConflict, DataOutOfRange, TooMuchData}
use Rattle.sw_base.specs.declared.terms.LayerName.{LayerName}
use Rattle.sw_base.specs.declared.terms.LayerName.TheVariants as layer_name
use Rattle.sw_base.specs.declared.terms.Source.{Source}
use Rattle.sw_base.specs.declared.terms.StatusGroup.{StatusGroup}
use Rattle.sw_base.specs.declared.terms.StatusGroup.TheVariants as group_name
use Rattle.sw_channel.specs.Printing.{printed, printed_positions}
use Rattle.sw_lex.specs.Help.{headers_text}
use Rattle.sw_lex.specs.declared.command.Command.{Command}
use Rattle.sw_lex.specs.declared.command.NoData.{NoData}
use Rattle.sw_lex.specs.declared.command.PlainQuery.{PlainQuery}
use Rattle.sw_lex.specs.declared.command.LayerQuery.{LayerQuery}
use Rattle.sw_lex.specs.declared.command.GroupQuery.{GroupQuery}
use Rattle.sw_lex.specs.declared.command.SlotQuery.{SlotQuery}
use Rattle.sw_lex.specs.declared.command.StatusRead.{StatusRead}
use Rattle.sw_lex.specs.declared.command.RelayCommand.{RelayCommand}
use Rattle.sw_lex.specs.declared.command.Time.{Time}
use Rattle.sw_lex.specs.declared.command.Setting.{Setting}
use Rattle.sw_lex.specs.declared.command.StatusSetting.{StatusSetting}
use Rattle.sw_trigger.specs.Settings.{SettingsSeen, layer_of, with_layer, most_of}
use Rattle.sw_trigger.specs.declared.layer.Layer.{Layer}
use Rattle.sw_verify.specs.declared.setup.Setup.{Setup}
use Rattle.sw_verify.specs.declared.setup.Loaded.{Loaded}
use Rattle.sw_verify.specs.declared.setup.Loaded.TheVariants.{On, Nothing}
use Rattle.sw_verify.specs.Setup.{setup_at_reset, bound_of, running, kept, switched, CanSwitch}
use Rattle.sw_code.specs.Range.{Program}
use Rattle.sw_code.specs.Listing.{listing_of}
use Rattle.sw_lex.specs.Block.{block_of}
use Rattle.sw_status.specs.Registers.{GroupSeen, event_taken, with_enable, with_ptr, with_ntr}
use Rattle.sw_status.specs.StatusModel.{StatusSeen, byte_of, enabled, preset, popped, cleared}
use Rattle.sw_status.specs.StatusModel.{registers_of, with_group}
use Rattle.sw_cage.specs.Accounts.{all_open, is_closed}
use Rattle.sw_cage.specs.Channels.{closed_list}
use Rattle.sw_cage.specs.Cage.{safe_state}
use Rattle.sw_cage.specs.declared.taken.Happening.{Happening}
use Rattle.sw_cage.specs.declared.taken.Happening.TheVariants.{Bus, Signal}
use Rattle.sw_core.specs.Answers.{identity_text, version, oldest_entry, all_entries, source_word}
use Rattle.sw_core.specs.Answers.{yes_or_no, as_asked}
use Rattle.sw_core.specs.SlotTexts.{kind_text, has_relays, groups_text, state_text}
use Rattle.sw_core.specs.Panel.{Panel, with_cards, has_all}
use Rattle.sw_core.specs.Registers.{card_fault_cleared, condition_told}
use Rattle.sw_core.specs.Checking.{check_text}
use Rattle.sw_core.specs.ScanChecking.{scan_check_text}

-- what a command does when the mainframe carries it out
pub data Effect : Type 1 where
  -- it answers a text
  TellsText : (text : Panel → List ℕ) → Effect
  -- it answers readings
  TellsReadings : (readings : Panel → List Reading) → Effect
  -- it answers a text of the status, and leaves this status
  ReadsOut : (text : StatusSeen → List ℕ) → (after : StatusSeen → StatusSeen) → Effect
  -- it sets the status
  SetsStatus : (after : StatusSeen → StatusSeen) → Effect
  -- it changes the settings where they fit then, else the mainframe refuses it by this error
  SetsUp : (Fits : Setup → Type 0) → (error : ScpiError) → (after : Setup → Setup) → Effect
  -- it closes channels, or opens them
  ClosesListed : (chans : List Channel) → Effect
  OpensListed : (chans : List Channel) → Effect
  -- it answers a text of hardware; where the hardware is missing, the mainframe refuses it by -241
  TellsHardware : (there : Panel → Bool) → (text : Panel → List ℕ) → Effect
  -- it answers a text by whether the cards that it asks are sure of their relays
  TellsSurety : (text : Panel → Bool → List ℕ) → Effect
  -- it answers the check of a listing
  TellsListing : (listing : List ℕ) → Effect
  -- it leaves this state
  Changes : (after : Panel → Panel) → Effect
  -- it resets the mainframe
  Resets : Effect
  -- the cage offers it to the scan; where no scan takes it, the mainframe refuses it by this error
  Triggers : (happening : Happening) → (error : ScpiError) → Effect
  -- the mainframe refuses it by this error
  RefusesWith : (error : ScpiError) → Effect
  -- The session carries these out itself: macros, and the beginning of a scan, for READ? with its readings. It sends
  -- the mainframe neither as a command; the mainframe refuses such a command as an undefined header.
  IsOfMacros : Effect
  Initiates : Effect

-- when the mainframe carries a command out
pub data Action : Type 1 where
  -- whether a scan runs or not
  AtOnce : (effect : Effect) → Action
  -- while no scan runs; the mainframe refuses it while one runs (own)
  BetweenScans : (effect : Effect) → Action
  -- while no scan runs; the mainframe holds it while one runs (IEEE 488.2, 12.5.2 and 12.5.3)
  AfterScan : (effect : Effect) → Action

-- the state after *RST, and after ABORt
abbrev pub reset : Panel → Panel
reset p = record p {
  cage = record (safe_state p.cage) { readings = [] };
  status = card_fault_cleared p.status;
  settings = setup_at_reset;
  opc_waits = false;
}

abbrev pub aborted : Panel → Panel
aborted p = record p { cage = safe_state p.cage }

-- the settings with another value at a layer
abbrev pub with_count : LayerName → ℕ → SettingsSeen → SettingsSeen
with_count layer n s = with_layer s layer (record (layer_of s layer) { count = n })

abbrev pub with_source : LayerName → Source → SettingsSeen → SettingsSeen
with_source layer source s = with_layer s layer (record (layer_of s layer) { source = source })

abbrev pub with_time : Time → LayerName → ℕ → SettingsSeen → SettingsSeen
with_time Time.Delay layer micros s = with_layer s layer (record (layer_of s layer) { delay_us = micros })
with_time Time.Timer layer micros s = with_layer s layer (record (layer_of s layer) { timer_us = micros })
with_time Time.Settling layer micros s = record s { settle_us = micros }

-- ---- queries

-- a program as a listing in a block; an empty one for none
abbrev pub program_text : Option Program → List ℕ
program_text None = codes "#10"
program_text (Some code) = block_of (listing_of code)

-- whether INITiate runs it
abbrev pub programmed_text : Loaded → List ℕ
programmed_text program = if is_some (running program) then decimal 1 else decimal 0

-- What a query answers. The flag says whether its program message has answered before, which is when a message is
-- available.
abbrev pub query_text : Bool → PlainQuery → Panel → List ℕ
query_text available PlainQuery.Identify p = identity_text
query_text available PlainQuery.EventEnable p = decimal p.status.ese
query_text available PlainQuery.ServiceEnable p = decimal p.status.sre
query_text available PlainQuery.StatusByte p = decimal (byte_of p.status available)
query_text available PlainQuery.SelfTest p = decimal 0
query_text available PlainQuery.InitiateContinuous p = decimal 0
query_text available PlainQuery.CloseState p = printed (closed_list p.cage.cards)
query_text available PlainQuery.Settling p = fixed 6 p.settings.scan.settle_us
query_text available PlainQuery.Scan p = printed_positions p.settings.scan.list
query_text available PlainQuery.ScanMeter p = decimal p.settings.scan.meter
query_text available PlainQuery.Program p = program_text (kept p.settings.program)
query_text available PlainQuery.Programmed p = programmed_text p.settings.program
query_text available PlainQuery.ErrorCount p = decimal (length p.status.errors)
query_text available PlainQuery.Headers p = headers_text
query_text available PlainQuery.Version p = version
query_text available PlainQuery.Points p = decimal p.settings.scan.points
query_text available PlainQuery.ActualPoints p = decimal (length p.cage.readings)
query_text available PlainQuery.Bound p = decimal (bound_of p.settings)
query_text available PlainQuery.ScanCheck p = scan_check_text p

-- the readings of the scan with this number, where it made exactly this count of them and no scan began since
abbrev pub readings_of_scan : ℕ → ℕ → Panel → List Reading
readings_of_scan number count p =
    if p.cage.number == number && length p.cage.readings == count then p.cage.readings else []

-- what a query of a layer answers
abbrev pub layer_text : LayerQuery → Layer → List ℕ
layer_text LayerQuery.Count layer = decimal layer.count
layer_text LayerQuery.Source layer = source_word layer.source
layer_text LayerQuery.Delay layer = fixed 6 layer.delay_us
layer_text LayerQuery.Timer layer = fixed 6 layer.timer_us

-- what a query of a status group answers
abbrev pub group_text : GroupQuery → GroupSeen → List ℕ
group_text GroupQuery.Condition group = decimal group.condition
group_text GroupQuery.Enable group = decimal group.enable
group_text GroupQuery.PositiveTransition group = decimal group.ptr
group_text GroupQuery.NegativeTransition group = decimal group.ntr

-- the text of QUEStionable's condition, by whether all cards are sure of their relays
abbrev pub condition_text : Panel → Bool → List ℕ
condition_text p sure = decimal (condition_told p.status.questionable.condition sure)

-- what is read out of the status
abbrev pub read_text : StatusRead → StatusSeen → List ℕ
read_text StatusRead.EventStatus s = decimal s.esr
read_text (StatusRead.GroupEvent group) s = decimal (registers_of s group).event
read_text StatusRead.NextError s = oldest_entry s.errors
read_text StatusRead.AllErrors s = all_entries s.errors

-- the status after it
abbrev pub without_read : StatusRead → StatusSeen → StatusSeen
without_read StatusRead.EventStatus s = record s { esr = 0 }
without_read (StatusRead.GroupEvent group) s = with_group s group (event_taken (registers_of s group))
without_read StatusRead.NextError s = popped s
without_read StatusRead.AllErrors s = record s { errors = [] }

-- ---- settings

-- the status with these bits
abbrev pub with_bits : StatusSetting → StatusSeen → StatusSeen
with_bits (StatusSetting.EventEnable bits) s = record s { ese = bits }
with_bits (StatusSetting.ServiceEnable bits) s = enabled s bits
with_bits (StatusSetting.Enable group bits) s = with_group s group (with_enable (registers_of s group) bits)
with_bits (StatusSetting.PositiveTransition group bits) s = with_group s group (with_ptr (registers_of s group) bits)
with_bits (StatusSetting.NegativeTransition group bits) s = with_group s group (with_ntr (registers_of s group) bits)

-- the values that a setting has; a program can be switched on where there is one
abbrev pub Fits : Setting → Setup → Type 0
Fits (Setting.Count layer n) s = (1 ≤ n) × (n ≤ most_of layer)
Fits (Setting.Source layer source) s = Unit {0}
Fits (Setting.Time Time.Delay layer micros) s = micros ≤ longest_delay
Fits (Setting.Time Time.Timer layer micros) s = (1 ≤ micros) × (micros ≤ longest_delay)
Fits (Setting.Time Time.Settling layer micros) s = micros ≤ longest_delay
Fits (Setting.Scan positions) s = length positions ≤ most_entries
Fits (Setting.ScanMeter slot) s = (1 ≤ slot) × (slot ≤ most_slots)
Fits (Setting.Points n) s = (1 ≤ n) × (n ≤ most_points)
Fits (Setting.Program code) s = Unit {0}
Fits (Setting.Programmed on) s = CanSwitch on s
Fits Setting.NoProgram s = Unit {0}

-- the error that refuses any other value
abbrev pub misfit : Setting → ScpiError
misfit (Setting.Scan positions) = TooMuchData
misfit (Setting.Programmed on) = SettingsConflict
misfit setting = DataOutOfRange

-- the settings with this value
abbrev pub with_value : Setting → Setup → Setup
with_value (Setting.Count layer n) s = record s { scan = with_count layer n s.scan }
with_value (Setting.Source layer source) s = record s { scan = with_source layer source s.scan }
with_value (Setting.Time time layer micros) s = record s { scan = with_time time layer micros s.scan }
with_value (Setting.Scan positions) s = record s { scan = record s.scan { list = positions } }
with_value (Setting.ScanMeter slot) s = record s { scan = record s.scan { meter = slot } }
with_value (Setting.Points n) s = record s { scan = record s.scan { points = n } }
with_value (Setting.Program code) s = record s { program = On code }
with_value (Setting.Programmed on) s = switched on s
with_value Setting.NoProgram s = record s { program = Nothing }

-- ---- commands

-- the error that refuses a layer's signal that no scan takes
abbrev pub ignored_at : LayerName → ScpiError
ignored_at layer_name.Trigger = TriggerIgnored
ignored_at (layer_name.Arm arm) = ArmIgnored

-- whether the cage offers a command to the scan (SCPI-1999, 24; IEEE 488.2, 10.37)
abbrev pub is_trigger : Command → Bool
is_trigger (Command.NoData NoData.Trigger) = true
is_trigger (Command.Signal layer) = true
is_trigger command = false

-- whether a command waits for the end of the scan (IEEE 488.2, 12.5.2 and 12.5.3)
abbrev pub awaits_end : Command → Bool
awaits_end (Command.NoData NoData.OperationCompleteQuery) = true
awaits_end (Command.NoData NoData.Wait) = true
awaits_end (Command.ScanReadings number count) = true
awaits_end command = false

-- what a command without data does
abbrev pub no_data_action : NoData → Action
no_data_action NoData.Reset = AtOnce Resets
no_data_action NoData.ClearStatus = AtOnce (Changes (λ p. record p { status = cleared p.status; opc_waits = false }))
no_data_action NoData.OperationComplete = AtOnce (Changes (λ p. record p { opc_waits = true }))
no_data_action NoData.OperationCompleteQuery = AfterScan (TellsText (λ p. decimal 1))
no_data_action NoData.Wait = AfterScan (Changes (λ p. p))
no_data_action NoData.Trigger = AtOnce (Triggers Bus TriggerIgnored)
no_data_action NoData.Abort = AtOnce (Changes aborted)
no_data_action NoData.Initiate = AtOnce Initiates
no_data_action NoData.OpenAll = BetweenScans (Changes (λ p. with_cards p (all_open p.cage.cards)))
no_data_action NoData.Preset = AtOnce (SetsStatus preset)
no_data_action NoData.Fetch = AtOnce (TellsReadings (λ p. p.cage.readings))
no_data_action NoData.Read = AtOnce Initiates

-- for each channel whether it is closed, or open, joined by commas
abbrev pub flags_text : Bool → List Channel → Panel → List ℕ
flags_text closed chans p =
    join_with_byte 44 (map (λ c. yes_or_no (as_asked closed (is_closed p.cage.cards c))) chans)

-- what a command with a channel list does
abbrev pub relay_action : RelayCommand → List Channel → Action
relay_action RelayCommand.Close chans = BetweenScans (ClosesListed chans)
relay_action RelayCommand.CloseQuery chans = AtOnce (TellsHardware (λ p. has_all p chans) (flags_text true chans))
relay_action RelayCommand.Open chans = BetweenScans (OpensListed chans)
relay_action RelayCommand.OpenQuery chans = AtOnce (TellsHardware (λ p. has_all p chans) (flags_text false chans))
relay_action RelayCommand.CloseCheck chans = AtOnce (TellsText (check_text chans))

-- what a query of a slot does
abbrev pub slot_action : SlotQuery → ℕ → Action
slot_action SlotQuery.Kind slot = AtOnce (TellsText (kind_text slot))
slot_action SlotQuery.Groups slot = AtOnce (TellsHardware (has_relays slot) (groups_text slot))
slot_action SlotQuery.State slot = AtOnce (TellsSurety (state_text slot))

-- what a query of a status group does; only QUEStionable's condition asks the cards
abbrev pub group_action : GroupQuery → StatusGroup → Action
group_action GroupQuery.Condition group_name.Questionable = AtOnce (TellsSurety condition_text)
group_action query group = AtOnce (TellsText (λ p. group_text query (registers_of p.status group)))

-- what a setting of scans does
abbrev pub setting_action : Setting → Action
setting_action setting = BetweenScans (SetsUp (Fits setting) (misfit setting) (with_value setting))

-- what INITiate:CONTinuous does
abbrev pub continuous_action : Bool → Action
continuous_action true = AtOnce (RefusesWith SettingsConflict)
continuous_action false = AtOnce (Changes (λ p. p))

-- What a command does. The flag says whether its program message has answered before (SCPI-1999, 3, 18, 20, 21.8 and
-- 24; IEEE 488.2, 10 and 11.2).
abbrev pub action_of : Bool → Command → Action
action_of available (Command.NoData plain) = no_data_action plain
action_of available (Command.Query query) = AtOnce (TellsText (query_text available query))
action_of available (Command.LayerQuery query layer) =
    AtOnce (TellsText (λ p. layer_text query (layer_of p.settings.scan layer)))
action_of available (Command.GroupQuery query group) = group_action query group
action_of available (Command.SlotQuery query slot) = slot_action query slot
action_of available (Command.DestructiveQuery read) = AtOnce (ReadsOut (read_text read) (without_read read))
action_of available (Command.Signal layer) = AtOnce (Triggers (Signal layer) (ignored_at layer))
action_of available (Command.Continuous on) = continuous_action on
action_of available (Command.Relays ask chans) = relay_action ask chans
action_of available (Command.ListingCheck listing) = AtOnce (TellsListing listing)
action_of available (Command.Set setting) = setting_action setting
action_of available (Command.SetStatus setting) = AtOnce (SetsStatus (with_bits setting))
action_of available (Command.Macros ask) = AtOnce IsOfMacros
action_of available (Command.Macro ask) = AtOnce IsOfMacros
action_of available (Command.ScanReadings number count) = AfterScan (TellsReadings (readings_of_scan number count))
