-- The table of headers (SCPI-1999, volume 2; IEEE 488.2, 10), each as the standard writes it: mnemonics joined by
-- colons, nodes that may be left out in brackets, and a question mark behind a query. `#` is the number of an ARM
-- layer, or none.
use Rattle.std.specs.Prelude.{ℕ, Bool, false, ◌==◌, ◌||◌, List, [], ◌∷◌, map, codes, if◌then◌else◌}
use Rattle.sw_base.specs.declared.terms.StatusGroup.TheVariants as groups
use Rattle.sw_lex.specs.declared.command.NoData.TheVariants as plain
use Rattle.sw_lex.specs.declared.command.PlainQuery.TheVariants as queries
use Rattle.sw_lex.specs.declared.command.LayerQuery.TheVariants as layer_queries
use Rattle.sw_lex.specs.declared.command.GroupQuery.TheVariants as group_queries
use Rattle.sw_lex.specs.declared.command.SlotQuery.TheVariants as slot_queries
use Rattle.sw_lex.specs.declared.command.StatusRead.TheVariants as reads
use Rattle.sw_lex.specs.declared.command.RelayCommand.TheVariants as lists
use Rattle.sw_lex.specs.declared.command.Time.TheVariants as times
use Rattle.sw_lex.specs.declared.command.AllMacros.TheVariants as all_macros
use Rattle.sw_lex.specs.declared.table.HeaderMeaning.{HeaderMeaning}
use Rattle.sw_lex.specs.declared.table.HeaderMeaning.TheVariants as keys
use Rattle.sw_lex.specs.declared.table.Numeric.TheVariants as wholes
use Rattle.sw_lex.specs.declared.table.Switch.TheVariants as switches
use Rattle.sw_lex.specs.declared.table.Family.TheVariants as families

-- each header, and what it asks for
unfoldable pub table : List (List ℕ × HeaderMeaning)
table =
    (codes "*IDN?", keys.Query queries.Identify)
    ∷ (codes "*RST", keys.NoData plain.Reset)
    ∷ (codes "*OPC", keys.NoData plain.OperationComplete)
    ∷ (codes "*OPC?", keys.NoData plain.OperationCompleteQuery)
    ∷ (codes "*WAI", keys.NoData plain.Wait)
    ∷ (codes "*TST?", keys.Query queries.SelfTest)
    ∷ (codes "*TRG", keys.NoData plain.Trigger)
    ∷ (codes "*CLS", keys.NoData plain.ClearStatus)
    ∷ (codes "*ESE", keys.Numeric wholes.EventEnable)
    ∷ (codes "*ESE?", keys.Query queries.EventEnable)
    ∷ (codes "*ESR?", keys.DestructiveQuery reads.EventStatus)
    ∷ (codes "*SRE", keys.Numeric wholes.ServiceEnable)
    ∷ (codes "*SRE?", keys.Query queries.ServiceEnable)
    ∷ (codes "*STB?", keys.Query queries.StatusByte)
    ∷ (codes "*DMC", keys.DefineMacro)
    ∷ (codes "*GMC?", keys.MacroQuery)
    ∷ (codes "*RMC", keys.RemoveMacro)
    ∷ (codes "*LMC?", keys.Macros all_macros.LabelsQuery)
    ∷ (codes "*PMC", keys.Macros all_macros.Purge)
    ∷ (codes "*EMC", keys.EnableMacros)
    ∷ (codes "*EMC?", keys.Macros all_macros.EnableQuery)
    ∷ (codes "ABORt", keys.NoData plain.Abort)
    ∷ (codes "ARM[:LAYer#]:COUNt", keys.Numeric (wholes.Count families.Arm))
    ∷ (codes "ARM[:LAYer#]:COUNt?", keys.LayerQuery layer_queries.Count families.Arm)
    ∷ (codes "ARM[:LAYer#]:SOURce", keys.Source families.Arm)
    ∷ (codes "ARM[:LAYer#]:SOURce?", keys.LayerQuery layer_queries.Source families.Arm)
    ∷ (codes "ARM[:LAYer#]:DELay", keys.Time times.Delay families.Arm)
    ∷ (codes "ARM[:LAYer#]:DELay?", keys.LayerQuery layer_queries.Delay families.Arm)
    ∷ (codes "ARM[:LAYer#]:TIMer", keys.Time times.Timer families.Arm)
    ∷ (codes "ARM[:LAYer#]:TIMer?", keys.LayerQuery layer_queries.Timer families.Arm)
    ∷ (codes "ARM[:LAYer#]:SIGNal", keys.Signal families.Arm)
    ∷ (codes "INITiate[:IMMediate]", keys.NoData plain.Initiate)
    ∷ (codes "INITiate:CONTinuous", keys.Switch switches.Continuous)
    ∷ (codes "INITiate:CONTinuous?", keys.Query queries.InitiateContinuous)
    ∷ (codes "TRIGger:COUNt", keys.Numeric (wholes.Count families.Trigger))
    ∷ (codes "TRIGger:COUNt?", keys.LayerQuery layer_queries.Count families.Trigger)
    ∷ (codes "TRIGger:SOURce", keys.Source families.Trigger)
    ∷ (codes "TRIGger:SOURce?", keys.LayerQuery layer_queries.Source families.Trigger)
    ∷ (codes "TRIGger:DELay", keys.Time times.Delay families.Trigger)
    ∷ (codes "TRIGger:DELay?", keys.LayerQuery layer_queries.Delay families.Trigger)
    ∷ (codes "TRIGger:TIMer", keys.Time times.Timer families.Trigger)
    ∷ (codes "TRIGger:TIMer?", keys.LayerQuery layer_queries.Timer families.Trigger)
    ∷ (codes "TRIGger:SIGNal", keys.Signal families.Trigger)
    ∷ (codes "TRACe:POINts", keys.Numeric wholes.Points)
    ∷ (codes "TRACe:POINts?", keys.Query queries.Points)
    ∷ (codes "TRACe:POINts:ACTual?", keys.Query queries.ActualPoints)
    ∷ (codes "ROUTe:CLOSe", keys.Relays lists.Close)
    ∷ (codes "ROUTe:CLOSe?", keys.Relays lists.CloseQuery)
    ∷ (codes "ROUTe:CLOSe:STATe?", keys.Query queries.CloseState)
    ∷ (codes "ROUTe:OPEN", keys.Relays lists.Open)
    ∷ (codes "ROUTe:OPEN?", keys.Relays lists.OpenQuery)
    ∷ (codes "ROUTe:OPEN:ALL", keys.NoData plain.OpenAll)
    ∷ (codes "ROUTe:CHANnel:DELay", keys.Time times.Settling families.Trigger)
    ∷ (codes "ROUTe:CHANnel:DELay?", keys.Query queries.Settling)
    ∷ (codes "ROUTe:SCAN", keys.Scan)
    ∷ (codes "ROUTe:SCAN?", keys.Query queries.Scan)
    ∷ (codes "ROUTe:SCAN:METer", keys.Numeric wholes.ScanMeter)
    ∷ (codes "ROUTe:SCAN:METer?", keys.Query queries.ScanMeter)
    ∷ (codes "ROUTe:SCAN:PROGram[:DEFine]", keys.Program)
    ∷ (codes "ROUTe:SCAN:PROGram[:DEFine]?", keys.Query queries.Program)
    ∷ (codes "ROUTe:SCAN:PROGram:STATe", keys.Switch switches.Programmed)
    ∷ (codes "ROUTe:SCAN:PROGram:STATe?", keys.Query queries.Programmed)
    ∷ (codes "ROUTe:SCAN:PROGram:DELete", keys.NoProgram)
    ∷ (codes "STATus:OPERation[:EVENt]?", keys.DestructiveQuery (reads.GroupEvent groups.Operation))
    ∷ (codes "STATus:OPERation:CONDition?", keys.GroupQuery group_queries.Condition groups.Operation)
    ∷ (codes "STATus:OPERation:ENABle", keys.Numeric (wholes.Enable groups.Operation))
    ∷ (codes "STATus:OPERation:ENABle?", keys.GroupQuery group_queries.Enable groups.Operation)
    ∷ (codes "STATus:OPERation:PTRansition", keys.Numeric (wholes.PositiveTransition groups.Operation))
    ∷ (codes "STATus:OPERation:PTRansition?", keys.GroupQuery group_queries.PositiveTransition groups.Operation)
    ∷ (codes "STATus:OPERation:NTRansition", keys.Numeric (wholes.NegativeTransition groups.Operation))
    ∷ (codes "STATus:OPERation:NTRansition?", keys.GroupQuery group_queries.NegativeTransition groups.Operation)
    ∷ (codes "STATus:QUEStionable[:EVENt]?", keys.DestructiveQuery (reads.GroupEvent groups.Questionable))
    ∷ (codes "STATus:QUEStionable:CONDition?", keys.GroupQuery group_queries.Condition groups.Questionable)
    ∷ (codes "STATus:QUEStionable:ENABle", keys.Numeric (wholes.Enable groups.Questionable))
    ∷ (codes "STATus:QUEStionable:ENABle?", keys.GroupQuery group_queries.Enable groups.Questionable)
    ∷ (codes "STATus:QUEStionable:PTRansition", keys.Numeric (wholes.PositiveTransition groups.Questionable))
    ∷ (codes "STATus:QUEStionable:PTRansition?", keys.GroupQuery group_queries.PositiveTransition groups.Questionable)
    ∷ (codes "STATus:QUEStionable:NTRansition", keys.Numeric (wholes.NegativeTransition groups.Questionable))
    ∷ (codes "STATus:QUEStionable:NTRansition?", keys.GroupQuery group_queries.NegativeTransition groups.Questionable)
    ∷ (codes "STATus:PRESet", keys.NoData plain.Preset)
    ∷ (codes "SYSTem:ERRor[:NEXT]?", keys.DestructiveQuery reads.NextError)
    ∷ (codes "SYSTem:ERRor:ALL?", keys.DestructiveQuery reads.AllErrors)
    ∷ (codes "SYSTem:ERRor:COUNt?", keys.Query queries.ErrorCount)
    ∷ (codes "SYSTem:HELP:HEADers?", keys.Query queries.Headers)
    ∷ (codes "SYSTem:VERSion?", keys.Query queries.Version)
    ∷ (codes "SYSTem:CTYPe?", keys.Numeric (wholes.Slot slot_queries.Kind))
    ∷ (codes "SYSTem:CTYPe:GROups?", keys.Numeric (wholes.Slot slot_queries.Groups))
    ∷ (codes "SYSTem:CTYPe:STATe?", keys.Numeric (wholes.Slot slot_queries.State))
    ∷ (codes "DIAGnostic:SCAN:BOUNd?", keys.Query queries.Bound)
    ∷ (codes "DIAGnostic:SCAN:CHECk?", keys.ScanCheck)
    ∷ (codes "DIAGnostic:CLOSe:CHECk?", keys.Relays lists.CloseCheck)
    ∷ (codes "FETCh?", keys.NoData plain.Fetch)
    ∷ (codes "READ?", keys.NoData plain.Read)
    ∷ []

-- ---- what is written there

-- a node, with its mnemonic: the header must have it, may leave it out, or may leave it out or give it a number
pub data Node : Type 0 where
  must : List ℕ → Node
  may : List ℕ → Node
  numbered : List ℕ → Node

-- a header's text, read from its end: the mnemonic at its front so far, the node that it makes, and the nodes after it
pub record Scanned : Type 0 where
  pub word : List ℕ
  pub stands : List ℕ → Node
  pub after : List Node

abbrev pub node_before : List ℕ → (List ℕ → Node) → List Node → List Node
node_before [] stands after = after
node_before (b ∷ word) stands after = stands (b ∷ word) ∷ after

abbrev pub nodes_from : Scanned → List Node
nodes_from s = node_before s.word s.stands s.after

abbrev pub begin : (List ℕ → Node) → Scanned → Scanned
begin stands s = record { word = []; stands = stands; after = nodes_from s }

abbrev pub scanned_byte : ℕ → Scanned → Scanned
scanned_byte b s = record { word = b ∷ s.word; stands = s.stands; after = s.after }

-- one byte more: `?`, `#`, `]`, a colon or `[`, or a byte of a mnemonic
abbrev pub scan_byte : ℕ → Scanned → Scanned
scan_byte b s =
    if b == 63 then s
    else if b == 35 then begin numbered s
    else if b == 93 then begin may s
    else if b == 58 || b == 91 then begin must s
    else scanned_byte b s

abbrev pub scanned : List ℕ → Scanned
scanned [] = record { word = []; stands = must; after = [] }
scanned (b ∷ text) = scan_byte b (scanned text)

abbrev pub is_query : List ℕ → Bool
is_query [] = false
is_query (b ∷ text) = b == 63 || is_query text

-- a header of the table: its nodes, whether it is a query, and what it asks for
pub record HeaderEntry : Type 0 where
  pub nodes : List Node
  pub query : Bool
  pub key : HeaderMeaning

abbrev pub header_entry : List ℕ × HeaderMeaning → HeaderEntry
header_entry e = record { nodes = nodes_from (scanned e.0); query = is_query e.0; key = e.1 }

unfoldable pub entries : List HeaderEntry
entries = map header_entry table
