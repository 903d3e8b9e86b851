-- What the table of a card means: the card, or its first fault. The order of the checks: the card and its driver, then
-- whether each key is one of such a card, then the keys in the order below.
use Rattle.std.specs.Prelude.{ℕ, ◌+◌, ◌-◌, ◌==◌, nat_lt, pos, Bool, true, not, ◌&&◌, List, [], ◌∷◌, length, replicate}
use Rattle.std.specs.Prelude.{take, Option, Some, None, is_some, Result, Ok, Err, codes, if◌then◌else◌}
use Rattle.std.specs.Str.{bytes_eq}
use Rattle.toml.specs.Data.{Data, table, Members, no_members, member, type_name}
use Rattle.sw_rack.specs.declared.key.Key.{Key}
use Rattle.sw_rack.specs.declared.key.Key.TheVariants as keys
use Rattle.sw_rack.specs.declared.form.Form.{Form}
use Rattle.sw_rack.specs.declared.form.Form.TheVariants as forms
use Rattle.sw_rack.specs.declared.form.RelayForm.{RelayForm}
use Rattle.sw_rack.specs.declared.form.RelayForm.TheVariants as relays
use Rattle.sw_rack.specs.declared.form.MeterForm.{MeterForm}
use Rattle.sw_rack.specs.declared.form.MeterForm.TheVariants as meters
use Rattle.sw_rack.specs.declared.cause.Cause.TheVariants as causes
use Rattle.sw_rack.specs.declared.cause.Choice.TheVariants as choices
use Rattle.sw_rack.specs.Keys.{named, all_keys}
use Rattle.sw_rack.specs.Forms.{takes}
use Rattle.sw_rack.specs.Reading.{Miss, ◌>>=◌}
use Rattle.sw_rack.specs.Fields.{otherwise, wanted, text_at, number_at, integer_at, flag_at, groups_at, texts_at}
use Rattle.sw_rack.specs.Templates.{rendered}
use Rattle.sw_rack.specs.Seen.{PlaceSeen, Address, Device, Waiting, ModbusSeen, StateSeen, LinesSeen}
use Rattle.sw_rack.specs.Seen.{RelaysSeen, SimulatedRelays, TcpRelays, RtuRelays, LineRelays, ScpiRelays}
use Rattle.sw_rack.specs.Seen.{MeterSeen, SimulatedMeter, ScpiMeter, KindSeen, RelayCard, MeterCard, CardSeen}

-- ---- which form of card it is

abbrev pub relay_form : List ℕ → Result Form Miss
relay_form word =
    if bytes_eq word (codes "simulated") then Ok (forms.Relays relays.Simulated)
    else if bytes_eq word (codes "modbus-tcp") then Ok (forms.Relays relays.ModbusTcp)
    else if bytes_eq word (codes "modbus-rtu") then Ok (forms.Relays relays.ModbusRtu)
    else if bytes_eq word (codes "lines") then Ok (forms.Relays relays.Lines)
    else if bytes_eq word (codes "scpi") then Ok (forms.Relays relays.Scpi)
    else Err (causes.Word choices.RelayDriver, word)

abbrev pub meter_form : List ℕ → Result Form Miss
meter_form word =
    if bytes_eq word (codes "simulated") then Ok (forms.Meter meters.Simulated)
    else if bytes_eq word (codes "scpi") then Ok (forms.Meter meters.Scpi)
    else Err (causes.Word choices.MeterDriver, word)

-- the text that a table must have at a key
unfoldable pub wanted_text : Key → Members → Result (List ℕ) Miss
wanted_text key ms = text_at key ms >>= wanted key

unfoldable pub form_of : Members → Result Form Miss
form_of ms = do
  card ← wanted_text keys.Card ms
  if bytes_eq card (codes "relays") then (wanted_text keys.Driver ms >>= relay_form)
      else if bytes_eq card (codes "meter") then (wanted_text keys.Driver ms >>= meter_form)
      else Err (causes.Word choices.Card, card)

-- ---- that each key is one of such a card

abbrev pub fitting : Form → List ℕ → Option Key → Result (Unit {0}) Miss
fitting form name None = Err (causes.Unknown, name)
fitting form name (Some key) = if takes form key then Ok tt else Err (causes.Stray form, name)

abbrev pub all_fitting : Form → Members → Result (Unit {0}) Miss
all_fitting form no_members = Ok tt
all_fitting form (member name d ms) = fitting form name (named all_keys name) >>= λ _. all_fitting form ms

-- ---- keys that several forms have

unfoldable pub text_or : Key → List ℕ → Members → Result (List ℕ) Miss
text_or key usual ms = text_at key ms >>= λ found. Ok (otherwise usual found)

unfoldable pub number_or : Key → ℕ → ℕ → ℕ → Members → Result ℕ Miss
number_or key low high usual ms = number_at key low high ms >>= λ found. Ok (otherwise usual found)

-- the devices that have a kernel driver that waits by itself
abbrev pub device_at : List ℕ → PlaceSeen
device_at path = if bytes_eq (codes "/dev/usbtmc") (take 11 path) then Waiting path else Device path

-- one of both keys
abbrev pub one_place : Option (List ℕ) → Option (List ℕ) → Result PlaceSeen Miss
one_place (Some text) None = Ok (Address text)
one_place None (Some path) = Ok (device_at path)
one_place (Some text) (Some path) = Err (causes.OneOf keys.Address keys.Device, [])
one_place None None = Err (causes.OneOf keys.Address keys.Device, [])

unfoldable pub place_of : Members → Result PlaceSeen Miss
place_of ms = do
  address ← text_at keys.Address ms
  device ← text_at keys.Device ms
  one_place address device

-- the groups of this many channels: one for all, or a list of them
abbrev pub chosen_groups : ℕ → Option ℕ → Option (List ℕ) → Result (List ℕ) Miss
chosen_groups channels None None = Ok (replicate channels 0)
chosen_groups channels (Some group) None = Ok (replicate channels group)
chosen_groups channels None (Some groups) =
    if length groups == channels then Ok groups else Err (causes.Groups (length groups) channels, [])
chosen_groups channels (Some group) (Some groups) = Err (causes.OneOf keys.Group keys.Groups, [])

unfoldable pub groups_of : ℕ → Members → Result (List ℕ) Miss
groups_of channels ms = do
  group ← number_at keys.Group 0 255 ms
  groups ← groups_at keys.Groups ms
  chosen_groups channels group groups

-- ---- relays on a board that speaks Modbus

unfoldable pub tcp_place : Members → Result PlaceSeen Miss
tcp_place ms = do
  text ← wanted_text keys.Address ms
  Ok (Address text)

unfoldable pub rtu_place : Members → Result PlaceSeen Miss
rtu_place ms = do
  path ← wanted_text keys.Device ms
  Ok (device_at path)

-- the coils of the channels are within the addresses of Modbus
abbrev pub coils_from : ℕ → ℕ → Result ℕ Miss
coils_from channels first =
    if nat_lt 65536 (first + channels) then Err (causes.Coil (first + channels - 1), []) else Ok first

unfoldable pub modbus_of : PlaceSeen → ℕ → ℕ → ℕ → Members → Result ModbusSeen Miss
modbus_of place least most channels ms = do
  limit ← number_or keys.LimitMs 10 60000 500 ms
  unit ← number_or keys.UnitIdentifier least most 1 ms
  first ← number_or keys.FirstCoil 0 65535 0 ms
  first_coil ← coils_from channels first
  confirm ← flag_at keys.Confirm ms
  Ok (record {
    place = place;
    limit_ms = limit;
    unit = unit;
    first_coil = first_coil;
    confirm = otherwise true confirm;
  })

-- ---- relays on a board that obeys lines

-- a template that has a text for each of this many channels: it does where it does for the last one
abbrev pub some_template : Key → ℕ → List ℕ → Result (List ℕ) Miss
some_template key channels text = if is_some (rendered channels text) then Ok text else Err (causes.Template key, text)

abbrev pub optional_template : Key → ℕ → Option (List ℕ) → Result (Option (List ℕ)) Miss
optional_template key channels None = Ok None
optional_template key channels (Some text) = some_template key channels text >>= λ t. Ok (Some t)

unfoldable pub template_at : Key → ℕ → Members → Result (Option (List ℕ)) Miss
template_at key channels ms = text_at key ms >>= optional_template key channels

unfoldable pub wanted_template : Key → ℕ → Members → Result (List ℕ) Miss
wanted_template key channels ms = template_at key channels ms >>= wanted key

unfoldable pub template_or : Key → List ℕ → ℕ → Members → Result (List ℕ) Miss
template_or key usual channels ms = template_at key channels ms >>= λ found. Ok (otherwise usual found)

unfoldable pub texts_or : Key → List (List ℕ) → Members → Result (List (List ℕ)) Miss
texts_or key usual ms = texts_at key ms >>= λ found. Ok (otherwise usual found)

-- a card may want something of an answer only where the file gives the answer's end
abbrev pub needs_end : Bool → Bool → Result (Unit {0}) Miss
needs_end wants has_end = if wants && not has_end then Err (causes.Missing keys.AnswerEnd, []) else Ok tt

-- the query of the state, and what the answers have: all three, or none
abbrev pub whole_state : Option (List ℕ) → Option (List ℕ) → Option (List ℕ) → Result (Option StateSeen) Miss
whole_state None None None = Ok None
whole_state None on off = Err (causes.Missing keys.State, [])
whole_state (Some query) None off = Err (causes.Missing keys.StateOn, [])
whole_state (Some query) (Some on) None = Err (causes.Missing keys.StateOff, [])
whole_state (Some query) (Some on) (Some off) = Ok (Some (record { query = query; on = on; off = off }))

unfoldable pub state_of : ℕ → Bool → Members → Result (Option StateSeen) Miss
state_of channels has_end ms = do
  query ← template_at keys.State channels ms
  fine ← needs_end (is_some query) has_end
  on ← text_at keys.StateOn ms
  off ← text_at keys.StateOff ms
  whole_state query on off

unfoldable pub lines_of : ℕ → Members → Result LinesSeen Miss
lines_of channels ms = do
  place ← place_of ms
  limit ← number_or keys.LimitMs 10 60000 500 ms
  on ← wanted_template keys.On channels ms
  off ← wanted_template keys.Off channels ms
  lines ← texts_at keys.AllOff ms
  all_off ← wanted keys.AllOff lines
  end ← text_at keys.AnswerEnd ms
  answer ← text_at keys.Answer ms
  fine ← needs_end (is_some answer) (is_some end)
  state ← state_of channels (is_some end) ms
  Ok (record {
    place = place;
    limit_ms = limit;
    on = on;
    off = off;
    all_off = all_off;
    answer_end = otherwise [] end;
    answer = otherwise [] answer;
    state = state;
    setup = [];
  })

-- ---- relays of a SCPI instrument

unfoldable pub scpi_state_of : ℕ → Members → Result StateSeen Miss
scpi_state_of channels ms = do
  query ← template_or keys.State (codes "ROUT:CLOS? (@{ch})") channels ms
  on ← text_or keys.StateOn (codes "1") ms
  off ← text_or keys.StateOff (codes "0") ms
  Ok (record { query = query; on = on; off = off })

unfoldable pub scpi_lines_of : ℕ → Members → Result LinesSeen Miss
scpi_lines_of channels ms = do
  place ← place_of ms
  limit ← number_or keys.LimitMs 10 60000 500 ms
  on ← template_or keys.On (codes "ROUT:CLOS (@{ch})") channels ms
  off ← template_or keys.Off (codes "ROUT:OPEN (@{ch})") channels ms
  all_off ← texts_or keys.AllOff (codes "ROUT:OPEN:ALL" ∷ []) ms
  state ← scpi_state_of channels ms
  setup ← texts_or keys.Setup [] ms
  Ok (record {
    place = place;
    limit_ms = limit;
    on = on;
    off = off;
    all_off = all_off;
    answer_end = [];
    answer = [];
    state = Some state;
    setup = setup;
  })

-- ---- cards

unfoldable pub behind_of : RelayForm → ℕ → Members → Result RelaysSeen Miss
behind_of relays.Simulated channels ms =
    number_at keys.FailClosing 1 4294967295 ms >>= λ closing. Ok (SimulatedRelays closing)
behind_of relays.ModbusTcp channels ms = do
  place ← tcp_place ms
  board ← modbus_of place 0 255 channels ms
  Ok (TcpRelays board)
behind_of relays.ModbusRtu channels ms = do
  place ← rtu_place ms
  board ← modbus_of place 1 247 channels ms
  Ok (RtuRelays board)
behind_of relays.Lines channels ms = lines_of channels ms >>= λ board. Ok (LineRelays board)
behind_of relays.Scpi channels ms = scpi_lines_of channels ms >>= λ board. Ok (ScpiRelays board)

unfoldable pub relays_of : RelayForm → Members → Result KindSeen Miss
relays_of form ms = do
  found ← number_at keys.Channels 1 99 ms
  channels ← wanted keys.Channels found
  groups ← groups_of channels ms
  behind ← behind_of form channels ms
  Ok (RelayCard groups behind)

unfoldable pub simulated_meter_of : Members → Result MeterSeen Miss
simulated_meter_of ms = do
  first ← integer_at keys.FirstNv ms
  step ← integer_at keys.StepNv ms
  Ok (SimulatedMeter (otherwise (pos 1000000000) first) (otherwise (pos 1) step))

unfoldable pub scpi_meter_of : Members → Result MeterSeen Miss
scpi_meter_of ms = do
  place ← place_of ms
  limit ← number_or keys.LimitMs 10 600000 10000 ms
  setup ← texts_or keys.Setup [] ms
  query ← text_or keys.Query (codes "READ?") ms
  Ok (ScpiMeter (record { place = place; limit_ms = limit; setup = setup; query = query }))

unfoldable pub meter_of : MeterForm → Members → Result MeterSeen Miss
meter_of meters.Simulated ms = simulated_meter_of ms
meter_of meters.Scpi ms = scpi_meter_of ms

unfoldable pub kind_of : Form → Members → Result KindSeen Miss
kind_of (forms.Relays form) ms = relays_of form ms
kind_of (forms.Meter form) ms = meter_of form ms >>= λ behind. Ok (MeterCard behind)

unfoldable pub card_in : ℕ → Members → Result CardSeen Miss
card_in slot ms = do
  form ← form_of ms
  fine ← all_fitting form ms
  serial ← number_or keys.Serial 1 4294967295 slot ms
  kind ← kind_of form ms
  Ok (record { slot = slot; serial = serial; kind = kind })

abbrev pub card_of : ℕ → Data → Result CardSeen Miss
card_of slot (table ms) = card_in slot ms
card_of slot d = Err (causes.NoTable, type_name d)
