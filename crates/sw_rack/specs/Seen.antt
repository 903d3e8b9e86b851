-- Cards as their descriptions: texts are their bytes.
use Rattle.std.specs.Prelude.{ℕ, ℤ, Bool, List, map, Option, option_map, string_bytes, String}
use Rattle.std.specs.declared.alloc.Global.{Global}
use Rattle.sw_rack.specs.declared.rack.RackCard.{RackCard}
use Rattle.sw_rack.specs.declared.kind.CardKind.{CardKind}
use Rattle.sw_rack.specs.declared.kind.CardKind.TheVariants as kinds
use Rattle.sw_rack.specs.declared.kind.Relays.{Relays}
use Rattle.sw_rack.specs.declared.kind.Relays.TheVariants as relays
use Rattle.sw_rack.specs.declared.kind.Meter.{Meter}
use Rattle.sw_rack.specs.declared.kind.Meter.TheVariants as meters
use Rattle.sw_rack.specs.declared.kind.Place.{Place}
use Rattle.sw_rack.specs.declared.kind.Place.TheVariants as places
use Rattle.sw_rack.specs.declared.kind.Modbus.{Modbus}
use Rattle.sw_rack.specs.declared.kind.Lines.{Lines}
use Rattle.sw_rack.specs.declared.kind.State.{State}
use Rattle.sw_rack.specs.declared.kind.Query.{Query}

pub data PlaceSeen : Type 0 where
  Address : (text : List ℕ) → PlaceSeen
  Device : (path : List ℕ) → PlaceSeen
  Waiting : (path : List ℕ) → PlaceSeen

pub record ModbusSeen : Type 0 where
  pub place : PlaceSeen
  pub limit_ms : ℕ
  pub unit : ℕ
  pub first_coil : ℕ
  pub confirm : Bool

pub record StateSeen : Type 0 where
  pub query : List ℕ
  pub on : List ℕ
  pub off : List ℕ

pub record LinesSeen : Type 0 where
  pub place : PlaceSeen
  pub limit_ms : ℕ
  pub on : List ℕ
  pub off : List ℕ
  pub all_off : List (List ℕ)
  pub answer_end : List ℕ
  pub answer : List ℕ
  pub state : Option StateSeen
  pub setup : List (List ℕ)

pub record QuerySeen : Type 0 where
  pub place : PlaceSeen
  pub limit_ms : ℕ
  pub setup : List (List ℕ)
  pub query : List ℕ

pub data RelaysSeen : Type 0 where
  SimulatedRelays : (closing : Option ℕ) → RelaysSeen
  TcpRelays : (board : ModbusSeen) → RelaysSeen
  RtuRelays : (board : ModbusSeen) → RelaysSeen
  LineRelays : (board : LinesSeen) → RelaysSeen
  ScpiRelays : (board : LinesSeen) → RelaysSeen

pub data MeterSeen : Type 0 where
  SimulatedMeter : (first step : ℤ) → MeterSeen
  ScpiMeter : (meter : QuerySeen) → MeterSeen

pub data KindSeen : Type 0 where
  RelayCard : (groups : List ℕ) → (behind : RelaysSeen) → KindSeen
  MeterCard : (behind : MeterSeen) → KindSeen

pub record CardSeen : Type 0 where
  pub slot : ℕ
  pub serial : ℕ
  pub kind : KindSeen

abbrev pub texts_seen : List (String Global) → List (List ℕ)
texts_seen texts = map string_bytes texts

abbrev pub place_seen : Place → PlaceSeen
place_seen (places.Address text) = Address (string_bytes text)
place_seen (places.Device path) = Device (string_bytes path)
place_seen (places.Waiting path) = Waiting (string_bytes path)

abbrev pub modbus_seen : Modbus → ModbusSeen
modbus_seen m = record {
  place = place_seen m.place;
  limit_ms = m.limit_ms;
  unit = m.unit;
  first_coil = m.first_coil;
  confirm = m.confirm;
}

abbrev pub state_seen : State → StateSeen
state_seen s = record { query = string_bytes s.query; on = string_bytes s.on; off = string_bytes s.off }

abbrev pub lines_seen : Lines → LinesSeen
lines_seen l = record {
  place = place_seen l.place;
  limit_ms = l.limit_ms;
  on = string_bytes l.on;
  off = string_bytes l.off;
  all_off = texts_seen l.all_off.items;
  answer_end = string_bytes l.answer_end;
  answer = string_bytes l.answer;
  state = option_map state_seen l.state;
  setup = texts_seen l.setup.items;
}

abbrev pub query_seen : Query → QuerySeen
query_seen q = record {
  place = place_seen q.place;
  limit_ms = q.limit_ms;
  setup = texts_seen q.setup.items;
  query = string_bytes q.query;
}

abbrev pub relays_seen : Relays → RelaysSeen
relays_seen (relays.Simulated closing) = SimulatedRelays closing
relays_seen (relays.ModbusTcp board) = TcpRelays (modbus_seen board)
relays_seen (relays.ModbusRtu board) = RtuRelays (modbus_seen board)
relays_seen (relays.Lines board) = LineRelays (lines_seen board)
relays_seen (relays.Scpi board) = ScpiRelays (lines_seen board)

abbrev pub meter_seen : Meter → MeterSeen
meter_seen (meters.Simulated first step) = SimulatedMeter first step
meter_seen (meters.Scpi meter) = ScpiMeter (query_seen meter)

abbrev pub kind_seen : CardKind → KindSeen
kind_seen (kinds.Relays groups behind) = RelayCard groups.numbers.items (relays_seen behind)
kind_seen (kinds.Meter behind) = MeterCard (meter_seen behind)

abbrev pub card_seen : RackCard → CardSeen
card_seen c = record { slot = c.slot; serial = c.serial; kind = kind_seen c.kind }
