-- The coils of a relay card over a board that speaks Modbus.
use Rattle.std.specs.Prelude.{ℕ, ◌+◌, ◌≤◌, length}
use Rattle.std.specs.Coded.{Unit-prop, le_prop}
use Rattle.sw_rack.specs.declared.kind.CardKind.{CardKind}
use Rattle.sw_rack.specs.declared.kind.CardKind.TheVariants as kinds
use Rattle.sw_rack.specs.declared.kind.Relays.{Relays}
use Rattle.sw_rack.specs.declared.kind.Relays.TheVariants as relays

-- this many channels have coils at the addresses of Modbus, which are below 65536
abbrev pub HasCoils : ℕ → Relays → Type 0
HasCoils channels (relays.ModbusTcp board) = board.first_coil + channels ≤ 65536
HasCoils channels (relays.ModbusRtu board) = board.first_coil + channels ≤ 65536
HasCoils channels behind = Unit {0}

-- each of the card's channels has
abbrev pub HasItsCoils : CardKind → Type 0
HasItsCoils (kinds.Relays groups behind) = HasCoils (length groups.numbers.items) behind
HasItsCoils (kinds.Meter behind) = Unit {0}

pub HasCoils-prop : (channels : ℕ) (behind : Relays) → IsProp (HasCoils channels behind)
HasCoils-prop channels (relays.ModbusTcp board) = le_prop
HasCoils-prop channels (relays.ModbusRtu board) = le_prop
HasCoils-prop channels (relays.Simulated closing) = Unit-prop
HasCoils-prop channels (relays.Lines board) = Unit-prop
HasCoils-prop channels (relays.Scpi board) = Unit-prop

pub HasItsCoils-prop : (kind : CardKind) → IsProp (HasItsCoils kind)
HasItsCoils-prop (kinds.Relays groups behind) = HasCoils-prop (length groups.numbers.items) behind
HasItsCoils-prop (kinds.Meter behind) = Unit-prop
