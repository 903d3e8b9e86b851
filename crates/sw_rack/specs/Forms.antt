-- Which keys the table of a card has, by the card's form.
use Rattle.std.specs.Prelude.{Bool, true, false, ◌||◌}
use Rattle.sw_rack.specs.declared.key.Key.{Key}
use Rattle.sw_rack.specs.declared.key.Key.TheVariants as keys
use Rattle.sw_rack.specs.declared.form.Form.{Form}
use Rattle.sw_rack.specs.declared.form.Form.TheVariants.{Relays, Meter}
use Rattle.sw_rack.specs.declared.form.RelayForm.TheVariants as relays
use Rattle.sw_rack.specs.declared.form.MeterForm.TheVariants as meter

abbrev pub is_relays : Form → Bool
is_relays (Relays form) = true
is_relays (Meter form) = false

-- one without hardware, of relays and of a meter
abbrev pub is_simulated_relays : Form → Bool
is_simulated_relays (Relays relays.Simulated) = true
is_simulated_relays form = false

abbrev pub is_simulated_meter : Form → Bool
is_simulated_meter (Meter meter.Simulated) = true
is_simulated_meter form = false

-- relays on a board that speaks Modbus, over TCP or over a serial line
abbrev pub is_modbus_tcp : Form → Bool
is_modbus_tcp (Relays relays.ModbusTcp) = true
is_modbus_tcp form = false

abbrev pub is_modbus_rtu : Form → Bool
is_modbus_rtu (Relays relays.ModbusRtu) = true
is_modbus_rtu form = false

abbrev pub is_modbus : Form → Bool
is_modbus form = is_modbus_tcp form || is_modbus_rtu form

-- relays on a board that obeys lines of its own, and relays of a SCPI instrument
abbrev pub is_lines : Form → Bool
is_lines (Relays relays.Lines) = true
is_lines form = false

abbrev pub is_scpi_relays : Form → Bool
is_scpi_relays (Relays relays.Scpi) = true
is_scpi_relays form = false

abbrev pub is_scpi_meter : Form → Bool
is_scpi_meter (Meter meter.Scpi) = true
is_scpi_meter form = false

-- reached by an address or a device, as the file says
abbrev pub is_anywhere : Form → Bool
is_anywhere form = is_lines form || is_scpi_relays form || is_scpi_meter form

-- the forms that have each key
abbrev pub takes : Form → Key → Bool
takes form keys.Card = true
takes form keys.Serial = true
takes form keys.Driver = true
takes form keys.Channels = is_relays form
takes form keys.Group = is_relays form
takes form keys.Groups = is_relays form
takes form keys.Address = is_modbus_tcp form || is_anywhere form
takes form keys.Device = is_modbus_rtu form || is_anywhere form
takes form keys.LimitMs = is_modbus form || is_anywhere form
takes form keys.UnitIdentifier = is_modbus form
takes form keys.FirstCoil = is_modbus form
takes form keys.Confirm = is_modbus form
takes form keys.On = is_lines form || is_scpi_relays form
takes form keys.Off = is_lines form || is_scpi_relays form
takes form keys.AllOff = is_lines form || is_scpi_relays form
takes form keys.AnswerEnd = is_lines form
takes form keys.Answer = is_lines form
takes form keys.State = is_lines form || is_scpi_relays form
takes form keys.StateOn = is_lines form || is_scpi_relays form
takes form keys.StateOff = is_lines form || is_scpi_relays form
takes form keys.Setup = is_scpi_relays form || is_scpi_meter form
takes form keys.Query = is_scpi_meter form
takes form keys.FirstNv = is_simulated_meter form
takes form keys.StepNv = is_simulated_meter form
takes form keys.FailClosing = is_simulated_relays form
