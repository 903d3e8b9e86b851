-- The keys of a card's table, as a file writes them.
use Rattle.std.specs.Prelude.{ℕ, List, [], ◌∷◌, Option, Some, None, codes, if◌then◌else◌}
use Rattle.std.specs.Str.{bytes_eq}
use Rattle.sw_rack.specs.declared.key.Key.{Key}
use Rattle.sw_rack.specs.declared.key.Key.TheVariants as keys

abbrev pub name_of : Key → List ℕ
name_of keys.Card = codes "card"
name_of keys.Serial = codes "serial"
name_of keys.Driver = codes "driver"
name_of keys.Channels = codes "channels"
name_of keys.Group = codes "group"
name_of keys.Groups = codes "groups"
name_of keys.Address = codes "address"
name_of keys.Device = codes "device"
name_of keys.LimitMs = codes "limit_ms"
name_of keys.UnitIdentifier = codes "unit"
name_of keys.FirstCoil = codes "first_coil"
name_of keys.Confirm = codes "confirm"
name_of keys.On = codes "on"
name_of keys.Off = codes "off"
name_of keys.AllOff = codes "all_off"
name_of keys.AnswerEnd = codes "answer_end"
name_of keys.Answer = codes "answer"
name_of keys.State = codes "state"
name_of keys.StateOn = codes "state_on"
name_of keys.StateOff = codes "state_off"
name_of keys.Setup = codes "setup"
name_of keys.Query = codes "query"
name_of keys.FirstNv = codes "first_nv"
name_of keys.StepNv = codes "step_nv"
name_of keys.FailClosing = codes "fail_closing"

abbrev pub all_keys : List Key
all_keys =
    keys.Card ∷ keys.Serial ∷ keys.Driver ∷ keys.Channels ∷ keys.Group ∷ keys.Groups ∷ keys.Address ∷ keys.Device
    ∷ keys.LimitMs ∷ keys.UnitIdentifier ∷ keys.FirstCoil ∷ keys.Confirm ∷ keys.On ∷ keys.Off ∷ keys.AllOff
    ∷ keys.AnswerEnd ∷ keys.Answer ∷ keys.State ∷ keys.StateOn ∷ keys.StateOff ∷ keys.Setup ∷ keys.Query
    ∷ keys.FirstNv ∷ keys.StepNv ∷ keys.FailClosing ∷ []

-- the first of these keys that has this name
unfoldable pub named : List Key → List ℕ → Option Key
named [] name = None
named (key ∷ keys) name = if bytes_eq (name_of key) name then Some key else named keys name
