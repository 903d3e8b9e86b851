-- The board behind a card's channels, by the words of a rack's file.
use Rattle.std.specs.Prelude.{◌≡◌, ℕ, ◌++◌, Bool, List, [], ◌∷◌, map, Option, Some, None, String, string_bytes}
use Rattle.std.specs.Prelude.{true, false, if◌then◌else◌}
use Rattle.std.specs.declared.alloc.Global.{Global}
use Rattle.std.specs.List.{range_with_len}
use Rattle.sw_drivers.specs.declared.coils.Coils.{Coils}
use Rattle.sw_drivers.specs.declared.frame.Wrapping.{Wrapping}
use Rattle.sw_drivers.specs.declared.frame.Wrapping.TheVariants as wrappings
use Rattle.sw_drivers.specs.declared.line_board.Command.{Command}
use Rattle.sw_drivers.specs.declared.line_board.Commands.{Commands}
use Rattle.sw_rack.specs.declared.kind.Lines.{Lines}
use Rattle.sw_rack.specs.declared.kind.Modbus.{Modbus}
use Rattle.sw_rack.specs.declared.kind.Relays.{Relays}
use Rattle.sw_rack.specs.declared.kind.Relays.TheVariants as relays
use Rattle.sw_rack.specs.declared.kind.State.{State}
use Rattle.sw_rack.specs.Templates.{rendered}
use Rattle.mainframe.specs.declared.rack_cards.AnyBoard.{AnyBoard}
use Rattle.mainframe.specs.declared.rack_cards.AnyBoard.TheVariants as boards

-- the coils of a board with this many channels that speaks Modbus: channel 1's is the first
pub record AreCoilsOf (over : Wrapping) (channels : ℕ) (words : Modbus) (coils : Coils) : Type 0 where
  pub wrapping : coils.wrapping ≡ over
  pub unit : coils.unit ≡ words.unit
  pub first : coils.first ≡ words.first_coil
  pub each : coils.channels ≡ channels
  pub verified : coils.verified ≡ words.confirm

-- ---- lines that a board obeys

-- what is sent, how its answer ends, and what the answer has
abbrev pub Sent : Type 0
Sent = List ℕ × List ℕ × List ℕ

abbrev pub command_seen : Command → Sent
command_seen c = (c.sent.items, c.end.items, c.wanted.items)

-- a template that gives nothing is sent as it is
abbrev pub given : List ℕ → Option (List ℕ) → List ℕ
given template None = template
given template (Some sent) = sent

-- a line for each of this many channels, which ends so
abbrev pub each_line : ℕ → List ℕ → List ℕ → List ℕ → List ℕ → List Sent
each_line channels template end ending word =
    map (λ ch. (given template (rendered ch template) ++ end, ending, word)) (range_with_len 1 channels)

-- these lines, each of which ends so
abbrev pub ended_lines : List (String Global) → List ℕ → List (List ℕ)
ended_lines lines end = map (λ line. string_bytes line ++ end) lines

abbrev pub commands_for : List (String Global) → List ℕ → List ℕ → List ℕ → List Sent
commands_for lines end ending word = map (λ line. (string_bytes line ++ end, ending, word)) lines

-- a query of each channel's state, where the board reports it, and what the answer has where it is on, or off
abbrev pub each_query : ℕ → Option State → Bool → List ℕ → List ℕ → List Sent
each_query channels None on end ending = []
each_query channels (Some state) on end ending =
    each_line channels (string_bytes state.query) end ending
    (if on then string_bytes state.on else string_bytes state.off)

-- the commands of a board with this many channels; each line that is sent ends by the first bytes, and each answer to a
-- query of a state by the others
pub record AreCommandsOf (channels : ℕ) (words : Lines) (end ending : List ℕ) (c : Commands) : Type 0 where
  pub setup : map (λ line. line.items) c.setup.items ≡ ended_lines words.setup.items end
  pub on : map command_seen c.on.items ≡
      each_line channels (string_bytes words.on) end (string_bytes words.answer_end) (string_bytes words.answer)
  pub off : map command_seen c.off.items ≡
      each_line channels (string_bytes words.off) end (string_bytes words.answer_end) (string_bytes words.answer)
  pub clear : map command_seen c.clear.items ≡
      commands_for words.all_off.items end (string_bytes words.answer_end) (string_bytes words.answer)
  pub is_on : map command_seen c.is_on.items ≡ each_query channels words.state true end ending
  pub is_off : map command_seen c.is_off.items ≡ each_query channels words.state false end ending

-- ---- the board: the lines of a SCPI instrument, and its answers, end by a line feed

abbrev pub IsBoardOf : {W : Type 0} → ℕ → Relays → AnyBoard W → Type 0
IsBoardOf channels (relays.Simulated closing) (boards.Sim board) = Unit {0}
IsBoardOf channels (relays.ModbusTcp words) (boards.Modbus board) =
    AreCoilsOf wrappings.Tcp channels words board.coils
IsBoardOf channels (relays.ModbusRtu words) (boards.Modbus board) =
    AreCoilsOf wrappings.Rtu channels words board.coils
IsBoardOf channels (relays.Lines words) (boards.Lines board) =
    AreCommandsOf channels words [] (string_bytes words.answer_end) board.commands
IsBoardOf channels (relays.Scpi words) (boards.Lines board) =
    AreCommandsOf channels words (10 ∷ []) (10 ∷ []) board.commands
IsBoardOf channels behind board = ⊥

abbrev pub IsLineBoard : {W : Type 0} → Commands → AnyBoard W → Type 0
IsLineBoard commands (boards.Lines board) = board.commands ≡ commands
IsLineBoard commands board = ⊥
