-- The lines that a driver sends, and the bytes that it hears in answer.
use Rattle.std.specs.Prelude.{◌≡◌, ℕ, List, ◌++◌, Option, Some, None}
use Rattle.std.specs.List.{flat_map}
use Rattle.std.specs.declared.vec.Vec.{Vec}
use Rattle.sw_drivers.specs.declared.line_board.Command.{Command}
use Rattle.sw_drivers.specs.declared.line_board.Commands.{Commands}

-- these lines, one behind another
abbrev pub all_lines : {A : Type 0} → List (Vec ℕ A) → List ℕ
all_lines lines = flat_map (λ line. line.items) lines

-- what these commands send, one behind another
abbrev pub all_sent : List Command → List ℕ
all_sent commands = flat_map (λ command. command.sent.items) commands

-- what the driver sends to a board that it reaches: the lines that set it up, and those that ask each channel's state
abbrev pub reaching : Commands → List ℕ
reaching commands = all_lines commands.setup.items ++ all_sent commands.is_on.items

-- the text ends by these bytes
abbrev pub EndsBy : List ℕ → List ℕ → Type 0
EndsBy text end = (front : List ℕ) × (text ≡ front ++ end)

-- the text has these bytes somewhere
abbrev pub Holds : List ℕ → List ℕ → Type 0
Holds text wanted = (front behind : List ℕ) × (text ≡ front ++ (wanted ++ behind))

-- the bytes that the driver heard end by these and contain those, where they are known
abbrev pub IsHeard : Option (List ℕ) → List ℕ → List ℕ → Type 0
IsHeard None end wanted = Unit {0}
IsHeard (Some answer) end wanted = EndsBy answer end × Holds answer wanted
