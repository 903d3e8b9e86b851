-- The order of a desk's work, and when it is kept.
use Rattle.std.specs.Prelude.{◌≡◌, ◌<◌, ◌≤◌, List, [], ◌∷◌, ◌++◌, length, Option, None, Some}
use Rattle.sw_core.specs.Seen.{WorkSeen}
use Rattle.sw_talk.specs.declared.desk.Wake.TheVariants.{Again}
use Rattle.sw_talk.specs.Trace.{Entry, Asked, Waited}
use Rattle.sw_talk.specs.Available.{seated}
use Rattle.sw_talk.specs.CoreDesk.{DeskSeen, Carried, Keeps, PassesBy, CorePasses, brought}

-- the piece that there is, if any
abbrev pub pieces_of : Option WorkSeen → List WorkSeen
pieces_of None = []
pieces_of (Some piece) = piece ∷ []

-- the work that pieces brought that were carried out
abbrev pub brought_by : List Carried → List WorkSeen
brought_by [] = []
brought_by (c ∷ carried) = pieces_of (brought c.answer) ++ brought_by carried

-- the work that came in one call: of an ask, and of the pieces that were carried out
abbrev pub came_in : (carried : List Carried) (old : DeskSeen) (entry : Entry) (new : DeskSeen)
    → PassesBy carried old entry new → List WorkSeen
came_in carried old (Asked ask answer) new passes = pieces_of passes.brings ++ brought_by carried
came_in carried old entry new passes = brought_by carried

-- the pieces that were carried out at once, where work was to be kept
abbrev pub done_at_once : (carried : List Carried) (old : DeskSeen) (brings : Option WorkSeen) (new : DeskSeen)
    → Keeps carried old brings new → List WorkSeen
done_at_once [] old brings new keeps = []
done_at_once (c ∷ carried) old None new keeps = []
done_at_once (c ∷ carried) old (Some piece) new (mid, off, keeps) =
    off.piece ∷ done_at_once carried mid (brought c.answer) new keeps

-- the pieces that were carried out at once in one call
abbrev pub at_once_in : (carried : List Carried) (old : DeskSeen) (entry : Entry) (new : DeskSeen)
    → PassesBy carried old entry new → List WorkSeen
at_once_in carried old (Asked ask answer) new passes =
    done_at_once carried (record old { panel = passes.after; available = seated old.available ask answer })
    passes.brings new passes.keeps
at_once_in (c ∷ carried) old (Waited limit (Again left)) new (is, works) =
    done_at_once carried (record old { panel = c.after; work = works.others }) (brought c.answer) new works.keeps
at_once_in carried old entry new passes = []

-- the pieces that were carried out in one call: the oldest in a wait, and these
abbrev pub done_in : (carried : List Carried) (old : DeskSeen) (entry : Entry) (new : DeskSeen)
    → PassesBy carried old entry new → List WorkSeen
done_in carried old (Asked ask answer) new passes = at_once_in carried old (Asked ask answer) new passes
done_in (c ∷ carried) old (Waited limit (Again left)) new (is, works) =
    works.piece ∷ at_once_in (c ∷ carried) old (Waited limit (Again left)) new (is, works)
done_in carried old entry new passes = []

-- In each call of a desk, what was outstanding before it and then what came in it is, piece by piece, what was carried
-- out in it and then what is outstanding after it.
abbrev pub WorkIsDoneInOrder : Type 0
WorkIsDoneInOrder = (old new : DeskSeen) (entry : Entry) (passes : CorePasses old entry new)
    → old.work ++ came_in passes.0 old entry new passes.1 ≡ done_in passes.0 old entry new passes.1 ++ new.work

-- there is room for a piece that comes in such a call; a wait takes one off first
abbrev pub HasRoomForPiece : Entry → DeskSeen → Type 0
HasRoomForPiece (Waited limit wake) d = length d.work ≤ d.room
HasRoomForPiece entry d = length d.work < d.room

-- In a call of a desk that has room, nothing is carried out at once.
abbrev pub WorkIsKeptWhereThereIsRoom : Type 0
WorkIsKeptWhereThereIsRoom = (old new : DeskSeen) (entry : Entry) (passes : CorePasses old entry new)
    → HasRoomForPiece entry old → at_once_in passes.0 old entry new passes.1 ≡ []
