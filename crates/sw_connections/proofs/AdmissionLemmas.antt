-- Connections that are not served.
use Rattle.std.proofs.Common.{ℕ, Result, Ok, Err, IfErr}
use Rattle.sw_connections.specs.declared.connections.Unserved.{Unserved}
use Rattle.sw_connections.specs.declared.connections.Unserved.TheVariants.{Ending, Full, NoMemory}
use Rattle.sw_connections.specs.Admission.{Admitted, TurnsAway, Admits, IsUnserved}

-- one was turned away for a cause
pub turned-so : (old : Admitted) (result : Result ℕ Unserved) (new : Admitted) → Admits old result new
    → IfErr result (λ why. (admitted : Admitted) × TurnsAway admitted why)
turned-so old (Ok ticket) new admits = tt
turned-so old (Err why) new admits = (old, admits.0)

-- what was turned away was not served
pub is_unserved : (turned_away : Unserved → Type 0) (why : Unserved) → turned_away why → IsUnserved turned_away why
is_unserved turned_away Ending so = so
is_unserved turned_away Full so = so
is_unserved turned_away NoMemory so = tt
