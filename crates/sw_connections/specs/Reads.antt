-- What the threads of a session read: bytes of their connections, and the status.
use Rattle.std.specs.Prelude.{◌≡◌, ℕ, Option, Some}
use mathlib.Core.List.{IsPrefix}
use Rattle.sw_core.specs.Panel.{Panel}
use Rattle.sw_talk.specs.declared.desk.View.{View}
use Rattle.sw_session.specs.ServeRead.{PausesBy}
use Rattle.sw_history.specs.Entries.{last_pair, made_by}
use Rattle.sw_history.specs.Held.{AtDesk}
use Rattle.sw_history.specs.History.{pair_of}

-- what the thread of a connection reads from: its reader, and the second way to the client
pub record ReadingSeen (R A : Type 0) : Type 0 where
  pub reader : R
  pub aside : A

-- time limits ended some reads meanwhile, and their count, where it is known, rose by as many
pub record Waited (before after : Option ℕ) : Type 0 where
  pub reads : ℕ
  pub counts : PausesBy before after reads

-- The status that is read is the pair of the history at a place not before any that the desk's seat had seen.
pub record ReadsStatus (start : Panel) (view : View) (old new : AtDesk) : Type 0 where
  pub later : IsPrefix old.seat.seen new.seat.seen
  pub pair : (view.byte, view.requests) ≡ last_pair (pair_of start) new.seat.seen
  pub own : (d : ℕ) → old.seat.desk ≡ Some d → made_by d new.seat.seen ≡ old.seat.mine
  pub desk : (new.seat.desk ≡ old.seat.desk) × (new.seat.mine ≡ old.seat.mine)
  pub amount : new.amount ≡ old.amount
