-- What a desk asks of the mainframe.
use Rattle.std.specs.Prelude.{◌≡◌, ◌+◌}
use Rattle.sw_core.specs.Panel.{Panel}
use Rattle.sw_core.specs.Seen.{AskSeen, AnswerSeen}
use Rattle.sw_history.specs.Held.{AtDesk}
use Rattle.sw_history.specs.History.{event, AsksInHistory}
use Rattle.sw_history.specs.Shares.{is_counted, one_if}

-- The mainframe was asked once, and the desk's seat knows it. A share counts that, by the number of events at the panel
-- to which the history had led.
pub record AsksOnce (start : Panel) (ask : AskSeen) (answer : AnswerSeen) (old new : AtDesk) : Type 0 where
  pub before : Panel
  pub after : Panel
  pub history : AsksInHistory start before old.seat (event ask answer after) new.seat
  pub counts : new.amount ≡ old.amount + one_if (is_counted before.events answer)
