-- Entries of the history: one for each event of the mainframe.
use Rattle.std.specs.Prelude.{ℕ, ◌==◌, List, [], ◌∷◌, filter}
use Rattle.sw_core.specs.Seen.{AskSeen, AnswerSeen}

-- one event: the number of events after it, its desk, what was asked and answered, and the pair after it: the status
-- byte without bits 4 and 6, and the number of service requests so far
pub record HistoryEntry : Type 0 where
  pub number : ℕ
  pub desk : ℕ
  pub ask : AskSeen
  pub answer : AnswerSeen
  pub pair : ℕ × ℕ

-- the pair of the last entry, or where there is none the opening one
abbrev pub last_pair : ℕ × ℕ → List HistoryEntry → ℕ × ℕ
last_pair opening [] = opening
last_pair opening (e ∷ entries) = last_pair e.pair entries

-- the entries of a desk, in their order
abbrev pub made_by : ℕ → List HistoryEntry → List HistoryEntry
made_by desk entries = filter (λ e. e.desk == desk) entries
