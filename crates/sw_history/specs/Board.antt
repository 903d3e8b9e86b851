-- The status board: its word is the pair of the last entry of one history; each seat has seen a beginning of that.
use Rattle.std.specs.Prelude.{◌≡◌, ◌⊎◌, ℕ, ◌+◌, ◌/◌, ◌%◌, ◌<◌, ◌≤◌, Bool, true, false, List, [], ◌∷◌, ◌++◌}
use Rattle.std.specs.Prelude.{Option, None, Some}
use Rattle.std.specs.Option.{unwrap_or}
use mathlib.Core.List.{IsPrefix}
use mathlib.Core.Option as found
use lib.ListN.{get_elem?}
use Rattle.atomic_table.specs.Table.{State, Me, Step}
use Rattle.sw_core.specs.Seen.{AskSeen, AskExternal, AnswerSeen, SaysMissed}
use Rattle.atomic_table.specs.Seated.{TableId}
use Rattle.sw_history.specs.Entries.{HistoryEntry, last_pair, made_by}

-- the board has no slots
abbrev pub Nothing : Type 0
Nothing = Unit {0}

-- a word as a pair: 256 times the number of service requests, and the status byte
abbrev pub pair_in : ℕ → ℕ × ℕ
pair_in word = (word % 256, word / 256)

-- What a seat knows. A spent seat knows nothing.
pub record Known : Type 0 where
  -- it isn't spent
  pub live : Bool
  -- the opening pair
  pub opening : ℕ × ℕ
  -- the history, as far as it has seen it
  pub seen : List HistoryEntry
  -- how far another seat that was joined to it had seen it
  pub told : List HistoryEntry
  -- this seat publishes
  pub publishes : Bool
  -- how many desks there are, where it publishes
  pub made : ℕ
  -- its desk, where it has one
  pub desk : Option ℕ
  -- all entries of that desk
  pub mine : List HistoryEntry

-- the board at one moment: its word, the whole history, which seat publishes, how many desks there are, and the seat
-- of each
pub record World : Type 0 where
  pub word : ℕ
  pub history : List HistoryEntry
  pub publisher : ℕ
  pub made : ℕ
  pub seat_of : ℕ → ℕ

-- what a seat knows is so
pub record KnowsTruly (x : World) (opening : ℕ × ℕ) (seat : ℕ) (v : Known) : Type 0 where
  pub seen : v.live ≡ true → (v.opening ≡ opening) × IsPrefix v.seen x.history × IsPrefix v.told x.history
  pub publishes : v.publishes ≡ true → (seat ≡ x.publisher) × (v.seen ≡ x.history) × (v.made ≡ x.made)
  pub desk : (d : ℕ) → v.desk ≡ Some d → (x.seat_of d ≡ seat) × (d < x.made) × (made_by d x.history ≡ v.mine)

pub record KeptIn (x : World) (opening : ℕ × ℕ) (row : List ℕ) (seats : List Known) : Type 0 where
  pub words : row ≡ x.word ∷ []
  pub word : last_pair opening x.history ≡ pair_in x.word
  pub fresh : (d : ℕ) → x.made ≤ d → made_by d x.history ≡ []
  pub fits : (seat : ℕ) (v : Known) → get_elem? seats seat ≡ found.some v → KnowsTruly x opening seat v

-- The rule of the board: there is one history, its last pair is the word, and what each seat knows of it is so.
abbrev pub Kept : ℕ × ℕ → State Nothing Known → Type 0
Kept opening s = (x : World) × KeptIn x opening s.words s.views

-- ---- make

-- the first seat, which publishes
abbrev pub first_seat : ℕ × ℕ → Known
first_seat opening = record {
  live = true;
  opening = opening;
  seen = [];
  told = [];
  publishes = true;
  made = 0;
  desk = None;
  mine = [];
}

-- ---- publish

-- what is said of an event as it is published
pub record Said : Type 0 where
  pub number : ℕ
  pub ask : AskSeen
  pub answer : AnswerSeen
  pub pair : ℕ × ℕ

-- the entry of what is said, of the seat's desk
abbrev pub entry_of : Known → Said → HistoryEntry
entry_of v said = record {
  number = said.number;
  desk = unwrap_or v.desk 0;
  ask = said.ask;
  answer = said.answer;
  pair = said.pair;
}

-- the history and the desk have one more entry
abbrev pub published : Known → Said → Known
published v said = record v { seen = v.seen ++ entry_of v said ∷ []; mine = v.mine ++ entry_of v said ∷ [] }

abbrev pub Published : Said → Step Nothing → Me Nothing Known → ℕ → Me Nothing Known → Type 0
Published said s v word w = (w.0 ≡ published v.0 said) × (w.1 ≡ v.1)

-- ---- read

-- The seat has seen no less than it had, nor than a seat that was joined to it had, and the word is the last pair of
-- what it has seen. The seat that publishes has seen all. Of a desk it has all entries.
pub record Saw (v : Known) (word : ℕ) (w : Known) : Type 0 where
  pub same : (w.live ≡ v.live) × (w.opening ≡ v.opening) × (w.publishes ≡ v.publishes) × (w.made ≡ v.made)
      × (w.desk ≡ v.desk) × (w.mine ≡ v.mine) × (w.told ≡ v.told)
  pub later : IsPrefix v.seen w.seen × IsPrefix v.told w.seen
  pub pair : last_pair v.opening w.seen ≡ pair_in word
  pub whole : v.publishes ≡ true → w.seen ≡ v.seen
  pub own : (d : ℕ) → v.desk ≡ Some d → made_by d w.seen ≡ v.mine

abbrev pub Sees : Step Nothing → Me Nothing Known → ℕ → Me Nothing Known → Type 0
Sees s v word w = Saw v.0 word w.0 × (w.1 ≡ v.1)

-- the seat has then seen the further of what it had seen and what a seat that was joined to it had
pub record Settled (v : Known) (w : Known) : Type 0 where
  pub same : (w.live ≡ v.live) × (w.opening ≡ v.opening) × (w.publishes ≡ v.publishes) × (w.made ≡ v.made)
      × (w.desk ≡ v.desk) × (w.mine ≡ v.mine)
  pub later : IsPrefix v.seen w.seen × IsPrefix v.told w.seen
  pub one : (w.seen ≡ v.seen) ⊎ (w.seen ≡ v.told)

abbrev pub SettlesStep : Step Nothing → Me Nothing Known → ℕ → Me Nothing Known → Type 0
SettlesStep s v word w = Settled v.0 w.0 × (w.1 ≡ v.1)

-- ---- split

-- a seat of no desk that has seen the same
abbrev pub reader : Known → Known
reader v = record v { told = []; publishes = false; made = 0; desk = None; mine = [] }

-- one more desk, and its seat
abbrev pub after_desk : Known → Known
after_desk v = record v { made = v.made + 1 }

abbrev pub new_desk : Known → Known
new_desk v = record v { told = []; publishes = false; made = 0; desk = Some v.made; mine = [] }

-- the seat without its desk, and a seat with it
abbrev pub without_desk : Known → Known
without_desk v = record v { desk = None; mine = [] }

abbrev pub of_desk : Known → Known
of_desk v = record v { told = []; publishes = false; made = 0 }

-- ---- join

-- the seat learns what the other had seen
abbrev pub told_known : Known → Known → Known
told_known v w = record v { told = w.seen }

-- the seat takes the other's desk over, and learns what that had seen
abbrev pub desk_taken_over : Known → Known → Known
desk_taken_over v w = record v { told = w.seen; desk = w.desk; mine = w.mine }

-- the seat is as the other was
abbrev pub replaced : Known → Known → Known
replaced v w = of_desk w

-- what is left of a seat that was joined to another
abbrev pub spent : Known
spent = record {
  live = false;
  opening = (0, 0);
  seen = [];
  told = [];
  publishes = false;
  made = 0;
  desk = None;
  mine = [];
}

-- ---- names

abbrev pub nothing_said : Said
nothing_said = record { number = 0; ask = AskExternal; answer = SaysMissed; pair = (0, 0) }

abbrev pub no_table : TableId
no_table = record { words = 0; slots = 0; views_name = 0; atom = 0; block = 0; offset = 0; slot_names = [] }
