-- What `check` writes of a listing: whether the program's cards may do its scan, with nothing closed (own).
use Rattle.std.specs.Prelude.{ℕ, Bool, List, [], ◌++◌, Option, Some, codes, map}
use Rattle.std.specs.Io.KnownBytes.{Appends}
use Rattle.sw_base.specs.Layout.{Layout}
use Rattle.sw_base.specs.Limits.{most_points}
use Rattle.sw_verify.specs.Listings.{Says}
use Rattle.sw_cage.specs.Accounts.{layout_of}
use Rattle.mainframe.specs.Cards.{program_cards}
use Rattle.sw_session.specs.ServeWrite.{WritesPart}

-- the program's cards, which are offered to the slots from 1 on
abbrev pub program_layout : Layout
program_layout = layout_of (map (λ o. Some o.card) program_cards)

-- it is said and written, with a line feed
pub record IsChecked (layout : Layout) (accepted : Bool) (text : List ℕ) (old new : Option (List ℕ)) : Type 0 where
  pub line : List ℕ
  pub says : Says layout [] most_points accepted text line
  pub writes : Appends old new (line ++ codes "\n")

-- a front part of it is written
pub record IsPartlyChecked (layout : Layout) (text : List ℕ) (old new : Option (List ℕ)) : Type 0 where
  pub accepted : Bool
  pub line : List ℕ
  pub says : Says layout [] most_points accepted text line
  pub writes : WritesPart old new (line ++ codes "\n")
