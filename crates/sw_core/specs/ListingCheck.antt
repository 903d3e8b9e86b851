-- The answer to DIAGnostic:SCAN:CHECk? with a listing in a block: what `mainframe check` says of it, with the cards
-- that are there, the channels that are closed and TRACe:POINts (own). A scan may run meanwhile, and a program be on.
use Rattle.std.specs.Prelude.{◌≡◌, ℕ, Bool, true, List, [], ◌∷◌, ◌++◌, Option, Some, None, codes}
use Rattle.sw_lex.specs.Elements.{doubled}
use Rattle.sw_verify.specs.Listings.{Says}
use Rattle.sw_cage.specs.Cage.{cage_layout}
use Rattle.sw_cage.specs.Channels.{closed_list}
use Rattle.sw_core.specs.Panel.{Panel}

-- a cause in words behind a colon, each double quote in it doubled (IEEE 488.2, 8.7.8)
abbrev pub cause_text : Option (List ℕ) → List ℕ
cause_text None = []
cause_text (Some words) = codes ": " ++ doubled 34 words

-- a line with its cause in double quotes
abbrev pub told_text : List ℕ → Option (List ℕ) → List ℕ
told_text line cause = 34 ∷ (line ++ (cause_text cause ++ 34 ∷ []))

-- The text is the check of the listing, with some plain words of the cause, which no contract promises, or without; an
-- accepted listing has no cause.
pub record IsListingTold (p : Panel) (listing text : List ℕ) : Type 0 where
  pub accepted : Bool
  pub line : List ℕ
  pub says : Says (cage_layout p.cage) (closed_list p.cage.cards) p.settings.scan.points accepted listing line
  pub cause : Option (List ℕ)
  pub fine : accepted ≡ true → cause ≡ None
  pub told : text ≡ told_text line cause
