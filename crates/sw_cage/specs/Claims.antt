-- For each group the one channel that claims it.
use Rattle.std.specs.Prelude.{◌≡◌, ◌≢◌, ℕ, Bool, true, List, Option, None, Some, slice_index_or, if◌then◌else◌}
use Rattle.sw_base.specs.Layout.{Channel, Layout, group_of}
use Rattle.sw_cage.specs.Accounts.{Accounts, layout_of, is_closed, AreSafe}

abbrev pub Index : Type 0
Index = List (Option Channel)

abbrev pub claim_at : Index → ℕ → Option Channel
claim_at index group = slice_index_or index group None

-- The index has each channel of the set that has a group, and no other; so no two of the set clash.
pub record IndexesClaims (layout : Layout) (P : Channel → Type 0) (index : Index) : Type 0 where
  pub told : (c : Channel) → P c → group_of layout c ≢ 0 → claim_at index (group_of layout c) ≡ Some c
  pub held : (group : ℕ) (c : Channel) → claim_at index group ≡ Some c → (P c) × (group_of layout c ≡ group)

-- the claim, where it is of a closed channel
abbrev pub closed_claim : (Channel → Bool) → Option Channel → Option Channel
closed_claim closed None = None
closed_claim closed (Some c) = if closed c then Some c else None

-- the slots are safe, and the index has for each group its closed channel
pub record AreClaimed (rack : Accounts) (index : Index) : Type 0 where
  pub safe : AreSafe rack
  pub claims : IndexesClaims (layout_of rack) (λ c. is_closed rack c ≡ true) index
