-- Which channels may be closed together.
use Rattle.std.specs.Prelude.{◌≡◌, Bool, true, false, ◌||◌, List}
use Rattle.std.specs.List.{list_all}
use Rattle.sw_base.specs.Layout.{Channel, Layout, is_present, IsClash}
use Rattle.sw_verify.specs.Channels.{is_among}
use Rattle.sw_cage.specs.declared.refusal.CloseRefusal.{CloseRefusal}
use Rattle.sw_cage.specs.declared.refusal.CloseRefusal.TheVariants.{Absent, Clash}

-- what is closed once the listed channels are closed too
abbrev pub closed_with : (Channel → Bool) → List Channel → Channel → Bool
closed_with closed chans c = is_among chans c || closed c

-- two of the closed channels clash
pub record HasClash (layout : Layout) (closed : Channel → Bool) : Type 0 where
  pub one : Channel
  pub other : Channel
  pub one_closed : closed one ≡ true
  pub other_closed : closed other ≡ true
  pub clash : IsClash layout one other

abbrev pub all_present : Layout → List Channel → Bool
all_present layout chans = list_all (is_present layout) chans

-- the cage has the channels, and at the end no two closed ones clash
pub record CanClose (layout : Layout) (closed : Channel → Bool) (chans : List Channel) : Type 0 where
  pub present : all_present layout chans ≡ true
  pub apart : HasClash layout (closed_with closed chans) → ⊥

-- which refusal applies when; an absent channel is first
abbrev pub RefusesClose : Layout → (Channel → Bool) → List Channel → CloseRefusal → Type 0
RefusesClose layout closed chans Absent = all_present layout chans ≡ false
RefusesClose layout closed chans Clash = (all_present layout chans ≡ true) × HasClash layout (closed_with closed chans)
