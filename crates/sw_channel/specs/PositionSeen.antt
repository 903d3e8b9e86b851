-- A position as callers see it, and the fields that hold it: its channels, and then the first one again and again.
use Rattle.std.specs.Prelude.{◌≡◌, ℕ, ◌-◌, List, [], ◌∷◌, ◌++◌, length, take, replicate}
use Rattle.std.proofs.Common.{ap, ◌∙◌}
use Rattle.sw_base.specs.Layout.{Channel}
use Rattle.sw_channel.specs.Positions.{IsPosition, most_joined}
use Rattle.sw_channel.specs.declared.position.Position.TheInside.{Inside}

abbrev pub position_of : Inside → List Channel
position_of p = take p.len p.chans

abbrev pub first_of : List Channel → Channel
first_of [] = (0, 0)
first_of (c ∷ p) = c

-- the channels, filled up with the first one
abbrev pub filled : List Channel → List Channel
filled p = p ++ replicate (most_joined - length p) (first_of p)

pub record HoldsPosition (p : Inside) : Type 0 where
  pub position : IsPosition (position_of p)
  pub len : length (position_of p) ≡ p.len
  pub rest : filled (position_of p) ≡ p.chans

abbrev pub inside_of : List Channel → Inside
inside_of p = record { chans = filled p; len = length p }

-- the fields come back from the channels
pub inside_back : (a : Inside) → HoldsPosition a → inside_of (position_of a) ≡ a
inside_back a h = ap (λ (n : ℕ). let i : Inside = record { chans = filled (position_of a); len = n } in i) h.len
    ∙ ap (λ (l : List Channel). let i : Inside = record { chans = l; len = a.len } in i) h.rest
