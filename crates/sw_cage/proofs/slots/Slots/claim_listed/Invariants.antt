use Rattle.std.proofs.Common.{◌≡◌, take, true}
use Rattle.sw_cage.specs.Accounts.{accounts_of, layout_of, is_closed}
use Rattle.sw_cage.specs.Close.{closed_with}
use Rattle.sw_cage.specs.Claims.{IndexesClaims}
use Rattle.sw_cage.proofs.slots.Slots.claim_listed.Given as goal

abbrev pub invariant-loop-chan : goal.invariant-loop-chan
invariant-loop-chan g l = IndexesClaims (layout_of (accounts_of l.self)) (λ c. closed_with (is_closed (accounts_of l.self)) (take l.chan-index l.chans) c ≡
    true) l.claims
