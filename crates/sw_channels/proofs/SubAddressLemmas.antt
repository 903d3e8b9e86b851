-- What a test of ASCII tells of a short payload.
use Rattle.std.proofs.Common.{ℕ, ◌≤◌, Bool, true, false, MatchBool, IsTrue, ◌↔◌, List, length, refl, arith}
use Rattle.std.specs.Str.{IsAscii, IsNotAscii}
use Rattle.sw_channels.specs.EngineMessages.{IsSubAddress}

pub told-ascii : (ascii : Bool) (bytes : List ℕ) → length bytes ≤ 256 → MatchBool ascii (IsAscii bytes) (IsNotAscii bytes) → IsTrue ascii ↔ IsSubAddress bytes
told-ascii true bytes short cases = (λ t. record { short = short; ascii = cases }, λ s. refl)
told-ascii false bytes short cases = (λ t. absurd (cc (t)), λ s. absurd (omega (arith, s.ascii cases.0, cases.1)))
