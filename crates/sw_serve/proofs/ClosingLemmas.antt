-- A mainframe that was fitted, and is closed down.
use Rattle.std.proofs.Common.{◌≡◌, ℕ, List, sym, subst, Result, Ok, Err, OnOk}
use Rattle.sw_cage.specs.Accounts.{Accounts}
use Rattle.sw_core.specs.Panel.{Panel}
use Rattle.sw_history.specs.Closing.{IsClosedDown}
use Rattle.sw_serve.specs.SlotCards.{PlacedCard, IsFitted}
use Rattle.sw_serve.specs.Serving.{ClosesDown}

pub fitted-down : (cards : List PlacedCard) (start core : Panel) (events : ℕ) (out : Accounts) → IsFitted cards core → start ≡ core
    → IsClosedDown start events out → ClosesDown cards events out
fitted-down cards start core events out fits same closes =
    record { start = start; fits = subst (λ (x : Panel). IsFitted cards x) (sym same) fits; closes = closes }

-- What holds anyway holds where a result is good.
pub holds-on-ok : {T E P : Type 0} (r : Result T E) → P → OnOk r P
holds-on-ok (Ok x) p = p
holds-on-ok (Err e) p = tt
