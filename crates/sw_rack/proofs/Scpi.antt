-- What the table of a SCPI instrument's relays gives, key by key.
use Rattle.std.proofs.Common.{◌≡◌, ℕ, List, [], ◌∷◌, Some, Ok, codes, refl}
use Rattle.toml.specs.Data.{Members}
use Rattle.sw_rack.specs.declared.cause.ReadError.{ReadError}
use Rattle.sw_rack.specs.declared.cause.ReadError.TheVariants as errors
use Rattle.sw_rack.specs.declared.key.Key.TheVariants as keys
use Rattle.sw_rack.specs.Reading.{Fails}
use Rattle.sw_rack.specs.Seen.{PlaceSeen, StateSeen}
use Rattle.sw_rack.specs.Cards.{number_or, place_of, scpi_lines_of, scpi_state_of, template_or, texts_or}

-- all but what is sent when it is reached
pub record Known (channels : ℕ) (ms : Members) (place : PlaceSeen) (limit : ℕ) (on off : List ℕ) (all_off : List (List ℕ)) (state : StateSeen) : Type 0 where
  pub at_place : place_of ms ≡ Ok place
  pub at_limit : number_or keys.LimitMs 10 60000 500 ms ≡ Ok limit
  pub at_on : template_or keys.On (codes "ROUT:CLOS (@{ch})") channels ms ≡ Ok on
  pub at_off : template_or keys.Off (codes "ROUT:OPEN (@{ch})") channels ms ≡ Ok off
  pub at_all_off : texts_or keys.AllOff (codes "ROUT:OPEN:ALL" ∷ []) ms ≡ Ok all_off
  pub at_state : scpi_state_of channels ms ≡ Ok state

pub setup_fails : (e : ReadError) (channels : ℕ) (ms : Members) (place : PlaceSeen) (limit : ℕ) (on off : List ℕ) (all_off : List (List ℕ)) (state : StateSeen)
    → Known channels ms place limit on off all_off state → Fails e (texts_or keys.Setup [] ms) → Fails e (scpi_lines_of channels ms)
unfolding scpi_lines_of
setup_fails errors.Memory channels ms place limit on off all_off state k h = tt
setup_fails (errors.Fault cause word) channels ms place limit on off all_off state k h =
    rw (k.at_place, k.at_limit, k.at_on, k.at_off, k.at_all_off, k.at_state, h) refl

pub lines_are : (channels : ℕ) (ms : Members) (place : PlaceSeen) (limit : ℕ) (on off : List ℕ) (all_off : List (List ℕ)) (state : StateSeen) (setup : List (List ℕ))
    → Known channels ms place limit on off all_off state → texts_or keys.Setup [] ms ≡ Ok setup
    → scpi_lines_of channels ms ≡ Ok (record { place = place; limit_ms = limit; on = on; off = off; all_off = all_off; answer_end = []; answer = []; state = Some state; setup = setup })
unfolding scpi_lines_of
lines_are channels ms place limit on off all_off state setup k h =
    rw (k.at_place, k.at_limit, k.at_on, k.at_off, k.at_all_off, k.at_state, h) refl
