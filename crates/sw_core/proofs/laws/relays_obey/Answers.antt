use Rattle.sw_core.proofs.ObeyedLemmas.{closes, opens, refused, failed, aborted, reset, stopped_rest, ejected}
use Rattle.sw_core.proofs.laws.relays_obey.Goals as goal

pub returns : goal.returns
returns c =
    record { closes = closes; opens = opens; refused = refused; failed = failed; aborted = aborted; reset = reset; stopped = stopped_rest; ejected = ejected }
