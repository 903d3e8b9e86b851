use Rattle.std.proofs.Common.{rules, ◌∷◌}
use Rattle.sw_drivers.specs.Frames.{confirms, frame, wrapped}
use Rattle.sw_drivers.specs.Wires.{IsAll}
use Rattle.sw_drivers.proofs.exchange.change.Goals as goal

pub returns-then-is_done-clause-off : goal.returns-then-is_done-clause-off
returns-then-is_done-clause-off g c =
    let asking = c.args.asking in
    let asked : IsAll (g.L.Wire.asked c.receive.new.link) (frame asking.wrapping asking.number asking.unit c.args.request) = search rules in
    let answered : IsAll (g.L.Wire.answered c.receive.new.link) (wrapped asking.wrapping asking.number (asking.unit ∷ confirms c.args.request)) = search rules in
    λ coil says. c.in_ok-answer.ensures.honest asking.wrapping asking.number asking.unit c.args.request (confirms c.args.request) coil asked answered says
