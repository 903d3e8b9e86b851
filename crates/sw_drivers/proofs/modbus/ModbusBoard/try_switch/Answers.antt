use Rattle.std.proofs.Common.{◌≡◌, ◌+◌, ◌-◌, false, refl, ap, subst, arith, ◌∙◌}
use Rattle.sw_drivers.specs.declared.coils.Coils.{Coils}
use Rattle.sw_drivers.proofs.Off.{channel_off, on_ok, still_off}
use Rattle.sw_drivers.proofs.modbus.ModbusBoard.try_switch.Goals as goal

pub returns-then-not-self-clause-off : goal.returns-then-not-self-clause-off
returns-then-not-self-clause-off g c = λ off.
    let coils = c.args.self.now.coils in
    let unit = c.asking-asking.ensures.unit ∙ ap (λ (k : Coils). k.unit) c.stand.ensures.coils in
    let first = ap (λ (k : Coils). k.first) c.stand.ensures.coils in
    let coil = coils.first + c.args.ch - 1 in
    let here : coil ≡ c.stand.new.self.coils.first + (c.from.result - 1) = omega (arith, first, c.from.ensures, c.if-ch-eq0.false) in
    channel_off coils (g.W.Wire.on c.change.new.link) c.args.ch
    (subst (λ u. g.W.Wire.on c.change.new.link u coil ≡ false) unit (c.in_ok-change.ensures.off coil (refl, off, here)))

pub returns-clause-off : goal.returns-clause-off
returns-clause-off g c = on_ok c.compare.result (λ off.
    let coils = c.args.self.now.coils in
    let unit = c.asking-asking.ensures.unit ∙ ap (λ (k : Coils). k.unit) c.stand.ensures.coils in
    let first = ap (λ (k : Coils). k.first) c.stand.ensures.coils in
    let coil = coils.first + c.args.ch - 1 in
    let here : coil ≡ c.stand.new.self.coils.first + (c.from.result - 1) = omega (arith, first, c.from.ensures, c.if-ch-eq0.false) in
    let changed = subst (λ u. g.W.Wire.on c.change.new.link u coil ≡ false) unit (c.in_ok-change.ensures.off coil (refl, off, here)) in
    channel_off coils (g.W.Wire.on c.compare.new.self.wire) c.args.ch (still_off _ _ c.compare.ensures.fewer coils.unit coil changed))
