use Rattle.std.proofs.Common.{◌≡◌, false, refl, ap, subst, arith}
use Rattle.sw_drivers.specs.declared.coils.Coils.{Coils}
use Rattle.sw_drivers.proofs.Off.{channels_off, on_ok, still_off}
use Rattle.sw_drivers.proofs.modbus.ModbusBoard.try_clear.Goals as goal

pub returns-then-not-self-clause-off : goal.returns-then-not-self-clause-off
returns-then-not-self-clause-off g c =
    let first = ap (λ (k : Coils). k.first) c.asking-asking.ensures.coils in
    let channels = ap (λ (k : Coils). k.channels) c.asking-asking.ensures.coils in
    channels_off c.args.self.now.coils (g.W.Wire.on c.change.new.link)
    (λ coil low high. subst (λ u. g.W.Wire.on c.change.new.link u coil ≡ false) c.asking-asking.ensures.unit
    (c.in_ok-change.ensures.off coil (refl, omega (arith, low, first), omega (arith, high, first, channels, c.from.ensures))))

pub returns-clause-off : goal.returns-clause-off
returns-clause-off g c =
    let first = ap (λ (k : Coils). k.first) c.asking-asking.ensures.coils in
    let channels = ap (λ (k : Coils). k.channels) c.asking-asking.ensures.coils in
    on_ok c.compare.result (
    channels_off c.args.self.now.coils (g.W.Wire.on c.compare.new.self.wire)
    (λ coil low high. still_off _ _ c.compare.ensures.fewer c.args.self.now.coils.unit coil
    (subst (λ u. g.W.Wire.on c.change.new.link u coil ≡ false) c.asking-asking.ensures.unit
    (c.in_ok-change.ensures.off coil (refl, omega (arith, low, first), omega (arith, high, first, channels, c.from.ensures))))))
