use Rattle.std.proofs.Common.{sym, ◌∙◌, ap, arith, length}
use Rattle.std.proofs.lemmas.List.{length-map}
use Rattle.sw_cage.specs.Accounts.{option_rest, option_account}
use Rattle.sw_cage.specs.Cards.{meter_only}
use Rattle.sw_cage.proofs.OneSlotLemmas.{rest_more}
use Rattle.sw_cage.proofs.CardLemmas.{meters_set}
use Rattle.sw_cage.proofs.slots.slot.rest_all.Goals as goal

pub loop-slot-preserved : goal.loop-slot-preserved
loop-slot-preserved g c = record {
  opened = rest_more c.loop-slot.slot-items c.args.slots.now c.loop-slot.slot-index c.slot-item.result c.rest_in.new.slot c.loop-slot-test.true
      c.loop-slot.invariant.opened c.slot-item.is (c.rest_in.ensures.rest ∙ ap (λ o. option_rest (option_account o)) (sym c.slot-item.is));
  meters = let n = ap length c.loop-slot.invariant.meters in
      meters_set c.loop-slot.slot-items c.loop-slot.slot-index c.slot-item.result c.rest_in.new.slot
      (omega (arith, c.loop-slot-test.true, n, length-map c.loop-slot.slot-items meter_only, length-map c.args.slots.now meter_only)) c.slot-item.is
      (c.rest_in.ensures.meter ∙ ap meter_only (sym c.slot-item.is)) ∙ c.loop-slot.invariant.meters;
}
