use Rattle.std.proofs.Common.{ℕ, ◌-◌, ◌∙◌, ap, sym, None, slice_set}
use Rattle.sw_base.specs.Layout.{slot_at}
use Rattle.sw_cage.specs.Cards.{meters_of}
use Rattle.sw_cage.proofs.CardLemmas.{meters_emptied}
use Rattle.sw_cage.proofs.scan.machine.arrive.Goals as goal

pub returns-in-Some-Read-clause-meters : goal.returns-in-Some-Read-clause-meters
returns-in-Some-Read-clause-meters g c =
    let is = c.send_out.ensures.sent.slot_is in (
      ap (slot_at c.args.slots.now) is ∙ c.send_out.ensures.card,
      meters_emptied c.args.slots.now c.send_out.new.slots _ c.send_out.ensures.empty ∙ ap (λ (s : ℕ). slice_set (meters_of c.args.slots.now) (s - 1) None)
          (sym is),
    )
