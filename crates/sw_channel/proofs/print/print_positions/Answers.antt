use Rattle.std.proofs.Common.{◌≡◌, ℕ, List, refl, sym, subst}
use Rattle.sw_channel.specs.PositionMeaning.{SpellsPositions}
use Rattle.sw_channel.specs.Printing.{printed_positions}
use Rattle.sw_channel.proofs.Printed.{printed_spells_positions}
use Rattle.sw_channel.proofs.print.print_positions.Goals as goal

pub returns-clause-spelled : goal.returns-clause-spelled
returns-clause-spelled c n =
    let e : c.push.new.self.items ≡ printed_positions c.args.positions.now =
    rw (c.in_ok-push.ensures.items, c.in_ok-put_positions.ensures.printed, c.in_ok-extend_from_slice.ensures.items, c.in_ok-out.ensures.items) refl in
    subst (λ (t : List ℕ). SpellsPositions t c.args.positions.now) (sym e)
    (printed_spells_positions c.args.positions.now n c.in_ok-put_positions.ensures.in_range)
