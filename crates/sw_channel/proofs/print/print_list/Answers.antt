use Rattle.std.proofs.Common.{◌≡◌, ℕ, List, refl, sym, subst}
use Rattle.sw_channel.specs.Meaning.{Spells}
use Rattle.sw_channel.specs.Printing.{printed}
use Rattle.sw_channel.proofs.Printed.{printed_spells}
use Rattle.sw_channel.proofs.print.print_list.Goals as goal

pub returns-clause-spelled : goal.returns-clause-spelled
returns-clause-spelled c n =
    let e : c.push.new.self.items ≡ printed c.args.chans.now =
    rw (c.in_ok-push.ensures.items, c.in_ok-put_all.ensures.printed, c.in_ok-extend_from_slice.ensures.items, c.in_ok-out.ensures.items) refl in
    subst (λ (t : List ℕ). Spells t c.args.chans.now) (sym e) (printed_spells c.args.chans.now n c.in_ok-put_all.ensures.in_range)
