use Rattle.std.proofs.Common.{ap, ◌∙◌}
use Rattle.sw_code.specs.Reading.{code_in}
use Rattle.sw_code.proofs.Reread.{listing_printed}
use Rattle.sw_code.proofs.print.print_listing.Goals as goal

pub returns-clause-read : goal.returns-clause-read
returns-clause-read c =
    ap code_in c.in_ok-text.ensures.printed ∙ listing_printed c.args.code.now c.in_ok-text.ensures.range c.in_ok-text.ensures.channels
