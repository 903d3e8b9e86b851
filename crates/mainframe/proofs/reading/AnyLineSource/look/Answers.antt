use Rattle.std.proofs.Common.{subst, arith, length-take}
use Rattle.std.specs.Io.BufRead.{FillKeeps}
use Rattle.mainframe.proofs.KeptLemmas.{shown-line, room-shown}
use Rattle.mainframe.proofs.reading.AnyLineSource.look.Goals as goal

pub returns-clause-line : goal.returns-clause-line
returns-clause-line g c some =
    shown-line _ c.in-Ok.available.now c.keep_line.new.line.items c.min.result c.keep_line.result some c.keep_line.ensures.bound
    (c.keep_line.ensures.line some) c.in-Ok.ensures.front

pub returns-clause-shown : goal.returns-clause-shown
returns-clause-shown g c =
    let rested = c.fill_buf.follows.lender-at-none in
    let filled = subst (FillKeeps _ (g.Rd.Read.remaining rested) (g.Rd.BufRead.consumable_len rested)) c.in-Ok.is c.fill_buf.follows.holds-at-none in
    room-shown _ _ _ _ (omega (arith, c.keep_line.ensures.bound, length-take c.min.result c.in-Ok.available.now)) filled.1
