use Rattle.std.proofs.Common.{inr, rules, take}
use Rattle.sw_drivers.specs.Lines.{Holds}
use Rattle.sw_drivers.proofs.Heard.{heard_of}
use Rattle.sw_drivers.proofs.line_board.ask_either.Goals as goal

pub returns-then-has-2-clause-heard : goal.returns-then-has-2-clause-heard
returns-then-has-2-clause-heard g c = λ some.
    let text = take c.in_ok-length.length c.ask.new.answer in
    let held : Holds text c.args.off.now.wanted.items = search rules in
    inr (heard_of (g.W.Wire.answered c.ask.new.wire) text c.args.on.now.end.items c.args.off.now.wanted.items
    (c.in_ok-length.ensures.heard some) (c.in_ok-length.ensures.end some) held)
