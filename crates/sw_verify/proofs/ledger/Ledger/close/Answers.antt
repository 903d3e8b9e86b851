use Rattle.std.proofs.Common.{◌+◌, drop, length, get_or, subst, ap, ◌∙◌, arith}
use Rattle.sw_channel.specs.Positions.{Position}
use Rattle.sw_verify.proofs.Each.{Closing, next_left, none_left, closing_first, closing_next, closing_barred, closing_over}
use Rattle.sw_verify.proofs.ledger.Ledger.close.Goals as goal

pub loop-c-init : goal.loop-c-init
loop-c-init c = λ start b m s. closing_first c.args.layout.now start b m c.args.position.now c.args.self.now s

pub returns-in-Err-clause-barred : goal.returns-in-Err-clause-barred
returns-in-Err-clause-barred c = λ start b m s.
    let layout = c.args.layout.now in
    let p = c.args.position.now in
    let i = c.loop-c.c-index in
    let chans = c.as_slice-c-items.ensures.chans in
    let e = next_left p i c.c-item.result (omega (arith, c.loop-c-test.true, ap length chans))
    (c.c-item.is ∙ ap (λ (l : Position). get_or l i c.c-item.result) chans) in
    let here = subst (λ (rest : Position). Closing layout start b m p rest c.loop-c.self) e (c.loop-c.invariant start b m s) in
    closing_barred layout start b m p c.c-item.result (drop (i + 1) p) c.loop-c.self c.in-Err.wrong c.in-Err.ensures.barred here

pub loop-c-preserved : goal.loop-c-preserved
loop-c-preserved c = λ start b m s.
    let layout = c.args.layout.now in
    let p = c.args.position.now in
    let i = c.loop-c.c-index in
    let chans = c.as_slice-c-items.ensures.chans in
    let e = next_left p i c.c-item.result (omega (arith, c.loop-c-test.true, ap length chans))
    (c.c-item.is ∙ ap (λ (l : Position). get_or l i c.c-item.result) chans) in
    let here = subst (λ (rest : Position). Closing layout start b m p rest c.loop-c.self) e (c.loop-c.invariant start b m s) in
    closing_next layout start b m p c.c-item.result (drop (i + 1) p) c.loop-c.self c.close_one.new.self c.in_default.ensures.closed here

pub returns-clause-closed : goal.returns-clause-closed
returns-clause-closed c = λ start b m s.
    let layout = c.args.layout.now in
    let p = c.args.position.now in
    let end = none_left p c.loop-c.c-index (omega (arith, c.loop-c-test.false, ap length c.as_slice-c-items.ensures.chans)) in
    closing_over layout start b m p c.loop-c.self
    (subst (λ (rest : Position). Closing layout start b m p rest c.loop-c.self) end (c.loop-c.invariant start b m s))
