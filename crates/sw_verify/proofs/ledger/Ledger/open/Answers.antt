use Rattle.std.proofs.Common.{◌+◌, drop, length, get_or, subst, ap, ◌∙◌, arith}
use Rattle.sw_channel.specs.Positions.{Position}
use Rattle.sw_verify.proofs.Each.{Opening, next_left, none_left, opening_first, opening_next, opening_barred, opening_over}
use Rattle.sw_verify.proofs.ledger.Ledger.open.Goals as goal

pub loop-c-init : goal.loop-c-init
loop-c-init c = λ start b m s. opening_first c.args.layout.now start b m c.args.position.now c.args.self.now s

pub returns-in-Err-clause-refused : goal.returns-in-Err-clause-refused
returns-in-Err-clause-refused c = (
  c.in-Err.ensures.refused.0,
  λ start b m s.
      let layout = c.args.layout.now in
      let p = c.args.position.now in
      let i = c.loop-c.c-index in
      let chans = c.as_slice-c-items.ensures.chans in
      let e = next_left p i c.c-item.result (omega (arith, c.loop-c-test.true, ap length chans))
      (c.c-item.is ∙ ap (λ (l : Position). get_or l i c.c-item.result) chans) in
      let here = subst (λ (rest : Position). Opening layout start b m p rest c.loop-c.self) e (c.loop-c.invariant start b m s) in
      opening_barred layout start b m p c.c-item.result (drop (i + 1) p) c.loop-c.self c.in-Err.ensures.refused.1 here,
)

pub loop-c-preserved : goal.loop-c-preserved
loop-c-preserved c = λ start b m s.
    let layout = c.args.layout.now in
    let p = c.args.position.now in
    let i = c.loop-c.c-index in
    let chans = c.as_slice-c-items.ensures.chans in
    let e = next_left p i c.c-item.result (omega (arith, c.loop-c-test.true, ap length chans))
    (c.c-item.is ∙ ap (λ (l : Position). get_or l i c.c-item.result) chans) in
    let here = subst (λ (rest : Position). Opening layout start b m p rest c.loop-c.self) e (c.loop-c.invariant start b m s) in
    opening_next layout start b m p c.c-item.result (drop (i + 1) p) c.loop-c.self c.open_one.new.self c.in_default.ensures.opened here

pub returns-clause-opened : goal.returns-clause-opened
returns-clause-opened c = λ start b m s.
    let layout = c.args.layout.now in
    let p = c.args.position.now in
    let end = none_left p c.loop-c.c-index (omega (arith, c.loop-c-test.false, ap length c.as_slice-c-items.ensures.chans)) in
    opening_over layout start b m p c.loop-c.self
    (subst (λ (rest : Position). Opening layout start b m p rest c.loop-c.self) end (c.loop-c.invariant start b m s))
