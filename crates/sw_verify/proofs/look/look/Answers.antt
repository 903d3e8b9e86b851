use Rattle.std.proofs.Common.{◌≡◌, ◌+◌, ◌∷◌, ℕ, get_or, ⊎_elim, refl, ◌∙◌}
use Rattle.std.proofs.lemmas.Bool.{both_ways}
use Rattle.sw_base.specs.declared.terms.LayerName.{LayerName}
use Rattle.sw_code.specs.declared.code.Step.TheVariants as step
use Rattle.sw_verify.proofs.Looking.{next_step, after_wait, after_timer, after_pause, after_read, after_set, after_close, close_stops, after_open}
use Rattle.sw_verify.proofs.Looking.{open_stops, moved}
use Rattle.sw_verify.proofs.Looking.{loop_differs, after_loop, halt_right, halt_stops}
use Rattle.sw_verify.proofs.look.look.Goals.{in-Set+in_ok-push-in-Set, in-Loop+else-not-pop_same, in-Close+in_default}
use Rattle.sw_verify.proofs.look.look.Goals.{in-Open+in_default-open}
use Rattle.sw_verify.proofs.look.look.Goals.{in-Wait}
use Rattle.sw_verify.proofs.look.look.Goals as goal

pub returns-in-Err-clause-stops : goal.returns-in-Err-clause-stops
returns-in-Err-clause-stops c =
    let steps = c.args.steps.now in
    let i = c.loop-i.i in
    let e = next_step steps i (step.Close c.in-Close.p) _ c.loop-i-test.true c.in-Close.is in
    close_stops c.args.layout.now c.args.closed.now steps i c.loop-i.ledger c.loop-i.saved c.loop-i.invariant c.in-Close.p c.in-Err.wrong e
    c.in-Err.ensures.barred

pub returns-in-Err-open-clause-stops : goal.returns-in-Err-open-clause-stops
returns-in-Err-open-clause-stops c =
    let steps = c.args.steps.now in
    let i = c.loop-i.i in
    let e = next_step steps i (step.Open c.in-Open.p) _ c.loop-i-test.true c.in-Open.is in
    open_stops c.args.layout.now c.args.closed.now steps i c.loop-i.ledger c.loop-i.saved c.loop-i.invariant c.in-Open.p c.in-Err-open.wrong e
    c.in-Err-open.ensures.refused

pub returns-then-not-pop_same-clause-stops : goal.returns-then-not-pop_same-clause-stops
returns-then-not-pop_same-clause-stops c =
    let steps = c.args.steps.now in
    let i = c.loop-i.i in
    let e = next_step steps i (step.Loop c.in-Loop.field-0 c.in-Loop.field-1) _ c.loop-i-test.true c.in-Loop.is in
    loop_differs c.args.layout.now c.args.closed.now steps i c.loop-i.ledger c.loop-i.saved c.loop-i.invariant c.in-Loop.field-0 c.in-Loop.field-1 e
    (c.pop_same.ensures.other c.if-not-pop_same.true)

pub returns-then-is_clear-clause-right : goal.returns-then-is_clear-clause-right
returns-then-is_clear-clause-right c =
    let steps = c.args.steps.now in
    let i = c.loop-i.i in
    let e = next_step steps i step.Halt _ c.loop-i-test.true c.in-Halt.is in
    halt_right c.args.layout.now c.args.closed.now steps i c.loop-i.ledger c.loop-i.saved c.loop-i.invariant e
    (c.is_clear.ensures.0 c.if-is_clear.true)

pub returns-in-Halt-clause-stops : goal.returns-in-Halt-clause-stops
returns-in-Halt-clause-stops c =
    let steps = c.args.steps.now in
    let i = c.loop-i.i in
    let e = next_step steps i step.Halt _ c.loop-i-test.true c.in-Halt.is in
    halt_stops c.args.layout.now c.args.closed.now steps i c.loop-i.ledger c.loop-i.saved c.loop-i.invariant e (λ d.
    both_ways c.is_clear.result c.if-is_clear.false (c.is_clear.ensures.1 d))

pub loop-i-preserved : goal.loop-i-preserved
loop-i-preserved c =
    let layout = c.args.layout.now in
    let closed = c.args.closed.now in
    let steps = c.args.steps.now in
    let i = c.loop-i.i in
    let ledger = c.loop-i.ledger in
    let rows = c.loop-i.saved in
    let p = c.loop-i.invariant in
    let now = c.match-steps-i.ledger in
    let left = c.match-steps-i.saved in
    elim c.match-steps-i.branch [
      | in-Set+in_ok-push-in-Set w ↦
          moved layout closed steps (i + 1) ledger now (ledger.mine ∷ rows) left w.ledger-is (w.saved-is ∙ w.in_ok-push-in-Set.ensures)
          (after_set layout closed steps i ledger rows p w.in-Set.field-0 w.in-Set.field-1 ledger.mine refl
          (next_step steps i (step.Set w.in-Set.field-0 w.in-Set.field-1) _ c.loop-i-test.true w.in-Set.is))
      | in-Loop+else-not-pop_same w ↦
          moved layout closed steps (i + 1) ledger now w.pop_same.new.self left w.ledger-is w.saved-is
          (after_loop layout closed steps i ledger rows p w.in-Loop.field-0 w.in-Loop.field-1 ledger.mine w.pop_same.new.self
          (next_step steps i (step.Loop w.in-Loop.field-0 w.in-Loop.field-1) _ c.loop-i-test.true w.in-Loop.is)
          (w.pop_same.ensures.same w.if-not-pop_same.false) refl)
      | in-Close+in_default w ↦ moved layout closed steps (i + 1) w.close.new.self now rows left w.ledger-is w.saved-is
          (after_close layout closed steps i ledger rows p w.in-Close.p w.close.new.self
          (next_step steps i (step.Close w.in-Close.p) _ c.loop-i-test.true w.in-Close.is) w.in_default.ensures.closed)
      | in-Open+in_default-open w ↦ moved layout closed steps (i + 1) w.open.new.self now rows left w.ledger-is w.saved-is
          (after_open layout closed steps i ledger rows p w.in-Open.p w.open.new.self
          (next_step steps i (step.Open w.in-Open.p) _ c.loop-i-test.true w.in-Open.is) w.in_default-open.ensures.opened)
      | in-Wait w ↦ moved layout closed steps (i + 1) ledger now rows left w.ledger-is w.saved-is
          (⊎_elim (λ (x : (name : LayerName) × (get_or steps i _ ≡ step.Wait name)).
          after_wait layout closed steps i ledger rows p x.0 (next_step steps i (step.Wait x.0) _ c.loop-i-test.true x.1))
          (λ o. ⊎_elim (λ (x : (name : LayerName) × (micros : ℕ) × (get_or steps i _ ≡ step.Timer name micros)).
          after_timer layout closed steps i ledger rows p x.0 x.1 (next_step steps i (step.Timer x.0 x.1) _ c.loop-i-test.true x.2))
          (λ o. ⊎_elim (λ (x : (micros : ℕ) × (get_or steps i _ ≡ step.Pause micros)).
          after_pause layout closed steps i ledger rows p x.0 (next_step steps i (step.Pause x.0) _ c.loop-i-test.true x.1))
          (λ (x : get_or steps i _ ≡ step.Read). after_read layout closed steps i ledger rows p (next_step steps i step.Read _ c.loop-i-test.true x)) o) o)
          w.in-Wait.is)
    ]
