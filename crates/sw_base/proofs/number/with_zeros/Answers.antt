use Rattle.std.proofs.Common.{◌≡◌, ◌*◌, ◌+◌, ◌^◌, ◌≤◌, ◌∙◌, ap, arith}
use Rattle.sw_base.proofs.Values.{not_below, tenfold, more_zeros}
use Rattle.sw_base.proofs.number.with_zeros.Goals as goal

pub returns-in_err-product-clause-none : goal.returns-in_err-product-clause-none
returns-in_err-product-clause-none c =
    let big : 2 ^ 64 ≤ c.loop.product * 10 = not_below _ _ c.in_err-product.ensures in
    let here : c.loop.product * 10 ≡ c.args.n * 10 ^ (c.loop.counter + 1) = ap (λ m. m * 10) c.loop.invariant.product ∙ tenfold c.args.n c.loop.counter in
    let rest : c.args.n * 10 ^ (c.loop.counter + 1) ≤ c.args.n * 10 ^ c.args.zeros = more_zeros c.args.n (c.loop.counter + 1) c.args.zeros (omega arith) in
    rw c.from_residual.ensures (omega arith)

pub loop-preserved : goal.loop-preserved
loop-preserved c =
    let here : c.loop.product * 10 ≡ c.args.n * 10 ^ (c.loop.counter + 1) = ap (λ m. m * 10) c.loop.invariant.product ∙ tenfold c.args.n c.loop.counter in
    record { some = c.loop.invariant.some; product = omega (arith, c.in_ok-product.ensures) }
