use Rattle.sw_serve.proofs.ClosingLemmas.{holds-on-ok}
use Rattle.sw_serve.proofs.serving.serve_over.Goals as goal

pub returns-then-serve_pool-clause-taken : goal.returns-then-serve_pool-clause-taken
returns-then-serve_pool-clause-taken g c = holds-on-ok c.closed_down.result (c.serve_pool.ensures.taken c.if-serve_pool.true)
