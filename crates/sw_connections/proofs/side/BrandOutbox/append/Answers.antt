use Rattle.sw_connections.proofs.SideLemmas.{refused-so}
use Rattle.sw_connections.proofs.side.BrandOutbox.append.Goals as goal

pub returns-clause-refused : goal.returns-clause-refused
returns-clause-refused c = refused-so c.args.side.now c.args.bytes.now c.append.result c.append.new.self c.append.ensures
