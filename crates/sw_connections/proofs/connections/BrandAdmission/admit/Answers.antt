use Rattle.sw_connections.proofs.AdmissionLemmas.{turned-so}
use Rattle.sw_connections.proofs.connections.BrandAdmission.admit.Goals as goal

pub returns-clause-cause : goal.returns-clause-cause
returns-clause-cause c = turned-so c.args.rows.now c.admit.result c.admit.new.self c.admit.ensures
