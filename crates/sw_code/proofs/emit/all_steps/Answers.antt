use Rattle.sw_code.proofs.Fits.{compiled_fits}
use Rattle.sw_code.proofs.Compiled.{compiled_unfolds}
use Rattle.sw_code.proofs.emit.all_steps.Goals as goal

pub returns-clause-range : goal.returns-clause-range
returns-clause-range c = compiled_fits c.args.settings.now c.requires.listed c.put_arms.ensures.range

pub returns-clause-unfolds : goal.returns-clause-unfolds
returns-clause-unfolds c = compiled_unfolds c.args.settings.now c.requires.listed c.put_arms.ensures.range
