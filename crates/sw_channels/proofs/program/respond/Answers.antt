use Rattle.sw_channels.proofs.SyncAnswersLemmas.{responds-max, responds-over}
use Rattle.sw_channels.proofs.program.respond.Goals as goal

pub returns-in-Max : goal.returns-in-Max
returns-in-Max c = responds-max c.args.said.items c.args.id c.in-Max.size c.args.bytes.items c.args.size _ c.in-Max.is c.answer.ensures

pub returns-in_default : goal.returns-in_default
returns-in_default c = responds-over c.args.said.items c.args.id c.args.bytes.items c.args.size _ c.in_default.not-Max c.told.ensures
