use Rattle.sw_lex.specs.Unit.{unit_of}
use Rattle.sw_lex.specs.Meaning.{path_of}
use Rattle.sw_talk.specs.Talk.{talker_at}
use Rattle.sw_talk.proofs.TalksLemmas.{itself-served}
use Rattle.sw_talk.proofs.talker.Talker.unit.Goals as goal

pub returns-clause-unit : goal.returns-clause-unit
returns-clause-unit g c =
    let onward = path_of c.resolve-command.new.path in
    itself-served g.D.Desk.passes (talker_at c.args.desk.now (path_of c.args.path.now) c.args.self.now.macros c.args.out.now.items)
    (talker_at c.serve.new.desk onward c.serve.new.self.macros c.serve.new.out.items) c.args.self.now.sid (unit_of c.args.unit.now)
    c.resolve-command.result c.serve.result c.resolve-command.ensures (c.serve.ensures.serves onward)
