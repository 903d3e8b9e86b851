use Rattle.std.proofs.Common.{sym, ◌∙◌, inl}
use Rattle.sw_lex.specs.Unit.{unit_of, written_of}
use Rattle.sw_lex.specs.Meaning.{path_of}
use Rattle.sw_talk.specs.Talk.{talker_at}
use Rattle.sw_talk.proofs.TalksLemmas.{expanded-itself, expanded-units, expanded-fault, fault-expands}
use Rattle.sw_talk.proofs.talker.ByExpansionWay.unit.Goals as goal

pub returns-else-is_replaced-clause-unit : goal.returns-else-is_replaced-clause-unit
returns-else-is_replaced-clause-unit g c =
    expanded-itself g.D.Desk.passes (talker_at c.args.desk.now (path_of c.args.path.now) c.args.talker.now.macros c.args.out.now.items)
    (talker_at c.unit.new.desk (path_of c.unit.new.path) c.unit.new.self.macros c.unit.new.out.items) c.args.talker.now.sid (unit_of c.args.unit.now)
    c.unit.result
    (sym c.in-Ok.ensures.calls ∙ c.if-is_replaced.false) c.unit.ensures.unit

pub returns-then-is_replaced-clause-unit : goal.returns-then-is_replaced-clause-unit
returns-then-is_replaced-clause-unit g c =
    expanded-units g.D.Desk.passes (talker_at c.args.desk.now (path_of c.args.path.now) c.args.talker.now.macros c.args.out.now.items)
    (talker_at c.talk_expansion.new.desk (path_of c.talk_expansion.new.path) c.talk_expansion.new.self.macros c.talk_expansion.new.out.items)
    c.args.talker.now.sid (unit_of c.args.unit.now) c.expand.new.text.items c.talk_expansion.result
    (sym c.in-Ok.ensures.calls ∙ c.if-is_replaced.true)
    (inl (written_of c.args.unit.now, c.in-Ok.ensures.ok c.if-is_replaced.true)) c.talk_expansion.ensures.talks

pub returns-in-Err-clause-unit : goal.returns-in-Err-clause-unit
returns-in-Err-clause-unit g c =
    expanded-fault g.D.Desk.passes (talker_at c.args.desk.now (path_of c.args.path.now) c.args.talker.now.macros c.args.out.now.items)
    (talker_at c.serve_error.new.desk (path_of c.args.path.now) c.serve_error.new.self.macros c.serve_error.new.out.items) c.args.talker.now.sid
    (unit_of c.args.unit.now) c.in-Err.error
    c.serve_error.result
    c.in-Err.ensures.fault
    (fault-expands c.args.talker.now.macros (unit_of c.args.unit.now) (written_of c.args.unit.now) c.in-Err.error c.in-Err.ensures.err)
    (c.serve_error.ensures.serves (path_of c.args.path.now))
