use Rattle.std.proofs.Common.{sym, ap, subst}
use Rattle.sw_lex.specs.declared.command.Command.{Command}
use Rattle.sw_core.specs.Action.{action_of}
use Rattle.sw_talk.specs.Macros.{ActsOnMacros}
use Rattle.sw_talk.specs.Talk.{effect_of}
use Rattle.sw_talk.proofs.BeginsLemmas.{begins-reported}
use Rattle.sw_talk.proofs.asking.carry_out.Goals as goal

pub returns-in-Macros : goal.returns-in-Macros
returns-in-Macros g c =
    begins-reported g.D.Desk.passes c.args.sid _ _ c.args.command c.args.answered c.act_on_all-outcome.result c.report.result c.args.macros.now
    c.act_on_all-outcome.new.macros
    (ap (λ (x : Command). effect_of (action_of c.args.answered x)) c.in-Macros.is)
    (subst (λ (x : Command). ActsOnMacros x c.args.macros.now c.act_on_all-outcome.result c.act_on_all-outcome.new.macros) (sym c.in-Macros.is)
    c.act_on_all-outcome.ensures)
    c.report.ensures

pub returns-in-Macro : goal.returns-in-Macro
returns-in-Macro g c =
    begins-reported g.D.Desk.passes c.args.sid _ _ c.args.command c.args.answered c.act_on_one-outcome.result c.report-in-Macro.result c.args.macros.now
    c.act_on_one-outcome.new.macros
    (ap (λ (x : Command). effect_of (action_of c.args.answered x)) c.in-Macro.is)
    (subst (λ (x : Command). ActsOnMacros x c.args.macros.now c.act_on_one-outcome.result c.act_on_one-outcome.new.macros) (sym c.in-Macro.is)
    c.act_on_one-outcome.ensures)
    c.report-in-Macro.ensures

pub returns-in-NoData : goal.returns-in-NoData
returns-in-NoData g c = rw c.in-NoData.is c.carry_without_data.ensures

pub returns-in_default : goal.returns-in_default
returns-in_default g c = c.ask.ensures c.args.macros.now
