use Rattle.std.proofs.Common.{[], ◌∷◌, ◌++◌, Err, refl, subst, ◌∙◌}
use Rattle.sw_lex.specs.Unit.{IsUnit, unit_of}
use Rattle.sw_lex.specs.Meaning.{path_of}
use Rattle.sw_core.specs.declared.ask.Sid.{Sid}
use Rattle.sw_talk.specs.declared.talker.AfterUnit.TheVariants.{Goes}
use Rattle.sw_talk.specs.Trace.{Led}
use Rattle.sw_talk.specs.Script.{Complete, EndsRefused, EndsUnread}
use Rattle.sw_talk.specs.Talk.{ServesUnit, standing}
use Rattle.sw_talk.proofs.TalksLemmas.{ScriptsBy, scripts-more, talk-starts, talk-goes, talk-stops, talk-refused, talk-complete}
use Rattle.sw_talk.proofs.talker.Talker.talk.Goals as goal

pub units-init : goal.units-init
units-init g c =
    let all : ScriptsBy c.args.text.now [] c.args.text.now = λ us ending s. s in
    record {
      sid = refl;
      so_far = λ answers written. (
        [],
        answers,
        all,
        written,
        talk-starts g.D.Desk.passes (g.W.Way.way c.args.self.now.sid) c.args.self.now.sid c.args.desk.now
            (standing (path_of c.args.path.now) c.args.self.now.macros answers),
      );
    }

pub returns-in-Ok-None-clause-talks : goal.returns-in-Ok-None-clause-talks
returns-in-Ok-None-clause-talks g c = λ answers written.
    let inv = c.units.invariant.so_far answers written in (
      inv.0 ++ [],
      Complete,
      inv.1,
      inv.2 [] Complete (rw c.in-Ok-None.field-0-is at c.in-Ok-None.ensures.none),
      inv.3,
      talk-complete g.D.Desk.passes (g.W.Way.way c.args.self.now.sid) c.args.self.now.sid _ _ inv.0
          (standing (path_of c.args.path.now) c.args.self.now.macros answers)
          (standing (path_of c.units.path) c.units.self.macros inv.1) inv.4,
    )

pub returns-in-Err-clause-talks : goal.returns-in-Err-clause-talks
returns-in-Err-clause-talks g c = λ answers written.
    let inv = c.units.invariant.so_far answers written in
    let path = path_of c.units.path in
    let s = c.serve.ensures.serves path inv.1 inv.3 in
    let served : Led g.D.Desk.passes c.units.desk c.serve.new.desk (λ t rest. ServesUnit c.args.self.now.sid (Err c.in-Err.misfit)
    (standing path c.units.self.macros inv.1 t) c.serve.result (standing path c.serve.new.self.macros s.0 rest)) =
    subst (λ (i : Sid). Led g.D.Desk.passes c.units.desk c.serve.new.desk (λ t rest. ServesUnit i (Err c.in-Err.misfit)
    (standing path c.units.self.macros inv.1 t) c.serve.result (standing path c.serve.new.self.macros s.0 rest))) c.units.invariant.sid s.2 in (
      inv.0 ++ [],
      EndsRefused c.in-Err.misfit,
      s.0,
      inv.2 [] (EndsRefused c.in-Err.misfit) c.in-Err.ensures.refused,
      s.1,
      talk-refused g.D.Desk.passes (g.W.Way.way c.args.self.now.sid) c.args.self.now.sid _ _ _ inv.0 c.in-Err.misfit
          (standing (path_of c.args.path.now) c.args.self.now.macros answers) (standing path c.units.self.macros inv.1)
          (standing path c.serve.new.self.macros s.0)
          c.serve.result inv.4 served,
    )

pub units-preserved : goal.units-preserved
units-preserved g c = record {
  sid = c.in-Goes.ensures.same ∙ c.units.invariant.sid;
  so_far = λ answers written.
      let inv = c.units.invariant.so_far answers written in
      let u = unit_of c.in-Ok-Some.unit in
      let s = c.in-Goes.ensures.unit inv.1 inv.3 in
      let is : IsUnit c.units.left.now u c.in-Ok-Some.rest.now = rw c.in-Ok-Some.field-0-is at c.in-Ok-Some.ensures.unit in
      let done : Led g.D.Desk.passes c.units.desk c.unit.new.desk (λ t rest. g.W.Way.way c.args.self.now.sid u
      (standing (path_of c.units.path) c.units.self.macros inv.1 t) Goes (standing (path_of c.unit.new.path) c.unit.new.talker.macros s.0 rest)) =
      subst (λ (i : Sid). Led g.D.Desk.passes c.units.desk c.unit.new.desk (λ t rest. g.W.Way.way i u
      (standing (path_of c.units.path) c.units.self.macros inv.1 t) Goes (standing (path_of c.unit.new.path) c.unit.new.talker.macros s.0 rest)))
      c.units.invariant.sid s.2 in (
        inv.0 ++ u ∷ [],
        s.0,
        scripts-more _ _ _ inv.0 u is inv.2,
        s.1,
        talk-goes g.D.Desk.passes (g.W.Way.way c.args.self.now.sid) c.args.self.now.sid _ _ _ inv.0 u
            (standing (path_of c.args.path.now) c.args.self.now.macros answers)
            (standing (path_of c.units.path) c.units.self.macros inv.1) (standing (path_of c.unit.new.path) c.unit.new.talker.macros s.0) inv.4 done,
      );
}

pub returns-in_default-clause-talks : goal.returns-in_default-clause-talks
returns-in_default-clause-talks g c = λ answers written.
    let inv = c.units.invariant.so_far answers written in
    let u = unit_of c.in-Ok-Some.unit in
    let s = c.unit.ensures.unit inv.1 inv.3 in
    let is : IsUnit c.units.left.now u c.in-Ok-Some.rest.now = rw c.in-Ok-Some.field-0-is at c.in-Ok-Some.ensures.unit in
    let done : Led g.D.Desk.passes c.units.desk c.unit.new.desk (λ t rest. g.W.Way.way c.args.self.now.sid u
    (standing (path_of c.units.path) c.units.self.macros inv.1 t) c.unit.result
    (standing (path_of c.unit.new.path) c.unit.new.talker.macros s.0 rest)) =
    subst (λ (i : Sid). Led g.D.Desk.passes c.units.desk c.unit.new.desk (λ t rest. g.W.Way.way i u
    (standing (path_of c.units.path) c.units.self.macros inv.1 t) c.unit.result (standing (path_of c.unit.new.path) c.unit.new.talker.macros s.0 rest)))
    c.units.invariant.sid s.2 in (
      inv.0 ++ u ∷ [],
      EndsUnread,
      s.0,
      inv.2 (u ∷ []) EndsUnread (_, is, tt),
      s.1,
      talk-stops g.D.Desk.passes (g.W.Way.way c.args.self.now.sid) c.args.self.now.sid _ _ _ inv.0 u
          (standing (path_of c.args.path.now) c.args.self.now.macros answers)
          (standing (path_of c.units.path) c.units.self.macros inv.1) (standing (path_of c.unit.new.path) c.unit.new.talker.macros s.0) c.unit.result
          c.in_default.not-Goes inv.4 done,
    )
