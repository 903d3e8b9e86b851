use Rattle.std.proofs.Common.{◌≡◌, List, ℕ, length}
use Rattle.sw_lex.specs.Unit.{UnitSeen}
use Rattle.sw_lex.specs.Meaning.{path_of}
use Rattle.sw_talk.specs.Trace.{Led}
use Rattle.sw_talk.specs.Talk.{standing, answer_line}
use Rattle.sw_talk.proofs.TalksLemmas.{ScriptsBy, TalksBy}
use Rattle.sw_talk.proofs.talker.Talker.talk.Given as goal

abbrev pub invariant-units : goal.invariant-units
invariant-units g l = record {
  sid : l.self.sid ≡ l.fn.self.sid;
  so_far : (answers : List (List ℕ)) → l.fn.out.items ≡ answer_line answers → (front : List UnitSeen) × (told : List (List ℕ)) × ScriptsBy l.text front l.left
      × (l.out.items ≡ answer_line told)
      × Led g.D.Desk.passes l.fn.desk l.desk (λ t rest. TalksBy (g.W.Way.way l.fn.self.sid) l.fn.self.sid front
      (standing (path_of l.fn.path) l.fn.self.macros answers t) (standing (path_of l.path) l.self.macros told rest));
}

abbrev pub decreases-units : goal.decreases-units
decreases-units g l = length l.left
