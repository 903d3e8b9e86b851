use Rattle.std.proofs.Common.{◌≡◌, Some, sym, ◌∙◌, ap}
use Rattle.sw_history.specs.Board.{entry_of}
use Rattle.sw_history.specs.Entries.{last_pair, made_by}
use Rattle.sw_history.proofs.EntriesLemmas.{last_pair-more}
use Rattle.sw_history.proofs.PassStepsLemmas.{written, put_on, pass_after, desk_after, own_after}
use Rattle.sw_history.proofs.seat.LockedPass.publish.Goals as goal

pub invariant_of-self : goal.invariant_of-self
invariant_of-self g c =
    let i = c.self.invariant in
    let p = c.self.inside.pass.me in
    let v = c.desk.inside.seat.me.0 in
    let said = g.T.Telling.said in
    let put = put_on said p.0 v p c.attach_desk.new.pass.me c.put.new.pass.me c.attach_desk.ensures.pass c.put.ensures.pass in
    let all = pass_after (written p.0 v said) p c.put.new.pass.me c.detach_desk.new.pass.me put c.detach_desk.ensures.pass in (
      c.detach_desk.ensures.same.0 ∙ (c.put.ensures.same ∙ (c.attach_desk.ensures.same.0 ∙ i.0)),
      ap (λ m. m.1) all ∙ i.1,
      ap (λ m. m.0.live) all ∙ i.2,
      ap (λ m. m.0.opening) all ∙ i.3,
      ap (λ m. m.0.publishes) all ∙ i.4,
      ap (λ m. m.0.desk) all,
      ap (λ m. last_pair g.B.BoardName.opening m.0.seen) all
          ∙ (last_pair-more g.B.BoardName.opening p.0.seen (entry_of v said) ∙ (c.requires.said ∙ c.word_of-word.ensures)),
    )

pub returns-clause-own : goal.returns-clause-own
returns-clause-own g c d is =
    let p = c.self.inside.pass.me in
    let v = c.desk.inside.seat.me in
    let said = g.T.Telling.said in
    let put = put_on said p.0 v.0 p c.attach_desk.new.pass.me c.put.new.pass.me c.attach_desk.ensures.pass c.put.ensures.pass in
    let all = desk_after (written p.0 v.0 said) p c.put.new.pass.me c.attach_desk.new.desk.me c.detach_desk.new.desk.me put c.detach_desk.ensures.desk in
    let there : v.0.desk ≡ Some d = sym (ap (λ m. m.0.desk) all) ∙ is in
    ap (λ m. made_by d m.0.seen) all ∙ (own_after said p.0 v.0 d there (c.attach_desk.ensures.own d there) ∙ sym (ap (λ m. m.0.mine) all))
