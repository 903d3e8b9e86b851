use Rattle.std.proofs.Common.{◌≡◌, ap, subst, OnErr, ◌∙◌}
use Rattle.sw_card.specs.Account.{Account}
use Rattle.sw_card.proofs.Masks.{closed_states}
use Rattle.sw_kinds.specs.Row.{failure_counted}
use Rattle.sw_kinds.proofs.Rows.{account_set, in_row, kept_set}
use Rattle.sw_kinds.proofs.row.RowRelay.close.Goals as goal

pub invariant_of-self : goal.invariant_of-self
invariant_of-self g c = let m = c.insert.ensures in
    kept_set (g.D.Driver.driven c.self.inside.coils) c.self.inside.channels c.self.inside.closed c.insert.new.self c.args.ch c.self.invariant m.here m.others

pub drive-requires : goal.drive-requires
drive-requires g c =
    let old = c.self.inside in
    let b = in_row c.args.self.now.1 old.serial old.failures old.channels old.group old.closed c.args.ch (ap (λ p. p.1) c.self.view_is) c.requires.present in
    closed_states c.insert.new.self old.channels c.args.ch b.1 ∙ c.insert.ensures.here

pub returns-clause-ok : goal.returns-clause-ok
returns-clause-ok g c =
    let old = c.self.inside in
    let m = c.insert.ensures in
    let e = ap (λ p. p.1) c.self.view_is in
    rw
    (← account_set c.args.self.now.1 old.serial old.failures old.channels old.group old.closed c.insert.new.self c.args.ch e c.requires.present m.here m.others)
    c.drive.ensures.ok

pub returns-clause-err : goal.returns-clause-err
returns-clause-err g c =
    let old = c.self.inside in
    let m = c.insert.ensures in
    let e = ap (λ p. p.1) c.self.view_is in
    let a =
    account_set c.args.self.now.1 old.serial old.failures old.channels old.group old.closed c.insert.new.self c.args.ch e c.requires.present m.here m.others in
    subst (λ (a : Account). OnErr c.drive.result (c.drive.new.self.1 ≡ failure_counted a)) a c.drive.ensures.err
