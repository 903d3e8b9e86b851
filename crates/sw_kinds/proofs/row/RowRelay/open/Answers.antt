use Rattle.std.proofs.Common.{ap, ◌∙◌, arith}
use Rattle.sw_kinds.proofs.Rows.{account_clear, closed_in_row, kept_clear}
use Rattle.sw_kinds.proofs.row.RowRelay.open.Goals as goal

pub remove-requires : goal.remove-requires
remove-requires g c =
    let old = c.self.inside in
    let e = ap (λ p. p.1) c.self.view_is ∙ c.in_ok-drive.ensures.ok in
    let b = closed_in_row c.args.self.now.1 old.serial old.failures old.channels old.group old.closed c.args.ch e c.requires in
    (b.0, omega (arith, b.1, c.self.invariant.few))

pub invariant_of-self : goal.invariant_of-self
invariant_of-self g c =
    let old = c.self.inside in
    let off = ap (λ p. g.D.Driver.driven p.0 c.args.ch) c.self.view_is ∙ c.in_ok-drive.ensures.driven in
    kept_clear (g.D.Driver.driven old.coils) old.channels old.closed c.remove.new.self c.args.ch c.self.invariant off c.remove.ensures.others

pub returns-clause-ok : goal.returns-clause-ok
returns-clause-ok g c =
    let old = c.self.inside in
    let m = c.remove.ensures in
    let e = ap (λ p. p.1) c.self.view_is ∙ c.in_ok-drive.ensures.ok in
    account_clear c.args.self.now.1 old.serial old.failures old.channels old.group old.closed c.remove.new.self c.args.ch e c.requires m.here m.others
