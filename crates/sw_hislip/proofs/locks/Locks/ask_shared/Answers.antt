use Rattle.std.proofs.Common.{◌≡◌, true, not, ap, sym, subst, ◌∙◌}
use Rattle.std.proofs.lemmas.Bool.{and_from}
use Rattle.sw_hislip.specs.LockTable.{LockTable, other_excludes}
use Rattle.sw_hislip.proofs.LockTurns.{shares_orderly, one_held}
use Rattle.sw_hislip.proofs.locks.Locks.ask_shared.Goals as goal

pub invariant_of-self : goal.invariant_of-self
invariant_of-self c =
    let old : LockTable = record { exclusive = c.self.inside.exclusive; keys = c.self.inside.keys } in
    let free = ap not (sym c.other_excludes.ensures ∙ c.if-other_excludes.false) in
    let here = subst (λ (l : LockTable). not (other_excludes l c.args.sid) ≡ true) (sym c.self.view_is) free in
    let due = and_from _ _ here (sym c.all_agree.ensures ∙ c.if-not-all_agree.false) in
    let orderly = c.self.invariant.0 in
    rw (c.new.ensures ∙ c.in_ok-key.ensures.items) (
      shares_orderly old c.args.sid c.args.key.now c.requires orderly due,
      sym (one_held old c.args.sid c.args.key.now orderly.sessions c.requires),
    )
