use Rattle.std.proofs.Common.{◌∙◌, ap, sym, is_some, subst, IfOk, ◌≡◌}
use Rattle.sw_cage.proofs.CardLemmas.{seen_is}
use Rattle.sw_cage.proofs.KeptLemmas.{bay_out, bay_in}
use Rattle.sw_cage.proofs.cage.Cage.contents.Goals as goal

pub returns-then-is_some : goal.returns-then-is_some
returns-then-is_some g c = c.meter.ensures ∙ sym (bay_out _ c.args.self.now.seen c.args.slot c.self.invariant.good.held (seen_is c.self.view_is)
    (ap is_some (sym c.at.ensures) ∙ sym c.is_some.ensures ∙ c.if-is_some.true))

pub returns : goal.returns
returns g c = subst (λ o. IfOk c.contents.result (λ bay. bay ≡ o)) (bay_in _ c.args.self.now.seen c.args.slot c.self.invariant.good.held (seen_is
    c.self.view_is)
    (ap is_some (sym c.at.ensures) ∙ sym c.is_some.ensures ∙ c.if-is_some.false)) c.contents.ensures
