use Rattle.std.proofs.Common.{◌≡◌, true, false, ap, ◌∙◌, sym, refl, subst}
use Rattle.sw_kinds.specs.Fuse.{left_after, is_failing}
use Rattle.sw_kinds.proofs.fuse.FuseDriver.drive.Goals as goal

pub returns-then-failing-clause-drives : goal.returns-then-failing-clause-drives
returns-then-failing-clause-drives g c =
    let on = c.args.on in
    let outcome = c.drive-outcome in
    let behind : c.self.inside.driver ≡ c.args.self.now.0 = ap (λ p. p.0) c.self.view_is in
    let before : c.self.inside.countdown ≡ c.args.self.now.1 = ap (λ p. p.1) c.self.view_is in
    let left : c.count-failing.new.self ≡ left_after on c.args.self.now.1 = c.count-failing.ensures.counted ∙ ap (left_after on) before in
    let failing : is_failing on c.args.self.now.1 ≡ true =
    sym (c.count-failing.ensures.failing ∙ ap (is_failing on) before) ∙ c.if-failing.true in
    record {
      counted = left;
      passes = λ h. absurd (let k : true ≡ false = sym failing ∙ h in cc);
      reports = λ _. refl;
      asks = λ _. (
        outcome.result,
        (subst (λ d. g.D.Driver.drives d c.args.ch on outcome.result outcome.new.self) behind outcome.ensures.drives, outcome.ensures.ok),
      );
    }
