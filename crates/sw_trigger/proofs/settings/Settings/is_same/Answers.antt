use Rattle.std.proofs.Common.{◌≡◌, sym, ap, ◌∙◌}
use Rattle.sw_trigger.specs.Seen.{setup_of}
use Rattle.sw_trigger.specs.Settings.{SettingsSeen}
use Rattle.sw_trigger.proofs.Same.{layer_same, layers_same, layer_other, layers_other, positions_decide, same_setup}
use Rattle.sw_trigger.proofs.settings.Settings.is_same.Goals as goal
use Rattle.sw_trigger.proofs.settings.Settings.is_same.Goals.{then-ne-via-then-ne, then-ne-via-else-ne+then-ne-2}

pub returns : goal.returns
returns c =
    let a = setup_of c.self.inside in
    let b = setup_of c.other.inside in
    let arms = layers_same c.ne.result a.arms b.arms c.ne.ensures c.if-ne.false in
    let trigger = layer_same c.ne-else-ne.result a.trigger b.trigger c.ne-else-ne.ensures c.if-ne-2.false in
    let list = positions_decide c.as_slice.result.now c.as_slice-2.result.now c.eq.result c.eq.ensures in (
      λ t. sym c.self.view_is ∙ same_setup a b arms trigger (sym c.as_slice.ensures.value ∙ list.0 (cc)
          ∙ c.as_slice-2.ensures.value) c.if-self-other.false c.if-self-other-2.false c.if-self-other-3.false ∙ c.other.view_is,
      λ e. let same : a.list ≡ b.list = ap (λ (v : SettingsSeen). v.list) (c.self.view_is ∙ e ∙ sym c.other.view_is) in
          list.1 (c.as_slice.ensures.value ∙ same ∙ sym c.as_slice-2.ensures.value),
    )

pub returns-then-ne : goal.returns-then-ne
returns-then-ne c =
    let a = setup_of c.self.inside in
    let b = setup_of c.other.inside in
    let same : c.args.self.now ≡ c.args.other.now → a ≡ b = λ e. c.self.view_is ∙ e ∙ sym c.other.view_is in (
      λ t. absurd (cc t),
      λ e. absurd (elim c.then-ne.branch [
        | then-ne-via-then-ne w ↦ layers_other c.ne.result a.arms b.arms c.ne.ensures w.if-ne.true (ap (λ (v : SettingsSeen). v.arms) (same e))
        | then-ne-via-else-ne+then-ne-2 w ↦
            layer_other w.ne-else-ne.result a.trigger b.trigger w.ne-else-ne.ensures w.if-ne-2.true (ap (λ (v : SettingsSeen). v.trigger) (same e))
      ]),
    )
