use Rattle.std.proofs.Common.{◌≡◌, ◌∙◌, ◌-◌, drop, take, true≢false, length, refl, sym, arith}
use Rattle.std.proofs.lemmas.Bool.Decides.{Decides-eqb}
use Rattle.std.proofs.lemmas.Grind.{common_steps}
use Rattle.std.proofs.lemmas.List.{take_rest}
use Rattle.std.proofs.lemmas.Slice.Eq.{starts_is}
use Rattle.sw_drivers.proofs.Heard.{held_at, not_at, nothing_held, nothing_is_held}
use Rattle.sw_drivers.proofs.line_board.has.Goals as goal

pub returns-then-starts_with : goal.returns-then-starts_with
returns-then-starts_with c =
    let from = c.loop-from.from in
    let part = take (length c.args.text.now - from) (drop from c.args.text.now) in (
      λ t. held_at c.args.text.now c.args.wanted.now _ from (sym (take_rest c.args.text.now from)
          ∙ (starts_is Decides-eqb part c.args.wanted.now c.starts_with.result c.starts_with.ensures.value).0 c.if-starts_with.true),
      λ h. refl,
    )

pub loop-from-preserved : goal.loop-from-preserved
loop-from-preserved c =
    let from = c.loop-from.from in
    let part = take (length c.args.text.now - from) (drop from c.args.text.now) in
    not_at c.args.text.now c.args.wanted.now from c.loop-from.invariant (λ behind e. true≢false (
    sym ((starts_is Decides-eqb part c.args.wanted.now c.starts_with.result c.starts_with.ensures.value).1 behind (take_rest c.args.text.now from ∙ e))
    ∙ c.if-starts_with.false))

pub returns : goal.returns
returns c = (
  λ t. nothing_is_held c.args.text.now c.args.wanted.now (grind (arith, common_steps, c.is_empty.ensures, t)),
  λ h. let none : length c.args.wanted.now ≡ 0 = nothing_held c.args.text.now c.args.wanted.now
      (λ k few. c.loop-from.invariant k (omega (arith, few, c.loop-from-test.false))) h in
      grind (arith, common_steps, c.is_empty.ensures, none),
)
