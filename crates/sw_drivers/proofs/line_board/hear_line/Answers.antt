use Rattle.std.proofs.Common.{◌≡◌, ◌∙◌, ◌+◌, ◌-◌, ◌≤◌, ℕ, List, length, take, drop, arith, rules, length-drop}
use Rattle.std.proofs.lemmas.Bool.Decides.{Decides-eqb}
use Rattle.std.proofs.lemmas.List.{length-take-le}
use Rattle.std.proofs.lemmas.Slice.{overwrites}
use Rattle.std.proofs.lemmas.Slice.Eq.{ends_is}
use borrow.Rule.Slice.PartMut.{post_of, put_mid}
use Rattle.sw_drivers.proofs.Heard.{heard_more}
use Rattle.sw_drivers.proofs.line_board.hear_line.Goals as goal

-- a write to the rest of a buffer keeps its size
same_size : (a : ℕ) (xs ys : List ℕ) → length xs ≡ 256 → a ≤ 256 → length ys ≡ 256 - a → length (put_mid a (256 - a) xs ys) ≡ 256
same_size a xs ys e few f = search (rules, overwrites)

pub loop-preserved : goal.loop-preserved
loop-preserved g c = record {
  within = omega (arith, c.if-length-ge-ANSWER.false);
  size = same_size c.loop.length c.loop.answer c.hear_some.new.room c.loop.invariant.size c.loop.invariant.within (c.hear_some.auto.room
      ∙ length-take-le (256 - c.loop.length) (drop c.loop.length c.loop.answer)
      (omega (arith, length-drop c.loop.length c.loop.answer, c.loop.invariant.size)));
  asked = c.in_ok-n.ensures.asked ∙ c.loop.invariant.asked;
  sent = c.in_ok-n.ensures.sent ∙ c.loop.invariant.sent;
  heard = heard_more (g.W.Wire.answered c.args.wire.now) (g.W.Wire.answered c.loop.wire) (g.W.Wire.answered c.hear_some.new.self) c.loop.length c.in_ok-n.n
      c.loop.answer c.hear_some.new.room (post_of c.loop.length (256 - c.loop.length) c.loop.answer)
      c.loop.invariant.heard c.in_ok-n.ensures.answered (omega (arith, c.loop.invariant.within, c.loop.invariant.size)) c.in_ok-n.ensures.within;
}

pub returns-then-ends_with-clause-heard : goal.returns-then-ends_with-clause-heard
returns-then-ends_with-clause-heard g c =
    heard_more (g.W.Wire.answered c.args.wire.now) (g.W.Wire.answered c.loop.wire) (g.W.Wire.answered c.hear_some.new.self) c.loop.length c.in_ok-n.n
    c.loop.answer c.hear_some.new.room (post_of c.loop.length (256 - c.loop.length) c.loop.answer)
    c.loop.invariant.heard c.in_ok-n.ensures.answered (omega (arith, c.loop.invariant.within, c.loop.invariant.size)) c.in_ok-n.ensures.within

pub returns-then-ends_with-clause-end : goal.returns-then-ends_with-clause-end
returns-then-ends_with-clause-end g c =
    let text = take (c.loop.length + c.in_ok-n.n) (put_mid c.loop.length (256 - c.loop.length) c.loop.answer c.hear_some.new.room) in
    (_, (ends_is Decides-eqb text c.args.end.now c.ends_with.result c.ends_with.ensures.value).0 c.if-ends_with.true)
