use Rattle.std.proofs.Common.{◌≡◌, ◌+◌, ◌-◌, ◌/◌, ◌%◌, ◌≤◌, ◌++◌, ◌∙◌, List, ℕ, length, take, drop, set, sym, refl, arith}
use Rattle.std.proofs.lemmas.List.{take-set-le, length-set, take-append-drop}
use Rattle.sw_base.specs.Reading.{last_digits}
use Rattle.sw_base.proofs.Printed.{one_digit, two_digits, last_digits_none}
use Rattle.sw_base.proofs.reading.write_digits.Goals as goal

pub loop-pair-preserved : goal.loop-pair-preserved
loop-pair-preserved c =
    let i = c.loop-pair.invariant in
    let old = c.loop-pair.buffer in
    let at = c.loop-pair.end - 2 in
    let tens = set old at (48 + c.loop-pair.left % 100 / 10) in
    let high : c.loop-pair.end ≤ length old = omega arith in
    record {
      at = omega arith;
      low = omega arith;
      size = rw c.write_pair.ensures
          (length-set tens (at + 1) (48 + c.loop-pair.left % 100 % 10) ∙ length-set old at (48 + c.loop-pair.left % 100 / 10) ∙ i.size);
      front = rw c.write_pair.ensures
          (take-set-le c.args.start tens (at + 1) (48 + c.loop-pair.left % 100 % 10) (omega arith)
          ∙ take-set-le c.args.start old at (48 + c.loop-pair.left % 100 / 10) (omega arith) ∙ i.front);
      digits = rw c.write_pair.ensures (two_digits c.args.start c.loop-pair.end c.loop-pair.left old (omega arith) high ∙ i.digits);
    }

-- what stands from `start` on, and what stood before it, are the whole
whole : (start : ℕ) (buffer old rest : List ℕ) → take start buffer ≡ take start old → drop start buffer ≡ rest → buffer ≡ take start old ++ rest
whole start buffer old rest front back = sym (take-append-drop start buffer) ∙ rw (front, back) refl

pub returns-then-count-eq1 : goal.returns-then-count-eq1
returns-then-count-eq1 c =
    let i = c.loop-pair.invariant in
    let buffer = c.loop-pair.buffer in
    let left = c.loop-pair.left in
    let start = c.args.start in
    let at : c.loop-pair.end - 1 ≡ start = omega arith in
    let none : c.loop-pair.end - 1 - start ≡ 0 = omega arith in
    let digit = one_digit start c.loop-pair.end left buffer (omega arith) (omega arith) in
    let back : drop start (set buffer start (48 + left % 10)) ≡ last_digits c.args.count c.args.n ++ drop (start + c.args.count) c.args.buffer.now =
    (rw (none, last_digits_none, at) at digit) ∙ i.digits in
    whole start _ _ _ (take-set-le start buffer start (48 + left % 10) (omega arith) ∙ i.front) back

pub returns-else-count-eq1 : goal.returns-else-count-eq1
returns-else-count-eq1 c =
    let i = c.loop-pair.invariant in
    let at : c.loop-pair.end ≡ c.args.start = omega arith in
    let none : c.loop-pair.end - c.args.start ≡ 0 = omega arith in
    let back : drop c.args.start c.loop-pair.buffer ≡ last_digits c.args.count c.args.n ++ drop (c.args.start + c.args.count) c.args.buffer.now =
    rw (none, last_digits_none, at) at i.digits in
    whole c.args.start _ _ _ i.front back
