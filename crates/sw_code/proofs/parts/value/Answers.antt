use Rattle.std.proofs.Common.{◌<◌, ◌≤◌, ◌^◌, ◌*◌, ◌+◌, ◌-◌, ◌≡◌, ◌∷◌, drop, drop-cons, ℕ, suc, arith, lit<, true, get_or, add-one, ap, ◌∙◌}
use Rattle.std.proofs.Math.Nat.{pow-suc, pow-le-pow_right}
use Rattle.std.proofs.lemmas.List.Elements.{All-from_recursion}
use Rattle.std.proofs.lemmas.Grind.{common_steps}
use Rattle.sw_base.specs.Text.{is_digit}
use Rattle.sw_base.specs.Number.{value_after}
use Rattle.sw_code.proofs.parts.value.Goals as goal

digit_high : (b : ℕ) → is_digit b ≡ true → b < 58
digit_high b h = grind (arith, common_steps)

-- what twenty digits can have come to after nineteen of them
small : (n i : ℕ) → n < 10 ^ i → i < 20 → n < 10 ^ 19
small n i h k = let p : i ≤ 19 = omega arith in let q : 10 ^ i ≤ 10 ^ 19 = pow-le-pow_right {n = 10} (lit< tt) {j = 19} p in omega (arith, q)

pub overflow_mul-n : goal.overflow_mul-n
overflow_mul-n c = omega (arith, small c.loop-d.n c.loop-d.d-index c.loop-d.invariant.small (omega (arith, c.requires.short)))

pub overflow_add-n : goal.overflow_add-n
overflow_add-n c =
    let x = get_or c.args.digits.now c.loop-d.d-index 0 in
    let d : is_digit x ≡ true = All-from_recursion (λ (b : ℕ). is_digit b ≡ true) c.args.digits.now c.requires.digits c.loop-d.d-index 0 c.loop-d-test.true in
    omega (arith, digit_high x d, small c.loop-d.n c.loop-d.d-index c.loop-d.invariant.small (omega (arith, c.requires.short)))

next : (n i x y : ℕ) → n < 10 ^ i → is_digit x ≡ true → y ≡ x - 48 → 10 * n + y < 10 ^ (i + 1)
next n i x y h d e = rw (add-one, pow-suc) (omega (arith, digit_high x d))

pub loop-d-preserved : goal.loop-d-preserved
loop-d-preserved c =
    let x = get_or c.args.digits.now c.loop-d.d-index 0 in
    let y = c.from.result in
    let same : y ≡ x - 48 = cc in
    let d : is_digit x ≡ true = All-from_recursion (λ (b : ℕ). is_digit b ≡ true) c.args.digits.now c.requires.digits c.loop-d.d-index 0 c.loop-d-test.true in
    let e : drop c.loop-d.d-index c.args.digits.now ≡ x ∷ drop (suc c.loop-d.d-index) c.args.digits.now =
    drop-cons c.args.digits.now c.loop-d.d-index 0 c.loop-d-test.true in
    let r = rw e at c.loop-d.invariant.rest in
    let turn : 10 * c.loop-d.n + y ≡ c.loop-d.n * 10 + (x - 48) = omega arith in
    let j : c.loop-d.d-index + 1 ≡ suc c.loop-d.d-index = omega arith in
    record {
      small = next c.loop-d.n c.loop-d.d-index x y c.loop-d.invariant.small d same;
      rest = ap (λ (i : ℕ). value_after (10 * c.loop-d.n + y) (drop i c.args.digits.now)) j
          ∙ ap (λ (m : ℕ). value_after m (drop (suc c.loop-d.d-index) c.args.digits.now)) turn ∙ r;
    }
