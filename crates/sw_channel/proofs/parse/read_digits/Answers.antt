use Rattle.std.proofs.Common.{◌<◌, ◌≤◌, ◌^◌, ◌*◌, ◌+◌, ◌-◌, ◌≡◌, ◌∷◌, ◌++◌, [], List, take, ℕ, arith, lit<, true, refl, sym, ap, ◌∙◌, get_or, add-one}
use Rattle.std.proofs.lemmas.List.{take_more}
use Rattle.std.proofs.Math.Nat.{pow-suc, pow-le-pow_right}
use Rattle.std.proofs.lemmas.Grind.{common_steps}
use Rattle.sw_base.specs.Text.{is_digit}
use Rattle.sw_base.proofs.Runs.{AllPass-append}
use Rattle.sw_channel.specs.Meaning.{number_from}
use Rattle.sw_channel.proofs.parse.read_digits.Goals.{then-n-lt-MOST_DIGITS, else-n-lt-MOST_DIGITS}
use Rattle.sw_channel.proofs.parse.read_digits.Goals as goal

digit_high : (b : ℕ) → is_digit b ≡ true → b < 58
digit_high b h = grind (arith, common_steps)

-- what nine digits can have come to after eight of them
small : (n i : ℕ) → n < 10 ^ i → i < 9 → n < 10 ^ 8
small n i h k = let p : i ≤ 8 = omega arith in let q : 10 ^ i ≤ 10 ^ 8 = pow-le-pow_right {n = 10} (lit< tt) {j = 8} p in omega (arith, q)

next : (n i x : ℕ) → n < 10 ^ i → is_digit x ≡ true → 10 * n + (x - 48) < 10 ^ (i + 1)
next n i x h d = rw (add-one, pow-suc) (omega (arith, digit_high x d))

number_push : (n x : ℕ) (ds : List ℕ) → number_from n (ds ++ x ∷ []) ≡ 10 * number_from n ds + (x - 48)
number_push n x [] = refl
number_push n x (d ∷ ds) = number_push (10 * n + (d - 48)) x ds

pub overflow_mul-value : goal.overflow_mul-value
overflow_mul-value c =
    let i = c.loop-n.invariant.number (omega (arith, c.if-n-lt-MOST_DIGITS.true)) in
    omega (arith, small c.loop-n.value c.loop-n.n i.0 c.if-n-lt-MOST_DIGITS.true)

pub overflow_add-value : goal.overflow_add-value
overflow_add-value c =
    let i = c.loop-n.invariant.number (omega (arith, c.if-n-lt-MOST_DIGITS.true)) in
    let d : is_digit (get_or c.args.text.now c.loop-n.n 0) ≡ true = sym c.is_digit.ensures ∙ c.if-is_digit.true in
    omega (arith, small c.loop-n.value c.loop-n.n i.0 c.if-n-lt-MOST_DIGITS.true, digit_high (get_or c.args.text.now c.loop-n.n 0) d, c.from.ensures)

pub loop-n-preserved : goal.loop-n-preserved
loop-n-preserved c =
    let x = get_or c.args.text.now c.loop-n.n 0 in
    let d : is_digit x ≡ true = sym c.is_digit.ensures ∙ c.if-is_digit.true in
    let t : take (c.loop-n.n + 1) c.args.text.now ≡ take c.loop-n.n c.args.text.now ++ x ∷ [] =
    take_more c.args.text.now c.loop-n.n 0 c.loop-n-test.true in
    record {
      in_range = omega (arith, c.loop-n-test.true);
      pass = rw t (AllPass-append is_digit (take c.loop-n.n c.args.text.now) (x ∷ []) c.loop-n.invariant.pass (d, tt));
      number = λ h.
          let i = c.loop-n.invariant.number (omega (arith, h)) in
          elim c.if-n-lt-MOST_DIGITS.branch [
            | then-n-lt-MOST_DIGITS w ↦
                let v : c.if-n-lt-MOST_DIGITS.value ≡ 10 * c.loop-n.value + (x - 48) = rw w.from.ensures at w.value-is in
                (rw v (next c.loop-n.value c.loop-n.n x i.0 d), rw (v, t, number_push) (ap (λ (n : ℕ). 10 * n + (x - 48)) i.1))
            | else-n-lt-MOST_DIGITS w ↦ absurd (omega (arith, h, w.if-n-lt-MOST_DIGITS.false))
          ];
    }
