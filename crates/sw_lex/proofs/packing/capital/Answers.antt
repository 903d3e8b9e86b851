use Rattle.std.proofs.Common.{◌≡◌, ℕ, zero, suc, ◌+◌, ◌<◌, true, List, [], ◌∷◌, get_or, ap, ◌∙◌, arith}
use Rattle.std.specs.Prelude.{◌==◌}
use Rattle.std.proofs.lemmas.Bool.{and_parts, eqb-true}
use Rattle.sw_lex.specs.Packed.{capital_of, are_capitals}
use Rattle.sw_lex.proofs.packing.capital.Goals as goal

capital_at : (i : ℕ) (xs : List ℕ) (j k : ℕ) → j ≡ i + k → j < 256 → are_capitals i xs ≡ true → get_or xs k 0 ≡ capital_of j
capital_at i [] j k e l h = absurd (omega (arith, l, e, eqb-true i 256 h))
capital_at i (x ∷ xs) j zero e l h =
    let f : i ≡ j = omega (arith, e) in
    eqb-true x (capital_of i) (and_parts (x == capital_of i) (are_capitals (i + 1) xs) h).0 ∙ ap (λ (n : ℕ). capital_of n) f
capital_at i (x ∷ xs) j (suc k) e l h =
    capital_at (i + 1) xs j k (omega (arith, e)) l (and_parts (x == capital_of i) (are_capitals (i + 1) xs) h).1

pub returns : goal.returns
returns c = capital_at 0 c.capitals.result.now c.args.byte c.from.result (omega (arith, c.from.ensures)) (omega arith) c.capitals.ensures
