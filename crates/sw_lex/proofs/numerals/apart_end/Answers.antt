use Rattle.std.proofs.Common.{◌≡◌, true, false, sym, ◌∙◌}
use Rattle.sw_lex.proofs.NumbersLemmas.{no_mantissa_apart, no_exponent_apart, not_apart}
use Rattle.sw_lex.proofs.numerals.apart_end.Goals as goal

pub returns-in-None-clause-none : goal.returns-in-None-clause-none
returns-in-None-clause-none c = no_mantissa_apart _ c.in-None.ensures.none

pub returns-in-None-read_exponent-clause-none : goal.returns-in-None-read_exponent-clause-none
returns-in-None-read_exponent-clause-none c = no_exponent_apart _ _ _ c.in-Some.ensures.found.0 c.in-None-read_exponent.ensures.none

pub returns-then-apart-clause-some : goal.returns-then-apart-clause-some
returns-then-apart-clause-some c =
    let e = c.in-Some-read_exponent.ensures.found in
    record { number = _; after = _; negative = _; digits = _; mantissa = c.in-Some.ensures.found.0; exponent = e.0; apart = e.1.0 c.if-apart.true }

pub returns-else-apart-clause-none : goal.returns-else-apart-clause-none
returns-else-apart-clause-none c =
    let e = c.in-Some-read_exponent.ensures.found in
    not_apart _ _ _ _ _ _ c.in-Some.ensures.found.0 e.0 (λ l. let z : true ≡ false = sym (e.1.1 l) ∙ c.if-apart.false in cc)
