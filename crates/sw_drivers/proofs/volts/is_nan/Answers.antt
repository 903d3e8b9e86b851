use Rattle.std.proofs.Common.{◌∙◌, false, true≢false, Bool, List, ℕ, subst, sym}
use Rattle.sw_base.specs.Number.{IsExponent}
use Rattle.sw_drivers.proofs.Nans.{nan_exponent, nan_mantissa}
use Rattle.sw_drivers.proofs.volts.is_nan.Goals as goal
use Rattle.sw_drivers.proofs.volts.is_nan.Goals.{then-exponent-via-then-exponent, then-exponent-via-else-exponent+then-not-is_size}

pub returns-in_default : goal.returns-in_default
returns-in_default c = (λ no. absurd (true≢false (sym no)), λ nan. absurd (c.in_default.ensures.none nan.mantissa nan.behind nan.read))

pub returns-in_default-read_exponent : goal.returns-in_default-read_exponent
returns-in_default-read_exponent c = (
  λ no. absurd (true≢false (sym no)),
  λ nan. let front = nan_mantissa c.args.text.now c.in-Some.mantissa c.in-Some.rest.now c.in-Some.ensures.found.0 c.in-Some.ensures.found.1 nan in
      absurd (c.in_default-read_exponent.ensures.none false nan.digits nan.rest
      (subst (λ (x : List ℕ). IsExponent x false nan.digits nan.rest) (sym front.1) nan.exponent)),
)

pub returns-then-exponent : goal.returns-then-exponent
returns-then-exponent c = (
  λ no. absurd (true≢false (sym no)),
  λ nan. let all = nan_exponent c.args.text.now c.in-Some.mantissa c.in-Some.rest.now _ _ _ c.in-Some.ensures.found.0 c.in-Some.ensures.found.1
      c.in-Some-read_exponent.ensures.found.0 nan in
      elim c.then-exponent.branch [
        | then-exponent-via-then-exponent w ↦ absurd (true≢false (sym w.if-exponent.true ∙ all.1))
        | then-exponent-via-else-exponent+then-not-is_size w ↦ absurd (true≢false (sym (w.is_size.ensures.1 all.0) ∙ w.if-not-is_size.true))
      ],
)

pub returns : goal.returns
returns c = (
  λ tens. record {
    mantissa = c.in-Some.mantissa;
    behind = c.in-Some.rest.now;
    read = c.in-Some.ensures.found.0;
    bare = c.in-Some.ensures.found.1;
    size = c.is_size.ensures.0 c.if-not-is_size.false;
    digits = c.in-Some-read_exponent.exponent.digits.now;
    rest = c.in-Some-read_exponent.field-0-1.now;
    exponent = subst (λ (b : Bool). IsExponent c.in-Some.rest.now b c.in-Some-read_exponent.exponent.digits.now c.in-Some-read_exponent.field-0-1.now)
        c.if-exponent.false c.in-Some-read_exponent.ensures.found.0;
    tens = c.is_tens.ensures.0 tens;
  },
  λ nan. let all = nan_exponent c.args.text.now c.in-Some.mantissa c.in-Some.rest.now _ _ _ c.in-Some.ensures.found.0 c.in-Some.ensures.found.1
      c.in-Some-read_exponent.ensures.found.0 nan in
      c.is_tens.ensures.1 all.2,
)
