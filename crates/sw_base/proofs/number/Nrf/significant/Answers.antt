use Rattle.std.proofs.Common.{◌≡◌, ◌<◌, ◌∙◌, sym, ap, length, arith, rules}
use Rattle.std.proofs.lemmas.List.{length-append}
use Rattle.sw_base.specs.Number.{from_first}
use Rattle.sw_base.proofs.Numerals.{from_first-zeros, from_first-some}
use Rattle.sw_base.proofs.number.Nrf.significant.Goals as goal

pub returns-then-is_empty : goal.returns-then-is_empty
returns-then-is_empty c =
    let whole = c.self.inside.whole.now in
    let fraction = c.self.inside.fraction.now in
    let empty : length c.from_first-whole.result.now ≡ 0 = search rules in
    rw (← c.self.view_is) (ap length c.from_first.ensures ∙ sym (ap length (from_first-zeros whole fraction (rw c.from_first-whole.ensures at empty))))

pub returns-else-is_empty : goal.returns-else-is_empty
returns-else-is_empty c =
    let whole = c.self.inside.whole.now in
    let fraction = c.self.inside.fraction.now in
    let some : 0 < length c.from_first-whole.result.now = grind arith in
    rw (
      ← c.self.view_is,
      c.from_first-whole.ensures,
      from_first-some whole fraction (rw c.from_first-whole.ensures at some),
    ) (sym (length-append (from_first whole) fraction))
