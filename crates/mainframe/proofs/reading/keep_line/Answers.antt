use Rattle.std.proofs.Common.{◌≡◌, ◌++◌, ◌-◌, [], take, ap, ◌∙◌, rules, arith, get_or, get_or-take, length-take-le, zero-le}
use Rattle.std.specs.Prelude.{slice_index}
use Rattle.std.proofs.Transfers.{StopsAt-take}
use Rattle.sw_base.specs.Limits.{most_kept}
use Rattle.mainframe.proofs.KeptLemmas.{kept-fits}
use Rattle.mainframe.proofs.reading.keep_line.Goals as goal

pub returns-in-Ok-clause-line : goal.returns-in-Ok-clause-line
returns-in-Ok-clause-line c some =
    let end = c.line_end-end in
    let feed : slice_index c.args.bytes.now (end.result - 1) ≡ 10 = search rules in (
      StopsAt-take _ _ _ end.ensures.bound end.ensures.before,
      λ _. ap (λ n. get_or (take end.result c.args.bytes.now) (n - 1) 0) (length-take-le end.result c.args.bytes.now end.ensures.bound)
          ∙ get_or-take end.result c.args.bytes.now (end.result - 1) 0 (omega (arith, some)) ∙ feed,
      c.in-Ok.ensures.items ∙ ap (λ l. l ++ take c.min.result c.args.bytes.now) c.clear.ensures.items
          ∙ kept-fits most_kept [] c.args.bytes.now end.result c.min.result zero-le (omega (arith, c.min.ensures)),
    )
