use Rattle.std.proofs.Common.{◌≡◌, ◌≢◌, ◌-◌, All, Ok, take, refl, sym, ap, subst, ◌∙◌, rules, arith, eq-eqb, eqb-true, get_or, get_or-take, length-take-le}
use Rattle.std.proofs.lemmas.List.Elements.{All-more}
use Rattle.std.specs.Io.BufRead.{FillKeeps, DropsConsumable}
use Rattle.std.proofs.BufReadLemmas.{Consumes_shown, zero_unless_positive}
use Rattle.std.proofs.Transfers.{StopsAt-take}
use Rattle.sw_base.specs.Limits.{most_kept}
use Rattle.mainframe.proofs.KeptLemmas.{kept-fits, takes-none}
use Rattle.mainframe.proofs.reading.AnyLineSource.read_part.Goals.{then-end-eq0, else-end-eq0}
use Rattle.mainframe.proofs.reading.AnyLineSource.read_part.Goals as goal

pub returns-in-Interrupted-clause-part : goal.returns-in-Interrupted-clause-part
returns-in-Interrupted-clause-part g c = takes-none _ _ _ _ _ c.fill_buf.follows.holds-at-none.0 refl c.requires (λ e. absurd (cc (e)))

pub returns-in-OutOfMemory-clause-part : goal.returns-in-OutOfMemory-clause-part
returns-in-OutOfMemory-clause-part g c = takes-none _ _ _ _ _ c.fill_buf.follows.holds-at-none.0 refl c.requires (λ e. absurd (cc (e)))

pub returns-in_default : goal.returns-in_default
returns-in_default g c = record {
  asked = tt;
  part = takes-none _ _ _ _ _ c.fill_buf.follows.holds-at-none.0 refl c.requires (λ e. absurd (cc (e)));
  fault = tt;
  failed = λ _. tt;
}

pub returns-in_default-extend_from_slice-clause-part : goal.returns-in_default-extend_from_slice-clause-part
returns-in_default-extend_from_slice-clause-part g c =
    takes-none _ _ _ _ _ c.fill_buf.follows.holds-at-none.0 c.in_default-extend_from_slice.ensures.items c.requires (λ e. absurd (cc (e)))

pub returns-clause-part : goal.returns-clause-part
returns-clause-part g c =
    let end = c.line_end-end in
    let rested = c.fill_buf.follows.lender-at-none in
    let filled = subst (FillKeeps _ (g.Rd.Read.remaining rested) (g.Rd.BufRead.consumable_len rested)) c.in-Ok.is c.fill_buf.follows.holds-at-none in
    let same : c.if-end-eq0.self ≡ rested = search rules in
    let drops = subst (λ r. DropsConsumable (g.Rd.Read.remaining r) (g.Rd.Read.remaining c.consume.new.self) (g.Rd.BufRead.consumable_len r) end.result) same
    c.consume.ensures.bytes in
    let moved = Consumes_shown _ _ _ _ c.in-Ok.available.now end.result end.ensures.bound c.in-Ok.ensures.front c.in-Ok.ensures.end filled.0 filled.1 drops in
    record {
      part = take end.result c.in-Ok.available.now;
      consumed = moved.0;
      keeps = c.in-Ok-extend_from_slice.ensures.items ∙ kept-fits most_kept _ _ end.result _ c.requires (omega (arith, c.min.ensures, c.len-room.ensures));
      stops = StopsAt-take _ _ _ end.ensures.bound end.ensures.before;
      ends = λ done some.
          let long = length-take-le end.result c.in-Ok.available.now end.ensures.bound in
          elim c.if-end-eq0.branch [
            | then-end-eq0 w ↦ absurd (omega (arith, w.if-end-eq0.true))
            | else-end-eq0 w ↦ ap (λ n. get_or (take end.result c.in-Ok.available.now) (n - 1) 0) long
                ∙ get_or-take end.result c.in-Ok.available.now (end.result - 1) 0 (omega arith) ∙ eqb-true _ _ (sym w.is_done-is ∙ search rules)
          ];
      at_end = λ _ none.
          let zero : end.result ≡ 0 = sym (length-take-le end.result c.in-Ok.available.now end.ensures.bound) ∙ none in
          moved.1 (zero_unless_positive _ _ end.ensures.some zero);
      goes_on = λ more. elim c.if-end-eq0.branch [
        | then-end-eq0 w ↦ absurd (more (ap Ok (search rules)))
        | else-end-eq0 w ↦ subst (λ k. All (λ x. x ≢ 10) (take k c.in-Ok.available.now)) (omega (arith, w.if-end-eq0.false))
            (All-more (λ x. x ≢ 10) _ (end.result - 1) 0 (omega (arith, w.if-end-eq0.false, end.ensures.bound)) end.ensures.before (λ e.
            more (ap Ok (w.is_done-is ∙ eq-eqb _ _ e))))
      ];
    }
