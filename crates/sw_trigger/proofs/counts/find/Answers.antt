use Rattle.std.proofs.Common.{◌≡◌, ◌+◌, ◌-◌, ◌%◌, ap, sym, ◌∙◌, arith, length}
use Rattle.std.specs.List.{slice_get}
use Rattle.sw_trigger.specs.Agenda.{head_of}
use Rattle.sw_trigger.proofs.Awaiting.{at_head, at_inside, some_there}
use Rattle.sw_trigger.proofs.counts.find.Goals as goal

pub returns-in-Some : goal.returns-in-Some
returns-in-Some c = λ xs e w.
    let h = c.head_len-head.result in
    let len : h + c.args.inside ≡ length (head_of c.args.name c.args.layer) + length xs = omega (arith, c.head_len-head.ensures.len, e) in
    at_head c.args.name c.args.layer xs c.args.n (h + c.args.inside) w len (omega (arith, c.requires.some))
    (omega (arith, c.if-at-head.true, c.head_len-head.ensures.len))
    ∙ sym c.head_at.ensures ∙ c.in-Some.is

pub returns-else-at-head : goal.returns-else-at-head
returns-else-at-head c = λ xs e w.
    let h = c.head_len-head.result in
    let l = length (head_of c.args.name c.args.layer) in
    let len : h + c.args.inside ≡ l + length xs = omega (arith, c.head_len-head.ensures.len, e) in
    let at = c.args.n % (h + c.args.inside) in
    let r = at_inside c.args.name c.args.layer xs c.args.n (h + c.args.inside) w len (omega (arith, c.requires.some))
    (omega (arith, c.if-at-head.false, c.head_len-head.ensures.len)) in
    let same : at - l ≡ at - h = ap (λ k. at - k) (sym c.head_len-head.ensures.len) in
    (omega (arith, r.0, same), r.1 ∙ ap (slice_get xs) same)

pub unreachable-requires : goal.unreachable-requires
unreachable-requires c =
    let l = head_of c.args.name c.args.layer in
    let at = c.args.n % (c.head_len-head.result + c.args.inside) in
    some_there l at (omega (arith, c.if-at-head.true, c.head_len-head.ensures.len)) (sym c.head_at.ensures ∙ c.in-None.is)
