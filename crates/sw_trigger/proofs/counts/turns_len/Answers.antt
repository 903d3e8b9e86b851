use Rattle.std.proofs.Common.{◌+◌, ◌*◌, ap, sym, ◌∙◌, arith, length}
use Rattle.sw_trigger.specs.Agenda.{head_of}
use Rattle.sw_trigger.proofs.Awaiting.{length-in_turns, turned}
use Rattle.sw_trigger.proofs.counts.turns_len.Goals as goal

pub overflow_add-result : goal.overflow_add-result
overflow_add-result c = omega
    (arith, (turned c.args.layer.count c.head_len.result c.args.inside c.from.result c.requires.some c.head_len.ensures.small c.from.ensures c.requires.fits).0)

pub overflow_mul-result : goal.overflow_mul-result
overflow_mul-result c = omega
    (arith, (turned c.args.layer.count c.head_len.result c.args.inside c.from.result c.requires.some c.head_len.ensures.small c.from.ensures c.requires.fits).1)

pub returns-clause-len : goal.returns-clause-len
returns-clause-len c = λ xs e.
    sym (length-in_turns c.args.name c.args.layer xs ∙ ap (λ n. c.args.layer.count * (length (head_of c.args.name c.args.layer) + n)) e
    ∙ ap (λ n. c.args.layer.count * (n + c.args.inside)) (sym c.head_len.ensures.len) ∙ ap (λ n. n * (c.head_len.result + c.args.inside)) (sym c.from.ensures))

pub returns-clause-least : goal.returns-clause-least
returns-clause-least c =
    (turned c.args.layer.count c.head_len.result c.args.inside c.from.result c.requires.some c.head_len.ensures.small c.from.ensures c.requires.fits).2

pub returns-clause-most : goal.returns-clause-most
returns-clause-most c =
    (turned c.args.layer.count c.head_len.result c.args.inside c.from.result c.requires.some c.head_len.ensures.small c.from.ensures c.requires.fits).3
