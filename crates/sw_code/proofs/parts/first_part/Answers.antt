use Rattle.std.proofs.Common.{ap, ◌∙◌}
use Rattle.sw_code.specs.Reading.{parts_at}
use Rattle.sw_code.proofs.Listed.{first_of, only_of, some_parts, some_weaker, none_weaker}
use Rattle.sw_code.proofs.parts.first_part.Goals as goal

pub returns-clause-found : goal.returns-clause-found
returns-clause-found c =
    some_weaker c.split_once.result _ _
    (λ x f. ap (parts_at c.args.mark) f.1 ∙ first_of c.args.mark x.0.now x.1.now f.0) c.split_once.ensures.found

pub returns-clause-more : goal.returns-clause-more
returns-clause-more c = some_weaker c.split_once.result _ _ (λ x f. some_parts c.args.mark x.1.now) c.split_once.ensures.found

pub returns-clause-none : goal.returns-clause-none
returns-clause-none c = none_weaker c.split_once.result _ _ (λ f. only_of c.args.mark c.args.bytes.now f) c.split_once.ensures.none
