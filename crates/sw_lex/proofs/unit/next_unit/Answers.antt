use Rattle.std.proofs.Common.{take}
use Rattle.sw_lex.specs.Unit.{heading_of, data_of}
use Rattle.sw_lex.proofs.ShorterLemmas.{unit_rest}
use Rattle.sw_lex.proofs.HeadedLemmas.{heading_bytes, heading_begins}
use Rattle.sw_lex.proofs.WrittenLemmas.{start_leaves}
use Rattle.sw_lex.proofs.unit.next_unit.Goals as goal

pub returns-clause-shorter : goal.returns-clause-shorter
returns-clause-shorter c =
    unit_rest c.args.text.now (record {
      header = heading_of c.in_ok-header.header;
      query = c.query_mark-query.result.0;
      elements = data_of (take c.read_tail.new.found.count c.read_tail.new.found.found);
    }) c.in_ok-left.rest.now (record {
      before = c.gaps.result.0.now;
      start = c.gaps.result.1.now;
      after = c.in_ok-header.rest.now;
      tail = c.query_mark-query.result.1.now;
      skipped = c.gaps.ensures;
      header = c.in_ok-header.ensures.ok;
      asks = c.query_mark-query.ensures;
      follows = c.in_ok-left.ensures.ok;
      few = c.in_ok-left.ensures.few;
    })

pub before-requires : goal.before-requires
before-requires c =
    start_leaves _ _ _ _ _ _ _ c.in_ok-header.ensures.ok c.query_mark-query.ensures c.in_ok-left.ensures.left

pub invariant_of-result : goal.invariant_of-result
invariant_of-result c = record {
  numbers = c.in_ok-header.ensures.words;
  bytes = heading_bytes c.in_ok-header.header c.in_ok-header.ensures.ok.form;
  begins = heading_begins c.in_ok-header.header c.in_ok-header.ensures.ok.form;
}
