use Rattle.std.proofs.Common.{List, Bool, sym, subst}
use Rattle.sw_verify.specs.Channels.{none, is_among}
use Rattle.sw_verify.specs.Ledger.{Shows}
use Rattle.sw_verify.proofs.Ledgers.{shows_start}
use Rattle.sw_verify.proofs.ledger.Ledger.begin.Goals as goal

pub returns : goal.returns
returns c =
    subst (λ (row : List Bool). Shows c.args.layout.now (is_among c.args.closed.now) (is_among c.args.closed.now) none (record {
      found = c.channel_marks.new.marks;
      mine = row;
      groups = c.group_marks.new.marks;
    })) (sym c.new-self.ensures)
    (shows_start c.args.layout.now c.args.closed.now c.channel_marks.new.marks c.group_marks.new.marks
    c.channel_marks.ensures.size c.group_marks.ensures.size c.channel_marks.ensures.marks c.group_marks.ensures.marks)
