use Rattle.std.proofs.Common.{arith}
use Rattle.sw_lex.proofs.HeadedLemmas.{append_none, append_more}
use Rattle.sw_lex.proofs.packing.Words.append.Goals as goal

pub loop-word-init : goal.loop-word-init
loop-word-init c = append_none c.args.self.now.kept c.args.self.now.count c.args.self.now.whole c.args.self.now.few

pub loop-word-preserved : goal.loop-word-preserved
loop-word-preserved c =
    append_more _ _ _ c.args.words.now c.loop-word.word-index (omega arith) c.loop-word.invariant c.push.ensures
