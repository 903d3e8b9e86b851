use Rattle.std.proofs.Common.{◌≡◌, ◌++◌, take}
use Rattle.sw_lex.proofs.packing.Words.append.Given as goal

abbrev pub invariant-loop-word : goal.invariant-loop-word
invariant-loop-word l = take l.self.count l.self.kept ≡ take 5 (take l.fn.self.count l.fn.self.kept ++ take l.word-index l.words)
