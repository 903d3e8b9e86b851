use Rattle.sw_history.proofs.BoardMovesLemmas.{begins}
use Rattle.sw_history.proofs.board.BlankBoard.new.Goals as goal

pub of_words-requires : goal.of_words-requires
of_words-requires c = begins c.args.pair c.word_of-word.result c.word_of-word.ensures
