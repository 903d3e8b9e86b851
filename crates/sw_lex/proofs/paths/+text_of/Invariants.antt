use Rattle.sw_lex.proofs.paths.+text_of.Given as goal

abbrev pub decreases-text_of : goal.decreases-text_of
decreases-text_of l = l.most
