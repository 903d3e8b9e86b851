use Rattle.std.proofs.Common.{◌∙◌}
use Rattle.sw_macro.proofs.LabelsLemmas.{words_test}
use Rattle.sw_macro.proofs.label.all_words.Goals as goal

pub returns : goal.returns
returns c = c.is_empty.ensures ∙ words_test _ _ _ c.words.ensures
