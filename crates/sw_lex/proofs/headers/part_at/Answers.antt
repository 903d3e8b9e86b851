use Rattle.std.proofs.Common.{true, false, refl}
use Rattle.sw_lex.specs.Rows.{entries_of}
use Rattle.sw_lex.proofs.PartsLemmas.{no_paths, no_word}
use Rattle.sw_lex.proofs.headers.part_at.Goals as goal

pub returns-in-empty : goal.returns-in-empty
unfolding entries_of
returns-in-empty c =
    rw (no_word c.args.word.now c.in-empty.len_below) (no_paths 0 refl false, no_paths 0 refl true, refl, refl)
