use Rattle.std.proofs.Common.{◌↔◌, ℕ, Bool, drop}
use Rattle.sw_lex.specs.declared.table.HeaderMeaning.{HeaderMeaning}
use Rattle.sw_lex.specs.Packed.{RowNumbers}
use Rattle.sw_lex.proofs.headers.below.Given as goal

abbrev pub invariant-loop-row : goal.invariant-loop-row
invariant-loop-row l = (query : Bool) (key : HeaderMeaning) (k : ℕ)
    → RowNumbers l.rows l.words query key k ↔ RowNumbers (drop l.row-index l.rows) l.words query key k
