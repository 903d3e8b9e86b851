use Rattle.std.proofs.Common.{◌↔◌, ℕ, Bool, drop}
use Rattle.sw_lex.specs.declared.table.HeaderMeaning.{HeaderMeaning}
use Rattle.sw_lex.specs.Packed.{GroupNumbers}
use Rattle.sw_lex.proofs.headers.matching.Given as goal

abbrev pub invariant-loop-group : goal.invariant-loop-group
invariant-loop-group l = (query : Bool) (key : HeaderMeaning) (k : ℕ)
    → GroupNumbers l.groups l.word l.words query key k ↔ GroupNumbers (drop l.group-index l.groups) l.word l.words query key k
