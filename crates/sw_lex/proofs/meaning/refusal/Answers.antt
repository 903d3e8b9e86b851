use Rattle.std.proofs.Common.{inl, inr, refl}
use Rattle.sw_lex.proofs.NodesLemmas.{plain_of}
use Rattle.sw_lex.proofs.meaning.refusal.Goals as goal

pub returns-in-None : goal.returns-in-None
returns-in-None c = inr (rw (plain_of _ _ c.unnumbered_all-plain.ensures) at (rw c.as_slice.ensures.value at c.in-None.ensures.none), refl)

pub returns-in-Some : goal.returns-in-Some
returns-in-Some c = inl (_, _, rw (plain_of _ _ c.unnumbered_all-plain.ensures) at (rw c.as_slice.ensures.value at c.in-Some.ensures.some), refl)
