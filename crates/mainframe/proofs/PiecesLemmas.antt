-- Pieces of what a reader has left.
use Rattle.std.proofs.Common.{◌≡◌, ◌∙◌, ℕ, Bool, true, List, [], ◌++◌, Option, None, Some, IfSome, Result, Ok, Err, OnErr, sym, ap, subst}
use Rattle.std.specs.Io.KnownBytes.{Consumes, IsAtEnd}
use Rattle.std.proofs.KnownBytes.{Consumes-trans}
use Rattle.std.proofs.lemmas.List.{append-nil}
use Rattle.mainframe.specs.declared.fault.RunFault.{RunFault}
use Rattle.mainframe.specs.Whole.{TakesPiece, GivesWhole, LosesPart}

pub lost-more : (old mid new : Option (List ℕ)) (kept kept' : List ℕ) (result : Result Bool RunFault) → Consumes old mid kept
    → TakesPiece mid new kept kept' result → LosesPart old new
lost-more old mid new kept kept' result so piece = (kept ++ piece.part, Consumes-trans old mid new kept piece.part so piece.consumed)

pub whole-is : (old new : Option (List ℕ)) (bytes : List ℕ) → Consumes old new bytes → IsAtEnd new → IfSome old (λ whole. bytes ≡ whole)
whole-is None new bytes c e = tt
whole-is (Some xs) None bytes c e = absurd c
whole-is (Some xs) (Some ys) bytes c e = sym (c ∙ ap (λ l. bytes ++ l) e ∙ append-nil bytes)
