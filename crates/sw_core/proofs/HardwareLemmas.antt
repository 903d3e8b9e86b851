-- A query of hardware that is there is answered by its text.
use Rattle.std.proofs.Common.{◌≡◌, ℕ, Bool, true, false, List, [], ◌∷◌, length, Some, refl, sym, subst, ap, ◌∙◌, arith}
use Rattle.std.specs.Prelude.{slice_index_or}
use Rattle.sw_base.specs.Layout.{Channel}
use Rattle.sw_cage.specs.Accounts.{is_closed}
use Rattle.sw_core.specs.declared.ask.SessionAnswer.{SessionAnswer}
use Rattle.sw_core.specs.declared.ask.SessionAnswer.TheVariants.{Done}
use Rattle.sw_core.specs.Answers.{yes_or_no, as_asked}
use Rattle.sw_core.specs.Action.{flags_text}
use Rattle.sw_core.specs.Panel.{Panel}
use Rattle.sw_core.specs.Step.{StepHardware}

pub told_hardware : (p : Panel) (there : Bool) (text t : List ℕ) (a : SessionAnswer) → there ≡ true → t ≡ text → a ≡ Done (Some t)
    → StepHardware p there text false a p
told_hardware p there text t a is e told = subst (λ (x : SessionAnswer). StepHardware p there text false x p) (sym told) (refl, is, e, refl)

alone : (xs : List Channel) (d : Channel) → length xs ≡ 1 → slice_index_or xs 0 d ∷ [] ≡ xs
alone [] d e = absurd (omega (arith, e))
alone (x ∷ []) d e = refl
alone (x ∷ y ∷ xs) d e = absurd (omega (arith, e))

-- the flag of the one channel of a list
pub one_flag : (closed : Bool) (chan d : Channel) (chans : List Channel) (p : Panel) (t : List ℕ) → length chans ≡ 1
    → chan ≡ slice_index_or chans 0 d → t ≡ yes_or_no (as_asked closed (is_closed p.cage.cards chan)) → t ≡ flags_text closed chans p
one_flag closed chan d chans p t one is told =
    told ∙ ap (λ (c : Channel). flags_text closed (c ∷ []) p) is ∙ ap (λ (cs : List Channel). flags_text closed cs p) (alone chans d one)
