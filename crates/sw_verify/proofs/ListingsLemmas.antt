-- What is said of a code that is refused.
use Rattle.std.proofs.Common.{◌≡◌, ◌≢◌, ℕ, Bool, true, false, List, Result, Ok, Err, IfOk, inl, sym, subst}
use Rattle.std.proofs.lemmas.Bool.{both_ways}
use Rattle.sw_base.specs.Layout.{Layout, Channel}
use Rattle.sw_code.specs.Range.{Program}
use Rattle.sw_code.specs.Reading.{code_in}
use Rattle.sw_verify.specs.declared.refusal.Refusal.{Refusal}
use Rattle.sw_verify.specs.declared.refusal.Refusal.TheVariants.{NoMemory}
use Rattle.sw_verify.specs.Channels.{is_among}
use Rattle.sw_verify.specs.Denied.{IsDenied}
use Rattle.sw_verify.specs.Listings.{refused_line, Says}

pub said_refused : {J F : Type 0} (accepted : J → Bool) (line : J → List ℕ) (result : Result J F) (layout : Layout) (closed : List Channel) (room : ℕ)
    (text : List ℕ) (code : Program) (r : Refusal) → code_in text ≡ Ok code → IsDenied layout (is_among closed) room code r → r ≢ NoMemory
    → IfOk result (λ j. line j ≡ refused_line r) → IfOk result (λ j. accepted j ≡ false)
    → IfOk result (λ j. Says layout closed room (accepted j) text (line j))
said_refused accepted line (Ok j) layout closed room text code r listed denied named told declined =
    subst (λ (a : Bool). Says layout closed room a text (line j)) (sym declined)
    (inl (record {
      code = code;
      listed = listed;
      cause = r;
      denied = denied;
      named = named;
      told = told;
    }))
said_refused accepted line (Err fault) layout closed room text code r listed denied named told declined = tt

-- of what is not accepted, whatever follows where it is
pub none_accepted : {J F : Type 0} (accepted : J → Bool) (Then : J → Type 0) (result : Result J F) → IfOk result (λ j. accepted j ≡ false)
    → IfOk result (λ j. accepted j ≡ true → Then j)
none_accepted accepted Then (Ok j) declined = λ e. absurd (both_ways (accepted j) declined e)
none_accepted accepted Then (Err fault) declined = tt
