-- Lists of calls made one after another, and which of them a fuse turns into a fault (own).
use Rattle.std.specs.Prelude.{◌≡◌, ℕ, ◌+◌, ◌↔◌, Bool, true, false, not, List, [], ◌∷◌, ◌++◌, Option, Some}
use Rattle.std.specs.Prelude.{if◌then◌else◌, Result, Ok, IsErr}
use Rattle.sw_card.specs.declared.board.CardFault.{CardFault}

-- a call of a driver: it drives a channel, on or off, or cuts the supply
pub data DriverCall : Type 0 where
  switch : (ch : ℕ) → (on : Bool) → DriverCall
  cut : DriverCall

-- a call of a driver that was made, and what it answered
abbrev pub Made : Type 0
Made = DriverCall × Result (Unit {0}) CardFault

-- what a call that switches may do to a driver, and what one that cuts, as drivers say it
abbrev pub Switches : Type 0 → Type 1
Switches D = D → ℕ → Bool → Result (Unit {0}) CardFault → D → Type 0

abbrev pub Cuts : Type 0 → Type 1
Cuts D = D → D → Type 0

-- the call closes a channel; opens one; failed
abbrev pub is_closing : Made → Bool
is_closing (switch ch on, answer) = on
is_closing (cut, answer) = false

abbrev pub is_opening : Made → Bool
is_opening (switch ch on, answer) = not on
is_opening (cut, answer) = false

abbrev pub HasFailed : Made → Type 0
HasFailed m = IsErr m.1

-- the driver before a call, the call, the driver after it; a cut answers that it was done
abbrev pub MakesCall : {D : Type 0} → Switches D → Cuts D → D → Made → D → Type 0
MakesCall switches cuts before (switch ch on, answer) after = switches before ch on answer after
MakesCall switches cuts before (cut, answer) after = cuts before after × (answer ≡ Ok tt)

-- what a call, made and answered so, may do to what it is made of
abbrev pub Calls : Type 0 → Type 0 → Type 1
Calls S M = S → M → S → Type 0

-- what is called before these calls, made one after another, and after them
abbrev pub RunsCalls : {S M : Type 0} → Calls S M → S → List M → S → Type 0
RunsCalls does before [] after = before ≡ after
RunsCalls {S} does before (m ∷ made) after = (between : S) × does before m between × RunsCalls does between made after

-- how many of the calls count
abbrev pub count_of : {M : Type 0} → (M → Bool) → List M → ℕ
count_of counts [] = 0
count_of counts (m ∷ made) = (if counts m then 1 else 0) + count_of counts made

-- of the calls that count it is the one with this number, counted from 1, where these were made before it
pub record IsCallNumber {M : Type 0} (counts : M → Bool) (number : Option ℕ) (before : List M) (m : M) : Type 0 where
  pub counts_it : counts m ≡ true
  pub same : number ≡ Some (count_of counts before + 1)

-- The call with this number failed, and any other answered what is behind the fuse may answer.
pub record FailsByNumber {S M : Type 0} (counts : M → Bool) (Failed : M → Type 0) (does : Calls S M)
    (number : Option ℕ) (before : List M) (m : M) : Type 0 where
  pub fails : IsCallNumber counts number before m → Failed m
  pub passes : (IsCallNumber counts number before m → ⊥) → (old new : S) × does old m new

-- So it is with each call of every list of calls that is made through a new fuse, by what the fuse says of its calls.
abbrev pub FailByNumber : {S M : Type 0} → (M → Bool) → (M → Type 0) → Calls (S × Option ℕ) M → Calls S M → Type 0
FailByNumber {S} {M} counts Failed through does =
    (behind : S) (number : Option ℕ) (before after : List M) (m : M) (end : S × Option ℕ)
    → RunsCalls through (behind, number) (before ++ m ∷ after) end
    → FailsByNumber counts Failed does number before m

-- no call may fail
abbrev pub NeverFails : {S M : Type 0} → (M → Type 0) → Calls S M → Type 0
NeverFails {S} {M} Failed does = (old : S) (m : M) (new : S) → does old m new → Failed m → ⊥

-- Of every list of calls that is made through a new fuse a call failed exactly where it is the one with the number.
abbrev pub FailOnlyByNumber : {S M : Type 0} → (M → Bool) → (M → Type 0) → Calls (S × Option ℕ) M → Type 0
FailOnlyByNumber {S} {M} counts Failed through =
    (behind : S) (number : Option ℕ) (before after : List M) (m : M) (end : S × Option ℕ)
    → RunsCalls through (behind, number) (before ++ m ∷ after) end
    → (Failed m ↔ IsCallNumber counts number before m)
