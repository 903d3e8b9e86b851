-- The queue: an error is lost only to -350.
use Rattle.std.proofs.Common.{◌≡◌, ℕ, zero, suc, ◌+◌, ◌<◌, ◌≤◌, Some, List, [], ◌∷◌, ◌++◌, length, take, fold, refl, sym, ap, ◌∙◌, arith, inl, inr}
use Rattle.std.proofs.Common.{append_assoc, length-append}
use Rattle.std.specs.Prelude.{slice_get}
use Rattle.std.proofs.lemmas.List.{append-nil, take-append-le, length-take}
use Rattle.std.proofs.lemmas.Bool.{cases_lt, lt-ltb, le-ltb, le-leb, lt-leb}
use Rattle.sw_base.specs.declared.error.ScpiError.{ScpiError}
use Rattle.sw_base.specs.declared.error.ScpiError.TheVariants.{QueueOverflow}
use Rattle.sw_status.specs.StatusModel.{queued}
use Rattle.sw_status.specs.Laws.{LosesOnlyToOverflow, held_of}

pub front_kept : {A : Type 0} (n : ℕ) (xs ys : List A) → n ≤ length xs → take n (take n xs ++ ys) ≡ take n xs
front_kept zero xs ys h = refl
front_kept (suc n) [] ys h = absurd (omega arith)
front_kept (suc n) (x ∷ xs) ys h = let ih = front_kept n xs ys (omega arith) in ap (λ l. x ∷ l) ih

pub next_is : {A : Type 0} (n : ℕ) (xs : List A) (y : A) → n ≤ length xs → slice_get (take n xs ++ y ∷ []) n ≡ Some y
next_is zero xs y h = refl
next_is (suc n) [] y h = absurd (omega arith)
next_is (suc n) (x ∷ xs) y h = next_is n xs y (omega arith)

pub queued-room : (errors : List ScpiError) (e : ScpiError) → length errors < 32 → queued errors e ≡ errors ++ e ∷ []
unfolding queued
queued-room errors e h = rw (lt-ltb (length errors) 32 h) refl

pub queued-full : (errors : List ScpiError) (e : ScpiError) → 32 ≤ length errors → queued errors e ≡ take 31 errors ++ QueueOverflow ∷ []
unfolding queued
queued-full errors e h = rw (le-ltb (length errors) 32 h) refl

pub queued-most : (errors : List ScpiError) (e : ScpiError) → length errors ≤ 32 → length (queued errors e) ≤ 32
queued-most errors e h =
    elim (cases_lt (length errors) 32) [
      | inl room ↦ rw (queued-room errors e room, length-append) (omega arith)
      | inr full ↦ rw (queued-full errors e full, length-append, length-take) (omega arith)
    ]

pub queued-oldest : (errors : List ScpiError) (e : ScpiError) → take 31 (queued errors e) ≡ take 31 (errors ++ e ∷ [])
queued-oldest errors e =
    elim (cases_lt (length errors) 32) [
      | inl room ↦ rw (queued-room errors e room) refl
      | inr full ↦ rw (queued-full errors e full, front_kept 31 errors (QueueOverflow ∷ []) (omega arith), take-append-le 31 errors (e ∷ []) (omega arith)) refl
    ]

pub queued-newest : (errors : List ScpiError) (e : ScpiError) → length errors ≡ 32 → slice_get (queued errors e) 31 ≡ Some QueueOverflow
queued-newest errors e h = rw (queued-full errors e (omega arith)) (next_is 31 errors QueueOverflow (omega arith))

pub lost_only_to_overflow : (errors : List ScpiError) (e : ScpiError) → LosesOnlyToOverflow errors e
lost_only_to_overflow errors e = record {
  oldest = queued-oldest errors e;
  newest = queued-room errors e;
  full = queued-newest errors e;
  most = queued-most errors e;
}

pub held_all : (came : List ScpiError) → length came ≤ 32 → held_of came ≡ came
held_all came h = rw (le-leb (length came) 32 h) refl

pub held_front : (came : List ScpiError) → 32 < length came → held_of came ≡ take 31 came ++ QueueOverflow ∷ []
held_front came h = rw (lt-leb (length came) 32 h) refl

pub queued-held : (came : List ScpiError) (e : ScpiError) → queued (held_of came) e ≡ held_of (came ++ e ∷ [])
queued-held came e =
    let more : length (came ++ e ∷ []) ≡ length came + 1 = length-append came (e ∷ []) in
    elim (cases_lt (length came) 32) [
      | inl room ↦
          rw (held_all came (omega arith), held_all (came ++ e ∷ []) (omega arith)) (queued-room came e room)
      | inr full ↦
          rw (held_front (came ++ e ∷ []) (omega arith), take-append-le 31 came (e ∷ []) (omega arith))
          (elim (cases_lt 32 (length came)) [
            | inl over ↦
                let full : List ScpiError = take 31 came ++ QueueOverflow ∷ [] in
                let z : take 31 full ≡ take 31 came = front_kept 31 came (QueueOverflow ∷ []) (omega arith) in
                rw (held_front came over) (rw (queued-full full e (rw (length-append, length-take) (omega arith)), z) refl)
            | inr exact ↦ rw (held_all came exact) (queued-full came e full)
          ])
    ]

pub fold-held : (came more : List ScpiError) → fold queued (held_of came) more ≡ held_of (came ++ more)
fold-held came [] = ap held_of (sym (append-nil came))
fold-held came (e ∷ more) =
    let joined : (came ++ e ∷ []) ++ more ≡ came ++ (e ∷ more) = append_assoc came (e ∷ []) more in
    rw (queued-held came e) (fold-held (came ++ e ∷ []) more ∙ ap held_of joined)
