-- An event counts one service request at most.
use Rattle.std.proofs.Common.{◌≡◌, ℕ, ◌+◌, ◌-◌, ◌^◌, ◌<◌, ◌≤◌, Bool, true, false, not, ◌&&◌, ◌↔◌, refl, sym, ap, ◌∙◌, arith, inl, inr}
use Rattle.std.specs.Prelude.{◌==◌, if◌then◌else◌}
use Rattle.std.proofs.lemmas.Bool.{cases_Bool, and_parts, and_from, not-true, not_from_false, eqb-false, ne_eqb}
use Rattle.sw_status.specs.Registers.{has_bit, register}
use Rattle.sw_status.specs.StatusModel.{StatusSeen, arises, raised, counted_of, asking_of, summary_of, event_ended, IsSettled, first_status}
use Rattle.sw_status.specs.Laws.{NewlyAsks, CountsOnce}
use Rattle.sw_status.proofs.Bits.{register-none, register-some, register-bit}

pub arises-asks : (before now : ℕ) → arises before now ≡ true → NewlyAsks before now
unfolding arises
arises-asks before now h =
    let test : ℕ → Bool = λ k. has_bit now k && not (has_bit before k) in
    let some = register-some 8 test (eqb-false (register 8 test) 0 (not-true (register 8 test == 0) h)) in
    let both = and_parts (has_bit now some.0) (not (has_bit before some.0)) some.2 in
    (some.0, some.1, both.0, not-true (has_bit before some.0) both.1)

pub asks-arises : (before now : ℕ) → NewlyAsks before now → arises before now ≡ true
unfolding arises
asks-arises before now asks =
    let test : ℕ → Bool = λ k. has_bit now k && not (has_bit before k) in
    let on : test asks.0 ≡ true = and_from (has_bit now asks.0) (not (has_bit before asks.0)) asks.2 (not_from_false (has_bit before asks.0) asks.3) in
    not_from_false (register 8 test == 0) (ne_eqb (register 8 test) 0 (register-bit 8 test asks.0 asks.1 on))

pub arises-same : (now : ℕ) → arises now now ≡ false
unfolding arises
arises-same now =
    let test : ℕ → Bool = λ k. has_bit now k && not (has_bit now k) in
    let none : register 8 test ≡ 0 = register-none 8 test (λ k h. elim (cases_Bool (has_bit now k)) [ inl e ↦ rw e refl | inr e ↦ rw e refl ]) in
    rw none refl

-- where no other bits ask for service than before, an event changes nothing
pub ended-same : (s : StatusSeen) → asking_of s ≡ s.asking → event_ended s ≡ s
ended-same s e =
    ap (λ (a : ℕ). record s { asking = a; requests = counted_of s.requests s.asking a }) e
    ∙ ap (λ (b : Bool). record s { requests = if b then raised s.requests else s.requests }) (arises-same s.asking)

pub counted-most : (n before now : ℕ) → counted_of n before now ≤ n + 1
counted-most n before now = elim (cases_Bool (arises before now)) [ inl e ↦ rw e (omega arith) | inr e ↦ rw e (omega arith) ]

pub counted-least : (n before now : ℕ) → n < 2 ^ 56 → n ≤ counted_of n before now
counted-least n before now h = elim (cases_Bool (arises before now)) [ inl e ↦ rw e (omega arith) | inr e ↦ rw e (omega arith) ]

pub counted-stays : (n before now : ℕ) → n ≡ 2 ^ 56 - 1 → counted_of n before now ≡ 2 ^ 56 - 1
counted-stays n before now h = elim (cases_Bool (arises before now)) [ inl e ↦ rw e (omega arith) | inr e ↦ rw e h ]

pub counted-rises : (n before now : ℕ) → n < 2 ^ 56 - 1 → (counted_of n before now ≡ n + 1) ↔ NewlyAsks before now
counted-rises n before now h =
    elim (cases_Bool (arises before now)) [
      | inl e ↦ (λ _. arises-asks before now e, λ _. rw e (omega arith))
      | inr e ↦ (
        λ rose. absurd (let z : n ≡ n + 1 = rw e at rose in omega arith),
        λ asks. absurd (let z : true ≡ false = sym (asks-arises before now asks) ∙ e in cc),
      )
    ]

-- an event that ended leaves nothing open, and nor does the start
pub settled-ended : (s : StatusSeen) → IsSettled (event_ended s)
unfolding summary_of
settled-ended s = refl

pub settled-first : IsSettled first_status
unfolding summary_of
settled-first = refl

pub counted-range : (n before now : ℕ) → n < 2 ^ 56 → counted_of n before now < 2 ^ 56
counted-range n before now h = elim (cases_Bool (arises before now)) [ inl e ↦ rw e (omega arith) | inr e ↦ rw e (omega arith) ]

pub counts_once : (s : StatusSeen) → CountsOnce s
unfolding summary_of
counts_once s = record {
  most = counted-most s.requests s.asking (asking_of s);
  never_falls = counted-least s.requests s.asking (asking_of s);
  rises = counted-rises s.requests s.asking (asking_of s);
  stays = counted-stays s.requests s.asking (asking_of s);
  once =
      let t = event_ended s in
      ap (λ (b : Bool). record t { requests = if b then raised t.requests else t.requests }) (arises-same (asking_of s));
  settled = settled-ended s;
}
