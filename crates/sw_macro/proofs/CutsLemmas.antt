-- A text cut round a unit.
use Rattle.std.proofs.Common.{◌≡◌, ℕ, ◌-◌, ◌≤◌, List, ◌++◌, length, take, drop, sym, ap, ◌∙◌, append_assoc, arith, refl}
use Rattle.std.proofs.lemmas.List.{length-append, take_at, drop_at}
use Rattle.sw_base.specs.Text.{Spans}
use Rattle.sw_base.proofs.Runs.{one_span}
use Rattle.sw_lex.specs.Unit.{UnitSeen, IsWritten, is_gap}

cut_front : (text front start : List ℕ) (n : ℕ) → text ≡ front ++ start → n ≡ length text - length start → (take n text ≡ front) × (drop n text ≡ start)
cut_front text front start n e h =
    let k : length front ≡ n = omega (arith, ap (λ (t : List ℕ). length t) e, length-append front start, h) in
    (rw e (take_at front start n k), rw e (drop_at front start n k))

-- what stands before the unit, and what follows that
pub cut_at : (text front rest gap start before w left : List ℕ) (u : UnitSeen) → text ≡ front ++ rest → Spans is_gap rest gap start
    → IsWritten rest before u w left
    → (take (length text - length start) text ≡ front ++ before) × (drop (length text - length start) text ≡ start) × (start ≡ w ++ left)
cut_at text front rest gap start before w left u e s k =
    let r = one_span is_gap rest gap start before k.start s k.skipped in
    let whole : text ≡ (front ++ before) ++ start =
    e ∙ ap (λ (t : List ℕ). front ++ t) (s.whole ∙ ap (λ (t : List ℕ). t ++ start) r.0) ∙ sym (append_assoc front before start) in
    let c = cut_front text (front ++ before) start (length text - length start) whole refl in
    (c.0, c.1, r.1 ∙ k.whole)

pub written_within : (here w left : List ℕ) → here ≡ w ++ left → length w ≤ length here
written_within here w left e = omega (arith, ap (λ (t : List ℕ). length t) e, length-append w left)

pub left_is : (here w left : List ℕ) → here ≡ w ++ left → drop (length w) here ≡ left
left_is here w left e = rw e (drop_at w left (length w) refl)
