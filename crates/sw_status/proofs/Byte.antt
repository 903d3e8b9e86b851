-- The bits of the status byte.
use Rattle.std.proofs.Common.{◌≡◌, ℕ, ◌+◌, Bool, true, false, not, ◌&&◌, refl, sym, ◌∙◌}
use Rattle.std.specs.Prelude.{nat_lt, length}
use Rattle.std.specs.Int.Bits.{and_zero_r}
use Rattle.std.proofs.lemmas.Bool.{and_parts}
use Rattle.sw_status.specs.Registers.{has_bit, share_bit, group_summary}
use Rattle.sw_status.specs.StatusModel.{StatusSeen, flag_of, summary_of, byte_of}
use Rattle.sw_status.specs.Laws.{TellsEachBit}

-- a test that passes at both values passes
each : (Bool → Bool) → Bool
each test = test true && test false

each-at : (test : Bool → Bool) → each test ≡ true → (b : Bool) → test b ≡ true
unfolding each
each-at test e true = (and_parts (test true) (test false) e).0
each-at test e false = (and_parts (test true) (test false) e).1

same : Bool → Bool → Bool
same true b = b
same false b = not b

same-true : (a b : Bool) → same a b ≡ true → a ≡ b
unfolding same
same-true true true e = refl
same-true true false e = sym e
same-true false true e = e
same-true false false e = refl

-- the byte of these bits
abbrev word : Bool → Bool → Bool → Bool → Bool → Bool → ℕ
word q u e o m s = flag_of 2 q + flag_of 3 u + flag_of 5 e + flag_of 7 o + flag_of 4 m + flag_of 6 s

-- whether a bit of it is that one, at each choice of the bits
tells : (k : ℕ) → (Bool → Bool → Bool → Bool → Bool → Bool → Bool) → Bool
tells k bit = each (λ q. each (λ u. each (λ e. each (λ o. each (λ m. each (λ s. same (has_bit (word q u e o m s) k) (bit q u e o m s)))))))

tells-at : (k : ℕ) (bit : Bool → Bool → Bool → Bool → Bool → Bool → Bool) → tells k bit ≡ true → (q u e o m s : Bool)
    → has_bit (word q u e o m s) k ≡ bit q u e o m s
unfolding tells
tells-at k bit t q u e o m s =
    same-true (has_bit (word q u e o m s) k) (bit q u e o m s)
    (each-at (λ s. same (has_bit (word q u e o m s) k) (bit q u e o m s))
    (each-at (λ m. each (λ s. same (has_bit (word q u e o m s) k) (bit q u e o m s)))
    (each-at (λ o. each (λ m. each (λ s. same (has_bit (word q u e o m s) k) (bit q u e o m s))))
    (each-at (λ e. each (λ o. each (λ m. each (λ s. same (has_bit (word q u e o m s) k) (bit q u e o m s)))))
    (each-at (λ u. each (λ e. each (λ o. each (λ m. each (λ s. same (has_bit (word q u e o m s) k) (bit q u e o m s))))))
    (each-at (λ q. each (λ u. each (λ e. each (λ o. each (λ m. each (λ s. same (has_bit (word q u e o m s) k) (bit q u e o m s))))))) t q)
    u) e) o) m) s)

bit_at_0 : (q u e o m s : Bool) → has_bit (word q u e o m s) 0 ≡ false
unfolding tells each same
bit_at_0 = tells-at 0 (λ q u e o m s. false) refl

bit_at_1 : (q u e o m s : Bool) → has_bit (word q u e o m s) 1 ≡ false
unfolding tells each same
bit_at_1 = tells-at 1 (λ q u e o m s. false) refl

bit_at_2 : (q u e o m s : Bool) → has_bit (word q u e o m s) 2 ≡ q
unfolding tells each same
bit_at_2 = tells-at 2 (λ q u e o m s. q) refl

bit_at_3 : (q u e o m s : Bool) → has_bit (word q u e o m s) 3 ≡ u
unfolding tells each same
bit_at_3 = tells-at 3 (λ q u e o m s. u) refl

bit_at_4 : (q u e o m s : Bool) → has_bit (word q u e o m s) 4 ≡ m
unfolding tells each same
bit_at_4 = tells-at 4 (λ q u e o m s. m) refl

bit_at_5 : (q u e o m s : Bool) → has_bit (word q u e o m s) 5 ≡ e
unfolding tells each same
bit_at_5 = tells-at 5 (λ q u e o m s. e) refl

bit_at_6 : (q u e o m s : Bool) → has_bit (word q u e o m s) 6 ≡ s
unfolding tells each same
bit_at_6 = tells-at 6 (λ q u e o m s. s) refl

bit_at_7 : (q u e o m s : Bool) → has_bit (word q u e o m s) 7 ≡ o
unfolding tells each same
bit_at_7 = tells-at 7 (λ q u e o m s. o) refl

pub tells_each_bit : (s : StatusSeen) (mav : Bool) → TellsEachBit s mav
unfolding byte_of summary_of
tells_each_bit s mav =
    let q : Bool = nat_lt 0 (length s.errors) in
    let u : Bool = group_summary s.questionable in
    let e : Bool = share_bit s.esr s.ese in
    let o : Bool = group_summary s.operation in
    let on : Bool = share_bit (summary_of s + flag_of 4 mav) s.sre in
    record {
      unused_0 = bit_at_0 q u e o mav on;
      unused_1 = bit_at_1 q u e o mav on;
      queue = bit_at_2 q u e o mav on;
      questionable = bit_at_3 q u e o mav on;
      message_available = bit_at_4 q u e o mav on;
      standard_event = bit_at_5 q u e o mav on;
      operation = bit_at_7 q u e o mav on;
      nothing_enabled = λ none. bit_at_6 q u e o mav on ∙ (rw (none, and_zero_r) refl);
    }
