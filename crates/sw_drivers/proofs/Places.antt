-- The bytes of a frame, at which those of what is asked stand.
use Rattle.std.proofs.Common.{◌≡◌, ◌<◌, ◌/◌, ◌%◌, ℕ, get_or, refl, ap, sym, ◌∙◌, arith}
use Rattle.sw_drivers.specs.declared.frame.Request.{Request as Asked}
use Rattle.sw_drivers.specs.declared.frame.Request.TheVariants.{Read, Write, Clear}
use Rattle.sw_drivers.specs.declared.frame.Wrapping.TheVariants.{Tcp, Rtu}
use Rattle.sw_drivers.specs.Frames.{IsInRange, asks, frame}
use Rattle.sw_drivers.proofs.Asked.{same_asked}

tcp_0 : (number unit : ℕ) (asked : Asked) → get_or (frame Tcp number unit asked) 7 0 ≡ get_or (asks asked) 0 0
tcp_0 number unit (Read a b) = refl
tcp_0 number unit (Write a b) = refl
tcp_0 number unit (Clear a b) = refl

tcp_1 : (number unit : ℕ) (asked : Asked) → get_or (frame Tcp number unit asked) 8 0 ≡ get_or (asks asked) 1 0
tcp_1 number unit (Read a b) = refl
tcp_1 number unit (Write a b) = refl
tcp_1 number unit (Clear a b) = refl

tcp_2 : (number unit : ℕ) (asked : Asked) → get_or (frame Tcp number unit asked) 9 0 ≡ get_or (asks asked) 2 0
tcp_2 number unit (Read a b) = refl
tcp_2 number unit (Write a b) = refl
tcp_2 number unit (Clear a b) = refl

tcp_3 : (number unit : ℕ) (asked : Asked) → get_or (frame Tcp number unit asked) 10 0 ≡ get_or (asks asked) 3 0
tcp_3 number unit (Read a b) = refl
tcp_3 number unit (Write a b) = refl
tcp_3 number unit (Clear a b) = refl

tcp_4 : (number unit : ℕ) (asked : Asked) → get_or (frame Tcp number unit asked) 11 0 ≡ get_or (asks asked) 4 0
tcp_4 number unit (Read a b) = refl
tcp_4 number unit (Write a b) = refl
tcp_4 number unit (Clear a b) = refl

tcp_head_0 : (number unit : ℕ) (asked : Asked) → get_or (frame Tcp number unit asked) 0 0 ≡ (number / 256) % 256
tcp_head_0 number unit (Read a b) = refl
tcp_head_0 number unit (Write a b) = refl
tcp_head_0 number unit (Clear a b) = refl

tcp_head_1 : (number unit : ℕ) (asked : Asked) → get_or (frame Tcp number unit asked) 1 0 ≡ number % 256
tcp_head_1 number unit (Read a b) = refl
tcp_head_1 number unit (Write a b) = refl
tcp_head_1 number unit (Clear a b) = refl

tcp_head_6 : (number unit : ℕ) (asked : Asked) → get_or (frame Tcp number unit asked) 6 0 ≡ unit
tcp_head_6 number unit (Read a b) = refl
tcp_head_6 number unit (Write a b) = refl
tcp_head_6 number unit (Clear a b) = refl

rtu_0 : (number unit : ℕ) (asked : Asked) → get_or (frame Rtu number unit asked) 1 0 ≡ get_or (asks asked) 0 0
rtu_0 number unit (Read a b) = refl
rtu_0 number unit (Write a b) = refl
rtu_0 number unit (Clear a b) = refl

rtu_1 : (number unit : ℕ) (asked : Asked) → get_or (frame Rtu number unit asked) 2 0 ≡ get_or (asks asked) 1 0
rtu_1 number unit (Read a b) = refl
rtu_1 number unit (Write a b) = refl
rtu_1 number unit (Clear a b) = refl

rtu_2 : (number unit : ℕ) (asked : Asked) → get_or (frame Rtu number unit asked) 3 0 ≡ get_or (asks asked) 2 0
rtu_2 number unit (Read a b) = refl
rtu_2 number unit (Write a b) = refl
rtu_2 number unit (Clear a b) = refl

rtu_3 : (number unit : ℕ) (asked : Asked) → get_or (frame Rtu number unit asked) 4 0 ≡ get_or (asks asked) 3 0
rtu_3 number unit (Read a b) = refl
rtu_3 number unit (Write a b) = refl
rtu_3 number unit (Clear a b) = refl

rtu_4 : (number unit : ℕ) (asked : Asked) → get_or (frame Rtu number unit asked) 5 0 ≡ get_or (asks asked) 4 0
rtu_4 number unit (Read a b) = refl
rtu_4 number unit (Write a b) = refl
rtu_4 number unit (Clear a b) = refl

rtu_head : (number unit : ℕ) (asked : Asked) → get_or (frame Rtu number unit asked) 0 0 ≡ unit
rtu_head number unit (Read a b) = refl
rtu_head number unit (Write a b) = refl
rtu_head number unit (Clear a b) = refl

pub same_tcp : (number other unit second : ℕ) (one two : Asked) → number < 65536 → other < 65536 → IsInRange one → IsInRange two
    → frame Tcp number unit one ≡ frame Tcp other second two → (number ≡ other) × (unit ≡ second) × (one ≡ two)
same_tcp number other unit second one two few fewer r s e =
    let high = sym (tcp_head_0 number unit one) ∙ ap (λ l. get_or l 0 0) e ∙ tcp_head_0 other second two in
    let low = sym (tcp_head_1 number unit one) ∙ ap (λ l. get_or l 1 0) e ∙ tcp_head_1 other second two in (
      omega (arith, few, fewer, high, low),
      sym (tcp_head_6 number unit one) ∙ ap (λ l. get_or l 6 0) e ∙ tcp_head_6 other second two,
      same_asked one two r s
          (sym (tcp_0 number unit one) ∙ ap (λ l. get_or l 7 0) e ∙ tcp_0 other second two)
          (sym (tcp_1 number unit one) ∙ ap (λ l. get_or l 8 0) e ∙ tcp_1 other second two)
          (sym (tcp_2 number unit one) ∙ ap (λ l. get_or l 9 0) e ∙ tcp_2 other second two)
          (sym (tcp_3 number unit one) ∙ ap (λ l. get_or l 10 0) e ∙ tcp_3 other second two)
          (sym (tcp_4 number unit one) ∙ ap (λ l. get_or l 11 0) e ∙ tcp_4 other second two),
    )

pub same_rtu : (number other unit second : ℕ) (one two : Asked) → IsInRange one → IsInRange two
    → frame Rtu number unit one ≡ frame Rtu other second two → (unit ≡ second) × (one ≡ two)
same_rtu number other unit second one two r s e = (
  sym (rtu_head number unit one) ∙ ap (λ l. get_or l 0 0) e ∙ rtu_head other second two,
  same_asked one two r s
      (sym (rtu_0 number unit one) ∙ ap (λ l. get_or l 1 0) e ∙ rtu_0 other second two)
      (sym (rtu_1 number unit one) ∙ ap (λ l. get_or l 2 0) e ∙ rtu_1 other second two)
      (sym (rtu_2 number unit one) ∙ ap (λ l. get_or l 3 0) e ∙ rtu_2 other second two)
      (sym (rtu_3 number unit one) ∙ ap (λ l. get_or l 4 0) e ∙ rtu_3 other second two)
      (sym (rtu_4 number unit one) ∙ ap (λ l. get_or l 5 0) e ∙ rtu_4 other second two),
)
