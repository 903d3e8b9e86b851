-- The checksum of Modbus RTU (MODBUS over Serial Line, 6.2.2): the polynomial 0xA001 in reflected form, from 0xFFFF.
use Rattle.std.specs.Prelude.{ℕ, ◌/◌, ◌%◌, ◌==◌, List, [], ◌∷◌, bit_xor, if◌then◌else◌}

abbrev pub after_bit : ℕ → ℕ
after_bit sum = if sum % 2 == 1 then bit_xor (sum / 2) 40961 else sum / 2

-- after the eight bits of a byte
abbrev pub after_byte : ℕ → ℕ → ℕ
after_byte sum byte =
    after_bit (after_bit (after_bit (after_bit (after_bit (after_bit (after_bit (after_bit (bit_xor sum byte))))))))

abbrev pub sum_after : ℕ → List ℕ → ℕ
sum_after sum [] = sum
sum_after sum (byte ∷ bytes) = sum_after (after_byte sum byte) bytes

abbrev pub crc_of : List ℕ → ℕ
crc_of bytes = sum_after 65535 bytes
