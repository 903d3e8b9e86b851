-- A header that is read is the header that was written, and bytes begin with one header.
use Rattle.std.proofs.Common.{◌≡◌, ℕ, ◌+◌, ◌^◌, ◌<◌, ◌≤◌, List, [], ◌∷◌, ◌++◌, length, get_or, take, drop, refl, sym, ap, ap₂, ◌∙◌, append_assoc, arith, inl}
use Rattle.std.proofs.Common.{inr}
use Rattle.std.specs.Int.{w32, w64, from_be_bytes, to_be_bytes}
use Rattle.std.proofs.lemmas.List.{take-append-drop, drop-drop, length-take, length-drop, get_or-drop, get_or-take, get_or_past}
use Rattle.std.proofs.lemmas.Bool.{cases_lt}
use Rattle.std.proofs.lemmas.Nat.{be_bytes_4, be_bytes_8, from_be_bytes-to_be_bytes_4, from_be_bytes-to_be_bytes_8}
use Rattle.sw_hislip.specs.declared.header.Header.{Header}
use Rattle.sw_hislip.specs.declared.kind.Kind.{Kind}
use Rattle.sw_hislip.specs.Kinds.{kind_number, IsKind}
use Rattle.sw_hislip.specs.Wire.{header, IsHeader, HasHeader}
use Rattle.sw_hislip.proofs.KindNumbers.{kind_same}

-- what follows the first four bytes: a parameter, a length, and the rest
numbers : (rest : List ℕ) → rest ≡ (take 4 rest ++ take 8 (drop 4 rest)) ++ drop 12 rest
numbers rest = sym (
    append_assoc (take 4 rest) (take 8 (drop 4 rest)) (drop 12 rest)
    ∙ ap (λ l. take 4 rest ++ (take 8 (drop 4 rest) ++ l)) (sym (drop-drop 8 4 rest))
    ∙ ap (λ l. take 4 rest ++ l) (take-append-drop 8 (drop 4 rest))
    ∙ take-append-drop 4 rest)

-- 16 bytes by their fields
pub fields : (bytes ps ls : List ℕ) (k : ℕ) → 16 ≤ length bytes → get_or bytes 0 0 ≡ 0x48 → get_or bytes 1 0 ≡ 0x53 → k ≡ get_or bytes 2 0
    → ps ≡ take 4 (drop 4 bytes) → ls ≡ take 8 (drop 8 bytes)
    → bytes ≡ (0x48 ∷ 0x53 ∷ k ∷ get_or bytes 3 0 ∷ (ps ++ ls)) ++ drop 16 bytes
fields [] ps ls k h e0 e1 e2 p l = absurd (omega (arith, h))
fields (a ∷ []) ps ls k h e0 e1 e2 p l = absurd (omega (arith, h))
fields (a ∷ b ∷ []) ps ls k h e0 e1 e2 p l = absurd (omega (arith, h))
fields (a ∷ b ∷ c ∷ []) ps ls k h e0 e1 e2 p l = absurd (omega (arith, h))
fields (a ∷ b ∷ c ∷ d ∷ rest) ps ls k h e0 e1 e2 p l =
    let there = numbers rest ∙ ap₂ (λ (x y : List ℕ). (x ++ y) ++ drop 12 rest) (sym p) (sym l) in
    ap (λ (x : List ℕ). a ∷ b ∷ c ∷ d ∷ x) there
    ∙ ap (λ (x : ℕ). x ∷ b ∷ c ∷ d ∷ ((ps ++ ls) ++ drop 12 rest)) e0
    ∙ ap (λ (x : ℕ). 0x48 ∷ x ∷ c ∷ d ∷ ((ps ++ ls) ++ drop 12 rest)) e1
    ∙ ap (λ (x : ℕ). 0x48 ∷ 0x53 ∷ x ∷ d ∷ ((ps ++ ls) ++ drop 12 rest)) (sym e2)

-- fronts of one length
pub same_front : (xs ys us vs : List ℕ) → length xs ≡ length ys → xs ++ us ≡ ys ++ vs → (xs ≡ ys) × (us ≡ vs)
same_front [] [] us vs h e = (refl, e)
same_front [] (y ∷ ys) us vs h e = absurd (omega (arith, h))
same_front (x ∷ xs) [] us vs h e = absurd (omega (arith, h))
same_front (x ∷ xs) (y ∷ ys) us vs h e =
    let ih = same_front xs ys us vs (omega (arith, h)) (ap (λ (l : List ℕ). drop 1 l) e) in
    (ap₂ (λ (a : ℕ) (l : List ℕ). a ∷ l) (ap (λ (l : List ℕ). get_or l 0 0) e) ih.0, ih.1)

same_parameter : (a b : ℕ) → a < 2 ^ 32 → b < 2 ^ 32 → to_be_bytes w32 a ≡ to_be_bytes w32 b → a ≡ b
same_parameter a b p q e = sym (from_be_bytes-to_be_bytes_4 a p) ∙ ap (from_be_bytes w32) e ∙ from_be_bytes-to_be_bytes_4 b q

same_length : (a b : ℕ) → a < 2 ^ 64 → b < 2 ^ 64 → to_be_bytes w64 a ≡ to_be_bytes w64 b → a ≡ b
same_length a b p q e = sym (from_be_bytes-to_be_bytes_8 a p) ∙ ap (from_be_bytes w64) e ∙ from_be_bytes-to_be_bytes_8 b q

pub header_length : (h : Header) → length (header h) ≡ 16
header_length h = refl

same_fields : (h g : Header) → h.kind ≡ g.kind → h.control ≡ g.control → h.parameter ≡ g.parameter → h.length ≡ g.length → h ≡ g
same_fields h g k c p l =
    ap (λ x. record { kind = x; control = h.control; parameter = h.parameter; length = h.length }) k
    ∙ ap (λ x. record { kind = g.kind; control = x; parameter = h.parameter; length = h.length }) c
    ∙ ap (λ x. record { kind = g.kind; control = g.control; parameter = x; length = h.length }) p
    ∙ ap (λ x. record { kind = g.kind; control = g.control; parameter = g.parameter; length = x }) l

-- bytes begin with one header
pub same_header : (h g : Header) (x y : List ℕ) → IsHeader h → IsHeader g → header h ++ x ≡ header g ++ y → (h ≡ g) × (x ≡ y)
same_header h g x y p q e =
    let both = same_front (header h) (header g) x y refl e in
    let kind = kind_same h.kind g.kind p.kind q.kind (ap (λ (l : List ℕ). get_or l 2 0) both.0) in
    let control : h.control ≡ g.control = ap (λ (l : List ℕ). get_or l 3 0) both.0 in
    let parameter = same_parameter h.parameter g.parameter p.parameter q.parameter (ap (λ (l : List ℕ). take 4 (drop 4 l)) both.0) in
    let long = same_length h.length g.length p.length q.length (ap (λ (l : List ℕ). drop 8 l) both.0) in
    (same_fields h g kind control parameter long, both.1)

-- a piece of bytes is of bytes
pub piece_bytes : (bytes : List ℕ) (m n : ℕ) → ((i : ℕ) → get_or bytes i 0 < 256) → (i : ℕ) → get_or (take n (drop m bytes)) i 0 < 256
piece_bytes bytes m n h i =
    elim (cases_lt i n) [
      | inl lt ↦ rw (get_or-take n (drop m bytes) i 0 lt, get_or-drop m bytes i 0) (h (m + i))
      | inr le ↦ rw (get_or_past (take n (drop m bytes)) i 0 (omega (arith, le, length-take n (drop m bytes)))) (omega arith)
    ]

-- the fields that are read of 16 bytes are those of their header
pub read_is : (bytes ps ls : List ℕ) (kind : Kind) (parameter size : ℕ) → ((i : ℕ) → get_or bytes i 0 < 256) → IsKind kind → kind_number kind ≡ get_or bytes 2 0
    → 16 ≤ length bytes → get_or bytes 0 0 ≡ 0x48 → get_or bytes 1 0 ≡ 0x53 → ps ≡ take 4 (drop 4 bytes) → ls ≡ take 8 (drop 8 bytes)
    → parameter ≡ from_be_bytes w32 ps → size ≡ from_be_bytes w64 ls → parameter < 2 ^ 32 → size < 2 ^ 64
    → HasHeader bytes (record { kind = kind; control = get_or bytes 3 0; parameter = parameter; length = size }) (drop 16 bytes)
read_is bytes ps ls kind parameter size each proper k long e0 e1 p l pe le pb lb =
    let four : length (take 4 (drop 4 bytes)) ≡ 4 = rw (length-take, length-drop) (omega (arith, long)) in
    let eight : length (take 8 (drop 8 bytes)) ≡ 8 = rw (length-take, length-drop) (omega (arith, long)) in
    let ps_is = be_bytes_4 (take 4 (drop 4 bytes)) parameter four (piece_bytes bytes 4 4 each) (pe ∙ ap (from_be_bytes w32) p) in
    let ls_is = be_bytes_8 (take 8 (drop 8 bytes)) size eight (piece_bytes bytes 8 8 each) (le ∙ ap (from_be_bytes w64) l) in
    record {
      whole = fields bytes (to_be_bytes w32 parameter) (to_be_bytes w64 size) (kind_number kind) long e0 e1 k ps_is ls_is;
      proper = record { kind = proper; control = each 3; parameter = pb; length = lb };
    }
