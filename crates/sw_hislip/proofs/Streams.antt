-- Bytes are one list of messages and one rest.
use Rattle.std.proofs.Common.{◌≡◌, ℕ, ◌+◌, ◌<◌, List, [], ◌∷◌, ◌++◌, length, take, drop, Some, refl, sym, ap, ap₂, ◌∙◌, append_assoc, length-append, arith, inl, inr}
use Rattle.std.proofs.Common.{flat_map}
use Rattle.std.specs.List.{AllByRecursion}
use Rattle.sw_hislip.specs.declared.header.Header.{Header}
use Rattle.sw_hislip.specs.declared.message.Message.{Message}
use Rattle.sw_hislip.specs.Wire.{header, wire, header_of, IsWireMessage, HasHeader}
use Rattle.sw_hislip.specs.Pending.{Waits, IsFrontKind}
use Rattle.sw_hislip.specs.Stream.{IsRest, Rests, OneStream}
use Rattle.sw_hislip.proofs.Headers.{same_front, same_header}

-- a message at the front begins with its header
pub message_begins : (bytes : List ℕ) (m : Message) (more : List ℕ) → IsWireMessage m → bytes ≡ wire m ++ more
    → HasHeader bytes (header_of m) (m.payload ++ more)
message_begins bytes m more p e = record { whole = e ∙ append_assoc (header (header_of m)) m.payload more; proper = p }

-- one header stands at the front
pub one_header : (bytes : List ℕ) (h g : Header) (x y : List ℕ) → HasHeader bytes h x → HasHeader bytes g y → (h ≡ g) × (x ≡ y)
one_header bytes h g x y a b = same_header h g x y a.proper b.proper (sym a.whole ∙ b.whole)

-- the kind of the header at the front
pub front_of : (bytes : List ℕ) (h : Header) → HasHeader bytes h (drop 16 bytes) → IsFrontKind bytes (Some h.kind)
front_of bytes h a = record {
  some = (h, drop 16 bytes, a, refl);
  only = λ kind (g, got, b, is). ap (λ (x : Header). Some x.kind) (one_header bytes h g (drop 16 bytes) got a b).0 ∙ ap Some is;
}

-- one message stands at the front
pub one_message : (m n : Message) (x y : List ℕ) → IsWireMessage m → IsWireMessage n → wire m ++ x ≡ wire n ++ y → (m ≡ n) × (x ≡ y)
one_message m n x y p q e =
    let both = one_header (wire m ++ x) (header_of m) (header_of n) (m.payload ++ x) (n.payload ++ y)
    (message_begins (wire m ++ x) m x p refl) (message_begins (wire m ++ x) n y q e) in
    let rest = same_front m.payload n.payload x y (ap (λ (h : Header). h.length) both.0) both.1 in
    (ap₂ (λ (h : Header) (l : List ℕ). record { kind = h.kind; control = h.control; parameter = h.parameter; payload = l }) both.0 rest.0, rest.1)

-- less than a header
pub short_rest : (bytes : List ℕ) (h : Header) (more : List ℕ) → length bytes < 16 → bytes ≡ header h ++ more → ⊥
short_rest bytes h more short e =
    let n : length bytes ≡ 16 + length more = ap length e ∙ length-append (header h) more in
    absurd (omega (arith, short, n))

-- a header, and less than its payload
pub partial_rest : (bytes : List ℕ) (h : Header) (got : List ℕ) → HasHeader bytes h got → length got < h.length → IsRest bytes
partial_rest bytes h got b lacks m more p e =
    let both = one_header bytes h (header_of m) got (m.payload ++ more) b (message_begins bytes m more p e) in
    let n : h.length ≡ length m.payload = ap (λ (g : Header). g.length) both.0 in
    let k : length got ≡ length m.payload + length more = ap length both.1 ∙ length-append m.payload more in
    absurd (omega (arith, lacks, n, k))

pub waits_rest : (bytes : List ℕ) → Waits bytes → IsRest bytes
waits_rest bytes (inl short) m more p e = short_rest bytes (header_of m) (m.payload ++ more) short (e ∙ append_assoc (header (header_of m)) m.payload more)
waits_rest bytes (inr l) m more p e = partial_rest bytes l.h l.got l.begins l.lacks m more p e

pub rests_rest : (bytes : List ℕ) → Rests bytes → IsRest bytes
rests_rest bytes (inl waits) m more p e = waits_rest bytes waits m more p e
rests_rest bytes (inr prologue) m more p e = prologue.wrong (ap (take 2) e)

same_stream : (ms ns : List Message) (rest other : List ℕ) → AllByRecursion IsWireMessage ms → AllByRecursion IsWireMessage ns → IsRest rest → IsRest other
    → flat_map wire ms ++ rest ≡ flat_map wire ns ++ other → (ms ≡ ns) × (rest ≡ other)
same_stream [] [] rest other p q r s e = (refl, e)
same_stream [] (n ∷ ns) rest other p q r s e = absurd (r n (flat_map wire ns ++ other) q.0 (e ∙ append_assoc (wire n) (flat_map wire ns) other))
same_stream (m ∷ ms) [] rest other p q r s e = absurd (s m (flat_map wire ms ++ rest) p.0 (sym e ∙ append_assoc (wire m) (flat_map wire ms) rest))
same_stream (m ∷ ms) (n ∷ ns) rest other p q r s e =
    let f = flat_map wire ms in
    let g = flat_map wire ns in
    let both = one_message m n (f ++ rest) (g ++ other) p.0 q.0 (sym (append_assoc (wire m) f rest) ∙ e ∙ append_assoc (wire n) g other) in
    let more = same_stream ms ns rest other p.1 q.1 r s both.1 in
    (ap₂ (λ (x : Message) (xs : List Message). x ∷ xs) both.0 more.0, more.1)

pub stream_is_one : (bytes : List ℕ) → OneStream bytes
stream_is_one bytes ms ns rest other s t = same_stream ms ns rest other s.each t.each s.partial t.partial (sym s.whole ∙ t.whole)
