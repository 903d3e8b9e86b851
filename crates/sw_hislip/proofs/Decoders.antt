-- What a decoder has not taken, after a message was taken or skipped.
use Rattle.std.proofs.Common.{refl}
use Rattle.std.proofs.Common.{◌≡◌, ℕ, zero, suc, ◌+◌, ◌-◌, ◌<◌, ◌≤◌, List, ◌++◌, length, take, drop, sym, ap, ◌∙◌, append_assoc, arith, subst, Option, Some, Ok}
use Rattle.std.proofs.lemmas.List.{take-append-drop, drop-drop, length-take-le}
use Rattle.sw_hislip.specs.declared.header.Header.{Header}
use Rattle.sw_hislip.specs.declared.message.Message.{Message}
use Rattle.sw_hislip.specs.Wire.{header, header_of, HasHeader}
use Rattle.sw_hislip.specs.Pending.{Pending, longest_payload, HasMessage, ReadsHeader, without_front, skipping}

-- a payload that is there as a whole
pub skipped_all : (p : Pending) (size : ℕ) → size ≤ length (drop 16 p.bytes) → p.skip ≡ 0 → without_front p (16 + size) ≡ skipping (drop 16 p.bytes) size
skipped_all p size there none =
    let left : p.skip ≡ size - length (drop 16 p.bytes) = omega (arith, there, none) in
    ap (λ (n : ℕ). record { bytes = drop (16 + size) p.bytes; skip = n }) left
    ∙ ap (λ (b : List ℕ). record { bytes = b; skip = size - length (drop 16 p.bytes) }) (sym (drop-drop size 16 p.bytes))

-- nothing is skipped where a header is there
pub idle : (skip kept unread : ℕ) → (0 < skip → kept ≡ 0) → 16 ≤ unread → unread ≤ kept → skip ≡ 0
idle zero kept unread empty long there = refl
idle (suc n) kept unread empty long there =
    let none : kept ≡ 0 = empty (omega arith) in
    absurd (omega (arith, none, long, there))

abbrev pub message_of : Header → List ℕ → Message
message_of h payload = record { kind = h.kind; control = h.control; parameter = h.parameter; payload = payload }

with_length : (h : Header) (payload : List ℕ) → length payload ≡ h.length → header_of (message_of h payload) ≡ h
with_length h payload e = ap (λ n. record { kind = h.kind; control = h.control; parameter = h.parameter; length = n }) e

-- a header and its payload are a message
pub holds_is : (bytes more : List ℕ) (h : Header) (payload : List ℕ) → HasHeader bytes h (payload ++ more) → length payload ≡ h.length
    → h.length ≤ longest_payload
    → HasMessage bytes (message_of h payload) more
holds_is bytes more h payload b e fits =
    let same = with_length h payload e in
    record {
      whole = b.whole ∙ sym (append_assoc (header h) payload more) ∙ ap (λ g. (header g ++ payload) ++ more) (sym same);
      proper = rw same b.proper;
      fits = rw e fits;
    }

-- the message at the front, where its payload is there
pub taken_is : (bytes : List ℕ) (h : Header) (payload : List ℕ) → HasHeader bytes h (drop 16 bytes) → h.length ≤ length (drop 16 bytes)
    → h.length ≤ longest_payload
    → payload ≡ take h.length (drop 16 bytes) → HasMessage bytes (message_of h payload) (drop (16 + h.length) bytes)
taken_is bytes h payload b there fits p =
    let parts : drop 16 bytes ≡ payload ++ drop (16 + h.length) bytes =
    sym (take-append-drop h.length (drop 16 bytes)) ∙ ap (λ l. l ++ drop h.length (drop 16 bytes)) (sym p)
    ∙ ap (λ l. payload ++ l) (drop-drop h.length 16 bytes) in
    holds_is bytes (drop (16 + h.length) bytes) h payload
    (record { whole = b.whole ∙ ap (λ l. header h ++ l) parts; proper = b.proper })
    (ap length p ∙ length-take-le h.length (drop 16 bytes) there) fits

-- the same, as the code reads it
pub taken_from : (old unread body payload : List ℕ) (h : Header) (found : Option Header) → ReadsHeader unread (Ok found) → found ≡ Some h → unread ≡ old
    → body ≡ drop 16 unread
    → h.length ≤ length body → h.length ≤ longest_payload → payload ≡ take h.length body → HasMessage old (message_of h payload) (drop (16 + h.length) old)
taken_from old unread body payload h found reads some same body_is there fits p =
    subst (λ bytes. HasMessage bytes (message_of h payload) (drop (16 + h.length) bytes)) same
    (taken_is unread h payload (subst (λ f. ReadsHeader unread (Ok f)) some reads) (subst (λ b. h.length ≤ length b) body_is there) fits
    (p ∙ ap (take h.length) body_is))
