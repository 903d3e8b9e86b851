-- What is told doesn't depend on the cuts, and what is left is no whole message.
use Rattle.std.proofs.Common.{◌≡◌, ℕ, ◌+◌, ◌<◌, List, [], ◌∷◌, ◌++◌, length, map, take, sym, ap, ap₂, ◌∙◌}
use Rattle.std.proofs.Common.{length-append, arith, inl, inr, subst, Err, Result}
use Rattle.sw_hislip.specs.declared.header.Header.{Header}
use Rattle.sw_hislip.specs.declared.kind.Kind.{Kind}
use Rattle.sw_hislip.specs.declared.message.Message.{Message}
use Rattle.sw_hislip.specs.Wire.{header, HasHeader}
use Rattle.sw_hislip.specs.Pending.{Pending, DecoderSeen, longest_payload, Waits}
use Rattle.sw_hislip.specs.Stream.{told_of, Call, stream_of, told, IsRest, IsSkipped, Leaves, Follows, Rests}
use Rattle.sw_hislip.specs.Stream.{LeavesARest, TellAlike, CutsDoNotMatter, RoomIsBounded}
use Rattle.sw_hislip.proofs.Streams.{one_header, short_rest, rests_rest, partial_rest, stream_is_one}
use Rattle.sw_hislip.proofs.Runs.{every_one}

rest_is : (ms : List Message) (rest : List ℕ) (t : List (Result Message Kind)) (p : Pending) → Leaves ms rest t p → Rests p.bytes → IsRest rest
rest_is ms rest t p (inl (told_is, same)) r = subst IsRest (ap (λ (q : Pending). q.bytes) same) (rests_rest p.bytes r)
rest_is ms rest t p (inr (kind, s, told_is, none)) r = partial_rest rest s.h s.got s.begins (omega (arith, s.missing, s.some))

pub left_is : (bytes : List ℕ) (t : List (Result Message Kind)) (p : Pending) → LeavesARest bytes t p
left_is bytes t p f r = record { whole = f.whole; each = f.each; partial = rest_is f.messages f.rest t p f.leaves r }

-- where a decoder rests stands no front of a large payload
not_large : (bytes : List ℕ) (h : Header) (got : List ℕ) → Rests bytes → HasHeader bytes h got → longest_payload < h.length → ⊥
not_large bytes h got (inl (inl short)) b large = short_rest bytes h got short b.whole
not_large bytes h got (inl (inr l)) b large =
    let same : l.h.length ≡ h.length = ap (λ (g : Header). g.length) (one_header bytes l.h h l.got got l.begins b).0 in
    absurd (omega (arith, same, large, l.fits))
not_large bytes h got (inr prologue) b large = prologue.wrong (ap (take 2) b.whole)

apart : (p : Pending) (rest : List ℕ) (kind : Kind) (skip : ℕ) → Rests p.bytes → p.bytes ≡ rest → IsSkipped rest kind skip → ⊥
apart p rest kind skip r same s = not_large rest s.h s.got (subst Rests same r) s.begins s.large

same_skipped : (p q : Pending) (rest : List ℕ) (kind other : Kind) → p.bytes ≡ [] → q.bytes ≡ [] → IsSkipped rest kind p.skip → IsSkipped rest other q.skip
    → (kind ≡ other) × (p ≡ q)
same_skipped p q rest kind other none empty s k =
    let one = one_header rest s.h k.h s.got k.got s.begins k.begins in
    let size : s.h.length ≡ k.h.length = ap (λ (g : Header). g.length) one.0 in
    let got : length s.got ≡ length k.got = ap length one.1 in
    let skip : p.skip ≡ q.skip = omega (arith, size, got, s.missing, k.missing) in (
      sym s.kind_is ∙ ap (λ (g : Header). g.kind) one.0 ∙ k.kind_is,
      ap₂ (λ (b : List ℕ) (n : ℕ). let x : Pending = record { bytes = b; skip = n } in x) (none ∙ sym empty) skip,
    )

same_left : (ms : List Message) (rest : List ℕ) (t u : List (Result Message Kind)) (p q : Pending) → Leaves ms rest t p → Leaves ms rest u q
    → Rests p.bytes → Rests q.bytes → (t ≡ u) × (p ≡ q)
same_left ms rest t u p q (inl (told_p, is_p)) (inl (told_q, is_q)) r v = (told_p ∙ sym told_q, is_p ∙ sym is_q)
same_left ms rest t u p q (inl (told_p, is_p)) (inr (kind, s, told_q, none)) r v = absurd (apart p rest kind q.skip r (ap (λ (x : Pending). x.bytes) is_p) s)
same_left ms rest t u p q (inr (kind, s, told_p, none)) (inl (told_q, is_q)) r v = absurd (apart q rest kind p.skip v (ap (λ (x : Pending). x.bytes) is_q) s)
same_left ms rest t u p q (inr (kind, s, told_p, none)) (inr (other, k, told_q, empty)) r v =
    let both = same_skipped p q rest kind other none empty s k in
    (told_p ∙ ap (λ (x : Kind). map told_of ms ++ Err x ∷ []) both.0 ∙ sym told_q, both.1)

pub alike : (bytes : List ℕ) (t u : List (Result Message Kind)) (p q : Pending) → TellAlike bytes t u p q
alike bytes t u p q f g r v =
    let one = stream_is_one bytes f.messages g.messages f.rest g.rest (left_is bytes t p f r) (left_is bytes u q g v) in
    let moved = subst (λ (x : List ℕ). Leaves g.messages x t p) one.1 (subst (λ (x : List Message). Leaves x f.rest t p) one.0 f.leaves) in
    same_left g.messages g.rest t u p q moved g.leaves r v

pub no_matter : (calls others : List Call) → CutsDoNotMatter calls others
no_matter calls others p q l m v w e =
    alike (stream_of others) (told calls) (told others) p q
    (subst (λ (b : List ℕ). Follows b (told calls) p) e (every_one calls p l)) (every_one others q m) v w

short_wait : (bytes : List ℕ) → Waits bytes → length bytes < 16 + longest_payload
short_wait bytes (inl short) = omega (arith, short)
short_wait bytes (inr l) =
    let n : length bytes ≡ 16 + length l.got = ap length l.begins.whole ∙ length-append (header l.h) l.got in
    omega (arith, n, l.fits, l.lacks)

pub bounded_room : (d : DecoderSeen) → RoomIsBounded d
bounded_room d lean waits = omega (arith, lean.spare, short_wait d.pending.bytes waits)
