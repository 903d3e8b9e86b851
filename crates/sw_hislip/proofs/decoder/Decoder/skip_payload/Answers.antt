use Rattle.std.proofs.Common.{◌≡◌, ◌≤◌, length, drop, sym, ap, arith, ◌∙◌}
use Rattle.std.specs.Vec.{vec_len}
use Rattle.std.proofs.lemmas.List.{length-drop}
use Rattle.sw_hislip.specs.Pending.{DecoderSeen}
use Rattle.sw_hislip.proofs.Decoders.{idle, skipped_all}
use Rattle.sw_hislip.proofs.decoder.Decoder.skip_payload.Goals as goal

pub returns-then-size-there-clause-skipped : goal.returns-then-size-there-clause-skipped
returns-then-size-there-clause-skipped c =
    let p = c.args.self.now.pending in
    let items = c.self.inside.buffer.items in
    let unread : length (drop c.self.inside.taken items) ≡ length p.bytes = ap (λ (d : DecoderSeen). length d.pending.bytes) c.self.view_is in
    let skip : c.self.inside.skip ≡ p.skip = ap (λ (d : DecoderSeen). d.pending.skip) c.self.view_is in
    let all = length-drop c.self.inside.taken items in
    let kept : length p.bytes ≤ vec_len c.self.inside.buffer = omega (arith, unread, all, c.self.inside.buffer.ok) in
    let none = sym skip ∙ idle c.self.inside.skip (vec_len c.self.inside.buffer) (length p.bytes) c.self.invariant.1 c.requires kept in
    let there : c.args.size ≤ length (drop 16 p.bytes) = rw length-drop (omega (arith, unread, all, c.len.ensures, c.self.inside.buffer.ok)) in
    c.take.ensures.taken ∙ skipped_all p c.args.size there none
