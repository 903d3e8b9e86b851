use Rattle.std.proofs.Common.{ap, drop, take, ◌∙◌, sym, subst, ℕ, List, ◌++◌, ◌+◌, refl}
use Rattle.sw_hislip.specs.Pending.{Pending, DecoderSeen, HasMessage}
use Rattle.sw_hislip.proofs.Decoders.{taken_from, message_of}
use Rattle.sw_hislip.proofs.decoder.Decoder.next_in.Goals as goal

pub returns-in-Err-clause-given : goal.returns-in-Err-clause-given
returns-in-Err-clause-given c =
    let unread = c.split_at.ensures.back ∙ ap (drop c.self.inside.taken) c.as_slice.ensures.value ∙ ap (λ (d : DecoderSeen). d.pending.bytes) c.self.view_is in
    let payload = take c.in-Some.header.length c.split_at-2.result.1.now in (
      message_of c.in-Some.header payload,
      drop (16 + c.in-Some.header.length) c.args.self.now.pending.bytes,
      taken_from c.args.self.now.pending.bytes c.split_at.result.1.now c.split_at-2.result.1.now payload c.in-Some.header c.in_ok-read_header.field-0
          c.in_ok-read_header.ensures c.in-Some.is unread c.split_at-2.ensures.back c.if-body-length.false c.if-header-gt-LONGEST_PAYLOAD.false refl,
      refl,
    )

pub returns-in-Ok-clause-given : goal.returns-in-Ok-clause-given
returns-in-Ok-clause-given c =
    let unread = c.split_at.ensures.back ∙ ap (drop c.self.inside.taken) c.as_slice.ensures.value ∙ ap (λ (d : DecoderSeen). d.pending.bytes) c.self.view_is in
    let emptied = ap (λ (l : List ℕ). l ++ c.split_at-3.result.0.now) c.clear.ensures.items in
    let payload = c.new-in-Ok.ensures ∙ ap (λ v. v.items) c.replace-payload.ensures.value ∙ c.in-Ok.ensures.items ∙ emptied ∙ c.split_at-3.ensures.front in
    let more = ap (λ (p : Pending). p.bytes) (sym c.take.ensures.taken) in
    let holds =
    taken_from c.args.self.now.pending.bytes c.split_at.result.1.now c.split_at-2.result.1.now c.new-in-Ok.result c.in-Some.header c.in_ok-read_header.field-0
    c.in_ok-read_header.ensures c.in-Some.is unread c.split_at-2.ensures.back c.if-body-length.false c.if-header-gt-LONGEST_PAYLOAD.false payload in (
      subst (λ (l : List ℕ). HasMessage c.args.self.now.pending.bytes (message_of c.in-Some.header c.new-in-Ok.result) l) more holds,
      ap (λ (p : Pending). p.skip) c.take.ensures.taken,
    )
