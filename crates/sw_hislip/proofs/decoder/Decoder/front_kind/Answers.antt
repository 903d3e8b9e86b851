use Rattle.std.proofs.Common.{ap, drop, ◌∙◌, subst, List, ℕ, Option, Some, Ok}
use Rattle.sw_hislip.specs.declared.header.Header.{Header}
use Rattle.sw_hislip.specs.Pending.{DecoderSeen, IsFrontKind, ReadsHeader}
use Rattle.sw_hislip.proofs.Streams.{front_of}
use Rattle.sw_hislip.proofs.decoder.Decoder.front_kind.Goals as goal

pub returns-in-Ok-Some : goal.returns-in-Ok-Some
returns-in-Ok-Some c =
    let unread = c.split_at.ensures.back ∙ ap (drop c.self.inside.taken) c.as_slice.ensures.value ∙ ap (λ (d : DecoderSeen). d.pending.bytes) c.self.view_is in
    subst (λ (bytes : List ℕ). IsFrontKind bytes (Some c.in-Ok-Some.header.kind)) unread
    (front_of _ c.in-Ok-Some.header (subst (λ (o : Option Header). ReadsHeader c.split_at.result.1.now (Ok o)) c.in-Ok-Some.field-0-is c.in-Ok-Some.ensures))
