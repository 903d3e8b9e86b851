use Rattle.std.proofs.Common.{◌<◌, Bool, false, List, length, get_or, ap, ◌∙◌, arith}
use Rattle.std.proofs.lemmas.List.{get_or-replicate, length-replicate}
use Rattle.sw_base.specs.Limits.{channel_places}
use Rattle.sw_verify.specs.Marks.{place}
use Rattle.sw_verify.proofs.marks.channel_marks.Goals as goal

pub loop-c-init : goal.loop-c-init
loop-c-init c = record {
  marked = λ k w. let below : place k < channel_places = omega (arith, w.1, w.3) in
      ap (λ (l : List Bool). get_or l (place k) false) c.new.ensures ∙ get_or-replicate channel_places (place k) false false below;
  size = ap (λ (l : List Bool). length l) c.new.ensures ∙ length-replicate channel_places false;
}
