use Rattle.std.proofs.Common.{ℕ, ap, ◌∙◌, ◌-◌, take, min, length}
use Rattle.sw_base.specs.Limits.{most_kept}
use Rattle.sw_channels.proofs.PartsLemmas.{kept-fits}
use Rattle.sw_channels.proofs.partial_message.extended.Goals as goal

pub returns : goal.returns
returns c =
    c.truncate.ensures.items ∙ ap (take most_kept) c.in_ok-extend_from_slice.ensures.items
    ∙ kept-fits most_kept c.args.partial.items c.args.part.now c.min.result
    (c.min.ensures ∙ ap (min (length c.args.part.now)) (c.saturating_sub-room.ensures ∙ ap (λ (l : ℕ). most_kept - l) (c.len.ensures ∙ c.args.partial.ok.0)))
