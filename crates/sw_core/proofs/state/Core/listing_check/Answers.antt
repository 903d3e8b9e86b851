use Rattle.std.proofs.Common.{string_bytes, ap, ◌∙◌}
use Rattle.sw_cage.specs.Cage.{cage_layout}
use Rattle.sw_cage.specs.Channels.{closed_list}
use Rattle.sw_core.specs.Panel.{Panel}
use Rattle.sw_core.proofs.CardsLemmas.{seen_is}
use Rattle.sw_core.proofs.ListingCheckLemmas.{told_of}
use Rattle.sw_core.proofs.state.Core.listing_check.Goals as goal

pub returns : goal.returns
returns g c =
    told_of c.args.self.now.seen c.args.listing.now _ _ string_bytes c.in_ok-judgement.judgement.cause c.in_ok-layout.layout c.in_ok-closed.closed.items
    c.as_slice.result.now c.points-points.result c.told.result (c.in_ok-layout.ensures ∙ ap (λ (p : Panel). cage_layout p.cage) (seen_is c.self.view_is))
    (c.in_ok-closed.ensures ∙ ap (λ (p : Panel). closed_list p.cage.cards) (seen_is c.self.view_is)) c.as_slice.ensures.value
    (c.points-points.ensures.points ∙ ap (λ (p : Panel). p.settings.scan.points) (seen_is c.self.view_is)) c.in_ok-judgement.ensures.says
    c.in_ok-judgement.ensures.fine c.told.ensures
