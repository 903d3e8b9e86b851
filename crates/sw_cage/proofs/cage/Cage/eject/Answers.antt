use Rattle.std.proofs.Common.{◌≡◌, ◌∙◌, ap, subst, Some, IfOk}
use Rattle.sw_base.specs.Layout.{slot_at}
use Rattle.sw_cage.specs.Accounts.{option_rest}
use Rattle.sw_cage.specs.Cage.{CageSeen}
use Rattle.sw_cage.specs.Cards.{meters_of}
use Rattle.sw_cage.proofs.CardLemmas.{seen_is, meters_are, comes_out, goes_out}
use Rattle.sw_cage.proofs.KeptLemmas.{rest_twice}
use Rattle.sw_cage.proofs.cage.Cage.eject.Goals.{then-is_some-2, else-is_some-2}
use Rattle.sw_cage.proofs.cage.Cage.eject.Goals as goal

pub returns-clause-ok : goal.returns-clause-ok
returns-clause-ok g c =
    let same : option_rest (slot_at c.if-is_some-2.self.seen.cards c.args.slot) ≡ option_rest (slot_at c.args.self.now.seen.cards c.args.slot) =
    elim c.if-is_some-2.branch [
      | then-is_some-2 w ↦ ap (λ (p : CageSeen). option_rest (slot_at p.cards c.args.slot)) (seen_is w.self-is ∙ w.abort.ensures.safe) ∙ rest_twice
          c.args.self.now.seen.cards
          c.args.slot
      | else-is_some-2 w ↦ ap (λ (p : CageSeen). option_rest (slot_at p.cards c.args.slot)) (seen_is w.self-is)
    ] in
    subst (λ o. IfOk c.take_card.result (λ card. o ≡ Some card.1)) same c.take_card.ensures.card

pub returns-clause-meter : goal.returns-clause-meter
returns-clause-meter g c =
    let same : meters_of c.if-is_some-2.self.cards ≡ meters_of c.args.self.now.cards = elim c.if-is_some-2.branch [
      | then-is_some-2 w ↦ meters_are w.self-is ∙ w.abort.ensures.meters
      | else-is_some-2 w ↦ meters_are w.self-is
    ] in
    comes_out c.take_card.result c.args.self.now.cards c.if-is_some-2.self.cards c.args.slot same c.take_card.ensures.meter

pub returns-clause-meters : goal.returns-clause-meters
returns-clause-meters g c =
    let same : meters_of c.if-is_some-2.self.cards ≡ meters_of c.args.self.now.cards = elim c.if-is_some-2.branch [
      | then-is_some-2 w ↦ meters_are w.self-is ∙ w.abort.ensures.meters
      | else-is_some-2 w ↦ meters_are w.self-is
    ] in
    goes_out c.take_card.result c.args.self.now.cards c.if-is_some-2.self.cards c.take_card.new.self.cards _ same c.take_card.ensures.cards
