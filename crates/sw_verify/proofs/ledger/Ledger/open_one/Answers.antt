use Rattle.std.proofs.Common.{◌≡◌, ◌<◌, true, false, ap, sym, ◌∙◌, arith}
use Rattle.std.specs.Prelude.{slice_index_or, slice_set}
use Rattle.sw_base.specs.Layout.{group_of}
use Rattle.sw_verify.proofs.Ledgers.{tells_at, shows_without}
use Rattle.sw_verify.proofs.ledger.Ledger.open_one.Goals as goal

pub returns-clause-opened : goal.returns-clause-opened
returns-clause-opened c = λ start b m s.
    let layout = c.args.layout.now in
    let l = c.args.self.now in
    let below : group_of layout c.args.c < 256 = omega (arith, c.group.ensures) in
    let own : m c.args.c ≡ true =
    sym (tells_at start b m l.mine s.mine c.args.c c.place-at.ensures.channel) ∙ ap (λ a. slice_index_or l.mine a false) (sym c.place-at.ensures.place)
    ∙ sym c.has.ensures ∙ c.if-not-has.false in (
      own,
      shows_without layout start b m l s c.args.c c.place-at.ensures.channel below own c.clear.new.self c.from.result (c.clear.ensures
          ∙ ap (λ a. slice_set l.mine a false) c.place-at.ensures.place) (c.from.ensures ∙ c.group.ensures),
    )
