use Rattle.std.proofs.Common.{◌≡◌, ◌<◌, true, false, ap, sym, ◌∙◌, arith}
use Rattle.std.specs.Prelude.{slice_set}
use Rattle.sw_base.specs.Layout.{is_present, group_of}
use Rattle.sw_verify.specs.Marks.{place}
use Rattle.sw_verify.specs.Ledger.{is_taken}
use Rattle.sw_verify.proofs.Ledgers.{free_can, shows_with}
use Rattle.sw_verify.proofs.ledger.Ledger.close_one.Goals as goal

pub returns-clause-closed : goal.returns-clause-closed
returns-clause-closed c = λ start b m s.
    let layout = c.args.layout.now in
    let l = c.args.self.now in
    let below : group_of layout c.args.c < 256 = omega (arith, c.group-group.ensures) in
    let there : is_present layout c.args.c ≡ true = sym c.has_channel.ensures ∙ c.if-not-has_channel.false in
    let free : is_taken l (place c.args.c) (group_of layout c.args.c) ≡ false =
    ap (λ g. is_taken l (place c.args.c) g) (sym c.group-group.ensures) ∙ ap (λ a. is_taken l a c.group-group.result) (sym c.place-at.ensures.place)
    ∙ sym c.is_taken.ensures ∙ c.if-is_taken.false in
    let can = free_can layout start b m l s c.args.c c.place-at.ensures.channel below there free in (
      can,
      shows_with layout start b m l s c.args.c c.place-at.ensures.channel below can c.set.new.self c.from.result (c.set.ensures
          ∙ ap (λ a. slice_set l.mine a true) c.place-at.ensures.place) (c.from.ensures ∙ c.group-group.ensures),
    )
