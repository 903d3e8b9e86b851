use Rattle.std.proofs.Common.{◌≡◌, Ok, is_some, option_map, string_bytes, sym, ap, ◌∙◌}
use Rattle.sw_rack.specs.Cards.{needs_end, state_of}
use Rattle.sw_rack.proofs.Each.{is_some_map}
use Rattle.sw_rack.proofs.lines.read_state.Goals as goal

pub returns : goal.returns
unfolding state_of
returns c =
    let same : is_some (option_map string_bytes c.in_ok-query.query) ≡ c.is_some.result = is_some_map string_bytes c.in_ok-query.query ∙ sym c.is_some.ensures in
    let fine : needs_end (is_some (option_map string_bytes c.in_ok-query.query)) c.args.has_end ≡ Ok tt = ap (λ b. needs_end b c.args.has_end) same ∙ c.in_ok-needs_end.ensures in
    rw (c.in_ok-query.ensures, fine, c.in_ok-on.ensures, c.in_ok-off.ensures) c.whole_state.ensures
