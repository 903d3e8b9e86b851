use Rattle.std.proofs.Common.{string_bytes}
use Rattle.std.proofs.lemmas.Result.{err_from_is_err_and}
use Rattle.toml.specs.View.{table_view}
use Rattle.sw_rack.specs.Seen.{place_seen, state_seen, texts_seen}
use Rattle.sw_rack.proofs.Scpi.{setup_fails, lines_are}
use Rattle.sw_rack.proofs.lines.read_scpi_lines.Goals as goal

pub returns-in_err-setup : goal.returns-in_err-setup
returns-in_err-setup c =
    let p = err_from_is_err_and c.from_residual-in_err-setup.result c.from_residual-in_err-setup.ensures.1 in
    rw (p.1, p.2) (setup_fails c.in_err-setup.field-0.0 c.args.channels (table_view c.args.table.now) (place_seen c.in_ok-place.place) c.in_ok-limit_ms.limit_ms
    (string_bytes c.in_ok-on.on) (string_bytes c.in_ok-off.off) (texts_seen c.in_ok-all_off.all_off.items) (state_seen c.in_ok-state.state)
    (record {
      at_place = c.in_ok-place.ensures;
      at_limit = c.in_ok-limit_ms.ensures.given;
      at_on = c.in_ok-on.ensures;
      at_off = c.in_ok-off.ensures;
      at_all_off = c.in_ok-all_off.ensures;
      at_state = c.in_ok-state.ensures;
    }) c.in_err-setup.ensures)

pub returns : goal.returns
returns c =
    rw (c.new.ensures.bytes, c.new-2.ensures.bytes) (lines_are c.args.channels (table_view c.args.table.now) (place_seen c.in_ok-place.place) c.in_ok-limit_ms.limit_ms
    (string_bytes c.in_ok-on.on) (string_bytes c.in_ok-off.off) (texts_seen c.in_ok-all_off.all_off.items) (state_seen c.in_ok-state.state)
    (texts_seen c.in_ok-setup.setup.items)
    (record {
      at_place = c.in_ok-place.ensures;
      at_limit = c.in_ok-limit_ms.ensures.given;
      at_on = c.in_ok-on.ensures;
      at_off = c.in_ok-off.ensures;
      at_all_off = c.in_ok-all_off.ensures;
      at_state = c.in_ok-state.ensures;
    }) c.in_ok-setup.ensures)
