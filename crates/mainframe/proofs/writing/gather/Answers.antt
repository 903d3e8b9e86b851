use Rattle.mainframe.proofs.TurnLemmas.{gathers-kept, gathers-out, part-more, part-after, on-ok, on-err}
use Rattle.mainframe.proofs.writing.gather.Goals as goal
use Rattle.std.proofs.Common.{ℕ, List, ◌++◌, subst, rules}
use Rattle.sw_session.specs.ServeWrite.{WritesPart}
use Rattle.std.specs.Io.KnownBytes.{Appends}
use Rattle.mainframe.specs.Turns.{Gathers}

pub returns-then-keep_answer-clause-ok : goal.returns-then-keep_answer-clause-ok
returns-then-keep_answer-clause-ok g c = gathers-kept _ _ _ (c.keep_answer.ensures.kept (search rules))

pub returns-in-Err-clause-err : goal.returns-in-Err-clause-err
returns-in-Err-clause-err g c =
    part-more _ _ _ _ (subst (λ (l : List ℕ). WritesPart (g.W.Write.contents c.args.writer.now) (g.W.Write.contents c.write_out.new.writer) l)
    (c.keep_answer.ensures.same (search rules)) c.in-Err.ensures.err)

pub returns-clause-ok : goal.returns-clause-ok
returns-clause-ok g c =
    let wrote = subst (λ (l : List ℕ). Appends (g.W.Write.contents c.args.writer.now) (g.W.Write.contents c.write_out.new.writer) l)
    (c.keep_answer.ensures.same (search rules)) c.in_default.ensures.ok in
    on-ok {P = Appends (g.W.Write.contents c.write_out.new.writer) (g.W.Write.contents c.write_bytes.new.writer) c.args.told.now}
    {Q = Gathers (g.W.Write.contents c.args.writer.now) (c.args.unwritten.now.items ++ c.args.told.now) (g.W.Write.contents c.write_bytes.new.writer)
    c.write_out.new.unwritten.items} c.write_bytes.result (λ rest.
    gathers-out (g.W.Write.contents c.args.writer.now) (g.W.Write.contents c.write_out.new.writer) (g.W.Write.contents c.write_bytes.new.writer)
    c.args.unwritten.now.items c.args.told.now c.write_out.new.unwritten.items c.in_default.ensures.none wrote rest) c.write_bytes.ensures.ok

pub returns-clause-err : goal.returns-clause-err
returns-clause-err g c =
    let wrote = subst (λ (l : List ℕ). Appends (g.W.Write.contents c.args.writer.now) (g.W.Write.contents c.write_out.new.writer) l)
    (c.keep_answer.ensures.same (search rules)) c.in_default.ensures.ok in
    on-err {P = WritesPart (g.W.Write.contents c.write_out.new.writer) (g.W.Write.contents c.write_bytes.new.writer) c.args.told.now}
    {Q = WritesPart (g.W.Write.contents c.args.writer.now) (g.W.Write.contents c.write_bytes.new.writer) (c.args.unwritten.now.items ++ c.args.told.now)}
    c.write_bytes.result (λ rest.
    part-after (g.W.Write.contents c.args.writer.now) (g.W.Write.contents c.write_out.new.writer) (g.W.Write.contents c.write_bytes.new.writer)
    c.args.unwritten.now.items c.args.told.now wrote rest) c.write_bytes.ensures.err
