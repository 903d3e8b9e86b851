use Rattle.std.proofs.Common.{◌≡◌, ◌∷◌, [], ◌++◌, true, false, Some, get_or, drop, sym, ◌∙◌, ◌+◌, arith}
use Rattle.std.proofs.lemmas.Grind.{common_steps}
use Rattle.sw_rack.specs.Templates.{rendered, word_for}
use Rattle.sw_rack.proofs.Rendering.{opened, plain, closed, within, moved}
use Rattle.sw_rack.proofs.template.rendered.Goals as goal
use Rattle.sw_rack.proofs.template.rendered.Goals.{then-not-is_within+then-byte-eq123, then-not-is_within+else-byte-eq123+in_ok-push, else-not-is_within+then-byte-eq125+in-Some+in_ok-extend_from_slice, else-not-is_within+else-byte-eq125+in_ok-push-2}

pub loop-byte-preserved : goal.loop-byte-preserved
loop-byte-preserved c =
    let ch = c.args.channel in
    let bytes = c.as_bytes-byte-items.result.now in
    let i = c.loop-byte.byte-index in
    let lt = c.loop-byte-test.true in
    let sent = c.loop-byte.sent.items in
    let word = c.loop-byte.word.items in
    let after = c.if-not-is_within in
    let rest = drop (i + 1) bytes in
    let total = rendered ch bytes in
    elim c.if-not-is_within.branch [
      | then-not-is_within+then-byte-eq123 w ↦
          let inv = rw w.if-not-is_within.true at c.loop-byte.invariant in
          moved ch after.is_within true after.sent.items sent after.word.items [] rest total w.is_within-is
          (rw w.sent-is) (rw (w.word-is, w.clear.ensures.items)) (sym (opened ch sent word bytes i lt w.if-byte-eq123.true) ∙ inv)
      | then-not-is_within+else-byte-eq123+in_ok-push w ↦
          let inv = rw w.if-not-is_within.true at c.loop-byte.invariant in
          moved ch after.is_within false after.sent.items (sent ++ get_or bytes i 0 ∷ []) after.word.items word rest total
          (rw (w.is_within-is, w.if-not-is_within.true)) (rw (w.sent-is, w.in_ok-push.ensures.items)) (rw w.word-is)
          (sym (plain ch sent word bytes i lt w.if-byte-eq123.false) ∙ inv)
      | else-not-is_within+then-byte-eq125+in-Some+in_ok-extend_from_slice w ↦
          let inv = rw w.if-not-is_within.false at c.loop-byte.invariant in
          let digits = w.in-Some.digits.items in
          let known : word_for ch word ≡ Some digits = grind (arith, common_steps) in
          let more : w.extend_from_slice.new.self.items ≡ sent ++ digits = grind (arith, common_steps) in
          moved ch after.is_within false after.sent.items (sent ++ digits) after.word.items word rest total
          w.is_within-is (rw (w.sent-is, more)) (rw w.word-is)
          (sym (closed ch sent word bytes digits i lt w.if-byte-eq125.true known) ∙ inv)
      | else-not-is_within+else-byte-eq125+in_ok-push-2 w ↦
          let inv = rw w.if-not-is_within.false at c.loop-byte.invariant in
          moved ch after.is_within true after.sent.items sent after.word.items (word ++ get_or bytes i 0 ∷ []) rest total
          (rw (w.is_within-is, w.if-not-is_within.false)) (rw w.sent-is) (rw (w.word-is, w.in_ok-push-2.ensures.items))
          (sym (within ch sent word bytes i lt w.if-byte-eq125.false) ∙ inv)
    ]
