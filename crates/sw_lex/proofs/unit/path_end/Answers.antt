use Rattle.std.proofs.Common.{◌<◌, ◌+◌, ℕ, List, length, take, refl, sym, subst, arith}
use Rattle.sw_lex.proofs.HeadedLemmas.{PathCounted, counted_more, counted_path, counted_numbers, colon_on}
use Rattle.sw_lex.proofs.unit.path_end.Goals as goal

pub nodes-preserved : goal.nodes-preserved
nodes-preserved c =
    let so = subst (λ (r : List ℕ). PathCounted c.args.text.now c.nodes.n r (take c.nodes.words.count c.nodes.words.kept)) (sym c.split_at.ensures.back)
    c.nodes.invariant.so in
    let m = c.read_word-length.ensures in
    let some : 0 < c.read_word-length.result = omega (arith, c.if-length-eq0.false) in
    let inside : c.nodes.n + c.read_word-length.result < length c.args.text.now =
    omega (arith, m.fits, c.split_at.ensures.back_len, c.nodes.invariant.fits, c.if-n-text.false) in
    record {
      fits = omega (arith, inside);
      so = counted_more _ _ _ _ _ _ _ _ so m.fits (m.some some).0 refl (m.number some) (colon_on _ _ _ _ _ so m.fits inside c.if-text-n-ne58.false);
    }

pub returns-then-n-text-clause-ok : goal.returns-then-n-text-clause-ok
returns-then-n-text-clause-ok c =
    let so = subst (λ (r : List ℕ). PathCounted c.args.text.now c.nodes.n r (take c.nodes.words.count c.nodes.words.kept)) (sym c.split_at.ensures.back)
    c.nodes.invariant.so in
    let m = c.read_word-length.ensures in
    λ _. (counted_path _ _ _ _ _ so m.fits (m.some (omega (arith, c.if-length-eq0.false))).0).0

pub returns-then-n-text-clause-words : goal.returns-then-n-text-clause-words
returns-then-n-text-clause-words c =
    let so = subst (λ (r : List ℕ). PathCounted c.args.text.now c.nodes.n r (take c.nodes.words.count c.nodes.words.kept)) (sym c.split_at.ensures.back)
    c.nodes.invariant.so in
    let m = c.read_word-length.ensures in
    let some : 0 < c.read_word-length.result = omega (arith, c.if-length-eq0.false) in
    λ _. counted_numbers _ _ _ _ _ _ _ so m.fits (m.some some).0 refl (m.number some)
