use Rattle.std.proofs.Common.{◌≡◌, ◌<◌, ℕ, List, [], ◌∷◌, map, length, Bor, refl, sym, ap, subst, arith}
use Rattle.std.specs.Char.{to_ascii_uppercase}
use Rattle.sw_lex.specs.Table.{entries}
use Rattle.sw_lex.specs.Found.{IsFound}
use Rattle.sw_lex.specs.Packed.{AreNumbersOf}
use Rattle.sw_lex.proofs.PartsLemmas.{nothing_there}
use Rattle.sw_lex.proofs.CountedLemmas.{words_some, words_none}
use Rattle.sw_lex.proofs.headers.find_words.Goals as goal

abbrev words_up : List (Bor (List ℕ)) → List (List ℕ)
words_up ws = map (λ w. map to_ascii_uppercase w.now) ws

none : (ws : List (Bor (List ℕ))) → length ws < 1 → ws ≡ []
none [] l = refl
none (w ∷ ws) l = absurd (omega (arith, l))

pub returns-in-empty-clause-none : goal.returns-in-empty-clause-none
returns-in-empty-clause-none c =
    let e : words_up c.args.words.now ≡ [] = ap (λ (ws : List (Bor (List ℕ))). words_up ws) (none c.args.words.now c.in-empty.len_below) in
    λ key k f. nothing_there c.args.query key k (subst (λ (ws : List (List ℕ)). IsFound entries ws c.args.query key k) e f)

pub returns-in-len1-up-clause-some : goal.returns-in-len1-up-clause-some
returns-in-len1-up-clause-some c =
    words_some c.groups_at.result.now c.args.words.now _ c.as_slice.result.now c.args.query _ c.in-len1-up.len_at_least
    (subst (λ (ns : List ℕ). AreNumbersOf (words_up c.args.words.now) ns) (sym c.as_slice.ensures.value) c.numbers_of.ensures) c.groups_at.ensures.whole
    c.groups_at.ensures.numbers c.find.ensures.some

pub returns-in-len1-up-clause-none : goal.returns-in-len1-up-clause-none
returns-in-len1-up-clause-none c =
    words_none c.groups_at.result.now c.args.words.now _ c.as_slice.result.now c.args.query _ c.in-len1-up.len_at_least
    (subst (λ (ns : List ℕ). AreNumbersOf (words_up c.args.words.now) ns) (sym c.as_slice.ensures.value) c.numbers_of.ensures) c.groups_at.ensures.whole
    c.groups_at.ensures.numbers c.find.ensures.none
