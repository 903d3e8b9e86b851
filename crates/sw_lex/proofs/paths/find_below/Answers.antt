use Rattle.std.proofs.Common.{◌≡◌, ◌<◌, ℕ, List, false, take, length, map, sym, ap, subst, ◌∙◌, arith}
use Rattle.std.specs.Char.{to_ascii_uppercase}
use Rattle.std.proofs.lemmas.List.{take_all}
use Rattle.sw_lex.specs.Unit.{heading_of}
use Rattle.sw_lex.specs.Meaning.{path_of, capitals, looked_up}
use Rattle.sw_lex.specs.Headed.{first_or}
use Rattle.sw_lex.specs.Packed.{word_of}
use Rattle.sw_lex.specs.Parts.{part_of}
use Rattle.sw_lex.proofs.AskedLemmas.{Sound, from_path, path_part, path_stays, counted, rows_at, entered, after_found}
use Rattle.sw_lex.proofs.paths.find_below.Goals as goal

pub invariant_of-path-in-None : goal.invariant_of-path-in-None
invariant_of-path-in-None c =
    let old = c.args.path.now.nodes in
    let now = c.append.new.self in
    let s = path_stays old.kept now.kept c.args.unit.now.words.now old.count now.count old.whole now.whole old.few now.few c.append.ensures in
    let letter = to_ascii_uppercase c.args.path.now.letter in
    record {
      few = c.args.path.now.few;
      sound = subst (λ (x : List ℕ). Sound x) (sym s) c.args.path.now.sound;
      begins = subst (λ (x : List ℕ). part_of (first_or letter (map word_of x)) ≡ (false, letter)) (sym s) c.args.path.now.begins;
    }

pub invariant_of-path-in-Some-2 : goal.invariant_of-path-in-Some-2
invariant_of-path-in-Some-2 c =
    let u = c.args.unit.now in
    let all = looked_up (heading_of u.header) (path_of c.args.path.now) in
    let old = c.args.path.now.nodes in
    let letter = to_ascii_uppercase c.args.path.now.letter in
    let ns = take old.count old.kept in
    let a = from_path u.header ns u.words.now c.as_slice.result.now all c.args.path.now.sound u.bytes u.numbers c.requires.below
    (c.as_slice.ensures ∙ c.append.ensures) in
    let some : 0 < length ns = omega (arith, c.requires.some, counted old.kept old.count old.whole old.few) in
    let p = path_part u.header ns letter all some c.args.path.now.begins c.requires.below in
    let rows = rows_at c.path_groups.result.now (capitals all) u.query _ p c.path_groups.ensures.whole in
    let f = c.in-Some.ensures.some u.query (capitals all) a rows c.path_groups.ensures.numbers in
    let kept = c.as_slice.result.now in
    let e = entered all kept u.query c.in-Some.found.0 c.in-Some.found.1 a f in
    let now = c.append.new.self in
    let k : take now.count now.kept ≡ take 5 kept = sym c.as_slice.ensures ∙ sym (take_all 5 kept (omega (arith, e.few))) in
    let r = after_found all kept now.count letter now.kept e k now.whole now.few p in
    record { few = r.few; sound = r.sound; begins = r.begins }

pub returns-in-None-clause-none : goal.returns-in-None-clause-none
returns-in-None-clause-none c =
    let u = c.args.unit.now in
    let all = looked_up (heading_of u.header) (path_of c.args.path.now) in
    let old = c.args.path.now.nodes in
    let letter = to_ascii_uppercase c.args.path.now.letter in
    let ns = take old.count old.kept in
    let a = from_path u.header ns u.words.now c.as_slice.result.now all c.args.path.now.sound u.bytes u.numbers c.requires.below
    (c.as_slice.ensures ∙ c.append.ensures) in
    let some : 0 < length ns = omega (arith, c.requires.some, counted old.kept old.count old.whole old.few) in
    let p = path_part u.header ns letter all some c.args.path.now.begins c.requires.below in
    let rows = rows_at c.path_groups.result.now (capitals all) u.query _ p c.path_groups.ensures.whole in
    c.in-None.ensures.none u.query (capitals all) a rows c.path_groups.ensures.numbers

pub returns-in-None-clause-stays : goal.returns-in-None-clause-stays
returns-in-None-clause-stays c =
    let old = c.args.path.now.nodes in
    let now = c.append.new.self in
    let s = path_stays old.kept now.kept c.args.unit.now.words.now old.count now.count old.whole now.whole old.few now.few c.append.ensures in
    ap (λ (x : List ℕ). map word_of x) s

pub returns-in-Some-clause-some : goal.returns-in-Some-clause-some
returns-in-Some-clause-some c =
    let u = c.args.unit.now in
    let all = looked_up (heading_of u.header) (path_of c.args.path.now) in
    let old = c.args.path.now.nodes in
    let letter = to_ascii_uppercase c.args.path.now.letter in
    let ns = take old.count old.kept in
    let a = from_path u.header ns u.words.now c.as_slice.result.now all c.args.path.now.sound u.bytes u.numbers c.requires.below
    (c.as_slice.ensures ∙ c.append.ensures) in
    let some : 0 < length ns = omega (arith, c.requires.some, counted old.kept old.count old.whole old.few) in
    let p = path_part u.header ns letter all some c.args.path.now.begins c.requires.below in
    let rows = rows_at c.path_groups.result.now (capitals all) u.query _ p c.path_groups.ensures.whole in
    c.in-Some.ensures.some u.query (capitals all) a rows c.path_groups.ensures.numbers

pub returns-in-Some-clause-onward : goal.returns-in-Some-clause-onward
returns-in-Some-clause-onward c =
    let u = c.args.unit.now in
    let all = looked_up (heading_of u.header) (path_of c.args.path.now) in
    let old = c.args.path.now.nodes in
    let letter = to_ascii_uppercase c.args.path.now.letter in
    let ns = take old.count old.kept in
    let a = from_path u.header ns u.words.now c.as_slice.result.now all c.args.path.now.sound u.bytes u.numbers c.requires.below
    (c.as_slice.ensures ∙ c.append.ensures) in
    let some : 0 < length ns = omega (arith, c.requires.some, counted old.kept old.count old.whole old.few) in
    let p = path_part u.header ns letter all some c.args.path.now.begins c.requires.below in
    let rows = rows_at c.path_groups.result.now (capitals all) u.query _ p c.path_groups.ensures.whole in
    let f = c.in-Some.ensures.some u.query (capitals all) a rows c.path_groups.ensures.numbers in
    let kept = c.as_slice.result.now in
    let e = entered all kept u.query c.in-Some.found.0 c.in-Some.found.1 a f in
    let now = c.append.new.self in
    let k : take now.count now.kept ≡ take 5 kept = sym c.as_slice.ensures ∙ sym (take_all 5 kept (omega (arith, e.few))) in
    let r = after_found all kept now.count letter now.kept e k now.whole now.few p in
    r.words
