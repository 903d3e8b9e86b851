use Rattle.std.specs.Char.{to_ascii_uppercase}
use Rattle.sw_lex.specs.Unit.{heading_of}
use Rattle.sw_lex.specs.Meaning.{path_of, capitals, looked_up}
use Rattle.sw_lex.proofs.AskedLemmas.{from_root, root_letter, rows_at, entered, after_found}
use Rattle.sw_lex.proofs.paths.find_from_root.Goals as goal

pub invariant_of-path-in-Some-2 : goal.invariant_of-path-in-Some-2
invariant_of-path-in-Some-2 c =
    let u = c.args.unit.now in
    let all = looked_up (heading_of u.header) (path_of c.args.path.now) in
    let a = from_root u.header u.words.now all u.bytes u.numbers c.requires.root in
    let p = root_letter u.header all (to_ascii_uppercase c.args.letter) c.requires.root u.begins c.requires.begins in
    let rows = rows_at c.path_groups.result.now (capitals all) u.query _ p c.path_groups.ensures.whole in
    let f = c.in-Some.ensures.some u.query (capitals all) a rows c.path_groups.ensures.numbers in
    let e = entered all u.words.now u.query c.in-Some.found.0 c.in-Some.found.1 a f in
    let now = c.append.new.self in
    let r = after_found all u.words.now now.count (to_ascii_uppercase c.args.letter) now.kept e c.append.ensures now.whole now.few p in
    record { few = r.few; sound = r.sound; begins = r.begins }

pub returns-in-None-clause-none : goal.returns-in-None-clause-none
returns-in-None-clause-none c =
    let u = c.args.unit.now in
    let all = looked_up (heading_of u.header) (path_of c.args.path.now) in
    let a = from_root u.header u.words.now all u.bytes u.numbers c.requires.root in
    let p = root_letter u.header all (to_ascii_uppercase c.args.letter) c.requires.root u.begins c.requires.begins in
    let rows = rows_at c.path_groups.result.now (capitals all) u.query _ p c.path_groups.ensures.whole in
    c.in-None.ensures.none u.query (capitals all) a rows c.path_groups.ensures.numbers

pub returns-in-Some-clause-some : goal.returns-in-Some-clause-some
returns-in-Some-clause-some c =
    let u = c.args.unit.now in
    let all = looked_up (heading_of u.header) (path_of c.args.path.now) in
    let a = from_root u.header u.words.now all u.bytes u.numbers c.requires.root in
    let p = root_letter u.header all (to_ascii_uppercase c.args.letter) c.requires.root u.begins c.requires.begins in
    let rows = rows_at c.path_groups.result.now (capitals all) u.query _ p c.path_groups.ensures.whole in
    c.in-Some.ensures.some u.query (capitals all) a rows c.path_groups.ensures.numbers

pub returns-in-Some-clause-onward : goal.returns-in-Some-clause-onward
returns-in-Some-clause-onward c =
    let u = c.args.unit.now in
    let all = looked_up (heading_of u.header) (path_of c.args.path.now) in
    let a = from_root u.header u.words.now all u.bytes u.numbers c.requires.root in
    let p = root_letter u.header all (to_ascii_uppercase c.args.letter) c.requires.root u.begins c.requires.begins in
    let rows = rows_at c.path_groups.result.now (capitals all) u.query _ p c.path_groups.ensures.whole in
    let f = c.in-Some.ensures.some u.query (capitals all) a rows c.path_groups.ensures.numbers in
    let e = entered all u.words.now u.query c.in-Some.found.0 c.in-Some.found.1 a f in
    let now = c.append.new.self in
    let r = after_found all u.words.now now.count (to_ascii_uppercase c.args.letter) now.kept e c.append.ensures now.whole now.few p in
    r.words
