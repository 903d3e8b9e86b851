use Rattle.std.proofs.Common.{◌≡◌, map, refl}
use Rattle.std.specs.Char.{to_ascii_uppercase}
use Rattle.sw_lex.specs.Unit.{heading_of}
use Rattle.sw_lex.specs.Meaning.{path_of, capitals, looked_up}
use Rattle.sw_lex.specs.Headed.{header_nodes, first_word}
use Rattle.sw_lex.specs.Parts.{part_of}
use Rattle.sw_lex.proofs.AskedLemmas.{from_root, rows_at, found_at, absent_at}
use Rattle.sw_lex.proofs.paths.find_unit.Goals as goal

pub returns-in-Common-clause-some : goal.returns-in-Common-clause-some
returns-in-Common-clause-some c =
    let u = c.args.unit.now in
    let all = looked_up (heading_of u.header) (path_of c.args.path.now) in
    let n : all ≡ header_nodes u.header = rw c.in-Common.is refl in
    let p : part_of (first_word (capitals all)) ≡ part_of (map to_ascii_uppercase c.in-Common.name.now) = rw c.in-Common.is refl in
    let a = from_root u.header u.words.now all u.bytes u.numbers n in
    let rows = rows_at c.groups_at.result.now (capitals all) u.query _ p c.groups_at.ensures.whole in
    found_at c.groups_at.result.now u.words.now (capitals all) u.query c.find_kept.result a rows c.groups_at.ensures.numbers c.find_kept.ensures.some

pub returns-in-Common-clause-none : goal.returns-in-Common-clause-none
returns-in-Common-clause-none c =
    let u = c.args.unit.now in
    let all = looked_up (heading_of u.header) (path_of c.args.path.now) in
    let n : all ≡ header_nodes u.header = rw c.in-Common.is refl in
    let p : part_of (first_word (capitals all)) ≡ part_of (map to_ascii_uppercase c.in-Common.name.now) = rw c.in-Common.is refl in
    let a = from_root u.header u.words.now all u.bytes u.numbers n in
    let rows = rows_at c.groups_at.result.now (capitals all) u.query _ p c.groups_at.ensures.whole in
    absent_at c.groups_at.result.now u.words.now (capitals all) u.query c.find_kept.result a rows c.groups_at.ensures.numbers c.find_kept.ensures.none
