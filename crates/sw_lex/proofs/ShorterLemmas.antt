-- What follows a unit is shorter than the text before it.
use Rattle.std.proofs.Common.{◌≡◌, ℕ, ◌+◌, ◌<◌, ◌≤◌, Bool, true, false, List, [], ◌∷◌, ◌++◌, length, ap, arith, inl, inr}
use Rattle.std.proofs.lemmas.List.{length-append}
use Rattle.sw_base.specs.Text.{Spans}
use Rattle.sw_lex.specs.Unit.{Heading, common, path, heading_text, IsHeading, IsMnemonic, IsPath, colon, colons, Asks, Datum, datum_text, LeadsElement, Ends}
use Rattle.sw_lex.specs.Unit.{IsNext}
use Rattle.sw_lex.specs.Unit.{IsLast, IsData, IsTail, IsUnit, UnitSeen}

pub longer : (text part rest : List ℕ) → text ≡ part ++ rest → length part + length rest ≡ length text
longer text part rest e = omega (arith, length-append part rest, ap (λ (t : List ℕ). length t) e)

span_rest : (test : ℕ → Bool) (text front rest : List ℕ) → Spans test text front rest → length rest ≤ length text
span_rest test text front rest s = omega (arith, longer text front rest s.whole)

leads_rest : (text : List ℕ) (d : Datum) (after : List ℕ) → LeadsElement text d after → length after ≤ length text
leads_rest text d after l = omega (arith, longer text (datum_text d) after l.whole)

ends_rest : (text rest : List ℕ) → Ends text rest → length rest ≤ length text
ends_rest [] rest e = omega (arith, ap (λ (t : List ℕ). length t) e)
ends_rest (b ∷ more) rest e = omega (arith, ap (λ (t : List ℕ). length t) e.1)

next_rest : (text : List ℕ) (d : Datum) (next : List ℕ) → IsNext text d next → length next ≤ length text
next_rest text d next n =
    omega (arith, leads_rest text d n.after n.element, span_rest _ n.after n.gap (44 ∷ n.others) n.before, span_rest _ n.others n.space next n.behind)

last_rest : (text : List ℕ) (d : Datum) (rest : List ℕ) → IsLast text d rest → length rest ≤ length text
last_rest text d rest l =
    omega (arith, leads_rest text d l.after l.element, span_rest _ l.after l.gap l.end l.before, ends_rest l.end rest l.ends)

data_rest : (text : List ℕ) (ds : List Datum) (rest : List ℕ) → IsData text ds rest → length rest ≤ length text
data_rest text [] rest h = absurd h
data_rest text (d ∷ []) rest h = last_rest text d rest h
data_rest text (d ∷ c ∷ ds) rest h = omega (arith, next_rest text d h.0 h.1, data_rest h.0 (c ∷ ds) rest h.2)

tail_rest : (tail : List ℕ) (ds : List Datum) (rest : List ℕ) → IsTail tail ds rest → length rest ≤ length tail
tail_rest tail ds rest t =
    elim t.follows [
      | inl e ↦ omega (arith, span_rest _ tail t.gap t.more t.before, ends_rest t.more rest e.1)
      | inr d ↦ omega (arith, span_rest _ tail t.gap t.more t.before, data_rest t.more ds rest d.2)
    ]

asks_rest : (after : List ℕ) (query : Bool) (tail : List ℕ) → Asks after query tail → length tail ≤ length after
asks_rest after true tail a = omega (arith, ap (λ (t : List ℕ). length t) a)
asks_rest after false tail a = omega (arith, ap (λ (t : List ℕ). length t) a.0)

mnemonic_some : (m : List ℕ) → IsMnemonic m → 0 < length m
mnemonic_some [] h = absurd h
mnemonic_some (b ∷ bs) h = omega arith

path_some : (t : List ℕ) → IsPath t → 0 < length t
path_some t p = omega (arith, longer t (colons p.nodes) p.last p.whole, mnemonic_some p.last p.last_one)

pub heading_some : (h : Heading) → IsHeading h → 0 < length (heading_text h)
heading_some (common t) i = omega (arith, ap (λ (x : List ℕ). length x) i.2)
heading_some (path leading t) i = omega (arith, path_some t i, length-append (colon leading) t)

pub unit_rest : (text : List ℕ) (unit : UnitSeen) (rest : List ℕ) → IsUnit text unit rest → length rest < length text
unit_rest text unit rest u =
    let a = span_rest _ text u.before u.start u.skipped in
    let b = longer u.start (heading_text unit.header) u.after u.header.whole in
    let c = heading_some unit.header u.header.form in
    let d = asks_rest u.after unit.query u.tail u.asks in
    let e = tail_rest u.tail unit.elements rest u.follows in
    omega (arith, a, b, c, d, e)
