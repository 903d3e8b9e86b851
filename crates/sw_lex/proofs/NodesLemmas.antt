-- The nodes of a header.
use Rattle.std.proofs.Common.{◌≡◌, ℕ, ◌<◌, ◌≤◌, Bool, true, false, not, List, [], ◌∷◌, ◌++◌, length, refl, sym, ap, ◌∙◌, map}
use Rattle.std.proofs.Common.{append_assoc, arith, Bor, inl, inr, subst, Err}
use Rattle.std.specs.Prelude.{◌==◌, if◌then◌else◌}
use Rattle.std.proofs.lemmas.List.{length-append, length-map, map_push}
use Rattle.sw_base.specs.Text.{Lacks}
use Rattle.sw_lex.specs.Meaning.{Nodes, looked_up, capitals, asked, IsNone, IsRefusal, Resolves}
use Rattle.sw_lex.specs.Split.{nodes_of, led_by}
use Rattle.sw_lex.specs.Values.{unnumbered}
use Rattle.sw_base.specs.declared.error.ScpiError.{ScpiError}
use Rattle.sw_lex.specs.Unit.{UnitSeen}
use Rattle.std.specs.Char.{to_ascii_uppercase}
use Rattle.std.proofs.lemmas.Simd.{map-map}

not-true : (b : Bool) → not b ≡ true → b ≡ false
not-true true h = absurd (let z : false ≡ true = h in cc)
not-true false h = refl

-- a text without a colon is one node
pub nodes_one : (text : List ℕ) → Lacks 58 text → nodes_of text ≡ text ∷ []
nodes_one [] h = refl
nodes_one (b ∷ bs) h =
    let e : (b == 58) ≡ false = not-true (b == 58) h.0 in
    rw (e, nodes_one bs h.1) refl

pub nodes_cut : (left right : List ℕ) → Lacks 58 left → nodes_of (left ++ 58 ∷ right) ≡ left ∷ nodes_of right
nodes_cut [] right h = refl
nodes_cut (b ∷ bs) right h =
    let e : (b == 58) ≡ false = not-true (b == 58) h.0 in
    rw (e, nodes_cut bs right h.1) refl

led_some : (b : ℕ) (ns : Nodes) → 0 < length (led_by b ns)
led_some b [] = omega arith
led_some b (n ∷ ns) = omega arith

-- every text has a node
pub nodes_some : (text : List ℕ) → 0 < length (nodes_of text)
nodes_some [] = omega arith
nodes_some (b ∷ bs) =
    elim (b == 58) as (λ x. 0 < length (if x then [] ∷ nodes_of bs else led_by b (nodes_of bs))) [ true ↦ omega arith | false ↦ led_some b (nodes_of bs) ]

-- ---- nodes found so far

abbrev pub texts : List (Bor (List ℕ)) → Nodes
texts ws = map (λ w. w.now) ws

-- a list of nodes, and the nodes of a text that begins with one more
nodes_split : (below : Nodes) (node rest more : List ℕ) (all : Nodes) → below ++ nodes_of rest ≡ all → Lacks 58 node → rest ≡ node ++ 58 ∷ more
    → below ++ node ∷ nodes_of more ≡ all
nodes_split below node rest more all h l e =
    let n : nodes_of rest ≡ node ∷ nodes_of more = ap (λ (t : List ℕ). nodes_of t) e ∙ nodes_cut node more l in
    ap (λ (t : Nodes). below ++ t) (sym n) ∙ h

pub path_on : (below : Nodes) (node rest more : List ℕ) (all : Nodes) → below ++ nodes_of rest ≡ all → Lacks 58 node → rest ≡ node ++ 58 ∷ more
    → (below ++ node ∷ []) ++ nodes_of more ≡ all
path_on below node rest more all h l e = append_assoc below (node ∷ []) (nodes_of more) ∙ nodes_split below node rest more all h l e

pub nodes_on : (items : List (Bor (List ℕ))) (node : Bor (List ℕ)) (rest more : List ℕ) (all : Nodes) → texts items ++ nodes_of rest ≡ all → Lacks 58 node.now
    → rest ≡ node.now ++ 58 ∷ more → texts (items ++ node ∷ []) ++ nodes_of more ≡ all
nodes_on items node rest more all h l e =
    ap (λ (t : Nodes). t ++ nodes_of more) (map_push (λ (w : Bor (List ℕ)). w.now) items node) ∙ path_on (texts items) node.now rest more all h l e

pub nodes_end : (items : List (Bor (List ℕ))) (node : Bor (List ℕ)) (all : Nodes) → texts items ++ nodes_of node.now ≡ all → Lacks 58 node.now
    → texts (items ++ node ∷ []) ≡ all
nodes_end items node all h l =
    map_push (λ (w : Bor (List ℕ)). w.now) items node ∙ ap (λ (t : Nodes). texts items ++ t) (sym (nodes_one node.now l)) ∙ h

pub nodes_many : (items : List (Bor (List ℕ))) (rest : List ℕ) (all : Nodes) → texts items ++ nodes_of rest ≡ all → length items ≡ 4 → 4 < length all
nodes_many items rest all h e =
    let n : length (texts items ++ nodes_of rest) ≡ length all = ap (λ (t : Nodes). length t) h in
    omega (arith, n, e, length-append (texts items) (nodes_of rest), length-map items (λ (w : Bor (List ℕ)). w.now), nodes_some rest)

-- the nodes that were looked up are no more than those found
pub looked_few : (items : List (Bor (List ℕ))) (all : Nodes) → texts items ≡ all → length items ≤ 4 → length all ≤ 4
looked_few items all e few =
    let n : length (texts items) ≡ length all = ap (λ (t : Nodes). length t) e in
    omega (arith, n, few, length-map items (λ (w : Bor (List ℕ)). w.now))

-- the nodes in capitals, as the table is asked
pub capitals_of : (items : List (Bor (List ℕ))) (all : Nodes) → texts items ≡ all
    → map (λ (w : Bor (List ℕ)). map to_ascii_uppercase w.now) items ≡ capitals all
capitals_of items all e = sym (map-map (λ (t : List ℕ). map to_ascii_uppercase t) (λ (w : Bor (List ℕ)). w.now) items) ∙ ap (λ (t : Nodes). capitals t) e

-- the nodes without a number, in capitals
pub plain_of : (items nodes : List (Bor (List ℕ))) → texts items ≡ map (λ (w : Bor (List ℕ)). unnumbered w.now) nodes
    → map (λ (w : Bor (List ℕ)). map to_ascii_uppercase w.now) items ≡ capitals (map unnumbered (texts nodes))
plain_of items nodes e =
    capitals_of items (map (λ (w : Bor (List ℕ)). unnumbered w.now) nodes) e
    ∙ ap (λ (t : Nodes). capitals t) (sym (map-map unnumbered (λ (w : Bor (List ℕ)). w.now) nodes))

pub refused_is : (unit : UnitSeen) (below nodes : Nodes) (e : ScpiError) → nodes ≡ looked_up unit.header below → IsNone (asked unit below) unit.query
    → IsRefusal nodes unit.query e → Resolves unit below (Err e) below
refused_is unit below nodes e h n r =
    elim (subst (λ (x : Nodes). IsRefusal x unit.query e) h r) [
      | inl k ↦ inr (inl (record { nothing = n; key = k.0; number = k.1; found = k.2; refused = ap (λ (x : ScpiError). Err x) k.3; stays = refl }))
      | inr k ↦ inr (inr (record { nothing = n; nowhere = k.0; refused = ap (λ (x : ScpiError). Err x) k.1; stays = refl }))
    ]
