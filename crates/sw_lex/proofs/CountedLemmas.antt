-- What the numbers of words match in the rows, the words do.
use Rattle.std.proofs.Common.{◌≡◌, ℕ, ◌+◌, ◌*◌, ◌≤◌, ◌<◌, Bool, true, List, [], ◌∷◌, length, refl, subst, arith, inl, inr, map, take, drop, get_or, Bor, Option}
use Rattle.std.proofs.Common.{Some, None}
use Rattle.std.specs.Prelude.{◌==◌, ◌&&◌, ◌-◌, nat_le, IfSome, IfNone}
use Rattle.std.specs.Char.{to_ascii_uppercase}
use Rattle.std.specs.List.{list_all, filter}
use Rattle.std.proofs.lemmas.Bool.{and_parts, eqb-true}
use Rattle.std.proofs.lemmas.Grind.{common_steps}
use Rattle.std.proofs.lemmas.List.{take_all}
use Rattle.sw_base.specs.Text.{AllPass}
use Rattle.sw_lex.specs.declared.table.HeaderMeaning.{HeaderMeaning}
use Rattle.sw_lex.specs.declared.packing.Mnemonic.{Mnemonic}
use Rattle.sw_lex.specs.declared.rows.HeaderNode.{HeaderNode}
use Rattle.sw_lex.specs.declared.rows.HeaderNode.TheVariants.{Must, May, Numbered}
use Rattle.sw_lex.specs.declared.rows.Row.{Row}
use Rattle.sw_lex.specs.declared.rows.Subsystem.{Subsystem}
use Rattle.sw_lex.specs.Table.{entries}
use Rattle.sw_lex.specs.Words.{short_of, long_of}
use Rattle.sw_lex.specs.Found.{IsForm, IsNumbered, Fits, IsFound}
use Rattle.sw_lex.specs.Rows.{nodes_at, row_nodes, entries_of, MatchesRow, Matches}
use Rattle.sw_lex.specs.Parts.{part_of, belongs}
use Rattle.sw_lex.specs.Packed.{is_byte, is_number, is_packed, node_packed, nodes_packed, rows_packed, groups_packed, packed, IsNumberOf, AreNumbersOf}
use Rattle.sw_lex.specs.Packed.{IsFormNumber, IsNumberedForm, FitNumbers, RowNumbers, GroupNumbers}
use Rattle.sw_lex.proofs.PackedLemmas.{HasNumber, number_so, number_yes, digit_behind, split_number, joined_number}
use Rattle.sw_lex.specs.Headed.{first_word}
use Rattle.sw_lex.proofs.PartsLemmas.{some_there, none_there, nothing_there}

-- ---- one form

all_pass : (test : ℕ → Bool) (xs : List ℕ) → list_all test xs ≡ true → AllPass test xs
all_pass test [] h = tt
all_pass test (x ∷ xs) h = let p = and_parts (test x) (list_all test xs) h in (p.0, all_pass test xs p.1)

number_has : (most n : ℕ) (word : List ℕ) → is_number most n word ≡ true → HasNumber most n word
number_has most n word h =
    let p = and_parts (n == packed word) (nat_le (length word) most && list_all is_byte word) h in
    let q = and_parts (nat_le (length word) most) (list_all is_byte word) p.1 in
    let l = q.0 in
    record {
      number = eqb-true n (packed word) p.0;
      short = grind (arith, common_steps, l);
      bytes = all_pass is_byte word q.1;
    }

abbrev HasBoth : ℕ → Mnemonic → Type 0
HasBoth most form = HasNumber most form.short (short_of form.text.now) × HasNumber most form.long (long_of form.text.now)

form_has : (most : ℕ) (form : Mnemonic) → is_packed most form ≡ true → HasBoth most form
form_has most form h =
    let p = and_parts (is_number most form.short (short_of form.text.now)) (is_number most form.long (long_of form.text.now)) h in
    (number_has most _ _ p.0, number_has most _ _ p.1)

looser : (n : ℕ) (word : List ℕ) → HasNumber 11 n word → HasNumber 12 n word
looser n word h = record { number = h.number; short = omega (arith, h.short); bytes = h.bytes }

both_looser : (form : Mnemonic) → HasBoth 11 form → HasBoth 12 form
both_looser form h = (looser _ _ h.0, looser _ _ h.1)

form_yes : (form : Mnemonic) (w : List ℕ) (n : ℕ) → HasBoth 12 form → IsNumberOf w n → IsFormNumber form n → IsForm form.text.now w
form_yes form w n h i f =
    elim f [ inl e ↦ inl (number_yes w _ n form.short h.0 i e) | inr e ↦ inr (number_yes w _ n form.long h.1 i e) ]

form_so : (form : Mnemonic) (w : List ℕ) (n : ℕ) → HasBoth 12 form → IsNumberOf w n → IsForm form.text.now w → IsFormNumber form n
form_so form w n h i f =
    elim f [ inl e ↦ inl (number_so w _ n form.short h.0 i e) | inr e ↦ inr (number_so w _ n form.long h.1 i e) ]

numbered_yes : (form : Mnemonic) (w : List ℕ) (n k : ℕ) → HasBoth 11 form → IsNumberOf w n → IsNumberedForm form k n → IsNumbered form.text.now k w
numbered_yes form w n k h i f = (
  f.0,
  f.1,
  elim f.3 [
    | inl e ↦ inl (number_yes w _ n (form.short * 256 + (48 + k)) (digit_behind _ form.short k f.1 h.0) i (joined_number n form.short k f.2 e))
    | inr e ↦ inr (number_yes w _ n (form.long * 256 + (48 + k)) (digit_behind _ form.long k f.1 h.1) i (joined_number n form.long k f.2 e))
  ],
)

numbered_so : (form : Mnemonic) (w : List ℕ) (n k : ℕ) → HasBoth 11 form → IsNumberOf w n → IsNumbered form.text.now k w → IsNumberedForm form k n
numbered_so form w n k h i f =
    elim f.2 [
      | inl e ↦
          let s = split_number n form.short k f.1 (number_so w _ n (form.short * 256 + (48 + k)) (digit_behind _ form.short k f.1 h.0) i e) in
          (f.0, f.1, s.0, inl s.1)
      | inr e ↦
          let s = split_number n form.long k f.1 (number_so w _ n (form.long * 256 + (48 + k)) (digit_behind _ form.long k f.1 h.1) i e) in
          (f.0, f.1, s.0, inr s.1)
    ]

-- ---- the nodes of one row

node_on : (node : HeaderNode) (nodes : List HeaderNode) → nodes_packed (node ∷ nodes) ≡ true → (node_packed node ≡ true) × (nodes_packed nodes ≡ true)
node_on node nodes h = and_parts (node_packed node) (nodes_packed nodes) h

fit_yes : (nodes : List HeaderNode) (ws : List (List ℕ)) (ns : List ℕ) (k : ℕ) → nodes_packed nodes ≡ true → AreNumbersOf ws ns → FitNumbers nodes ns k
    → Fits (nodes_at nodes) ws k
fit_yes [] [] [] k h i f = (refl, f.1)
fit_yes [] (w ∷ ws) [] k h i f = absurd i
fit_yes [] [] (n ∷ ns) k h i f = absurd i
fit_yes [] (w ∷ ws) (n ∷ ns) k h i f = absurd (let e : n ∷ ns ≡ [] = f.0 in cc)
fit_yes (Must form ∷ nodes) [] [] k h i f = f
fit_yes (Must form ∷ nodes) (w ∷ ws) [] k h i f = absurd i
fit_yes (Must form ∷ nodes) [] (n ∷ ns) k h i f = absurd i
fit_yes (Must form ∷ nodes) (w ∷ ws) (n ∷ ns) k h i f =
    let p = node_on (Must form) nodes h in
    (form_yes form w n (form_has 12 form p.0) i.0 f.0, fit_yes nodes ws ns k p.1 i.1 f.1)
fit_yes (May form ∷ nodes) [] [] k h i f = fit_yes nodes [] [] k (node_on (May form) nodes h).1 i f
fit_yes (May form ∷ nodes) (w ∷ ws) [] k h i f = absurd i
fit_yes (May form ∷ nodes) [] (n ∷ ns) k h i f = absurd i
fit_yes (May form ∷ nodes) (w ∷ ws) (n ∷ ns) k h i f =
    let p = node_on (May form) nodes h in
    elim f [
      | inl a ↦ inl (form_yes form w n (form_has 12 form p.0) i.0 a.0, fit_yes nodes ws ns k p.1 i.1 a.1)
      | inr a ↦ inr (fit_yes nodes (w ∷ ws) (n ∷ ns) k p.1 i a)
    ]
fit_yes (Numbered form ∷ nodes) [] [] k h i f = fit_yes nodes [] [] k (node_on (Numbered form) nodes h).1 i f
fit_yes (Numbered form ∷ nodes) (w ∷ ws) [] k h i f = absurd i
fit_yes (Numbered form ∷ nodes) [] (n ∷ ns) k h i f = absurd i
fit_yes (Numbered form ∷ nodes) (w ∷ ws) (n ∷ ns) k h i f =
    let p = node_on (Numbered form) nodes h in
    let b = form_has 11 form p.0 in
    elim f [
      | inl a ↦ inl (form_yes form w n (both_looser form b) i.0 a.0, fit_yes nodes ws ns k p.1 i.1 a.1)
      | inr a ↦ elim a [
        | inl c ↦ inr (inl (c.0, fit_yes nodes ws ns c.0 p.1 i.1 c.1, numbered_yes form w n k b i.0 c.2))
        | inr c ↦ inr (inr (fit_yes nodes (w ∷ ws) (n ∷ ns) k p.1 i c))
      ]
    ]

fit_so : (nodes : List HeaderNode) (ws : List (List ℕ)) (ns : List ℕ) (k : ℕ) → nodes_packed nodes ≡ true → AreNumbersOf ws ns → Fits (nodes_at nodes) ws k
    → FitNumbers nodes ns k
fit_so [] [] [] k h i f = (refl, f.1)
fit_so [] (w ∷ ws) [] k h i f = absurd i
fit_so [] [] (n ∷ ns) k h i f = absurd i
fit_so [] (w ∷ ws) (n ∷ ns) k h i f = absurd (let e : w ∷ ws ≡ [] = f.0 in cc)
fit_so (Must form ∷ nodes) [] [] k h i f = f
fit_so (Must form ∷ nodes) (w ∷ ws) [] k h i f = absurd i
fit_so (Must form ∷ nodes) [] (n ∷ ns) k h i f = absurd i
fit_so (Must form ∷ nodes) (w ∷ ws) (n ∷ ns) k h i f =
    let p = node_on (Must form) nodes h in
    (form_so form w n (form_has 12 form p.0) i.0 f.0, fit_so nodes ws ns k p.1 i.1 f.1)
fit_so (May form ∷ nodes) [] [] k h i f = fit_so nodes [] [] k (node_on (May form) nodes h).1 i f
fit_so (May form ∷ nodes) (w ∷ ws) [] k h i f = absurd i
fit_so (May form ∷ nodes) [] (n ∷ ns) k h i f = absurd i
fit_so (May form ∷ nodes) (w ∷ ws) (n ∷ ns) k h i f =
    let p = node_on (May form) nodes h in
    elim f [
      | inl a ↦ inl (form_so form w n (form_has 12 form p.0) i.0 a.0, fit_so nodes ws ns k p.1 i.1 a.1)
      | inr a ↦ inr (fit_so nodes (w ∷ ws) (n ∷ ns) k p.1 i a)
    ]
fit_so (Numbered form ∷ nodes) [] [] k h i f = fit_so nodes [] [] k (node_on (Numbered form) nodes h).1 i f
fit_so (Numbered form ∷ nodes) (w ∷ ws) [] k h i f = absurd i
fit_so (Numbered form ∷ nodes) [] (n ∷ ns) k h i f = absurd i
fit_so (Numbered form ∷ nodes) (w ∷ ws) (n ∷ ns) k h i f =
    let p = node_on (Numbered form) nodes h in
    let b = form_has 11 form p.0 in
    elim f [
      | inl a ↦ inl (form_so form w n (both_looser form b) i.0 a.0, fit_so nodes ws ns k p.1 i.1 a.1)
      | inr a ↦ elim a [
        | inl c ↦ inr (inl (c.0, fit_so nodes ws ns c.0 p.1 i.1 c.1, numbered_so form w n k b i.0 c.2))
        | inr c ↦ inr (inr (fit_so nodes (w ∷ ws) (n ∷ ns) k p.1 i c))
      ]
    ]

-- ---- the rows, and the groups

row_yes : (rows : List Row) (ws : List (List ℕ)) (ns : List ℕ) (query : Bool) (key : HeaderMeaning) (k : ℕ) → rows_packed rows ≡ true → AreNumbersOf ws ns
    → RowNumbers rows ns query key k → MatchesRow rows ws query key k
row_yes [] ws ns query key k h i m = absurd m
row_yes (row ∷ rows) ws ns query key k h i m =
    let p = and_parts (nodes_packed (row_nodes row)) (rows_packed rows) h in
    elim m [
      | inl a ↦ inl (a.0, a.1, fit_yes (row_nodes row) ws ns k p.0 i a.2)
      | inr b ↦ inr (row_yes rows ws ns query key k p.1 i b)
    ]

row_so : (rows : List Row) (ws : List (List ℕ)) (ns : List ℕ) (query : Bool) (key : HeaderMeaning) (k : ℕ) → rows_packed rows ≡ true → AreNumbersOf ws ns
    → MatchesRow rows ws query key k → RowNumbers rows ns query key k
row_so [] ws ns query key k h i m = absurd m
row_so (row ∷ rows) ws ns query key k h i m =
    let p = and_parts (nodes_packed (row_nodes row)) (rows_packed rows) h in
    elim m [
      | inl a ↦ inl (a.0, a.1, fit_so (row_nodes row) ws ns k p.0 i a.2)
      | inr b ↦ inr (row_so rows ws ns query key k p.1 i b)
    ]

pub groups_yes : (groups : List Subsystem) (w : List ℕ) (ws : List (List ℕ)) (n : ℕ) (ns : List ℕ) (query : Bool) (key : HeaderMeaning) (k : ℕ)
    → groups_packed groups ≡ true → IsNumberOf w n → AreNumbersOf ws ns → GroupNumbers groups n ns query key k → Matches groups w ws query key k
groups_yes [] w ws n ns query key k h j i m = absurd m
groups_yes (group ∷ groups) w ws n ns query key k h j i m =
    let p = and_parts (is_packed 12 group.first && rows_packed group.rows.now) (groups_packed groups) h in
    let q = and_parts (is_packed 12 group.first) (rows_packed group.rows.now) p.0 in
    elim m [
      | inl a ↦ inl (form_yes group.first w n (form_has 12 group.first q.0) j a.0, row_yes group.rows.now ws ns query key k q.1 i a.1)
      | inr b ↦ inr (groups_yes groups w ws n ns query key k p.1 j i b)
    ]

pub groups_so : (groups : List Subsystem) (w : List ℕ) (ws : List (List ℕ)) (n : ℕ) (ns : List ℕ) (query : Bool) (key : HeaderMeaning) (k : ℕ)
    → groups_packed groups ≡ true → IsNumberOf w n → AreNumbersOf ws ns → Matches groups w ws query key k → GroupNumbers groups n ns query key k
groups_so [] w ws n ns query key k h j i m = absurd m
groups_so (group ∷ groups) w ws n ns query key k h j i m =
    let p = and_parts (is_packed 12 group.first && rows_packed group.rows.now) (groups_packed groups) h in
    let q = and_parts (is_packed 12 group.first) (rows_packed group.rows.now) p.0 in
    elim m [
      | inl a ↦ inl (form_so group.first w n (form_has 12 group.first q.0) j a.0, row_so group.rows.now ws ns query key k q.1 i a.1)
      | inr b ↦ inr (groups_so groups w ws n ns query key k p.1 j i b)
    ]

-- ---- the table

some_at : (groups : List Subsystem) (w : List ℕ) (ws : List (List ℕ)) (n : ℕ) (ns : List ℕ) (query : Bool) (o : Option (HeaderMeaning × ℕ)) → AreNumbersOf (w ∷ ws) (n ∷ ns)
    → entries_of groups ≡ filter (belongs (part_of w) query) entries → groups_packed groups ≡ true
    → IfSome o (λ x. (q : Bool) × GroupNumbers groups n ns q x.0 x.1) → IfSome o (λ x. IsFound entries (w ∷ ws) query x.0 x.1)
some_at groups w ws n ns query None a e p h = h
some_at groups w ws n ns query (Some x) a e p h =
    some_there (part_of w) groups w ws query (Some x) e (h.0, groups_yes groups w ws n ns h.0 x.0 x.1 p a.0 a.1 h.1)

none_at : (groups : List Subsystem) (w : List ℕ) (ws : List (List ℕ)) (n : ℕ) (ns : List ℕ) (query : Bool) (o : Option (HeaderMeaning × ℕ)) → AreNumbersOf (w ∷ ws) (n ∷ ns)
    → entries_of groups ≡ filter (belongs (part_of w) query) entries → groups_packed groups ≡ true
    → IfNone o ((q : Bool) (key : HeaderMeaning) (k : ℕ) → GroupNumbers groups n ns q key k → ⊥)
    → IfNone o ((key : HeaderMeaning) (k : ℕ) → IsFound entries (w ∷ ws) query key k → ⊥)
none_at groups w ws n ns query None a e p h =
    none_there groups w ws query None e (λ q key k m. h q key k (groups_so groups w ws n ns q key k p a.0 a.1 m))
none_at groups w ws n ns query (Some x) a e p h = h

rest_is : (n : ℕ) (ns : List ℕ) → take (length (n ∷ ns) - 1) ns ≡ ns
rest_is n ns = take_all (length (n ∷ ns) - 1) ns (omega arith)

found_at : (groups : List Subsystem) (ws : List (List ℕ)) (n : ℕ) (ns : List ℕ) (query : Bool) (x : HeaderMeaning × ℕ) → AreNumbersOf ws (n ∷ ns)
    → entries_of groups ≡ filter (belongs (part_of (first_word ws)) query) entries → groups_packed groups ≡ true
    → (q : Bool) × GroupNumbers groups n ns q x.0 x.1 → IsFound entries ws query x.0 x.1
found_at groups [] n ns query x a e p h = absurd a
found_at groups (w ∷ ws) n ns query x a e p h = some_at groups w ws n ns query (Some x) a e p h

missed_at : (groups : List Subsystem) (ws : List (List ℕ)) (n : ℕ) (ns : List ℕ) (query : Bool) → AreNumbersOf ws (n ∷ ns)
    → entries_of groups ≡ filter (belongs (part_of (first_word ws)) query) entries → groups_packed groups ≡ true
    → ((q : Bool) (key : HeaderMeaning) (k : ℕ) → GroupNumbers groups n ns q key k → ⊥) → (key : HeaderMeaning) (k : ℕ) → IsFound entries ws query key k → ⊥
missed_at groups [] n ns query a e p h = absurd a
missed_at groups (w ∷ ws) n ns query a e p h = none_at groups w ws n ns query None a e p h

pub found_some : (groups : List Subsystem) (ns : List ℕ) (c : ℕ) (o : Option (HeaderMeaning × ℕ)) → 1 ≤ length ns
    → IfSome o (λ x. (q : Bool) × GroupNumbers groups (get_or ns 0 c) (take (length ns - 1) (drop 1 ns)) q x.0 x.1)
    → IfSome o (λ x. (query : Bool) (ws : List (List ℕ)) → AreNumbersOf ws ns → entries_of groups ≡ filter (belongs (part_of (first_word ws)) query) entries
    → groups_packed groups ≡ true → IsFound entries ws query x.0 x.1)
found_some groups [] c o m h = absurd (omega (arith, m))
found_some groups (n ∷ ns) c None m h = h
found_some groups (n ∷ ns) c (Some x) m h = λ query ws a e p. found_at groups ws n ns query x a e p (
  h.0,
  subst (λ (y : List ℕ). GroupNumbers groups n y h.0 x.0 x.1) (rest_is n ns) h.1,
)

pub found_none : (groups : List Subsystem) (ns : List ℕ) (c : ℕ) (o : Option (HeaderMeaning × ℕ)) → 1 ≤ length ns
    → IfNone o ((q : Bool) (key : HeaderMeaning) (k : ℕ) → GroupNumbers groups (get_or ns 0 c) (take (length ns - 1) (drop 1 ns)) q key k → ⊥)
    → IfNone o ((query : Bool) (ws : List (List ℕ)) → AreNumbersOf ws ns → entries_of groups ≡ filter (belongs (part_of (first_word ws)) query) entries
    → groups_packed groups ≡ true → (key : HeaderMeaning) (k : ℕ) → IsFound entries ws query key k → ⊥)
found_none groups [] c o m h = absurd (omega (arith, m))
found_none groups (n ∷ ns) c None m h =
    λ query ws a e p. missed_at groups ws n ns query a e p
    (subst (λ (y : List ℕ). (q : Bool) (key : HeaderMeaning) (k : ℕ) → GroupNumbers groups n y q key k → ⊥) (rest_is n ns) h)
found_none groups (n ∷ ns) c (Some x) m h = h

pub nothing_of : (ws : List (List ℕ)) (ns : List ℕ) (query : Bool) → length ns < 1 → AreNumbersOf ws ns → (key : HeaderMeaning) (k : ℕ) → IsFound entries ws query key k →
    ⊥
nothing_of [] ns query l a key k f = nothing_there query key k f
nothing_of (w ∷ ws) [] query l a key k f = a
nothing_of (w ∷ ws) (n ∷ ns) query l a key k f = omega (arith, l)

-- ---- words that are texts

abbrev words_up : List (Bor (List ℕ)) → List (List ℕ)
words_up ws = map (λ w. map to_ascii_uppercase w.now) ws

first_up : (ws : List (Bor (List ℕ))) (d : Bor (List ℕ)) → 1 ≤ length ws → map to_ascii_uppercase (get_or ws 0 d).now ≡ first_word (words_up ws)
first_up [] d l = absurd (omega (arith, l))
first_up (w ∷ ws) d l = refl

rows_there : (groups : List Subsystem) (ws : List (Bor (List ℕ))) (d : Bor (List ℕ)) (query : Bool) → 1 ≤ length ws
    → entries_of groups ≡ filter (belongs (part_of (map to_ascii_uppercase (get_or ws 0 d).now)) query) entries
    → entries_of groups ≡ filter (belongs (part_of (first_word (words_up ws))) query) entries
rows_there groups ws d query l e = subst (λ (w : List ℕ). entries_of groups ≡ filter (belongs (part_of w) query) entries) (first_up ws d l) e

pub words_some : (groups : List Subsystem) (ws : List (Bor (List ℕ))) (d : Bor (List ℕ)) (ns : List ℕ) (query : Bool) (o : Option (HeaderMeaning × ℕ)) → 1 ≤ length ws
    → AreNumbersOf (words_up ws) ns → entries_of groups ≡ filter (belongs (part_of (map to_ascii_uppercase (get_or ws 0 d).now)) query) entries
    → groups_packed groups ≡ true
    → IfSome o (λ x. (query : Bool) (ws : List (List ℕ)) → AreNumbersOf ws ns → entries_of groups ≡ filter (belongs (part_of (first_word ws)) query) entries
    → groups_packed groups ≡ true → IsFound entries ws query x.0 x.1) → IfSome o (λ x. IsFound entries (words_up ws) query x.0 x.1)
words_some groups ws d ns query None l a e p h = h
words_some groups ws d ns query (Some x) l a e p h = h query (words_up ws) a (rows_there groups ws d query l e) p

pub words_none : (groups : List Subsystem) (ws : List (Bor (List ℕ))) (d : Bor (List ℕ)) (ns : List ℕ) (query : Bool) (o : Option (HeaderMeaning × ℕ)) → 1 ≤ length ws
    → AreNumbersOf (words_up ws) ns → entries_of groups ≡ filter (belongs (part_of (map to_ascii_uppercase (get_or ws 0 d).now)) query) entries
    → groups_packed groups ≡ true
    → IfNone o ((query : Bool) (ws : List (List ℕ)) → AreNumbersOf ws ns → entries_of groups ≡ filter (belongs (part_of (first_word ws)) query) entries
    → groups_packed groups ≡ true → (key : HeaderMeaning) (k : ℕ) → IsFound entries ws query key k → ⊥)
    → IfNone o ((key : HeaderMeaning) (k : ℕ) → IsFound entries (words_up ws) query key k → ⊥)
words_none groups ws d ns query None l a e p h = h query (words_up ws) a (rows_there groups ws d query l e) p
words_none groups ws d ns query (Some x) l a e p h = h
