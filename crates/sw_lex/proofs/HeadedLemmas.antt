-- The numbers of a header's words, where it is read.
use Rattle.std.proofs.Common.{◌≡◌, ℕ, zero, suc, ◌+◌, ◌≤◌, Bool, true, false, not, List, [], ◌∷◌, ◌++◌, length, take, drop, map, refl, sym, ap, subst, ◌∙◌}
use Rattle.std.proofs.Common.{append_assoc, arith, inl, inr}
use Rattle.std.specs.Prelude.{◌==◌, ◌≢◌, get_or, nat_le, ◌<◌}
use Rattle.std.proofs.lemmas.Bool.{cases_Bool}
use Rattle.std.specs.List.{AllByRecursion, list_all}
use Rattle.std.specs.Char.{to_ascii_uppercase}
use Rattle.std.proofs.lemmas.Grind.{common_steps, take_at_read}
use Rattle.std.proofs.Math.Seq.{drop-cons}
use Rattle.std.proofs.lemmas.List.{append-nil, take_all, length-take-le, length-map, map_push, take-append-drop}
use Rattle.sw_base.specs.Text.{is_letter, is_word, AllPass, Lacks, StartsOff, Spans}
use Rattle.sw_base.proofs.Runs.{AllPass-append, AllPass-weaker, lacks}
use Rattle.sw_lex.specs.Unit.{IsMnemonic, IsName, IsHeading, heading_of, colons, IsPath}
use Rattle.sw_lex.specs.Split.{nodes_of}
use Rattle.sw_lex.specs.Headed.{word_number, path_numbers, header_bytes, header_part, header_nodes, first_word}
use Rattle.sw_lex.specs.Packed.{is_byte, capital_of, IsNumberOf}
use Rattle.sw_lex.specs.Parts.{part_of}
use Rattle.sw_lex.specs.declared.unit.Header.{Header}
use Rattle.sw_lex.specs.declared.unit.Header.TheVariants as headers
use Rattle.sw_lex.proofs.NodesLemmas.{nodes_one, nodes_cut}
use Rattle.sw_lex.proofs.UnitsLemmas.{PathFront, PathFront-path, PathFront-rest, each-push, whole-push, len-push, front_of, front-whole, front-len}

letter_lacks : (b : ℕ) → is_letter b ≡ true → not (b == 58) ≡ true
letter_lacks b h = lacks is_letter 58 refl b h

word_lacks : (b : ℕ) → is_word b ≡ true → not (b == 58) ≡ true
word_lacks b h = lacks is_word 58 refl b h

-- ---- a header so far, and the numbers of its words

pub record PathCounted (text : List ℕ) (n : ℕ) (rest kept : List ℕ) : Type 0 where
  pub nodes : List (List ℕ)
  pub each : AllByRecursion IsMnemonic nodes
  pub whole : text ≡ colons nodes ++ rest
  pub len : length (colons nodes) ≡ n
  pub counted : kept ≡ take 5 (map word_number nodes)

pub PathCounted-none : (text kept : List ℕ) → kept ≡ [] → PathCounted text 0 text kept
PathCounted-none text kept e = record { nodes = []; each = tt; whole = refl; len = refl; counted = e }

pub front_of_counted : (text : List ℕ) (n : ℕ) (rest kept : List ℕ) → PathCounted text n rest kept → PathFront text n rest
front_of_counted text n rest kept c = record { nodes = c.nodes; each = c.each; whole = c.whole; len = c.len }

pub take_twice : (k : ℕ) (xs ys : List ℕ) → take k (take k xs ++ ys) ≡ take k (xs ++ ys)
take_twice zero xs ys = refl
take_twice (suc k) [] ys = refl
take_twice (suc k) (x ∷ xs) ys = ap (λ (zs : List ℕ). x ∷ zs) (take_twice k xs ys)

-- numbers put behind others, one after the other
pub append_none : (room : List ℕ) (c : ℕ) → length room ≡ 5 → c ≤ 5 → take c room ≡ take 5 (take c room ++ [])
append_none room c r l =
    sym (ap (λ (x : List ℕ). take 5 x) (append-nil (take c room)) ∙ take_all 5 (take c room) (omega (arith, r, l, length-take-le c room (omega (arith, r, l)))))

pub append_more : (old kept now words : List ℕ) (i : ℕ) → i < length words → kept ≡ take 5 (old ++ take i words)
    → now ≡ take 5 (kept ++ get_or words i 0 ∷ []) → now ≡ take 5 (old ++ take (i + 1) words)
append_more old kept now words i l k e =
    let w = get_or words i 0 ∷ [] in
    e ∙ ap (λ (x : List ℕ). take 5 (x ++ w)) k ∙ take_twice 5 (old ++ take i words) w
    ∙ ap (λ (x : List ℕ). take 5 x) (append_assoc old (take i words) w ∙ ap (λ (x : List ℕ). old ++ x) (sym (take_at_read words i 0 l).1))

kept_on : (nodes : List (List ℕ)) (kept : List ℕ) (node : List ℕ) (number : ℕ) (now : List ℕ) → kept ≡ take 5 (map word_number nodes) → number ≡ word_number
    node
    → now ≡ take 5 (kept ++ number ∷ []) → now ≡ take 5 (map word_number (nodes ++ node ∷ []))
kept_on nodes kept node number now c e k =
    k ∙ ap (λ (x : ℕ). take 5 (kept ++ x ∷ [])) e ∙ ap (λ (x : List ℕ). take 5 (x ++ word_number node ∷ [])) c
    ∙ take_twice 5 (map word_number nodes) (word_number node ∷ [])
    ∙ ap (λ (x : List ℕ). take 5 x) (sym (map_push word_number nodes node))

pub counted_more : (text : List ℕ) (n : ℕ) (rest kept : List ℕ) (k number : ℕ) (now more : List ℕ) → PathCounted text n rest kept → k ≤ length rest
    → IsMnemonic (take k rest) → number ≡ word_number (take k rest) → now ≡ take 5 (kept ++ number ∷ []) → drop k rest ≡ 58 ∷ more
    → PathCounted text (n + k + 1) more now
counted_more text n rest kept k number now more c l m e w d = record {
  nodes = c.nodes ++ take k rest ∷ [];
  each = each-push c.nodes (take k rest) c.each m;
  whole = whole-push text rest (take k rest) more c.nodes c.whole (sym (take-append-drop k rest) ∙ ap (λ (t : List ℕ). take k rest ++ t) d);
  len = len-push c.nodes (take k rest) n c.len ∙ omega (arith, length-take-le k rest l);
  counted = kept_on c.nodes kept (take k rest) number now c.counted e w;
}

pub counted_path : (text : List ℕ) (n : ℕ) (rest kept : List ℕ) (k : ℕ) → PathCounted text n rest kept → k ≤ length rest → IsMnemonic (take k rest)
    → IsPath (take (n + k) text) × (text ≡ take (n + k) text ++ drop (n + k) text)
counted_path text n rest kept k c l m =
    subst (λ (j : ℕ). IsPath (take (n + j) text) × (text ≡ take (n + j) text ++ drop (n + j) text)) (length-take-le k rest l)
    (PathFront-path text n rest (take k rest) (drop k rest) (front_of_counted text n rest kept c) m (sym (take-append-drop k rest)))

pub counted_rest : (text : List ℕ) (n : ℕ) (rest kept : List ℕ) (k : ℕ) → PathCounted text n rest kept → k ≤ length rest → drop (n + k) text ≡ drop k rest
counted_rest text n rest kept k c l =
    subst (λ (j : ℕ). drop (n + j) text ≡ drop k rest) (length-take-le k rest l)
    (PathFront-rest text n rest (take k rest) (drop k rest) (front_of_counted text n rest kept c) (sym (take-append-drop k rest)))

-- a colon behind the word
pub colon_on : (text : List ℕ) (n : ℕ) (rest kept : List ℕ) (k : ℕ) → PathCounted text n rest kept → k ≤ length rest → n + k < length text
    → get_or text (n + k) 0 ≡ 58 → drop k rest ≡ 58 ∷ drop (n + k + 1) text
colon_on text n rest kept k c l s e =
    let f : suc (n + k) ≡ n + k + 1 = omega arith in
    sym (counted_rest text n rest kept k c l) ∙ drop-cons text (n + k) 0 s ∙ ap (λ (x : ℕ). x ∷ drop (suc (n + k)) text) e
    ∙ ap (λ (j : ℕ). 58 ∷ drop j text) f

mnemonic_word : (m : List ℕ) → IsMnemonic m → Lacks 58 m
mnemonic_word [] h = absurd h
mnemonic_word (b ∷ bs) h = (letter_lacks b h.0, AllPass-weaker is_word (λ (c : ℕ). not (c == 58)) word_lacks bs h.1)

pub nodes_are : (ms : List (List ℕ)) (last : List ℕ) → AllByRecursion IsMnemonic ms → IsMnemonic last → nodes_of (colons ms ++ last) ≡ ms ++ last ∷ []
nodes_are [] last a h = nodes_one last (mnemonic_word last h)
nodes_are (m ∷ ms) last a h =
    let e : colons (m ∷ ms) ++ last ≡ m ++ 58 ∷ (colons ms ++ last) =
    append_assoc (m ++ 58 ∷ []) (colons ms) last ∙ append_assoc m (58 ∷ []) (colons ms ++ last) in
    ap (λ (t : List ℕ). nodes_of t) e ∙ nodes_cut m (colons ms ++ last) (mnemonic_word m a.0)
    ∙ ap (λ (ns : List (List ℕ)). m ∷ ns) (nodes_are ms last a.1 h)

pub counted_numbers : (text : List ℕ) (n : ℕ) (rest kept : List ℕ) (k number : ℕ) (now : List ℕ) → PathCounted text n rest kept → k ≤ length rest
    → IsMnemonic (take k rest) → number ≡ word_number (take k rest) → now ≡ take 5 (kept ++ number ∷ []) → now ≡ path_numbers (take (n + k) text)
counted_numbers text n rest kept k number now c l m e w =
    let f : PathFront text n rest = record { nodes = c.nodes; each = c.each; whole = c.whole; len = c.len } in
    let t : take (n + k) text ≡ colons c.nodes ++ take k rest =
    front_of text (colons c.nodes ++ take k rest) (drop k rest) (n + k) (front-whole text n rest (take k rest) (drop k rest) f (sym (take-append-drop k rest)))
    (front-len text n rest (take k rest) f ∙ omega (arith, length-take-le k rest l)) in
    kept_on c.nodes kept (take k rest) number now c.counted e w
    ∙ ap (λ (ns : List (List ℕ)). take 5 (map word_number ns)) (sym (ap (λ (x : List ℕ). nodes_of x) t ∙ nodes_are c.nodes (take k rest) c.each m))

-- ---- a word that is too long

least : (k : ℕ) (a b : List ℕ) → StartsOff is_word b → k ≤ length (a ++ b) → AllPass is_word (take k (a ++ b)) → k ≤ length a
least zero a b o l h = omega arith
least (suc k) [] [] o l h = absurd (omega (arith, l))
least (suc k) [] (c ∷ b) o l h = absurd (let z : true ≡ false = sym h.0 ∙ o in cc)
least (suc k) (x ∷ a) b o l h = omega (arith, least k a b o (omega (arith, l)) h.1)

far_number : (word : List ℕ) → 12 < length word → 0 ≡ word_number word
far_number word l =
    let e : nat_le (length (map to_ascii_uppercase word)) 12 ≡ false = grind (arith, common_steps, length-map word to_ascii_uppercase, l) in
    rw e refl

pub capital_word : (b c : ℕ) → c ≡ capital_of b → c ≢ 0 → (is_word b ≡ true) × (c ≡ to_ascii_uppercase b)
capital_word b c e n =
    elim (cases_Bool (is_word b)) [
      | inl w ↦ (w, rw w at e)
      | inr w ↦ absurd (n (rw w at e))
    ]

-- the same of a second look
pub capital_so : (b c d : ℕ) → c ≡ capital_of b → c ≢ 0 → d ≡ capital_of b → d ≡ to_ascii_uppercase b
capital_so b c d e n f = f ∙ sym e ∙ (capital_word b c e n).1

pub word_more : (text : List ℕ) (n : ℕ) → n < length text → AllPass is_word (take n text) → is_word (get_or text n 0) ≡ true
    → AllPass is_word (take (n + 1) text)
word_more text n l a w =
    subst (λ (x : List ℕ). AllPass is_word x) (sym (take_at_read text n 0 l).1) (AllPass-append is_word (take n text) (get_or text n 0 ∷ []) a (w, tt))

pub letter_more : (text : List ℕ) (n : ℕ) → n < length text → AllPass is_letter (take n text) → is_letter (get_or text n 0) ≡ true
    → AllPass is_letter (take (n + 1) text)
letter_more text n l a w =
    subst (λ (x : List ℕ). AllPass is_letter x) (sym (take_at_read text n 0 l).1) (AllPass-append is_letter (take n text) (get_or text n 0 ∷ []) a (w, tt))

pub long_number : (text front rest : List ℕ) (n : ℕ) → Spans is_word text front rest → n ≡ 12 → n < length text → AllPass is_word (take n text)
    → is_word (get_or text n 0) ≡ true → 0 ≡ word_number (take (length front) text)
long_number text front rest n s e l a w =
    let all : AllPass is_word (take (n + 1) (front ++ rest)) = subst (λ (x : List ℕ). AllPass is_word (take (n + 1) x)) s.whole (word_more text n l a w) in
    let k : length text ≡ length (front ++ rest) = ap (λ (x : List ℕ). length x) s.whole in
    let far : n + 1 ≤ length front = least (n + 1) front rest s.off (omega (arith, l, k)) all in
    far_number front (omega (arith, far, e)) ∙ ap (λ (x : List ℕ). word_number x) (sym (front_of text front rest (length front) s.whole refl))

pub number_is : (word : List ℕ) (n : ℕ) → IsNumberOf (map to_ascii_uppercase word) n → n ≡ word_number word
number_is word n h =
    elim h [
      | inl a ↦
          let e : nat_le (length (map to_ascii_uppercase word)) 12 ≡ true = grind (arith, common_steps, a.0) in
          rw e a.2
      | inr a ↦
          let e : nat_le (length (map to_ascii_uppercase word)) 12 ≡ false = grind (arith, common_steps, a.0) in
          rw e a.1
    ]

-- ---- a header that was read

byte_word : (b : ℕ) → is_word b ≡ true → is_byte (to_ascii_uppercase b) ≡ true
byte_word b h = grind (arith, common_steps)

words_bytes : (w : List ℕ) → AllPass is_word w → list_all is_byte (map to_ascii_uppercase w) ≡ true
words_bytes [] h = refl
words_bytes (b ∷ bs) h = rw (byte_word b h.0, words_bytes bs h.1) refl

letter_word : (b : ℕ) → is_letter b ≡ true → is_word b ≡ true
letter_word b h = rw h refl

mnemonic_bytes : (m : List ℕ) → IsMnemonic m → list_all is_byte (map to_ascii_uppercase m) ≡ true
mnemonic_bytes [] h = refl
mnemonic_bytes (b ∷ bs) h = words_bytes (b ∷ bs) (letter_word b h.0, h.1)

name_bytes : (m : List ℕ) → IsName m → list_all is_byte (map to_ascii_uppercase m) ≡ true
name_bytes [] h = refl
name_bytes (b ∷ bs) h = words_bytes (b ∷ bs) (AllPass-weaker is_letter is_word letter_word (b ∷ bs) h)

abbrev all_bytes : List (List ℕ) → Bool
all_bytes ws = list_all (λ w. list_all is_byte (map to_ascii_uppercase w)) ws

nodes_bytes : (ms : List (List ℕ)) (last : List ℕ) → AllByRecursion IsMnemonic ms → IsMnemonic last → all_bytes (ms ++ last ∷ []) ≡ true
nodes_bytes [] last a h = rw (mnemonic_bytes last h) refl
nodes_bytes (m ∷ ms) last a h = rw (mnemonic_bytes m a.0, nodes_bytes ms last a.1 h) refl

pub heading_bytes : (h : Header) → IsHeading (heading_of h) → header_bytes h ≡ true
heading_bytes (headers.Common name) i = rw (i.2, name_bytes i.0 i.1) refl
heading_bytes (headers.Path leading nodes) i =
    ap (λ (ws : List (List ℕ)). all_bytes ws) (ap (λ (x : List ℕ). nodes_of x) i.whole ∙ nodes_are i.nodes i.last i.each i.last_one)
    ∙ nodes_bytes i.nodes i.last i.each i.last_one

letter_part : (c : ℕ) (x : List ℕ) → is_letter c ≡ true → part_of (map to_ascii_uppercase (c ∷ x)) ≡ (false, to_ascii_uppercase c)
letter_part c [] h = refl
letter_part c (y ∷ ys) h =
    let e : (to_ascii_uppercase c == 42) ≡ false = grind (arith, common_steps) in
    rw e refl

mnemonic_part : (m x : List ℕ) → IsMnemonic m → part_of (map to_ascii_uppercase (m ++ x)) ≡ part_of (map to_ascii_uppercase m)
mnemonic_part [] x h = absurd h
mnemonic_part (c ∷ cs) x h = letter_part c (cs ++ x) h.0 ∙ sym (letter_part c cs h.0)

nodes_part : (ms : List (List ℕ)) (last : List ℕ) → AllByRecursion IsMnemonic ms
    → part_of (map to_ascii_uppercase (colons ms ++ last)) ≡ part_of (map to_ascii_uppercase (first_word (ms ++ last ∷ [])))
nodes_part [] last a = refl
nodes_part (m ∷ ms) last a =
    ap (λ (x : List ℕ). part_of (map to_ascii_uppercase x))
    (append_assoc (m ++ 58 ∷ []) (colons ms) last ∙ append_assoc m (58 ∷ []) (colons ms ++ last)) ∙ mnemonic_part m (58 ∷ (colons ms ++ last)) a.0

nodes_letter : (ms : List (List ℕ)) (last : List ℕ) → AllByRecursion IsMnemonic ms → IsMnemonic last
    → (false, to_ascii_uppercase (get_or (colons ms ++ last) 0 0)) ≡ part_of (map to_ascii_uppercase (colons ms ++ last))
nodes_letter [] [] a h = absurd h
nodes_letter [] (c ∷ cs) a h = sym (letter_part c cs h.0)
nodes_letter ([] ∷ ms) last a h = absurd a.0
nodes_letter ((c ∷ cs) ∷ ms) last a h = sym (letter_part c _ a.0.0)

pub heading_begins : (h : Header) → IsHeading (heading_of h) → header_part h ≡ part_of (map to_ascii_uppercase (first_word (header_nodes h)))
heading_begins (headers.Common name) i = refl
heading_begins (headers.Path leading nodes) i =
    ap (λ (x : List ℕ). (false, to_ascii_uppercase (get_or x 0 0))) i.whole ∙ nodes_letter i.nodes i.last i.each i.last_one
    ∙ nodes_part i.nodes i.last i.each
    ∙ ap (λ (ws : List (List ℕ)). part_of (map to_ascii_uppercase (first_word ws)))
    (sym (ap (λ (x : List ℕ). nodes_of x) i.whole ∙ nodes_are i.nodes i.last i.each i.last_one))
