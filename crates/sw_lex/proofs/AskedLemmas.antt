-- The numbers of the words as which a header is looked up.
use Rattle.std.proofs.Common.{◌≡◌, ℕ, zero, suc, ◌-◌, ◌≤◌, ◌<◌, Bool, true, false, List, [], ◌∷◌, ◌++◌, length, take, map, refl, sym, ap, subst, ◌∙◌, arith}
use Rattle.std.proofs.Common.{inl, inr}
use Rattle.std.specs.Prelude.{nat_le, IfSome, IfNone, Option, Some, None}
use Rattle.std.specs.List.{list_all, filter}
use Rattle.std.specs.Char.{to_ascii_uppercase}
use Rattle.std.proofs.lemmas.Bool.{and_parts, cases_Bool}
use Rattle.std.proofs.lemmas.Grind.{common_steps}
use Rattle.std.proofs.lemmas.List.{length-append, length-map, map-append, take_all, take-take, take_at, take-map, length-take, length-take-le}
use Rattle.sw_base.specs.Text.{AllPass}
use Rattle.sw_base.specs.declared.error.ScpiError.TheVariants.{UndefinedHeader}
use Rattle.sw_lex.specs.declared.unit.Header.{Header}
use Rattle.sw_lex.specs.Meaning.{Nodes, capitals, all_but_last, IsRefusal}
use Rattle.sw_lex.specs.Values.{unnumbered}
use Rattle.sw_lex.specs.Table.{entries}
use Rattle.sw_lex.specs.Packed.{is_byte, last_bytes, word_of, number_at, groups_packed, IsNumberOf, AreNumbersOf}
use Rattle.sw_lex.specs.Headed.{word_number, header_nodes, header_numbers, header_bytes, header_part, first_word, first_or}
use Rattle.sw_lex.specs.Parts.{part_of, belongs}
use Rattle.sw_lex.specs.Rows.{entries_of}
use Rattle.sw_lex.specs.declared.rows.Subsystem.{Subsystem}
use Rattle.sw_lex.specs.declared.table.HeaderMeaning.{HeaderMeaning}
use Rattle.sw_lex.specs.Found.{IsFound}
use Rattle.sw_lex.proofs.PackedLemmas.{last_packed, last_length, last_pass}
use Rattle.sw_lex.proofs.PartsLemmas.{nothing_there}
use Rattle.sw_lex.proofs.SpelledLemmas.{too_long, node_fits, found_fits}
use Rattle.sw_lex.proofs.ApartLemmas.{entries_short, entries_fit}

abbrev up : List ℕ → List ℕ
up word = map to_ascii_uppercase word

-- ---- lists of words and of numbers

are_append : (ws vs : List (List ℕ)) (ns ms : List ℕ) → AreNumbersOf ws ns → AreNumbersOf vs ms → AreNumbersOf (ws ++ vs) (ns ++ ms)
are_append [] vs [] ms a b = b
are_append [] vs (n ∷ ns) ms a b = absurd a
are_append (w ∷ ws) vs [] ms a b = absurd a
are_append (w ∷ ws) vs (n ∷ ns) ms a b = (a.0, are_append ws vs ns ms a.1 b)

pub as_many : (ws : List (List ℕ)) (ns : List ℕ) → AreNumbersOf ws ns → length ws ≡ length ns
as_many [] [] a = refl
as_many [] (n ∷ ns) a = absurd a
as_many (w ∷ ws) [] a = absurd a
as_many (w ∷ ws) (n ∷ ns) a = omega (arith, as_many ws ns a.1)

all_bytes : (xs : List ℕ) → list_all is_byte xs ≡ true → AllPass is_byte xs
all_bytes [] h = tt
all_bytes (x ∷ xs) h = let p = and_parts (is_byte x) (list_all is_byte xs) h in (p.0, all_bytes xs p.1)

number_of_word : (word : List ℕ) → list_all is_byte word ≡ true → IsNumberOf word (number_at word)
number_of_word word h =
    elim (cases_Bool (nat_le (length word) 12)) [
      | inl l ↦ inl (grind (arith, common_steps, l), all_bytes word h, rw l refl)
      | inr l ↦ inr (grind (arith, common_steps, l), rw l refl)
    ]

are_numbers : (ws : List (List ℕ)) → list_all (λ w. list_all is_byte (up w)) ws ≡ true → AreNumbersOf (capitals ws) (map word_number ws)
are_numbers [] h = tt
are_numbers (w ∷ ws) h =
    let p = and_parts (list_all is_byte (up w)) (list_all (λ w. list_all is_byte (up w)) ws) h in
    (number_of_word (up w) p.0, are_numbers ws p.1)

-- ---- the word of a number

upper_twice : (b : ℕ) → to_ascii_uppercase (to_ascii_uppercase b) ≡ to_ascii_uppercase b
upper_twice b = grind (arith, common_steps)

pub up_twice : (word : List ℕ) → up (up word) ≡ up word
up_twice [] = refl
up_twice (b ∷ word) = ap (λ (x : ℕ). x ∷ up (up word)) (upper_twice b) ∙ ap (λ (x : List ℕ). to_ascii_uppercase b ∷ x) (up_twice word)

byte_up : (b : ℕ) → is_byte b ≡ true → is_byte (to_ascii_uppercase b) ≡ true
byte_up b h = grind (arith, common_steps)

bytes_up : (word : List ℕ) → AllPass is_byte word → AllPass is_byte (up word)
bytes_up [] a = tt
bytes_up (b ∷ word) a = (byte_up b a.0, bytes_up word a.1)

word_short : (n : ℕ) → length (word_of n) ≤ 12
word_short n = omega (arith, length-map (last_bytes 12 n) to_ascii_uppercase, last_length 12 n)

-- a number that is that of its word
number_back : (n : ℕ) → n ≡ number_at (word_of n) → IsNumberOf (up (word_of n)) n
number_back n e =
    let s = word_short n in
    let l : nat_le (length (word_of n)) 12 ≡ true = grind (arith, common_steps, s) in
    subst (λ (w : List ℕ). IsNumberOf w n) (sym (up_twice (last_bytes 12 n)))
    (inl (s, bytes_up (last_bytes 12 n) (last_pass 12 n), rw l at e))

-- the word of the number of a word
word_back : (w : List ℕ) (n : ℕ) → IsNumberOf (up w) n → length (up w) ≤ 12 → (word_of n ≡ up w) × (n ≡ number_at (up w))
word_back w n i s =
    elim i [
      | inl a ↦
          let l : nat_le (length (up w)) 12 ≡ true = grind (arith, common_steps, s) in (
            ap (λ (m : ℕ). word_of m) a.2 ∙ ap (λ (x : List ℕ). up x) (last_packed 12 (up w) s a.1) ∙ up_twice w,
            rw l a.2,
          )
      | inr a ↦ absurd (omega (arith, a.0, s))
    ]

-- ---- the numbers of a path

abbrev pub Sound : List ℕ → Type 0
Sound ns = ns ≡ map number_at (map word_of ns)

heads : (m n : ℕ) (ms ns : List ℕ) → m ∷ ms ≡ n ∷ ns → (m ≡ n) × (ms ≡ ns)
heads m n ms ns e = (let a : m ≡ n = cc in a, let b : ms ≡ ns = cc in b)

path_numbers : (ns : List ℕ) → Sound ns → AreNumbersOf (capitals (map word_of ns)) ns
path_numbers [] s = tt
path_numbers (n ∷ ns) s =
    let p = heads n (number_at (word_of n)) ns (map number_at (map word_of ns)) s in
    (number_back n p.0, path_numbers ns p.1)

capitals_both : (ws vs : Nodes) → capitals (ws ++ vs) ≡ capitals ws ++ capitals vs
capitals_both ws vs = map-append (λ (w : List ℕ). up w) ws vs

are_take : (k : ℕ) (ws : List (List ℕ)) (ns : List ℕ) → AreNumbersOf ws ns → AreNumbersOf (take k ws) (take k ns)
are_take zero ws ns a = tt
are_take (suc k) [] [] a = tt
are_take (suc k) [] (n ∷ ns) a = absurd a
are_take (suc k) (w ∷ ws) [] a = absurd a
are_take (suc k) (w ∷ ws) (n ∷ ns) a = (a.0, are_take k ws ns a.1)

take_behind : (j k : ℕ) (xs ys : List ℕ) → j ≤ k → take j (xs ++ take k ys) ≡ take j (xs ++ ys)
take_behind zero k xs ys l = refl
take_behind (suc j) k [] ys l = take-take (suc j) k ys l
take_behind (suc j) k (x ∷ xs) ys l = ap (λ (zs : List ℕ). x ∷ zs) (take_behind j k xs ys (omega (arith, l)))

-- ---- the words as which a header is looked up

header_are : (h : Header) → header_bytes h ≡ true → AreNumbersOf (capitals (header_nodes h)) (map word_number (header_nodes h))
header_are h b = are_numbers (header_nodes h) b

pub from_root : (h : Header) (us : List ℕ) (all : Nodes) → header_bytes h ≡ true → us ≡ header_numbers h → all ≡ header_nodes h
    → AreNumbersOf (take 5 (capitals all)) us
from_root h us all b e l =
    rw (l, e) (are_take 5 (capitals (header_nodes h)) (map word_number (header_nodes h)) (header_are h b))

pub from_path : (h : Header) (ns us kept : List ℕ) (all : Nodes) → Sound ns → header_bytes h ≡ true → us ≡ header_numbers h
    → all ≡ map word_of ns ++ header_nodes h → kept ≡ take 5 (ns ++ us) → AreNumbersOf (take 5 (capitals all)) kept
from_path h ns us kept all s b e l k =
    let f : kept ≡ take 5 (ns ++ map word_number (header_nodes h)) =
    k ∙ ap (λ (x : List ℕ). take 5 (ns ++ x)) e ∙ take_behind 5 5 ns (map word_number (header_nodes h)) (omega arith) in
    let g : capitals all ≡ capitals (map word_of ns) ++ capitals (header_nodes h) =
    ap (λ (x : Nodes). capitals x) l ∙ capitals_both (map word_of ns) (header_nodes h) in
    rw (g, f) (are_take 5 (capitals (map word_of ns) ++ capitals (header_nodes h)) (ns ++ map word_number (header_nodes h))
    (are_append (capitals (map word_of ns)) (capitals (header_nodes h)) ns (map word_number (header_nodes h)) (path_numbers ns s) (header_are h b)))

first_up : (ws : Nodes) → first_word (capitals ws) ≡ up (first_word ws)
first_up [] = refl
first_up (w ∷ ws) = refl

-- the letter of the first of them
pub root_part : (h : Header) (all : Nodes) → all ≡ header_nodes h → part_of (first_word (capitals all)) ≡ part_of (up (first_word (header_nodes h)))
root_part h all l = ap (λ (x : Nodes). part_of (first_word (capitals x))) l ∙ ap (λ (w : List ℕ). part_of w) (first_up (header_nodes h))

pub root_letter : (h : Header) (all : Nodes) (letter : ℕ) → all ≡ header_nodes h → header_part h ≡ part_of (up (first_word (header_nodes h)))
    → header_part h ≡ (false, letter) → part_of (first_word (capitals all)) ≡ (false, letter)
root_letter h all letter l b e = root_part h all l ∙ sym b ∙ e

pub path_part : (h : Header) (ns : List ℕ) (letter : ℕ) (all : Nodes) → 0 < length ns → part_of (first_or letter (map word_of ns)) ≡ (false, letter)
    → all ≡ map word_of ns ++ header_nodes h → part_of (first_word (capitals all)) ≡ (false, letter)
path_part h [] letter all s p l = absurd (omega (arith, s))
path_part h (n ∷ ns) letter all s p l =
    ap (λ (x : Nodes). part_of (first_word (capitals x))) l ∙ ap (λ (w : List ℕ). part_of w) (up_twice (last_bytes 12 n)) ∙ p

-- ---- a header that was found

few_found : (ws : Nodes) (query : Bool) (key : HeaderMeaning) (k : ℕ) → IsFound entries ws query key k → length ws ≤ 4
few_found ws query key k f =
    elim (cases_Bool (nat_le (length ws) 4)) [
      | inl l ↦ grind (arith, common_steps, l)
      | inr l ↦ absurd (too_long entries ws entries_short (grind (arith, common_steps, l)) query key k f)
    ]

some_found : (ws : Nodes) (query : Bool) (key : HeaderMeaning) (k : ℕ) → IsFound entries ws query key k → 0 < length ws
some_found [] query key k f = absurd (nothing_there query key k f)
some_found (w ∷ ws) query key k f = omega arith

words_back : (all : Nodes) (ns : List ℕ) → AreNumbersOf (capitals all) ns → list_all node_fits (capitals all) ≡ true
    → (map word_of ns ≡ capitals all) × (ns ≡ map number_at (capitals all))
words_back [] [] a t = (refl, refl)
words_back [] (n ∷ ns) a t = absurd a
words_back (w ∷ ws) [] a t = absurd a
words_back (w ∷ ws) (n ∷ ns) a t =
    let p = and_parts (node_fits (up w)) (list_all node_fits (capitals ws)) t in
    let f = p.0 in
    let s : length (up w) ≤ 12 = grind (arith, common_steps, f) in
    let b = word_back w n a.0 s in
    let r = words_back ws ns a.1 p.1 in (
      ap (λ (x : List ℕ). x ∷ map word_of ns) b.0 ∙ ap (λ (x : Nodes). up w ∷ x) r.0,
      ap (λ (x : ℕ). x ∷ ns) b.1 ∙ ap (λ (x : List ℕ). number_at (up w) ∷ x) r.1,
    )

-- the numbers of a header that was found, which are all kept
pub record Entered (all : Nodes) (kept : List ℕ) : Type 0 where
  pub words : map word_of kept ≡ capitals all
  pub numbers : kept ≡ map number_at (capitals all)
  pub long : length kept ≡ length all
  pub some : 0 < length kept
  pub few : length kept ≤ 4

pub entered : (all : Nodes) (kept : List ℕ) (query : Bool) (key : HeaderMeaning) (k : ℕ) → AreNumbersOf (take 5 (capitals all)) kept
    → IsFound entries (capitals all) query key k → Entered all kept
entered all kept query key k a f =
    let few = few_found (capitals all) query key k f in
    let whole : take 5 (capitals all) ≡ capitals all = take_all 5 (capitals all) (omega (arith, few)) in
    let b : AreNumbersOf (capitals all) kept = subst (λ (ws : Nodes). AreNumbersOf ws kept) whole a in
    let w = words_back all kept b (found_fits entries (capitals all) entries_fit query key k f) in
    let m = as_many (capitals all) kept b in
    record {
      words = w.0;
      numbers = w.1;
      long = omega (arith, m, length-map all (λ (w : List ℕ). up w));
      some = omega (arith, m, some_found (capitals all) query key k f);
      few = omega (arith, m, few);
    }

-- ---- the path after it

-- the front of the numbers that are kept
front : (kept : List ℕ) (c : ℕ) (room : List ℕ) → take c room ≡ kept → c ≡ length kept → take (c - 1) room ≡ take (c - 1) kept
front kept c room t e = sym (take-take (c - 1) c room (omega arith)) ∙ ap (λ (x : List ℕ). take (c - 1) x) t

pub path_words : (all : Nodes) (kept : List ℕ) (c : ℕ) (room : List ℕ) → Entered all kept → take c room ≡ kept → c ≡ length kept
    → map word_of (take (c - 1) room) ≡ capitals (all_but_last all)
path_words all kept c room e t l =
    let n : c - 1 ≡ length all - 1 = omega (arith, l, e.long) in
    ap (λ (x : List ℕ). map word_of x) (front kept c room t l) ∙ sym (take-map word_of (c - 1) kept)
    ∙ ap (λ (x : Nodes). take (c - 1) x) e.words ∙ ap (λ (j : ℕ). take j (capitals all)) n
    ∙ take-map (λ (w : List ℕ). up w) (length all - 1) all

pub path_sound : (all : Nodes) (kept : List ℕ) (c : ℕ) (room : List ℕ) → Entered all kept → take c room ≡ kept → c ≡ length kept
    → Sound (take (c - 1) room)
path_sound all kept c room e t l =
    let f = front kept c room t l in
    let g : take (c - 1) kept ≡ map number_at (map word_of (take (c - 1) kept)) =
    ap (λ (x : List ℕ). take (c - 1) x) (e.numbers ∙ ap (λ (x : Nodes). map number_at x) (sym e.words))
    ∙ take-map number_at (c - 1) (map word_of kept) ∙ ap (λ (x : Nodes). map number_at x) (take-map word_of (c - 1) kept) in
    f ∙ g ∙ ap (λ (x : List ℕ). map number_at (map word_of x)) (sym f)

first_front : (k letter : ℕ) (all : Nodes) → part_of (first_word (capitals all)) ≡ (false, letter)
    → part_of (first_or letter (capitals (take k all))) ≡ (false, letter)
first_front zero letter all p = refl
first_front (suc k) letter [] p = refl
first_front (suc k) letter (w ∷ ws) p = p

pub path_begins : (all : Nodes) (kept : List ℕ) (c letter : ℕ) (room : List ℕ) → Entered all kept → take c room ≡ kept → c ≡ length kept
    → part_of (first_word (capitals all)) ≡ (false, letter) → part_of (first_or letter (map word_of (take (c - 1) room))) ≡ (false, letter)
path_begins all kept c letter room e t l p =
    ap (λ (x : Nodes). part_of (first_or letter x)) (path_words all kept c room e t l) ∙ first_front (length all - 1) letter all p

-- as many numbers as are counted
pub counted : (room : List ℕ) (c : ℕ) → length room ≡ 5 → c ≤ 5 → c ≡ length (take c room)
counted room c r l = sym (length-take-le c room (omega (arith, r, l)))

-- the path after a header that was found
pub record After (all : Nodes) (c letter : ℕ) (room : List ℕ) : Type 0 where
  pub some : 1 ≤ c
  pub few : c - 1 ≤ 3
  pub sound : Sound (take (c - 1) room)
  pub begins : part_of (first_or letter (map word_of (take (c - 1) room))) ≡ (false, letter)
  pub words : map word_of (take (c - 1) room) ≡ capitals (all_but_last all)

pub after_found : (all : Nodes) (kept : List ℕ) (c letter : ℕ) (room : List ℕ) → Entered all kept → take c room ≡ take 5 kept → length room ≡ 5 → c ≤ 5
    → part_of (first_word (capitals all)) ≡ (false, letter) → After all c letter room
after_found all kept c letter room e t r l p =
    let k : take c room ≡ kept = t ∙ take_all 5 kept (omega (arith, e.few)) in
    let n : c ≡ length kept = counted room c r l ∙ ap (λ (x : List ℕ). length x) k in
    record {
      some = omega (arith, n, e.some);
      few = omega (arith, n, e.few);
      sound = path_sound all kept c room e k n;
      begins = path_begins all kept c letter room e k n p;
      words = path_words all kept c room e k n;
    }

-- the path that was there before
pub path_stays : (old room us : List ℕ) (b c : ℕ) → length old ≡ 5 → length room ≡ 5 → b ≤ 5 → c ≤ 5 → take c room ≡ take 5 (take b old ++ us)
    → take b room ≡ take b old
path_stays old room us b c o r l m e =
    let a : length (take b old) ≡ b = length-take-le b old (omega (arith, o, l)) in
    let n : c ≡ length (take 5 (take b old ++ us)) = counted room c r m ∙ ap (λ (x : List ℕ). length x) e in
    let least : b ≤ c = omega (arith, n, l, a, length-take 5 (take b old ++ us), length-append (take b old) us) in
    sym (take-take b c room least) ∙ ap (λ (x : List ℕ). take b x) e ∙ take-take b 5 (take b old ++ us) l ∙ take_at (take b old) us b a

-- ---- numbers that are kept

kept_whole : (ws : Nodes) (ns : List ℕ) → AreNumbersOf (take 5 ws) ns → length ns ≤ 4 → AreNumbersOf ws ns
kept_whole ws ns a l =
    let t : length ws ≤ 4 = omega (arith, as_many (take 5 ws) ns a, l, length-take 5 ws) in
    subst (λ (vs : Nodes). AreNumbersOf vs ns) (take_all 5 ws (omega (arith, t))) a

-- where a header is found, or is not
abbrev pub AreRows : List Subsystem → Nodes → Bool → Type 0
AreRows groups ws query = entries_of groups ≡ filter (belongs (part_of (first_word ws)) query) entries

pub kept_some : (groups : List Subsystem) (ns : List ℕ) (o : Option (HeaderMeaning × ℕ)) → length ns ≤ 4
    → IfSome o (λ x. (query : Bool) (ws : Nodes) → AreNumbersOf ws ns → AreRows groups ws query → groups_packed groups ≡ true → IsFound entries ws query x.0
    x.1)
    → IfSome o (λ x. (query : Bool) (ws : Nodes) → AreNumbersOf (take 5 ws) ns → AreRows groups ws query → groups_packed groups ≡ true
    → IsFound entries ws query x.0 x.1)
kept_some groups ns None l h = h
kept_some groups ns (Some x) l h = λ query ws a. h query ws (kept_whole ws ns a l)

pub kept_none : (groups : List Subsystem) (ns : List ℕ) (o : Option (HeaderMeaning × ℕ)) → length ns ≤ 4
    → IfNone o ((query : Bool) (ws : Nodes) → AreNumbersOf ws ns → AreRows groups ws query → groups_packed groups ≡ true → (key : HeaderMeaning) (k : ℕ)
    → IsFound entries ws query key k → ⊥)
    → IfNone o ((query : Bool) (ws : Nodes) → AreNumbersOf (take 5 ws) ns → AreRows groups ws query → groups_packed groups ≡ true → (key : HeaderMeaning) (k : ℕ)
    → IsFound entries ws query key k → ⊥)
kept_none groups ns None l h = λ query ws a. h query ws (kept_whole ws ns a l)
kept_none groups ns (Some x) l h = h

pub kept_many : (ws : Nodes) (ns : List ℕ) (query : Bool) → 4 < length ns → AreNumbersOf (take 5 ws) ns → (key : HeaderMeaning) (k : ℕ)
    → IsFound entries ws query key k → ⊥
kept_many ws ns query l a =
    too_long entries ws entries_short (omega (arith, as_many (take 5 ws) ns a, l, length-take 5 ws)) query

-- the rows among which a header is looked up
pub rows_at : (groups : List Subsystem) (ws : Nodes) (query : Bool) (part : Bool × ℕ) → part_of (first_word ws) ≡ part
    → entries_of groups ≡ filter (belongs part query) entries → AreRows groups ws query
rows_at groups ws query part e w = subst (λ (p : Bool × ℕ). entries_of groups ≡ filter (belongs p query) entries) (sym e) w

pub found_at : (groups : List Subsystem) (ns : List ℕ) (ws : Nodes) (query : Bool) (o : Option (HeaderMeaning × ℕ)) → AreNumbersOf (take 5 ws) ns → AreRows groups ws query
    → groups_packed groups ≡ true
    → IfSome o (λ x. (query : Bool) (ws : Nodes) → AreNumbersOf (take 5 ws) ns → AreRows groups ws query → groups_packed groups ≡ true
    → IsFound entries ws query x.0 x.1)
    → IfSome o (λ x. IsFound entries ws query x.0 x.1)
found_at groups ns ws query None a e p h = h
found_at groups ns ws query (Some x) a e p h = h query ws a e p

pub absent_at : (groups : List Subsystem) (ns : List ℕ) (ws : Nodes) (query : Bool) (o : Option (HeaderMeaning × ℕ)) → AreNumbersOf (take 5 ws) ns → AreRows groups ws query
    → groups_packed groups ≡ true
    → IfNone o ((query : Bool) (ws : Nodes) → AreNumbersOf (take 5 ws) ns → AreRows groups ws query → groups_packed groups ≡ true → (key : HeaderMeaning) (k : ℕ)
    → IsFound entries ws query key k → ⊥)
    → IfNone o ((key : HeaderMeaning) (k : ℕ) → IsFound entries ws query key k → ⊥)
absent_at groups ns ws query None a e p h = h query ws a e p
absent_at groups ns ws query (Some x) a e p h = h

-- ---- a header of too many words

pub many_refused : (nodes : Nodes) (query : Bool) → 4 < length nodes → IsRefusal nodes query UndefinedHeader
many_refused nodes query l =
    inr (
      too_long entries (capitals (map unnumbered nodes)) entries_short
          (omega (arith, l, length-map (map unnumbered nodes) (λ (w : List ℕ). up w), length-map nodes unnumbered)) query,
      refl,
    )
