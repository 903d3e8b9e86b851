-- Which bytes are a label.
use Rattle.std.proofs.Common.{◌≡◌, ℕ, ◌<◌, ◌≤◌, Bool, true, false, List, [], ◌∷◌, ◌++◌, length, refl, sym, ap, ◌∙◌, arith}
use Rattle.std.specs.List.{list_all}
use Rattle.std.specs.Prelude.{◌&&◌, ◌==◌, nat_lt}
use Rattle.std.proofs.lemmas.Grind.{common_steps}
use Rattle.sw_base.specs.Text.{is_letter, is_word, AllPass, StartsOff, Spans}
use Rattle.sw_macro.specs.Label.{is_label}

front_all : (front rest : List ℕ) → AllPass is_word front → list_all is_word (front ++ rest) ≡ list_all is_word rest
front_all [] rest a = refl
front_all (b ∷ front) rest a = rw a.0 (front_all front rest a.1)

off_all : (rest : List ℕ) → StartsOff is_word rest → 0 < length rest → list_all is_word rest ≡ false
off_all [] o h = absurd (omega (arith, h))
off_all (b ∷ rest) o h = rw o refl

none_all : (rest : List ℕ) → length rest ≡ 0 → list_all is_word rest ≡ true
none_all [] h = refl
none_all (b ∷ rest) h = absurd (omega (arith, h))

pub words_all : (text front rest : List ℕ) → Spans is_word text front rest → length rest ≡ 0 → list_all is_word text ≡ true
words_all text front rest s h = ap (λ (t : List ℕ). list_all is_word t) s.whole ∙ front_all front rest s.pass ∙ none_all rest h

pub words_not : (text front rest : List ℕ) → Spans is_word text front rest → 0 < length rest → list_all is_word text ≡ false
words_not text front rest s h = ap (λ (t : List ℕ). list_all is_word t) s.whole ∙ front_all front rest s.pass ∙ off_all rest s.off h

pub words_test : (text front rest : List ℕ) → Spans is_word text front rest → (length rest == 0) ≡ list_all is_word text
words_test text front [] s = sym (words_all text front [] s refl)
words_test text front (b ∷ rest) s =
    let k : (length (b ∷ rest) == 0) ≡ false = grind (arith, common_steps) in
    k ∙ sym (words_not text front (b ∷ rest) s (omega arith))

short_at : (a b : Bool) (n : ℕ) → (a && (b && nat_lt n 12)) ≡ true → n < 12
short_at a b n h = grind (arith, common_steps)

pub label_short : (bytes : List ℕ) → is_label bytes ≡ true → length bytes ≤ 12
label_short [] h = absurd (let z : false ≡ true = h in cc)
label_short (b ∷ bs) h = let k : length bs < 12 = short_at (is_letter b) (list_all is_word bs) (length bs) h in omega (arith, k)
