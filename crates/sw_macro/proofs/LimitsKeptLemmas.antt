-- The macros of a session stay within their limits, and a label that was removed is gone.
use Rattle.std.proofs.Common.{◌≡◌, ◌≤◌, ◌<◌, ℕ, true, false, ◌&&◌, List, [], ◌∷◌, ◌++◌, length, Some, None, refl, sym, ap, subst, ◌∙◌}
use Rattle.std.proofs.Common.{arith, length-append, inl, inr}
use Rattle.std.specs.List.{AllByRecursion, IsDistinct, list_all, list_any}
use Rattle.std.specs.Cmp.{IsEquivalence}
use Rattle.std.specs.Cmp.Lexicographic.{nat_list_eq_equiv}
use Rattle.std.specs.Str.{bytes_eq}
use Rattle.std.specs.Char.{to_ascii_uppercase}
use Rattle.std.proofs.Common.{Bor, Option}
use Rattle.std.specs.Prelude.{nat_lt, IfSome}
use Rattle.std.specs.Option.{option_map}
use Rattle.std.proofs.lemmas.Bool.{cases_Bool, and_parts, and_from}
use Rattle.std.proofs.lemmas.List.{length-map}
use Rattle.std.proofs.lemmas.Grind.{common_steps}
use Rattle.std.proofs.lemmas.Map.Keys.{IsDistinct-head, IsDistinct-tail, IsDistinct-cons, IsDistinct-push}
use Rattle.std.proofs.lemmas.Str.Ascii.{uppercase-uppercase}
use Rattle.sw_base.specs.Limits.{most_macros, longest_body, longest_mnemonic}
use Rattle.sw_base.specs.Text.{is_letter, is_word}
use Rattle.sw_macro.specs.Label.{is_label, in_capitals}
use Rattle.sw_macro.specs.Table.{Macro, IsMacro, same_label, IsTable, body_of, without_label}

-- ---- a label in capitals

letter_in_capitals : (b : ℕ) → is_letter b ≡ true → is_letter (to_ascii_uppercase b) ≡ true
letter_in_capitals b h = grind (arith, common_steps)

word_in_capitals : (b : ℕ) → is_word b ≡ true → is_word (to_ascii_uppercase b) ≡ true
word_in_capitals b h = grind (arith, common_steps)

words_in_capitals : (bs : List ℕ) → list_all is_word bs ≡ true → list_all is_word (in_capitals bs) ≡ true
words_in_capitals [] h = refl
words_in_capitals (b ∷ bs) h =
    let p = and_parts (is_word b) (list_all is_word bs) h in
    and_from (is_word (to_ascii_uppercase b)) (list_all is_word (in_capitals bs)) (word_in_capitals b p.0) (words_in_capitals bs p.1)

pub label_in_capitals : (bs : List ℕ) → is_label bs ≡ true → is_label (in_capitals bs) ≡ true
label_in_capitals [] h = h
label_in_capitals (b ∷ bs) h =
    let p = and_parts (is_letter b) (list_all is_word bs && nat_lt (length bs) longest_mnemonic) h in
    let q = and_parts (list_all is_word bs) (nat_lt (length bs) longest_mnemonic) p.1 in
    let short : nat_lt (length (in_capitals bs)) longest_mnemonic ≡ true = ap (λ (n : ℕ). nat_lt n longest_mnemonic) (length-map bs to_ascii_uppercase) ∙ q.1 in
    let words = and_from (list_all is_word (in_capitals bs)) (nat_lt (length (in_capitals bs)) longest_mnemonic) (words_in_capitals bs q.0) short in
    and_from (is_letter (to_ascii_uppercase b)) (list_all is_word (in_capitals bs) && nat_lt (length (in_capitals bs)) longest_mnemonic)
    (letter_in_capitals b p.0) words

pub capitals_twice : (bs : List ℕ) → in_capitals (in_capitals bs) ≡ in_capitals bs
capitals_twice [] = refl
capitals_twice (b ∷ bs) =
    ap (λ (c : ℕ). c ∷ in_capitals (in_capitals bs)) (uppercase-uppercase b) ∙ ap (λ (cs : List ℕ). to_ascii_uppercase b ∷ cs) (capitals_twice bs)

-- what was read as a label and a body that isn't too long make a macro
pub makes_macro : (key text body : List ℕ) → is_label text ≡ true → key ≡ in_capitals text → length body ≤ longest_body → IsMacro (key, body)
makes_macro key text body l k b =
    subst (λ (x : List ℕ). IsMacro (x, body)) (sym k) (record { label = label_in_capitals text l; capitals = capitals_twice text; body = b })

-- ---- no macro

pub kept_none : IsTable []
unfolding IsDistinct
kept_none = record { distinct = tt; each = tt; few = omega arith }

-- ---- one macro more

labels_equal : IsEquivalence same_label
labels_equal = record {
  refl = λ m. nat_list_eq_equiv.refl m.0;
  symm = λ m k. nat_list_eq_equiv.symm m.0 k.0;
  congr = λ m k l. nat_list_eq_equiv.congr m.0 k.0 l.0;
}

none_alike : (m : Macro) (ms : List Macro) → body_of m.0 ms ≡ None → list_any (same_label m) ms ≡ false
none_alike m [] h = refl
none_alike m (k ∷ ms) h =
    elim (cases_Bool (bytes_eq m.0 k.0)) [
      | inl e ↦ absurd (let z : Some k.1 ≡ None = rw e at h in cc)
      | inr e ↦ rw e (none_alike m ms (rw e at h))
    ]

each_more : (ms : List Macro) (m : Macro) → AllByRecursion IsMacro ms → IsMacro m → AllByRecursion IsMacro (ms ++ m ∷ [])
each_more [] m a h = (h, tt)
each_more (k ∷ ms) m a h = (a.0, each_more ms m a.1 h)

pub kept_with : (ms : List Macro) (m : Macro) → IsTable ms → body_of m.0 ms ≡ None → length ms < most_macros → IsMacro m → IsTable (ms ++ m ∷ [])
kept_with ms m t none room good = record {
  distinct = IsDistinct-push labels_equal ms m t.distinct (none_alike m ms none);
  each = each_more ms m t.each good;
  few = omega (arith, length-append ms (m ∷ []));
}

-- ---- one macro less

all_without : (P : Macro → Type 0) (label : List ℕ) (ms : List Macro) → AllByRecursion P ms → AllByRecursion P (without_label label ms)
all_without P label [] a = tt
all_without P label (m ∷ ms) a =
    elim (cases_Bool (bytes_eq label m.0)) [ inl e ↦ rw e a.1 | inr e ↦ rw e (a.0, all_without P label ms a.1) ]

distinct_without : (label : List ℕ) (ms : List Macro) → IsDistinct same_label ms → IsDistinct same_label (without_label label ms)
distinct_without label [] d = d
distinct_without label (m ∷ ms) d =
    elim (cases_Bool (bytes_eq label m.0)) [
      | inl e ↦ rw e (IsDistinct-tail same_label m ms d)
      | inr e ↦ rw e (IsDistinct-cons same_label m (without_label label ms)
          (all_without (λ k. same_label m k ≡ false) label ms (IsDistinct-head same_label m ms d))
          (distinct_without label ms (IsDistinct-tail same_label m ms d)))
    ]

fewer_without : (label : List ℕ) (ms : List Macro) → length (without_label label ms) ≤ length ms
fewer_without label [] = omega arith
fewer_without label (m ∷ ms) =
    let less = fewer_without label ms in
    elim (cases_Bool (bytes_eq label m.0)) [ inl e ↦ rw e (omega arith) | inr e ↦ rw e (omega arith) ]

pub kept_without : (label : List ℕ) (ms : List Macro) → IsTable ms → IsTable (without_label label ms)
kept_without label ms t = record {
  distinct = distinct_without label ms t.distinct;
  each = all_without IsMacro label ms t.each;
  few = omega (arith, fewer_without label ms, t.few);
}

-- a label that a macro has, no later one has
none_named : (label x : List ℕ) (ms : List Macro) → bytes_eq label x ≡ true → AllByRecursion (λ k. bytes_eq x k.0 ≡ false) ms → body_of label ms ≡ None
none_named label x [] e a = refl
none_named label x (k ∷ ms) e a = rw (nat_list_eq_equiv.congr label x k.0 e ∙ a.0) (none_named label x ms e a.1)

pub gone_without : (label : List ℕ) (ms : List Macro) → IsDistinct same_label ms → body_of label (without_label label ms) ≡ None
gone_without label [] d = refl
gone_without label (m ∷ ms) d =
    elim (cases_Bool (bytes_eq label m.0)) [
      | inl e ↦ rw e (none_named label m.0 ms e (IsDistinct-head same_label m ms d))
      | inr e ↦ rw (e, e) (gone_without label ms (IsDistinct-tail same_label m ms d))
    ]

-- ---- what a table has

pub found_short : (label : List ℕ) (ms : List Macro) (body : List ℕ) → AllByRecursion IsMacro ms → Some body ≡ body_of label ms → length body ≤ longest_body
found_short label [] body a h = absurd (let z : Some body ≡ None = h in cc)
found_short label (m ∷ ms) body a h =
    elim (cases_Bool (bytes_eq label m.0)) [
      | inl e ↦ (let z : Some body ≡ Some m.1 = rw e at h in let b : body ≡ m.1 = cc in rw b a.0.body)
      | inr e ↦ found_short label ms body a.1 (rw e at h)
    ]

-- whatever body is found under a label
pub found_all_short : (key : List ℕ) (ms : List Macro) (found : Option (Bor (List ℕ))) → AllByRecursion IsMacro ms
    → option_map (λ (body : Bor (List ℕ)). body.now) found ≡ body_of key ms → IfSome found (λ body. length body.now ≤ longest_body)
found_all_short key ms None each h = tt
found_all_short key ms (Some body) each h = found_short key ms body.now each h
