-- Rendering a template byte by byte, as a loop does.
use Rattle.std.proofs.Common.{◌≡◌, ◌≢◌, ℕ, ◌+◌, ◌<◌, ◌≤◌, Bool, true, false, List, [], ◌∷◌, ◌++◌, length, get_or, drop, Option, Some, None, cond, refl, sym, ap, ◌∙◌, append_assoc}
use Rattle.std.proofs.lemmas.Bool.{eq-eqb, ne_eqb}
use Rattle.std.proofs.lemmas.List.{append-nil, at_drop_more, at_drop_all}
use Rattle.sw_rack.specs.Templates.{joined, rendered, rendered_within, word_for}

-- what was sent before, and what is still to be sent: from within braces, or outside
abbrev pub goes_on : ℕ → Bool → List ℕ → List ℕ → List ℕ → Option (List ℕ)
goes_on channel is_within sent word rest = joined (Some sent) (cond is_within (rendered_within channel word rest) (rendered channel rest))

joined_twice : (a b : List ℕ) (rest : Option (List ℕ)) → joined (Some a) (joined (Some b) rest) ≡ joined (Some (a ++ b)) rest
joined_twice a b None = refl
joined_twice a b (Some rest) = ap Some (sym (append_assoc a b rest))

-- a byte outside braces
pub opened : (ch : ℕ) (sent word bytes : List ℕ) (i : ℕ) → i < length bytes → get_or bytes i 0 ≡ 123
    → goes_on ch false sent word (drop i bytes) ≡ goes_on ch true sent [] (drop (i + 1) bytes)
unfolding rendered
opened ch sent word bytes i lt brace = at_drop_more (λ bs. goes_on ch false sent word bs) bytes i 0 lt ∙ rw (eq-eqb (get_or bytes i 0) 123 brace) refl

pub plain : (ch : ℕ) (sent word bytes : List ℕ) (i : ℕ) → i < length bytes → get_or bytes i 0 ≢ 123
    → goes_on ch false sent word (drop i bytes) ≡ goes_on ch false (sent ++ get_or bytes i 0 ∷ []) word (drop (i + 1) bytes)
unfolding rendered
plain ch sent word bytes i lt other =
    at_drop_more (λ bs. goes_on ch false sent word bs) bytes i 0 lt ∙ rw (ne_eqb (get_or bytes i 0) 123 other) (joined_twice sent (get_or bytes i 0 ∷ []) (rendered ch (drop (i + 1) bytes)))

-- a byte within them
pub closed : (ch : ℕ) (sent word bytes digits : List ℕ) (i : ℕ) → i < length bytes → get_or bytes i 0 ≡ 125 → word_for ch word ≡ Some digits
    → goes_on ch true sent word (drop i bytes) ≡ goes_on ch false (sent ++ digits) word (drop (i + 1) bytes)
unfolding rendered_within
closed ch sent word bytes digits i lt brace known =
    at_drop_more (λ bs. goes_on ch true sent word bs) bytes i 0 lt
    ∙ rw (eq-eqb (get_or bytes i 0) 125 brace, known) (joined_twice sent digits (rendered ch (drop (i + 1) bytes)))

pub unknown : (ch : ℕ) (sent word bytes : List ℕ) (i : ℕ) → i < length bytes → get_or bytes i 0 ≡ 125 → word_for ch word ≡ None
    → goes_on ch true sent word (drop i bytes) ≡ None
unfolding rendered_within
unknown ch sent word bytes i lt brace known = at_drop_more (λ bs. goes_on ch true sent word bs) bytes i 0 lt ∙ rw (eq-eqb (get_or bytes i 0) 125 brace, known) refl

pub within : (ch : ℕ) (sent word bytes : List ℕ) (i : ℕ) → i < length bytes → get_or bytes i 0 ≢ 125
    → goes_on ch true sent word (drop i bytes) ≡ goes_on ch true sent (word ++ get_or bytes i 0 ∷ []) (drop (i + 1) bytes)
unfolding rendered_within
within ch sent word bytes i lt other = at_drop_more (λ bs. goes_on ch true sent word bs) bytes i 0 lt ∙ rw (ne_eqb (get_or bytes i 0) 125 other) refl

-- no byte is left
pub ended : (ch : ℕ) (sent word bytes : List ℕ) (i : ℕ) → length bytes ≤ i → goes_on ch false sent word (drop i bytes) ≡ Some sent
unfolding rendered
ended ch sent word bytes i le = at_drop_all (λ bs. goes_on ch false sent word bs) bytes i le ∙ ap Some (append-nil sent)

pub unended : (ch : ℕ) (sent word bytes : List ℕ) (i : ℕ) → length bytes ≤ i → goes_on ch true sent word (drop i bytes) ≡ None
unfolding rendered_within
unended ch sent word bytes i le = at_drop_all (λ bs. goes_on ch true sent word bs) bytes i le

-- the same with what the branches leave
pub moved : (ch : ℕ) (within within' : Bool) (sent sent' word word' rest : List ℕ) (total : Option (List ℕ)) → within ≡ within' → sent ≡ sent' → word ≡ word'
    → goes_on ch within' sent' word' rest ≡ total → goes_on ch within sent word rest ≡ total
moved ch within within' sent sent' word word' rest total a b c h =
    ap (λ w. goes_on ch w sent word rest) a ∙ (ap (λ s. goes_on ch within' s word rest) b ∙ (ap (λ w. goes_on ch within' sent' w rest) c ∙ h))
