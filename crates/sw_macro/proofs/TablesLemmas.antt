-- The entries of the map as the macros that callers see.
use Rattle.std.proofs.Common.{◌≡◌, ℕ, Bool, true, false, cond, List, [], ◌∷◌, ◌++◌, Option, Some, None, refl, sym, ap, ◌∙◌}
use Rattle.std.specs.Str.{bytes_eq}
use Rattle.std.specs.Map.{lookup, remove_entry}
use Rattle.std.proofs.lemmas.List.{map_push}
use Rattle.std.proofs.lemmas.Option.{slice_get-map}
use Rattle.std.specs.Prelude.{slice_get, is_some}
use Rattle.std.specs.Option.{option_map}
use Rattle.arrayvec.specs.ArrayVec.{ArrayVec}
use Rattle.indexmap.specs.IndexMap.{IndexMap, insert_entry}
use Rattle.indexmap.proofs.CallerLemmas.{insert_entry-new}
use Rattle.sw_macro.specs.Table.{Macro, body_of, without_label, labels}
use Rattle.sw_macro.specs.Seen.{macro_in, macros_in}

-- a label of the map is that text
abbrev pub named : List ℕ → ArrayVec ℕ → Bool
named label k = bytes_eq label k.items

pub found_is : (label : List ℕ) (es : List (ArrayVec ℕ × List ℕ)) → lookup (named label) es ≡ body_of label (macros_in es)
found_is label [] = refl
found_is label (e ∷ es) = ap (λ (o : Option (List ℕ)). cond (bytes_eq label e.0.items) (Some e.1) o) (found_is label es)

removed_at : (b : Bool) (e : ArrayVec ℕ × List ℕ) (es rest : List (ArrayVec ℕ × List ℕ)) (ms : List Macro) → macros_in rest ≡ ms
    → macros_in (cond b es (e ∷ rest)) ≡ cond b (macros_in es) (macro_in e ∷ ms)
removed_at true e es rest ms h = refl
removed_at false e es rest ms h = ap (λ (xs : List Macro). macro_in e ∷ xs) h

pub removed_is : (label : List ℕ) (es : List (ArrayVec ℕ × List ℕ)) → macros_in (remove_entry (named label) es) ≡ without_label label (macros_in es)
removed_is label [] = refl
removed_is label (e ∷ es) =
    removed_at (bytes_eq label e.0.items) e es (remove_entry (named label) es) (without_label label (macros_in es)) (removed_is label es)

abbrev pub same_key : ArrayVec ℕ → ArrayVec ℕ → Bool
same_key a b = bytes_eq a.items b.items

pub added_is : {S : Type 0} (m : IndexMap (ArrayVec ℕ) (List ℕ) S) (k : ArrayVec ℕ) (body : List ℕ) → body_of k.items (macros_in m.entries) ≡ None
    → macros_in (insert_entry same_key m.entries k body) ≡ macros_in m.entries ++ (k.items, body) ∷ []
added_is m k body h =
    ap (λ (es : List (ArrayVec ℕ × List ℕ)). macros_in es) (insert_entry-new same_key m k body (found_is k.items m.entries ∙ h))
    ∙ map_push macro_in m.entries (k, body)

without_at : (b : Bool) (m : Macro) (ms rest : List Macro) (o : Option (List ℕ)) → is_some (cond b (Some m.1) o) ≡ false → (is_some o ≡ false → rest ≡ ms)
    → cond b ms (m ∷ rest) ≡ m ∷ ms
without_at true m ms rest o h f = absurd (let z : true ≡ false = h in cc)
without_at false m ms rest o h f = ap (λ (xs : List Macro). m ∷ xs) (f h)

pub without_none : (label : List ℕ) (ms : List Macro) → is_some (body_of label ms) ≡ false → without_label label ms ≡ ms
without_none label [] h = refl
without_none label (m ∷ ms) h = without_at (bytes_eq label m.0) m ms (without_label label ms) (body_of label ms) h (without_none label ms)

-- the label at a place
pub label_at : (es : List (ArrayVec ℕ × List ℕ)) (i : ℕ) (k : ArrayVec ℕ) (body : List ℕ) → Some (k, body) ≡ slice_get es i
    → Some k.items ≡ slice_get (labels (macros_in es)) i
label_at es i k body h =
    ap (λ (o : Option (ArrayVec ℕ × List ℕ)). option_map (λ m. m.0) (option_map macro_in o)) h
    ∙ sym (slice_get-map (λ m. m.0) (macros_in es) i ∙ ap (λ (o : Option Macro). option_map (λ m. m.0) o) (slice_get-map macro_in es i))
