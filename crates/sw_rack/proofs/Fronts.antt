-- The fronts of a text, one after the other, and where its lines end.
use Rattle.std.proofs.Common.{◌≡◌, ℕ, ◌+◌, ◌-◌, ◌<◌, ◌≤◌, true, false, List, [], ◌∷◌, ◌++◌, length, get_or, take, drop, Some, None, eqb, refl, sym, ◌∙◌, append_assoc, arith, inl, inr}
use Rattle.std.proofs.lemmas.Bool.{cases_Bool, cases_lt}
use Rattle.std.proofs.lemmas.List.{at_drop_more, at_drop_all}
use Rattle.std.proofs.lemmas.Str.{IsUtf8-from_is_utf8, is_utf8-from_IsUtf8}
use Rattle.std.specs.Str.{IsUtf8, is_utf8}
use Rattle.toml.specs.Data.{Members}
use Rattle.toml.specs.Parse.{parse_document}
use Rattle.sw_rack.specs.declared.rack_fault.RackFault.{RackFault}
use Rattle.sw_rack.specs.Lines.{IsLine, ends_from, first_shown, front_table, shows}

-- ---- one front

pub front_is : (bytes : List ℕ) (ms : Members) → IsUtf8 bytes → parse_document bytes ≡ Some ms → Some ms ≡ front_table bytes
front_is bytes ms utf8 parsed = rw (is_utf8-from_IsUtf8 bytes utf8, parsed) refl

pub front_is_none : (bytes : List ℕ) → (IsUtf8 bytes → parse_document bytes ≡ None) → None ≡ front_table bytes
front_is_none bytes refused =
    elim (cases_Bool (is_utf8 bytes)) [
      | inl utf8 ↦ rw (utf8, refused (IsUtf8-from_is_utf8 bytes utf8)) refl
      | inr other ↦ rw other refl
    ]

-- ---- fronts in their order

pub shown_here : (fault : RackFault) (text ends : List ℕ) (i : ℕ) (ms : Members) → i < length ends → front_table (take (get_or ends i 0) text) ≡ Some ms
    → first_shown fault text (drop i ends) ≡ shows fault ms
unfolding first_shown
shown_here fault text ends i ms lt is = at_drop_more (λ es. first_shown fault text es) ends i 0 lt ∙ rw is refl

pub shown_later : (fault : RackFault) (text ends : List ℕ) (i : ℕ) → i < length ends → front_table (take (get_or ends i 0) text) ≡ None
    → first_shown fault text (drop i ends) ≡ first_shown fault text (drop (i + 1) ends)
unfolding first_shown
shown_later fault text ends i lt is = at_drop_more (λ es. first_shown fault text es) ends i 0 lt ∙ rw is refl

pub shown_never : (fault : RackFault) (text ends : List ℕ) (i : ℕ) → length ends ≤ i → first_shown fault text (drop i ends) ≡ false
unfolding first_shown
shown_never fault text ends i le = at_drop_all (λ es. first_shown fault text es) ends i le

-- ---- the ends of lines

-- what was found before, and what is still to be found
abbrev pub ends_on : List ℕ → ℕ → List ℕ → List ℕ
ends_on found place text = found ++ ends_from place (drop place text)

pub end_here : (found text : List ℕ) (place : ℕ) → place < length text → eqb (get_or text place 0) 10 ≡ true
    → ends_on found place text ≡ ends_on (found ++ place ∷ []) (place + 1) text
end_here found text place lt feed =
    at_drop_more (λ bytes. found ++ ends_from place bytes) text place 0 lt
    ∙ rw feed (sym (append_assoc found (place ∷ []) (ends_from (place + 1) (drop (place + 1) text))))

pub end_later : (found text : List ℕ) (place : ℕ) → place < length text → eqb (get_or text place 0) 10 ≡ false
    → ends_on found place text ≡ ends_on found (place + 1) text
end_later found text place lt other =
    at_drop_more (λ bytes. found ++ ends_from place bytes) text place 0 lt ∙ rw other refl

pub end_last : (found text : List ℕ) (place : ℕ) → length text ≤ place → ends_on found place text ≡ found ++ place ∷ []
end_last found text place le = at_drop_all (λ bytes. found ++ ends_from place bytes) text place le

-- ---- the line

pub line_found : (fault : RackFault) (text ends : List ℕ) (low : ℕ) → ends ≡ ends_from 0 text → first_shown fault text (drop low ends) ≡ true
    → (0 < low → first_shown fault text (drop (low - 1) ends) ≡ false) → IsLine fault text (low + 1)
line_found fault text ends low same here before =
    let back : low + 1 - 1 ≡ low = omega arith in
    record {
      shown = λ _. rw (back, ← same) here;
      hidden = λ more. rw (back, ← same) (before (omega (arith, more)));
      never = λ zero_is. absurd (omega (arith, zero_is));
    }

last_hidden : (fault : RackFault) (text ends : List ℕ) (low : ℕ) → length ends ≡ low → (0 < low → first_shown fault text (drop (low - 1) ends) ≡ false)
    → first_shown fault text (drop (length ends - 1) ends) ≡ false
last_hidden fault text ends low len before =
    elim (cases_lt 0 (length ends)) [
      | inl more ↦ rw len (before (omega (arith, len, more)))
      | inr le ↦ shown_never fault text ends (length ends - 1) (omega (arith, le))
    ]

pub line_missing : (fault : RackFault) (text ends : List ℕ) (low : ℕ) → ends ≡ ends_from 0 text → length ends ≡ low
    → (0 < low → first_shown fault text (drop (low - 1) ends) ≡ false) → IsLine fault text 0
line_missing fault text ends low same len before = record {
  shown = λ more. absurd (omega (arith, more));
  hidden = λ more. absurd (omega (arith, more));
  never = λ _. rw (← same) (last_hidden fault text ends low len before);
}
