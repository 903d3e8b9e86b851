-- The notes of the last events, after one more.
use Rattle.std.proofs.Common.{◌≡◌, ℕ, ◌+◌, ◌-◌, ◌<◌, Bool, true, false, List, [], ◌∷◌, ◌++◌, length, drop, map, refl, ap, sym, ◌∙◌, arith}
use Rattle.std.proofs.Common.{length-append, length-drop}
use Rattle.std.proofs.lemmas.List.{drop-append-le, drop-drop, map-append}
use Rattle.circular_buffer.specs.Buffer.{Buffer, buffer, keep_last}
use Rattle.sw_history.specs.declared.note.Note.{Note}
use Rattle.sw_history.specs.Entries.{HistoryEntry}
use Rattle.sw_history.specs.Held.{most_notes, note_of, notes_of, noted}
use Rattle.sw_history.specs.History.{grown}

keep_one : {A : Type 0} (n : ℕ) (xs : List A) (x : A) → 0 < n → keep_last n (keep_last n xs ++ x ∷ []) ≡ keep_last n (xs ++ x ∷ [])
keep_one n xs x some =
    let k : ℕ = length xs - n in
    let joined : drop k xs ++ x ∷ [] ≡ drop k (xs ++ x ∷ []) = sym (drop-append-le k xs (x ∷ []) (omega arith)) in
    let far : k + (length (drop k xs ++ x ∷ []) - n) ≡ length (xs ++ x ∷ []) - n =
    omega (arith, length-append (drop k xs) (x ∷ []), length-drop k xs, length-append xs (x ∷ [])) in
    ap (drop (length (drop k xs ++ x ∷ []) - n)) joined
    ∙ (drop-drop (length (drop k xs ++ x ∷ []) - n) k (xs ++ x ∷ []) ∙ ap (λ (m : ℕ). drop m (xs ++ x ∷ [])) far)

pub notes_more : (es : List HistoryEntry) (e : HistoryEntry) → keep_last most_notes (notes_of es ++ note_of e ∷ []) ≡ notes_of (es ++ e ∷ [])
notes_more es e = keep_one most_notes (map note_of es) (note_of e) (omega arith) ∙ ap (keep_last most_notes) (sym (map-append note_of es (e ∷ [])))

-- the notes of a history that an event made grow, or what was none did not
pub notes_grown : (b : Bool) (es : List HistoryEntry) (e : HistoryEntry) → notes_of (grown b es e) ≡ noted b (notes_of es) (note_of e)
notes_grown true es e = sym (notes_more es e)
notes_grown false es e = refl

-- the ring after one more event
pub ring_more : (old new : Buffer Note) (note : Note) (es fs : List HistoryEntry) (e : HistoryEntry) → old.capacity ≡ most_notes → old.items ≡ notes_of es
    → new ≡ buffer (keep_last old.capacity (old.items ++ note ∷ [])) old.capacity → note ≡ note_of e → fs ≡ es ++ e ∷ []
    → (new.capacity ≡ most_notes) × (new.items ≡ notes_of fs)
ring_more old new note es fs e room items is noted more =
    let kept = ap (λ (b : Buffer Note). b.items) is in
    let wide = ap (λ (n : ℕ). keep_last n (old.items ++ note ∷ [])) room in
    let there = ap (λ (ns : List Note). keep_last most_notes (ns ++ note ∷ [])) items in
    let told = ap (λ (x : Note). keep_last most_notes (notes_of es ++ x ∷ [])) noted in (
      ap (λ (b : Buffer Note). b.capacity) is ∙ room,
      kept ∙ (wide ∙ (there ∙ (told ∙ (notes_more es e ∙ ap notes_of (sym more))))),
    )
