-- But for want of memory a unit below a path has one meaning.
use Rattle.std.proofs.Common.{◌≡◌, ◌≢◌, ◌⊎◌, ℕ, List, [], ◌∷◌, refl, sym, ap, subst, ◌∙◌, inl, inr, Result, Ok, Err}
use Rattle.std.specs.Result.{result_map_both}
use Rattle.sw_base.specs.declared.error.ScpiError.{ScpiError}
use Rattle.sw_base.specs.declared.error.ScpiError.TheVariants.{OutOfMemory, ProgramSyntaxError}
use Rattle.sw_channel.proofs.Judging.{one_reading, one_position_reading}
use Rattle.sw_channel.specs.Reading.{Reads, ReadsPositions}
use Rattle.sw_lex.specs.declared.command.Command.{Command}
use Rattle.sw_lex.specs.declared.command.Command.TheVariants as commands
use Rattle.sw_lex.specs.declared.command.MacroCommand.TheVariants as macros
use Rattle.sw_lex.specs.declared.command.Setting.TheVariants as settings
use Rattle.sw_lex.specs.declared.table.HeaderMeaning.{HeaderMeaning}
use Rattle.sw_lex.specs.declared.table.HeaderMeaning.TheVariants as keys
use Rattle.sw_lex.specs.declared.table.Switch.{Switch}
use Rattle.sw_code.specs.Range.{Program}
use Rattle.sw_code.specs.Reading.{code_in}
use Rattle.sw_code.specs.declared.fault.ListError.{ListError}
use Rattle.sw_verify.specs.Runnable.{IsRunnable}
use Rattle.sw_lex.specs.Programs.{fault_error, ReadsListing, ReadsProgram}
use Rattle.sw_lex.specs.Unit.{Datum, number, character, string, block, expression, UnitSeen}
use Rattle.sw_lex.specs.Table.{HeaderEntry, entries}
use Rattle.sw_lex.specs.Found.{IsIn, spellings, IsFound}
use Rattle.sw_lex.specs.Commands.{layer_numbered}
use Rattle.sw_lex.specs.Values.{on_ok, IsQuantity, ReadsQuantity, ReadsString, ReadsBlock, whole_of, switched_by, macros_of, time_of, source_meant}
use Rattle.sw_lex.specs.Meaning.{Nodes, asked, path_after, WithNone, WithList, WithBlock, OfList, WithString, OfString, Defines, OfMacro, WithNumber, OfNumber, OfWord}
use Rattle.sw_lex.specs.Meaning.{OfSwitch, OfCheck, DecodesCommand, Resolves}
use Rattle.sw_base.specs.Text.{is_blank, Spans}
use Rattle.sw_base.specs.Number.{Written}
use Rattle.sw_base.proofs.Runs.{one_span}
use Rattle.sw_base.proofs.Numerals.{one_number, not_both, one_refusal}
use Rattle.sw_lex.proofs.QuotesLemmas.{one_string}
use Rattle.sw_lex.proofs.BlocksLemmas.{one_block}
use Rattle.sw_lex.proofs.ApartLemmas.{one_found, entries_apart}

one_none : (command : Command) (ds : List Datum) (r s : Result Command ScpiError) → WithNone command ds r → WithNone command ds s → r ≡ s
one_none command [] r s a b = a ∙ sym b
one_none command (d ∷ ds) r s a b = a ∙ sym b

-- a list of this kind is read in one way
abbrev ReadsOnce : {V : Type 0} → (List ℕ → Result (List V) ScpiError → Type 0) → Type 0
ReadsOnce {V} ReadsList = (t : List ℕ) (r s : Result (List V) ScpiError) → ReadsList t r → ReadsList t s → r ≢ Err OutOfMemory → s ≢ Err OutOfMemory → r ≡ s

module _ {V : Type 0} (ReadsList : List ℕ → Result (List V) ScpiError → Type 0) (unique : ReadsOnce ReadsList) where
  one_list : (ds : List Datum) (r s : Result (List V) ScpiError) → WithList ReadsList ds r → WithList ReadsList ds s → r ≢ Err OutOfMemory
      → s ≢ Err OutOfMemory → r ≡ s
  one_list [] r s a b n m = a ∙ sym b
  one_list (number t ∷ []) r s a b n m = a ∙ sym b
  one_list (character t ∷ []) r s a b n m = a ∙ sym b
  one_list (string t ∷ []) r s a b n m = a ∙ sym b
  one_list (block t ∷ []) r s a b n m = a ∙ sym b
  one_list (expression t ∷ []) r s a b n m = unique t r s a b n m
  one_list (d ∷ c ∷ ds) r s a b n m = a ∙ sym b

  one_of_list : (make : List V → Command) (ds : List Datum) (r s : Result Command ScpiError) → OfList ReadsList make ds r → OfList ReadsList make ds s
      → r ≢ Err OutOfMemory → s ≢ Err OutOfMemory → r ≡ s
  one_of_list make ds r s a b n m =
      let f : Result (List V) ScpiError → Result Command ScpiError = λ x. result_map_both make (λ e. e) x in
      let e = one_list ds a.0 b.0 a.1 b.1 (λ k. n (a.2 ∙ ap f k)) (λ k. m (b.2 ∙ ap f k)) in
      a.2 ∙ ap f e ∙ sym b.2

one_quantity_text : (text : List ℕ) (n m : Written) (s t : List ℕ) → IsQuantity text n s → IsQuantity text m t → (n ≡ m) × (s ≡ t)
one_quantity_text text n m s t p q =
    let r = one_number text n p.rest m q.rest p.number q.number in
    (r.0, (one_span is_blank p.rest p.gap s q.gap t p.blank (subst (λ (x : List ℕ). Spans is_blank x q.gap t) (sym r.1) q.blank)).1)

one_quantity : (text : List ℕ) (r s : Result (Written × List ℕ) ScpiError) → ReadsQuantity text r → ReadsQuantity text s → r ≡ s
one_quantity text (Ok x) (Ok y) p q =
    let r = one_quantity_text text x.0 y.0 x.1 y.1 p.0 q.0 in
    ap (λ (n : Written). Ok (n, x.1)) r.0 ∙ ap (λ (t : List ℕ). Ok (y.0, t)) r.1
one_quantity text (Ok x) (Err e) p q =
    elim q [ inl a ↦ absurd (a.0 x.0 x.1 p.0) | inr a ↦ absurd (not_both text x.0 p.0.rest e p.0.number p.1 a.3) ]
one_quantity text (Err e) (Ok y) p q =
    elim p [ inl a ↦ absurd (a.0 y.0 y.1 q.0) | inr a ↦ absurd (not_both text y.0 q.0.rest e q.0.number q.1 a.3) ]
one_quantity text (Err e) (Err f) p q =
    elim p [
      | inl a ↦ elim q [ inl b ↦ ap (λ (x : ScpiError). Err x) (a.1 ∙ sym b.1) | inr b ↦ absurd (a.0 b.0 b.1 b.2) ]
      | inr a ↦ elim q [ inl b ↦ absurd (b.0 a.0 a.1 a.2) | inr b ↦ ap (λ (x : ScpiError). Err x) (one_refusal text e f a.3 b.3) ]
    ]

one_with_number : (ds : List Datum) (r s : Result (Written × List ℕ) ScpiError) → WithNumber ds r → WithNumber ds s → r ≡ s
one_with_number [] r s a b = a ∙ sym b
one_with_number (number t ∷ []) r s a b = one_quantity t r s a b
one_with_number (character t ∷ []) r s a b = a ∙ sym b
one_with_number (string t ∷ []) r s a b = a ∙ sym b
one_with_number (block t ∷ []) r s a b = a ∙ sym b
one_with_number (expression t ∷ []) r s a b = a ∙ sym b
one_with_number (d ∷ c ∷ ds) r s a b = a ∙ sym b

one_of_number : (meaning : Written → List ℕ → Result Command ScpiError) (ds : List Datum) (r s : Result Command ScpiError) → OfNumber meaning ds r
    → OfNumber meaning ds s → r ≡ s
one_of_number meaning ds r s a b =
    a.2 ∙ ap (λ (q : Result (Written × List ℕ) ScpiError). on_ok q (λ x. meaning x.0 x.1)) (one_with_number ds a.0 b.0 a.1 b.1) ∙ sym b.2

one_of_word : (meaning : List ℕ → Result Command ScpiError) (ds : List Datum) (r s : Result Command ScpiError) → OfWord meaning ds r → OfWord meaning ds s
    → r ≡ s
one_of_word meaning [] r s a b = a ∙ sym b
one_of_word meaning (number t ∷ []) r s a b = a ∙ sym b
one_of_word meaning (character t ∷ []) r s a b = a ∙ sym b
one_of_word meaning (string t ∷ []) r s a b = a ∙ sym b
one_of_word meaning (block t ∷ []) r s a b = a ∙ sym b
one_of_word meaning (expression t ∷ []) r s a b = a ∙ sym b
one_of_word meaning (d ∷ c ∷ ds) r s a b = a ∙ sym b

one_of_switch : (ask : Switch) (ds : List Datum) (r s : Result Command ScpiError) → OfSwitch ask ds r → OfSwitch ask ds s → r ≡ s
one_of_switch ask [] r s a b = a ∙ sym b
one_of_switch ask (number t ∷ []) r s a b =
    a.2 ∙ ap (λ (q : Result (Written × List ℕ) ScpiError). on_ok q (λ x. switched_by ask x.0 x.1)) (one_quantity t a.0 b.0 a.1 b.1) ∙ sym b.2
one_of_switch ask (character t ∷ []) r s a b = a ∙ sym b
one_of_switch ask (string t ∷ []) r s a b = a ∙ sym b
one_of_switch ask (block t ∷ []) r s a b = a ∙ sym b
one_of_switch ask (expression t ∷ []) r s a b = a ∙ sym b
one_of_switch ask (d ∷ c ∷ ds) r s a b = a ∙ sym b

one_reads_string : (text : List ℕ) (r s : Result (List ℕ) ScpiError) → ReadsString text r → ReadsString text s → r ≢ Err OutOfMemory → s ≢ Err OutOfMemory
    → r ≡ s
one_reads_string text (Ok x) (Ok y) p q n m = ap (λ (t : List ℕ). Ok t) (one_string text x y [] [] p q).0
one_reads_string text (Ok x) (Err e) p q n m =
    elim q [ inl a ↦ absurd (m (ap (λ (f : ScpiError). Err f) a.2)) | inr a ↦ absurd (a.0 x p) ]
one_reads_string text (Err e) (Ok y) p q n m =
    elim p [ inl a ↦ absurd (n (ap (λ (f : ScpiError). Err f) a.2)) | inr a ↦ absurd (a.0 y q) ]
one_reads_string text (Err e) (Err f) p q n m =
    elim p [
      | inl a ↦ absurd (n (ap (λ (g : ScpiError). Err g) a.2))
      | inr a ↦ elim q [ inl b ↦ absurd (m (ap (λ (g : ScpiError). Err g) b.2)) | inr b ↦ ap (λ (g : ScpiError). Err g) (a.1 ∙ sym b.1) ]
    ]

one_reads_block : (text : List ℕ) (r s : Result (List ℕ) ScpiError) → ReadsBlock text r → ReadsBlock text s → r ≢ Err OutOfMemory → s ≢ Err OutOfMemory → r ≡ s
one_reads_block text (Ok x) (Ok y) p q n m = ap (λ (t : List ℕ). Ok t) (one_block text x y [] [] p q).0
one_reads_block text (Ok x) (Err e) p q n m =
    elim q [ inl a ↦ absurd (m (ap (λ (f : ScpiError). Err f) a.2)) | inr a ↦ absurd (a.0 x p) ]
one_reads_block text (Err e) (Ok y) p q n m =
    elim p [ inl a ↦ absurd (n (ap (λ (f : ScpiError). Err f) a.2)) | inr a ↦ absurd (a.0 y q) ]
one_reads_block text (Err e) (Err f) p q n m =
    elim p [
      | inl a ↦ absurd (n (ap (λ (g : ScpiError). Err g) a.2))
      | inr a ↦ elim q [ inl b ↦ absurd (m (ap (λ (g : ScpiError). Err g) b.2)) | inr b ↦ ap (λ (g : ScpiError). Err g) (a.1 ∙ sym b.1) ]
    ]

one_with_string : (ds : List Datum) (r s : Result (List ℕ) ScpiError) → WithString ds r → WithString ds s → r ≢ Err OutOfMemory → s ≢ Err OutOfMemory → r ≡ s
one_with_string [] r s a b n m = a ∙ sym b
one_with_string (number t ∷ []) r s a b n m = a ∙ sym b
one_with_string (character t ∷ []) r s a b n m = a ∙ sym b
one_with_string (string t ∷ []) r s a b n m = one_reads_string t r s a b n m
one_with_string (block t ∷ []) r s a b n m = a ∙ sym b
one_with_string (expression t ∷ []) r s a b n m = a ∙ sym b
one_with_string (d ∷ c ∷ ds) r s a b n m = a ∙ sym b

one_of_string : (make : List ℕ → Command) (ds : List Datum) (r s : Result Command ScpiError) → OfString make ds r → OfString make ds s → r ≢ Err OutOfMemory
    → s ≢ Err OutOfMemory → r ≡ s
one_of_string make ds r s a b n m =
    let f : Result (List ℕ) ScpiError → Result Command ScpiError = λ x. result_map_both make (λ e. e) x in
    let e = one_with_string ds a.0 b.0 a.1 b.1 (λ k. n (a.2 ∙ ap f k)) (λ k. m (b.2 ∙ ap f k)) in
    a.2 ∙ ap f e ∙ sym b.2

label_memory : (body : List ℕ) (label : Result (List ℕ) ScpiError) (r : Result Command ScpiError) → Defines body label r → r ≢ Err OutOfMemory
    → label ≢ Err OutOfMemory
label_memory body (Ok x) r d n k = let z : Ok x ≡ Err OutOfMemory = k in cc
label_memory body (Err e) r d n k = let z : Err e ≡ Err OutOfMemory = k in let y : e ≡ OutOfMemory = cc in n (d ∙ ap (λ (g : ScpiError). Err g) y)

one_defines : (body : List ℕ) (label : Result (List ℕ) ScpiError) (r s : Result Command ScpiError) → Defines body label r → Defines body label s
    → r ≢ Err OutOfMemory → s ≢ Err OutOfMemory → r ≡ s
one_defines body (Err e) r s a b n m = a ∙ sym b
one_defines body (Ok x) r s a b n m =
    let made : List ℕ → Command = λ y. commands.Macro (macros.Define (record { label = x; body = y })) in
    let f : Result (List ℕ) ScpiError → Result Command ScpiError = λ q. result_map_both made (λ e. e) q in
    let e = one_reads_block body a.0 b.0 a.1 b.1 (λ k. n (a.2 ∙ ap f k)) (λ k. m (b.2 ∙ ap f k)) in
    a.2 ∙ ap f e ∙ sym b.2

one_of_macro : (ds : List Datum) (r s : Result Command ScpiError) → OfMacro ds r → OfMacro ds s → r ≢ Err OutOfMemory → s ≢ Err OutOfMemory → r ≡ s
one_of_macro [] r s a b n m = a ∙ sym b
one_of_macro (d ∷ []) r s a b n m = a ∙ sym b
one_of_macro (number t ∷ c ∷ []) r s a b n m = a ∙ sym b
one_of_macro (character t ∷ c ∷ []) r s a b n m = a ∙ sym b
one_of_macro (block t ∷ c ∷ []) r s a b n m = a ∙ sym b
one_of_macro (expression t ∷ c ∷ []) r s a b n m = a ∙ sym b
one_of_macro (string t ∷ number u ∷ []) r s a b n m = a ∙ sym b
one_of_macro (string t ∷ character u ∷ []) r s a b n m = a ∙ sym b
one_of_macro (string t ∷ string u ∷ []) r s a b n m = a ∙ sym b
one_of_macro (string t ∷ expression u ∷ []) r s a b n m = a ∙ sym b
one_of_macro (string t ∷ block u ∷ []) r s a b n m =
    let e = one_reads_string t a.0 b.0 a.1 b.1 (label_memory u a.0 r a.2 n) (label_memory u b.0 s b.2 m) in
    one_defines u a.0 r s a.2 (subst (λ (x : Result (List ℕ) ScpiError). Defines u x s) (sym e) b.2) n m
one_of_macro (d ∷ c ∷ e ∷ ds) r s a b n m = a ∙ sym b

-- ---- a program

same_code : (bytes : List ℕ) (c d : Program) → code_in bytes ≡ Ok c → code_in bytes ≡ Ok d → c ≡ d
same_code bytes c d p q = let z : (let o : Result Program ListError = Ok c in o) ≡ Ok d = sym p ∙ q in cc

same_fault : (bytes : List ℕ) (c d : ListError) → code_in bytes ≡ Err c → code_in bytes ≡ Err d → c ≡ d
same_fault bytes c d p q = let z : (let o : Result Program ListError = Err c in o) ≡ Err d = sym p ∙ q in cc

not_faulty : (bytes : List ℕ) (c : Program) (d : ListError) → code_in bytes ≡ Ok c → code_in bytes ≡ Err d → ⊥
not_faulty bytes c d p q = let z : (let o : Result Program ListError = Ok c in o) ≡ Err d = sym p ∙ q in cc

-- why the bytes list no program
abbrev Fault : List ℕ → ScpiError → Type 0
Fault bytes e = (fault : ListError) × (code_in bytes ≡ Err fault) × (e ≡ fault_error fault.kind)

abbrev Stuck : List ℕ → ScpiError → Type 0
Stuck bytes e = (code : Program) × (code_in bytes ≡ Ok code) × (IsRunnable code → ⊥) × (e ≡ ProgramSyntaxError)

same_why : (bytes : List ℕ) (e f : ScpiError) → Fault bytes e ⊎ Stuck bytes e → Fault bytes f ⊎ Stuck bytes f → e ≡ f
same_why bytes e f p q =
    elim p [
      | inl a ↦ elim q [
        | inl b ↦ a.2 ∙ ap (λ (x : ListError). fault_error x.kind) (same_fault bytes a.0 b.0 a.1 b.1) ∙ sym b.2
        | inr b ↦ absurd (not_faulty bytes b.0 a.0 b.1 a.1)
      ]
      | inr a ↦ elim q [ inl b ↦ absurd (not_faulty bytes a.0 b.0 a.1 b.1) | inr b ↦ a.3 ∙ sym b.3 ]
    ]

no_program : (bytes : List ℕ) (c : Program) (e : ScpiError) → code_in bytes ≡ Ok c → IsRunnable c → Fault bytes e ⊎ Stuck bytes e → ⊥
no_program bytes c e p r q =
    elim q [ inl b ↦ not_faulty bytes c b.0 p b.1 | inr b ↦ b.2 (subst (λ (x : Program). IsRunnable x) (same_code bytes c b.0 p b.1) r) ]

one_listing : (bytes : List ℕ) (r s : Result Program ScpiError) → ReadsListing bytes r → ReadsListing bytes s → r ≢ Err OutOfMemory → s ≢ Err OutOfMemory
    → r ≡ s
one_listing bytes (Ok x) (Ok y) p q n m = ap (λ (c : Program). Ok c) (same_code bytes x y p.0 q.0)
one_listing bytes (Ok x) (Err e) p q n m =
    elim q [ inl b ↦ absurd (m (ap (λ (g : ScpiError). Err g) b)) | inr b ↦ absurd (no_program bytes x e p.0 p.1 b) ]
one_listing bytes (Err e) (Ok y) p q n m =
    elim p [ inl a ↦ absurd (n (ap (λ (g : ScpiError). Err g) a)) | inr a ↦ absurd (no_program bytes y e q.0 q.1 a) ]
one_listing bytes (Err e) (Err f) p q n m =
    elim p [
      | inl a ↦ absurd (n (ap (λ (g : ScpiError). Err g) a))
      | inr a ↦ elim q [
        | inl b ↦ absurd (m (ap (λ (g : ScpiError). Err g) b))
        | inr b ↦ ap (λ (g : ScpiError). Err g) (same_why bytes e f a b)
      ]
    ]

one_reads_program : (text : List ℕ) (r s : Result Program ScpiError) → ReadsProgram text r → ReadsProgram text s → r ≢ Err OutOfMemory
    → s ≢ Err OutOfMemory → r ≡ s
one_reads_program text r s p q n m =
    elim p [
      | inl a ↦ elim q [
        | inl b ↦
            let e : b.0 ≡ a.0 = (one_block text b.0 a.0 [] [] b.1 a.1).0 in
            one_listing a.0 r s a.2 (subst (λ (x : List ℕ). ReadsListing x s) e b.2) n m
        | inr b ↦ absurd (b.0 a.0 a.1)
      ]
      | inr a ↦ elim q [ inl b ↦ absurd (a.0 b.0 b.1) | inr b ↦ a.1 ∙ sym b.1 ]
    ]

-- a block of this kind is read in one way
abbrev ReadsBlockOnce : {V : Type 0} → (List ℕ → Result V ScpiError → Type 0) → Type 0
ReadsBlockOnce {V} ReadsIt = (t : List ℕ) (r s : Result V ScpiError) → ReadsIt t r → ReadsIt t s → r ≢ Err OutOfMemory → s ≢ Err OutOfMemory → r ≡ s

module _ {V : Type 0} (ReadsIt : List ℕ → Result V ScpiError → Type 0) (unique : ReadsBlockOnce ReadsIt) where
  one_with_block : (ds : List Datum) (r s : Result V ScpiError) → WithBlock ReadsIt ds r → WithBlock ReadsIt ds s → r ≢ Err OutOfMemory
      → s ≢ Err OutOfMemory → r ≡ s
  one_with_block [] r s a b n m = a ∙ sym b
  one_with_block (number t ∷ []) r s a b n m = a ∙ sym b
  one_with_block (character t ∷ []) r s a b n m = a ∙ sym b
  one_with_block (string t ∷ []) r s a b n m = a ∙ sym b
  one_with_block (block t ∷ []) r s a b n m = unique t r s a b n m
  one_with_block (expression t ∷ []) r s a b n m = a ∙ sym b
  one_with_block (d ∷ c ∷ ds) r s a b n m = a ∙ sym b

  one_of_block : (make : V → Command) (ds : List Datum) (r s : Result Command ScpiError) (x y : Result V ScpiError) → WithBlock ReadsIt ds x
      → r ≡ result_map_both make (λ e. e) x → WithBlock ReadsIt ds y → s ≡ result_map_both make (λ e. e) y
      → r ≢ Err OutOfMemory → s ≢ Err OutOfMemory → r ≡ s
  one_of_block make ds r s x y p e q f n m =
      let g : Result V ScpiError → Result Command ScpiError = λ z. result_map_both make (λ e. e) z in
      e ∙ ap g (one_with_block ds x y p q (λ k. n (e ∙ ap g k)) (λ k. m (f ∙ ap g k))) ∙ sym f

one_of_check : (ds : List Datum) (r s : Result Command ScpiError) → OfCheck ds r → OfCheck ds s → r ≢ Err OutOfMemory → s ≢ Err OutOfMemory → r ≡ s
one_of_check [] r s a b n m = a ∙ sym b
one_of_check (d ∷ ds) r s a b n m =
    one_of_block ReadsBlock one_reads_block (λ text. commands.ListingCheck text) (d ∷ ds) r s a.0 b.0 a.1 a.2 b.1 b.2 n m

one_program : (k : ℕ) (ds : List Datum) (r s : Result Command ScpiError) → DecodesCommand keys.Program k ds r → DecodesCommand keys.Program k ds s
    → r ≢ Err OutOfMemory → s ≢ Err OutOfMemory → r ≡ s
one_program k ds r s a b n m =
    one_of_block ReadsProgram one_reads_program (λ code. commands.Set (settings.Program code)) ds r s a.0 b.0 a.1 a.2 b.1 b.2 n m

one_decoded : (key : HeaderMeaning) (k : ℕ) (ds : List Datum) (r s : Result Command ScpiError) → DecodesCommand key k ds r → DecodesCommand key k ds s
    → r ≢ Err OutOfMemory
    → s ≢ Err OutOfMemory → r ≡ s
one_decoded (keys.NoData ask) k ds r s a b n m = one_none (commands.NoData ask) ds r s a b
one_decoded (keys.Query ask) k ds r s a b n m = one_none (commands.Query ask) ds r s a b
one_decoded (keys.LayerQuery ask family) k ds r s a b n m = one_none (commands.LayerQuery ask (layer_numbered family k)) ds r s a b
one_decoded (keys.GroupQuery ask group) k ds r s a b n m = one_none (commands.GroupQuery ask group) ds r s a b
one_decoded (keys.DestructiveQuery ask) k ds r s a b n m = one_none (commands.DestructiveQuery ask) ds r s a b
one_decoded (keys.Signal family) k ds r s a b n m = one_none (commands.Signal (layer_numbered family k)) ds r s a b
one_decoded (keys.Macros ask) k ds r s a b n m = one_none (commands.Macros ask) ds r s a b
one_decoded (keys.Relays ask) k ds r s a b n m = one_of_list Reads one_reading (λ list. commands.Relays ask list) ds r s a b n m
one_decoded keys.Scan k ds r s a b n m = one_of_list ReadsPositions one_position_reading (λ list. commands.Set (settings.Scan list)) ds r s a b n m
one_decoded keys.Program k ds r s a b n m = one_program k ds r s a b n m
one_decoded keys.NoProgram k ds r s a b n m = one_none (commands.Set settings.NoProgram) ds r s a b
one_decoded keys.ScanCheck k ds r s a b n m = one_of_check ds r s a b n m
one_decoded (keys.Numeric ask) k ds r s a b n m = one_of_number (whole_of ask k) ds r s a b
one_decoded (keys.Time kind family) k ds r s a b n m = one_of_number (time_of kind (layer_numbered family k)) ds r s a b
one_decoded (keys.Source family) k ds r s a b n m = one_of_word (source_meant (layer_numbered family k)) ds r s a b
one_decoded (keys.Switch ask) k ds r s a b n m = one_of_switch ask ds r s a b
one_decoded keys.EnableMacros k ds r s a b n m = one_of_number macros_of ds r s a b
one_decoded keys.DefineMacro k ds r s a b n m = one_of_macro ds r s a b n m
one_decoded keys.MacroQuery k ds r s a b n m = one_of_string (λ label. commands.Macro (macros.BodyQuery label)) ds r s a b n m
one_decoded keys.RemoveMacro k ds r s a b n m = one_of_string (λ label. commands.Macro (macros.Remove label)) ds r s a b n m

pub one_meaning : (unit : UnitSeen) (below : Nodes) (r s : Result Command ScpiError) (a b : Nodes) → Resolves unit below r a → Resolves unit below s b
    → r ≢ Err OutOfMemory → s ≢ Err OutOfMemory → (r ≡ s) × (a ≡ b)
one_meaning unit below r s a b p q n m =
    elim p [
      | inl c ↦ elim q [
        | inl d ↦
            let k = one_found entries entries_apart (asked unit below) unit.query c.key d.key c.number d.number c.found d.found in
            let o : DecodesCommand c.key c.number unit.elements s =
            subst (λ (x : HeaderMeaning). DecodesCommand x c.number unit.elements s) (sym k.0)
            (subst (λ (x : ℕ). DecodesCommand d.key x unit.elements s) (sym k.1) d.decoded) in
            (one_decoded c.key c.number unit.elements r s c.decoded o n m, c.onward ∙ sym d.onward)
        | inr d ↦ elim d [ inl e ↦ absurd (e.nothing c.key c.number c.found) | inr e ↦ absurd (e.nothing c.key c.number c.found) ]
      ]
      | inr c ↦ elim c [
        | inl e ↦ elim q [
          | inl d ↦ absurd (e.nothing d.key d.number d.found)
          | inr d ↦ elim d [ inl f ↦ (e.refused ∙ sym f.refused, e.stays ∙ sym f.stays) | inr f ↦ absurd (f.nowhere e.key e.number e.found) ]
        ]
        | inr e ↦ elim q [
          | inl d ↦ absurd (e.nothing d.key d.number d.found)
          | inr d ↦ elim d [ inl f ↦ absurd (e.nowhere f.key f.number f.found) | inr f ↦ (e.refused ∙ sym f.refused, e.stays ∙ sym f.stays) ]
        ]
      ]
    ]

pub every_spelling : (entry : HeaderEntry) (unit : UnitSeen) (below : Nodes) (m : ℕ) (r : Result Command ScpiError) (left : Nodes) → IsIn entry entries
    → entry.query ≡ unit.query → IsIn (asked unit below, m) (spellings entry.nodes) → Resolves unit below r left
    → DecodesCommand entry.key m unit.elements r × (left ≡ path_after unit.header below)
every_spelling entry unit below m r left i q s h =
    let f : IsFound entries (asked unit below) unit.query entry.key m = record { entry = entry; listed = i; query_is = q; key_is = refl; spelled = s } in
    elim h [
      | inl c ↦
          let k = one_found entries entries_apart (asked unit below) unit.query c.key entry.key c.number m c.found f in (
            subst (λ (x : ℕ). DecodesCommand entry.key x unit.elements r) k.1
                (subst (λ (x : HeaderMeaning). DecodesCommand x c.number unit.elements r) k.0 c.decoded),
            c.onward,
          )
      | inr d ↦ elim d [ inl e ↦ absurd (e.nothing entry.key m f) | inr e ↦ absurd (e.nothing entry.key m f) ]
    ]
