-- What a macro command comes to, and how a unit that calls a macro is written, leave no choice.
use Rattle.std.proofs.Common.{◌≡◌, ℕ, Bool, true, false, List, [], Option, Some, None, is_some, Result, Ok, Err, refl, ap, sym, ◌∙◌, subst}
use Rattle.std.specs.Prelude.{if◌then◌else◌}
use Rattle.std.specs.Result.{result_map_both}
use Rattle.std.proofs.lemmas.Bool.{and_parts}
use Rattle.sw_base.specs.declared.error.ScpiError.{ScpiError}
use Rattle.sw_base.specs.declared.error.ScpiError.TheVariants.{OutOfMemory}
use Rattle.sw_lex.specs.declared.command.Command.{Command}
use Rattle.sw_lex.specs.declared.command.Command.TheVariants as command
use Rattle.sw_lex.specs.declared.command.AllMacros.TheVariants.{LabelsQuery, Purge, EnableQuery}
use Rattle.sw_lex.specs.declared.command.MacroCommand.TheVariants.{Define, BodyQuery, Remove, Enable}
use Rattle.sw_lex.specs.Unit.{UnitSeen}
use Rattle.sw_macro.specs.Table.{Macro, Table, labels, refusal_to_define, refusal_to_find, RefusedBy}
use Rattle.sw_macro.specs.Filling.{put_in}
use Rattle.sw_macro.specs.Expansion.{called, calls, opened_found, opened_macro, opened_in, Replaces, Expands}
use Rattle.sw_core.specs.Answers.{yes_or_no}
use Rattle.sw_talk.specs.Macros.{Told, block_of, labels_text, TellsMacroText, DefinesMacro, Removes, TellsBody, ActsOnMacros}

-- no want of memory
abbrev IsAmple : Told → Type 0
IsAmple told = told ≡ Err OutOfMemory → ⊥

refused-once : (o : Option ScpiError) (e e' : ScpiError) → RefusedBy o e → RefusedBy o e' → e ≡ e'
refused-once (Some r) e e' p q = p ∙ sym q
refused-once None e e' p q = p ∙ sym q

lost : (o : Option ScpiError) (e : ScpiError) → o ≡ None → RefusedBy o e → IsAmple (Err e) → ⊥
lost o e is p some = some (ap (λ (x : ScpiError). Err x) (subst (λ (x : Option ScpiError). RefusedBy x e) is p))

tells-same : (text : List ℕ) (told told' : Told) → TellsMacroText text told → TellsMacroText text told' → IsAmple told → IsAmple told' → told ≡ told'
tells-same text (Ok x) (Ok x') p q m n = ap (λ (y : Option (List ℕ)). Ok y) (p ∙ sym q)
tells-same text (Ok x) (Err e) p q m n = absurd (n (ap (λ (y : ScpiError). Err y) q))
tells-same text (Err e) told' p q m n = absurd (m (ap (λ (y : ScpiError). Err y) p))

defines-same : (label body : List ℕ) (t t1 t2 : Table) (told told' : Told) → DefinesMacro label body t told t1 → DefinesMacro label body t told' t2
    → IsAmple told
    → IsAmple told' → (told ≡ told') × (t1 ≡ t2)
defines-same label body t t1 t2 (Ok x) (Ok x') p q m n = (ap (λ (y : Option (List ℕ)). Ok y) (p.1 ∙ sym q.1), p.2 ∙ sym q.2)
defines-same label body t t1 t2 (Ok x) (Err e) p q m n = absurd (lost (refusal_to_define t label body) e p.0 q.0 n)
defines-same label body t t1 t2 (Err e) (Ok x) p q m n = absurd (lost (refusal_to_define t label body) e q.0 p.0 m)
defines-same label body t t1 t2 (Err e) (Err e') p q m n = (
  ap (λ (y : ScpiError). Err y) (refused-once (refusal_to_define t label body) e e' p.0 q.0),
  p.1
      ∙ sym q.1,
)

removes-same : (label : List ℕ) (t t1 t2 : Table) (told told' : Told) → Removes label t told t1 → Removes label t told' t2 → (told ≡ told') × (t1 ≡ t2)
removes-same label t t1 t2 (Ok x) (Ok x') p q = (ap (λ (y : Option (List ℕ)). Ok y) (p.1 ∙ sym q.1), p.2 ∙ sym q.2)
removes-same label t t1 t2 (Ok x) (Err e) p q = let both : None ≡ Some e = sym p.0 ∙ q.0 in absurd (cc (both))
removes-same label t t1 t2 (Err e) (Ok x) p q = let both : None ≡ Some e = sym q.0 ∙ p.0 in absurd (cc (both))
removes-same label t t1 t2 (Err e) (Err e') p q =
    let both : Some e ≡ Some e' = sym p.0 ∙ q.0 in
    let same : e ≡ e' = cc (both) in
    (ap (λ (y : ScpiError). Err y) same, p.1 ∙ sym q.1)

body-same : (label : List ℕ) (t : Table) (told told' : Told) → TellsBody label t told → TellsBody label t told' → IsAmple told → IsAmple told' → told ≡ told'
body-same label t (Ok x) (Ok x') (b, k, is, says) (b', k', is', says') m n =
    let both : Some b ≡ Some b' = sym is ∙ is' in
    let same : b ≡ b' = cc (both) in
    ap (λ (y : Option (List ℕ)). Ok y) (says ∙ ap (λ (y : List ℕ). Some (block_of y)) same ∙ sym says')
body-same label t (Ok x) (Err e) p q m n = absurd (lost (refusal_to_find t label) e p.1 q n)
body-same label t (Err e) (Ok x) p q m n = absurd (lost (refusal_to_find t label) e q.1 p m)
body-same label t (Err e) (Err e') p q m n = ap (λ (y : ScpiError). Err y) (refused-once (refusal_to_find t label) e e' p q)

pub acts-same : (command : Command) (t : Table) (told told' : Told) (t1 t2 : Table) → ActsOnMacros command t told t1 → ActsOnMacros command t told' t2
    → IsAmple told
    → IsAmple told' → (told ≡ told') × (t1 ≡ t2)
acts-same (command.Macro (Define macro)) t told told' t1 t2 p q m n = defines-same macro.label macro.body t t1 t2 told told' p q m n
acts-same (command.Macro (BodyQuery label)) t told told' t1 t2 p q m n = (body-same label t told told' p.0 q.0 m n, p.1 ∙ sym q.1)
acts-same (command.Macros LabelsQuery) t told told' t1 t2 p q m n = (tells-same (labels_text (labels t.macros)) told told' p.0 q.0 m n, p.1 ∙ sym q.1)
acts-same (command.Macro (Remove label)) t told told' t1 t2 p q m n = removes-same label t t1 t2 told told' p q
acts-same (command.Macros Purge) t told told' t1 t2 p q m n = (p.0 ∙ sym q.0, p.1 ∙ sym q.1)
acts-same (command.Macro (Enable on)) t told told' t1 t2 p q m n = (p.0 ∙ sym q.0, p.1 ∙ sym q.1)
acts-same (command.Macros EnableQuery) t told told' t1 t2 p q m n = (tells-same (yes_or_no t.on) told told' p.0 q.0 m n, p.1 ∙ sym q.1)
acts-same command t told told' t1 t2 p q m n = absurd p

-- ---- a unit that calls a macro

abbrev filled : List ℕ → List ℕ → Option Macro
filled label text = Some (label, text)

put-some : (label : List ℕ) (r : Result (List ℕ) ScpiError) → result_map_both (filled label) (λ (e : ScpiError). e) r ≡ Ok None → ⊥
put-some label (Ok text) is = cc (is)
put-some label (Err e) is = cc (is)

opening-some : (u : UnitSeen) (o : Option Macro) → is_some o ≡ true → opened_found [] u 0 o ≡ Ok None → ⊥
opening-some u None some is = cc (some)
opening-some u (Some m) some is = put-some m.0 (put_in u.elements m.1 0) is

opened-so : (on : Bool) (r : Result (Option Macro) ScpiError) → on ≡ true → (r ≡ Ok None → ⊥) → (if on then r else Ok None) ≡ Ok None → ⊥
opened-so true r is some none = some none
opened-so false r is some none = cc (is)

opened-some : (t : Table) (u : UnitSeen) → calls t u ≡ true → opened_in t u ≡ Ok None → ⊥
opened-some t u does is =
    let both = and_parts t.on (is_some (called t.macros u)) does in
    opened-so t.on (opened_macro t.macros [] u 0) both.0 (opening-some u (called t.macros u) both.1) is

replaces-so : (ms : List Macro) (o : Result (Option Macro) ScpiError) (written other : List ℕ) (r : Result (List ℕ) ScpiError) → (o ≡ Ok None → ⊥)
    → Replaces ms o written r → Replaces ms o other r
replaces-so ms (Err e) written other r some p = p
replaces-so ms (Ok None) written other r some p = absurd (some refl)
replaces-so ms (Ok (Some m)) written other r some p = p

-- it gives the same, however it is written
pub written_so : (t : Table) (u : UnitSeen) (written other : List ℕ) (r : Result (List ℕ) ScpiError) → calls t u ≡ true → Expands t u written r
    → Expands t u other r
written_so t u written other r does p = replaces-so t.macros (opened_in t u) written other r (opened-some t u does) p
