use Rattle.std.proofs.Common.{◌≡◌, ◌<◌, List, ℕ, Some, Vec, Global, Bor, length, take, sym, ap, ◌∙◌, arith}
use Rattle.std.specs.List.{slice_get}
use Rattle.std.specs.Option.{option_map}
use Rattle.std.proofs.lemmas.List.{length-map}
use Rattle.sw_macro.specs.Table.{Macro, labels}
use Rattle.sw_talk.specs.Macros.{row_of}
use Rattle.sw_talk.proofs.QuotedLemmas.{labels-more, label-there}
use Rattle.sw_talk.proofs.macros.labels_text.Goals as goal
use Rattle.sw_talk.proofs.macros.labels_text.Goals.{in-Some+in_ok-add_label, in_default}

pub loop-i-preserved : goal.loop-i-preserved
loop-i-preserved c =
    let ls = labels c.args.macros.now.macros in
    let within : c.loop-i.i < length ls = omega (arith, length-map c.args.macros.now.macros (λ (m : Macro). m.0), c.len-i-end.ensures, c.loop-i-test.true) in
    elim c.match-label.branch [
      | in-Some+in_ok-add_label w ↦
          let found : slice_get ls c.loop-i.i ≡ Some w.in-Some.label.now = sym c.label.ensures ∙ ap (option_map (λ (l : Bor (List ℕ)). l.now)) w.in-Some.is in
          ap (λ (v : Vec ℕ Global). v.items) w.text-is ∙ w.in_ok-add_label.ensures (take c.loop-i.i ls) c.loop-i.invariant
          ∙ ap row_of (sym (labels-more ls c.loop-i.i w.in-Some.label.now found))
      | in_default w ↦ absurd (label-there (λ (l : Bor (List ℕ)). l.now) c.label.result ls c.loop-i.i c.label.ensures within w.in_default.not-Some)
    ]
