use Rattle.std.proofs.Common.{◌+◌, ℕ, Bool, List, [], ◌∷◌, ◌<◌, ◌≤◌, length, drop, sym, ap, ap₂, ◌∙◌, arith}
use Rattle.std.specs.Prelude.{if◌then◌else◌}
use Rattle.std.proofs.lemmas.Grind.{common_steps}
use Rattle.std.proofs.lemmas.List.{drop-drop}
use Rattle.sw_hislip.specs.declared.message.Message.{Message}
use Rattle.sw_channels.specs.InParts.{parts_of}
use Rattle.sw_channels.proofs.CutsLemmas.{parts-more, parts-last}
use Rattle.sw_channels.proofs.answers.Parts.next.Goals as goal

pub returns-then-left-self : goal.returns-then-left-self
returns-then-left-self c =
    let p = c.self.inside in
    let left = drop p.given p.answer.items in
    let shown : List ℕ → List Message = λ l. parts_of p.room p.id l in
    let view : Bool → List ℕ → List Message = λ b l. if b then [] else shown l in
    let fits : p.room < length left = grind (arith, common_steps) in
    sym c.self.view_is ∙ ap (λ (b : Bool). view b left) c.if-self.false ∙ parts-more p.room p.id left c.self.invariant.0 fits
    ∙ ap₂ (λ (m : Message) (ms : List Message). m ∷ ms) (grind (arith, common_steps))
    (ap shown (drop-drop p.room p.given p.answer.items) ∙ sym (ap (λ (b : Bool). view b (drop (p.given + p.room) p.answer.items)) c.if-self.false))

pub returns : goal.returns
returns c =
    let p = c.self.inside in
    let left = drop p.given p.answer.items in
    let view : Bool → List Message = λ b. if b then [] else parts_of p.room p.id left in
    let fits : length left ≤ p.room = grind (arith, common_steps) in
    sym c.self.view_is ∙ ap view c.if-self.false ∙ parts-last p.room p.id left fits
    ∙ ap (λ (m : Message). m ∷ []) (grind (arith, common_steps))
