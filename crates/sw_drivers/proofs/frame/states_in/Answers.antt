use Rattle.std.proofs.Common.{◌≡◌, ◌⊎◌, ◌∙◌, ◌∷◌, ◌+◌, List, ℕ, false, true≢false, ap, sym, rules, inl, inr}
use Rattle.std.specs.List.{between}
use Rattle.std.proofs.lemmas.Bool.Decides.{Decides-eqb}
use Rattle.std.proofs.lemmas.Slice.Eq.{slice_eq-Decides}
use Rattle.sw_drivers.specs.declared.frame.Wrapping.TheVariants.{Tcp, Rtu}
use Rattle.sw_drivers.specs.Frames.{tells, wrapped}
use Rattle.sw_drivers.proofs.States.{told_at}
use Rattle.sw_drivers.proofs.frame.states_in.Goals as goal
use Rattle.sw_drivers.proofs.frame.states_in.Goals.{in-Tcp, in-Rtu}

pub returns-else-eq-clause-none : goal.returns-else-eq-clause-none
returns-else-eq-clause-none c = λ states size e.
    let at = c.match-wrapping.at in
    let place : ((c.args.wrapping ≡ Tcp) × (at ≡ 9)) ⊎ ((c.args.wrapping ≡ Rtu) × (at ≡ 3)) = elim c.match-wrapping.branch [ in-Tcp w ↦ inl (w.in-Tcp.is, w.at-is) | in-Rtu w ↦ inr (w.in-Rtu.is, w.at-is) ] in
    let told = told_at c.args.wrapping c.args.number c.args.unit c.args.count at c.bytes_for-size.result states place (size ∙ sym c.bytes_for-size.ensures) in
    let same : c.in_ok-found.found.now ≡ states = c.in_ok-found.ensures.lookup.0.2 ∙ ap (between at (at + c.bytes_for-size.result)) e ∙ told in
    let body : c.as_slice.result.now ≡ c.args.unit ∷ tells c.args.count c.in_ok-found.found.now = search rules in
    let whole : c.args.bytes.now ≡ c.as_slice-2.result.now = e
    ∙ ap (λ (s : List ℕ). wrapped c.args.wrapping c.args.number (c.args.unit ∷ tells c.args.count s)) (sym same)
    ∙ ap (wrapped c.args.wrapping c.args.number) (sym body) ∙ sym c.wrap.ensures ∙ sym c.as_slice-2.ensures.value in
    true≢false (sym ((slice_eq-Decides Decides-eqb c.args.bytes.now c.as_slice-2.result.now false c.if-eq.ensures).1 whole))
