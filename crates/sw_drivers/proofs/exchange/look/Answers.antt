use Rattle.std.proofs.Common.{inl, inr}
use Rattle.sw_drivers.proofs.exchange.look.Goals as goal

pub returns-in_err-ask-clause-fewer : goal.returns-in_err-ask-clause-fewer
returns-in_err-ask-clause-fewer g c = λ u k h. elim (c.ask.ensures.switched u k h) [ inl on ↦ on | inr none ↦ absurd none.1 ]

pub returns-in_err-answer-clause-fewer : goal.returns-in_err-answer-clause-fewer
returns-in_err-answer-clause-fewer g c =
    λ u k h. elim (c.ask.ensures.switched u k (c.receive.ensures.fewer u k h)) [ inl on ↦ on | inr none ↦ absurd none.1 ]

pub returns-clause-fewer : goal.returns-clause-fewer
returns-clause-fewer g c =
    λ u k h. elim (c.ask.ensures.switched u k (c.receive.ensures.fewer u k h)) [ inl on ↦ on | inr none ↦ absurd none.1 ]
