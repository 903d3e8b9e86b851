use Rattle.std.proofs.Common.{◌≡◌, false, IfOk, OnOk, OnErr, subst}
use Rattle.sw_channels.specs.Engine.{EngineStanding, TakesMessage, Falters, session_of}
use Rattle.sw_channels.specs.EngineStep.{LedBy}
use Rattle.sw_channels.proofs.EngineTakesLemmas.{falters-again, falters-at, processed-well, spent-since}
use Rattle.sw_channels.proofs.engine.Engine.take.Goals as goal

pub returns-then-self-clause-err : goal.returns-then-self-clause-err
returns-then-self-clause-err g c =
    subst (λ (e : EngineStanding). LedBy g.D.Desk.passes c.args.desk.now c.args.desk.now (λ asked. Falters e c.args.message asked)) c.self.view_is
    (falters-again g.D.Desk.passes _ (record { state = c.self.inside.state; spent = c.self.inside.spent }) c.args.message c.if-self.true)

pub returns-clause-ok : goal.returns-clause-ok
returns-clause-ok g c =
    subst (λ (e : EngineStanding). IfOk c.take-step.result (λ step.
    LedBy g.D.Desk.passes c.args.desk.now c.take-step.new.desk (λ asked.
    TakesMessage e.state c.args.message asked step c.take-step.new.self))) c.self.view_is c.take-step.ensures.ok

pub returns-clause-processed : goal.returns-clause-processed
returns-clause-processed g c =
    subst (λ (e : EngineStanding). OnOk c.take-step.result ((e.spent ≡ false) × (c.is_err-self-inside.result ≡ false))) c.self.view_is
    (processed-well c.take-step.result _ _ c.if-self.false c.is_err-self-inside.ensures.value)

pub returns-clause-err : goal.returns-clause-err
returns-clause-err g c =
    subst (λ (e : EngineStanding). OnErr c.take-step.result
    (LedBy g.D.Desk.passes c.args.desk.now c.take-step.new.desk (λ asked. Falters e c.args.message asked))) c.self.view_is
    (falters-at g.D.Desk.passes _ _
    (record { state = c.self.inside.state; spent = c.self.inside.spent }) c.args.message c.take-step.result c.if-self.false c.take-step.ensures.err)

pub returns-clause-spent : goal.returns-clause-spent
returns-clause-spent g c = spent-since c.take-step.result c.is_err-self-inside.result c.is_err-self-inside.ensures.value

pub returns-clause-session : goal.returns-clause-session
returns-clause-session g c =
    subst (λ (e : EngineStanding). OnErr c.take-step.result (session_of c.take-step.new.self ≡ session_of e.state)) c.self.view_is c.take-step.ensures.session
