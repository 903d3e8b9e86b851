use Rattle.sw_core.proofs.state.Core.command.Goals as goal

pub returns-in-Signal-clause-step : goal.returns-in-Signal-clause-step
returns-in-Signal-clause-step g c = λ ask. rw (c.in-Signal.is) (c.signal.ensures.step ask c.args.available)

pub returns-in-NoData-clause-step : goal.returns-in-NoData-clause-step
returns-in-NoData-clause-step g c = rw c.in-NoData.is c.without_data.ensures.step

pub returns-in-Set-clause-step : goal.returns-in-Set-clause-step
returns-in-Set-clause-step g c = rw (c.in-Set.is, c.requires.empty) c.set.ensures.step
