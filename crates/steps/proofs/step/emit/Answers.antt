-- `steps::step::emit` meets its contract: it is the same step on the counts. Assumes nothing.
use Rattle.steps.proofs.step.emit.Goals as goal

pub returns-clause-step : goal.returns-clause-step
returns-clause-step c t i p m told =
    rw c.on.ensures (c.emit-f.ensures.step t i c.args.state.registers c.args.state.marks p m told)
