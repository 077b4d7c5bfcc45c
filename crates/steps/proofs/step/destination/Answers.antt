-- `steps::step::destination` meets its contract. Assumes nothing.
use Rattle.std.proofs.Common.{refl, sym, ◌∙◌, ap, inr, arith}
use Rattle.environment.proofs.Laws.{take_refused}
use Rattle.lowering.specs.Steps.{destination}
use Rattle.steps.specs.Answers.{register_at, settled}
use Rattle.steps.proofs.Words.{taken_below, taken_number_at, no_number}
use Rattle.steps.proofs.Chains.{seen_word, none_allocated, some_allocated}
use Rattle.steps.proofs.step.destination.Goals as goal

pub returns-in-Some-clause-step : goal.returns-in-Some-clause-step
unfolding destination settled
returns-in-Some-clause-step c t k p m =
    rw (c.answered.ensures, c.in-Some.is) (sym (seen_word t register_at _ _ (omega arith)))

pub returns-in-Err-clause-step : goal.returns-in-Err-clause-step
unfolding destination
returns-in-Err-clause-step c t k p m =
    rw (c.refused.ensures, c.in_default.is, (take_refused _ _ (ap (λ x. x.register) (sym c.take-taken.ensures) ∙ c.in-Err.is)).reason)
    (none_allocated _ c.take-taken.ensures (no_number c.in-Err.is) t refl)

pub returns-in-Ok-clause-step : goal.returns-in-Ok-clause-step
unfolding destination settled
returns-in-Ok-clause-step c t k p m =
    let below = taken_below _ c.take-taken.ensures c.in-Ok.is in
    rw (c.answered-in-Ok.ensures, c.in_default.is)
    (ap settled (some_allocated _ c.take-taken.ensures (taken_number_at _ c.take-taken.ensures c.in-Ok.is) (λ e. absurd (omega (arith, below, e)))) ∙ sym (seen_word t register_at _ _ (omega (arith, below))))

pub returns-in-Ok-clause-word : goal.returns-in-Ok-clause-word
returns-in-Ok-clause-word c h =
    let below = taken_below _ c.take-taken.ensures c.in-Ok.is in
    rw c.answered-in-Ok.ensures (inr (omega (arith, below)))
