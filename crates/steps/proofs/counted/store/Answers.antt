-- `steps::counted::store` meets its contract. Assumes nothing.
use Rattle.std.proofs.Common.{sym, arith}
use Rattle.steps.specs.Answers.{place_at, settled}
use Rattle.steps.proofs.Chains.{last, seen_word, then_stored, stop_stored, stored_place}
use Rattle.steps.proofs.counted.store.Goals as goal

pub returns-in-Err-clause-step : goal.returns-in-Err-clause-step
returns-in-Err-clause-step c t rs n k m =
    rw c.refused.ensures (last _ (stop_stored t _ _ _ _ c.store_constant-stored.ensures.words (λ w. place_at w) c.in-Err.is))

pub returns-in-Ok-clause-step : goal.returns-in-Ok-clause-step
unfolding settled
returns-in-Ok-clause-step c t rs n k m =
    let place = stored_place _ _ _ c.store_constant-stored.ensures.words c.in-Ok.is in
    rw c.answered.ensures
    (last _
    (then_stored t _ _ _ _ c.store_constant-stored.ensures.words c.in-Ok.is
    (sym (seen_word t (λ w. place_at w) _ _ (omega (arith, place))))))
