-- `steps::counted::emit` meets its contract. Assumes nothing.
use Rattle.std.proofs.Common.{sym, arith}
use Rattle.words.proofs.Records.{append_placed}
use Rattle.steps.specs.Answers.{place_at, settled}
use Rattle.steps.proofs.Chains.{last, seen_word, then_emitted, stop_emitted}
use Rattle.steps.proofs.counted.emit.Goals as goal

pub returns-in-Err-clause-step : goal.returns-in-Err-clause-step
returns-in-Err-clause-step c t i rs n p m told =
    rw c.refused.ensures (last _ (stop_emitted t _ _ _ i told c.emit_instruction-emitted.ensures.words (λ w. place_at w) c.in-Err.is))

pub returns-in-Ok-clause-step : goal.returns-in-Ok-clause-step
unfolding settled
returns-in-Ok-clause-step c t i rs n p m told =
    rw c.answered.ensures
    (last _
    (then_emitted t _ _ _ i told c.emit_instruction-emitted.ensures.words c.in-Ok.is
    (sym (seen_word t (λ w. place_at w) _ _ (omega (arith, append_placed _ _ _ _ _ c.emit_instruction-emitted.ensures.words c.in-Ok.is))))))
