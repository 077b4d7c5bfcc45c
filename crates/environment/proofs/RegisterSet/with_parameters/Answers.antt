-- `RegisterSet::with_parameters` meets its contract, word by word. Assumes nothing.
use Rattle.std.proofs.Common.{◌≡◌, sym, [], ◌∷◌, ℕ, min, arith}
use Rattle.environment.specs.declared.RegisterSet.{RegisterSet}
use Rattle.environment.specs.Environment.{parameters}
use Rattle.environment.proofs.Parameters.{held_below, parameters_lowest}
use Rattle.environment.proofs.RegisterSet.with_parameters.Goals as goal

word_by_word : (n a b d e f : ℕ) → a ≡ held_below n 0 → b ≡ held_below n 64 → d ≡ held_below n 128 → e ≡ held_below n 192 → f ≡ min n 256 →
    ◌≡◌ {A = RegisterSet} (record { words = a ∷ b ∷ d ∷ e ∷ []; frame_size = f }) (parameters n)
word_by_word n a b d e f p q r s t = rw (p, q, r, s, t) (sym (parameters_lowest n))

pub returns : goal.returns
returns c = word_by_word _ _ _ _ _ _ c.held_below.ensures c.held_below-2.ensures c.held_below-3.ensures c.held_below-4.ensures (omega arith)
