-- `RegisterSet::smallest_free` meets its contract: at each word, no word before it has a bit set, so none of their registers is free.
-- Assumes nothing.
use Rattle.std.proofs.Common.{◌≡◌, List, Some, None, cond, ltb, ℕ, ◌+◌, ◌<◌, ◌≤◌, get_or, arith}
use borrow.Author.Count.{below_none, below_more}
use borrow.Author.Tests.{lt-ltb}
use lib.Count.{count_trailing_zeros}
use Rattle.environment.specs.Registers.{smallest_free}
use Rattle.environment.proofs.Free.{smallest_free_in_word, smallest_free_in_none}
use Rattle.environment.proofs.RegisterSet.smallest_free.Goals as goal

-- of word k: how many zeros its lowest bits are, 64 if no bit is set
abbrev zeros : List ℕ → ℕ → ℕ
zeros ws k = count_trailing_zeros 64 (get_or ws k 0)

-- the smallest free one, by the first word that has a bit set; 256 where none has
module _ (ws : List ℕ) where
  in_first : zeros ws 0 < 64 → zeros ws 0 ≡ smallest_free ws
  in_first t = omega (arith, smallest_free_in_word ws 0 (below_none _) (omega arith) t)

  module _ (a : 64 ≤ zeros ws 0) where
    before_second : (k : ℕ) → k < 1 → 64 ≤ zeros ws k
    before_second = below_more (λ k. 64 ≤ zeros ws k) 0 (below_none _) a

    in_second : zeros ws 1 < 64 → 64 + zeros ws 1 ≡ smallest_free ws
    in_second t = smallest_free_in_word ws 1 before_second (omega arith) t

    module _ (b : 64 ≤ zeros ws 1) where
      before_third : (k : ℕ) → k < 2 → 64 ≤ zeros ws k
      before_third = below_more (λ k. 64 ≤ zeros ws k) 1 before_second b

      in_third : zeros ws 2 < 64 → 128 + zeros ws 2 ≡ smallest_free ws
      in_third t = smallest_free_in_word ws 2 before_third (omega arith) t

      module _ (d : 64 ≤ zeros ws 2) where
        before_fourth : (k : ℕ) → k < 3 → 64 ≤ zeros ws k
        before_fourth = below_more (λ k. 64 ≤ zeros ws k) 2 before_third d

        in_fourth : zeros ws 3 < 64 → 192 + zeros ws 3 ≡ smallest_free ws
        in_fourth t = smallest_free_in_word ws 3 before_fourth (omega arith) t

        in_none : 64 ≤ zeros ws 3 → 256 ≡ smallest_free ws
        in_none t = smallest_free_in_none ws 4 (below_more (λ k. 64 ≤ zeros ws k) 3 before_fourth t) (omega arith)

-- what is answered where there is one, and where there is none
module _ (ws : List ℕ) where
  found : {r : ℕ} → r ≡ smallest_free ws → r < 256 → Some r ≡ cond (ltb (smallest_free ws) 256) (Some (smallest_free ws)) None
  found {r} e l = rw (← e, lt-ltb r 256 l)

  none : 256 ≡ smallest_free ws → None ≡ cond (ltb (smallest_free ws) 256) (Some (smallest_free ws)) None
  none e = rw (← e)

pub returns-then-t0-lt-BITS : goal.returns-then-t0-lt-BITS
returns-then-t0-lt-BITS c = found _ (in_first c.args.self.words (omega arith)) (omega arith)

pub returns-then-t1-lt-BITS : goal.returns-then-t1-lt-BITS
returns-then-t1-lt-BITS c = found _ (in_second c.args.self.words (omega arith) (omega arith)) (omega arith)

pub returns-then-t2-lt-BITS : goal.returns-then-t2-lt-BITS
returns-then-t2-lt-BITS c = found _ (in_third c.args.self.words (omega arith) (omega arith) (omega arith)) (omega arith)

pub returns-then-t3-lt-BITS : goal.returns-then-t3-lt-BITS
returns-then-t3-lt-BITS c = found _ (in_fourth c.args.self.words (omega arith) (omega arith) (omega arith) (omega arith)) (omega arith)

pub returns : goal.returns
returns c = none _ (in_none c.args.self.words (omega arith) (omega arith) (omega arith) (omega arith))
