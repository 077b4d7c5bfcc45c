-- The set of n parameters, word by word, as `with_parameters` makes it: in each word the bits of the registers from n on are set. The next
-- register taken clears the lowest of them. Assumes nothing.
use mathlib.Core.Path.{◌≡◌, refl, ap, ◌∙◌}
use mathlib.Core.List.{List, [], ◌∷◌}
use mathlib.Core.Bool.{true, false}
use Prim.Native.Nat.{ℕ, zero, suc, ◌+◌, ◌*◌, ◌-◌, ◌/◌, ◌%◌, ◌^◌, ◌<◌, ◌≤◌, min, max}
use native.Mathlib.Omega.{arith}
use native.Mathlib.Decide.{ℕ_discrete, dec_lt}
use lib.ListN.{get_or}
use borrow.Author.Tests.{eq-eqb, ne_eqb, lt-ltb}
use Rattle.environment.specs.declared.RegisterSet.{RegisterSet}
use Rattle.environment.specs.Bits.{clear}
use Rattle.environment.specs.Registers.{all_free, free, take_out, smallest_free, without, taken}
use Rattle.environment.specs.Environment.{allocated, parameters}
use Rattle.environment.proofs.Bits.{bit_below, bit_above, clear_lowest}
use Rattle.environment.proofs.Free.{free_of_bit, not_free_of_bit, smallest_free_unique, smallest_free_none}
use Rattle.environment.proofs.Four.{changed, set_four}

-- the 64 registers from f on as a word, those below n held
abbrev pub held_below : ℕ → ℕ → ℕ
held_below n f = 2 ^ 64 - 2 ^ min 64 (n - f)

-- the words of a set in which exactly the registers below n are held, and the set of n parameters
abbrev pub words_below : ℕ → List ℕ
words_below n = held_below n 0 ∷ held_below n 64 ∷ held_below n 128 ∷ held_below n 192 ∷ []

abbrev pub lowest : ℕ → RegisterSet
lowest n = record { words = words_below n; frame_size = min n 256 }

module _ (n : ℕ) where
  word_below : (i : ℕ) → i < 4 → get_or (words_below n) i 0 ≡ held_below n (64 * i)
  word_below zero h = refl
  word_below (suc zero) h = refl
  word_below (suc (suc zero)) h = refl
  word_below (suc (suc (suc zero))) h = refl
  word_below (suc (suc (suc (suc i)))) h = absurd (omega arith)

  -- a register below n is not free, one from n on is
  pub held_lower : (j : ℕ) → j < 256 → j < n → free (words_below n) j ≡ false
  held_lower j h l = not_free_of_bit _ j (rw (word_below (j / 64) (omega arith)) (bit_below 64 (min 64 (n - 64 * (j / 64))) (j % 64) (omega arith) (omega arith)))

  pub free_upper : (j : ℕ) → j < 256 → n ≤ j → free (words_below n) j ≡ true
  free_upper j h l = free_of_bit _ j (rw (word_below (j / 64) (omega arith)) (bit_above 64 (min 64 (n - 64 * (j / 64))) (j % 64) (omega arith) (omega arith)))

  pub smallest_free_lem : n < 256 → smallest_free (words_below n) ≡ n
  smallest_free_lem h = smallest_free_unique (words_below n) n h (free_upper n h (omega arith)) (λ j l. held_lower j (omega arith) l)

  none_free : 256 ≤ n → smallest_free (words_below n) ≡ 256
  none_free h = smallest_free_none (words_below n) (λ j l. held_lower j l (omega arith))

  -- register n taken out, word by word
  word_next : (i : ℕ) → i < 4 → changed (words_below n) (n / 64) (clear (get_or (words_below n) (n / 64) 0) (n % 64)) i ≡ held_below (suc n) (64 * i)
  word_next i h = go (ℕ_discrete (n / 64) i)
    where
      go : Dec (n / 64 ≡ i) → changed (words_below n) (n / 64) (clear (get_or (words_below n) (n / 64) 0) (n % 64)) i ≡ held_below (suc n) (64 * i)
      go (yes e) =
          let now : min 64 (n - 64 * i) ≡ n % 64 = omega arith in
          let next : min 64 (suc n - 64 * i) ≡ suc (n % 64) = omega arith in
          rw (eq-eqb (n / 64) i e, e, word_below i h, now, next) (clear_lowest 64 (n % 64) (omega arith))
      go (no e) =
          let same : min 64 (n - 64 * i) ≡ min 64 (suc n - 64 * i) = omega arith in
          rw (ne_eqb (n / 64) i e, word_below i h, same)

  words_next : take_out (words_below n) n ≡ words_below (suc n)
  unfolding take_out
  words_next = set_four (words_below n) refl (n / 64) _ ∙ rw (word_next 0 (omega arith), word_next 1 (omega arith), word_next 2 (omega arith), word_next 3 (omega arith))

  -- the next parameter takes register n, and there is none past the 256
  next : (taken (lowest n)).set ≡ lowest (suc n)
  unfolding taken without
  next = go (dec_lt n 256)
    where
      go : Dec (n < 256) → (taken (lowest n)).set ≡ lowest (suc n)
      go (yes l) =
          let frame : max (min n 256) (n + 1) ≡ min (suc n) 256 = omega arith in
          rw (smallest_free_lem l, lt-ltb n 256 l, words_next, frame)
      go (no l) = rw (none_free (omega arith)) same
        where
          beyond : (f : ℕ) → f ≤ 192 → min 64 (n - f) ≡ min 64 (suc n - f)
          beyond f h = omega arith

          frame : min n 256 ≡ min (suc n) 256
          frame = omega arith

          same : lowest n ≡ lowest (suc n)
          same = rw (beyond 0 (omega arith), beyond 64 (omega arith), beyond 128 (omega arith), beyond 192 (omega arith), frame)

-- `with_parameters`
pub parameters_lowest : (n : ℕ) → parameters n ≡ lowest n
unfolding parameters allocated all_free
parameters_lowest zero = refl
parameters_lowest (suc n) = ap (λ s. (taken s).set) (parameters_lowest n) ∙ next n
