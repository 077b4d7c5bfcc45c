-- The free registers of a list of words, and the smallest of them. A register past the last word is not free: its word reads as 0.
-- Assumes nothing.
use mathlib.Core.Path.{◌≡◌, refl, sym, ap, ◌∙◌}
use mathlib.Core.Logic.{◌≢◌}
use mathlib.Core.List.{List}
use mathlib.Core.Bool.{Bool, true, false, cond, not, false≢true}
use Prim.Native.Nat.{ℕ, zero, suc, ◌+◌, ◌*◌, ◌/◌, ◌%◌, ◌^◌, ◌<◌, ◌≤◌}
use native.Mathlib.Omega.{arith}
use native.Mathlib.Decide.{ℕ_discrete, dec_lt}
use lib.Dec.{eqb}
use lib.ListN.{length, get_or, set, length-set, get_or-eq_default}
use lib.Seq.{get_or-set_same, get_or-set_other}
use lib.Bits.{bit_and}
use lib.Count.{count_trailing_zeros}
use borrow.Author.Tests.{eq-eqb, eqb-true, eqb-false}
use Rattle.environment.specs.Bits.{bit, clear, flip}
use Rattle.environment.specs.Registers.{free, take_out, put_back, smallest_from, smallest_free}
use Rattle.environment.proofs.Bits.{bit_lt, bit_of_zero, clear_same, clear_other, flip_same, flip_set, flip_other, flip_clear, and_shift, below_trailing, at_trailing}

-- free, by the bit
module _ (ws : List ℕ) (r : ℕ) where
  pub free_of_bit : bit (get_or ws (r / 64) 0) (r % 64) ≡ 1 → free ws r ≡ true
  unfolding free
  free_of_bit h = eq-eqb _ _ h

  pub not_free_of_bit : bit (get_or ws (r / 64) 0) (r % 64) ≡ 0 → free ws r ≡ false
  unfolding free
  not_free_of_bit h = rw h

  bit_of_free : free ws r ≡ true → bit (get_or ws (r / 64) 0) (r % 64) ≡ 1
  unfolding free
  bit_of_free h = eqb-true _ _ h

  bit_of_held : free ws r ≡ false → bit (get_or ws (r / 64) 0) (r % 64) ≡ 0
  unfolding free
  bit_of_held h = omega (arith, eqb-false (bit (get_or ws (r / 64) 0) (r % 64)) 1 h, bit_lt (get_or ws (r / 64) 0) (r % 64))

  -- a free register's word exists
  pub word_of_free : free ws r ≡ true → r / 64 < length ws
  word_of_free h = go (dec_lt (r / 64) (length ws))
    where
      go : Dec (r / 64 < length ws) → r / 64 < length ws
      go (yes l) = l
      go (no l) =
          let none : get_or ws (r / 64) 0 ≡ 0 = get_or-eq_default ws 0 (omega arith) in
          absurd (omega (arith, rw none at (bit_of_free h), bit_of_zero (r % 64)))

-- taking out and putting back change one register
module _ (ws : List ℕ) (r : ℕ) where
  pub length_take_out : length (take_out ws r) ≡ length ws
  unfolding take_out
  length_take_out = length-set ws (r / 64) _

  pub length_put_back : length (put_back ws r) ≡ length ws
  unfolding put_back
  length_put_back = length-set ws (r / 64) _

-- a free register turned over is taken out
pub put_back_free : (ws : List ℕ) (r : ℕ) → free ws r ≡ true → put_back ws r ≡ take_out ws r
unfolding take_out put_back
put_back_free ws r h = ap (set ws (r / 64)) (flip_clear (get_or ws (r / 64) 0) (r % 64) (bit_of_free ws r h))

module _ (ws : List ℕ) (r : ℕ) (there : r / 64 < length ws) where
  pub take_out_same : free (take_out ws r) r ≡ false
  unfolding take_out
  take_out_same = not_free_of_bit _ r (rw (get_or-set_same ws (r / 64) (clear (get_or ws (r / 64) 0) (r % 64)) 0 there) (clear_same (get_or ws (r / 64) 0) (r % 64)))

  pub put_back_same : free ws r ≡ false → free (put_back ws r) r ≡ true
  unfolding put_back
  put_back_same h = free_of_bit _ r (rw (get_or-set_same ws (r / 64) (flip (get_or ws (r / 64) 0) (r % 64)) 0 there) (flip_same (get_or ws (r / 64) 0) (r % 64) (bit_of_held ws r h)))

  -- a free register put back is taken out: the set shows it
  pub put_back_taken : free ws r ≡ true → free (put_back ws r) r ≡ false
  unfolding put_back
  put_back_taken h = not_free_of_bit _ r (rw (get_or-set_same ws (r / 64) (flip (get_or ws (r / 64) 0) (r % 64)) 0 there) (flip_set (get_or ws (r / 64) 0) (r % 64) (bit_of_free ws r h)))

  -- a store that changes no bit of the word but r's
  store_other : (x j : ℕ) → j ≢ r → ((k : ℕ) → k ≢ r % 64 → bit x k ≡ bit (get_or ws (r / 64) 0) k) →
      bit (get_or (set ws (r / 64) x) (j / 64) 0) (j % 64) ≡ bit (get_or ws (j / 64) 0) (j % 64)
  store_other x j ne h = go (ℕ_discrete (j / 64) (r / 64))
    where
      go : Dec (j / 64 ≡ r / 64) → bit (get_or (set ws (r / 64) x) (j / 64) 0) (j % 64) ≡ bit (get_or ws (j / 64) 0) (j % 64)
      go (yes q) =
          let d : j % 64 ≢ r % 64 = λ e. ne (omega arith) in
          rw (q, get_or-set_same ws (r / 64) x 0 there) (h (j % 64) d)
      go (no q) = rw (get_or-set_other ws (r / 64) (j / 64) x 0 q)

  pub take_out_other : (j : ℕ) → j ≢ r → free (take_out ws r) j ≡ free ws j
  unfolding take_out free
  take_out_other j ne = ap (λ b. eqb b 1) (store_other _ j ne (λ k d. clear_other (get_or ws (r / 64) 0) (r % 64) k d))

  pub put_back_other : (j : ℕ) → j ≢ r → free (put_back ws r) j ≡ free ws j
  unfolding put_back free
  put_back_other j ne = ap (λ b. eqb b 1) (store_other _ j ne (λ k d. flip_other (get_or ws (r / 64) 0) (r % 64) k d))

-- m is the smallest free one of n registers from r on, or r + n
record Smallest (ws : List ℕ) (n r m : ℕ) : Type 0 where
  pub least : r ≤ m
  pub most : m ≤ r + n
  pub free_there : m < r + n → free ws m ≡ true
  pub none_before : (j : ℕ) → r ≤ j → j < m → free ws j ≡ false

smallest : (ws : List ℕ) (n r : ℕ) → Smallest ws n r (smallest_from ws n r)
unfolding smallest_from
smallest ws zero r = record { least = omega arith; most = omega arith; free_there = λ h. absurd (omega arith); none_before = λ j a b. absurd (omega arith) }
smallest ws (suc n) r = go (free ws r) refl (smallest ws n (suc r))
  where
    go : (b : Bool) → free ws r ≡ b → Smallest ws n (suc r) (smallest_from ws n (suc r)) → Smallest ws (suc n) r (cond b r (smallest_from ws n (suc r)))
    go true e s = record { least = omega arith; most = omega arith; free_there = λ h. e; none_before = λ j a b. absurd (omega arith) }
    go false e s = record {
      least = omega (arith, s.least);
      most = omega (arith, s.most);
      free_there = λ h. s.free_there (omega arith);
      none_before = λ j a b. before j a b (ℕ_discrete r j);
    }
      where
        before : (j : ℕ) → r ≤ j → j < smallest_from ws n (suc r) → Dec (r ≡ j) → free ws j ≡ false
        before j a b (yes q) = rw q at e
        before j a b (no q) = s.none_before j (omega arith) b

-- the smallest free register: free where it is one, and every smaller one is not
module _ (ws : List ℕ) where
  pub smallest_free_free : smallest_free ws < 256 → free ws (smallest_free ws) ≡ true
  unfolding smallest_free
  smallest_free_free h = (smallest ws 256 0).free_there (omega arith)

  pub smallest_free_before : (j : ℕ) → j < smallest_free ws → free ws j ≡ false
  unfolding smallest_free
  smallest_free_before j h = (smallest ws 256 0).none_before j (omega arith) h

  smallest_free_le : smallest_free ws ≤ 256
  unfolding smallest_free
  smallest_free_le = omega (arith, (smallest ws 256 0).most)

  -- and it is the only such
  pub smallest_free_unique : (r : ℕ) → r < 256 → free ws r ≡ true → ((j : ℕ) → j < r → free ws j ≡ false) → smallest_free ws ≡ r
  smallest_free_unique r h e before = go (dec_lt (smallest_free ws) r) (dec_lt r (smallest_free ws))
    where
      go : Dec (smallest_free ws < r) → Dec (r < smallest_free ws) → smallest_free ws ≡ r
      go (yes l) m = absurd (false≢true (sym (before (smallest_free ws) l) ∙ smallest_free_free (omega arith)))
      go (no l) (yes m) = absurd (false≢true (sym (smallest_free_before r m) ∙ e))
      go (no l) (no m) = omega arith

  pub smallest_free_none : ((j : ℕ) → j < 256 → free ws j ≡ false) → smallest_free ws ≡ 256
  smallest_free_none h = go (dec_lt (smallest_free ws) 256)
    where
      go : Dec (smallest_free ws < 256) → smallest_free ws ≡ 256
      go (yes l) = absurd (false≢true (sym (h (smallest_free ws) l) ∙ smallest_free_free l))
      go (no l) = omega (arith, smallest_free_le)

-- what `smallest_free` answers: at word i, with no bit set in the words before
module _ (ws : List ℕ) (i : ℕ) (zeros : (k : ℕ) → k < i → 64 ≤ count_trailing_zeros 64 (get_or ws k 0)) where
  pub smallest_free_in_word : i < 4 → count_trailing_zeros 64 (get_or ws i 0) < 64 → 64 * i + count_trailing_zeros 64 (get_or ws i 0) ≡ smallest_free ws
  smallest_free_in_word h t =
      let q : (64 * i + count_trailing_zeros 64 (get_or ws i 0)) / 64 ≡ i = omega arith in
      let m : (64 * i + count_trailing_zeros 64 (get_or ws i 0)) % 64 ≡ count_trailing_zeros 64 (get_or ws i 0) = omega arith in
      sym (smallest_free_unique ws (64 * i + count_trailing_zeros 64 (get_or ws i 0)) (omega arith)
      (free_of_bit ws _ (rw (q, m) (at_trailing 64 (get_or ws i 0) t)))
      (λ j g. not_free_of_bit ws j (before j g (dec_lt (j / 64) i))))
    where
      before : (j : ℕ) → j < 64 * i + count_trailing_zeros 64 (get_or ws i 0) → Dec (j / 64 < i) → bit (get_or ws (j / 64) 0) (j % 64) ≡ 0
      before j g (yes e) = below_trailing 64 (get_or ws (j / 64) 0) (j % 64) (omega (arith, zeros (j / 64) e))
      before j g (no e) =
          let same : j / 64 ≡ i = omega arith in
          let low : j % 64 < count_trailing_zeros 64 (get_or ws i 0) = omega arith in
          rw same (below_trailing 64 (get_or ws i 0) (j % 64) low)

  pub smallest_free_in_none : 4 ≤ i → 256 ≡ smallest_free ws
  smallest_free_in_none h =
      sym (smallest_free_none ws (λ j g. not_free_of_bit ws j (below_trailing 64 (get_or ws (j / 64) 0) (j % 64) (omega (arith, zeros (j / 64) (omega arith))))))

-- `held`: what the shift and the mask make of a word
module _ (ws : List ℕ) (r : ℕ) where
  pub and_free : eqb (bit_and (get_or ws (r / 64) 0 / 2 ^ (r % 64)) 1) 0 ≡ not (free ws r)
  unfolding free
  and_free = rw (and_shift (get_or ws (r / 64) 0) (r % 64)) (go (bit (get_or ws (r / 64) 0) (r % 64)) (bit_lt (get_or ws (r / 64) 0) (r % 64)))
    where
      go : (b : ℕ) → b < 2 → eqb b 0 ≡ not (eqb b 1)
      go zero h = refl
      go (suc zero) h = refl
      go (suc (suc b)) h = absurd (omega arith)
