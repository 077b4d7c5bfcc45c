-- The laws of single bits, and what the machine's shifts, masks and counts are of them. Each goes down the bits as `bit` does, by halves.
-- Assumes nothing.
use mathlib.Core.Path.{◌≡◌, refl, sym, ap, ◌∙◌}
use mathlib.Core.Logic.{◌≢◌}
use Prim.Native.Nat.{ℕ, zero, suc, ◌+◌, ◌*◌, ◌-◌, ◌/◌, ◌%◌, ◌^◌, ◌<◌, ◌≤◌}
use native.Mathlib.Omega.{arith}
use native.Mathlib.Numerals.{one-add}
use native.Mathlib.Nat.{pow-suc, one-mul, mul-suc, mul_comm, mod-eq_of_lt}
use lib.Pow.{shr-shr, pow_pos, pow-lt, low, suc_ones}
use lib.Bits.{bit_xor, bit_and, xor_step, xor_zero_r, and_mask, differ}
use lib.Count.{count_trailing_zeros, under}
use Rattle.environment.specs.Bits.{bit, clear, flip}

-- a bit is 0 or 1, and 0 has none set
pub bit_lt : (n k : ℕ) → bit n k < 2
unfolding bit
bit_lt n zero = omega arith
bit_lt n (suc k) = bit_lt (n / 2) k

pub bit_of_zero : (k : ℕ) → bit 0 k ≡ 0
unfolding bit
bit_of_zero zero = refl
bit_of_zero (suc k) = bit_of_zero k

-- the lowest bit of a number made of a half and a lowest bit, and its half
module _ (x n : ℕ) where
  half_join : (x * 2 + n % 2) / 2 ≡ x
  half_join = omega arith

  lowest_join : (x * 2 + n % 2) % 2 ≡ n % 2
  lowest_join = omega arith

-- bit k cleared, and the others
pub clear_same : (n k : ℕ) → bit (clear n k) k ≡ 0
unfolding bit clear
clear_same n zero = omega arith
clear_same n (suc k) = rw half_join (clear_same (n / 2) k)

pub clear_other : (n k j : ℕ) → j ≢ k → bit (clear n k) j ≡ bit n j
unfolding bit clear
clear_other n zero zero h = absurd (h refl)
clear_other n zero (suc j) h = let e : n / 2 * 2 / 2 ≡ n / 2 = omega arith in rw e
clear_other n (suc k) zero h = lowest_join (clear (n / 2) k) n
clear_other n (suc k) (suc j) h = rw half_join (clear_other (n / 2) k j (λ e. h (ap suc e)))

-- bit k turned over, and the others
pub flip_same : (n k : ℕ) → bit n k ≡ 0 → bit (flip n k) k ≡ 1
unfolding bit flip
flip_same n zero h = omega arith
flip_same n (suc k) h = rw half_join (flip_same (n / 2) k h)

pub flip_set : (n k : ℕ) → bit n k ≡ 1 → bit (flip n k) k ≡ 0
unfolding bit flip
flip_set n zero h = omega arith
flip_set n (suc k) h = rw half_join (flip_set (n / 2) k h)

pub flip_other : (n k j : ℕ) → j ≢ k → bit (flip n k) j ≡ bit n j
unfolding bit flip
flip_other n zero zero h = absurd (h refl)
flip_other n zero (suc j) h = let e : (n / 2 * 2 + (1 - n % 2)) / 2 ≡ n / 2 = omega arith in rw e
flip_other n (suc k) zero h = lowest_join (flip (n / 2) k) n
flip_other n (suc k) (suc j) h = rw half_join (flip_other (n / 2) k j (λ e. h (ap suc e)))

-- a set bit turned over is cleared
pub flip_clear : (n k : ℕ) → bit n k ≡ 1 → flip n k ≡ clear n k
unfolding bit flip clear
flip_clear n zero h = omega arith
flip_clear n (suc k) h = rw (flip_clear (n / 2) k h)

-- half of a number whose lowest m + 1 bits are 0
half_above : (w m : ℕ) → (2 ^ suc w - 2 ^ suc m) / 2 ≡ 2 ^ w - 2 ^ m
half_above w m = omega (arith, pow-suc 2 w, pow-suc 2 m)

-- every bit of the greatest number of m bits is set
pub bit_greatest : (m k : ℕ) → k < m → bit (2 ^ m - 1) k ≡ 1
unfolding bit
bit_greatest zero k h = absurd (omega arith)
bit_greatest (suc m) zero h = omega (arith, pow-suc 2 m, pow_pos m)
bit_greatest (suc m) (suc k) h =
    let e : (2 ^ suc m - 1) / 2 ≡ 2 ^ m - 1 = omega (arith, pow-suc 2 m, pow_pos m) in
    rw e (bit_greatest m k (omega arith))

-- of the number whose lowest m of w bits are 0 and the others 1: each bit, and the lowest that is set cleared
pub bit_below : (w m k : ℕ) → m ≤ w → k < m → bit (2 ^ w - 2 ^ m) k ≡ 0
unfolding bit
bit_below w zero k h l = absurd (omega arith)
bit_below zero (suc m) k h l = absurd (omega arith)
bit_below (suc w) (suc m) zero h l = omega (arith, pow-suc 2 w, pow-suc 2 m)
bit_below (suc w) (suc m) (suc k) h l = rw (half_above w m) (bit_below w m k (omega arith) (omega arith))

pub bit_above : (w m k : ℕ) → m ≤ k → k < w → bit (2 ^ w - 2 ^ m) k ≡ 1
unfolding bit
bit_above w zero k h l = bit_greatest w k l
bit_above w (suc m) zero h l = absurd (omega arith)
bit_above zero (suc m) (suc k) h l = absurd (omega arith)
bit_above (suc w) (suc m) (suc k) h l = rw (half_above w m) (bit_above w m k (omega arith) (omega arith))

pub clear_lowest : (w m : ℕ) → m < w → clear (2 ^ w - 2 ^ m) m ≡ 2 ^ w - 2 ^ suc m
unfolding clear
clear_lowest zero m h = absurd (omega arith)
clear_lowest (suc w) zero h = omega (arith, pow-suc 2 w, pow_pos w)
clear_lowest (suc w) (suc m) h =
    let even : (2 ^ suc w - 2 ^ suc m) % 2 ≡ 0 = omega (arith, pow-suc 2 w, pow-suc 2 m) in
    rw (half_above w m, clear_lowest w m (omega arith), even) (omega (arith, pow-suc 2 w, pow-suc 2 (suc m)))

-- `(n >> k) & 1`
bit_shift : (n k : ℕ) → bit n k ≡ n / 2 ^ k % 2
unfolding bit
bit_shift n zero = let e : n / 1 ≡ n = omega arith in rw e
bit_shift n (suc k) = bit_shift (n / 2) k ∙ ap (λ x. x % 2) (shr-shr n 1 k ∙ ap (λ j. n / 2 ^ j) (one-add k))

pub and_shift : (n k : ℕ) → bit_and (n / 2 ^ k) 1 ≡ bit n k
and_shift n k = and_mask (n / 2 ^ k) 1 ∙ sym (bit_shift n k)

-- `1u64 << k`
pub shift_one : (k : ℕ) → k < 64 → (1 * 2 ^ k) % 18446744073709551616 ≡ 2 ^ k
shift_one k h =
    let b : 2 ^ k < 2 ^ 64 = pow-lt h in
    ap (λ x. x % 18446744073709551616) (one-mul (2 ^ k)) ∙ mod-eq_of_lt b

-- `0xffff_ffff_ffff_ffff << k`
times_greatest : (m q : ℕ) → q ≤ m → m * suc q ≡ q * suc m + (m - q)
times_greatest m q h = omega (arith, mul-suc m q, mul-suc q m, mul_comm m q)

pub shift_ones : (k : ℕ) → k < 64 → (18446744073709551615 * 2 ^ k) % 18446744073709551616 ≡ 2 ^ 64 - 2 ^ k
shift_ones k h =
    let b : 2 ^ k < 2 ^ 64 = pow-lt h in
    let q : 18446744073709551615 - (2 ^ k - 1) ≡ 2 ^ 64 - 2 ^ k = omega (arith, pow_pos k) in
    ap (λ x. (18446744073709551615 * x) % 18446744073709551616) (sym (suc_ones k)) ∙ ap (λ x. x % 18446744073709551616) (times_greatest 18446744073709551615 (2 ^ k - 1) (omega arith))
    ∙ low (2 ^ k - 1) 64 (omega arith) ∙ q

module _ (k : ℕ) where
  half_pow : 2 ^ suc k / 2 ≡ 2 ^ k
  half_pow = omega (arith, pow-suc 2 k)

  lowest_pow : 2 ^ suc k % 2 ≡ 0
  lowest_pow = omega (arith, pow-suc 2 k)

differ_zero : (x : ℕ) → differ x 0 ≡ x
differ_zero zero = refl
differ_zero (suc x) = refl

differ_one : (x : ℕ) → x < 2 → differ x 1 ≡ 1 - x
differ_one zero h = refl
differ_one (suc zero) h = refl
differ_one (suc (suc x)) h = absurd (omega arith)

-- `n ^ (1 << k)`
pub xor_pow : (n k : ℕ) → bit_xor n (2 ^ k) ≡ flip n k
unfolding flip
xor_pow n zero = xor_step n 1 ∙ rw (xor_zero_r (n / 2), differ_one (n % 2) (omega arith)) (omega arith)
xor_pow n (suc k) = xor_step n (2 ^ suc k) ∙ rw (half_pow k, lowest_pow k, xor_pow (n / 2) k, differ_zero (n % 2))

-- `trailing_zeros` counts up to the lowest bit that is set
pub below_trailing : (k n j : ℕ) → j < count_trailing_zeros k n → bit n j ≡ 0
unfolding bit count_trailing_zeros
below_trailing zero n j h = absurd (omega arith)
below_trailing (suc k) n j h = go (n % 2) refl j h (below_trailing k (n / 2))
  where
    go : (d : ℕ) → n % 2 ≡ d → (i : ℕ) → i < under d (count_trailing_zeros k (n / 2)) →
        ((i : ℕ) → i < count_trailing_zeros k (n / 2) → bit (n / 2) i ≡ 0) → bit n i ≡ 0
    go zero e zero g higher = e
    go zero e (suc i) g higher = higher i (omega arith)
    go (suc d) e i g higher = absurd (omega arith)

pub at_trailing : (k n : ℕ) → count_trailing_zeros k n < k → bit n (count_trailing_zeros k n) ≡ 1
unfolding bit count_trailing_zeros
at_trailing zero n h = absurd (omega arith)
at_trailing (suc k) n h = go (n % 2) refl h (at_trailing k (n / 2))
  where
    go : (d : ℕ) → n % 2 ≡ d → under d (count_trailing_zeros k (n / 2)) < suc k →
        (count_trailing_zeros k (n / 2) < k → bit (n / 2) (count_trailing_zeros k (n / 2)) ≡ 1) → bit n (under d (count_trailing_zeros k (n / 2))) ≡ 1
    go zero e g higher = higher (omega arith)
    go (suc d) e g higher = omega arith
