-- A table whose last entry is also what stands past it, and the numbers past five. Assumes nothing.
use mathlib.Core.Path.{◌≡◌}
use mathlib.Core.List.{List}
use Prim.Native.Nat.{ℕ, suc, ◌+◌, ◌≤◌}
use native.Mathlib.Omega.{arith}
use native.Mathlib.Decide.{ℕ_discrete}
use lib.ListN.{length, get_or, get_or-eq_default}

pub get_or_past : {A : Type 0} (l : List A) (d : A) (n k : ℕ) → get_or l n d ≡ d → length l ≤ suc n → n ≤ k → get_or l k d ≡ d
get_or_past {A} l d n k e b h = go (ℕ_discrete k n)
  where
    go : Dec (k ≡ n) → get_or l k d ≡ d
    go (yes q) = rw q e
    go (no q) = let out : length l ≤ k = omega arith in get_or-eq_default l d out

-- a number that is at least n and none of five from n on
pub five_past : (n : ℕ) {k : ℕ} → n ≤ k → (k ≡ n → ⊥) → (k ≡ n + 1 → ⊥) → (k ≡ n + 2 → ⊥) → (k ≡ n + 3 → ⊥) → (k ≡ n + 4 → ⊥) → n + 5 ≤ k
five_past n h a b c d e = omega arith
