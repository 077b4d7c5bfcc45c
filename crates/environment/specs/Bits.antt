-- The bits of a number, the lowest first.
use Rattle.std.specs.Prelude.{ℕ, zero, suc, ◌+◌, ◌*◌, ◌-◌, ◌/◌, ◌%◌}

-- bit k of n
unfoldable pub bit : ℕ → ℕ → ℕ
bit n zero = n % 2
bit n (suc k) = bit (n / 2) k

-- n with bit k cleared
unfoldable pub clear : ℕ → ℕ → ℕ
clear n zero = n / 2 * 2
clear n (suc k) = clear (n / 2) k * 2 + n % 2

-- n with bit k turned over
unfoldable pub flip : ℕ → ℕ → ℕ
flip n zero = n / 2 * 2 + (1 - n % 2)
flip n (suc k) = flip (n / 2) k * 2 + n % 2
