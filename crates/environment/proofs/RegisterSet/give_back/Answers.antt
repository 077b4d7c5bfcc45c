-- `RegisterSet::give_back` meets its contract: in each word the register's bit is turned over, which is 0 in all words but one. Assumes nothing.
use Rattle.std.proofs.Common.{◌≡◌, ◌∙◌, [], ◌∷◌, ℕ, ◌*◌, ◌%◌, ◌^◌, ◌<◌, ◌≤◌, arith, length, get_or}
use lib.Bits.{bit_xor, xor_zero_r}
use Rattle.environment.specs.declared.RegisterSet.{RegisterSet}
use Rattle.environment.specs.Registers.{given_back}
use Rattle.environment.proofs.Bits.{shift_one}
use Rattle.environment.proofs.Four.{bit_in, bit_in_same, bit_in_other, given_back_words}
use Rattle.environment.proofs.RegisterSet.give_back.Goals as goal

module _ (s : RegisterSet) (r : ℕ) (whole : length s.words ≡ 4) where
  -- a register of the first word
  first : r < 64 →
      ◌≡◌ {A = RegisterSet}
      (record {
        words = bit_xor (get_or s.words 0 0) ((1 * 2 ^ r) % 18446744073709551616) ∷ get_or s.words 1 0 ∷ get_or s.words 2 0 ∷ get_or s.words 3 0 ∷ [];
        frame_size = s.frame_size;
      }) (given_back s r)
  first l =
      let low : r % 64 ≡ r = omega arith in
      let own : bit_in 0 r ≡ 2 ^ r = bit_in_same r 0 (omega arith) ∙ rw low in
      let none : (i : ℕ) → 0 < i → bit_in i r ≡ 0 = λ i h. bit_in_other r i (λ e. omega arith) in
      rw (given_back_words s r whole, own, shift_one r l, none 1 (omega arith), none 2 (omega arith), none 3 (omega arith)) (simp xor_zero_r)

  -- one of the others, or none
  other : 64 ≤ r → (x y z : ℕ) → x ≡ bit_in 1 r → y ≡ bit_in 2 r → z ≡ bit_in 3 r →
      ◌≡◌ {A = RegisterSet}
      (record {
        words = get_or s.words 0 0 ∷ bit_xor (get_or s.words 1 0) x ∷ bit_xor (get_or s.words 2 0) y ∷ bit_xor (get_or s.words 3 0) z ∷ [];
        frame_size = s.frame_size;
      }) (given_back s r)
  other l x y z a b d = rw (given_back_words s r whole, bit_in_other r 0 (λ e. omega arith), xor_zero_r, a, b, d)

pub returns-then-r-lt-BITS : goal.returns-then-r-lt-BITS
returns-then-r-lt-BITS c = first _ _ (omega arith) c.if-r-lt-BITS.true

pub returns-else-r-lt-BITS : goal.returns-else-r-lt-BITS
returns-else-r-lt-BITS c = other _ _ (omega arith) c.if-r-lt-BITS.false _ _ _ c.bit_in.ensures c.bit_in-else-r-lt-BITS.ensures c.bit_in-else-r-lt-BITS-2.ensures
