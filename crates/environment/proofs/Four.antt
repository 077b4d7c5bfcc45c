-- A set's four words one by one, as the code reads them: with one of them changed, each is changed or not. Assumes nothing.
use mathlib.Core.Path.{◌≡◌, refl, sym, ap, ◌∙◌}
use mathlib.Core.List.{List, [], ◌∷◌}
use mathlib.Core.Bool.{cond}
use mathlib.Core.Logic.{◌≢◌}
use Prim.Native.Nat.{ℕ, zero, suc, ◌/◌, ◌%◌, ◌^◌, ◌<◌, ◌≤◌}
use native.Mathlib.Omega.{arith}
use native.Mathlib.Decide.{ℕ_discrete, dec_lt}
use lib.Dec.{ltb, eqb}
use lib.ListN.{length, get_or, set}
use lib.Seq.{set_out}
use lib.Bits.{bit_xor, xor_zero_r}
use borrow.Author.Tests.{eq-eqb, ne_eqb, lt-ltb, le-ltb}
use Rattle.environment.specs.declared.RegisterSet.{RegisterSet}
use Rattle.environment.specs.Bits.{flip}
use Rattle.environment.specs.Registers.{put_back, given_back}
use Rattle.environment.proofs.Bits.{xor_pow}

-- word i of the list with x at q
abbrev pub changed : List ℕ → ℕ → ℕ → ℕ → ℕ
changed ws q x i = cond (eqb q i) x (get_or ws i 0)

-- a list of four words with word q changed is the list with each word changed or not
pub set_four : (ws : List ℕ) → length ws ≡ 4 → (q x : ℕ) → set ws q x ≡ changed ws q x 0 ∷ changed ws q x 1 ∷ changed ws q x 2 ∷ changed ws q x 3 ∷ []
set_four [] h q x = absurd (omega arith)
set_four (a ∷ []) h q x = absurd (omega arith)
set_four (a ∷ b ∷ []) h q x = absurd (omega arith)
set_four (a ∷ b ∷ c ∷ []) h q x = absurd (omega arith)
set_four (a ∷ b ∷ c ∷ d ∷ e ∷ ws) h q x = absurd (omega arith)
set_four (a ∷ b ∷ c ∷ d ∷ []) h zero x = refl
set_four (a ∷ b ∷ c ∷ d ∷ []) h (suc zero) x = refl
set_four (a ∷ b ∷ c ∷ d ∷ []) h (suc (suc zero)) x = refl
set_four (a ∷ b ∷ c ∷ d ∷ []) h (suc (suc (suc zero))) x = refl
set_four (a ∷ b ∷ c ∷ d ∷ []) h (suc (suc (suc (suc q)))) x =
    let p : ℕ = suc (suc (suc (suc q))) in
    rw (ne_eqb p 0 (λ e. omega arith), ne_eqb p 1 (λ e. omega arith), ne_eqb p 2 (λ e. omega arith), ne_eqb p 3 (λ e. omega arith))

-- `bit_in`: the bit of register r in word i, or 0 where the register is in another word
abbrev pub bit_in : ℕ → ℕ → ℕ
bit_in i r = cond (eqb (r / 64) i) (2 ^ (r % 64)) 0

module _ (r i : ℕ) where
  pub bit_in_same : r / 64 ≡ i → bit_in i r ≡ 2 ^ (r % 64)
  bit_in_same e = rw (eq-eqb (r / 64) i e)

  pub bit_in_other : r / 64 ≢ i → bit_in i r ≡ 0
  bit_in_other e = rw (ne_eqb (r / 64) i e)

-- the words that `give_back` makes: each with the register's bit in it turned over
abbrev pub flipped_words : List ℕ → ℕ → List ℕ
flipped_words ws r = bit_xor (get_or ws 0 0) (bit_in 0 r) ∷ bit_xor (get_or ws 1 0) (bit_in 1 r) ∷ bit_xor (get_or ws 2 0) (bit_in 2 r) ∷ bit_xor (get_or ws 3 0) (bit_in 3 r) ∷ []

module _ (ws : List ℕ) (whole : length ws ≡ 4) (r : ℕ) where
  xor_bit_in : (i : ℕ) → changed ws (r / 64) (flip (get_or ws (r / 64) 0) (r % 64)) i ≡ bit_xor (get_or ws i 0) (bit_in i r)
  xor_bit_in i = go (ℕ_discrete (r / 64) i)
    where
      go : Dec (r / 64 ≡ i) → changed ws (r / 64) (flip (get_or ws (r / 64) 0) (r % 64)) i ≡ bit_xor (get_or ws i 0) (bit_in i r)
      go (yes e) = rw (eq-eqb (r / 64) i e, e, xor_pow)
      go (no e) = rw (ne_eqb (r / 64) i e, xor_zero_r)

  put_back_words : put_back ws r ≡ flipped_words ws r
  unfolding put_back
  put_back_words = set_four ws whole (r / 64) _ ∙ rw (xor_bit_in 0, xor_bit_in 1, xor_bit_in 2, xor_bit_in 3)

  put_back_past : 256 ≤ r → put_back ws r ≡ ws
  unfolding put_back
  put_back_past l = set_out ws (r / 64) _ (omega arith)

-- a number past the last register has a bit in none
pub given_back_words : (s : RegisterSet) (r : ℕ) → length s.words ≡ 4 → given_back s r ≡ record { words = flipped_words s.words r; frame_size = s.frame_size }
unfolding given_back
given_back_words s r whole = go (dec_lt r 256)
  where
    go : Dec (r < 256) →
        cond (ltb r 256) (record { words = put_back s.words r; frame_size = s.frame_size }) s
        ≡ record { words = flipped_words s.words r; frame_size = s.frame_size }
    go (yes l) = rw (lt-ltb r 256 l, put_back_words s.words whole r)
    go (no l) =
        let past : 256 ≤ r = omega arith in
        rw (le-ltb r 256 past) (ap (λ (ws : List ℕ). record { words = ws; frame_size = s.frame_size }) (sym (put_back_past s.words whole r past) ∙ put_back_words s.words whole r))
