-- Constants: their words say which constant it is, as value.rs's 64 bits do, and a number's words and the number are each other's. Assumes nothing.
use mathlib.Core.Path.{◌≡◌, refl, sym, ap, ◌∙◌}
use mathlib.Core.List.{List, [], ◌∷◌}
use mathlib.Core.Logic.{◌↔◌}
use mathlib.Core.Bool.{true, false, not, cond}
use Prim.Native.Nat.{ℕ, zero, suc, ◌+◌, ◌*◌, ◌/◌, ◌%◌, ◌≤◌, ◌<◌}
use native.Mathlib.Omega.{arith}
use native.Mathlib.Nat.{div-add-mod}
use lib.Dec.{T, eqb, ltb}
use lib.ListN.{length, get_or}
use lib.Ieee.{Float, binary64, fits, is_nan, nan_bits}
use lib.Ieee.Bits.{is_false, of_bits-to_bits, to_bits-lt, to_bits-of_bits, nan_bits_is, nan_bits_above}
use borrow.Author.Tests.{ltb-false, ne_eqb}
use Rattle.runtime.specs.declared.operand.Operand.{Operand}
use Rattle.runtime.proofs.Floats.{not_nan}
use Rattle.runtime.specs.Value.{constant_width, number_of, number_bits, constant_words, tag_nil, tag_bool, tag_string, parts_bits, value_bits, Admitted}

-- a constant is three words
pub constant_width_lem : (c : Operand) → length (constant_words c) ≡ constant_width
unfolding constant_words
constant_width_lem Operand.Nil = refl
constant_width_lem (Operand.Boolean b) = refl
constant_width_lem (Operand.Number x) = refl
constant_width_lem (Operand.String symbol) = refl
constant_width_lem (Operand.Register r) = refl

-- ---- numbers

-- a node's words to a number and back: bits that are no NaN's stay as they are
pub number_exact : (low high : ℕ) → low < 4294967296 → high < 4294967296 → nan_bits binary64 (4294967296 * high + low) ≡ false →
    constant_words (Operand.Number (number_of low high)) ≡ 2 ∷ low ∷ high ∷ []
unfolding constant_words number_of
number_exact low high l h n =
    let bits : ℕ = 4294967296 * high + low in
    let e : number_bits (number_of low high) ≡ bits = to_bits-of_bits binary64 bits (omega arith) (not_nan _ (sym (nan_bits_is binary64 bits) ∙ n)) in
    let d : bits / 4294967296 ≡ high = omega arith in
    let m : bits % 4294967296 ≡ low = omega arith in
    rw (e, d, m)

-- a number to its words and back
pub exact_number : (x : Float) → T (fits binary64 x) → number_of (number_bits x % 4294967296) (number_bits x / 4294967296) ≡ x
unfolding number_of
exact_number x f = rw (div-add-mod (number_bits x) 4294967296) (of_bits-to_bits binary64 x f)

-- ---- which constant

-- the constant of three words
constant_of : List ℕ → Operand
constant_of ws = kinds (get_or ws 0 0) (get_or ws 1 0) (get_or ws 2 0)
  where
    kinds : ℕ → ℕ → ℕ → Operand
    kinds zero low high = Operand.Nil
    kinds (suc zero) low high = Operand.Boolean (eqb low 1)
    kinds (suc (suc zero)) low high = Operand.Number (number_of low high)
    kinds (suc (suc (suc k))) low high = Operand.String low

constant_of_words : (x : Operand) → Admitted x → constant_of (constant_words x) ≡ x
unfolding constant_words constant_of
constant_of_words Operand.Nil a = refl
constant_of_words (Operand.Boolean true) a = refl
constant_of_words (Operand.Boolean false) a = refl
constant_of_words (Operand.Number x) a = ap Operand.Number (exact_number x a.0)
constant_of_words (Operand.String symbol) a = refl
constant_of_words (Operand.Register r) a = absurd a

-- constants with the same words are the same
pub constant_words_injective : (x y : Operand) → Admitted x → Admitted y → constant_words x ≡ constant_words y → x ≡ y
constant_words_injective x y a b e = sym (constant_of_words x a) ∙ ap constant_of e ∙ constant_of_words y b

-- ---- the bits of value.rs

-- the bits of three words
bits_of : List ℕ → ℕ
bits_of ws = kinds (get_or ws 0 0) (get_or ws 1 0) (get_or ws 2 0)
  where
    kinds : ℕ → ℕ → ℕ → ℕ
    kinds zero low high = parts_bits 0 tag_nil
    kinds (suc zero) low high = parts_bits low tag_bool
    kinds (suc (suc zero)) low high = parts_bits low high
    kinds (suc (suc (suc k))) low high = parts_bits low tag_string

bits_of_words : (x : Operand) → bits_of (constant_words x) ≡ value_bits x
unfolding constant_words value_bits bits_of
bits_of_words Operand.Nil = refl
bits_of_words (Operand.Boolean b) = refl
bits_of_words (Operand.Number x) = div-add-mod (number_bits x) 4294967296
bits_of_words (Operand.String symbol) = refl
bits_of_words (Operand.Register r) = refl

-- the words of 64 bits, by the tag
words_of_bits : ℕ → ℕ → List ℕ
words_of_bits low high =
    cond (eqb high tag_nil) (0 ∷ 0 ∷ 0 ∷ [])
    (cond (eqb high tag_bool) (1 ∷ low ∷ 0 ∷ [])
    (cond (eqb high tag_string) (3 ∷ low ∷ 0 ∷ [])
    (2 ∷ low ∷ high ∷ [])))

-- the high word of a number that is no NaN is at most that of minus infinity, 0xFFF0_0000, below each tag
number_high : (x : Float) → T (fits binary64 x) → T (not (is_nan x)) → number_bits x / 4294967296 ≤ 4293918720
number_high x f n =
    let bits : ℕ = number_bits x in
    let number : ltb 9218868437227405312 (bits % 9223372036854775808) ≡ false =
    sym (nan_bits_above binary64 bits) ∙ nan_bits_is binary64 bits ∙ ap is_nan (of_bits-to_bits binary64 x f) ∙ is_false (is_nan x) n in
    let wide : bits < 18446744073709551616 = to_bits-lt binary64 x f in
    omega (arith, ltb-false)

words_of_bits_lem : (x : Operand) → Admitted x → words_of_bits (value_bits x % 4294967296) (value_bits x / 4294967296) ≡ constant_words x
unfolding constant_words value_bits words_of_bits
words_of_bits_lem Operand.Nil a = refl
words_of_bits_lem (Operand.Boolean true) a = refl
words_of_bits_lem (Operand.Boolean false) a = refl
words_of_bits_lem (Operand.Number x) a =
    let high : ℕ = number_bits x / 4294967296 in
    let below : high ≤ 4293918720 = number_high x a.0 a.1 in
    simp (ne_eqb high tag_nil (λ e. omega arith), ne_eqb high tag_bool (λ e. omega arith), ne_eqb high tag_string (λ e. omega arith))
words_of_bits_lem (Operand.String symbol) a =
    let low : parts_bits symbol tag_string % 4294967296 ≡ symbol = omega arith in
    let high : parts_bits symbol tag_string / 4294967296 ≡ tag_string = omega arith in
    rw (low, high)
words_of_bits_lem (Operand.Register r) a = absurd a

-- "Same words mean same constant, as `value.rs` has it". It does not need that a number is no minus zero: that has words
-- and bits of its own, 0x8000_0000_0000_0000.
pub same_constant : (x y : Operand) → Admitted x → Admitted y → (constant_words x ≡ constant_words y) ↔ (value_bits x ≡ value_bits y)
same_constant x y a b = (
  λ e. sym (bits_of_words x) ∙ ap bits_of e ∙ bits_of_words y,
  λ e. sym (words_of_bits_lem x a) ∙ ap (λ n. words_of_bits (n % 4294967296) (n / 4294967296)) e ∙ words_of_bits_lem y b,
)

-- NaN has to be kept out: its bits may be those of nil, which value.rs would then take for the same constant. (The definitions know one NaN, with
-- the bits 0x7FF8_0000_0000_0000; a NaN of Rust has any.)
pub nan_nil : nan_bits binary64 (value_bits Operand.Nil) ≡ true
unfolding value_bits nan_bits
nan_nil = refl
