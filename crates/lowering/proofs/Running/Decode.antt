-- What the machine reads back: an instruction from its words, a jump from its words with another offset, a constant from its words; and what
-- setting one word does to the records of a buffer. Assumes nothing.
use Rattle.std.specs.Prelude.{Some}
use Prim.Native.Nat.{ℕ, ◌+◌, ◌*◌, ◌/◌, ◌%◌, ◌≤◌, ◌<◌, min}
use native.Mathlib.Omega.{arith}
use native.Mathlib.Decide.{ℕ_discrete}
use mathlib.Core.Path.{◌≡◌, refl, sym, ap, ◌∙◌, subst}
use mathlib.Core.Logic.{◌≢◌}
use mathlib.Core.List.{List}
use mathlib.Core.Bool.{Bool, true, false, cond, not}
use lib.Dec.{eqb, ltb, T}
use lib.ListN.{length, get_or, set, drop, length-set, length-take, length-drop}
use lib.Seq.{ext_get_or, get_or-set_same, get_or-set_other}
use lib.Ieee.{binary64, fits, of_bits, to_bits}
use lib.Ieee.Bits.{of_bits-to_bits, of_bits-fits}
use Rattle.words.specs.Records.{record_at}
use Rattle.words.proofs.Records.{record_word}
use Rattle.runtime.specs.declared.operand.Operand.{Operand}
use Rattle.runtime.specs.Instruction.{instruction_width, offset_word}
use Rattle.runtime.specs.Value.{constant_width, number_of, constant_words}
use Rattle.lowering.specs.Meaning.{Operators}
use Rattle.lowering.specs.Machine.{constant_of}

-- a record with another offset
unfoldable pub aim : ℕ → List ℕ → List ℕ
aim o ws = set ws (offset_word (get_or ws 0 0)) o

pub offset_small : (kind : ℕ) → offset_word kind < instruction_width
unfolding offset_word
offset_small kind = go (ltb kind 41) (ltb kind 42) (ltb kind 44) (ltb kind 54)
  where
    go : (a b c d : Bool) → cond a 0 (cond b 1 (cond c 2 (cond d 3 0))) < instruction_width
    go true b c d = omega arith
    go false true c d = omega arith
    go false false true d = omega arith
    go false false false true = omega arith
    go false false false false = omega arith

-- a word set in record p: the record with that word set, and no other record changed
module _ (ws : List ℕ) (p k v : ℕ) (h : k < instruction_width) where
  length_record : (vs us : List ℕ) (q : ℕ) → length vs ≡ length us → length (record_at instruction_width vs q) ≡ length (record_at instruction_width us q)
  unfolding record_at
  length_record vs us q e = simp (length-take, length-drop) (rw e)

  short_record : (vs : List ℕ) (q i : ℕ) → i < length (record_at instruction_width vs q) → i < instruction_width
  unfolding record_at
  short_record vs q i l = let e : i < min instruction_width (length (drop (instruction_width * q) vs)) = rw length-take at l in omega arith

  pub record_set_other : (q : ℕ) → q ≢ p → record_at instruction_width (set ws (instruction_width * p + k) v) q ≡ record_at instruction_width ws q
  record_set_other q ne =
      ext_get_or 0 (record_at instruction_width (set ws (instruction_width * p + k) v) q) (record_at instruction_width ws q) (length_record _ _ q (length-set ws (instruction_width * p + k) v))
      (λ i l.
      let s : i < instruction_width = short_record _ q i l in
      record_word instruction_width (set ws (instruction_width * p + k) v) q i s
      ∙ get_or-set_other ws (instruction_width * p + k) (instruction_width * q + i) v 0 (λ e. ne (omega arith))
      ∙ sym (record_word instruction_width ws q i s))

  pub record_set_same : instruction_width * p + instruction_width ≤ length ws → record_at instruction_width (set ws (instruction_width * p + k) v) p ≡ set (record_at instruction_width ws p) k v
  record_set_same fit =
      ext_get_or 0 (record_at instruction_width (set ws (instruction_width * p + k) v) p) (set (record_at instruction_width ws p) k v)
      (length_record _ _ p (length-set ws (instruction_width * p + k) v) ∙ sym (length-set (record_at instruction_width ws p) k v))
      (λ i l. word i (short_record _ p i l) (subst (λ n. i < n) (length_record (set ws (instruction_width * p + k) v) ws p (length-set ws (instruction_width * p + k) v)) l) (ℕ_discrete i k))
    where
      word : (i : ℕ) → i < instruction_width → i < length (record_at instruction_width ws p) → Dec (i ≡ k) → get_or (record_at instruction_width (set ws (instruction_width * p + k) v) p) i 0 ≡ get_or (set (record_at instruction_width ws p) k v) i 0
      word i s l (yes e) =
          let inside : k < length (record_at instruction_width ws p) = rw e at l in
          rw e
          (record_word instruction_width (set ws (instruction_width * p + k) v) p k h
          ∙ get_or-set_same ws (instruction_width * p + k) v 0 (omega arith)
          ∙ sym (get_or-set_same (record_at instruction_width ws p) k v 0 inside))
      word i s l (no n) =
          record_word instruction_width (set ws (instruction_width * p + k) v) p i s
          ∙ get_or-set_other ws (instruction_width * p + k) (instruction_width * p + i) v 0 (λ e. n (omega arith))
          ∙ sym (record_word instruction_width ws p i s)
          ∙ sym (get_or-set_other (record_at instruction_width ws p) k i v 0 n)

-- a constant that the pool can hold
unfoldable pub Proper : Operand → Type 0
Proper (Operand.Register r) = ⊥
Proper (Operand.Number x) = T (fits binary64 x)
Proper (Operand.String symbol) = Unit {0}
Proper (Operand.Boolean b) = Unit {0}
Proper Operand.Nil = Unit {0}

pub number_proper : (low high : ℕ) → Proper (Operand.Number (number_of low high))
unfolding Proper number_of
number_proper low high = of_bits-fits binary64 (4294967296 * high + low)

pub constant_length : (c : Operand) → length (constant_words c) ≡ constant_width
unfolding constant_words
constant_length (Operand.Register r) = refl
constant_length (Operand.Number x) = refl
constant_length (Operand.String symbol) = refl
constant_length (Operand.Boolean b) = refl
constant_length Operand.Nil = refl

module _ (M : Operators) where
  -- the value of a constant
  unfoldable pub constant : Operand → M.Value
  constant (Operand.Register r) = M.nil
  constant (Operand.Number x) = M.number x
  constant (Operand.String symbol) = M.string symbol
  constant (Operand.Boolean b) = M.boolean b
  constant Operand.Nil = M.nil

  boolean_back : (b : Bool) → not (eqb (cond b 1 0) 0) ≡ b
  boolean_back true = refl
  boolean_back false = refl

  -- a constant's words are read back as it
  pub constant_words_lem : (c : Operand) → Proper c → constant_of M (constant_words c) ≡ Some (constant c)
  unfolding constant_of constant_words constant Proper number_of
  constant_words_lem (Operand.Register r) h = absurd h
  constant_words_lem (Operand.Number x) h =
      let n : ℕ = to_bits binary64 x in
      let e : 4294967296 * (n / 4294967296) + n % 4294967296 ≡ n = omega arith in
      ap (λ y. Some (M.number y)) (ap (of_bits binary64) e ∙ of_bits-to_bits binary64 x h)
  constant_words_lem (Operand.String symbol) h = refl
  constant_words_lem (Operand.Boolean b) h = ap (λ y. Some (M.boolean y)) (boolean_back b)
  constant_words_lem Operand.Nil h = refl
