-- The laws of the words of the walk: what a register, a destination, an operand, a refusal and a node left to the walk are read as. Assumes nothing.
use Rattle.std.specs.Prelude.{Result, Ok, Err}
use mathlib.Core.Path.{◌≡◌, refl, sym, ap, ◌∙◌}
use mathlib.Core.Logic.{◌⊎◌, inl, inr}
use mathlib.Core.Bool.{Bool, true, false}
use Prim.Native.Nat.{ℕ, ◌+◌, ◌/◌, ◌%◌, ◌<◌, ◌≤◌}
use native.Mathlib.Omega.{arith}
use native.Mathlib.Decide.{dec_lt, ℕ_discrete}
use borrow.Author.Tests.{lt-ltb, le-ltb, le-leb, lt-leb, leb-true, leb-false, eq-eqb, ne_eqb}
use Rattle.diagnostics.specs.declared.Refusal.{Refusal}
use Rattle.diagnostics.specs.Refusal.{refusal_number}
use Rattle.environment.specs.declared.Register.{Register}
use Rattle.environment.specs.declared.RegisterSet.{RegisterSet}
use Rattle.environment.specs.declared.Taken.{Taken}
use Rattle.environment.specs.Registers.{taken, given_back}
use Rattle.environment.specs.Environment.{freed}
use Rattle.environment.proofs.Laws.{register_takes}
use Rattle.syntax.specs.declared.ast.Node.{Node}
use Rattle.runtime.specs.Operands.{reg_of}
use Rattle.lowering.specs.Literals.{literal}
use Rattle.lowering.specs.Lower.{source}
use Rattle.lowering.proofs.Destinations.{literal_source}
use Rattle.steps.specs.Answers.{register_at, none, number_at, any, literal_word, operand_at, source_at, word_end, refusal_start, refusal_at, is_refusal, value_of, number_of_refusal, refusal_of, is_inner, RegisterOrRefusal}

-- a register
pub register_at_temporary : (w : ℕ) → w < 256 → register_at w ≡ Register.Temp w
unfolding register_at
register_at_temporary w h = rw (lt-ltb w 256 h)

pub register_at_past : (w : ℕ) → 256 ≤ w → register_at w ≡ Register.Local (w % 256)
unfolding register_at
register_at_past w h = rw (le-ltb w 256 h)

pub register_at_local : (i : ℕ) → i < 256 → register_at (256 + i % 256) ≡ Register.Local i
register_at_local i h =
    let e : (256 + i % 256) % 256 ≡ i = omega arith in
    rw (register_at_past (256 + i % 256) (omega arith), e)

-- a register that was taken, by its number: `none`, or below 256
module _ (s : RegisterSet) {after : Taken ℕ} {w : ℕ} (took : after ≡ taken s) (number : w ≡ number_at after.register) where
  pub taken_number : (w ≡ none) ⊎ (w < 256)
  unfolding number_at
  taken_number = rw number (go after.register (sym (ap (λ x. x.register) took)))
    where
      go : (p : Result ℕ Refusal) → (taken s).register ≡ p → (number_at p ≡ none) ⊎ (number_at p < 256)
      go (Ok r) e = inr (register_takes s r e).in_range
      go (Err refusal) e = inl refl

-- where there is one
module _ (s : RegisterSet) {after : Taken ℕ} {r : ℕ} (took : after ≡ taken s) (e : after.register ≡ Ok r) where
  pub taken_below : r < 256
  taken_below = (register_takes s r (sym (ap (λ x. x.register) took) ∙ e)).in_range

  pub taken_number_at : r ≡ number_at after.register
  unfolding number_at
  taken_number_at = rw e

-- and where there is none
pub no_number : {p : Result ℕ Refusal} {e : Refusal} → p ≡ Err e → none ≡ number_at p
unfolding number_at
no_number h = rw h

-- the number of a register is its word's lowest byte
pub reg_of_register_at : (w : ℕ) → w % 256 ≡ reg_of (register_at w)
unfolding reg_of
reg_of_register_at w = go (dec_lt w 256)
  where
    go : Dec (w < 256) → w % 256 ≡ reg_of (register_at w)
    go (yes h) = rw (register_at_temporary w h) (omega arith)
    go (no h) = rw (register_at_past w (omega arith))

-- a register given back: a local, and a word that is no temporary's, stay
pub freed_word : (s : RegisterSet) (w : ℕ) → freed s (register_at w) ≡ given_back s w
unfolding freed given_back
freed_word s w = go (dec_lt w 256)
  where
    go : Dec (w < 256) → freed s (register_at w) ≡ given_back s w
    go (yes h) = rw (register_at_temporary w h)
    go (no h) = rw (register_at_past w (omega arith), le-ltb w 256 (omega arith))

pub freed_literal : (s : RegisterSet) → given_back s literal_word ≡ s
unfolding given_back
freed_literal s = refl

-- an operand: a literal is a constant
pub source_operand : (n : Node) (w : ℕ) → source (operand_at n w) ≡ source_at (literal n) w
unfolding operand_at source_at source
source_operand n w = go (ℕ_discrete w literal_word)
  where
    go : Dec (w ≡ literal_word) → source (operand_at n w) ≡ source_at (literal n) w
    go (yes h) = rw (eq-eqb w literal_word h) (literal_source n)
    go (no h) = rw (ne_eqb w literal_word h)

-- a refusal, by its number and by its word
refusal_row : (r : Refusal) → (refusal_of (refusal_number r) ≡ r) × (refusal_number r < 20)
unfolding refusal_of
refusal_row Refusal.Size = (refl, omega arith)
refusal_row Refusal.Root = (refl, omega arith)
refusal_row Refusal.Kind = (refl, omega arith)
refusal_row Refusal.Unused = (refl, omega arith)
refusal_row Refusal.Number = (refl, omega arith)
refusal_row Refusal.List = (refl, omega arith)
refusal_row Refusal.Order = (refl, omega arith)
refusal_row Refusal.Parameters = (refl, omega arith)
refusal_row Refusal.Undeclared = (refl, omega arith)
refusal_row Refusal.Registers = (refl, omega arith)
refusal_row Refusal.Else = (refl, omega arith)
refusal_row Refusal.Key = (refl, omega arith)
refusal_row Refusal.Code = (refl, omega arith)
refusal_row Refusal.Constants = (refl, omega arith)
refusal_row Refusal.Unmarked = (refl, omega arith)
refusal_row Refusal.Marks = (refl, omega arith)
refusal_row Refusal.Destination = (refl, omega arith)
refusal_row Refusal.Sum = (refl, omega arith)
refusal_row Refusal.Jump = (refl, omega arith)

pub refusal_number_lem : (r : Refusal) → refusal_of (refusal_number r) ≡ r
refusal_number_lem r = (refusal_row r).0

pub refusal_small : (r : Refusal) → refusal_number r < 20
refusal_small r = (refusal_row r).1

module _ (refusal : Refusal) (place : ℕ) where
  pub refusal_start_lem : refusal_start ≤ refusal_at refusal place
  unfolding refusal_at
  refusal_start_lem = omega arith

  pub is_refusal_refusal : is_refusal (refusal_at refusal place) ≡ true
  unfolding is_refusal
  is_refusal_refusal = le-leb refusal_start (refusal_at refusal place) refusal_start_lem

  pub is_inner_refusal : is_inner (refusal_at refusal place) ≡ false
  unfolding is_inner refusal_at
  is_inner_refusal = ne_eqb (refusal_at refusal place / word_end) 1 (omega arith)

  pub value_of_refusal : place < word_end → value_of (refusal_at refusal place) ≡ place
  unfolding refusal_at
  value_of_refusal h = omega arith

  pub number_of_refusal_refusal : place < word_end → number_of_refusal (refusal_at refusal place) ≡ refusal_number refusal
  unfolding refusal_at
  number_of_refusal_refusal h = omega arith

-- a word of 32 bits, and a node left to the walk
module _ (w : ℕ) (h : w < word_end) where
  pub is_refusal_word : is_refusal w ≡ false
  unfolding is_refusal
  is_refusal_word = lt-leb refusal_start w (omega arith)

  pub is_inner_word : is_inner w ≡ false
  unfolding is_inner
  is_inner_word = ne_eqb (w / word_end) 1 (omega arith)

  pub value_of_word : value_of w ≡ w
  value_of_word = omega arith

  pub is_inner_inner : is_inner (word_end + w) ≡ true
  unfolding is_inner
  is_inner_inner = eq-eqb ((word_end + w) / word_end) 1 (omega arith)

  pub value_of_inner : value_of (word_end + w) ≡ w
  value_of_inner = omega arith

-- an answer that is a refusal, by what the program asked
pub refusal_from : {b : Bool} (a : ℕ) → b ≡ is_refusal a → b ≡ true → refusal_start ≤ a
unfolding is_refusal
refusal_from a told h = leb-true refusal_start a (sym told ∙ h)

-- the register that an answer is, if it is no refusal
pub register_value : (a : ℕ) → is_refusal a ≡ false → RegisterOrRefusal a → value_of a < any
unfolding is_refusal
register_value a h (inl r) = absurd (omega (arith, leb-false refusal_start a h))
register_value a h (inr l) = omega arith
