-- The laws of the arms that lower a child into a register: and, or, if, and the arguments of a call. Assumes nothing.
use Rattle.std.specs.Prelude.{Option, Some}
use Prim.Native.Nat.{ℕ, suc, ◌+◌, ◌-◌, ◌%◌, ◌<◌, ◌≤◌}
use native.Mathlib.Omega.{arith}
use mathlib.Core.Path.{◌≡◌, refl, sym, ◌∙◌}
use mathlib.Core.Logic.{◌≢◌, ◌⊎◌, inl, inr}
use mathlib.Core.Bool.{Bool, true, false, cond}
use mathlib.Core.List.{List, [], ◌∷◌}
use lib.Dec.{eqb}
use lib.ListN.{get_or}
use borrow.Author.Tests.{eq-eqb, ne_eqb}
use Rattle.diagnostics.specs.declared.Refusal.{Refusal}
use Rattle.words.specs.Records.{Buffer, append, max_count}
use Rattle.environment.specs.declared.Register.{Register}
use Rattle.syntax.specs.declared.ast.Node.{Node}
use Rattle.syntax.specs.Ast.{absent, node_word}
use Rattle.runtime.specs.declared.instruction.Instruction.{Instruction}
use Rattle.runtime.specs.declared.operand.Operand.{Operand}
use Rattle.runtime.specs.Instruction.{words_of}
use Rattle.runtime.specs.Operands.{reg_of}
use Rattle.lowering.specs.declared.State.{State}
use Rattle.lowering.specs.Tree.{Tree, node, span_start, span_end}
use Rattle.lowering.specs.Checked.{Checked, IfBelow, CallBelow}
use Rattle.lowering.specs.Walk.{Made, made, Outcome, Walk, bind, ◌>>=◌, ◌>>◌, ret}
use Rattle.lowering.specs.Steps.{free_temp, destination, emit, patch_to_next, mark}
use Rattle.lowering.specs.Lower.{refuse, lower_materializing, lower_arguments, lower_else, lower_node, lower_expression, lower_jump_if_false}
use Rattle.patch.specs.Arguments.{mark_argument}
use Rattle.steps.specs.declared.answer.Stepped.{Stepped}
use Rattle.steps.specs.Answers.{register_at, operand_at, settled, seen, is_refusal, is_inner, value_of, refusal_at, names_node, error_at, word_end, unit_at}
use Rattle.steps.proofs.Words.{register_at_local}
use Rattle.steps.proofs.Chains.{stop_by, seen_refusal, seen_word}
use Rattle.codegen.specs.Kinds.{binary_kind, and_kind, or_kind, if_kind, call_kind}
use Rattle.codegen.proofs.Walk.{below_of, expression_of, then_into}
use Rattle.codegen.proofs.Children.{into_of}

-- ---- a child in d

-- from k, p, q and s: `peek_into` left k₁, p₁, q₁ and f, and `lower_materializing` k₂, p₂, q₂ and r
module _ {t : Tree} {k k₁ k₂ p p₁ p₂ q q₁ q₂ : List ℕ} {s : State} {f r : Stepped State} {n : ℕ} (d : Register) (checked : Checked t)
    (peeked : (is_inner f.answer ≡ false → settled (lower_materializing (lower_expression free_temp t n) (Some d) (made k p q s)) ≡ seen t register_at (made k₁ p₁ q₁ f.after) f.answer)
    × ((is_inner f.answer ≡ true → ((f.after ≡ s) × ((k₁ ≡ k) × ((p₁ ≡ p) × (q₁ ≡ q)))) × ((value_of f.answer ≤ n) × (binary_kind ≤ node_word t.nodes (value_of f.answer) 0)))
    × ((e : Register) (m : Made) → is_inner f.answer ≡ true →
    lower_materializing (lower_expression free_temp t n) (Some e) m ≡ lower_materializing (lower_expression free_temp t (value_of f.answer)) (Some e) m)))
    (walked : (is_inner f.answer ≡ true →
    settled (lower_expression free_temp t (value_of f.answer) (Some d) (made k₁ p₁ q₁ s)) ≡ seen t (operand_at (node t (value_of f.answer))) (made k₂ p₂ q₂ r.after) r.answer)
    × (is_inner f.answer ≡ false → (r ≡ f) × ((k₂ ≡ k₁) × ((p₂ ≡ p₁) × (q₂ ≡ q₁))))) where
  branch : settled (lower_materializing (lower_expression free_temp t n) (Some d) (made k p q s)) ≡ seen t register_at (made k₂ p₂ q₂ r.after) r.answer
  branch = into_of checked d peeked.1.0 peeked.1.1 walked.0 walked.1 peeked.0

  module _ {B : Type 0} (rest : Register → Walk B) {b : Bool} (told : b ≡ is_refusal r.answer) where
    pub then_branch_lem : {o : Outcome B} → b ≡ false → settled (rest d (made k₂ p₂ q₂ r.after)) ≡ o →
        settled (bind (lower_materializing (lower_expression free_temp t n) (Some d) (made k p q s)) rest) ≡ o
    then_branch_lem left o = then_into t _ rest n d _ r.answer branch (sym told ∙ left) o

    pub stop_branch : (gives : ℕ → B) → b ≡ true →
        settled (bind (lower_materializing (lower_expression free_temp t n) (Some d) (made k p q s)) rest) ≡ seen t gives (made k₂ p₂ q₂ r.after) r.answer
    stop_branch gives taken = stop_by t _ register_at _ r.answer rest branch gives told taken

-- ---- the end of an arm

-- the fields of an instruction
pub same_fields : (opcode : ℕ) {a b c x y z : ℕ} → a ≡ x → b ≡ y → c ≡ z → opcode ∷ x ∷ y ∷ z ∷ [] ≡ opcode ∷ a ∷ b ∷ c ∷ []
same_fields opcode e f g = rw (e, f, g)

-- by what a step answers
pub by_answer : {A : Type 0} (t : Tree) (gives : ℕ → A) (code pool marks : List ℕ) {s : State} {a : ℕ} {r : Stepped State} {o : Outcome A} → r ≡ record { after = s; answer = a } →
    o ≡ seen t gives (made code pool marks s) a → o ≡ seen t gives (made code pool marks r.after) r.answer
by_answer t gives code pool marks same q = rw same q

-- a refusal that names a node
refused_at : {A : Type 0} (t : Tree) (gives : ℕ → A) (refusal : Refusal) (i : ℕ) (m : Made) → names_node refusal ≡ true → i < word_end →
    settled (refuse t refusal i m) ≡ seen t gives m (refusal_at refusal i)
unfolding settled error_at
refused_at t gives refusal i m names h = sym (rw names at (seen_refusal t gives m refusal i h))

-- ---- and, or

-- the jump over the right side
unfoldable pub logical_jump : ℕ → ℕ → Instruction
logical_jump kind a = cond (eqb kind and_kind) (Instruction.JumpIfFalse a 0) (Instruction.JumpIfTrue a 0)

-- the arm of either kind
unfoldable pub lower_logical : Tree → ℕ → ℕ → ℕ → Option Register → Walk Operand
lower_logical t kind left right dest = do
  d ← destination dest
  src ← lower_materializing (lower_expression free_temp t left) (Some d)
  jump ← emit (logical_jump kind (reg_of src))
  lower_materializing (lower_expression free_temp t right) (Some d)
  patch_to_next jump
  ret (Operand.Register d)

module _ {t : Tree} (checked : Checked t) (i : ℕ) {left right : ℕ} (left_word : left ≡ node_word t.nodes i 1) (right_word : right ≡ node_word t.nodes i 2) where
  pub logical_below : (node_word t.nodes i 0 ≡ and_kind) ⊎ (node_word t.nodes i 0 ≡ or_kind) → (left < i) × (right < i)
  logical_below (inl h) = rw (left_word, right_word) (below_of checked i and_kind h)
  logical_below (inr h) = rw (left_word, right_word) (below_of checked i or_kind h)

  pub logical_of : (node_word t.nodes i 0 ≡ and_kind) ⊎ (node_word t.nodes i 0 ≡ or_kind) → (dest : Option Register) (m : Made) {r : Outcome Operand} →
      settled (lower_logical t (node_word t.nodes i 0) left right dest m) ≡ r → settled (lower_expression free_temp t i dest m) ≡ r
  unfolding lower_logical logical_jump lower_node
  logical_of (inl h) dest m q = expression_of checked i and_kind h dest m (rw (h, left_word, right_word) at q)
  logical_of (inr h) dest m q = expression_of checked i or_kind h dest m (rw (h, left_word, right_word) at q)

-- its words, by what `logical_jump` and `reg_of` answer
pub jump_words : (kind opcode : ℕ) {a register : ℕ} → (kind ≡ and_kind → (a : ℕ) → words_of (Instruction.JumpIfFalse a 0) ≡ opcode ∷ a ∷ 0 ∷ 0 ∷ [])
    × (kind ≢ and_kind → (a : ℕ) → words_of (Instruction.JumpIfTrue a 0) ≡ opcode ∷ a ∷ 0 ∷ 0 ∷ []) → (kind ≡ and_kind) ⊎ (kind ≡ or_kind) → a ≡ register →
    words_of (logical_jump kind register) ≡ opcode ∷ a ∷ 0 ∷ 0 ∷ []
unfolding logical_jump
jump_words kind opcode {register = register} told (inl h) same = rw (eq-eqb kind and_kind h, same) (told.0 h register)
jump_words kind opcode {register = register} told (inr h) same = rw (ne_eqb kind and_kind (omega arith), same) (told.1 (omega arith) register)

-- ---- if

module _ {t : Tree} (checked : Checked t) (i : ℕ) (kind : node_word t.nodes i 0 ≡ if_kind) {condition then else : ℕ}
    (condition_word : condition ≡ node_word t.nodes i 1) (then_word : then ≡ node_word t.nodes i 2) (else_word : else ≡ node_word t.nodes i 3) where
  pub if_below : IfBelow i condition then else
  if_below = rw (condition_word, then_word, else_word) (below_of checked i if_kind kind)

  pub if_of : (dest : Option Register) (m : Made) {r : Outcome Operand} →
      settled (lower_node free_temp t (lower_expression free_temp t) (lower_jump_if_false free_temp t) i (Node.If condition then else) dest m) ≡ r → settled (lower_expression free_temp t i dest m) ≡ r
  if_of dest m q = expression_of checked i if_kind kind dest m (rw (condition_word, then_word, else_word) at q)

module _ (t : Tree) {B : Type 0} (i else : ℕ) (d : Register) (m : Made) (k : Register → Walk B) where
  pub then_else : {r : Outcome B} → else ≢ absent → settled (bind (lower_materializing (lower_expression free_temp t else) (Some d) m) k) ≡ r →
      settled (bind (lower_else t (lower_expression free_temp t) i else d m) k) ≡ r
  unfolding lower_else
  then_else h q = rw (ne_eqb else absent h) q

  pub stop_else : (gives : ℕ → B) → else ≡ absent → i < word_end → settled (bind (lower_else t (lower_expression free_temp t) i else d m) k) ≡ seen t gives m (refusal_at Refusal.Else i)
  unfolding lower_else bind names_node
  stop_else gives h small = rw (eq-eqb else absent h) (refused_at t gives Refusal.Else i m refl small)

-- ---- a call and its arguments

module _ {t : Tree} (checked : Checked t) (i : ℕ) (kind : node_word t.nodes i 0 ≡ call_kind) where
  pub call_below : {callee first count : ℕ} → callee ≡ node_word t.nodes i 1 → first ≡ node_word t.nodes i 2 → count ≡ node_word t.nodes i 3 → CallBelow t i callee first count
  call_below callee-word first_word count_word = rw (callee-word, first_word, count_word) (below_of checked i call_kind kind)

  pub call_of : {callee : ℕ} → callee ≡ node_word t.nodes i 1 → (dest : Option Register) (m : Made) {r : Outcome Operand} →
      settled (lower_node free_temp t (lower_expression free_temp t) (lower_jump_if_false free_temp t) i (Node.FunctionCall callee (node_word t.nodes i 2) (node_word t.nodes i 3)) dest m) ≡ r →
      settled (lower_expression free_temp t i dest m) ≡ r
  call_of callee-word dest m q = expression_of checked i call_kind kind dest m (rw callee-word at q)

-- the arguments, by the words of the call
pub arguments_of : (t : Tree) (i : ℕ) {first count : ℕ} (m : Made) {r : Outcome Unit} → first ≡ node_word t.nodes i 2 → count ≡ node_word t.nodes i 3 →
    settled (lower_arguments t (lower_expression free_temp t) i first count 0 m) ≡ r →
    settled (lower_arguments t (lower_expression free_temp t) i (node_word t.nodes i 2) (node_word t.nodes i 3) 0 m) ≡ r
arguments_of t i m first_word count_word q = rw (first_word, count_word) at q

-- of count, i are done
module _ (t : Tree) (call first count i : ℕ) (m : Made) where
  -- all are lowered
  pub arguments_none : count ≤ i → settled (lower_arguments t (lower_expression free_temp t) call first (count - i) i m) ≡ seen t unit_at m 0
  unfolding lower_arguments settled
  arguments_none h = let z : count - i ≡ 0 = omega arith in rw z (sym (seen_word t unit_at m 0 (omega arith)))

  -- the next is aimed at local i, and marked
  pub then_argument : {argument d : ℕ} {r : Outcome Unit} → i < count → i < 256 → argument ≡ get_or t.list (first + i) 0 → d ≡ 256 + i % 256 →
      settled (bind (lower_materializing (lower_expression free_temp t argument) (Some (register_at d)) m)
      (λ x m₁. bind (mark call (span_start t call) (span_end t call) m₁) (λ y. lower_arguments t (lower_expression free_temp t) call first (count - (i + 1)) (i + 1)))) ≡ r →
      settled (lower_arguments t (lower_expression free_temp t) call first (count - i) i m) ≡ r
  unfolding lower_arguments
  then_argument h few argument-word local q =
      let z : count - i ≡ suc (count - suc i) = omega arith in
      let next : i + 1 ≡ suc i = omega arith in
      rw z (rw (argument-word, local, register_at_local i few, next) at q)

-- the words that `mark_argument` leaves, where there is an instruction to mark
pub marked : {after : Buffer} (marks : List ℕ) (count instructions : ℕ) → instructions ≢ 0 → after ≡ mark_argument marks count instructions →
    after ≡ append marks count max_count ((instructions - 1) ∷ []) Refusal.Marks
unfolding mark_argument
marked marks count instructions h left = rw (ne_eqb instructions 0 h) at left

-- where there is none
pub stop_unmarked : {B : Type 0} (t : Tree) (call : ℕ) (m : Made) (k : ℕ → Walk B) (gives : ℕ → B) → m.state.counts.instructions ≡ 0 → call < word_end →
    settled (bind (mark call (span_start t call) (span_end t call) m) k) ≡ seen t gives m (refusal_at Refusal.Unmarked call)
unfolding mark bind names_node
stop_unmarked t call m k gives h small = rw (eq-eqb m.state.counts.instructions 0 h) (refused_at t gives Refusal.Unmarked call m refl small)
