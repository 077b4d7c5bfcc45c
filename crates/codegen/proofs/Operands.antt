-- What the arms of an operator, a block and a property use beside Walk and Children: a register's word; a unary operator and not, a property, and an operator,
-- each by the words of its node; the two sources of an operator; and two literals. Assumes nothing.
use Rattle.std.specs.Prelude.{Option, None}
use Prim.Native.Nat.{ℕ, ◌<◌}
use native.Mathlib.Decide.{ℕ_discrete}
use mathlib.Core.Path.{◌≡◌, refl, sym, ◌∙◌, subst}
use mathlib.Core.Logic.{◌≢◌, ◌⊎◌, inl, inr}
use mathlib.Core.Bool.{Bool, true, false, cond, ◌&&◌, false≢true}
use mathlib.Core.List.{List, [], ◌∷◌}
use lib.Dec.{eqb}
use borrow.Author.Tests.{eq-eqb, ne_eqb}
use Rattle.environment.specs.declared.Register.{Register}
use Rattle.syntax.specs.declared.ops.BinaryOp.{BinaryOp}
use Rattle.syntax.specs.Ast.{node_word}
use Rattle.syntax.specs.Ops.{unary_op, binary_op}
use Rattle.runtime.specs.declared.instruction.Instruction.{Instruction}
use Rattle.runtime.specs.declared.operand.Operand.{Operand}
use Rattle.runtime.specs.Instruction.{words_of}
use Rattle.runtime.specs.Operands.{reg_of}
use Rattle.lowering.specs.Tree.{Tree, tree_of, node}
use Rattle.lowering.specs.Checked.{Checked}
use Rattle.lowering.specs.Walk.{Made, Outcome, ends, Walk, bind, ◌>>=◌, ◌>>◌, ret}
use Rattle.lowering.specs.Steps.{destination, emit, free_temp, store, load_constant}
use Rattle.lowering.specs.Operators.{unary, binary_rr}
use Rattle.lowering.specs.Literals.{is_literal, literal}
use Rattle.lowering.specs.Lower.{register, constant, source, lower_materializing, lower_node, lower_expression, binary_sources}
use Rattle.lowering.proofs.Destinations.{GivesRegister, expression_register, literal_source, are_constants, free_source, binary_given_back}
use Rattle.operators.specs.Opcodes.{first_of, second_of}
use Rattle.steps.specs.Answers.{any, register_at, literal_word, operand_at, source_at, settled, seen, is_refusal, value_of, RegisterOrRefusal}
use Rattle.steps.proofs.Chains.{got, seen_given}
use Rattle.steps.proofs.Words.{register_value, source_operand}
use Rattle.codegen.specs.Ready.{node_word_of}
use Rattle.codegen.specs.Kinds.{binary_kind, property_kind, unary_kind, not_kind, only_operand, lower_literals}
use Rattle.codegen.proofs.Walk.{below_of, expression_of, literal_materialized, no_register}

-- ---- a register's word, by what the program asked and read

pub register_word : {b : Bool} {x : ℕ} (a : ℕ) → b ≡ is_refusal a → b ≡ false → x ≡ value_of a → RegisterOrRefusal a → x < any
register_word a told left read h = rw read (register_value a (sym told ∙ left) h)

-- ---- a unary operator, or not

-- one instruction, and what the operand held given back
unfoldable pub operated : (ℕ → ℕ → Instruction) → Register → Register → Walk Operand
operated instruction d src = do
  emit (instruction (reg_of d) (reg_of src))
  free_temp src
  ret (Operand.Register d)

-- its instruction, by the words of the node
abbrev pub single_instruction : List ℕ → ℕ → ℕ → ℕ → Instruction
single_instruction nodes i d a = cond (eqb (node_word_of nodes i 0) unary_kind) (unary (unary_op (node_word_of nodes i 1)) d a) (Instruction.Not d a)

module _ (nodes : List ℕ) (i : ℕ) where
  pub single_words : (opcode : ℕ) → (node_word_of nodes i 0 ≡ unary_kind → (d a : ℕ) → words_of (unary (unary_op (node_word_of nodes i 1)) d a) ≡ opcode ∷ d ∷ a ∷ 0 ∷ []) →
      (node_word_of nodes i 0 ≢ unary_kind → (d a : ℕ) → words_of (Instruction.Not d a) ≡ opcode ∷ d ∷ a ∷ 0 ∷ []) → (d a : ℕ) → words_of (single_instruction nodes i d a) ≡ opcode ∷ d ∷ a ∷ 0 ∷ []
  single_words opcode u n d a = go (ℕ_discrete (node_word_of nodes i 0) unary_kind)
    where
      go : Dec (node_word_of nodes i 0 ≡ unary_kind) → words_of (single_instruction nodes i d a) ≡ opcode ∷ d ∷ a ∷ 0 ∷ []
      go (yes h) = rw (eq-eqb (node_word_of nodes i 0) unary_kind h) (u h d a)
      go (no h) = rw (ne_eqb (node_word_of nodes i 0) unary_kind h) (n h d a)

  module _ {operand : ℕ} (operand_word : operand ≡ only_operand nodes i) (list names : List ℕ) (checked : Checked (tree_of nodes list names)) where
    pub single_below : (node_word_of nodes i 0 ≡ unary_kind) ⊎ (node_word_of nodes i 0 ≡ not_kind) → operand < i
    unfolding only_operand
    single_below (inl kind) = rw (operand_word, eq-eqb (node_word_of nodes i 0) unary_kind kind) (below_of checked i unary_kind kind)
    single_below (inr kind) = rw (operand_word, kind) (below_of checked i not_kind kind)

    -- destination, operand, and the rest
    pub single_of : (node_word_of nodes i 0 ≡ unary_kind) ⊎ (node_word_of nodes i 0 ≡ not_kind) → (dest : Option Register) (m : Made) {r : Outcome Operand} →
        settled (bind (destination dest m) (λ d m₁. bind (lower_materializing (lower_expression free_temp (tree_of nodes list names) operand) None m₁) (λ src. operated (single_instruction nodes i) d src))) ≡ r →
        settled (lower_expression free_temp (tree_of nodes list names) i dest m) ≡ r
    unfolding only_operand operated lower_node
    single_of (inl kind) dest m q = expression_of checked i unary_kind kind dest m (rw (operand_word, kind) at q)
    single_of (inr kind) dest m q = expression_of checked i not_kind kind dest m (rw (operand_word, kind) at q)

-- ---- a property

-- the key pooled, one instruction, and what the object held given back
unfoldable pub fetched : ℕ → Register → Register → Walk Operand
fetched property d src = do
  key ← store (Operand.String property)
  emit (Instruction.GetPropertyK (reg_of d) (reg_of src) key)
  free_temp src
  ret (Operand.Register d)

module _ {t : Tree} (checked : Checked t) (i : ℕ) (kind : node_word t.nodes i 0 ≡ property_kind) {object property : ℕ} (object_word : object ≡ node_word t.nodes i 1)
    (property_word : property ≡ node_word t.nodes i 2) where
  pub property_below : object < i
  property_below = rw object_word (below_of checked i property_kind kind)

  -- destination, object, and the rest
  pub property_of : (dest : Option Register) (m : Made) {r : Outcome Operand} →
      settled (bind (destination dest m) (λ d m₁. bind (lower_materializing (lower_expression free_temp t object) None m₁) (λ src. fetched property d src))) ≡ r →
      settled (lower_expression free_temp t i dest m) ≡ r
  unfolding lower_node fetched
  property_of dest m q = expression_of checked i property_kind kind dest m (rw (object_word, property_word) at q)

-- ---- an operator, by the words of its node

module _ {t : Tree} (checked : Checked t) (i : ℕ) (kind : node_word t.nodes i 0 ≡ binary_kind) {left right : ℕ} (left_word : left ≡ node_word t.nodes i 2)
    (right_word : right ≡ node_word t.nodes i 3) where
  pub operator_below : (left < i) × (right < i)
  operator_below = rw (left_word, right_word) (below_of checked i binary_kind kind)

  -- destination, left, right, and what is made of both
  pub operator_of : (dest : Option Register) (m : Made) {r : Outcome Operand} →
      settled (bind (destination dest m) (λ d m₁. bind (lower_expression free_temp t left None m₁) (λ a m₂. bind (lower_expression free_temp t right None m₂)
      (λ b. binary_sources free_temp t (lower_expression free_temp t) (binary_op (node_word t.nodes i 1)) left right d (source a) (source b))))) ≡ r →
      settled (lower_expression free_temp t i dest m) ≡ r
  unfolding lower_node
  operator_of dest m q = expression_of checked i binary_kind kind dest m (rw (left_word, right_word) at q)

-- ---- the two sources of an operator

-- both words are a literal's
pub both_literal : (v w : ℕ) → eqb v literal_word && eqb w literal_word ≡ true → (v ≡ literal_word) × (w ≡ literal_word)
both_literal v w h = go (ℕ_discrete v literal_word) (ℕ_discrete w literal_word)
  where
    go : Dec (v ≡ literal_word) → Dec (w ≡ literal_word) → (v ≡ literal_word) × (w ≡ literal_word)
    go (yes e) (yes f) = (e, f)
    go (no e) f = absurd (false≢true (rw (ne_eqb v literal_word e) at h))
    go (yes e) (no f) = absurd (false≢true (rw (eq-eqb v literal_word e, ne_eqb w literal_word f) at h))

-- both sources are constants where both words are a literal's
pub both_constant : (c e : Operand) (v w : ℕ) → are_constants (source_at c v) (source_at e w) ≡ eqb v literal_word && eqb w literal_word
unfolding source_at are_constants
both_constant c e v w = go (eqb v literal_word) (eqb w literal_word)
  where
    go : (a b : Bool) → are_constants (cond a (constant c) (register (register_at v))) (cond b (constant e) (register (register_at w))) ≡ a && b
    go true true = refl
    go true false = refl
    go false true = refl
    go false false = refl

module _ (t : Tree) where
  -- a node whose word is a literal's is a literal, by what the program asked and read
  pub word_literal : (n : ℕ) (dest : Option Register) (m m₁ : Made) (a : ℕ) → settled (lower_expression free_temp t n dest m) ≡ seen t (operand_at (node t n)) m₁ a →
      {b : Bool} {x : ℕ} → b ≡ is_refusal a → b ≡ false → x ≡ value_of a → x ≡ literal_word → is_literal (node t n) ≡ true
  unfolding operand_at
  word_literal n dest m m₁ a e told left read w = go (is_literal (node t n)) refl
    where
      is : lower_expression free_temp t n dest m ≡ ends (literal (node t n)) m₁
      is = got (lower_expression free_temp t n dest m) _ m₁ (rw (sym read ∙ w) at (e ∙ seen_given t (operand_at (node t n)) m₁ a (sym told ∙ left)))

      go : (b : Bool) → is_literal (node t n) ≡ b → is_literal (node t n) ≡ true
      go true l = l
      go false l = absurd (no_register (literal (node t n)) _ m₁ (literal_source (node t n)) (subst GivesRegister is (expression_register t n l dest m)))

  -- x and y are the words of the node that name its operands
  module _ (operator : BinaryOp) {left right x y : ℕ} (left_word : left ≡ x) (right_word : right ≡ y) (d : Register) (m : Made) (v w : ℕ) {r : Outcome Operand} where
    -- "Two literals are both loaded."
    pub then_literals : (v ≡ literal_word) × (w ≡ literal_word) → is_literal (node t left) ≡ true → is_literal (node t right) ≡ true → settled (lower_literals t operator x y d m) ≡ r →
        settled (binary_sources free_temp t (lower_expression free_temp t) operator left right d (source (operand_at (node t left) v)) (source (operand_at (node t right) w)) m) ≡ r
    unfolding operand_at binary_sources lower_literals
    then_literals both l l' q =
        rw (both.0, both.1, literal_source (node t left), literal_source (node t right), literal_materialized t left l None, literal_materialized t right l' None)
        (rw (← left_word, ← right_word) at q)

    -- else the instruction, and then the registers given back
    pub then_operator : eqb v literal_word && eqb w literal_word ≡ false →
        settled (bind (binary_sources (λ x. ret tt) t (lower_expression free_temp t) operator x y d (source_at (literal (node t x)) v) (source_at (literal (node t y)) w) m)
        (λ o m₁. bind (free_source (source_at (literal (node t x)) v) m₁) (λ u m₂. bind (free_source (source_at (literal (node t y)) w) m₂) (λ z. ret (Operand.Register d))))) ≡ r →
        settled (binary_sources free_temp t (lower_expression free_temp t) operator left right d (source (operand_at (node t left) v)) (source (operand_at (node t right) w)) m) ≡ r
    then_operator h q =
        rw (
          left_word,
          right_word,
          source_operand (node t x) v,
          source_operand (node t y) w,
          binary_given_back t (lower_expression free_temp t) operator x y d _ _ (both_constant (literal (node t x)) (literal (node t y)) v w ∙ h) m,
        ) q

-- ---- two literals

-- one instruction, and both registers given back
unfoldable pub combined : BinaryOp → Register → Register → Register → Walk Operand
combined operator d src1 src2 = do
  emit (binary_rr operator (reg_of d) (reg_of src1) (reg_of src2))
  free_temp src1
  free_temp src2
  ret (Operand.Register d)

-- its fields, which may change places, by what the program has of each
pub swapped_fields : (opcode : ℕ) {d e f g a b a' b' x y : ℕ} {s z : Bool} → e ≡ d → s ≡ z → f ≡ first_of s a b → g ≡ first_of s b' a' → a ≡ x → b ≡ y → a' ≡ x → b' ≡ y →
    opcode ∷ d ∷ first_of z x y ∷ second_of z x y ∷ [] ≡ opcode ∷ e ∷ f ∷ g ∷ []
swapped_fields opcode p swap l r a b a' b' = rw (p, l, r, swap, a, b, a', b')

-- the left is loaded, and then the rest; x, y and z are the words of the node
pub one_loaded : (t : Tree) {left y : ℕ} {a : Operand} → left ≡ y → a ≡ literal (node t left) → (operator : BinaryOp) (z : ℕ) (d : Register) (m : Made) {r : Outcome Operand} →
    settled (bind (load_constant a None m) (λ src1 m₁. bind (load_constant (literal (node t z)) None m₁) (λ src2. combined operator d src1 src2))) ≡ r →
    settled (lower_literals t operator y z d m) ≡ r
unfolding lower_literals combined
one_loaded t left_word is operator z d m q = rw (← left_word, ← is) q

-- both are
pub two_loaded : (t : Tree) {operator op : BinaryOp} {left right y z : ℕ} {a b : Operand} → operator ≡ op → left ≡ y → right ≡ z → a ≡ literal (node t left) → b ≡ literal (node t right) →
    (d : Register) (m : Made) {r : Outcome Operand} →
    settled (bind (load_constant a None m) (λ src1 m₁. bind (load_constant b None m₁) (λ src2. combined operator d src1 src2))) ≡ r →
    settled (lower_literals t op y z d m) ≡ r
two_loaded t same left_word right_word is-left is_right d m q =
    one_loaded t left_word is-left _ _ d m (rw (← same, ← right_word, ← is_right) q)
