-- The walk takes no bound: of a checked tree, any bound above a node's index gives the same, and a node is lowered by its children's own
-- lowering. Assumes nothing.
use Rattle.std.specs.Prelude.{Option, Some, None}
use Prim.Native.Nat.{ℕ, zero, suc, ◌+◌, ◌*◌, ◌≤◌, ◌<◌}
use native.Mathlib.Omega.{arith}
use mathlib.Core.Path.{◌≡◌, refl, ap, ◌∙◌, fun_ext}
use mathlib.Core.Logic.{◌≢◌}
use mathlib.Core.Bool.{Bool, true, false}
use lib.Dec.{eqb}
use lib.ListN.{get_or}
use borrow.Author.Tests.{eqb-false}
use Rattle.environment.specs.declared.Register.{Register}
use Rattle.syntax.specs.declared.ast.Node.{Node}
use Rattle.syntax.specs.declared.ops.BinaryOp.{BinaryOp}
use Rattle.syntax.specs.declared.ops.Comparison.{Comparison}
use Rattle.syntax.specs.Ast.{absent}
use Rattle.runtime.specs.declared.operand.Operand.{Operand}
use Rattle.lowering.specs.Tree.{Tree, node}
use Rattle.lowering.specs.Checked.{Checked, Below, CallBelow, MapBelow}
use Rattle.lowering.specs.Walk.{Walk}
use Rattle.lowering.specs.Operators.{comparison}
use Rattle.lowering.specs.Steps.{free_temp}
use Rattle.lowering.specs.Lower.{Source, register, constant, name_of, binary_sources, lower_arguments, store_named, store_keyed, lower_entry, lower_entries, lower_else, lower_tail, lower_node, test, fused_sources, fuse, jump_node, expression_below, jump_below, lower_expression, lower_jump_if_false, lower_jump_if_true}
use Rattle.lowering.proofs.Questions.Checked.{checked_below}

-- two ways to lower a child that agree below node i
module _ (t : Tree) (E F : ℕ → Option Register → Walk Operand) (i : ℕ) (same : (n : ℕ) → n < i → E n ≡ F n) where
  binary_sources_same : (operator : BinaryOp) (left right : ℕ) (d : Register) (a b : Source) → left < i → right < i →
      binary_sources free_temp t E operator left right d a b ≡ binary_sources free_temp t F operator left right d a b
  unfolding binary_sources
  binary_sources_same operator left right d (constant a) (constant b) l r = rw (same left l, same right r)
  binary_sources_same operator left right d (register a) (constant b) l r = refl
  binary_sources_same operator left right d (constant a) (register b) l r = refl
  binary_sources_same operator left right d (register a) (register b) l r = refl

  lower_arguments_same : {callee first count : ℕ} → CallBelow t i callee first count → (n k : ℕ) → k + n ≤ count →
      lower_arguments t E i first n k ≡ lower_arguments t F i first n k
  unfolding lower_arguments
  lower_arguments_same b zero k h = refl
  lower_arguments_same b (suc n) k h = rw (same _ (b.argument k (omega arith)), lower_arguments_same b n (suc k) (omega arith))

  store_named_same : (d : Register) (key : ℕ) (v : Source) → store_named t E d key v ≡ store_named t F d key v
  unfolding store_named
  store_named_same d key (constant v) = refl
  store_named_same d key (register v) = refl

  store_keyed_same : (d : Register) (k v : Source) → store_keyed t E d k v ≡ store_keyed t F d k v
  unfolding store_keyed
  store_keyed_same d (register k) (register v) = refl
  store_keyed_same d (register k) (constant v) = refl
  store_keyed_same d (constant k) (register v) = refl
  store_keyed_same d (constant k) (constant v) = refl

  lower_else_same : (branch : ℕ) (d : Register) → (branch ≢ absent → branch < i) → lower_else t E i branch d ≡ lower_else t F i branch d
  unfolding lower_else
  lower_else_same branch d h = go (eqb branch absent) refl
    where
      go : (b : Bool) → eqb branch absent ≡ b → lower_else t E i branch d ≡ lower_else t F i branch d
      go true e = rw e
      go false e = rw (same branch (h (eqb-false branch absent e)))

  lower_tail_same : (tail : ℕ) (d : Register) → (tail ≢ absent → tail < i) → lower_tail t E tail d ≡ lower_tail t F tail d
  unfolding lower_tail
  lower_tail_same tail d h = go (eqb tail absent) refl
    where
      go : (b : Bool) → eqb tail absent ≡ b → lower_tail t E tail d ≡ lower_tail t F tail d
      go true e = rw e
      go false e = rw (same tail (h (eqb-false tail absent e)))

  lower_entry_same : (d : Register) (key value : ℕ) (name : Option ℕ) → key < i → (value ≢ absent → value < i) →
      lower_entry t E d key value name ≡ lower_entry t F d key value name
  unfolding lower_entry
  lower_entry_same d key value (Some name) l h = go (eqb value absent) refl
    where
      go : (b : Bool) → eqb value absent ≡ b → lower_entry t E d key value (Some name) ≡ lower_entry t F d key value (Some name)
      go true e = rw (e, same key l)
      go false e = rw (e, same value (h (eqb-false value absent e))) (simp store_named_same)
  lower_entry_same d key value None l h = go (eqb value absent) refl
    where
      go : (b : Bool) → eqb value absent ≡ b → lower_entry t E d key value None ≡ lower_entry t F d key value None
      go true e = rw e
      go false e = rw (e, same key l, same value (h (eqb-false value absent e))) (simp store_keyed_same)

  lower_entries_same : {first count : ℕ} → MapBelow t i first count → (d : Register) (n k : ℕ) → k + n ≤ count →
      lower_entries t E d first n k ≡ lower_entries t F d first n k
  unfolding lower_entries
  lower_entries_same b d zero k h = refl
  lower_entries_same {first} b d (suc n) k h =
      let key : ℕ = get_or t.list (first + 2 * k) 0 in
      let value : ℕ = get_or t.list (first + 2 * k + 1) 0 in
      rw (
        lower_entry_same d key value (name_of (node t key)) (b.key k (omega arith)) (b.value k (omega arith)),
        lower_entries_same b d n (suc k) (omega arith),
      )

  -- a node is lowered the same by both
  module _ (J K : ℕ → Walk ℕ) (jumps : (n : ℕ) → n < i → J n ≡ K n) where
    lower_node_same : (n : Node) (dest : Option Register) → Below t i n → lower_node free_temp t E J i n dest ≡ lower_node free_temp t F K i n dest
    unfolding lower_node
    lower_node_same (Node.Number low high) dest b = refl
    lower_node_same (Node.String symbol) dest b = refl
    lower_node_same (Node.Boolean v) dest b = refl
    lower_node_same Node.Nil dest b = refl
    lower_node_same (Node.Identifier symbol) dest b = refl
    lower_node_same (Node.Binary operator left right) dest b =
        let l : left < i = b.0 in
        let r : right < i = b.1 in
        rw (same left l, same right r) (simp binary_sources_same)
    lower_node_same (Node.Unary operator operand) dest b = rw (same operand b)
    lower_node_same (Node.LogicalNot operand) dest b = rw (same operand b)
    lower_node_same (Node.LogicalAnd left right) dest b = rw (same left b.0, same right b.1)
    lower_node_same (Node.LogicalOr left right) dest b = rw (same left b.0, same right b.1)
    lower_node_same (Node.If condition then_branch else_branch) dest b =
        let h : else_branch ≢ absent → else_branch < i = b.else in
        rw (jumps condition b.condition, same then_branch b.then) (simp lower_else_same)
    lower_node_same (Node.Block tail) dest b = simp lower_tail_same
    lower_node_same (Node.FunctionCall callee first count) dest b =
        rw (lower_arguments_same b count 0 (omega arith), same callee b.callee)
    lower_node_same (Node.PropertyAccess object property) dest b = rw (same object b)
    lower_node_same (Node.Map first count) dest b =
        let all : 0 + count ≤ count = omega arith in
        simp (lower_entries_same b)

  fused_sources_same : (sense : Bool) (own : Option Register → Walk Operand) (c : Comparison) (a b : Source) →
      fused_sources t E sense own c a b ≡ fused_sources t F sense own c a b
  unfolding fused_sources test
  fused_sources_same sense own c (register a) (register b) = refl
  fused_sources_same sense own c (register a) (constant b) = refl
  fused_sources_same sense own c (constant a) (register b) = refl
  fused_sources_same sense own c (constant a) (constant b) = refl

  fused_same : (sense : Bool) (own : Option Register → Walk Operand) (c : Option Comparison) (left right : ℕ) → left < i → right < i →
      fuse t E sense own c left right ≡ fuse t F sense own c left right
  unfolding fuse test
  fused_same sense own None left right l r = refl
  fused_same sense own (Some c) left right l r = rw (same left l, same right r) (simp fused_sources_same)

  jump_node_same : (sense : Bool) (own : Option Register → Walk Operand) (n : Node) → Below t i n → jump_node t E sense own n ≡ jump_node t F sense own n
  unfolding jump_node test
  jump_node_same sense own (Node.Number low high) b = refl
  jump_node_same sense own (Node.String symbol) b = refl
  jump_node_same sense own (Node.Boolean v) b = refl
  jump_node_same sense own Node.Nil b = refl
  jump_node_same sense own (Node.Identifier symbol) b = refl
  jump_node_same sense own (Node.Binary operator left right) b = fused_same sense own (comparison operator) left right b.0 b.1
  jump_node_same sense own (Node.Unary operator operand) b = refl
  jump_node_same sense own (Node.LogicalNot operand) b = refl
  jump_node_same sense own (Node.LogicalAnd left right) b = refl
  jump_node_same sense own (Node.LogicalOr left right) b = refl
  jump_node_same sense own (Node.If condition then_branch else_branch) b = refl
  jump_node_same sense own (Node.Block tail) b = refl
  jump_node_same sense own (Node.FunctionCall callee first count) b = refl
  jump_node_same sense own (Node.PropertyAccess object property) b = refl
  jump_node_same sense own (Node.Map first count) b = refl

module _ {t : Tree} (checked : Checked t) where
  -- one step, by what lowers the children as the bound f does
  module _ (f i : ℕ) (E : ℕ → Option Register → Walk Operand) (same : (n : ℕ) → n < i → expression_below free_temp t f n ≡ E n) where
    expression_step : (J : ℕ → Walk ℕ) → ((n : ℕ) → n < i → jump_below free_temp t f n ≡ J n) → (d : Option Register) →
        expression_below free_temp t (suc f) i d ≡ lower_node free_temp t E J i (node t i) d
    unfolding expression_below
    expression_step J jumps d = lower_node_same t (expression_below free_temp t f) E i same (jump_below free_temp t f) J jumps (node t i) d (checked_below checked i)

    jump_step : jump_below free_temp t (suc f) i ≡ jump_node t E false (expression_below free_temp t (suc f) i) (node t i)
    unfolding expression_below jump_below
    jump_step = jump_node_same t (expression_below free_temp t f) E i same false (expression_below free_temp t (suc f) i) (node t i) (checked_below checked i)

  -- two bounds above the index
  two_bounds : (f g i : ℕ) → i < f → i < g → (expression_below free_temp t f i ≡ expression_below free_temp t g i) × (jump_below free_temp t f i ≡ jump_below free_temp t g i)
  unfolding expression_below jump_below
  two_bounds zero g i a b = absurd (omega arith)
  two_bounds (suc f) zero i a b = absurd (omega arith)
  two_bounds (suc f) (suc g) i a b =
      let same : (n : ℕ) → n < i → expression_below free_temp t f n ≡ expression_below free_temp t g n = λ n l. (two_bounds f g n (omega arith) (omega arith)).0 in
      let jumps : (n : ℕ) → n < i → jump_below free_temp t f n ≡ jump_below free_temp t g n = λ n l. (two_bounds f g n (omega arith) (omega arith)).1 in
      let own : expression_below free_temp t (suc f) i ≡ expression_below free_temp t (suc g) i = fun_ext (expression_step f i (expression_below free_temp t g) same (jump_below free_temp t g) jumps) in
      (own, jump_step f i (expression_below free_temp t g) same ∙ ap (λ e. jump_node t (expression_below free_temp t g) false e (node t i)) own)

  -- any bound above the index gives the same
  pub expression_any_bound : (f i : ℕ) → i < f → (d : Option Register) → expression_below free_temp t f i d ≡ lower_expression free_temp t i d
  unfolding lower_expression
  expression_any_bound f i h d = ap (λ (e : Option Register → Walk Operand). e d) (two_bounds f (suc i) i h (omega arith)).0

  pub jump_any_bound : (f i : ℕ) → i < f → jump_below free_temp t f i ≡ lower_jump_if_false free_temp t i
  unfolding lower_jump_if_false
  jump_any_bound f i h = (two_bounds f (suc i) i h (omega arith)).1

  -- so a node is lowered by its children's own lowering
  pub expression_at : (i : ℕ) (d : Option Register) → lower_expression free_temp t i d ≡ lower_node free_temp t (lower_expression free_temp t) (lower_jump_if_false free_temp t) i (node t i) d
  unfolding lower_expression
  expression_at i d = expression_step i i (lower_expression free_temp t) (λ n l. fun_ext (expression_any_bound i n l)) (lower_jump_if_false free_temp t) (jump_any_bound i) d

  pub jump_false_at : (i : ℕ) → lower_jump_if_false free_temp t i ≡ jump_node t (lower_expression free_temp t) false (lower_expression free_temp t i) (node t i)
  unfolding lower_expression lower_jump_if_false
  jump_false_at i = jump_step i i (lower_expression free_temp t) (λ n l. fun_ext (expression_any_bound i n l))

-- `lower_jump_if_true` is by definition at a node
pub jump_true_at : (t : Tree) (i : ℕ) → lower_jump_if_true free_temp t i ≡ jump_node t (lower_expression free_temp t) true (lower_expression free_temp t i) (node t i)
unfolding lower_jump_if_true
jump_true_at t i = refl
