-- The walk: lower_expression.rs and lower_ast.rs, one clause a kind. What is done with a child is an argument: E lowers a node as an expression
-- (`lower_expression`), J as a condition (`lower_jump_if_false`).
use Rattle.std.specs.Prelude.{ℕ, zero, suc, ◌+◌, ◌*◌, Bool, true, false, cond, eqb, length, get_or, Option, Some, None, Result, Ok, Err}
use Rattle.diagnostics.specs.declared.Refusal.{Refusal}
use Rattle.environment.specs.declared.Register.{Register}
use Rattle.environment.specs.Environment.{lookup}
use Rattle.syntax.specs.declared.ast.Node.{Node}
use Rattle.syntax.specs.declared.ops.BinaryOp.{BinaryOp}
use Rattle.syntax.specs.declared.ops.Comparison.{Comparison}
use Rattle.syntax.specs.Ast.{absent}
use Rattle.runtime.specs.declared.instruction.Instruction.{Instruction}
use Rattle.runtime.specs.declared.operand.Operand.{Operand}
use Rattle.runtime.specs.Operands.{reg_of}
use Rattle.runtime.specs.Value.{number_of}
use Rattle.lowering.specs.Tree.{Tree, node, span_start, span_end}
use Rattle.lowering.specs.Walk.{stops, Walk, ◌>>=◌, ◌>>◌, ret, error}
use Rattle.lowering.specs.Steps.{destination, emit, store, load_constant, patch_to_next, mark}
use Rattle.lowering.specs.Operators.{binary_rr, binary_rk, binary_kr, unary, comparison, jump_rr, jump_rk, jump_kr, jump_if}

-- where an operand is: in a register, or a constant that is not pooled yet
pub data Source : Type 0 where
  register : Register → Source
  constant : Operand → Source

unfoldable pub source : Operand → Source
source (Operand.Register r) = register r
source (Operand.Number x) = constant (Operand.Number x)
source (Operand.String symbol) = constant (Operand.String symbol)
source (Operand.Boolean b) = constant (Operand.Boolean b)
source Operand.Nil = constant Operand.Nil

-- whether the destination asked for is the name's own register
unfoldable pub same_register : Register → Register → Bool
same_register (Register.Temp a) (Register.Temp b) = eqb a b
same_register (Register.Temp a) (Register.Local b) = false
same_register (Register.Local a) (Register.Temp b) = false
same_register (Register.Local a) (Register.Local b) = eqb a b

-- a name's symbol; none for any other node
unfoldable pub name_of : Node → Option ℕ
name_of (Node.Number low high) = None
name_of (Node.String symbol) = None
name_of (Node.Boolean b) = None
name_of Node.Nil = None
name_of (Node.Identifier symbol) = Some symbol
name_of (Node.Binary operator left right) = None
name_of (Node.Unary operator operand) = None
name_of (Node.LogicalNot operand) = None
name_of (Node.LogicalAnd left right) = None
name_of (Node.LogicalOr left right) = None
name_of (Node.If condition then_branch else_branch) = None
name_of (Node.Block tail) = None
name_of (Node.FunctionCall callee first count) = None
name_of (Node.PropertyAccess object property) = None
name_of (Node.Map first count) = None

-- a literal "nothing until materialized"
unfoldable pub materialized : Source → Option Register → Walk Register
materialized (register r) dest = ret r
materialized (constant c) dest = load_constant c dest

-- `lower_materializing` of a node, by its `lower_expression`
unfoldable pub lower_materializing : (Option Register → Walk Operand) → Option Register → Walk Register
lower_materializing expression dest = do
  src ← expression dest
  materialized (source src) dest

module _ (t : Tree) where
  -- a refusal that names a node: "place, span: the name; likewise at 11, 12 and 15"
  abbrev pub refuse : {A : Type 0} → Refusal → ℕ → Walk A
  refuse refusal i m = stops (error refusal i (span_start t i) (span_end t i)) m

  -- "Name: its own register, or a Move if another destination was given."
  unfoldable pub moved : Register → Option Register → Walk Operand
  moved r None = ret (Operand.Register r)
  moved r (Some d) =
      cond (same_register d r) (ret (Operand.Register d)) do
        emit (Instruction.Move (reg_of d) (reg_of r))
        ret (Operand.Register d)

  unfoldable pub lower_name : ℕ → Result Register Refusal → Option Register → Walk Operand
  lower_name i (Ok r) dest = moved r dest
  lower_name i (Err refusal) dest = refuse refusal i

  module _ (E : ℕ → Option Register → Walk Operand) where
    -- "argument i is aimed at local i and the last instruction so far is marked": n arguments from argument k on, of the call at node i
    unfoldable pub lower_arguments : ℕ → ℕ → ℕ → ℕ → Walk Unit
    lower_arguments i first zero k = ret tt
    lower_arguments i first (suc n) k = do
      lower_materializing (E (get_or t.list (first + k) 0)) (Some (Register.Local k))
      mark i (span_start t i) (span_end t i)
      lower_arguments i first n (suc k)

    -- a name key with its value
    unfoldable pub store_named : Register → ℕ → Source → Walk ℕ
    store_named d key (constant v) = do
      value ← store v
      emit (Instruction.SetPropertyKK (reg_of d) key value)
    store_named d key (register value) = emit (Instruction.SetPropertyKR (reg_of d) key (reg_of value))

    -- any other key with its value: "Literals left over are pooled last, key before value."
    unfoldable pub store_keyed : Register → Source → Source → Walk ℕ
    store_keyed d (register key) (register value) = emit (Instruction.SetProperty (reg_of d) (reg_of key) (reg_of value))
    store_keyed d (register key) (constant v) = do
      value ← store v
      emit (Instruction.SetPropertyRK (reg_of d) (reg_of key) value)
    store_keyed d (constant k) (register value) = do
      key ← store k
      emit (Instruction.SetPropertyKR (reg_of d) key (reg_of value))
    store_keyed d (constant k) (constant v) = do
      key ← store k
      value ← store v
      emit (Instruction.SetPropertyKK (reg_of d) key value)

    -- one entry: "A name key isn't looked up if it has a value; its name is pooled after the value is lowered. Any other key is lowered before
    -- its value." 12: "Is a key without value a name? (the key)"
    unfoldable pub lower_entry : Register → ℕ → ℕ → Option ℕ → Walk ℕ
    lower_entry d key value (Some name) =
        cond (eqb value absent)
        (do
          src ← lower_materializing (E key) None
          k ← store (Operand.String name)
          emit (Instruction.SetPropertyKR (reg_of d) k (reg_of src)))
        (do
          src ← E value None
          k ← store (Operand.String name)
          store_named d k (source src))
    lower_entry d key value None =
        cond (eqb value absent)
        (refuse Refusal.Key key)
        (do
          k ← E key None
          v ← E value None
          store_keyed d (source k) (source v))

    -- n entries from entry k on
    unfoldable pub lower_entries : Register → ℕ → ℕ → ℕ → Walk Unit
    lower_entries d first zero k = ret tt
    lower_entries d first (suc n) k =
        let key : ℕ = get_or t.list (first + 2 * k) 0 in
        let value : ℕ = get_or t.list (first + 2 * k + 1) 0 in do
          lower_entry d key value (name_of (node t key))
          lower_entries d first n (suc k)

    -- 11: "Does the if have an else, asked after condition, then and both jumps, the first patched? (the if)"
    unfoldable pub lower_else : ℕ → ℕ → Register → Walk Register
    lower_else i else_branch d = cond (eqb else_branch absent) (refuse Refusal.Else i) (lower_materializing (E else_branch) (Some d))

    -- "Block: destination, then the tail or nil."
    unfoldable pub lower_tail : ℕ → Register → Walk Register
    lower_tail tail d = cond (eqb tail absent) (load_constant Operand.Nil (Some d)) (lower_materializing (E tail) (Some d))

    -- "A comparison of two literals, and anything else, is materialized and tested": own is the condition's own `lower_expression`
    unfoldable pub test : Bool → (Option Register → Walk Operand) → Walk ℕ
    test sense own = do
      src ← lower_materializing own None
      emit (jump_if sense (reg_of src))

    -- "left, right, constants pooled, one fused jump; no destination is taken."
    unfoldable pub fused_sources : Bool → (Option Register → Walk Operand) → Comparison → Source → Source → Walk ℕ
    fused_sources sense own c (register src1) (register src2) = emit (jump_rr sense c (reg_of src1) (reg_of src2))
    fused_sources sense own c (register src1) (constant b) = do
      src2 ← store b
      emit (jump_rk sense c (reg_of src1) src2)
    fused_sources sense own c (constant a) (register src2) = do
      src1 ← store a
      emit (jump_kr sense c src1 (reg_of src2))
    fused_sources sense own c (constant a) (constant b) = test sense own

    unfoldable pub fuse : Bool → (Option Register → Walk Operand) → Option Comparison → ℕ → ℕ → Walk ℕ
    fuse sense own None left right = test sense own
    fuse sense own (Some c) left right = do
      a ← E left None
      b ← E right None
      fused_sources sense own c (source a) (source b)

    -- `lower_jump_if_false` and `lower_jump_if_true` of a node, by the outcome of the test at which they jump
    unfoldable pub jump_node : Bool → (Option Register → Walk Operand) → Node → Walk ℕ
    jump_node sense own (Node.Number low high) = test sense own
    jump_node sense own (Node.String symbol) = test sense own
    jump_node sense own (Node.Boolean b) = test sense own
    jump_node sense own Node.Nil = test sense own
    jump_node sense own (Node.Identifier symbol) = test sense own
    jump_node sense own (Node.Binary operator left right) = fuse sense own (comparison operator) left right
    jump_node sense own (Node.Unary operator operand) = test sense own
    jump_node sense own (Node.LogicalNot operand) = test sense own
    jump_node sense own (Node.LogicalAnd left right) = test sense own
    jump_node sense own (Node.LogicalOr left right) = test sense own
    jump_node sense own (Node.If condition then_branch else_branch) = test sense own
    jump_node sense own (Node.Block tail) = test sense own
    jump_node sense own (Node.FunctionCall callee first count) = test sense own
    jump_node sense own (Node.PropertyAccess object property) = test sense own
    jump_node sense own (Node.Map first count) = test sense own

-- The clauses that give registers back, and the walk that they make. `give_back` is `free_temp` in lowering, and `free_held` in the law that only held
-- registers are given back.
module _ (give_back : Register → Walk Unit) (t : Tree) where
  module _ (E : ℕ → Option Register → Walk Operand) where
    -- "then constants pooled, one instruction. Two literals are both loaded."
    unfoldable pub binary_sources : BinaryOp → ℕ → ℕ → Register → Source → Source → Walk Operand
    binary_sources operator left right d (constant a) (constant b) = do
      src1 ← lower_materializing (E left) None
      src2 ← lower_materializing (E right) None
      emit (binary_rr operator (reg_of d) (reg_of src1) (reg_of src2))
      give_back src1
      give_back src2
      ret (Operand.Register d)
    binary_sources operator left right d (register src1) (constant b) = do
      src2 ← store b
      emit (binary_rk operator (reg_of d) (reg_of src1) src2)
      give_back src1
      ret (Operand.Register d)
    binary_sources operator left right d (constant a) (register src2) = do
      src1 ← store a
      emit (binary_kr operator (reg_of d) src1 (reg_of src2))
      give_back src2
      ret (Operand.Register d)
    binary_sources operator left right d (register a) (register b) = do
      emit (binary_rr operator (reg_of d) (reg_of a) (reg_of b))
      give_back a
      give_back b
      ret (Operand.Register d)

    -- `lower_expression` of node i
    unfoldable pub lower_node : (ℕ → Walk ℕ) → ℕ → Node → Option Register → Walk Operand
    lower_node J i (Node.Number low high) dest = ret (Operand.Number (number_of low high))
    lower_node J i (Node.String symbol) dest = ret (Operand.String symbol)
    lower_node J i (Node.Boolean b) dest = ret (Operand.Boolean b)
    lower_node J i Node.Nil dest = ret Operand.Nil
    lower_node J i (Node.Identifier symbol) dest = lower_name t i (lookup t.names (length t.names) symbol) dest
    -- "Binary: destination first, left, right"
    lower_node J i (Node.Binary operator left right) dest = do
      d ← destination dest
      a ← E left None
      b ← E right None
      binary_sources operator left right d (source a) (source b)
    lower_node J i (Node.Unary operator operand) dest = do
      d ← destination dest
      src ← lower_materializing (E operand) None
      emit (unary operator (reg_of d) (reg_of src))
      give_back src
      ret (Operand.Register d)
    lower_node J i (Node.LogicalNot operand) dest = do
      d ← destination dest
      src ← lower_materializing (E operand) None
      emit (Instruction.Not (reg_of d) (reg_of src))
      give_back src
      ret (Operand.Register d)
    -- "And, or: left into the destination, jump, right into the same."
    lower_node J i (Node.LogicalAnd left right) dest = do
      d ← destination dest
      src ← lower_materializing (E left) (Some d)
      jump ← emit (Instruction.JumpIfFalse (reg_of src) 0)
      lower_materializing (E right) (Some d)
      patch_to_next jump
      ret (Operand.Register d)
    lower_node J i (Node.LogicalOr left right) dest = do
      d ← destination dest
      src ← lower_materializing (E left) (Some d)
      jump ← emit (Instruction.JumpIfTrue (reg_of src) 0)
      lower_materializing (E right) (Some d)
      patch_to_next jump
      ret (Operand.Register d)
    -- "If: condition, destination, then, jump, else. Registers of a condition stay held"
    lower_node J i (Node.If condition then_branch else_branch) dest = do
      jump ← J condition
      d ← destination dest
      lower_materializing (E then_branch) (Some d)
      end ← emit (Instruction.Jump 0)
      patch_to_next jump
      lower_else t E i else_branch d
      patch_to_next end
      ret (Operand.Register d)
    lower_node J i (Node.Block tail) dest = do
      d ← destination dest
      lower_tail t E tail d
      ret (Operand.Register d)
    -- "Call: [..] then destination, callee, Call."
    lower_node J i (Node.FunctionCall callee first count) dest = do
      lower_arguments t E i first count 0
      d ← destination dest
      src ← lower_materializing (E callee) None
      emit (Instruction.Call (reg_of d) (reg_of src) count)
      give_back src
      ret (Operand.Register d)
    -- "Property: destination, object, key pooled."
    lower_node J i (Node.PropertyAccess object property) dest = do
      d ← destination dest
      src ← lower_materializing (E object) None
      key ← store (Operand.String property)
      emit (Instruction.GetPropertyK (reg_of d) (reg_of src) key)
      give_back src
      ret (Operand.Register d)
    -- "Map: CreateMap, then entry by entry." The registers "of map entries" stay held.
    lower_node J i (Node.Map first count) dest = do
      d ← destination dest
      emit (Instruction.CreateMap (reg_of d))
      lower_entries t E d first count 0
      ret (Operand.Register d)

  -- Recursion over the arena. "Is every node it names lower than itself?": so the node's index falls at each descent to a child. antt takes
  -- recursion on a part of an argument only; a bound above the index, one less at each descent, stands for it here, and nowhere else: below
  -- are the same two at a node, with no bound.
  unfoldable mutual
    -- where the bound is used up it refuses with 7: no checked tree comes there
    pub expression_below : ℕ → ℕ → Option Register → Walk Operand
    expression_below zero i dest = refuse t Refusal.Order i
    expression_below (suc bound) i dest = lower_node (λ n d. expression_below bound n d) (λ n. jump_below bound n) i (node t i) dest

    pub jump_below : ℕ → ℕ → Walk ℕ
    jump_below zero i = refuse t Refusal.Order i
    jump_below (suc bound) i =
        jump_node t (λ n d. expression_below bound n d) false
        (λ d. lower_node (λ n e. expression_below bound n e) (λ n. jump_below bound n) i (node t i) d)
        (node t i)

  -- `lower_expression`, `lower_jump_if_false` and `lower_jump_if_true` at a node
  unfoldable pub lower_expression : ℕ → Option Register → Walk Operand
  lower_expression i dest = expression_below (suc i) i dest

  unfoldable pub lower_jump_if_false : ℕ → Walk ℕ
  lower_jump_if_false i = jump_below (suc i) i

  unfoldable pub lower_jump_if_true : ℕ → Walk ℕ
  lower_jump_if_true i = jump_node t lower_expression true (lower_expression i) (node t i)
