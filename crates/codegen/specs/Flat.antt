-- Flat nodes: literals, names, and operators on these, not on two literals. They are lowered in place, on two counts, with no call of the walk.
use Rattle.std.specs.Prelude.{ℕ, ◌≤◌, ◌<◌, ◌≡◌, ◌≢◌, ◌⊎◌, Bool, cond, ◌&&◌, ◌||◌, List, leb, ltb, eqb, Option, Some, None, Result, Ok, Err}
use Rattle.environment.specs.declared.Register.{Register}
use Rattle.diagnostics.specs.declared.Refusal.{Refusal}
use Rattle.syntax.specs.Ast.{node_word, absent}
use Rattle.runtime.specs.declared.operand.Operand.{Operand}
use Rattle.lowering.specs.Tree.{Tree, node}
use Rattle.lowering.specs.Walk.{stops, Walk, ◌>>=◌, ret, unnamed}
use Rattle.lowering.specs.Steps.{free_temp, load_constant}
use Rattle.lowering.specs.Literals.{literal}
use Rattle.lowering.specs.Lower.{lower_expression}
use Rattle.steps.specs.Answers.{none, any, register_at}
use Rattle.codegen.specs.declared.flat.Asked.{Asked}
use Rattle.codegen.specs.Ready.{InArena, node_word_of}
use Rattle.codegen.specs.Kinds.{name_kind, binary_kind, block_kind}

-- what the flat nodes ask of the arena: the operands of an operator, and the tail of a block, are lower
pub record Falling (nodes : List ℕ) : Type 0 where
  pub left : (i : ℕ) → InArena nodes i → node_word_of nodes i 0 ≡ binary_kind → node_word_of nodes i 2 < i
  pub right : (i : ℕ) → InArena nodes i → node_word_of nodes i 0 ≡ binary_kind → node_word_of nodes i 3 < i
  pub tail : (i : ℕ) → InArena nodes i → node_word_of nodes i 0 ≡ block_kind → node_word_of nodes i 1 ≢ absent → node_word_of nodes i 1 < i

-- the register that a flat node is given: none, or a temporary's or local's word
abbrev pub Given : ℕ → Type 0
Given d = (d ≡ none) ⊎ (d < any)

-- two nodes are literals or names, and not both literals
unfoldable pub are_leaves : List ℕ → ℕ → ℕ → Bool
are_leaves nodes left right =
    leb (node_word_of nodes left 0) name_kind && leb (node_word_of nodes right 0) name_kind && (eqb (node_word_of nodes left 0) name_kind || eqb (node_word_of nodes right 0) name_kind)

unfoldable pub is_flat : List ℕ → ℕ → Bool
is_flat nodes i = cond (eqb (node_word_of nodes i 0) binary_kind) (are_leaves nodes (node_word_of nodes i 2) (node_word_of nodes i 3)) (leb (node_word_of nodes i 0) name_kind)

-- a name's register by its word: none where it is not declared
unfoldable pub found_at : Option ℕ → Result Register Refusal
found_at None = Err Refusal.Undeclared
found_at (Some w) = Ok (register_at w)

-- the word of a name that is declared is a local's
abbrev pub LocalOr : Option ℕ → Type 0
LocalOr None = Unit
LocalOr (Some w) = (256 ≤ w) × (w < 512)

-- "10: Is a register free?", where one is needed
unfoldable pub needing : {A : Type 0} → ℕ → Walk A → Walk A
needing d w = cond (eqb d none) (λ m. stops (unnamed Refusal.Registers) m) w

-- a literal, by what is asked: its operand, or its value in d
unfoldable pub flat_literal : Operand → Asked → ℕ → Walk Operand
flat_literal c Asked.Operand d = ret c
flat_literal c Asked.Register d = needing d (load_constant c (Some (register_at d)) >>= λ r. ret (Operand.Register r))
flat_literal c Asked.Into d = needing d (load_constant c (Some (register_at d)) >>= λ r. ret (Operand.Register r))

-- the destination of a name, which has a register of its own: the one given, or none
unfoldable pub name_dest : Asked → ℕ → Option Register
name_dest Asked.Operand d = None
name_dest Asked.Register d = None
name_dest Asked.Into d = Some (register_at d)

-- a flat node, where d is the register that it takes if it needs one
unfoldable pub flat_node : Tree → Asked → ℕ → ℕ → Walk Operand
flat_node t asked d i =
    cond (ltb (node_word t.nodes i 0) name_kind)
    (flat_literal (literal (node t i)) asked d)
    (cond (eqb (node_word t.nodes i 0) name_kind)
    (lower_expression free_temp t i (name_dest asked d))
    (needing d (lower_expression free_temp t i (Some (register_at d)))))
