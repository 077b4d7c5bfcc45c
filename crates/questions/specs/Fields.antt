-- What a node's record says (`Fields`), in the words of the definition: a question of its kind and its words a, b and c, and the node that they are.
use Rattle.std.specs.Prelude.{ℕ, get_or}
use Rattle.syntax.specs.declared.ast.Node.{Node}
use Rattle.syntax.specs.Ast.{node_kinds}
use Rattle.syntax.specs.Kinds.{kind_number}
use Rattle.questions.specs.declared.Fields.{Fields}

abbrev pub of_fields : {T : Type 0} → (ℕ → ℕ → ℕ → ℕ → T) → Fields → T
of_fields q n = q (kind_number n.kind) n.a n.b n.c

abbrev pub fields_node : Fields → Node
fields_node n = get_or node_kinds (kind_number n.kind) (λ a b c. Node.Nil) n.a n.b n.c
