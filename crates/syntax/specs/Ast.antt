-- "Node, six words: kind, a, b, c, span start, span end. Absent is 4294967295; unused words are 0."
use Rattle.std.specs.Prelude.{ℕ, ◌+◌, ◌*◌, List, [], ◌∷◌, Option, Some, None, cond, not, eqb, get_or}
use Rattle.syntax.specs.declared.ast.Node.{Node}
use Rattle.syntax.specs.Ops.{binary_op, unary_op}

-- the width of a node record
abbrev pub node_width : ℕ
node_width = 6

abbrev pub absent : ℕ
absent = 4294967295

-- the node that a word names; none where the word is that of an absent one
unfoldable pub node_of : ℕ → Option ℕ
node_of word = cond (eqb word absent) None (Some word)

-- the kinds from 0 to 14: what each makes of a, b and c
abbrev pub node_kinds : List (ℕ → ℕ → ℕ → Node)
node_kinds =
    (λ a b c. Node.Number a b)
    ∷ (λ a b c. Node.String a)
    ∷ (λ a b c. Node.Boolean (not (eqb a 0)))
    ∷ (λ a b c. Node.Nil)
    ∷ (λ a b c. Node.Identifier a)
    ∷ (λ a b c. Node.Binary (binary_op a) b c)
    ∷ (λ a b c. Node.Unary (unary_op a) b)
    ∷ (λ a b c. Node.LogicalNot a)
    ∷ (λ a b c. Node.LogicalAnd a b)
    ∷ (λ a b c. Node.LogicalOr a b)
    ∷ (λ a b c. Node.If a b c)
    ∷ (λ a b c. Node.Block a)
    ∷ (λ a b c. Node.FunctionCall a b c)
    ∷ (λ a b c. Node.PropertyAccess a b)
    ∷ (λ a b c. Node.Map a b)
    ∷ []

-- word k of node i
unfoldable pub node_word : List ℕ → ℕ → ℕ → ℕ
node_word nodes i k = get_or nodes (node_width * i + k) 0

-- node i of the arena; a kind past the last, which question 3 refuses, reads as nil
unfoldable pub node_at : List ℕ → ℕ → Node
node_at nodes i = get_or node_kinds (node_word nodes i 0) (λ a b c. Node.Nil) (node_word nodes i 1) (node_word nodes i 2) (node_word nodes i 3)
