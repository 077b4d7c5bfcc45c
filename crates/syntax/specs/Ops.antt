-- "operator 0 to 10 in `BinaryOp` order (`ops.rs`)"; "0 negate or 1 deref".
use Rattle.std.specs.Prelude.{ℕ, List, [], ◌∷◌, get_or}
use Rattle.syntax.specs.declared.ops.BinaryOp.{BinaryOp}
use Rattle.syntax.specs.declared.ops.UnaryOp.{UnaryOp}

abbrev pub binary_ops : List BinaryOp
binary_ops =
    BinaryOp.Add ∷ BinaryOp.Subtract ∷ BinaryOp.Multiply ∷ BinaryOp.Divide ∷ BinaryOp.Modulo ∷ BinaryOp.Equal ∷ BinaryOp.NotEqual ∷ BinaryOp.Greater
    ∷ BinaryOp.GreaterEqual ∷ BinaryOp.Less ∷ BinaryOp.LessEqual ∷ []

abbrev pub unary_ops : List UnaryOp
unary_ops = UnaryOp.Negate ∷ UnaryOp.Deref ∷ []

-- the operator of a word; a word past the last operator reads as the last
unfoldable pub binary_op : ℕ → BinaryOp
binary_op word = get_or binary_ops word BinaryOp.LessEqual

unfoldable pub unary_op : ℕ → UnaryOp
unary_op word = get_or unary_ops word UnaryOp.Deref
