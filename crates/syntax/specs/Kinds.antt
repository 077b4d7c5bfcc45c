-- "Node, six words: kind, a, b, c, span start, span end": the first of them, by the kinds from 0 to 14.
use Rattle.std.specs.Prelude.{ℕ, List, [], ◌∷◌, get_or, Option, Some, None}
use Rattle.syntax.specs.declared.kind.Kind.{Kind}

-- the word of a kind
abbrev pub kind_number : Kind → ℕ
kind_number Kind.Number = 0
kind_number Kind.String = 1
kind_number Kind.Boolean = 2
kind_number Kind.Nil = 3
kind_number Kind.Identifier = 4
kind_number Kind.Binary = 5
kind_number Kind.Unary = 6
kind_number Kind.LogicalNot = 7
kind_number Kind.LogicalAnd = 8
kind_number Kind.LogicalOr = 9
kind_number Kind.If = 10
kind_number Kind.Block = 11
kind_number Kind.FunctionCall = 12
kind_number Kind.PropertyAccess = 13
kind_number Kind.Map = 14

abbrev pub kinds : List (Option Kind)
kinds =
    Some Kind.Number ∷ Some Kind.String ∷ Some Kind.Boolean ∷ Some Kind.Nil ∷ Some Kind.Identifier ∷ Some Kind.Binary ∷ Some Kind.Unary
    ∷ Some Kind.LogicalNot ∷ Some Kind.LogicalAnd ∷ Some Kind.LogicalOr ∷ Some Kind.If ∷ Some Kind.Block ∷ Some Kind.FunctionCall
    ∷ Some Kind.PropertyAccess ∷ Some Kind.Map ∷ []

-- the kind of a word; a word past the last kind has none
unfoldable pub kind_of : ℕ → Option Kind
kind_of word = get_or kinds word None
