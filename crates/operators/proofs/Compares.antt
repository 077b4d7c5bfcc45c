-- `is_comparison` is true of the operators that have a comparison, and of no other. Assumes nothing.
use Rattle.std.specs.Prelude.{Option, Some, None}
use mathlib.Core.Path.{◌≡◌, refl, sym, ap, ◌∙◌}
use mathlib.Core.Bool.{Bool, true, false, true≢false, false≢true}
use Rattle.syntax.specs.declared.ops.BinaryOp.{BinaryOp}
use Rattle.syntax.specs.declared.ops.Comparison.{Comparison}
use Rattle.lowering.specs.Operators.{comparison}
use Rattle.operators.specs.Opcodes.{is_comparison}

abbrev is_some : Option Comparison → Bool
is_some None = false
is_some (Some c) = true

compares_is_some : (op : BinaryOp) → is_comparison op ≡ is_some (comparison op)
unfolding is_comparison comparison
compares_is_some BinaryOp.Add = refl
compares_is_some BinaryOp.Subtract = refl
compares_is_some BinaryOp.Multiply = refl
compares_is_some BinaryOp.Divide = refl
compares_is_some BinaryOp.Modulo = refl
compares_is_some BinaryOp.Equal = refl
compares_is_some BinaryOp.NotEqual = refl
compares_is_some BinaryOp.Greater = refl
compares_is_some BinaryOp.GreaterEqual = refl
compares_is_some BinaryOp.Less = refl
compares_is_some BinaryOp.LessEqual = refl

some_of : (o : Option Comparison) → is_some o ≡ true → (c : Comparison) × (o ≡ Some c)
some_of None e = absurd (false≢true e)
some_of (Some c) e = (c, refl)

none_of : (o : Option Comparison) → is_some o ≡ false → o ≡ None
none_of None e = refl
none_of (Some c) e = absurd (true≢false e)

pub compares_some : (op : BinaryOp) → is_comparison op ≡ true → (c : Comparison) × (comparison op ≡ Some c)
compares_some op e = some_of (comparison op) (sym (compares_is_some op) ∙ e)

pub compares_none : (op : BinaryOp) → is_comparison op ≡ false → comparison op ≡ None
compares_none op e = none_of (comparison op) (sym (compares_is_some op) ∙ e)

pub some_compares : (op : BinaryOp) {c : Comparison} → comparison op ≡ Some c → is_comparison op ≡ true
some_compares op e = compares_is_some op ∙ ap is_some e
