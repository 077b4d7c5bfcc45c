-- `codegen::flat::value_or_key` meets its contract: the value, if there is one. Assumes nothing.
use Rattle.std.proofs.Common.{◌≡◌, refl, Bool, true, false, cond, eqb, Some, None, ℕ}
use Rattle.std.specs.Option.{unwrap_or}
use Rattle.syntax.specs.Ast.{absent, node_of}
use Rattle.codegen.proofs.flat.value_or_key.Goals as goal

either : (b : Bool) (key value : ℕ) → unwrap_or (cond b None (Some value)) key ≡ cond b key value
either true key value = refl
either false key value = refl

pub returns : goal.returns
unfolding node_of
returns c = rw (c.unwrap_or.ensures, c.node_of.ensures) (either (eqb c.args.value absent) c.args.key c.args.value)
