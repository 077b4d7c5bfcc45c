-- A checked tree is checked in one way.
use Rattle.std.proofs.Props.{props}
use Rattle.std.specs.Prelude.{ℕ, List}
use Rattle.lowering.specs.Tree.{Tree}
use Rattle.codegen.specs.Flat.{Falling}
use Rattle.lowering.specs.Checked.{Checked}

pub checked_prop : (t : Tree) → IsProp (Checked t)
checked_prop t = Prim.hlevel props

pub falling_prop : (nodes : List ℕ) → IsProp (Falling nodes)
falling_prop nodes = Prim.hlevel props
