-- What a tree within the bounds is can fail: `Fits` is false with 513 list words, and with a mode past the largest word. Assumes nothing.
use Prim.Native.Nat.{ℕ}
use native.Mathlib.Omega.{arith}
use mathlib.Core.List.{List, []}
use lib.ListN.{replicate, length-replicate}
use Rattle.listing.specs.Text.{TextTree}
use Rattle.listing.specs.Output.{Fits}

abbrev pub tree_with : ℕ → List ℕ → TextTree
tree_with mode list = record { mode = mode; root = 0; nodes = []; list = list; names = [] }

pub list_refuted : Fits (tree_with 0 (replicate 513 0)) → ⊥
list_refuted f = omega (arith, f.few_words, length-replicate {A = ℕ} 513 0)

pub mode_refuted : Fits (tree_with 4294967296 []) → ⊥
mode_refuted f = omega (arith, f.mode)
