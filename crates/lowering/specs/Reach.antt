-- How many distinct nodes a node reaches.
use Rattle.std.specs.Prelude.{ℕ, zero, suc, ◌+◌, List, [], ◌∷◌, Bool, false, cond, ◌||◌, eqb}
use Rattle.lowering.specs.Tree.{Tree, node, children}

-- whether one of a list's numbers passes a test
unfoldable pub any_of : (ℕ → Bool) → List ℕ → Bool
any_of test [] = false
any_of test (x ∷ l) = test x || any_of test l

-- whether node i reaches node j, by a bound above i
unfoldable pub reaches_below : Tree → ℕ → ℕ → ℕ → Bool
reaches_below t zero j i = false
reaches_below t (suc bound) j i = eqb i j || any_of (λ c. reaches_below t bound j c) (children t.list (node t i))

-- how many numbers below n pass a test
unfoldable pub count_below : (ℕ → Bool) → ℕ → ℕ
count_below test zero = 0
count_below test (suc n) = cond (test n) 1 0 + count_below test n

-- the distinct nodes that the root reaches: of a checked tree, all of them are at most the root
unfoldable pub reached_nodes : Tree → ℕ → ℕ
reached_nodes t root = count_below (λ j. reaches_below t (suc root) j root) (suc root)
