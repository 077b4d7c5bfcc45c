-- Every run of lowering is made of good steps, in each mode and from anything made so far whose marks name instructions. Assumes nothing.
use Rattle.std.specs.Prelude.{Option, None}
use Rattle.environment.specs.declared.Register.{Register}
use Prim.Native.Nat.{ℕ, zero, suc, ◌≤◌, ◌<◌}
use native.Mathlib.Omega.{arith}
use mathlib.Core.Path.{◌≡◌, refl}
use mathlib.Core.Bool.{true, false}
use mathlib.Core.List.{List}
use lib.Dec.{ltb}
use lib.ListN.{length}
use borrow.Author.Tests.{ltb-true}
use Rattle.environment.specs.Laws.{Sound}
use Rattle.lowering.specs.Tree.{Tree, node, children}
use Rattle.lowering.specs.Questions.{all_below, question7}
use Rattle.lowering.specs.Checked.{Checked}
use Rattle.lowering.specs.Walk.{Made, Outcome, Walk, made_of}
use Rattle.lowering.specs.Lower.{lower_node, expression_below, jump_below, lower_expression, lower_jump_if_true}
use Rattle.lowering.specs.Meaning.{Named, first, later, Reaches, here, below}
use Rattle.lowering.specs.Trace.{Runs, step, returns, follows, halts, reads, counts, Step, registers_of}
use Rattle.lowering.proofs.Questions.Checked.{checked_at, checked_fits, and_left, and_right}
use Rattle.lowering.proofs.Walk.StepsRun.{Good, DestReady}
use Rattle.lowering.proofs.Walk.NodesRun.{LoweredOperand, JumpMade, node_good, jump_good}

pub below_named : (i : ℕ) {c : ℕ} {l : List ℕ} → Named c l → all_below i l ≡ true → c < i
unfolding all_below
below_named i (first {is = is}) e = ltb-true _ i (and_left (ltb _ i) (all_below i is) e)
below_named i (later {j = j} {is = is} n) e = below_named i n (and_right (ltb j i) (all_below i is) e)

reaches_child : {t : Tree} {i j c : ℕ} → Reaches t i j → Named c (children t.list (node t j)) → Reaches t i c
reaches_child here n = below n here
reaches_child (below a r) n = below a (reaches_child r n)

-- A relation that every step keeps, and that goes on from step to step, holds from the start of a run to its end.
module _ {t : Tree} {root : ℕ} (R : Made → Made → Type 0) (none : (m : Made) → R m m) (more : (m n o : Made) → R m n → R n o → R m o)
    (each : (A : Type 0) (w : Walk A) (m : Made) (o : Outcome A) → Step t root A w m o → R m (made_of o)) where
  pub along : {A : Type 0} {w : Walk A} {m : Made} {o : Outcome A} → Runs t root A w m o → R m (made_of o)
  unfolding made_of
  along (step s) = each _ _ _ _ s
  along (returns {m = m}) = none m
  along (follows k a b) = more _ _ _ (along a) (along b)
  along (halts k a) = along a
  along (reads k a) = along a
  along (counts a) = along a

module _ (t : Tree) (root : ℕ) (checked : Checked t) (few : length t.names ≤ 256) where
  -- a node that the root reaches, below a bound
  abbrev Near : ℕ → ℕ → Type 0
  Near f i = (i < f) × Reaches t root i

  near_child : {f i : ℕ} → Near (suc f) i → (c : ℕ) → Named c (children t.list (node t i)) → Near f c
  unfolding question7
  near_child {f} {i} h c n = (let l : c < i = below_named i n (checked_at checked i).order in omega (arith, h.0), reaches_child h.1 n)

  mutual
    unfolding expression_below jump_below

    pub expression_runs : (f i : ℕ) → Near f i → (dest : Option Register) (m : Made) → Sound (registers_of m) → DestReady m dest →
        Good t root (LoweredOperand t root m dest) (λ F. expression_below F t f i dest) m
    expression_runs zero i h dest m s g = absurd (omega (arith, h.0))
    expression_runs (suc f) i h dest m s g =
        node_good t root (λ F. expression_below F t f) (Near f) (λ j n. n.1) (λ j n d o q z. expression_runs f j n d o q z) (λ F. jump_below F t f) (λ j n o q. jump_runs f j n o q) few
        i (node t i) h.1 refl (checked_fits checked i) (near_child h) dest m s g

    pub jump_runs : (f i : ℕ) → Near f i → (m : Made) → Sound (registers_of m) → Good t root (JumpMade t root m) (λ F. jump_below F t f i) m
    jump_runs zero i h m s = absurd (omega (arith, h.0))
    jump_runs (suc f) i h m s =
        jump_good t root (λ F. expression_below F t f) (Near f) (λ j n. n.1) (λ j n d o q z. expression_runs f j n d o q z) false
        (λ F d. lower_node F t (expression_below F t f) (jump_below F t f) i (node t i) d)
        (λ n q. node_good t root (λ F. expression_below F t f) (Near f) (λ j k. k.1) (λ j n d o q z. expression_runs f j n d o q z) (λ F. jump_below F t f) (λ j n o q. jump_runs f j n o q) few
        i (node t i) h.1 refl (checked_fits checked i) (near_child h) None n q tt)
        (node t i) (near_child h) m s

  pub jump_true_runs : (m : Made) → Sound (registers_of m) → Good t root (JumpMade t root m) (λ F. lower_jump_if_true F t root) m
  unfolding lower_jump_if_true lower_expression
  jump_true_runs m s =
      jump_good t root (λ F i. expression_below F t (suc i) i) (λ i. Reaches t root i) (λ i r. r) (λ i r. expression_runs (suc i) i (omega arith, r)) true
      (λ F. expression_below F t (suc root) root) (λ n q. expression_runs (suc root) root (omega arith, here) None n q tt) (node t root) (λ c n. reaches_child here n) m s
