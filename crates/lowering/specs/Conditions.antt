-- A law of our own, for the code that lowering leaves of an accepted tree in mode 1 or 2, with the jump at the place given patched to a goal: what is
-- given, and each sentence as a statement about `after`. Proved in proofs/.
use Rattle.std.specs.Prelude.{ℕ, ◌+◌, ◌<◌, ◌≤◌, ◌≡◌, ◌≢◌, ◌↔◌, List, Bool, true, false, cond, not, length, Some}
use Rattle.std.specs.Bool.{beq}
use Rattle.lowering.specs.Tree.{Tree, tree_of, node}
use Rattle.lowering.specs.Result.{Lowered, JumpPatched, lower, patch_jump}
use Rattle.lowering.specs.Meaning.{Operators, Hypotheses, Evaluation, evaluates, fails, undefined, tests, value_at, OrderPremise, ConditionPremise, AtRoot, Reaches, Plain, size_at}
use Rattle.lowering.specs.Machine.{target, fetch, constant_at, failed, Registers, Now, at, ended, after}

-- "Modes: [..] 1 jump if false, 2 jump if true": by the outcome of the test at which it jumps
abbrev pub mode_of : Bool → ℕ
mode_of false = 1
mode_of true = 2

-- Any operators that keep the hypotheses, any parameters, and any registers that start with them. The order premise is asked of the ifs inside
-- the tree; of the root's own two values it is asked where the jump is on false, as at an if, and not where it is on true.
pub record Entry (sense : Bool) (t : Tree) (root : ℕ) : Type 1 where
  pub operators : Operators
  pub hypotheses : Hypotheses operators
  pub parameters : ℕ → operators.Value
  pub registers : Registers operators
  pub filled : (r : ℕ) → r < length t.names → registers r ≡ parameters r
  pub order : OrderPremise operators t parameters root
  pub own : AtRoot sense (ConditionPremise operators t parameters root)

-- an offset, and the place to which a jump with it goes
pub record Goal (jump : ℕ) : Type 0 where
  pub offset : ℕ
  pub place : ℕ
  pub reached : target jump offset ≡ Some place

module _ (sense : Bool) (t : Tree) (root : ℕ) (x : Lowered) where
  -- the place after the code
  abbrev pub code_end : ℕ
  code_end = x.result.instructions

  -- the code with its jump patched
  abbrev pub patched_to : Goal x.result.place → JumpPatched
  patched_to g = patch_jump x.code code_end x.result.place g.offset

  -- what the tree's value tests as: a boolean, the tree's failure, or the test's
  abbrev pub test_of : (s : Entry sense t root) → Evaluation s.operators.Failure Bool
  test_of s = tests s.operators (value_at s.operators t s.parameters root)

  module _ (g : Goal x.result.place) (s : Entry sense t root) where
    -- the run from place 0, after n steps
    abbrev pub run_to : ℕ → Now s.operators
    run_to n =
        after s.operators (constant_at s.operators x.constants x.result.constants) (fetch (patched_to g).code code_end) n
        (at 0 s.registers)

    -- where a run is left: at the goal where the tree's value tests as `sense`, after the code where it tests the other way; ended, with the failure
    abbrev pub LeftBy : Evaluation s.operators.Failure Bool → Now s.operators → Type 0
    LeftBy (evaluates b) now = (R : Registers s.operators) × (now ≡ at (cond (beq b sense) g.place code_end) R)
    LeftBy (fails y) now = now ≡ ended (failed y)
    LeftBy undefined now = ⊥

    -- the first n steps of a run, of which the last is the jump's; each step at a place of the code, "no instruction runs twice", "every parameter
    -- keeps its value at each step"
    pub record UpTo (n : ℕ) : Type 0 where
      pub left : LeftBy (test_of s) (run_to n)
      pub by_jump : (b : Bool) → test_of s ≡ evaluates b → (k : ℕ) × (P : Registers s.operators) × (n ≡ k + 1) × (run_to k ≡ at x.result.place P)
      pub steps : n ≤ code_end
      pub inside : (k : ℕ) → k < n → (p : ℕ) × (P : Registers s.operators) × (run_to k ≡ at p P) × (p < code_end)
      pub once : (j k p q : ℕ) (P Q : Registers s.operators) → j < k → k < n → run_to j ≡ at p P → run_to k ≡ at q Q → p < q
      pub parameters : (k p : ℕ) (P : Registers s.operators) → k ≤ n → run_to k ≡ at p P → (r : ℕ) → r < length t.names → P r ≡ s.parameters r

    -- the run comes to the goal exactly when the tree's value tests as `sense`, to the place after the code exactly when it tests the other way, and ends with a failure
    -- exactly when that is the tree's or the test's; once and parameters at every step
    pub record Exactly : Type 0 where
      pub to_goal : (test_of s ≡ evaluates sense) ↔ ((n : ℕ) × (R : Registers s.operators) × (run_to n ≡ at g.place R))
      pub to_behind : (test_of s ≡ evaluates (not sense)) ↔ ((n : ℕ) × (R : Registers s.operators) × (run_to n ≡ at code_end R))
      pub fails_alike : (y : s.operators.Failure) → (test_of s ≡ fails y) ↔ ((n : ℕ) × (run_to n ≡ ended (failed y)))
      pub once : (j k p q : ℕ) (P Q : Registers s.operators) → j < k → run_to j ≡ at p P → run_to k ≡ at q Q → p < q
      pub parameters : (k p : ℕ) (P : Registers s.operators) → run_to k ≡ at p P → (r : ℕ) → r < length t.names → P r ≡ s.parameters r

  pub record ConditionOf : Type 1 where
    -- the jump is the last instruction, and any patch of it is accepted
    pub last : code_end ≡ x.result.place + 1
    pub patchable : (g : Goal x.result.place) → (patched_to g).number ≡ 0
    -- whatever the goal, also one inside of the code
    pub runs : (g : Goal x.result.place) (s : Entry sense t root) → (n : ℕ) × UpTo g s n
    -- for a goal past the place after the code, so that the machine cannot come to it in any other way
    pub exactly : (g : Goal x.result.place) (s : Entry sense t root) → code_end < g.place → Exactly g s
    pub short : code_end ≤ size_at t root + 1
    pub defined : (M : Operators) (values : ℕ → M.Value) → value_at M t values root ≢ undefined

-- For every tree without calls and maps that `lower` accepts in mode 1 (2), whatever the buffers.
abbrev pub ConditionLaw : Type 1
ConditionLaw = (sense : Bool) (nodes list names : List ℕ) (root : ℕ) (code constants marks : List ℕ) →
    ((i : ℕ) → Reaches (tree_of nodes list names) root i → Plain (node (tree_of nodes list names) i)) →
    (lower nodes root (mode_of sense) list names code constants marks).result.number ≡ 0 →
    ConditionOf sense (tree_of nodes list names) root (lower nodes root (mode_of sense) list names code constants marks)
