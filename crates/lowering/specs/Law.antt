-- The running law, for the code that lowering leaves of an accepted tree in value mode: what is given, and each sentence as a statement about
-- `after`. Proved in proofs/.
use Rattle.std.specs.Prelude.{ℕ, ◌+◌, ◌<◌, ◌≤◌, ◌≡◌, ◌≢◌, ◌↔◌, List, length}
use Rattle.words.specs.Records.{record_at}
use Rattle.runtime.specs.Instruction.{instruction_width}
use Rattle.runtime.specs.Value.{constant_width}
use Rattle.lowering.specs.Tree.{Tree, tree_of, node}
use Rattle.lowering.specs.Questions.{max_parameters}
use Rattle.lowering.specs.Walk.{Made, ends}
use Rattle.lowering.specs.Steps.{free_temp}
use Rattle.lowering.specs.Result.{Lowered, begin, lower_root, lower, result, lowered}
use Rattle.lowering.specs.Meaning.{Operators, Hypotheses, Evaluation, evaluates, fails, undefined, value_at, OrderPremise, Reaches, Plain, size_at}
use Rattle.lowering.specs.Machine.{fetch, constant_at, returned, failed, lost, Registers, Now, at, ended, after}

-- A tree without calls and maps, of at most 256 parameters, that lowering accepts in value mode: from any words in the three buffers, and
-- from any pool that has `pooled` constants already.
pub record Accepted : Type 0 where
  pub tree : Tree
  pub root : ℕ
  pub plain : (i : ℕ) → Reaches tree root i → Plain (node tree i)
  pub few : length tree.names ≤ max_parameters
  pub code : List ℕ
  pub constants : List ℕ
  pub marks : List ℕ
  pub pooled : ℕ
  -- the answer, and what lowering leaves: the words of the buffers, and how many instructions and constants they hold
  pub answer : ℕ
  pub left : Made
  pub accepted : lower_root free_temp tree 0 root (begin code constants marks pooled (length tree.names)) ≡ ends answer left

abbrev pub arity : Accepted → ℕ
arity a = length a.tree.names

abbrev pub instructions : Accepted → ℕ
instructions a = a.left.state.counts.instructions

-- n records of w words of `part` are those of `whole` from record `base` on
abbrev pub StandsIn : ℕ → List ℕ → ℕ → List ℕ → ℕ → ℕ → Type 0
StandsIn w part n whole count base = (i : ℕ) → i < n → (base + i < count) × (record_at w whole (base + i) ≡ record_at w part i)

-- Where the code runs: any code that has the lowered code from place `base` on, any pool that has its constants, any operators that keep the hypotheses, any parameters, and any registers that start with them.
pub record Setting (a : Accepted) : Type 1 where
  pub code : List ℕ
  pub count : ℕ
  pub base : ℕ
  pub code_stands : StandsIn instruction_width a.left.code (instructions a) code count base
  pub pool : List ℕ
  pub pooled : ℕ
  pub pool_stands : StandsIn constant_width a.left.constants a.left.state.counts.constants pool pooled 0
  pub operators : Operators
  pub hypotheses : Hypotheses operators
  pub parameters : ℕ → operators.Value
  pub registers : Registers operators
  pub filled : (r : ℕ) → r < arity a → registers r ≡ parameters r
  pub order : OrderPremise operators a.tree parameters a.root

module _ (a : Accepted) (s : Setting a) where
  -- the run, after n steps
  abbrev pub ran : ℕ → Now s.operators
  ran n = after s.operators (constant_at s.operators s.pool s.pooled) (fetch s.code s.count) n (at s.base s.registers)

  -- the value of the tree, or its failure
  abbrev pub tree_value : Evaluation s.operators.Failure s.operators.Value
  tree_value = value_at s.operators a.tree s.parameters a.root

-- the machine has ended with the value of a tree, or with its failure
abbrev pub EndsWith : (M : Operators) → Evaluation M.Failure M.Value → Now M → Type 0
EndsWith M (evaluates v) now = now ≡ ended (returned v)
EndsWith M (fails x) now = now ≡ ended (failed x)
EndsWith M undefined now = ⊥

-- "running its code returns the tree's value exactly when the tree has one, and otherwise ends with the tree's failure": in at most as many
-- steps as there are instructions
abbrev pub EndsWithValue : Type 1
EndsWithValue = (a : Accepted) (s : Setting a) → (n : ℕ) × (n ≤ instructions a) × EndsWith s.operators (tree_value a s) (ran a s n)

-- "exactly when", read both ways, of values and of failures; and at no step has the run ended with neither
abbrev pub ValueExactly : Type 1
ValueExactly = (a : Accepted) (s : Setting a) →
    ((v : s.operators.Value) → (tree_value a s ≡ evaluates v) ↔ ((n : ℕ) × (ran a s n ≡ ended (returned v))))
    × ((x : s.operators.Failure) → (tree_value a s ≡ fails x) ↔ ((n : ℕ) × (ran a s n ≡ ended (failed x))))
    × ((n : ℕ) → ran a s n ≢ ended lost)

-- "no instruction runs twice": the places strictly increase
abbrev pub Once : Type 1
Once = (a : Accepted) (s : Setting a) (j k p q : ℕ) (P Q : Registers s.operators) → j < k → ran a s j ≡ at p P → ran a s k ≡ at q Q → p < q

-- "every parameter keeps its value at each step"
abbrev pub Parameters : Type 1
Parameters = (a : Accepted) (s : Setting a) (k p : ℕ) (P : Registers s.operators) → ran a s k ≡ at p P → (r : ℕ) → r < arity a → P r ≡ s.parameters r

-- "the code has at most as many instructions as the tree has nodes and ifs together, each counted at every use, plus one"
abbrev pub Length : Type 0
Length = (a : Accepted) → instructions a ≤ size_at a.tree a.root + 1

-- no accepted tree is undefined, whatever the operators
abbrev pub Defined : Type 1
Defined = (a : Accepted) (M : Operators) (parameters : ℕ → M.Value) → value_at M a.tree parameters a.root ≢ undefined

-- ---- the same of `lower`, of the words and counts that it leaves, run from place 0

-- any operators that keep the hypotheses, any parameters, and any registers that start with them
pub record Start (t : Tree) (root : ℕ) : Type 1 where
  pub operators : Operators
  pub hypotheses : Hypotheses operators
  pub parameters : ℕ → operators.Value
  pub registers : Registers operators
  pub filled : (r : ℕ) → r < length t.names → registers r ≡ parameters r
  pub order : OrderPremise operators t parameters root

module _ (t : Tree) (root : ℕ) (x : Lowered) where
  abbrev pub run_of : (s : Start t root) → ℕ → Now s.operators
  run_of s n =
      after s.operators (constant_at s.operators x.constants x.result.constants) (fetch x.code x.result.instructions) n
      (at 0 s.registers)

  abbrev pub root_value : (s : Start t root) → Evaluation s.operators.Failure s.operators.Value
  root_value s = value_at s.operators t s.parameters root

  -- the law, sentence by sentence, of what is left in the buffers
  pub record LawOf : Type 1 where
    pub runs : (s : Start t root) → (n : ℕ) × (n ≤ x.result.instructions) × EndsWith s.operators (root_value s) (run_of s n)
    pub returns : (s : Start t root) (v : s.operators.Value) → (root_value s ≡ evaluates v) ↔ ((n : ℕ) × (run_of s n ≡ ended (returned v)))
    pub fails_alike : (s : Start t root) (y : s.operators.Failure) → (root_value s ≡ fails y) ↔ ((n : ℕ) × (run_of s n ≡ ended (failed y)))
    pub never_lost : (s : Start t root) (n : ℕ) → run_of s n ≢ ended lost
    pub once : (s : Start t root) (j k p q : ℕ) (P Q : Registers s.operators) → j < k → run_of s j ≡ at p P → run_of s k ≡ at q Q → p < q
    pub parameters : (s : Start t root) (k p : ℕ) (P : Registers s.operators) → run_of s k ≡ at p P → (r : ℕ) → r < length t.names → P r ≡ s.parameters r
    pub short : x.result.instructions ≤ size_at t root + 1
    pub defined : (M : Operators) (values : ℕ → M.Value) → value_at M t values root ≢ undefined

-- For every tree without calls and maps that `lower` accepts in value mode, whatever the buffers.
abbrev pub RunningLaw : Type 1
RunningLaw = (nodes list names : List ℕ) (root : ℕ) (code constants marks : List ℕ) →
    ((i : ℕ) → Reaches (tree_of nodes list names) root i → Plain (node (tree_of nodes list names) i)) →
    (lower nodes root 0 list names code constants marks).result.number ≡ 0 →
    LawOf (tree_of nodes list names) root (lower nodes root 0 list names code constants marks)

module _ (a : Accepted) where
  -- what an accepted walk leaves, as `lower` shows it
  abbrev pub as_lowered : Lowered
  as_lowered = lowered (result 0 a.answer 0 0 (instructions a) a.left.state.counts.constants a.left.state.registers.frame_size (arity a)) a.left
